use Rattle.std.proofs.Common.{◌≡◌, ◌++◌, drop}
use Rattle.hx_parts.specs.Parts.{IsByPart}
use Rattle.hx_parts.specs.Marks.{spliced}
use Rattle.hx_parts.proofs.splicing.splice.Given as goal

-- what is out, with what is left spliced, is all spliced
abbrev pub invariant-loop-part : goal.invariant-loop-part
invariant-loop-part g l =
    record {
      all : l.out.items ++ spliced g.T.OfPart.part_of (drop l.part-index l.parts) l.old l.new ≡ spliced g.T.OfPart.part_of l.parts l.fn.old l.fn.new;
      old : IsByPart g.T.OfPart.part_of l.old;
      new : IsByPart g.T.OfPart.part_of l.new;
    }
