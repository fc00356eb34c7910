use Rattle.std.proofs.Common.{◌≡◌, ◌++◌, drop}
use Rattle.std.specs.Prelude.{map}
use Rattle.hx_pass.specs.Turns.{seen_of}
use Rattle.hx_pass.proofs.Among.{at_parts}
use Rattle.hx_pass.proofs.narrow.posted_among.Given as goal

-- with the rows of the parts that are left they are all
abbrev pub invariant-loop-part : goal.invariant-loop-part
invariant-loop-part l =
    l.rows.items ++ at_parts (λ s. s.part) (map (seen_of l.index) l.index.rows) (drop l.part-index l.parts) ≡ at_parts (λ s. s.part) (map (seen_of l.index) l.index.rows) l.parts
