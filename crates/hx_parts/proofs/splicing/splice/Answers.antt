use Rattle.std.proofs.Common.{rules, ◌≤◌, length, arith}
use Rattle.hx_parts.proofs.InPlace.{step, finish, done}
use Rattle.hx_parts.proofs.splicing.splice.Goals as goal

pub loop-part-preserved : goal.loop-part-preserved
loop-part-preserved g c = record {
  all =
      step g.T.OfPart.part_of c.args.parts.now c.loop-part.part-index _ (search rules) (search rules) c.loop-part.out.items c.loop-part.old.now c.loop-part.new.now
      c.extend_from_slice-in-loop-part.new.self.items c.pieces_at-there.result.before.now c.pieces_at-coming.result.at.now c.pieces_at-there.result.behind.now c.pieces_at-coming.result.behind.now
      _ c.loop-part.invariant.all c.pieces_at-there.ensures.before c.pieces_at-there.ensures.behind c.pieces_at-coming.ensures.at c.pieces_at-coming.ensures.behind (search rules);
  old = c.pieces_at-there.ensures.by_part;
  new = c.pieces_at-coming.ensures.by_part;
}

pub returns : goal.returns
returns g c =
    let all : length c.args.parts.now ≤ c.loop-part.part-index = omega (arith, c.loop-part-test.false) in
    done g.T.OfPart.part_of c.args.parts.now c.args.old.now c.args.new.now c.requires.old c.requires.new c.requires.rising c.extend_from_slice-2.new.self.items
    (finish g.T.OfPart.part_of c.args.parts.now c.loop-part.part-index all c.loop-part.out.items c.loop-part.old.now c.loop-part.new.now c.extend_from_slice-2.new.self.items _
    c.loop-part.invariant.all c.in_ok-extend_from_slice-3.ensures.items)
