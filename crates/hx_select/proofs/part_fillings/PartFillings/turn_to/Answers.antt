use Rattle.std.proofs.Common.{◌≡◌, true, arith}
use Rattle.std.proofs.lemmas.Bool.Decides.{nat_tests}
use Rattle.hx_cluster.specs.Ends.{part_before}
use Rattle.hx_select.proofs.PartFilling.{turned}
use Rattle.hx_select.proofs.part_fillings.PartFillings.turn_to.Goals as goal

pub returns-then-ne-clause-kept : goal.returns-then-ne-clause-kept
returns-then-ne-clause-kept c = λ models view accepted are.
    let later : part_before c.args.self.now.part c.args.part ≡ true = grind (arith, nat_tests, c.requires, c.ne.ensures, c.if-ne.true) in
    rw c.clear.ensures.items (turned models view accepted c.args.self.now.part c.args.part c.args.self.now.fillings.items are later)
