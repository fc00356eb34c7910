use Rattle.std.proofs.Common.{◌≡◌, true, List, sym, subst, arith}
use Rattle.std.proofs.lemmas.Grind.{common_steps}
use Rattle.hx_cluster.specs.Steps.{has_controller}
use Rattle.hx_pass.specs.Turns.{Turn}
use Rattle.hx_check.specs.Standing.{Standing, turn_in}
use Rattle.hx_check.specs.Judging.{sent_on, AreTurns}
use Rattle.hx_check.proofs.Turning.{turn_modelled, turns_with}
use Rattle.hx_check.proofs.judge.Judge.send.Goals as goal

pub invariant_of-self : goal.invariant_of-self
invariant_of-self c =
    let a = c.self.inside in
    let k = c.args.c in
    let w : Standing = record { cluster = a.replayed; turns = a.turns.items; marks = a.marks.items } in
    let there : has_controller a.replayed k ≡ true = subst (λ (x : Standing). has_controller x.cluster k ≡ true) (sym c.self.view_is) c.requires.there in
    (c.self.invariant.0, subst (λ (ts : List Turn). AreTurns a.replayed ts) (sym c.go_on_turn.ensures) (turns_with a.replayed a.turns.items k.0 (sent_on (turn_in w k)) c.self.invariant.1 (turn_modelled a.replayed a.turns.items k c.self.invariant.1 there)))

pub draft-requires-clause-models : goal.draft-requires-clause-models
draft-requires-clause-models c = grind (arith, common_steps)
