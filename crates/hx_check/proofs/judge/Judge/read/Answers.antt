use Rattle.std.proofs.Common.{◌≡◌, ◌==◌, true, List, None, set, sym, ap, ◌∙◌, subst}
use Rattle.std.proofs.lemmas.Bool.{and_parts}
use Rattle.hx_cluster.specs.declared.state.Cluster.{Cluster}
use Rattle.hx_cluster.specs.Steps.{has_controller}
use Rattle.hx_pass.specs.Turns.{Turn, is_due}
use Rattle.hx_check.specs.Standing.{Standing, turn_in}
use Rattle.hx_check.specs.Answers.{where_so}
use Rattle.hx_cluster.specs.Reads.{pass_of}
use Rattle.hx_cluster.specs.Events.{is_pass}
use Rattle.hx_check.specs.Judging.{read_told, read_event, read_on, AreTurns, IsAnsweredAs}
use Rattle.hx_check.proofs.Judged.{read_made}
use Rattle.hx_check.proofs.Turning.{turn_below, turn_modelled, turns_with, modelled_read}
use Rattle.hx_check.proofs.judge.Judge.read.Goals as goal
use Rattle.hx_check.proofs.judge.Judge.read.Goals.{Else-not-is_pass}

-- the pass is the controller's, which is there
passes : (c : Else-not-is_pass) → (is_pass c.self.inside.replayed c.args.c c.args.pass ≡ true) × (has_controller c.self.inside.replayed c.args.c ≡ true)
passes c =
    let x = c.self.inside.replayed in
    let so = subst (λ (x : Standing). is_pass x.cluster c.args.c c.args.pass ≡ true) (sym c.self.view_is) (sym c.is_pass.ensures ∙ c.if-not-is_pass.false) in
    (so, (and_parts (has_controller x c.args.c) ((pass_of x c.args.c).0 == c.args.pass.0) so).0)

pub invariant_of-self-2 : goal.invariant_of-self-2
invariant_of-self-2 c =
    let a = c.self.inside in
    let k = c.args.c in
    let w : Standing = record { cluster = a.replayed; turns = a.turns.items; marks = a.marks.items } in
    let there = (passes (goal.at.invariant_of-self-2 c).Else-not-is_pass).1 in
    let made = c.in_ok-read_turn.ensures.ok ∙ ap (λ (x : Cluster). set a.turns.items k.0 (read_on x (turn_in w k) c.args.read)) c.records-records.ensures.same in
    let t = read_on a.replayed (turn_in w k) c.args.read in
    let models = modelled_read a.replayed (turn_in w k) c.args.read c.records-records.ensures.reached (turn_modelled a.replayed a.turns.items k c.self.invariant.1 there) in
    (c.self.invariant.0, subst (λ (ts : List Turn). AreTurns a.replayed ts) (sym made) (turns_with a.replayed a.turns.items k.0 t c.self.invariant.1 models))

pub returns : goal.returns
returns c =
    let a = c.self.inside in
    let k = c.args.c in
    let w : Standing = record { cluster = a.replayed; turns = a.turns.items; marks = a.marks.items } in
    let so = passes (goal.at.returns c).Else-not-is_pass in
    let made = c.in_ok-read_turn.ensures.ok ∙ ap (λ (x : Cluster). set a.turns.items k.0 (read_on x (turn_in w k) c.args.read)) c.records-records.ensures.same in
    let pass = c.args.pass in
    let read = c.args.read in
    let v : Standing = record { cluster = a.replayed; turns = c.read_turn.new.turns.items; marks = a.marks.items } in
    let due_now : is_due (turn_in c.args.self.now k) (read_told read) pass ≡ true = ap (λ (t : Turn). is_due t (read_told read) pass) (sym c.turn_of.ensures) ∙ sym c.is_due.ensures ∙ c.if-not-is_due.false in
    let due : is_due (turn_in w k) (read_told read) pass ≡ true = subst (λ (x : Standing). is_due (turn_in x k) (read_told read) pass ≡ true) (sym c.self.view_is) due_now in
    subst (λ (x : Standing). IsAnsweredAs x (where_so (is_pass x.cluster k pass) (read_event k pass read)) None v) c.self.view_is
    (read_made w v k pass read so.0 due (turn_below a.replayed a.turns.items k c.self.invariant.1 so.1) (ap (λ (ts : List Turn). record w { turns = ts }) made))
