use Rattle.std.proofs.Common.{◌≡◌, ℕ, List, length, take, IfOk, sym, ap, ◌∙◌, subst, arith}
use Rattle.std.proofs.lemmas.Grind.{common_steps}
use Rattle.hx_model.specs.declared.ModelParts.{ModelParts}
use Rattle.hx_model.specs.Builtin.{AreStates}
use Rattle.hx_model.proofs.Named.{states_more, take_more}
use Rattle.hx_model.proofs.Interned.{one_more, three_named}
use Rattle.hx_model.proofs.builtin.add_one_leads.Goals as goal

pub returns-in_err-offline-clause-kept : goal.returns-in_err-offline-clause-kept
returns-in_err-offline-clause-kept c =
    ap (λ (v : List (List ℕ)). take (length c.args.names.now) v) c.in_err-offline.ensures.err
    ∙ take_more c.args.names.now c.state_of.new.names c.state_of-2.new.names c.args.follower.now c.in_ok-follower.ensures.names (one_more c.args.names.now c.state_of.new.names c.args.leader.now c.in_ok-leader.ensures.names)

pub returns-in_err-offline-clause-states : goal.returns-in_err-offline-clause-states
returns-in_err-offline-clause-states c =
    let P : List (List ℕ) → Type 0 = λ v. AreStates v in
    subst P (sym c.in_err-offline.ensures.err)
    (states_more c.state_of.new.names c.state_of-2.new.names c.args.follower.now c.in_ok-follower.ensures.names
    (states_more c.args.names.now c.state_of.new.names c.args.leader.now c.in_ok-leader.ensures.names c.requires.states))

pub of-requires-clause-sound : goal.of-requires-clause-sound
of-requires-clause-sound c = (three_named c.args.names.now c.state_of.new.names c.state_of-2.new.names c.state_of-3.new.names c.args.leader.now c.args.follower.now c.in_ok-leader.leader c.in_ok-follower.follower c.in_ok-offline.offline c.requires.states c.requires.new c.in_ok-leader.ensures.names c.in_ok-follower.ensures.names c.in_ok-offline.ensures.names c.in_ok-leader.ensures.state c.in_ok-follower.ensures.state c.in_ok-offline.ensures.state).sound

pub returns-clause-parts : goal.returns-clause-parts
returns-clause-parts c =
    let named = three_named c.args.names.now c.state_of.new.names c.state_of-2.new.names c.state_of-3.new.names c.args.leader.now c.args.follower.now c.in_ok-leader.leader c.in_ok-follower.follower c.in_ok-offline.offline c.requires.states c.requires.new c.in_ok-leader.ensures.names c.in_ok-follower.ensures.names c.in_ok-offline.ensures.names c.in_ok-leader.ensures.state c.in_ok-follower.ensures.state c.in_ok-offline.ensures.state in
    let P : ModelParts → Type 0 = λ v. IfOk c.of.result (λ m. m ≡ v) in
    subst P named.same c.of.ensures

pub returns-clause-kept : goal.returns-clause-kept
returns-clause-kept c = (three_named c.args.names.now c.state_of.new.names c.state_of-2.new.names c.state_of-3.new.names c.args.leader.now c.args.follower.now c.in_ok-leader.leader c.in_ok-follower.follower c.in_ok-offline.offline c.requires.states c.requires.new c.in_ok-leader.ensures.names c.in_ok-follower.ensures.names c.in_ok-offline.ensures.names c.in_ok-leader.ensures.state c.in_ok-follower.ensures.state c.in_ok-offline.ensures.state).kept

pub returns-clause-states : goal.returns-clause-states
returns-clause-states c = (three_named c.args.names.now c.state_of.new.names c.state_of-2.new.names c.state_of-3.new.names c.args.leader.now c.args.follower.now c.in_ok-leader.leader c.in_ok-follower.follower c.in_ok-offline.offline c.requires.states c.requires.new c.in_ok-leader.ensures.names c.in_ok-follower.ensures.names c.in_ok-offline.ensures.names c.in_ok-leader.ensures.state c.in_ok-follower.ensures.state c.in_ok-offline.ensures.state).states

pub returns-in_err-leader-clause-kept : goal.returns-in_err-leader-clause-kept
returns-in_err-leader-clause-kept c = grind (arith, common_steps)

pub returns-in_err-follower-clause-kept : goal.returns-in_err-follower-clause-kept
returns-in_err-follower-clause-kept c = grind (arith, common_steps)
