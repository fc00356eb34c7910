use Rattle.std.proofs.Common.{◌≡◌, ℕ, List, length, take, codes, IfOk, sym, ap, ◌∙◌, subst, arith}
use Rattle.std.proofs.lemmas.Grind.{common_steps}
use Rattle.hx_model.specs.declared.ModelParts.{ModelParts}
use Rattle.hx_model.specs.Builtin.{AreStates}
use Rattle.hx_model.proofs.Named.{states_more}
use Rattle.hx_model.proofs.Interned.{one_more, two_named}
use Rattle.hx_model.proofs.builtin.add_online_offline.Goals as goal

pub returns-in_err-offline-clause-kept : goal.returns-in_err-offline-clause-kept
returns-in_err-offline-clause-kept c = ap (λ (v : List (List ℕ)). take (length c.args.names.now) v) c.in_err-offline.ensures.err ∙ one_more c.args.names.now c.state_of.new.names (codes "ONLINE") c.in_ok-online.ensures.names

pub returns-in_err-offline-clause-states : goal.returns-in_err-offline-clause-states
returns-in_err-offline-clause-states c = let P : List (List ℕ) → Type 0 = λ v. AreStates v in subst P (sym c.in_err-offline.ensures.err) (states_more c.args.names.now c.state_of.new.names (codes "ONLINE") c.in_ok-online.ensures.names c.requires.states)

pub of-requires-clause-sound : goal.of-requires-clause-sound
of-requires-clause-sound c = (two_named c.args.names.now c.state_of.new.names c.state_of-2.new.names c.in_ok-online.online c.in_ok-offline.offline c.requires.states c.in_ok-online.ensures.names c.in_ok-offline.ensures.names c.in_ok-online.ensures.state c.in_ok-offline.ensures.state).sound

pub returns-clause-parts : goal.returns-clause-parts
returns-clause-parts c =
    let named = two_named c.args.names.now c.state_of.new.names c.state_of-2.new.names c.in_ok-online.online c.in_ok-offline.offline c.requires.states c.in_ok-online.ensures.names c.in_ok-offline.ensures.names c.in_ok-online.ensures.state c.in_ok-offline.ensures.state in
    let P : ModelParts → Type 0 = λ v. IfOk c.of.result (λ m. m ≡ v) in
    subst P named.same c.of.ensures

pub returns-clause-kept : goal.returns-clause-kept
returns-clause-kept c = (two_named c.args.names.now c.state_of.new.names c.state_of-2.new.names c.in_ok-online.online c.in_ok-offline.offline c.requires.states c.in_ok-online.ensures.names c.in_ok-offline.ensures.names c.in_ok-online.ensures.state c.in_ok-offline.ensures.state).kept

pub returns-clause-states : goal.returns-clause-states
returns-clause-states c = (two_named c.args.names.now c.state_of.new.names c.state_of-2.new.names c.in_ok-online.online c.in_ok-offline.offline c.requires.states c.in_ok-online.ensures.names c.in_ok-offline.ensures.names c.in_ok-online.ensures.state c.in_ok-offline.ensures.state).states

pub returns-in_err-online-clause-kept : goal.returns-in_err-online-clause-kept
returns-in_err-online-clause-kept c = grind (arith, common_steps)
