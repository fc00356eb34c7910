use Rattle.std.proofs.Common.{sym, ap, ◌∙◌}
use Rattle.std.specs.Option.{option_copied}
use Rattle.hx_sessions.proofs.Placing.{session_at-none}
use Rattle.hx_sessions.proofs.Keeping.{stands_in, stands_nowhere}
use Rattle.hx_sessions.proofs.Sessions.find.Goals as goal

pub returns-in_err-node-clause-found : goal.returns-in_err-node-clause-found
returns-in_err-node-clause-found c =
    let none = sym c.get.ensures.value ∙ ap option_copied c.in_err-node.was in
    rw (← c.self.view_is) (c.from_residual.ensures ∙ sym (session_at-none c.args.session _ (stands_nowhere _ _ _ _ c.self.invariant c.args.session none)))

pub get-requires-2 : goal.get-requires-2
get-requires-2 c =
    let stands = stands_in _ _ _ _ c.self.invariant c.args.session c.in_ok-node.node.now (sym c.get.ensures.value ∙ ap option_copied c.in_ok-node.was) in
    stands.1.held

pub returns-clause-found : goal.returns-clause-found
returns-clause-found c =
    let stands = stands_in _ _ _ _ c.self.invariant c.args.session c.in_ok-node.node.now (sym c.get.ensures.value ∙ ap option_copied c.in_ok-node.was) in
    rw (← c.self.view_is) (sym c.get-2.ensures ∙ stands.1.value ∙ sym stands.1.found)
