use Rattle.std.proofs.Common.{sym, ◌∙◌}
use Rattle.hx_sessions.proofs.Living.{without-absent}
use Rattle.hx_sessions.proofs.Keeping.{stands_in, stands_nowhere, ended_kept, ended_live}
use Rattle.hx_sessions.proofs.Sessions.close.Goals as goal

pub returns-in_default-clause-refused : goal.returns-in_default-clause-refused
returns-in_default-clause-refused c =
    rw (← c.self.view_is) (sym (stands_nowhere _ _ _ _ c.self.invariant c.args.session (sym c.remove.ensures.value ∙ c.in_default.is)))

pub returns-in_default-clause-live : goal.returns-in_default-clause-live
returns-in_default-clause-live c =
    rw (← c.self.view_is) (sym (without-absent c.args.session _ (stands_nowhere _ _ _ _ c.self.invariant c.args.session (sym c.remove.ensures.value ∙ c.in_default.is))))

pub unlink-requires : goal.unlink-requires
unlink-requires c =
    let stands = stands_in _ _ _ _ c.self.invariant c.args.session c.in-Some.node (sym c.remove.ensures.value ∙ c.in-Some.is) in
    stands.1.held

pub invariant_of-self-2 : goal.invariant_of-self-2
invariant_of-self-2 c =
    let stands = stands_in _ _ _ _ c.self.invariant c.args.session c.in-Some.node (sym c.remove.ensures.value ∙ c.in-Some.is) in
    ended_kept _ _ _ _ c.self.invariant c.args.session c.in-Some.node stands.0 stands.1 c.unlink.new.self.lists c.remove.new.self.entries c.unlink.ensures.lists c.remove.ensures.updates.0

pub returns-clause-refused : goal.returns-clause-refused
returns-clause-refused c =
    let stands = stands_in _ _ _ _ c.self.invariant c.args.session c.in-Some.node (sym c.remove.ensures.value ∙ c.in-Some.is) in
    rw (← c.self.view_is) (sym stands.1.live)

pub returns-clause-live : goal.returns-clause-live
returns-clause-live c =
    let stands = stands_in _ _ _ _ c.self.invariant c.args.session c.in-Some.node (sym c.remove.ensures.value ∙ c.in-Some.is) in
    rw (← c.self.view_is) (ended_live _ _ _ _ c.self.invariant c.args.session c.in-Some.node stands.0 stands.1 c.unlink.new.self.lists c.unlink.ensures.lists)
