use Rattle.std.proofs.Common.{◌≡◌, sym, ◌∙◌}
use Rattle.hx_sessions.proofs.Living.{beaten-absent}
use Rattle.hx_sessions.proofs.Keeping.{stands_in, stands_nowhere, moved_held, beaten_kept, beaten_live}
use Rattle.hx_sessions.proofs.Sessions.beat.Goals as goal

pub returns-in_default-clause-refused : goal.returns-in_default-clause-refused
returns-in_default-clause-refused c =
    rw (← c.self.view_is) (sym (stands_nowhere _ _ _ _ c.self.invariant c.args.session (sym c.get.ensures.value ∙ sym c.copied.ensures ∙ c.in_default.is)))

pub returns-in_default-clause-live : goal.returns-in_default-clause-live
returns-in_default-clause-live c =
    rw (← c.self.view_is) (sym (beaten-absent c.args.session c.args.now _ (stands_nowhere _ _ _ _ c.self.invariant c.args.session (sym c.get.ensures.value ∙ sym c.copied.ensures ∙ c.in_default.is))))

pub get-live-requires : goal.get-live-requires
get-live-requires c =
    let stands = stands_in _ _ _ _ c.self.invariant c.args.session c.in-Some.node (sym c.get.ensures.value ∙ sym c.copied.ensures ∙ c.in-Some.is) in
    stands.1.held

pub replace-requires : goal.replace-requires
replace-requires c =
    let stands = stands_in _ _ _ _ c.self.invariant c.args.session c.in-Some.node (sym c.get.ensures.value ∙ sym c.copied.ensures ∙ c.in-Some.is) in
    moved_held _ _ _ _ c.self.invariant c.args.session c.in-Some.node stands.0 stands.1 c.move_back.new.self.lists c.move_back.ensures.lists

pub invariant_of-self : goal.invariant_of-self
invariant_of-self c =
    let stands = stands_in _ _ _ _ c.self.invariant c.args.session c.in-Some.node (sym c.get.ensures.value ∙ sym c.copied.ensures ∙ c.in-Some.is) in
    let value = c.get-live.ensures in
    let found = stands.1.value in
    let same : c.get-live.result.now ≡ stands.0 = cc in
    let beat = rw same at c.replace.ensures.lists in
    beaten_kept _ _ _ _ c.self.invariant c.args.session c.in-Some.node stands.0 stands.1 c.move_back.new.self.lists c.replace.new.self.lists c.args.now c.move_back.ensures.lists beat (rw (← c.self.view_is) at c.requires)

pub returns-clause-refused : goal.returns-clause-refused
returns-clause-refused c =
    let stands = stands_in _ _ _ _ c.self.invariant c.args.session c.in-Some.node (sym c.get.ensures.value ∙ sym c.copied.ensures ∙ c.in-Some.is) in
    rw (← c.self.view_is) (sym stands.1.live)

pub returns-clause-live : goal.returns-clause-live
returns-clause-live c =
    let stands = stands_in _ _ _ _ c.self.invariant c.args.session c.in-Some.node (sym c.get.ensures.value ∙ sym c.copied.ensures ∙ c.in-Some.is) in
    let value = c.get-live.ensures in
    let found = stands.1.value in
    let same : c.get-live.result.now ≡ stands.0 = cc in
    let beat = rw same at c.replace.ensures.lists in
    rw (← c.self.view_is) (beaten_live _ _ _ _ c.self.invariant c.args.session c.in-Some.node stands.0 stands.1 c.move_back.new.self.lists c.replace.new.self.lists c.args.now c.move_back.ensures.lists beat)
