use Rattle.std.proofs.Common.{◌≡◌, [], ◌∷◌, true, None, Some, sym, ap, ◌∙◌, subst}
use Rattle.std.specs.Option.{option_copied}
use Rattle.hx_links.specs.Pool.{next_in, holds}
use Rattle.hx_sessions.specs.Places.{entries_of}
use Rattle.hx_sessions.proofs.Keeping.{Lists, stands_in, stands_nowhere, one_held}
use Rattle.hx_sessions.proofs.Placing.{node_of-in}
use Rattle.hx_sessions.proofs.Passing.{after_absent, after_none, after_value, next_held}
use Rattle.hx_sessions.proofs.Sessions.after.Goals as goal
use Rattle.hx_links.proofs.Walking.{next_of_one, value_of_one}

pub returns-in_err-node : goal.returns-in_err-node
returns-in_err-node c =
    let none = sym c.get.ensures.value ∙ ap option_copied c.in_err-node.was in
    rw (← c.self.view_is) (c.from_residual.ensures ∙ sym (after_absent c.args.session _ (stands_nowhere _ _ _ _ c.self.invariant c.args.session none)))

pub next-requires : goal.next-requires
next-requires c =
    let stands = stands_in _ _ _ _ c.self.invariant c.args.session c.in_ok-node.node.now (sym c.get.ensures.value ∙ ap option_copied c.in_ok-node.was) in
    stands.1.held

pub returns-in_err-next : goal.returns-in_err-next
returns-in_err-next c =
    let stands = stands_in _ _ _ _ c.self.invariant c.args.session c.in_ok-node.node.now (sym c.get.ensures.value ∙ ap option_copied c.in_ok-node.was) in
    let there = node_of-in c.args.session.0 c.in_ok-node.node.now (entries_of c.self.inside.pool.lists) stands.1.node in
    let none : next_in c.in_ok-node.node.now (entries_of c.self.inside.pool.lists) ≡ None = sym (next_of_one c.self.inside.pool.lists (entries_of c.self.inside.pool.lists) c.in_ok-node.node.now stands.1.only there) ∙ sym c.next.ensures ∙ c.in_err-next.was in
    rw (← c.self.view_is) (c.from_residual-in_err-next.ensures ∙ sym (after_none c.args.session c.in_ok-node.node.now (entries_of c.self.inside.pool.lists) c.self.invariant.once stands.1.node none))

pub get-requires-2 : goal.get-requires-2
get-requires-2 c =
    let stands = stands_in _ _ _ _ c.self.invariant c.args.session c.in_ok-node.node.now (sym c.get.ensures.value ∙ ap option_copied c.in_ok-node.was) in
    let there = node_of-in c.args.session.0 c.in_ok-node.node.now (entries_of c.self.inside.pool.lists) stands.1.node in
    let next : next_in c.in_ok-node.node.now (entries_of c.self.inside.pool.lists) ≡ Some c.in_ok-next.next = sym (next_of_one c.self.inside.pool.lists (entries_of c.self.inside.pool.lists) c.in_ok-node.node.now stands.1.only there) ∙ sym c.next.ensures ∙ c.in_ok-next.was in
    let held : holds (entries_of c.self.inside.pool.lists ∷ []) c.in_ok-next.next ≡ true = one_held c.in_ok-next.next (entries_of c.self.inside.pool.lists) (next_held (entries_of c.self.inside.pool.lists) c.in_ok-node.node.now c.in_ok-next.next next) in
    subst (λ (ls : Lists). holds ls c.in_ok-next.next ≡ true) (sym stands.1.only) held

pub returns : goal.returns
returns c =
    let stands = stands_in _ _ _ _ c.self.invariant c.args.session c.in_ok-node.node.now (sym c.get.ensures.value ∙ ap option_copied c.in_ok-node.was) in
    let there = node_of-in c.args.session.0 c.in_ok-node.node.now (entries_of c.self.inside.pool.lists) stands.1.node in
    let next : next_in c.in_ok-node.node.now (entries_of c.self.inside.pool.lists) ≡ Some c.in_ok-next.next = sym (next_of_one c.self.inside.pool.lists (entries_of c.self.inside.pool.lists) c.in_ok-node.node.now stands.1.only there) ∙ sym c.next.ensures ∙ c.in_ok-next.was in
    let value = sym (value_of_one c.self.inside.pool.lists (entries_of c.self.inside.pool.lists) c.in_ok-next.next stands.1.only (next_held (entries_of c.self.inside.pool.lists) c.in_ok-node.node.now c.in_ok-next.next next)) ∙ c.get-2.ensures in
    rw (← c.self.view_is) (sym (after_value c.args.session c.in_ok-node.node.now c.in_ok-next.next c.get-2.result.now (entries_of c.self.inside.pool.lists) c.self.invariant.once stands.1.node next value))
