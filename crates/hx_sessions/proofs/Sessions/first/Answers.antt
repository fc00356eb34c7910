use Rattle.std.proofs.Common.{◌≡◌, ℕ, None, Some, [], get_or, sym, ap, ◌∙◌}
use Rattle.hx_links.specs.Pool.{first_node}
use Rattle.hx_sessions.specs.Sessions.{first_live}
use Rattle.hx_sessions.specs.Places.{entries_of, live_of, IsOnlyList}
use Rattle.hx_sessions.proofs.Keeping.{Lists}
use Rattle.hx_sessions.proofs.Passing.{first_none, first_value}
use Rattle.hx_sessions.proofs.Sessions.first.Goals as goal
use Rattle.hx_links.proofs.Walking.{first_held, value_of_one}

pub returns-in_err-self-clause-first : goal.returns-in_err-self-clause-first
returns-in_err-self-clause-first c =
    let was : c.self.inside.order ≡ None = c.in_err-self.was in
    let none : c.self.inside.pool.lists ≡ [] = rw was at c.self.invariant.one in
    rw (← c.self.view_is) (c.from_residual.ensures ∙ sym (ap (λ (ls : Lists). first_live (live_of (entries_of ls))) none))

pub returns-in_err-node-clause-first : goal.returns-in_err-node-clause-first
returns-in_err-node-clause-first c =
    let was : c.self.inside.order ≡ Some c.in_ok-self.field-0 = c.in_ok-self.was in
    let one : IsOnlyList (Some c.in_ok-self.field-0) c.self.inside.pool.lists = rw was at c.self.invariant.one in
    let front : first_node (entries_of c.self.inside.pool.lists) ≡ None = ap (λ (k : ℕ). first_node (get_or c.self.inside.pool.lists k [])) (sym one.0) ∙ sym c.front.ensures ∙ c.in_err-node.was in
    rw (← c.self.view_is) (c.from_residual-in_err-node.ensures ∙ sym (first_none (entries_of c.self.inside.pool.lists) front))

pub returns-clause-first : goal.returns-clause-first
returns-clause-first c =
    let was : c.self.inside.order ≡ Some c.in_ok-self.field-0 = c.in_ok-self.was in
    let one : IsOnlyList (Some c.in_ok-self.field-0) c.self.inside.pool.lists = rw was at c.self.invariant.one in
    let front : first_node (entries_of c.self.inside.pool.lists) ≡ Some c.in_ok-node.node = ap (λ (k : ℕ). first_node (get_or c.self.inside.pool.lists k [])) (sym one.0) ∙ sym c.front.ensures ∙ c.in_ok-node.was in
    let there = first_held (entries_of c.self.inside.pool.lists) c.in_ok-node.node front in
    let value = sym (value_of_one c.self.inside.pool.lists (entries_of c.self.inside.pool.lists) c.in_ok-node.node one.1 there) ∙ c.get.ensures in
    rw (← c.self.view_is) (sym (first_value (entries_of c.self.inside.pool.lists) c.in_ok-node.node c.get.result.now front value))
