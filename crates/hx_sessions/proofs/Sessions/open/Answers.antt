use Rattle.std.proofs.Common.{◌≤◌, ◌^◌, Some, refl, sym, ap, ◌∙◌, arith}
use Rattle.std.proofs.lemmas.Grind.{common_steps}
use Rattle.hx_sessions.specs.Places.{entries_of, IsOnlyList}
use Rattle.hx_sessions.proofs.Keeping.{where_ok, where_err, same_gets, opened_kept, unopened_kept}
use Rattle.hx_sessions.proofs.Sessions.open.Goals as goal

pub invariant_of-self-then-is_err : goal.invariant_of-self-then-is_err
invariant_of-self-then-is_err c =
    let one : IsOnlyList (Some c.in_ok-order.order) c.reserve.new.self.lists = rw c.in_ok-reserve.ensures.lists (rw c.in_ok-order.ensures.list at c.in_ok-order.ensures.one) in
    let entries = ap entries_of c.in_ok-reserve.ensures.lists ∙ c.in_ok-order.ensures.entries in
    let unchanged = where_err c.insert.result _ (sym c.is_err.ensures.value ∙ c.if-is_err.true) c.insert.ensures.err in
    rw c.in_ok-order.ensures.list
    ((unopened_kept _ _ _ _ c.self.invariant c.in_ok-order.order c.reserve.new.self.lists c.push_reserved-node.result c.args.instance c.args.now one entries c.push_reserved-node.ensures.fresh
    c.push_reserved-node.new.self.lists c.unlink.new.self.lists c.insert.new.self.entries c.push_reserved-node.ensures.lists c.unlink.ensures.lists (same_gets c.self.inside.nodes.entries c.insert.new.self.entries unchanged)).0)

pub returns-then-is_err-clause-err : goal.returns-then-is_err-clause-err
returns-then-is_err-clause-err c =
    let one : IsOnlyList (Some c.in_ok-order.order) c.reserve.new.self.lists = rw c.in_ok-reserve.ensures.lists (rw c.in_ok-order.ensures.list at c.in_ok-order.ensures.one) in
    let entries = ap entries_of c.in_ok-reserve.ensures.lists ∙ c.in_ok-order.ensures.entries in
    let unchanged = where_err c.insert.result _ (sym c.is_err.ensures.value ∙ c.if-is_err.true) c.insert.ensures.err in
    let back = (unopened_kept _ _ _ _ c.self.invariant c.in_ok-order.order c.reserve.new.self.lists c.push_reserved-node.result c.args.instance c.args.now one entries c.push_reserved-node.ensures.fresh
    c.push_reserved-node.new.self.lists c.unlink.new.self.lists c.insert.new.self.entries c.push_reserved-node.ensures.lists c.unlink.ensures.lists (same_gets c.self.inside.nodes.entries c.insert.new.self.entries unchanged)).1 in
    rw (← c.self.view_is, back) refl

pub invariant_of-self-2 : goal.invariant_of-self-2
invariant_of-self-2 c =
    let one : IsOnlyList (Some c.in_ok-order.order) c.reserve.new.self.lists = rw c.in_ok-reserve.ensures.lists (rw c.in_ok-order.ensures.list at c.in_ok-order.ensures.one) in
    let entries = ap entries_of c.in_ok-reserve.ensures.lists ∙ c.in_ok-order.ensures.entries in
    let updates = where_ok c.insert.result _ (sym c.is_err.ensures.value ∙ c.if-is_err.false) c.insert.ensures.updates in
    let room : c.self.inside.next ≤ 2 ^ 63 = rw (← c.self.view_is) at c.requires.opened in
    rw c.in_ok-order.ensures.list
    (opened_kept _ _ _ _ c.self.invariant c.in_ok-order.order c.reserve.new.self.lists c.push_reserved-node.result c.args.instance c.args.now one entries c.push_reserved-node.ensures.fresh
    c.push_reserved-node.new.self.lists c.insert.new.self.entries c.push_reserved-node.ensures.lists updates.0 (rw (← c.self.view_is) at c.requires.clock) (omega arith))

pub returns-clause-ok : goal.returns-clause-ok
returns-clause-ok c = grind (arith, common_steps)
