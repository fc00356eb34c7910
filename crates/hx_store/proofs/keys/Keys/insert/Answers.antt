use Rattle.std.proofs.Common.{arith}
use Rattle.hx_store.proofs.Placing.{inserted, appended}
use Rattle.hx_store.proofs.keys.Keys.insert.Goals as goal

pub invariant_of-self-then-place-len : goal.invariant_of-self-then-place-len
invariant_of-self-then-place-len c =
    let ok = c.self.inside.keys.ok in
    (appended c.args.key c.in-Err.place c.self.inside.keys.items c.push_back.new.self.items c.args.self.now c.in-Err.ensures c.self.invariant c.self.view_is (omega (arith, c.if-place-len.true, c.len.ensures, ok.0))
    c.in_ok-push_back-in-Err.ensures.items).0

pub invariant_of-self-in-Continue-branch-2 : goal.invariant_of-self-in-Continue-branch-2
invariant_of-self-in-Continue-branch-2 c =
    (inserted c.args.key c.in-Err.place c.self.inside.keys.items c.insert.new.self.items c.args.self.now c.in-Err.ensures c.self.invariant c.self.view_is c.in_ok-insert-in-Err-2.ensures.items).0

pub returns-in_ok-insert-in-Err-2-clause-ok : goal.returns-in_ok-insert-in-Err-2-clause-ok
returns-in_ok-insert-in-Err-2-clause-ok c =
    (inserted c.args.key c.in-Err.place c.self.inside.keys.items c.insert.new.self.items c.args.self.now c.in-Err.ensures c.self.invariant c.self.view_is c.in_ok-insert-in-Err-2.ensures.items).1
