use Rattle.std.proofs.Common.{List, ℕ, Some, refl, sym, ap}
use Rattle.std.specs.Prelude.{◌==◌}
use Rattle.std.specs.HashMap.{HashMap}
use Rattle.hx_ids.specs.declared.SessionId.{SessionId}
use Rattle.hx_store.proofs.Listed.{put-key, has_keys, has_none, same_lists, on_err}
use Rattle.hx_store.proofs.owners.Owners.put.Goals as goal

pub returns-in_err-insert-in-Some-clause-err : goal.returns-in_err-insert-in-Some-clause-err
returns-in_err-insert-in-Some-clause-err c =
    let w = c.insert.new.self in
    on_err _ _ (same_lists (λ u. c.args.session.0 == u.0) w c.in-Some.keys.now c.self.inside.lists.entries (c.get_mut.follows.lender w).entries c.args.self.now c.self.view_is
    (c.get_mut.follows.holds w).0 (sym c.in-Some.ensures.value) c.in_err-insert-in-Some.ensures.err)

pub put_first-requires : goal.put_first-requires
put_first-requires c =
    has_none c.args.session c.self.inside.lists.entries c.get_mut.follows.lender-at-none.entries (sym (ap (λ (m : HashMap SessionId (List ℕ) _). m.entries) c.get_mut.follows.holds-at-none)) c.in-None.ensures.value

pub returns-in_ok-insert-in-Some-clause-ok : goal.returns-in_ok-insert-in-Some-clause-ok
returns-in_ok-insert-in-Some-clause-ok c =
    let w = c.insert.new.self in
    let x = c.in-Some.keys.now in
    let es = c.self.inside.lists.entries in
    put-key c.args.session c.args.key x w es (c.get_mut.follows.lender w).entries c.args.self.now c.self.view_is (has_keys c.args.session (Some x) x es es refl c.in-Some.ensures.value refl)
    c.in_ok-insert-in-Some.ensures.ok ((c.get_mut.follows.holds w).3 (rw (← c.in-Some.ensures.value) refl)).0
