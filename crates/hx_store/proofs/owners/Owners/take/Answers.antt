use Rattle.std.proofs.Common.{List, ℕ, Some, refl, sym, ap, ◌∙◌}
use Rattle.std.specs.HashMap.{HashMap}
use Rattle.hx_ids.specs.declared.SessionId.{SessionId}
use Rattle.hx_store.proofs.Listed.{take-key, take-none, has_keys}
use Rattle.hx_store.proofs.owners.Owners.take.Goals as goal

pub returns-in_default : goal.returns-in_default
returns-in_default c =
    take-none c.args.session c.args.key c.self.inside.lists.entries _ c.args.self.now c.self.view_is
    (ap (λ (m : HashMap SessionId (List ℕ) _). m.entries) c.get_mut.follows.holds-at-none ∙ c.self.view_is) (sym c.in_default.ensures.value)

pub returns : goal.returns
returns c =
    let w = c.remove.new.self in
    let x = c.in-Some.keys.now in
    let es = c.self.inside.lists.entries in
    take-key c.args.session c.args.key x w es (c.get_mut.follows.lender w).entries c.args.self.now c.self.view_is (has_keys c.args.session (Some x) x es es refl c.in-Some.ensures.value refl)
    c.remove.ensures ((c.get_mut.follows.holds w).3 (rw (← c.in-Some.ensures.value) refl)).0
