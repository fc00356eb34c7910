use Rattle.std.proofs.Common.{ℕ, List, Some, refl, sym, ap, ◌∙◌}
use Rattle.std.specs.Prelude.{◌==◌}
use Rattle.std.specs.List.{list_any}
use Rattle.hx_store.proofs.Listed.{has_keys, has_none, without_list}
use Rattle.hx_store.proofs.owners.Owners.forget_all.Goals as goal

pub returns-in_default-clause-keys : goal.returns-in_default-clause-keys
returns-in_default-clause-keys c = λ k.
    ap (λ (ks : List ℕ). list_any (λ j. k == j) ks) c.new.ensures ∙ sym (has_none c.args.owner c.self.inside.lists.entries c.args.self.now c.self.view_is c.in_default.ensures.value k)

pub returns-in_default-clause-rest : goal.returns-in_default-clause-rest
returns-in_default-clause-rest c = without_list c.args.owner c.self.inside.lists.entries c.remove.new.self.entries c.args.self.now c.self.view_is c.remove.ensures.updates.0

pub returns-clause-keys : goal.returns-clause-keys
returns-clause-keys c = λ k. sym (has_keys c.args.owner (Some c.in-Some.keys) c.in-Some.keys c.self.inside.lists.entries c.args.self.now c.self.view_is c.in-Some.ensures.value refl k)

pub returns-clause-rest : goal.returns-clause-rest
returns-clause-rest c = without_list c.args.owner c.self.inside.lists.entries c.remove.new.self.entries c.args.self.now c.self.view_is c.remove.ensures.updates.0
