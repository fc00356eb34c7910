use Rattle.std.proofs.Common.{List, ℕ, [], ap, ◌∙◌, ◌||◌}
use Rattle.std.specs.Prelude.{◌==◌}
use Rattle.std.specs.List.{list_any}
use Rattle.hx_ids.specs.declared.SessionId.{SessionId}
use Rattle.hx_store.specs.Owners.{has}
use Rattle.hx_store.proofs.Listed.{put-key}
use Rattle.hx_store.proofs.owners.Owners.put_first.Goals as goal

pub returns-clause-ok : goal.returns-clause-ok
returns-clause-ok c =
    let es = c.self.inside.lists.entries in
    put-key c.args.session c.args.key [] c.insert.new.self es c.insert-2.new.self.entries c.args.self.now c.self.view_is (λ k. ap (λ (xs : List (SessionId × List ℕ)). has xs c.args.session k) c.self.view_is ∙ c.requires k)
    (λ k. c.in_ok-insert.ensures.ok k ∙ ap (λ (ks : List ℕ). list_any (λ j. k == j) ks || (c.args.key == k)) c.new-keys.ensures) c.in_ok-insert-2.ensures.updates.0
