-- What is known of a view whose lists are made where it is well formed.
use Rattle.std.specs.Prelude.{◌≡◌, ℕ, false, List, Option, Some, None, MatchOption}
use Rattle.std.proofs.Common.{refl, subst}
use Rattle.hx_model.specs.declared.ModelParts.{ModelParts}
use Rattle.hx_cluster.specs.declared.planning.View.{View}
use Rattle.hx_cluster.specs.Views.{is_well_formed}
use Rattle.hx_pass.specs.Known.{IsKnown}
use Rattle.hx_pass.specs.declared.known.Lists.{Lists}

module _ (ms : List ModelParts) (n : ℕ) (w : View) (o : Option Lists) where
  -- none were made
  pub known_none : MatchOption o (is_well_formed ms n w ≡ false) (λ l. IsKnown ms n w l.accepted l.waiting.items l.posted.items)
      → ((l : Lists) → o ≡ Some l → ⊥) → is_well_formed ms n w ≡ false
  known_none told none = by_cases o told none
    where
      by_cases : (p : Option Lists) → MatchOption p (is_well_formed ms n w ≡ false) (λ l. IsKnown ms n w l.accepted l.waiting.items l.posted.items)
          → ((l : Lists) → p ≡ Some l → ⊥) → is_well_formed ms n w ≡ false
      by_cases None told none = told
      by_cases (Some l) told none = absurd (none l refl)

  -- some were made, and the models and the view are kept as others that are the same
  pub known_some : (l : Lists) → MatchOption o (is_well_formed ms n w ≡ false) (λ l. IsKnown ms n w l.accepted l.waiting.items l.posted.items)
      → o ≡ Some l → (more : List ModelParts) → ms ≡ more → (wide : View) → w ≡ wide → IsKnown more n wide l.accepted l.waiting.items l.posted.items
  known_some l told is more same wide wide_is =
      subst (λ (v : View). IsKnown more n v l.accepted l.waiting.items l.posted.items) wide_is
      (subst (λ (m : List ModelParts). IsKnown m n w l.accepted l.waiting.items l.posted.items) same
      (subst (λ (p : Option Lists). MatchOption p (is_well_formed ms n w ≡ false) (λ l. IsKnown ms n w l.accepted l.waiting.items l.posted.items)) is told))
