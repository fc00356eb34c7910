-- What is known of a view again, by what was known of an earlier one.
use Rattle.std.proofs.Common.{◌≡◌, ◌∙◌, ℕ, Bool, true, false, List, refl, sym, ap, subst}
use Rattle.std.specs.Prelude.{if◌then◌else◌}
use Rattle.std.specs.List.{list_any}
use Rattle.hx_ids.specs.declared.PartId.{PartId}
use Rattle.hx_cluster.specs.Ends.{part_eq}
use Rattle.hx_model.specs.declared.ModelParts.{ModelParts}
use Rattle.hx_cluster.specs.declared.planning.View.{View}
use Rattle.hx_cluster.specs.declared.planning.Candidate.{Candidate}
use Rattle.hx_cluster.specs.declared.happenings.Seen.{Seen}
use Rattle.hx_cluster.specs.Views.{is_well_formed}
use Rattle.hx_pass.specs.Turns.{posted_of}
use Rattle.hx_parts.specs.Parts.{items_at}
use Rattle.hx_parts.specs.Marks.{IsSpliced}
use Rattle.hx_pass.specs.Plans.{all_candidates}
use Rattle.hx_pass.specs.Waiting.{HasWaiting}
use Rattle.hx_pass.specs.Local.{DifferWithin, narrowed, accepted_in, candidates_within, accepted_within}
use Rattle.hx_pass.proofs.FoundAgain.{accepted_again, waiting_again}
use Rattle.hx_pass.proofs.PostedAgain.{posted_again}
use Rattle.hx_pass.proofs.FormedAgain.{formed_again}
use Rattle.hx_pass.specs.Known.{Knowing, IsKnown}

-- a list is spliced by a test that tells which parts are listed
pub spliced_as : {X : Type 0} (part_of : X → PartId) (parts : List PartId) (marked : PartId → Bool) → ((p : PartId) → list_any (part_eq p) parts ≡ marked p)
    → (old old_one new new_one out : List X) → old ≡ old_one → new ≡ new_one → IsSpliced part_of (λ p. list_any (part_eq p) parts) old new out → IsSpliced part_of marked old_one new_one out
spliced_as {X} part_of parts marked same old old_one new new_one out old_is new_is is =
    subst (λ (xs : List X). IsSpliced part_of marked xs new_one out) old_is
    (subst (λ (xs : List X). IsSpliced part_of marked old xs out) new_is
    (record {
      by_part = is.by_part;
      at = λ p. is.at p ∙ ap (λ (b : Bool). if b then items_at part_of p new else items_at part_of p old) (same p);
    }))

-- the same where another new list has the same of the listed parts
pub spliced_with : {X : Type 0} (part_of : X → PartId) (parts : List PartId) (marked : PartId → Bool) → ((p : PartId) → list_any (part_eq p) parts ≡ marked p)
    → (old old_one new new_one out : List X) → old ≡ old_one → ((p : PartId) → list_any (part_eq p) parts ≡ true → items_at part_of p new ≡ items_at part_of p new_one)
    → IsSpliced part_of (λ p. list_any (part_eq p) parts) old new out → IsSpliced part_of marked old_one new_one out
spliced_with {X} part_of parts marked same old old_one new new_one out old_is agree is = record {
  by_part = is.by_part;
  at = λ p. is.at p ∙ either p (list_any (part_eq p) parts) refl ∙ ap (λ (b : Bool). if b then items_at part_of p new_one else items_at part_of p old_one) (same p);
}
  where
    either : (p : PartId) (b : Bool) → list_any (part_eq p) parts ≡ b
        → (if b then items_at part_of p new else items_at part_of p old) ≡ (if b then items_at part_of p new_one else items_at part_of p old_one)
    either p true e = agree p e
    either p false e = ap (items_at part_of p) old_is

-- what is known of a view, and another one that differs from it in the marked parts alone
module _ (k : Knowing) (accepted waiting : List Candidate) (posted : List Seen) (known : IsKnown k.models k.instances k.view accepted waiting posted) (marked : PartId → Bool) (w : View) (differ : DifferWithin marked k.view w) where
  -- by a view narrowed to the marked parts
  module _ (ms : List ModelParts) (n : ℕ) (narrow : View) (models : ms ≡ k.models) (instances : n ≡ k.instances) (narrows : narrow ≡ narrowed marked w) where
    -- it is told whether the other one is well formed
    pub formed_by : (b : Bool) → b ≡ is_well_formed ms n narrow → is_well_formed k.models k.instances w ≡ b
    formed_by b is =
        formed_again k.models marked k.view w differ k.instances known.formed
        ∙ sym (is ∙ ap (λ (m : List ModelParts). is_well_formed m n narrow) models ∙ ap (λ (i : ℕ). is_well_formed k.models i narrow) instances ∙ ap (is_well_formed k.models k.instances) narrows)

    -- and what is accepted, waits and is posted of it
    pub known_by : is_well_formed ms n narrow ≡ true → (more new left : List Candidate) (rows : List Seen) (wide : View) → wide ≡ w
        → IsSpliced (λ c. c.part) marked accepted (accepted_within ms marked narrow) more → HasWaiting (candidates_within ms marked narrow) (accepted_within ms marked narrow) new
        → IsSpliced (λ c. c.part) marked waiting new left → IsSpliced (λ s. s.part) marked posted (posted_of narrow) rows → IsKnown ms n wide more left rows
    known_by formed more new left rows wide is accepts wait waits posts =
        let old : IsSpliced (λ c. c.part) marked (accepted_in k.models k.view) (accepted_within k.models marked (narrowed marked w)) more =
        subst (λ (v : View). IsSpliced (λ c. c.part) marked (accepted_in k.models k.view) (accepted_within k.models marked v) more) narrows
        (subst (λ (m : List ModelParts). IsSpliced (λ c. c.part) marked (accepted_in k.models k.view) (accepted_within m marked narrow) more) models
        (subst (λ (xs : List Candidate). IsSpliced (λ c. c.part) marked xs (accepted_within ms marked narrow) more) known.accepted_are accepts)) in
        let among : HasWaiting (candidates_within k.models marked (narrowed marked w)) (accepted_within k.models marked (narrowed marked w)) new =
        subst (λ (v : View). HasWaiting (candidates_within k.models marked v) (accepted_within k.models marked v) new) narrows
        (subst (λ (m : List ModelParts). HasWaiting (candidates_within m marked narrow) (accepted_within m marked narrow) new) models wait) in
        let before : HasWaiting (all_candidates k.models k.view) (accepted_in k.models k.view) waiting =
        subst (λ (xs : List Candidate). HasWaiting (all_candidates k.models k.view) xs waiting) known.accepted_are known.waiting_are in
        let taken : more ≡ accepted_in k.models w = accepted_again k.models marked k.view w differ more old in
        let seen : IsSpliced (λ s. s.part) marked (posted_of k.view) (posted_of (narrowed marked w)) rows =
        subst (λ (v : View). IsSpliced (λ s. s.part) marked (posted_of k.view) (posted_of v) rows) narrows
        (subst (λ (xs : List Seen). IsSpliced (λ s. s.part) marked xs (posted_of narrow) rows) known.posted_are posts) in
        let good : is_well_formed k.models k.instances w ≡ true = formed_by true (sym formed) in
        subst (λ (v : View). IsKnown ms n v more left rows) (sym is)
        (subst (λ (i : ℕ). IsKnown ms i w more left rows) (sym instances)
        (subst (λ (m : List ModelParts). IsKnown m k.instances w more left rows) (sym models)
        (record {
          formed = good;
          accepted_are = taken;
          waiting_are =
              subst (λ (xs : List Candidate). HasWaiting (all_candidates k.models w) xs left) (sym taken) (waiting_again k.models marked k.view w differ waiting new left before among waits);
          posted_are = posted_again marked k.view w differ rows seen;
        })))
