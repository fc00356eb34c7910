-- Accepted candidates are those of an earlier view, but for the parts that changed.
use Rattle.std.proofs.Common.{◌≡◌, ◌∙◌, Bool, true, false, List, [], refl, sym, ap}
use Rattle.std.specs.Prelude.{if◌then◌else◌}
use Rattle.hx_ids.specs.declared.PartId.{PartId}
use Rattle.hx_model.specs.declared.ModelParts.{ModelParts}
use Rattle.hx_cluster.specs.declared.planning.View.{View}
use Rattle.hx_cluster.specs.declared.planning.Target.{Target}
use Rattle.hx_cluster.specs.declared.planning.Candidate.{Candidate}
use Rattle.hx_parts.specs.Parts.{items_at}
use Rattle.hx_best.specs.Targets.{all_targets}
use Rattle.hx_gen.specs.Candidates.{candidates}
use Rattle.hx_select.specs.Selection.{accepted_of}
use Rattle.hx_parts.specs.Marks.{IsSpliced}
use Rattle.hx_pass.specs.Plans.{all_candidates}
use Rattle.hx_pass.specs.Waiting.{HasWaiting}
use Rattle.hx_pass.specs.Local.{IsAlike, ShowSame, DifferWithin, narrowed, marked_targets, accepted_in, candidates_within, accepted_within}
use Rattle.hx_pass.proofs.Marked.{marked_kept, others_out}
use Rattle.hx_pass.proofs.OneByPart.{one_by_part}
use Rattle.hx_pass.proofs.Alone.{alone, alone_same}
use Rattle.hx_pass.proofs.Accepted.{candidates_of_part, candidates_alone, accepted_of_part, accepted_alone, accepted_by_part}

-- a narrowed view shows the same of the marked parts
pub narrowed_alike : (marked : PartId → Bool) (v : View) → IsAlike (narrowed marked v) v
narrowed_alike marked v = record { live = refl; ideals = refl }

pub narrowed_shows : (marked : PartId → Bool) (v : View) (p : PartId) → marked p ≡ true → ShowSame (narrowed marked v) v p
narrowed_shows marked v p m = record { rows = marked_kept (λ r. r.part) marked p m v.rows; mail = marked_kept (λ m. m.part) marked p m v.mail }

module _ (models : List ModelParts) where
  -- views that are alike and show the same of a part have the same accepted candidates of it
  pub same_accepted : (v w : View) (p : PartId) → IsAlike v w → ShowSame v w p → items_at (λ c. c.part) p (accepted_in models v) ≡ items_at (λ c. c.part) p (accepted_in models w)
  same_accepted v w p alike same =
      accepted_alone models v p
      ∙ ap (λ (u : View). accepted_of models u (candidates models u (items_at (λ t. t.part) p (all_targets models u)))) (alone_same p v w alike same)
      ∙ sym (accepted_alone models w p)

  -- and the same candidates
  pub same_candidates : (v w : View) (p : PartId) → IsAlike v w → ShowSame v w p → items_at (λ c. c.part) p (all_candidates models v) ≡ items_at (λ c. c.part) p (all_candidates models w)
  same_candidates v w p alike same =
      candidates_alone models v p
      ∙ ap (λ (u : View). candidates models u (items_at (λ t. t.part) p (all_targets models u))) (alone_same p v w alike same)
      ∙ sym (candidates_alone models w p)

  -- those among the targets of the marked parts are all those of a marked part, and none of another
  pub within_marked : (marked : PartId → Bool) (v : View) (p : PartId) → marked p ≡ true
      → items_at (λ c. c.part) p (accepted_within models marked v) ≡ items_at (λ c. c.part) p (accepted_in models v)
  within_marked marked v p m =
      accepted_of_part models v p (marked_targets models marked v)
      ∙ ap (λ (ts : List Target). accepted_of models (alone p v) (candidates models (alone p v) ts)) (marked_kept (λ t. t.part) marked p m (all_targets models v))
      ∙ sym (accepted_of_part models v p (all_targets models v))

  pub candidates_marked : (marked : PartId → Bool) (v : View) (p : PartId) → marked p ≡ true
      → items_at (λ c. c.part) p (candidates_within models marked v) ≡ items_at (λ c. c.part) p (all_candidates models v)
  candidates_marked marked v p m =
      candidates_of_part models v p (marked_targets models marked v)
      ∙ ap (candidates models (alone p v)) (marked_kept (λ t. t.part) marked p m (all_targets models v))
      ∙ sym (candidates_of_part models v p (all_targets models v))

  pub within_others : (marked : PartId → Bool) (v : View) (p : PartId) → marked p ≡ false → items_at (λ c. c.part) p (accepted_within models marked v) ≡ []
  within_others marked v p m =
      accepted_of_part models v p (marked_targets models marked v)
      ∙ ap (λ (ts : List Target). accepted_of models (alone p v) (candidates models (alone p v) ts)) (others_out (λ t. t.part) marked p m (all_targets models v))

  -- so a list with the old ones of the parts that stayed and the new ones of the others is all
  pub accepted_again : (marked : PartId → Bool) (v w : View) → DifferWithin marked v w → (out : List Candidate)
      → IsSpliced (λ c. c.part) marked (accepted_in models v) (accepted_within models marked (narrowed marked w)) out → out ≡ accepted_in models w
  accepted_again marked v w differ out spliced = one_by_part (λ c. c.part) (accepted_in models w) out (accepted_by_part models w (all_targets models w)) spliced.by_part (λ p. spliced.at p ∙ one p (marked p) refl)
    where
      new : List Candidate
      new = accepted_within models marked (narrowed marked w)

      one : (p : PartId) (b : Bool) → marked p ≡ b
          → (if b then items_at (λ c. c.part) p new else items_at (λ c. c.part) p (accepted_in models v)) ≡ items_at (λ c. c.part) p (accepted_in models w)
      one p true m = within_marked marked (narrowed marked w) p m ∙ same_accepted (narrowed marked w) w p (narrowed_alike marked w) (narrowed_shows marked w p m)
      one p false m = same_accepted v w p differ.alike (differ.same p m)

  -- and a list with the old ones of the parts that stayed that may be left, and the new ones of the others, tells where one may be
  pub waiting_again : (marked : PartId → Bool) (v w : View) → DifferWithin marked v w → (old new out : List Candidate) → HasWaiting (all_candidates models v) (accepted_in models v) old
      → HasWaiting (candidates_within models marked (narrowed marked w)) (accepted_within models marked (narrowed marked w)) new → IsSpliced (λ c. c.part) marked old new out
      → HasWaiting (all_candidates models w) (accepted_in models w) out
  waiting_again marked v w differ old new out before among spliced = record { by_part = spliced.by_part; none = λ p taken none. one p (marked p) refl taken (sym (spliced.at p) ∙ none) }
    where
      narrow : View
      narrow = narrowed marked w

      one : (p : PartId) (b : Bool) → marked p ≡ b → items_at (λ c. c.part) p (accepted_in models w) ≡ [] → (if b then items_at (λ c. c.part) p new else items_at (λ c. c.part) p old) ≡ []
          → items_at (λ c. c.part) p (all_candidates models w) ≡ []
      one p true m taken none =
          let alike : IsAlike narrow w = narrowed_alike marked w in
          let shows : ShowSame narrow w p = narrowed_shows marked w p m in
          sym (candidates_marked marked narrow p m ∙ same_candidates narrow w p alike shows) ∙ among.none p (within_marked marked narrow p m ∙ same_accepted narrow w p alike shows ∙ taken) none
      one p false m taken none =
          sym (same_candidates v w p differ.alike (differ.same p m)) ∙ before.none p (same_accepted v w p differ.alike (differ.same p m) ∙ taken) none
