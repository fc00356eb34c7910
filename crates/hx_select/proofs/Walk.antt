-- The walk over the candidates.
use Rattle.std.proofs.Common.{◌≡◌, ℕ, ◌+◌, ◌<◌, ◌≤◌, false, List, [], ◌∷◌, ◌++◌, length, get_or, drop, sym, ap, ◌∙◌, subst, arith}
use Rattle.std.specs.List.{fold}
use Rattle.std.proofs.lemmas.List.{drop_more, get_or_default}
use Rattle.std.proofs.lemmas.List.Sorted.{sorted_far}
use Rattle.std.specs.BTreeMap.{BTreeMap}
use Rattle.std.specs.BTreeSet.{BTreeSet}
use Rattle.hx_lists.specs.Choices.{with_chosen, left_after}
use Rattle.hx_ids.specs.declared.StateId.{StateId}
use Rattle.hx_ids.specs.declared.SessionId.{SessionId}
use Rattle.hx_ids.specs.declared.PartId.{PartId}
use Rattle.hx_model.specs.declared.ModelParts.{ModelParts}
use Rattle.hx_cluster.specs.declared.planning.View.{View}
use Rattle.hx_cluster.specs.declared.planning.Candidate.{Candidate}
use Rattle.hx_cluster.specs.declared.planning.Full.{Full}
use Rattle.hx_select.specs.Selection.{has_room, accepted_of, full, full_of}
use Rattle.hx_cluster.specs.Ends.{part_before}
use Rattle.hx_parts.specs.Parts.{IsByPart}
use Rattle.hx_parts.proofs.Ordered.{parts_rank}
use Rattle.hx_select.specs.declared.part_fillings.Filling.{Filling}
use Rattle.hx_select.specs.Fillings.{AreFillings}
use Rattle.hx_select.specs.PartFillings.{ArePartFillings}

-- what is said of a candidate for which there is no room
abbrev pub said : List ModelParts → View → List Candidate → Candidate → List Full
said models view accepted c = full models view accepted c ∷ []

-- so many of the candidates are accepted or not
pub record IsWalked (models : List ModelParts) (view : View) (candidates : List Candidate) (i : ℕ) (accepted : List Candidate) (left : List Full) (counts : BTreeMap (PartId × StateId) ℕ) (taken : BTreeSet (PartId × StateId × SessionId)) : Type 0 where
  pub accepting : fold (with_chosen (has_room models view)) accepted (drop i candidates) ≡ accepted_of models view candidates
  pub leaving : left ++ left_after (has_room models view) (said models view) accepted (drop i candidates) ≡ full_of models view candidates
  pub filled : AreFillings models view accepted counts taken

-- so many are accepted or not, part by part: those that are left are of no earlier part
pub record IsWalkedByPart (models : List ModelParts) (view : View) (candidates : List Candidate) (i : ℕ) (accepted : List Candidate) (p : PartId) (fillings : List Filling) : Type 0 where
  pub accepting : fold (with_chosen (has_room models view)) accepted (drop i candidates) ≡ accepted_of models view candidates
  pub filled : ArePartFillings models view accepted p fillings
  pub later : (k : ℕ) (d : Candidate) → i ≤ k → k < length candidates → part_before (get_or candidates k d).part p ≡ false

-- one candidate more
pub walked_more : (models : List ModelParts) (view : View) (candidates : List Candidate) (i : ℕ) (d : Candidate) (accepted more : List Candidate) (p q : PartId) (old new : List Filling)
    → IsByPart (λ c. c.part) candidates → i < length candidates → IsWalkedByPart models view candidates i accepted p old
    → q ≡ (get_or candidates i d).part → more ≡ with_chosen (has_room models view) accepted (get_or candidates i d)
    → ArePartFillings models view (with_chosen (has_room models view) accepted (get_or candidates i d)) q new
    → IsWalkedByPart models view candidates (i + 1) more q new
walked_more models view candidates i d accepted more p q old new up long walked at is filled = record {
  accepting =
      ap (λ (cs : List Candidate). fold (with_chosen (has_room models view)) cs (drop (i + 1) candidates)) is
      ∙ ap (fold (with_chosen (has_room models view)) accepted) (sym (drop_more candidates i d long))
      ∙ walked.accepting;
  filled = subst (λ (cs : List Candidate). ArePartFillings models view cs q new) (sym is) filled;
  later = λ k e ge short.
      subst (λ (r : PartId). part_before (get_or candidates k e).part r ≡ false) (ap (λ (c : Candidate). c.part) (get_or_default candidates i e d long) ∙ sym at)
      (sorted_far (λ x y. part_before x.part y.part) (parts_rank (λ c. c.part)) candidates up i k e (omega arith) short);
}
