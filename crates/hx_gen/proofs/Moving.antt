-- Targets that are at their goals have no candidates, so that those of the others are all.
use Rattle.std.proofs.Common.{◌≡◌, ◌||◌, not, Bool, true, false, List, [], ◌∷◌, Option, None, refl, sym, ap, ◌∙◌}
use Rattle.std.specs.Prelude.{filter, if◌then◌else◌}
use Rattle.std.specs.List.{filter_map, cons_option}
use Rattle.std.specs.Option.{is_some}
use Rattle.hx_lists.specs.Lists.{sort_by}
use Rattle.hx_model.specs.declared.ModelParts.{ModelParts}
use Rattle.hx_cluster.specs.declared.planning.View.{View}
use Rattle.hx_cluster.specs.declared.planning.Target.{Target}
use Rattle.hx_cluster.specs.declared.planning.Candidate.{Candidate}
use Rattle.hx_cluster.specs.Ends.{message_of, model_of}
use Rattle.hx_best.specs.Still.{is_done, HasMoving}
use Rattle.hx_gen.specs.Candidates.{hop_of, candidate_of, comes_before, candidates}

or_true : (a : Bool) → (a || true) ≡ true
or_true true = refl
or_true false = refl

module _ (models : List ModelParts) (view : View) where
  no_candidate : (t : Target) → is_done models view t ≡ true → candidate_of models view t ≡ None
  no_candidate t done =
      ap (λ (b : Bool). if is_some (message_of view.mail t.session t.part) || b then None else hop_of (model_of models view.ideals.resources t.part.resource) t) done
      ∙ ap (λ (b : Bool). if b then None else hop_of (model_of models view.ideals.resources t.part.resource) t) (or_true (is_some (message_of view.mail t.session t.part)))

  only_moving : (ts : List Target) → filter_map (candidate_of models view) ts ≡ filter_map (candidate_of models view) (filter (λ t. not (is_done models view t)) ts)
  only_moving [] = refl
  only_moving (t ∷ ts) = one (is_done models view t) refl (only_moving ts)
    where
      rest : List Target
      rest = filter (λ t. not (is_done models view t)) ts

      one : (b : Bool) → is_done models view t ≡ b → filter_map (candidate_of models view) ts ≡ filter_map (candidate_of models view) rest
          → cons_option (candidate_of models view t) (filter_map (candidate_of models view) ts) ≡ filter_map (candidate_of models view) (if not b then t ∷ rest else rest)
      one true done more = ap (λ (o : Option Candidate). cons_option o (filter_map (candidate_of models view) ts)) (no_candidate t done) ∙ more
      one false done more = ap (cons_option (candidate_of models view t)) more

  pub candidates_same : (all found : List Target) → HasMoving models view all found → candidates models view found ≡ candidates models view all
  candidates_same all found has =
      ap (sort_by (comes_before models view)) (only_moving found ∙ ap (filter_map (candidate_of models view)) has.moving ∙ sym (only_moving all))
