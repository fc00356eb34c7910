-- What is known of a view.
use Rattle.std.specs.Prelude.{◌≡◌, ℕ, true, false, List, length, Option, MatchOption}
use Rattle.hx_model.specs.declared.ModelParts.{ModelParts}
use Rattle.hx_cluster.specs.declared.description.Spec.{Spec}
use Rattle.hx_cluster.specs.declared.planning.View.{View}
use Rattle.hx_cluster.specs.declared.planning.Candidate.{Candidate}
use Rattle.hx_cluster.specs.declared.happenings.Seen.{Seen}
use Rattle.hx_cluster.specs.Views.{is_well_formed}
use Rattle.hx_pass.specs.Plans.{all_candidates}
use Rattle.hx_pass.specs.Turns.{posted_of}
use Rattle.hx_pass.specs.Waiting.{HasWaiting}
use Rattle.hx_pass.specs.Local.{accepted_in}

-- the models and the number of instances of a description, and a view
pub record Knowing : Type 0 where
  pub models : List ModelParts
  pub instances : ℕ
  pub view : View

-- the view is well formed with them, and these are its accepted candidates, those that may be left, and its rows to post
pub record IsKnown (models : List ModelParts) (instances : ℕ) (view : View) (accepted waiting : List Candidate) (posted : List Seen) : Type 0 where
  pub formed : is_well_formed models instances view ≡ true
  pub accepted_are : accepted ≡ accepted_in models view
  pub waiting_are : HasWaiting (all_candidates models view) accepted waiting
  pub posted_are : posted ≡ posted_of view

-- it is known of a view what there is to know, exactly if it is well formed
abbrev pub IsKnownAs : List ModelParts → ℕ → View → Option Knowing → Type 0
IsKnownAs models instances view known =
    MatchOption known (is_well_formed models instances view ≡ false) (λ k.
    (is_well_formed models instances view ≡ true) × (k ≡ record { models = models; instances = instances; view = view }))

abbrev pub IsKnownOf : Spec → View → Option Knowing → Type 0
IsKnownOf spec view known = IsKnownAs spec.models (length spec.instances) view known
