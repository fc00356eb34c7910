-- Drafts of views one after another.
use Rattle.std.specs.Prelude.{◌≡◌, true, false, length, Option, None, Some, MatchOption}
use Rattle.hx_cluster.specs.declared.description.Spec.{Spec}
use Rattle.hx_cluster.specs.declared.planning.View.{View}
use Rattle.hx_cluster.specs.Views.{is_well_formed}
use Rattle.hx_pass.specs.Drafts.{Draft, draft as draft_of}

-- there is a draft, that of a description and a view, exactly if the view is well formed with the description
abbrev pub IsDraftOf : Spec → View → Option Draft → Type 0
IsDraftOf spec view draft =
    MatchOption draft (is_well_formed spec.models (length spec.instances) view ≡ false) (λ d.
    (is_well_formed spec.models (length spec.instances) view ≡ true) × (d ≡ draft_of spec.models spec.rules view))

-- with a draft of a view it is the one that was planned last, and without one there is none
abbrev pub IsPlanned : View → Option Draft → Option View → Type 0
IsPlanned view draft planned = MatchOption draft (planned ≡ None) (λ _. planned ≡ Some view)
