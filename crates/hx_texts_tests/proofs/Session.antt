-- A session that joins and ends.
use Rattle.std.proofs.Common.{◌≡◌, ◌<◌, true, false, List, [], ◌∷◌, ◌++◌, length, nat_lt, refl, sym, ap, ◌∙◌, subst}
use Rattle.std.specs.Prelude.{replicate}
use Rattle.std.proofs.lemmas.Bool.{lt-ltb}
use Rattle.std.proofs.lemmas.List.{length-replicate}
use Rattle.hx_cluster.specs.declared.description.Spec.{Spec}
use Rattle.hx_cluster.specs.declared.happenings.Admin.TheVariants as steps
use Rattle.hx_cluster.specs.declared.happenings.Did.TheVariants as dids
use Rattle.hx_cluster.specs.declared.happenings.Event.{Event}
use Rattle.hx_cluster.specs.declared.happenings.Event.TheVariants as events
use Rattle.hx_cluster.specs.Steps.{opening, has_instance}
use Rattle.hx_cluster.specs.Events.{IsLegal}
use Rattle.hx_print.specs.declared.roll.Roll.{Roll}
use Rattle.hx_script.specs.History.{HasPrinted}

abbrev pub join : Event
join = events.Admin (steps.Join (record { 0 = 0 })) (dids.Joined (record { 0 = 1 }))

abbrev pub end : Event
end = events.Admin (steps.End (record { 0 = 0 })) dids.Done

has_first : (spec : Spec) → 0 < length spec.instances → has_instance (opening spec) (record { 0 = 0 }) ≡ true
has_first spec some =
    ap (λ n. nat_lt 0 n) (length-replicate (length spec.instances) false) ∙ lt-ltb 0 (length spec.instances) some

pub joins_and_ends : (spec : Spec) → 0 < length spec.instances → IsLegal (opening spec) (join ∷ end ∷ [])
joins_and_ends spec some = ((has_first spec some, refl, refl), ((has_first spec some, refl, refl), tt))

-- a history to which the join was added, which was empty before
joined : (before es : List Event) → before ≡ [] → es ≡ before ++ join ∷ [] → es ≡ join ∷ []
joined before es none is = is ∙ ap (λ (ds : List Event). ds ++ join ∷ []) none

pub joined_legal : (spec : Spec) (before es : List Event) → 0 < length spec.instances → before ≡ [] → es ≡ before ++ join ∷ [] → IsLegal (opening spec) es
joined_legal spec before es some none is =
    subst (λ (ds : List Event). IsLegal (opening spec) ds) (sym (joined before es none is)) ((has_first spec some, refl, refl), tt)

pub joined_printed : (spec : Spec) (before es : List Event) (printer : Roll) → before ≡ [] → es ≡ before ++ join ∷ [] → HasPrinted spec es printer → HasPrinted spec (join ∷ []) printer
joined_printed spec before es printer none is has = subst (λ (ds : List Event). HasPrinted spec ds printer) (joined before es none is) has
