-- A walk over the resources that keeps the newest of a name.
use Rattle.std.proofs.Common.{◌≡◌, ℕ, ◌+◌, ◌<◌, ◌≤◌, Bool, true, false, ◌==◌, List, length, drop, get_or, refl, sym, ◌∙◌, Option, Some, None}
use Rattle.std.specs.Prelude.{if◌then◌else◌}
use Rattle.std.proofs.lemmas.List.{drop_all, at_drop_more}
use Rattle.hx_ids.specs.declared.ResourceId.{ResourceId}
use Rattle.hx_cluster.specs.declared.description.Resource.{Resource}
use Rattle.hx_cluster.specs.Steps.{or_this, newest_from}

-- what comes later, or what was found
abbrev pub later_or : Option ResourceId → Option ResourceId → Option ResourceId
later_or (Some r) found = Some r
later_or None found = found

one : (b : Bool) (n : ℕ) (later found : Option ResourceId) → later_or (or_this b n later) found ≡ later_or later (if b then Some (record { 0 = n }) else found)
one true n None found = refl
one false n None found = refl
one true n (Some r) found = refl
one false n (Some r) found = refl

pub newest-step : (ys xs : List Resource) (n name : ℕ) (found : Option ResourceId) (x : Resource) → ys ≡ xs → n < length ys → x ≡ get_or ys n x
    → later_or (newest_from (n + 1) (drop (n + 1) xs) name) (if x.name == name then Some (record { 0 = n }) else found) ≡ later_or (newest_from n (drop n xs) name) found
newest-step ys xs n name found x same h is =
    rw (← same) (sym (at_drop_more (λ ys. later_or (newest_from n ys name) found) ys n x h
    ∙ rw (← is) (one (x.name == name) n (newest_from (n + 1) (drop (n + 1) ys) name) found)))

pub newest-end : (ys xs : List Resource) (n name : ℕ) (found : Option ResourceId) → ys ≡ xs → length ys ≤ n → later_or (newest_from n (drop n xs) name) found ≡ found
newest-end ys xs n name found same e = rw (← same, drop_all n ys e) refl
