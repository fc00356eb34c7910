-- The shown sessions that are gone over for a part, by their number in order of instance.
use Rattle.std.specs.Prelude.{◌≡◌, ℕ, ◌+◌, ◌<◌, Bool, true, not, ◌==◌, ◌&&◌, ◌||◌, nat_lt, List, [], ◌∷◌, find, Option, None, if◌then◌else◌}
use Rattle.std.specs.List.{list_any}
use Rattle.std.specs.Option.{option_map_or, option_or}
use Rattle.hx_best.specs.declared.marks.Mark.{Mark}
use Rattle.hx_best.specs.declared.visits.Visit.{Visit}

-- each number is above those before it, and none is below a first
abbrev pub rises : ℕ → List Visit → Bool
rises first [] = true
rises first (v ∷ visits) = not (nat_lt v.number first) && rises (v.number + 1) visits

-- whether a session is visited, and the mark that it has then
abbrev pub is_visited : List Visit → ℕ → Bool
is_visited visits k = list_any (λ v. v.number == k) visits

abbrev pub mark_at : List Visit → ℕ → Option Mark
mark_at visits k = option_map_or (λ v. v.mark) (find (λ v. v.number == k) visits) None

-- visits that have got those, of n sessions, that pass a test, with a mark where they have none
pub record Adds (n : ℕ) (passes : ℕ → Bool) (mark : Option Mark) (old new : List Visit) : Type 0 where
  pub marks : (k : ℕ) → k < n → mark_at new k ≡ option_or (mark_at old k) (if passes k then mark else None)
  pub visited : (k : ℕ) → k < n → is_visited new k ≡ (is_visited old k || passes k)
  pub within : ((k : ℕ) → is_visited old k ≡ true → k < n) → (k : ℕ) → is_visited new k ≡ true → k < n
