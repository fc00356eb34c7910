-- Loads in cells, and beside them.
use Rattle.std.proofs.Common.{◌≡◌, ℕ, zero, suc, List, length, get_or, replicate, refl, ap, ◌∙◌}
use Rattle.std.specs.Prelude.{Option, None, Some}
use Rattle.hx_counts.specs.Tally.{Numbers, loads_of}
use Rattle.hx_throttle.specs.Table.{place_in, load_in, load_at}

zeros : (n place : ℕ) → let none : ℕ = 0 in get_or (replicate n none) place none ≡ none
zeros zero place = refl
zeros (suc n) zero = refl
zeros (suc n) (suc place) = zeros n place

-- there are no loads at first
pub no_loads : (n : ℕ) (cells : List ℕ) (others : Numbers) → cells ≡ replicate n 0 → ((r k : ℕ) → loads_of others r k ≡ 0)
    → (r k : ℕ) → load_at (record { cells = cells; others = others }) r k ≡ 0
no_loads n cells others is none r k = one (place_in (length cells) r k)
  where
    one : (o : Option ℕ) → load_in (record { cells = cells; others = others }) r k o ≡ 0
    one None = none r k
    one (Some place) = ap (λ (xs : List ℕ). get_or xs place 0) is ∙ zeros n place
