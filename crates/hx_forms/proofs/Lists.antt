-- Lists of items, and places of names.
use Rattle.std.proofs.Common.{◌≡◌, ℕ, Bool, true, false, not, List, [], ◌∷◌, length, position, Some, None, refl, ap, arith}
use Rattle.std.specs.Prelude.{if◌then◌else◌, nat_lt, is_some}
use Rattle.std.specs.List.{list_any, prefix_len}
use Rattle.serde_json.specs.Data.{Data}
use Rattle.serde_json.specs.View.{items_of}
use Rattle.hx_forms.specs.Found.{data_of}

-- an array's items are those that it was made of
pub data_of-items_of : (ds : List Data) → data_of (items_of ds) ≡ ds
data_of-items_of [] = refl
data_of-items_of (d ∷ ds) = ap (λ es. d ∷ es) (data_of-items_of ds)

some_if : (b : Bool) (i : ℕ) → is_some (if b then Some i else None) ≡ b
some_if true i = refl
some_if false i = refl

short_prefix : {X : Type 0} (p : X → Bool) (xs : List X) → nat_lt (prefix_len (λ x. not (p x)) xs) (length xs) ≡ list_any p xs
short_prefix p [] = refl
short_prefix p (x ∷ xs) = grind (arith, short_prefix p xs)

-- a name has a place where it is one of them
pub is_some-position : {X : Type 0} (p : X → Bool) (xs : List X) → is_some (position p xs) ≡ list_any p xs
is_some-position p xs = rw (some_if, short_prefix p xs)
