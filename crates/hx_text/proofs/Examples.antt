-- The definitions computed: names and numbers.
use Rattle.std.proofs.Common.{◌≡◌, ◌^◌, ◌-◌, true, false, [], ◌∷◌, map, Some, None, codes, refl}
use Rattle.hx_text.specs.Spellings.{is_name, number_of}

names : map is_name (codes "n1" ∷ codes "Z" ∷ codes "aB_c.d-9" ∷ codes "n23456789_123456789_123456789_123456789_123456789_123456789_123" ∷ [])
    ≡ true ∷ true ∷ true ∷ true ∷ []
names = refl

others : map is_name (codes "" ∷ codes "1n" ∷ codes "_n" ∷ codes "a b" ∷ codes "n=1" ∷ codes "n23456789_123456789_123456789_123456789_123456789_123456789_1234" ∷ [])
    ≡ false ∷ false ∷ false ∷ false ∷ false ∷ false ∷ []
others = refl

numbers : map number_of (codes "0" ∷ codes "7" ∷ codes "10" ∷ codes "18446744073709551615" ∷ []) ≡ Some 0 ∷ Some 7 ∷ Some 10 ∷ Some (2 ^ 64 - 1) ∷ []
numbers = refl

no_numbers : map number_of (codes "18446744073709551616" ∷ codes "" ∷ codes "00" ∷ codes "01" ∷ codes "+1" ∷ codes " 1" ∷ codes "1a" ∷ [])
    ≡ None ∷ None ∷ None ∷ None ∷ None ∷ None ∷ None ∷ []
no_numbers = refl
