-- A name by its first byte and the rest.
use Rattle.std.proofs.Common.{◌≡◌, ℕ, ◌-◌, ◌≤◌, List, [], ◌∷◌, ◌&&◌, length, get_or, take, drop, nat_le, All, true, false, eqb, refl, sym, ap, arith}
use Rattle.std.proofs.lemmas.Bool.{ne_eqb, and_parts, and_from}
use Rattle.std.proofs.lemmas.Bool.Decides.{nat_tests}
use Rattle.std.proofs.lemmas.List.{take_rest}
use Rattle.std.proofs.lemmas.List.Sums.{AllPass-from_list_all}
use Rattle.std.specs.Char.{is_ascii_alphabetic}
use Rattle.std.specs.List.{list_all}
use Rattle.hx_text.specs.Spellings.{is_name_byte, is_name}

pub name_by_parts : (bs : List ℕ) → 1 ≤ length bs
    → is_name bs ≡ is_ascii_alphabetic (get_or bs 0 0) && list_all is_name_byte (take (length bs - 1) (drop 1 bs)) && nat_le (length (take (length bs - 1) (drop 1 bs))) 62
name_by_parts [] some = absurd (omega arith)
name_by_parts (b ∷ bs) some =
    sym (ap (λ rest. is_ascii_alphabetic b && list_all is_name_byte rest && nat_le (length rest) 62) (take_rest (b ∷ bs) 1))

letter_in_name : (b : ℕ) → is_ascii_alphabetic b ≡ true → is_name_byte b ≡ true
letter_in_name b e = grind (arith, nat_tests)

pub name_bytes : (bs : List ℕ) → is_name bs ≡ true → list_all is_name_byte bs ≡ true
name_bytes [] e = refl
name_bytes (b ∷ bs) e =
    let outer = and_parts (is_ascii_alphabetic b && list_all is_name_byte bs) (nat_le (length bs) 62) e in
    let inner = and_parts (is_ascii_alphabetic b) (list_all is_name_byte bs) outer.0 in
    and_from _ _ (letter_in_name b inner.0) inner.1

-- a byte that can't stand in a name stands in none
pub name_without : (bs : List ℕ) (c : ℕ) → is_name bs ≡ true → is_name_byte c ≡ false → All (λ b. eqb b c ≡ false) bs
name_without bs c name other k d lt =
    let inside : is_name_byte (get_or bs k d) ≡ true = AllPass-from_list_all is_name_byte bs (name_bytes bs name) k d lt in
    ne_eqb (get_or bs k d) c (λ e. let same = ap is_name_byte e in cc)
