-- Lists that begin with the same items.
use Rattle.std.proofs.Common.{◌≡◌, ℕ, ◌-◌, ◌||◌, Bool, false, List, [], ◌∷◌, ◌++◌, length, take, drop, get_or, refl, sym, ◌∙◌, ap, ap₂, arith}
use Rattle.std.proofs.lemmas.List.{take-append-drop, take_rest}
use Rattle.std.proofs.lemmas.List.Elements.{filter-append}
use Rattle.std.proofs.lemmas.Bool.Decides.{nat_tests}
use Rattle.hx_ids.specs.declared.PartId.{PartId}
use Rattle.hx_cluster.specs.Ends.{part_eq}
use Rattle.hx_parts.specs.Parts.{items_at}

at_split : {X : Type 0} (part_of : X → PartId) (p : PartId) (n : ℕ) (xs : List X) → items_at part_of p xs ≡ items_at part_of p (take n xs) ++ items_at part_of p (drop n xs)
at_split part_of p n xs =
    ap (items_at part_of p) (sym (take-append-drop n xs)) ∙ filter-append (λ x. part_eq (part_of x) p) (take n xs) (drop n xs)

-- they have the same items of a part if what is behind these does
same_behind : {X : Type 0} (part_of : X → PartId) (p : PartId) (n : ℕ) (xs ys : List X) → take n xs ≡ take n ys
    → items_at part_of p (drop n xs) ≡ items_at part_of p (drop n ys) → items_at part_of p xs ≡ items_at part_of p ys
same_behind {X} part_of p n xs ys same behind =
    at_split part_of p n xs ∙ ap₂ (λ (front rest : List X). front ++ rest) (ap (items_at part_of p) same) behind ∙ sym (at_split part_of p n ys)

pub behind_front : {X : Type 0} (part_of : X → PartId) (p : PartId) (n : ℕ) (xs ys : List X) → take n xs ≡ take n ys
    → items_at part_of p (take (length xs - n) (drop n xs)) ≡ items_at part_of p (take (length ys - n) (drop n ys)) → items_at part_of p xs ≡ items_at part_of p ys
behind_front part_of p n xs ys same behind =
    same_behind part_of p n xs ys same (ap (items_at part_of p) (sym (take_rest xs n)) ∙ behind ∙ ap (items_at part_of p) (take_rest ys n))

-- a list has the same items of a part without a first item of another part
without_first : {X : Type 0} (part_of : X → PartId) (p : PartId) (x : X) (xs : List X) → x ≡ get_or xs 0 x → part_eq (part_of x) p ≡ false
    → items_at part_of p (drop 1 xs) ≡ items_at part_of p xs
without_first part_of p x [] is other = refl
without_first part_of p x (y ∷ ys) is other = grind (arith, is, other)

pub behind_first : {X : Type 0} (part_of : X → PartId) (p : PartId) (x : X) (xs : List X) → x ≡ get_or xs 0 x → part_eq (part_of x) p ≡ false
    → items_at part_of p (take (length xs - 1) (drop 1 xs)) ≡ items_at part_of p xs
behind_first part_of p x xs is other = ap (items_at part_of p) (take_rest xs 1) ∙ without_first part_of p x xs is other

-- a part that isn't marked when another one was is another one, and wasn't before
pub unmarked : (p part : PartId) (before after : Bool) → after ≡ (part_eq p part || before) → after ≡ false → (part_eq part p ≡ false) × (before ≡ false)
unmarked p part before after is free =
    (grind (arith, nat_tests, is, free), grind (arith, is, free))
