-- Texts that are printed piece by piece, and items with commas between them.
use Rattle.std.proofs.Common.{◌≡◌, ℕ, ◌+◌, Bool, true, false, List, [], ◌∷◌, ◌++◌, refl, sym, ap, ◌∙◌, append_assoc, arith}
use Rattle.std.specs.Prelude.{◌==◌, if◌then◌else◌, codes}
use Rattle.std.proofs.lemmas.Bool.Decides.{nat_tests}
use Rattle.std.proofs.lemmas.List.{append-nil}
use Rattle.std.specs.List.{flat_map, join_with_byte}

-- a text behind what was put before it
pub then_put : (old mid new text more : List ℕ) → mid ≡ old ++ text → new ≡ mid ++ more → new ≡ old ++ (text ++ more)
then_put old mid new text more put is = is ∙ ap (λ t. t ++ more) put ∙ append_assoc old text more

-- what is left to print of items, at the first or behind another
abbrev pub items_left : Bool → List (List ℕ) → List ℕ
items_left true items = join_with_byte 44 items
items_left false items = flat_map (λ item. 44 ∷ item) items

joined : (item : List ℕ) (items : List (List ℕ)) → join_with_byte 44 (item ∷ items) ≡ item ++ flat_map (λ i. 44 ∷ i) items
joined item [] = sym (append-nil item)
joined item (next ∷ items) = ap (λ t. item ++ 44 ∷ t) (joined next items)

-- the next item
items_left-cons : (first : Bool) (item : List ℕ) (items : List (List ℕ))
    → items_left first (item ∷ items) ≡ (if first then [] else codes ",") ++ (item ++ items_left false items)
items_left-cons true item items = joined item items
items_left-cons false item items = refl

-- none
pub items_left-nil : (first : Bool) → items_left first [] ≡ []
items_left-nil true = refl
items_left-nil false = refl

not_first : (n : ℕ) → (n + 1 == 0) ≡ false
not_first n = grind (arith, nat_tests)

-- what stands and what is left are the whole, and so they are once an item more stands
pub item_put : (n : ℕ) (item : List ℕ) (items : List (List ℕ)) (whole page after new : List ℕ) → page ++ items_left (n == 0) (item ∷ items) ≡ whole
    → after ≡ page ++ (if n == 0 then [] else codes ",") → new ≡ after ++ item → new ++ items_left (n + 1 == 0) items ≡ whole
item_put n item items whole page after new before comma is =
    ap (λ b. new ++ items_left b items) (not_first n)
    ∙ ap (λ t. t ++ items_left false items) is
    ∙ append_assoc after item (items_left false items)
    ∙ ap (λ t. t ++ (item ++ items_left false items)) comma
    ∙ append_assoc page (if n == 0 then [] else codes ",") (item ++ items_left false items)
    ∙ ap (λ t. page ++ t) (sym (items_left-cons (n == 0) item items))
    ∙ before

-- the whole stands once no item is left
pub all_put : (first : Bool) (whole page : List ℕ) → page ++ items_left first [] ≡ whole → page ≡ whole
all_put first whole page is = sym (ap (λ t. page ++ t) (items_left-nil first) ∙ append-nil page) ∙ is

-- eight texts, of which the third and the fourth belong together
pub eight_put : (old a b c d e f g h s t u v w x y new : List ℕ) → s ≡ old ++ a → t ≡ s ++ b → u ≡ t ++ c → v ≡ u ++ d → w ≡ v ++ e → x ≡ w ++ f → y ≡ x ++ g → new ≡ y ++ h
    → new ≡ old ++ (a ++ b ++ (c ++ d) ++ e ++ f ++ g ++ h)
eight_put old a b c d e f g h s t u v w x y new first second third fourth fifth sixth seventh eighth =
    let both : v ≡ t ++ (c ++ d) = then_put t u v c d third fourth in
    then_put old y new _ h (then_put old x y _ g (then_put old w x _ f (then_put old v w _ e (then_put old t v _ (c ++ d) (then_put old s t a b first second) both) fifth) sixth) seventh) eighth
