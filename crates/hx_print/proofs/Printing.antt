-- Texts that are printed word by word.
use Rattle.std.proofs.Common.{◌≡◌, ℕ, ◌<◌, List, [], ◌∷◌, ◌++◌, length, map, get_or, drop, codes, refl, sym, ap, ◌∙◌, append_assoc, arith}
use Rattle.std.proofs.lemmas.Grind.{flat_map-append}
use Rattle.hx_text.specs.Texts.{PutsFront}
use Rattle.hx_text.proofs.Printing.{IsMidway, puts_item}
use Rattle.hx_print.specs.Texts.{spaced, words_or_dash}

-- words with a space before each, one after the other
pub puts_word : {X : Type 0} (name : X → List ℕ) (xs : List X) (i : ℕ) (d : X) (old page new : List ℕ) → i < length xs
    → IsMidway (spaced (map name xs)) old page (spaced (map name (drop i xs))) → PutsFront (codes " " ++ name (get_or xs i d)) page new
    → PutsFront (spaced (map name xs)) old new
puts_word name xs i d old page new lt m p = puts_item (λ x. codes " " ++ name x) (λ ys. spaced (map name ys)) (λ x ys. refl) xs i d (spaced (map name xs)) old page new lt m p

-- words are printed one list after the other
pub spaced-append : (xs ys : List (List ℕ)) → spaced (xs ++ ys) ≡ spaced xs ++ spaced ys
spaced-append xs ys = flat_map-append (λ w. codes " " ++ w) xs ys

-- the line in the parts in which it is printed: its start, and the words behind it
pub line_in_parts : (first : List ℕ) (words rest : List (List ℕ)) → first ++ spaced (words ++ rest) ++ codes "\n" ≡ (first ++ spaced words) ++ (spaced rest ++ codes "\n")
line_in_parts first words rest =
    ap (λ t. first ++ t ++ codes "\n") (spaced-append words rest)
    ∙ ap (λ t. t ++ codes "\n") (sym (append_assoc first (spaced words) (spaced rest)))
    ∙ append_assoc (first ++ spaced words) (spaced rest) (codes "\n")

-- words that are there
pub words_or_dash-some : {X : Type 0} (name : X → List ℕ) (xs : List X) → 0 < length xs → words_or_dash (map name xs) ≡ map name xs
words_or_dash-some name [] some = absurd (omega arith)
words_or_dash-some name (x ∷ xs) some = refl
