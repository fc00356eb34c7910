-- The answers to proposals, printed one by one.
use Rattle.std.proofs.Common.{◌≡◌, ℕ, ◌+◌, ◌<◌, ◌≤◌, suc, List, [], ◌∷◌, ◌++◌, length, get_or, drop, codes, refl, sym, ap, subst, ◌∙◌, add-one, drop-cons, arith}
use Rattle.std.proofs.Math.ListN.{drop_of_length-le}
use Rattle.hx_cluster.specs.declared.description.Spec.{Spec}
use Rattle.hx_cluster.specs.declared.happenings.Proposal.{Proposal}
use Rattle.hx_cluster.specs.declared.happenings.Placed.{Placed}
use Rattle.hx_cluster.specs.declared.happenings.Placed.TheVariants as placings
use Rattle.hx_print.specs.Texts.{line_of, start_of, spaced, placed_words, proposal_words, placed_line, placed_lines}
use Rattle.hx_text.specs.Texts.{PutsFront}
use Rattle.hx_text.proofs.Printing.{IsMidway, puts_next}
use Rattle.hx_print.proofs.Printing.{line_in_parts}

placed_lines-nil : (spec : Spec) (names : List ℕ) (qs : List Proposal) → placed_lines spec names qs [] ≡ []
placed_lines-nil spec names [] = refl
placed_lines-nil spec names (q ∷ qs) = refl

-- behind the last answer nothing is left
pub placed_lines-past : (spec : Spec) (names : List ℕ) (qs : List Proposal) (answers : List Placed) (i : ℕ) → length answers ≤ i → placed_lines spec names qs (drop i answers) ≡ []
placed_lines-past spec names qs answers i le = ap (placed_lines spec names qs) (drop_of_length-le answers le) ∙ placed_lines-nil spec names qs

-- one more answer
pub placed_lines-drop : (spec : Spec) (names : List ℕ) (qs : List Proposal) (answers : List Placed) (i : ℕ) (q : Proposal) (a : Placed) → i < length qs → i < length answers
    → placed_lines spec names (drop i qs) (drop i answers) ≡ placed_line spec names (get_or qs i q) (get_or answers i a) ++ placed_lines spec names (drop (i + 1) qs) (drop (i + 1) answers)
placed_lines-drop spec names qs answers i q a lq la =
    rw add-one (ap (λ t. placed_lines spec names t (drop i answers)) (drop-cons qs i q lq) ∙ ap (λ t. placed_lines spec names (get_or qs i q ∷ drop (suc i) qs) t) (drop-cons answers i a la))

-- a front of an answer's line is a front of all lines
pub puts_placed : (spec : Spec) (names : List ℕ) (qs : List Proposal) (answers : List Placed) (i : ℕ) (q : Proposal) (a : Placed) (old page new : List ℕ)
    → i < length qs → i < length answers → a ≡ get_or answers i a
    → IsMidway (placed_lines spec names qs answers) old page (placed_lines spec names (drop i qs) (drop i answers)) → PutsFront (placed_line spec names (get_or qs i q) a) page new
    → PutsFront (placed_lines spec names qs answers) old new
puts_placed spec names qs answers i q a old page new lq la is m p =
    let line = placed_line spec names (get_or qs i q) (get_or answers i a) in
    let more = placed_lines spec names (drop (i + 1) qs) (drop (i + 1) answers) in
    puts_next (placed_lines spec names qs answers) old page new line more
    (record { whole = ap (λ t. page ++ t) (sym (placed_lines-drop spec names qs answers i q a lq la)) ∙ m.whole; grown = m.grown })
    (subst (λ x. PutsFront (placed_line spec names (get_or qs i q) x) page new) is p)

-- an answer has a word, behind which those of the proposal stand
some_word : (spec : Spec) (answer : Placed) → 0 < length (placed_words spec answer)
some_word spec (placings.Sent m) = omega arith
some_word spec placings.Ended = omega arith
some_word spec placings.ResourceDropped = omega arith
some_word spec (placings.Busy m) = omega arith
some_word spec (placings.WrongFrom has) = omega arith
some_word spec placings.Illegal = omega arith
some_word spec (placings.OverBound count bound) = omega arith
some_word spec (placings.OverThrottle rule load limit) = omega arith

started : (words rest : List (List ℕ)) → 0 < length words → line_of (words ++ rest) ≡ start_of words ++ (spaced rest ++ codes "\n")
started [] rest some = absurd (omega arith)
started (first ∷ words) rest some = line_in_parts first words rest

pub placed_in_parts : (spec : Spec) (names : List ℕ) (q : Proposal) (answer : Placed)
    → placed_line spec names q answer ≡ start_of (placed_words spec answer) ++ (spaced (proposal_words spec names q) ++ codes "\n")
placed_in_parts spec names q answer = started (placed_words spec answer) (proposal_words spec names q) (some_word spec answer)
