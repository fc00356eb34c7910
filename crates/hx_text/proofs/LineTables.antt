-- Lines that are kept as one text and their ends.
use Rattle.std.proofs.Common.{◌≡◌, ℕ, zero, suc, ◌+◌, ◌-◌, ◌^◌, ◌<◌, ◌≤◌, List, [], ◌∷◌, ◌++◌, length, get_or, take, drop, Some, refl, sym, ap, ◌∙◌, inl, inr, subst, length-append, length-drop, arith}
use Rattle.std.proofs.lemmas.Bool.{cases_lt}
use Rattle.std.proofs.lemmas.List.{take_all, take-append-le, take-append-drop, drop_all, drop_at, drop-drop, drop-append-le, get_or_append_left, get_or_read}
use Rattle.std.proofs.lemmas.Str.{IsCharBoundary-at_seam, IsCharBoundary-end}
use Rattle.std.specs.List.{concat, slice_get, slice_range}
use Rattle.std.specs.Str.{IsUtf8, IsCharBoundary}
use Rattle.hx_text.specs.LineTable.{lines_between, AreEnds, IsLineTable}

pub length-lines_between : (text : List ℕ) (from : ℕ) (ends : List ℕ) → length (lines_between text from ends) ≡ length ends
length-lines_between text from [] = refl
length-lines_between text from (end ∷ ends) = ap suc (length-lines_between text end ends)

-- the lines are the whole text
pub concat-lines_between : (text : List ℕ) (from : ℕ) (ends : List ℕ) → AreEnds text from ends → concat (lines_between text from ends) ≡ drop from text
concat-lines_between text from [] h = sym (drop_all from text (omega arith))
concat-lines_between text from (end ∷ ends) h =
    let rest : drop (end - from) (drop from text) ≡ drop end text = drop-drop (end - from) from text ∙ ap (λ k. drop k text) (omega arith) in
    ap (λ more. slice_range text from end ++ more) (concat-lines_between text end ends h.2 ∙ sym rest) ∙ take-append-drop (end - from) (drop from text)

-- a place between characters stays one when text is put at the end
boundary_more : (text line : List ℕ) (i : ℕ) → IsUtf8 line → IsCharBoundary text i → IsCharBoundary (text ++ line) i
boundary_more text line i u h = elim (cases_lt i (length text)) [
  | inl lt ↦
      let same = get_or_append_left text line 0 i lt in
      (omega (arith, length-append text line), λ within high. let lead : 192 ≤ get_or text i 0 = h.1 lt (omega (arith, same)) in omega (arith, same))
  | inr past ↦
      let at_end : length text ≡ i = omega arith in
      subst (IsCharBoundary (text ++ line)) at_end (IsCharBoundary-at_seam (text ++ line) text line refl u)
]

range_more : (text line : List ℕ) (from end : ℕ) → from ≤ end → end ≤ length text → slice_range (text ++ line) from end ≡ slice_range text from end
range_more text line from end ordered within =
    ap (take (end - from)) (drop-append-le from text line (omega arith))
    ∙ take-append-le (end - from) (drop from text) line (omega (arith, length-drop from text))

range_last : (text line : List ℕ) (from : ℕ) → from ≡ length text → slice_range (text ++ line) from (length text + length line) ≡ line
range_last text line from e = ap (take (length text + length line - from)) (drop_at text line from (sym e)) ∙ take_all _ line (omega arith)

pub ends_push : (text line : List ℕ) (from : ℕ) (ends : List ℕ) → IsUtf8 line → AreEnds text from ends → AreEnds (text ++ line) from (ends ++ (length text + length line) ∷ [])
ends_push text line from [] u h = (omega arith, subst (IsCharBoundary (text ++ line)) (length-append text line) (IsCharBoundary-end (text ++ line)), sym (length-append text line))
ends_push text line from (end ∷ ends) u h = (h.0, boundary_more text line end u h.1, ends_push text line end ends u h.2)

pub lines_between_push : (text line : List ℕ) (from : ℕ) (ends : List ℕ) → AreEnds text from ends
    → lines_between (text ++ line) from (ends ++ (length text + length line) ∷ []) ≡ lines_between text from ends ++ line ∷ []
lines_between_push text line from [] h = ap (λ l. l ∷ []) (range_last text line from h)
lines_between_push text line from (end ∷ ends) h =
    ap (λ l. l ∷ lines_between (text ++ line) end (ends ++ (length text + length line) ∷ [])) (range_more text line from end h.0 h.1.0)
    ∙ ap (λ more. slice_range text from end ∷ more) (lines_between_push text line end ends h.2)

-- where a line begins and ends, between characters
pub record IsLineAt (text : List ℕ) (start end : ℕ) : Type 0 where
  pub ordered : start ≤ end
  pub starts : 0 < start → IsCharBoundary text start
  pub ends : IsCharBoundary text end

line_at : (text : List ℕ) (from : ℕ) (ends : List ℕ) (place : ℕ) → (0 < from → IsCharBoundary text from) → AreEnds text from ends → place < length ends
    → IsLineAt text (get_or (from ∷ ends) place 0) (get_or ends place 0)
line_at text from [] place b h lt = absurd (omega arith)
line_at text from (end ∷ ends) zero b h lt = record { ordered = h.0; starts = b; ends = h.1 }
line_at text from (end ∷ ends) (suc place) b h lt = line_at text end ends place (λ _. h.1) h.2 (omega arith)

get_line : (text : List ℕ) (from : ℕ) (ends : List ℕ) (place : ℕ) → place < length ends
    → slice_get (lines_between text from ends) place ≡ Some (slice_range text (get_or (from ∷ ends) place 0) (get_or ends place 0))
get_line text from [] place lt = absurd (omega arith)
get_line text from (end ∷ ends) zero lt = refl
get_line text from (end ∷ ends) (suc place) lt = get_line text end ends place (omega arith)

-- the same of the places that are read for a line
pub line_read : (text ends : List ℕ) (place start end : ℕ) → AreEnds text 0 ends → place < length ends → start ≡ get_or (0 ∷ ends) place 0 → end ≡ get_or ends place end
    → IsLineAt text start end
line_read text ends place start end h lt start_is end_is =
    rw (start_is, get_or_read ends place end lt end_is 0) (line_at text 0 ends place (λ none. absurd (omega arith)) h lt)

pub get_read : (text ends : List ℕ) (place start end : ℕ) → place < length ends → start ≡ get_or (0 ∷ ends) place 0 → end ≡ get_or ends place end
    → slice_get (lines_between text 0 ends) place ≡ Some (slice_range text start end)
get_read text ends place start end lt start_is end_is = rw (start_is, get_or_read ends place end lt end_is 0) (get_line text 0 ends place lt)

-- what a table says of the lines that it is seen as
pub length_viewed : (text ends : List ℕ) (lines : List (List ℕ)) → lines_between text 0 ends ≡ lines → length lines ≡ length ends
length_viewed text ends lines view = ap length (sym view) ∙ length-lines_between text 0 ends

pub concat_viewed : (text ends : List ℕ) (lines : List (List ℕ)) → IsLineTable text ends → lines_between text 0 ends ≡ lines → length (concat lines) ≡ length text
concat_viewed text ends lines h view = ap (λ l. length (concat l)) (sym view) ∙ ap length (concat-lines_between text 0 ends h.ends_in_order)

-- a table with one more line
pub record IsPushed (text line ends new_text new_ends : List ℕ) : Type 0 where
  pub text_is : new_text ≡ text ++ line
  pub ends_is : new_ends ≡ ends ++ (length text + length line) ∷ []

pub table_push : (text line ends new_text new_ends : List ℕ) → IsUtf8 line → length ends < 2 ^ 32 - 1 → IsLineTable text ends → IsPushed text line ends new_text new_ends
    → IsLineTable new_text new_ends
table_push text line ends new_text new_ends u few h p =
    rw (p.text_is, p.ends_is) (record { ends_in_order = ends_push text line 0 ends u h.ends_in_order; few = omega (arith, length-append ends ((length text + length line) ∷ [])) })

pub view_push : (text line ends new_text new_ends : List ℕ) (lines : List (List ℕ)) → IsLineTable text ends → IsPushed text line ends new_text new_ends → lines_between text 0 ends ≡ lines
    → lines_between new_text 0 new_ends ≡ lines ++ line ∷ []
view_push text line ends new_text new_ends lines h p view =
    rw (p.text_is, p.ends_is) (lines_between_push text line 0 ends h.ends_in_order ∙ ap (λ ls. ls ++ line ∷ []) view)
