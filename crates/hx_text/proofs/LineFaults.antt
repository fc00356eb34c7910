-- The first fault of the lines of a text.
use Rattle.std.proofs.Common.{◌≡◌, ℕ, ◌+◌, ◌<◌, ◌≤◌, cond, not, nat_lt, List, [], ◌∷◌, ◌++◌, length, Some, None, sym, ap, ◌∙◌, append-nil, append_assoc, length-append, arith}
use Rattle.std.proofs.lemmas.Bool.{cond-true, cond-false, lt-ltb, le-ltb, false_from_ne_true}
use Rattle.std.proofs.lemmas.Str.{is_utf8-from_IsUtf8, IsUtf8-from_is_utf8}
use Rattle.std.specs.List.{concat}
use Rattle.std.specs.Option.{option_or}
use Rattle.std.specs.Str.{IsUtf8, is_utf8}
use Rattle.hx_text.specs.declared.line_table.TextFault.{TextFault}
use Rattle.hx_text.specs.declared.line_table.TextFault.TheVariants.{NotUtf8, LineTooLong}
use Rattle.hx_text.specs.Faults.{line_fault, first_fault, lines_fault}
use Rattle.hx_text.specs.Lines.{lines_of, first_line, after_line}
use Rattle.hx_text.proofs.FirstLine.{lines_of-first, length-first_line, length-after_line}

pub fault-not_utf8 : (most number : ℕ) (line : List ℕ) → ¬ (IsUtf8 line) → line_fault most number line ≡ Some (NotUtf8 number)
fault-not_utf8 most number line other = cond-true _ _ _ (ap not (false_from_ne_true (is_utf8 line) (λ e. other (IsUtf8-from_is_utf8 line e))))

fault-utf8 : (most number : ℕ) (line : List ℕ) → IsUtf8 line → line_fault most number line ≡ cond (nat_lt most (length line)) (Some (LineTooLong number)) None
fault-utf8 most number line u = cond-false _ _ _ (ap not (is_utf8-from_IsUtf8 line u))

pub fault-long : (most number : ℕ) (line : List ℕ) → IsUtf8 line → most < length line → line_fault most number line ≡ Some (LineTooLong number)
fault-long most number line u long = fault-utf8 most number line u ∙ cond-true _ _ _ (lt-ltb _ _ long)

pub fault-none : (most number : ℕ) (line : List ℕ) → IsUtf8 line → length line ≤ most → line_fault most number line ≡ None
fault-none most number line u short = fault-utf8 most number line u ∙ cond-false _ _ _ (le-ltb _ _ short)

-- a part of a text is taken apart: its lines have no fault, and the rest follows
pub record IsTaken (most : ℕ) (bytes rest : List ℕ) (lines : List (List ℕ)) : Type 0 where
  pub whole : lines ++ lines_of rest ≡ lines_of bytes
  pub fault : first_fault most (length lines + 1) (lines_of rest) ≡ lines_fault most bytes
  pub few : length lines + length rest ≤ length bytes
  pub room : length (concat lines) + length rest ≤ length bytes

length-concat-push : (lines : List (List ℕ)) (line : List ℕ) → length (concat (lines ++ line ∷ [])) ≡ length (concat lines) + length line
length-concat-push [] line = ap length (append-nil line) ∙ omega arith
length-concat-push (l ∷ lines) line = omega (arith, length-append l (concat (lines ++ line ∷ [])), length-append l (concat lines), length-concat-push lines line)

pub taken_more : (most : ℕ) (bytes rest line behind : List ℕ) (lines new_lines : List (List ℕ)) → 0 < length rest → IsTaken most bytes rest lines
    → line ≡ first_line rest → behind ≡ after_line rest → line_fault most (length lines + 1) line ≡ None → new_lines ≡ lines ++ line ∷ []
    → IsTaken most bytes behind new_lines
taken_more most bytes rest line behind lines new_lines some h line_is behind_is faultless new_is =
    let split : lines_of rest ≡ line ∷ lines_of behind = rw (line_is, behind_is) (lines_of-first rest some) in
    let more : length new_lines ≡ length lines + 1 = rw new_is (length-append lines (line ∷ [])) in
    let lengths : length line + length behind ≤ length rest = rw (line_is, behind_is) (length-first_line rest) in
    let text_length : length (concat new_lines) ≡ length (concat lines) + length line = rw new_is (length-concat-push lines line) in
    record {
      whole = rw new_is (append_assoc lines (line ∷ []) (lines_of behind) ∙ ap (λ ls. lines ++ ls) (sym split) ∙ h.whole);
      fault =
          ap (λ n. first_fault most (n + 1) (lines_of behind)) more
          ∙ sym (ap (first_fault most (length lines + 1)) split ∙ ap (λ o. option_or o (first_fault most (length lines + 1 + 1) (lines_of behind))) faultless)
          ∙ h.fault;
      few = omega (arith, ap length behind_is, length-after_line rest some);
      room = omega arith;
    }

pub taken_fault : (most : ℕ) (bytes rest line : List ℕ) (lines : List (List ℕ)) (e : TextFault) → 0 < length rest → IsTaken most bytes rest lines
    → line ≡ first_line rest → line_fault most (length lines + 1) line ≡ Some e → lines_fault most bytes ≡ Some e
taken_fault most bytes rest line lines e some h line_is faulty =
    let split : lines_of rest ≡ line ∷ lines_of (after_line rest) = rw line_is (lines_of-first rest some) in
    sym h.fault ∙ ap (first_fault most (length lines + 1)) split ∙ ap (λ o. option_or o (first_fault most (length lines + 1 + 1) (lines_of (after_line rest)))) faulty
