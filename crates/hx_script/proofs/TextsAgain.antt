-- The text of a line is read as the line.
use Rattle.std.proofs.Common.{◌≡◌, ◌≢◌, ℕ, ◌-◌, true, false, not, ◌==◌, List, [], ◌∷◌, length, get_or, All, Result, Ok, refl, sym, ap, ◌∙◌, subst, arith}
use Rattle.std.proofs.lemmas.Bool.{and_parts, and_from, not-true, eqb-false}
use Rattle.std.proofs.lemmas.List.Folds.{list_all-append}
use Rattle.std.proofs.lemmas.List.Sums.{AllPass-from_list_all}
use Rattle.hx_text.specs.Lines.{is_line_feed, lines_of, words_of}
use Rattle.hx_text.proofs.ReadBack.{lines_of-line}
use Rattle.hx_cluster.specs.declared.description.Spec.{Spec}
use Rattle.hx_print.specs.Texts.{spaced, line_of}
use Rattle.hx_script.specs.declared.What.{What}
use Rattle.hx_script.specs.declared.Line.{Line}
use Rattle.hx_script.specs.declared.faults.ScriptFault.{ScriptFault}
use Rattle.hx_script.specs.Grammar.{spec_after, numbered, script_of}
use Rattle.hx_script.specs.LineTexts.{what_words, line_text, has_names, IsAsked, IsReadAs}
use Rattle.hx_script.proofs.FormsAgain.{verb_again}
use Rattle.hx_script.proofs.Joined.{joined}
use Rattle.hx_script.proofs.LinesAgain.{verb_line, words_are, joined_again}
use Rattle.hx_script.proofs.PlainWords.{is_plain_byte, is_plain, are_plain, plain_words, plain_verb}

-- words that are plain make a plain line
spaced_plain : (ws : List (List ℕ)) → are_plain ws ≡ true → is_plain (spaced ws) ≡ true
spaced_plain [] e = refl
spaced_plain (w ∷ ws) e =
    let parts = and_parts (is_plain w) (are_plain ws) e in
    list_all-append is_plain_byte (32 ∷ w) (spaced ws) ∙ and_from _ _ parts.0 (spaced_plain ws parts.1)

joined_plain : (ws : List (List ℕ)) → are_plain ws ≡ true → is_plain (joined ws) ≡ true
joined_plain [] e = refl
joined_plain (w ∷ ws) e =
    let parts = and_parts (is_plain w) (are_plain ws) e in
    list_all-append is_plain_byte w (spaced ws) ∙ and_from _ _ parts.0 (spaced_plain ws parts.1)

no_line_feed : (line : List ℕ) → is_plain line ≡ true → All (λ b. is_line_feed b ≡ false) line
no_line_feed line plain k d lt = not-true _ (and_parts _ (not (get_or line k d == 13)) (AllPass-from_list_all is_plain_byte line plain k d lt)).0

no_return : (line : List ℕ) → is_plain line ≡ true → get_or line (length line - 1) 0 ≢ 13
no_return [] plain e = cc
no_return (b ∷ bs) plain e =
    let at = get_or (b ∷ bs) (length (b ∷ bs) - 1) 0 in
    eqb-false at 13 (not-true _ (and_parts (not (at == 10)) _ (AllPass-from_list_all is_plain_byte (b ∷ bs) plain (length (b ∷ bs) - 1) 0 (omega arith))).1) e

line_read : (first : List ℕ) (ws : List (List ℕ)) → are_plain (first ∷ ws) ≡ true → lines_of (line_of (first ∷ ws)) ≡ joined (first ∷ ws) ∷ []
line_read first ws plain =
    let line = joined_plain (first ∷ ws) plain in
    lines_of-line (joined (first ∷ ws)) [] (no_line_feed (joined (first ∷ ws)) line) (no_return (joined (first ∷ ws)) line)

pub text_again : (spec : Spec) (what : What) → has_names spec ≡ true → IsAsked spec what → IsReadAs spec (line_text spec what) what
text_again spec what named asked =
    let words = words_are spec what asked in
    let line = verb_line spec (words_of asked.text) what asked.asks in
    let is = words ∙ line.are in
    let plain = and_from (is_plain line.first) (are_plain line.rest) (subst (λ w. is_plain w ≡ true) (verb_again line.first line.verb line.begins) (plain_verb line.verb)) (plain_words spec named line.verb line.rest what line.asks) in
    let lines : lines_of (line_text spec what) ≡ joined (what_words spec what) ∷ [] =
    ap (λ ws. lines_of (line_of ws)) is ∙ line_read line.first line.rest plain ∙ ap (λ ws. joined ws ∷ []) (sym is) in
    let again = joined_again spec what asked in
    ap (λ ls. script_of ls spec) lines
    ∙ ap (λ a. numbered 1 a (Ok ([], spec_after spec (joined (what_words spec what))))) again.0
    ∙ ap (λ (s : Spec). let r : Result (List Line × Spec) ScriptFault = Ok (record { number = 1; what = what } ∷ [], s) in r) again.1
