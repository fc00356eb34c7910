-- The lines of the script that is made are short texts, and are read without fault.
use Rattle.std.proofs.Common.{◌≡◌, ℕ, ◌+◌, ◌≤◌, Bool, true, false, ◌&&◌, nat_le, nat_lt, List, [], ◌∷◌, length, None, Ok, refl, ap, ◌∙◌, arith}
use Rattle.std.specs.Char.{encode_utf8}
use Rattle.std.specs.Fmt.{digits}
use Rattle.std.specs.List.{list_all}
use Rattle.std.specs.Option.{option_or}
use Rattle.std.specs.Str.{is_utf8, chars}
use Rattle.std.proofs.lemmas.Bool.{and_parts, leb-true}
use Rattle.std.proofs.lemmas.Bool.Decides.{nat_tests}
use Rattle.hx_text.specs.Lines.{lines_of}
use Rattle.hx_text.specs.Faults.{line_fault, first_fault, lines_fault}
use Rattle.hx_cluster.specs.declared.description.Spec.{Spec}
use Rattle.hx_script.specs.Grammar.{script_of}
use Rattle.hx_genwork.specs.Made.{script}
use Rattle.hx_app.specs.Asked.{all_names, all_asked}
use Rattle.hx_app.specs.Described.{made_spec}

abbrev is_short_text : List ℕ → Bool
is_short_text line = is_utf8 line && nat_le (length line) 11

not_less : (a b : ℕ) → b ≤ a → nat_lt a b ≡ false
not_less a b le = grind (arith, nat_tests)

short_texts : list_all is_short_text (lines_of script) ≡ true
unfolding digits is_utf8 chars encode_utf8
short_texts = refl

no_line_fault : (most number : ℕ) (line : List ℕ) → 11 ≤ most → is_short_text line ≡ true → line_fault most number line ≡ None
no_line_fault most number line room short =
    let p = and_parts (is_utf8 line) _ short in
    let fits : length line ≤ 11 = leb-true (length line) 11 p.1 in
    rw (p.0, not_less most (length line) (omega arith)) refl

no_fault : (most number : ℕ) (lines : List (List ℕ)) → 11 ≤ most → list_all is_short_text lines ≡ true → first_fault most number lines ≡ None
no_fault most number [] room short = refl
no_fault most number (line ∷ lines) room short =
    let p = and_parts (is_short_text line) _ short in
    ap (λ f. option_or f (first_fault most (number + 1) lines)) (no_line_fault most number line room p.0) ∙ no_fault most (number + 1) lines room p.1

pub lines_fault-script : (most : ℕ) → 11 ≤ most → lines_fault most script ≡ None
lines_fault-script most room = no_fault most 1 (lines_of script) room short_texts

-- on any description of these instances and two controllers
script_on : (spec : Spec) → script_of (lines_of script) (record spec { instances = all_names; controllers = 2 }) ≡ Ok (all_asked, record spec { instances = all_names; controllers = 2 })
unfolding digits
script_on spec = refl

pub script_of-script : (seed size : ℕ) → script_of (lines_of script) (made_spec seed size) ≡ Ok (all_asked, made_spec seed size)
script_of-script seed size = script_on (made_spec seed size)

pub length-script : length script ≤ 600
unfolding digits
length-script = omega arith
