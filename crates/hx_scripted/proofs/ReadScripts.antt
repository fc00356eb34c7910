-- A script that is read leaves its description valid, and a world can be given its lines in turn.
use Rattle.std.proofs.Common.{◌≡◌, ℕ, ◌+◌, ◌≤◌, ◌&&◌, Bool, true, false, List, [], ◌∷◌, ◌++◌, length, length-append, Option, Some, None, Result, Ok, Err, if◌then◌else◌, refl, sym, ap, subst, arith}
use Rattle.std.specs.List.{list_all}
use Rattle.std.specs.Str.{bytes_eq}
use Rattle.std.proofs.lemmas.Bool.Decides.{nat_tests}
use Rattle.hx_text.specs.Spellings.{is_name}
use Rattle.hx_text.specs.Lines.{words_of}
use Rattle.hx_cluster.specs.declared.description.Spec.{Spec}
use Rattle.hx_cluster.specs.Events.{is_later}
use Rattle.hx_cluster.specs.Valid.{are_distinct, IsValid}
use Rattle.hx_pass.specs.Lawful.{IsLawful}
use Rattle.hx_script.specs.declared.What.{What}
use Rattle.hx_script.specs.declared.Line.{Line}
use Rattle.hx_script.specs.declared.faults.ScriptKind.{ScriptKind}
use Rattle.hx_script.specs.Grammar.{two_and_more, asked_by, with_second, with_name, is_add, spec_with, spec_after, line_asked, script_from, script_of}
use Rattle.hx_script.specs.LineTexts.{has_names}
use Rattle.hx_script.specs.Parsing.{KeepsAllButNames}
use Rattle.hx_script.specs.Ranges.{is_line_in_range}
use Rattle.hx_script.proofs.Scripts.{keeps_itself, kept_on, adds_after}
use Rattle.hx_script.proofs.LinesAgain.{begun, lines_asked}
use Rattle.hx_script.proofs.NamesKept.{names_kept}
use Rattle.hx_script.proofs.RangesGiven.{all_asked_in_range}
use Rattle.hx_worlds.specs.Scripts.{is_next_line, are_next_lines, sim_history}
use Rattle.hx_safe.proofs.Counting.{and-first, and-second, and-both}
use Rattle.hx_scripted.proofs.DoingLines.{lawful_scripts}
use Rattle.hx_safe.proofs.Naming.{distinct_interned, valid_with}

-- the lines of a script leave names distinct
distinct_second : (spec : Spec) (words : Result (List ℕ × List ℕ × List (List ℕ)) ScriptKind) → are_distinct bytes_eq spec.resource_names ≡ true
    → are_distinct bytes_eq (with_second spec words).resource_names ≡ true
distinct_second spec (Err kind) each = each
distinct_second spec (Ok words) each = distinct_interned spec.resource_names words.1 each

distinct_if : (spec : Spec) (words : List (List ℕ)) (b : Bool) → are_distinct bytes_eq spec.resource_names ≡ true
    → are_distinct bytes_eq (if b then with_name spec words else spec).resource_names ≡ true
distinct_if spec words true each = distinct_second spec (two_and_more words) each
distinct_if spec words false each = each

distinct_with : (spec : Spec) (words : List (List ℕ)) (asked : Result (Option What) ScriptKind) → are_distinct bytes_eq spec.resource_names ≡ true
    → are_distinct bytes_eq (spec_with spec words asked).resource_names ≡ true
distinct_with spec words (Err kind) each = each
distinct_with spec words (Ok what) each = distinct_if spec words (is_add what) each

-- what a whole script keeps of its description
record IsReadFrom (old new : Spec) : Type 0 where
  kept : KeepsAllButNames old new
  distinct : are_distinct bytes_eq new.resource_names ≡ true

read_from : (lines : List (List ℕ)) (n : ℕ) (spec : Spec) (script : List Line) (after : Spec) → script_from n lines spec ≡ Ok (script, after)
    → are_distinct bytes_eq spec.resource_names ≡ true → IsReadFrom spec after
read_from [] n spec script after e each =
    let same : ([], spec) ≡ (script, after) = cc in
    subst (IsReadFrom spec) (ap (λ (r : List Line × Spec). r.1) same) (record { kept = keeps_itself spec; distinct = each })
read_from (line ∷ lines) n spec script after e each =
    let b = begun n line lines spec script after e in
    let more = read_from lines (n + 1) (spec_after spec line) b.rest after b.more (distinct_with spec (words_of line) (asked_by spec line) each) in
    record { kept = kept_on spec (spec_after spec line) after (adds_after spec line).kept more.kept; distinct = more.distinct }

valid_read : (lines : List (List ℕ)) (spec later : Spec) (script : List Line) → IsValid spec → script_of lines spec ≡ Ok (script, later) → IsValid later
valid_read lines spec later script valid e =
    let distinct = and-second (list_all is_name spec.resource_names) (are_distinct bytes_eq spec.resource_names) valid.resource_names in
    let read = read_from lines 1 spec script later e distinct in
    let named = names_kept lines 1 spec script later e (named_all spec valid) in
    let names : list_all is_name later.resource_names ≡ true = third (list_all is_name later.instances) (list_all is_name later.states) (list_all is_name later.resource_names) (list_all is_name later.model_names) named in
    let longer : length spec.resource_names ≤ length later.resource_names =
    let all = ap length read.kept.names.1 in let both = length-append spec.resource_names read.kept.names.0 in omega (arith, all, both) in
    subst IsValid (sym read.kept.rest)
    (valid_with spec later.resource_names valid (and-both (list_all is_name later.resource_names) (are_distinct bytes_eq later.resource_names) names read.distinct) longer)
  where
    third : (a b d f : Bool) → (a && (b && (d && f))) ≡ true → d ≡ true
    third a b d f is = and-first d f (and-second b (d && f) (and-second a (b && (d && f)) is))

    named_all : (s : Spec) → IsValid s → has_names s ≡ true
    named_all s valid =
        let one = and-first (list_all is_name s.instances) (are_distinct bytes_eq s.instances) valid.instances in
        let two = and-first (list_all is_name s.states) (are_distinct bytes_eq s.states) valid.states in
        let three = and-first (list_all is_name s.resource_names) (are_distinct bytes_eq s.resource_names) valid.resource_names in
        let four = and-first (list_all is_name s.model_names) (are_distinct bytes_eq s.model_names) valid.model_names in
        and-both (list_all is_name s.instances) (list_all is_name s.states && (list_all is_name s.resource_names && list_all is_name s.model_names)) one
        (and-both (list_all is_name s.states) (list_all is_name s.resource_names && list_all is_name s.model_names) two
        (and-both (list_all is_name s.resource_names) (list_all is_name s.model_names) three four))

-- line numbers rise
later-more : (last : Option ℕ) (n : ℕ) → is_later last n ≡ true → is_later last (n + 1) ≡ true
later-more None n is = refl
later-more (Some m) n is = grind (arith, nat_tests, is)

later-next : (n : ℕ) → is_later (Some n) (n + 1) ≡ true
later-next n = grind (arith, nat_tests)

next_before : (spec : Spec) (last : Option ℕ) (n : ℕ) (what : Option What) (rest : List Line) → is_later last n ≡ true → list_all (is_line_in_range spec) (line_asked n what ++ rest) ≡ true
    → ((latest : Option ℕ) → is_later latest (n + 1) ≡ true → list_all (is_line_in_range spec) rest ≡ true → are_next_lines spec latest rest ≡ true)
    → are_next_lines spec last (line_asked n what ++ rest) ≡ true
next_before spec last n None rest later all more = more last (later-more last n later) all
next_before spec last n (Some what) rest later all more =
    let l : Line = record { number = n; what = what } in
    let first = and-first (is_line_in_range spec l) (list_all (is_line_in_range spec) rest) all in
    let others = and-second (is_line_in_range spec l) (list_all (is_line_in_range spec) rest) all in
    and-both (is_next_line spec last l) (are_next_lines spec (Some n) rest) (and-both (is_later last n) (is_line_in_range spec l) later first) (more (Some n) (later-next n) others)

next_from : (lines : List (List ℕ)) (n : ℕ) (spec : Spec) (script : List Line) (after : Spec) (given : Spec) (last : Option ℕ) → script_from n lines spec ≡ Ok (script, after)
    → is_later last n ≡ true → list_all (is_line_in_range given) script ≡ true → are_next_lines given last script ≡ true
next_from [] n spec script after given last e later all =
    let same : ([], spec) ≡ (script, after) = cc in
    subst (λ (ls : List Line). are_next_lines given last ls ≡ true) (ap (λ (r : List Line × Spec). r.0) same) refl
next_from (line ∷ lines) n spec script after given last e later all =
    let b = begun n line lines spec script after e in
    subst (λ (ls : List Line). are_next_lines given last ls ≡ true) (sym b.whole)
    (next_before given last n b.what b.rest later (subst (λ (ls : List Line). list_all (is_line_in_range given) ls ≡ true) b.whole all)
    (λ latest now others. next_from lines (n + 1) (spec_after spec line) b.rest after given latest b.more now others))

next_read : (lines : List (List ℕ)) (spec later : Spec) (script : List Line) → script_of lines spec ≡ Ok (script, later) → are_next_lines later None script ≡ true
next_read lines spec later script e = next_from lines 1 spec script later later None e refl (all_asked_in_range later script (lines_asked lines 1 spec script later e))

pub given_read : (lines : List (List ℕ)) (spec later : Spec) (script : List Line) → IsValid spec → script_of lines spec ≡ Ok (script, later)
    → IsValid later × (are_next_lines later None script ≡ true)
given_read lines spec later script valid e = (valid_read lines spec later script valid e, next_read lines spec later script e)

-- so what is read has a lawful history
pub lawful_read : (lines : List (List ℕ)) (spec later : Spec) (script : List Line) → IsValid spec → script_of lines spec ≡ Ok (script, later) → IsLawful later (sim_history later script)
lawful_read lines spec later script valid e = lawful_scripts later script (valid_read lines spec later script valid e) (next_read lines spec later script e)
