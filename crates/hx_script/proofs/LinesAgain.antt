-- Lines that are printed are read again.
use Rattle.std.proofs.Common.{◌≡◌, ℕ, ◌+◌, Bool, true, false, List, [], ◌∷◌, ◌++◌, Option, Some, None, Result, Ok, Err, if◌then◌else◌, refl, sym, ap, ◌∙◌, subst}
use Rattle.std.specs.List.{AllByRecursion}
use Rattle.hx_text.specs.Lines.{words_of}
use Rattle.hx_cluster.specs.declared.description.Spec.{Spec}
use Rattle.hx_script.specs.declared.What.{What}
use Rattle.hx_script.specs.declared.Line.{Line}
use Rattle.hx_script.specs.declared.verbs.Verb.{Verb}
use Rattle.hx_script.specs.declared.faults.ScriptKind.{ScriptKind}
use Rattle.hx_script.specs.Grammar.{map_ok, then_ok, is_comment, verb_of, what_of, asked_by_words, asked_by, spec_with, spec_after, line_asked, numbered, script_from}
use Rattle.hx_script.specs.LineTexts.{what_words, IsAsked}
use Rattle.hx_script.specs.Parsing.{KeepsAllButNames}
use Rattle.hx_script.proofs.Scripts.{adds_after, keeps_itself, kept_on}
use Rattle.hx_script.proofs.WordsAgain.{map_ok_from, then_ok_from}
use Rattle.hx_script.proofs.FormsAgain.{verb_words_again, verb_again}
use Rattle.hx_script.proofs.Later.{with_names, later_with, what_later, stands_later}
use Rattle.hx_script.proofs.Joined.{joined, words_of-joined, words_are_words}

-- words that ask for something are a verb and others
pub record IsVerbLine (spec : Spec) (words : List (List ℕ)) (what : What) : Type 0 where
  pub first : List ℕ
  pub rest : List (List ℕ)
  pub verb : Verb
  pub are : words ≡ first ∷ rest
  pub begins : verb_of first ≡ Ok verb
  pub asks : what_of spec verb rest ≡ Ok what

pub verb_line : (spec : Spec) (words : List (List ℕ)) (what : What) → asked_by_words spec words ≡ Ok (Some what) → IsVerbLine spec words what
verb_line spec [] what e = cc
verb_line spec (first ∷ ws) what e = one (is_comment first) e
  where
    one : (b : Bool) → (if b then Ok None else then_ok (verb_of first) (λ verb. map_ok Some (what_of spec verb ws))) ≡ Ok (Some what) → IsVerbLine spec (first ∷ ws) what
    one true e = cc
    one false e =
        let verb = then_ok_from (verb_of first) _ (Some what) e in
        let asked = map_ok_from (λ (w : What). Some w) (what_of spec verb.0 ws) (Some what) verb.2 in
        let same : asked.0 ≡ what = cc in
        record {
          first = first;
          rest = ws;
          verb = verb.0;
          are = refl;
          begins = verb.1;
          asks = asked.1 ∙ ap (λ w. Ok w) same;
        }

-- they are those that are printed
words_again : (spec : Spec) (words : List (List ℕ)) (what : What) → spec_with spec words (Ok (Some what)) ≡ spec → asked_by_words spec words ≡ Ok (Some what) → what_words spec what ≡ words
words_again spec words what known e =
    let line = verb_line spec words what e in
    verb_words_again spec line.verb line.first line.rest what (ap (λ ws. spec_with spec ws (Ok (Some what))) (sym line.are) ∙ known) line.asks
    ∙ ap (λ w. w ∷ line.rest) (verb_again line.first line.verb line.begins)
    ∙ sym line.are

-- words ask for the same with the names of later lines
asked_later : (spec : Spec) (words : List (List ℕ)) (what : Option What) (more : List (List ℕ)) → asked_by_words spec words ≡ Ok what → asked_by_words (later_with spec words what more) words ≡ Ok what
asked_later spec [] what more e = e
asked_later spec (first ∷ ws) what more e = one (is_comment first) e
  where
    one : (b : Bool) → (if b then Ok None else then_ok (verb_of first) (λ verb. map_ok Some (what_of spec verb ws))) ≡ Ok what
        → (if b then Ok None else then_ok (verb_of first) (λ verb. map_ok Some (what_of (later_with spec (first ∷ ws) what more) verb ws))) ≡ Ok what
    one true e = e
    one false e =
        let verb = then_ok_from (verb_of first) _ what e in
        let asked = map_ok_from (λ (w : What). Some w) (what_of spec verb.0 ws) what verb.2 in
        let P : Option What → Type 0 = λ o. then_ok (verb_of first) (λ v. map_ok Some (what_of (later_with spec (first ∷ ws) o more) v ws)) ≡ Ok o in
        subst P asked.2 (ap (λ r. then_ok r (λ v. map_ok Some (what_of (later_with spec (first ∷ ws) (Some asked.0) more) v ws))) verb.1 ∙ ap (map_ok (λ w. Some w)) (what_later spec more verb.0 first ws asked.0 asked.1))

-- what a line asks for is asked for of the description that later lines leave
pub after_is : (spec : Spec) (line : List ℕ) (what : Option What) → asked_by spec line ≡ Ok what → spec_after spec line ≡ spec_with spec (words_of line) (Ok what)
after_is spec line what e = ap (spec_with spec (words_of line)) e

later_is : (spec after : Spec) (line : List ℕ) (what : Option What) (asks : asked_by spec line ≡ Ok what) (kept : KeepsAllButNames (spec_after spec line) after)
    → later_with spec (words_of line) what kept.names.0 ≡ after
later_is spec after line what asks kept =
    let start = adds_after spec line in
    ap (λ (s : Spec). with_names spec (s.resource_names ++ kept.names.0)) (sym (after_is spec line what asks))
    ∙ ap (with_names spec) (sym kept.names.1)
    ∙ sym (ap (λ (s : Spec). with_names s after.resource_names) start.kept.rest)
    ∙ sym kept.rest

asked_after : (spec after : Spec) (line : List ℕ) (what : What) → asked_by spec line ≡ Ok (Some what) → KeepsAllButNames (spec_after spec line) after → IsAsked after what
asked_after spec after line what asks kept =
    let is = later_is spec after line (Some what) asks kept in
    let again : asked_by after line ≡ Ok (Some what) = subst (λ s. asked_by_words s (words_of line) ≡ Ok (Some what)) is (asked_later spec (words_of line) (Some what) kept.names.0 asks) in
    record {
      text = line;
      asks = again;
      known = ap (spec_with after (words_of line)) again ∙ subst (λ s. spec_with s (words_of line) (Ok (Some what)) ≡ s) is (stands_later spec (words_of line) (Some what) kept.names.0);
    }

-- a script by its first line
pub record IsBegun (n : ℕ) (line : List ℕ) (lines : List (List ℕ)) (spec : Spec) (script : List Line) (after : Spec) : Type 0 where
  pub what : Option What
  pub rest : List Line
  pub asks : asked_by spec line ≡ Ok what
  pub more : script_from (n + 1) lines (spec_after spec line) ≡ Ok (rest, after)
  pub whole : script ≡ line_asked n what ++ rest

pub begun : (n : ℕ) (line : List ℕ) (lines : List (List ℕ)) (spec : Spec) (script : List Line) (after : Spec) → script_from n (line ∷ lines) spec ≡ Ok (script, after) → IsBegun n line lines spec script after
begun n line lines spec script after e = one (asked_by spec line) refl e
  where
    one : (asked : Result (Option What) ScriptKind) → asked_by spec line ≡ asked → numbered n asked (script_from (n + 1) lines (spec_after spec line)) ≡ Ok (script, after) → IsBegun n line lines spec script after
    one (Err kind) is e = cc
    one (Ok what) is e =
        let tail = map_ok_from (λ (r : List Line × Spec). (line_asked n what ++ r.0, r.1)) (script_from (n + 1) lines (spec_after spec line)) (script, after) e in
        record {
          what = what;
          rest = tail.0.0;
          asks = is;
          more = tail.1 ∙ ap (λ (s : Spec). Ok (tail.0.0, s)) (ap (λ (r : List Line × Spec). r.1) tail.2);
          whole = sym (ap (λ (r : List Line × Spec). r.0) tail.2);
        }

script_kept : (lines : List (List ℕ)) (n : ℕ) (spec : Spec) (script : List Line) (after : Spec) → script_from n lines spec ≡ Ok (script, after) → KeepsAllButNames spec after
script_kept [] n spec script after e =
    let same : ([], spec) ≡ (script, after) = cc in
    subst (KeepsAllButNames spec) (ap (λ (r : List Line × Spec). r.1) same) (keeps_itself spec)
script_kept (line ∷ lines) n spec script after e =
    let b = begun n line lines spec script after e in
    kept_on spec (spec_after spec line) after (adds_after spec line).kept (script_kept lines (n + 1) (spec_after spec line) b.rest after b.more)

-- each line of a script is asked for
asked_before : (n : ℕ) (after : Spec) (what : Option What) (rest : List Line) → ((w : What) → what ≡ Some w → IsAsked after w) → AllByRecursion (λ (l : Line). IsAsked after l.what) rest
    → AllByRecursion (λ (l : Line). IsAsked after l.what) (line_asked n what ++ rest)
asked_before n after None rest first more = more
asked_before n after (Some w) rest first more = (first w refl, more)

pub lines_asked : (lines : List (List ℕ)) (n : ℕ) (spec : Spec) (script : List Line) (after : Spec) → script_from n lines spec ≡ Ok (script, after) → AllByRecursion (λ (l : Line). IsAsked after l.what) script
lines_asked [] n spec script after e =
    let same : ([], spec) ≡ (script, after) = cc in
    subst (AllByRecursion (λ (l : Line). IsAsked after l.what)) (ap (λ (r : List Line × Spec). r.0) same) tt
lines_asked (line ∷ lines) n spec script after e =
    let b = begun n line lines spec script after e in
    let kept = script_kept lines (n + 1) (spec_after spec line) b.rest after b.more in
    subst (AllByRecursion (λ (l : Line). IsAsked after l.what)) (sym b.whole)
    (asked_before n after b.what b.rest (λ w is. asked_after spec after line w (b.asks ∙ ap (λ o. Ok o) is) kept) (lines_asked lines (n + 1) (spec_after spec line) b.rest after b.more))

-- what is asked for is asked for by what is printed
pub words_are : (spec : Spec) (what : What) (asked : IsAsked spec what) → what_words spec what ≡ words_of asked.text
words_are spec what asked = words_again spec (words_of asked.text) what (ap (spec_with spec (words_of asked.text)) (sym asked.asks) ∙ asked.known) asked.asks

pub joined_again : (spec : Spec) (what : What) → IsAsked spec what → (asked_by spec (joined (what_words spec what)) ≡ Ok (Some what)) × (spec_after spec (joined (what_words spec what)) ≡ spec)
joined_again spec what asked =
    let words = words_are spec what asked in
    let same : words_of (joined (what_words spec what)) ≡ words_of asked.text = ap (λ ws. words_of (joined ws)) words ∙ words_of-joined (words_of asked.text) (words_are_words asked.text) in
    let asks : asked_by spec (joined (what_words spec what)) ≡ Ok (Some what) = ap (asked_by_words spec) same ∙ asked.asks in
    (asks, ap (λ ws. spec_with spec ws (asked_by_words spec ws)) same ∙ asked.known)
