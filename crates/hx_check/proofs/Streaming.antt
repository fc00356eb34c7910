-- A log that is judged from line to line.
use Rattle.std.proofs.Common.{◌≡◌, ℕ, ◌+◌, ◌<◌, ◌≤◌, ◌==◌, ◌&&◌, not, Bool, true, false, List, [], ◌∷◌, length, take, drop, slice_get, Option, Some, None, Result, Ok, Err, refl, sym, ap, ◌∙◌, subst, true≢false, arith}
use Rattle.std.specs.Prelude.{codes, if◌then◌else◌, cond, find}
use Rattle.std.specs.List.{slice_split, onto_first}
use Rattle.std.specs.Cmp.Lexicographic.{pointwise}
use Rattle.std.proofs.lemmas.Bool.{and_parts, eqb-true}
use Rattle.std.proofs.lemmas.Slice.Eq.{bytes_eq-Decides}
use Rattle.std.proofs.lemmas.List.{drop_all}
use Rattle.std.proofs.Math.Seq.{take-append_seam}
use Rattle.hx_text.specs.Lines.{is_space}
use Rattle.hx_cluster.specs.declared.description.Spec.{Spec}
use Rattle.hx_cluster.specs.declared.happenings.Event.{Event}
use Rattle.hx_cluster.specs.declared.happenings.Event.TheVariants as events
use Rattle.hx_script.specs.declared.faults.ScriptKind.{ScriptKind}
use Rattle.hx_script.specs.declared.log.LogEntry.{LogEntry}
use Rattle.hx_script.specs.declared.log.LogLine.{LogLine}
use Rattle.hx_script.specs.declared.log.LogVerb.{LogVerb}
use Rattle.hx_script.specs.declared.log.LogVerb.TheVariants as verbs
use Rattle.hx_script.specs.declared.log.Sort.{Sort}
use Rattle.hx_script.specs.declared.log.Sort.TheVariants as sorts
use Rattle.hx_script.specs.declared.faults.ScriptKind.TheVariants as kinds
use Rattle.hx_script.specs.Grammar.{then_ok, or_fault}
use Rattle.hx_script.specs.Logs.{exact_words, told_by, all_log_verbs, is_log_verb, log_verb_of, told_words, entry_of, entry_told, sort_of, with_added, lines_before, log_of}
use Rattle.hx_pass.specs.Plans.{plan}
use Rattle.hx_script.specs.Parsing.{KeepsAllButNames}
use Rattle.hx_script.proofs.Scripts.{keeps_itself, kept_on}
use Rattle.hx_safe.proofs.Fixed.{fixed_next}
use Rattle.hx_safe.proofs.Counting.{find-passes}
use Rattle.hx_logs.specs.Walk.{line_at, indented_before}
use Rattle.hx_logs.proofs.Added.{kept_on_entry, few_on_entry}
use Rattle.hx_logs.proofs.Walking.{left_from, after_remark, after_indented, after_loose, after_head, line_there}
use Rattle.hx_check.specs.declared.Cause.{Cause}
use Rattle.hx_check.specs.declared.Cause.TheVariants as causes
use Rattle.hx_check.specs.declared.Verdict.{Verdict}
use Rattle.hx_check.specs.declared.Verdict.TheVariants as verdicts
use Rattle.hx_check.specs.Standing.{Standing, opening_standing, turn_in, stood_after}
use Rattle.hx_check.specs.Answers.{answered}
use Rattle.hx_check.specs.Judge.{is_in_turn, same_proposal, is_planned, is_fetched, judged, judged_answer, judged_entry, goes_on, judged_from, verdict_of}
use Rattle.hx_check.specs.Judging.{IsJudgedAs}
use Rattle.hx_check.specs.Streams.{may_add, entry_at, named_at, names_left, IsReadableFrom}
use Rattle.hx_check.proofs.LogsValid.{is_add_verb, others_add_nothing, adds_nothing}

-- the first part of a line that is cut
first_of : (p : ℕ → Bool) (line : List ℕ) (x : ℕ) (w : List ℕ) (ws : List (List ℕ)) → slice_split p line ≡ (x ∷ w) ∷ ws → (rest : List ℕ) × (line ≡ x ∷ rest) × ((more : List (List ℕ)) × (slice_split p rest ≡ w ∷ more))
first_of p [] x w ws e = cc
first_of p (y ∷ ys) x w ws e = one (p y) (slice_split p ys) refl e
  where
    one : (b : Bool) (parts : List (List ℕ)) → slice_split p ys ≡ parts → cond b ([] ∷ slice_split p ys) (onto_first y parts) ≡ (x ∷ w) ∷ ws
        → (rest : List ℕ) × (y ∷ ys ≡ x ∷ rest) × ((more : List (List ℕ)) × (slice_split p rest ≡ w ∷ more))
    one true parts is e = cc
    one false [] is e = absurd (some p ys is)
      where
        some : (p : ℕ → Bool) (ys : List ℕ) → slice_split p ys ≡ [] → ⊥
        some p [] e = cc
        some p (z ∷ zs) e = both (p z) (slice_split p zs) e
          where
            both : (b : Bool) (parts : List (List ℕ)) → cond b ([] ∷ slice_split p zs) (onto_first z parts) ≡ [] → ⊥
            both true parts e = cc
            both false [] e = cc
            both false (v ∷ vs) e = cc
    one false (v ∷ vs) is e = let heads : y ≡ x = cc in let tails : v ≡ w = cc in (ys, ap (λ z. z ∷ ys) heads, (vs, is ∙ ap (λ u. u ∷ vs) tails))

add_from : (line : List ℕ) (ws : List (List ℕ)) → slice_split is_space line ≡ codes "add" ∷ ws → may_add line ≡ true
add_from line ws e =
    let one = first_of is_space line 97 (codes "dd") ws e in
    let two = first_of is_space one.0 100 (codes "d") one.2.0 one.2.1 in
    let three = first_of is_space two.0 100 [] two.2.0 two.2.1 in
    ap may_add (one.1 ∙ ap (λ l. 97 ∷ l) two.1 ∙ ap (λ l. 97 ∷ 100 ∷ l) three.1)

-- a line that doesn't begin as an `add` entry brings no name
verb_is : (w : List ℕ) → log_verb_of w ≡ Ok verbs.Add → w ≡ codes "add"
verb_is w e = one (find (is_log_verb w) all_log_verbs) refl e
  where
    one : (o : Option LogVerb) → find (is_log_verb w) all_log_verbs ≡ o → or_fault kinds.UnknownWord o ≡ Ok verbs.Add → w ≡ codes "add"
    one None is e = cc
    one (Some verb) is e =
        let same : verb ≡ verbs.Add = cc in
        sym ((bytes_eq-Decides (codes "add") w).0 (find-passes (is_log_verb w) all_log_verbs verbs.Add (is ∙ ap Some same)))

verb_adds_nothing : (spec : Spec) (words ls : List (List ℕ)) (verb : LogVerb) (ws : List (List ℕ)) → is_add_verb verb ≡ false → with_added spec words (entry_of (told_by spec verb ws ls)) ≡ spec
verb_adds_nothing spec words ls verb ws other = one (told_by spec verb ws ls) refl
  where
    one : (r : Result LogEntry ScriptKind) → told_by spec verb ws ls ≡ r → with_added spec words (entry_of r) ≡ spec
    one (Err kind) is = refl
    one (Ok e) is = adds_nothing spec words e (others_add_nothing spec verb ws ls e other is)

words_add_nothing : (spec : Spec) (line : List ℕ) (words ls : List (List ℕ)) → exact_words line ≡ words → may_add line ≡ false → with_added spec words (entry_of (told_words spec words ls)) ≡ spec
words_add_nothing spec line [] ls cut other = refl
words_add_nothing spec line (w ∷ ws) ls cut other = one (log_verb_of w) refl
  where
    none : log_verb_of w ≡ Ok verbs.Add → ⊥
    none is = true≢false (sym (add_from line ws (cut ∙ ap (λ v. v ∷ ws) (verb_is w is))) ∙ other)

    by : (verb : LogVerb) (b : Bool) → is_add_verb verb ≡ b → log_verb_of w ≡ Ok verb → with_added spec (w ∷ ws) (entry_of (told_by spec verb ws ls)) ≡ spec
    by verb false differs is = verb_adds_nothing spec (w ∷ ws) ls verb ws differs
    by verbs.Add true same is = absurd (none is)
    by verb true same is = cc

    one : (r : Result LogVerb ScriptKind) → log_verb_of w ≡ r → with_added spec (w ∷ ws) (entry_of (then_ok r (λ verb. told_by spec verb ws ls))) ≡ spec
    one (Err kind) is = refl
    one (Ok verb) is = by verb (is_add_verb verb) refl is

pub line_adds_nothing : (spec : Spec) (line : List ℕ) (indented : List (List ℕ)) → may_add line ≡ false → with_added spec (exact_words line) (entry_told spec line indented) ≡ spec
line_adds_nothing spec line indented other = words_add_nothing spec line (exact_words line) indented refl other

-- and one that does is an entry
pub add_is_head : (line : List ℕ) → may_add line ≡ true → sort_of line ≡ sorts.Head
add_is_head [] e = cc
add_is_head (a ∷ []) e = cc
add_is_head (a ∷ b ∷ []) e = cc
add_is_head (a ∷ b ∷ c ∷ rest) e =
    let first = eqb-true a 97 (and_parts (a == 97) (b == 100) (and_parts ((a == 97) && (b == 100)) (c == 100) e).0).0 in
    ap (λ x. sort_of (x ∷ b ∷ c ∷ rest)) first

-- the names that a line leaves to those behind it
same_named : (spec : Spec) (lines : List (List ℕ)) (i : ℕ) (line : List ℕ) → slice_get lines i ≡ Some line
    → with_added spec (exact_words line) (entry_told spec line (indented_before (drop (i + 1) lines))) ≡ named_at spec i lines
same_named spec lines i line at = ap (λ l. with_added spec (exact_words l) (entry_told spec l (indented_before (drop (i + 1) lines)))) (sym (line_there lines i line at))

whole_front : (rest : List LogLine × Spec) → rest ≡ lines_before [] rest
whole_front rest = refl

pub names_past_head : (begun : Bool) (spec : Spec) (lines : List (List ℕ)) (i : ℕ) (line : List ℕ) → slice_get lines i ≡ Some line → sort_of line ≡ sorts.Head
    → left_from begun spec (i + 1) (drop i lines)
    ≡ lines_before ((record { line = i + 1; entry = entry_at spec i lines }) ∷ []) (left_from true (named_at spec i lines) (i + 1 + 1) (drop (i + 1) lines))
names_past_head begun spec lines i line at is =
    after_head begun spec (named_at spec i lines) lines i line (entry_at spec i lines) [] (left_from begun spec (i + 1) (drop i lines)) at is refl refl (whole_front (left_from begun spec (i + 1) (drop i lines)))

pub names_at_add : (spec : Spec) (lines : List (List ℕ)) (i : ℕ) (line : List ℕ) → slice_get lines i ≡ Some line → may_add line ≡ true
    → names_left spec i lines ≡ names_left (named_at spec i lines) (i + 1) lines
names_at_add spec lines i line at may = ap (λ r. r.1) (names_past_head true spec lines i line at (add_is_head line may))

pub names_at_other : (spec : Spec) (lines : List (List ℕ)) (i : ℕ) (line : List ℕ) → slice_get lines i ≡ Some line → may_add line ≡ false
    → names_left spec i lines ≡ names_left spec (i + 1) lines
names_at_other spec lines i line at other = by (sort_of line) refl
  where
    whole : List LogLine × Spec
    whole = left_from true spec (i + 1) (drop i lines)

    by : (s : Sort) → sort_of line ≡ s → names_left spec i lines ≡ names_left spec (i + 1) lines
    by sorts.PassedOver is = ap (λ r. r.1) (after_remark true spec lines i line [] whole at is (whole_front whole))
    by sorts.Indented is = ap (λ r. r.1) (after_indented spec lines i line [] whole at is (whole_front whole))
    by sorts.Head is =
        ap (λ r. r.1) (names_past_head true spec lines i line at is)
        ∙ ap (λ s. names_left s (i + 1) lines) (sym (same_named spec lines i line at) ∙ line_adds_nothing spec line (indented_before (drop (i + 1) lines)) other)

pub names_end : (spec : Spec) (lines : List (List ℕ)) (n : ℕ) → length lines ≤ n → names_left spec n lines ≡ spec
names_end spec lines n past = ap (λ ls. (left_from true spec (n + 1) ls).1) (drop_all n lines past)

-- only the models and the rules of a description count
planned_alike : (a b : Spec) (w : Standing) (e : Event) → a.models ≡ b.models → a.rules ≡ b.rules → is_planned a w e ≡ is_planned b w e
planned_alike a b w (events.Dispatch k epoch pass proposals answer) models rules =
    (λ i. pointwise same_proposal proposals (plan (models i) (rules i) (turn_in w k).view).proposals)
planned_alike a b w _ models rules = refl

pub judged_alike : (a b : Spec) (w : Standing) (o : Option LogEntry) → a.models ≡ b.models → a.rules ≡ b.rules → judged_entry a w o ≡ judged_entry b w o
judged_alike a b w None models rules = refl
judged_alike a b w (Some entry) models rules = one (answered w entry)
  where
    one : (o : Option Event) → judged_answer a w o ≡ judged_answer b w o
    one None = refl
    one (Some e) =
        ap (λ (planned : Bool). if not (is_in_turn w e) then Err causes.Order else if not planned then Err causes.Plan else if not (is_fetched w e) then Err causes.Fetch else Ok e) (planned_alike a b w e models rules)

pub all_alike : (a b : Spec) (w : Standing) (n : ℕ) (ls : List LogLine) → a.models ≡ b.models → a.rules ≡ b.rules → judged_from a w n ls ≡ judged_from b w n ls
all_alike a b w n [] models rules = refl
all_alike a b w n (l ∷ ls) models rules =
    ap (λ r. goes_on l.line r (λ e. judged_from a (stood_after w e) (n + 1) ls)) (judged_alike a b w l.entry models rules)
    ∙ one (judged_entry b w l.entry) (λ e. all_alike a b (stood_after w e) (n + 1) ls models rules)
  where
    one : (r : Result Event Cause) → ((e : Event) → judged_from a (stood_after w e) (n + 1) ls ≡ judged_from b (stood_after w e) (n + 1) ls)
        → goes_on l.line r (λ e. judged_from a (stood_after w e) (n + 1) ls) ≡ goes_on l.line r (λ e. judged_from b (stood_after w e) (n + 1) ls)
    one (Err cause) same = refl
    one (Ok e) same = same e

-- what an entry's line leaves of a description
added_alike : (spec after : Spec) (words : List (List ℕ)) (entry : Option LogEntry) → after ≡ with_added spec words entry → KeepsAllButNames spec after
added_alike spec after words entry is = kept_on_entry spec spec after words entry is (keeps_itself spec)

pub kept_both : (old spec after : Spec) → KeepsAllButNames old spec → KeepsAllButNames spec after → KeepsAllButNames old after
kept_both old spec after kept more = kept_on old spec after kept more

pub models_kept : (old new : Spec) → KeepsAllButNames old new → new.models ≡ old.models
models_kept old new kept = ap (λ (s : Spec). s.models) kept.rest

pub rules_kept : (old new : Spec) → KeepsAllButNames old new → new.rules ≡ old.rules
rules_kept old new kept = ap (λ (s : Spec). s.rules) kept.rest

pub kept_at : (spec after : Spec) (place : ℕ) (lines : List (List ℕ)) → after ≡ named_at spec place lines → KeepsAllButNames spec after
kept_at spec after place lines is = added_alike spec after (exact_words (line_at lines place)) (entry_at spec place lines) is

pub readable_past : (spec : Spec) (place : ℕ) (lines : List (List ℕ)) → IsReadableFrom spec place lines → place < length lines → IsReadableFrom spec (place + 1) lines
readable_past spec place lines readable lt = record {
  models = readable.models;
  states = readable.states;
  within = omega (arith, lt);
  names = omega (arith, readable.names, lt);
}

pub readable_on : (spec after : Spec) (place : ℕ) (lines : List (List ℕ)) → IsReadableFrom spec place lines → place < length lines → after ≡ named_at spec place lines
    → IsReadableFrom after (place + 1) lines
readable_on spec after place lines readable lt is =
    let kept = kept_at spec after place lines is in
    let few = few_on_entry spec spec after (exact_words (line_at lines place)) (entry_at spec place lines) 0 is (omega arith) in
    record {
      models = omega (arith, readable.models, ap (λ (s : Spec). length s.model_names) kept.rest);
      states = omega (arith, readable.states, ap (λ (s : Spec). length s.states) kept.rest);
      within = omega (arith, lt);
      names = omega (arith, readable.names, lt, few);
    }

-- an entry that is judged by the description behind its line
pub head_judged : (spec after : Spec) (w v : Standing) (place : ℕ) (lines : List (List ℕ)) (entry : LogEntry) (cause : Option Cause) → Some entry ≡ entry_at spec place lines
    → after ≡ with_added spec (exact_words (line_at lines place)) (Some entry) → IsJudgedAs w (judged_entry after w (Some entry)) cause v
    → IsJudgedAs w (judged_entry spec w (entry_at spec place lines)) cause v
head_judged spec after w v place lines entry cause told is judged =
    let kept = added_alike spec after (exact_words (line_at lines place)) (Some entry) is in
    subst (λ (o : Option LogEntry). IsJudgedAs w (judged_entry spec w o) cause v) told
    (subst (λ (r : Result Event Cause). IsJudgedAs w r cause v) (judged_alike after spec w (Some entry) (models_kept spec after kept) (rules_kept spec after kept)) judged)

-- the judge goes on, or stops
pub went_on : (w v : Standing) (r : Result Event Cause) → IsJudgedAs w r None v → (e : Event) × (r ≡ Ok e) × (v ≡ stood_after w e)
went_on w v (Ok e) is = (e, refl, is.1)
went_on w v (Err cause) is = cc

pub stopped : (w v : Standing) (r : Result Event Cause) (cause : Cause) → IsJudgedAs w r (Some cause) v → r ≡ Err cause
stopped w v (Ok e) cause is = cc (is.0)
stopped w v (Err fault) cause is = let same : fault ≡ cause = cc in ap Err same

-- the verdict on the lines from a place on
pub past_remark : (full : Spec) (w : Standing) (n : ℕ) (begun : Bool) (spec : Spec) (i : ℕ) (lines : List (List ℕ)) (line : List ℕ) → slice_get lines i ≡ Some line → sort_of line ≡ sorts.PassedOver
    → judged_from full w n (left_from begun spec (i + 1) (drop i lines)).0 ≡ judged_from full w n (left_from begun spec (i + 1 + 1) (drop (i + 1) lines)).0
past_remark full w n begun spec i lines line at is =
    ap (λ r. judged_from full w n r.0) (after_remark begun spec lines i line [] (left_from begun spec (i + 1) (drop i lines)) at is (whole_front (left_from begun spec (i + 1) (drop i lines))))

pub past_indented : (full : Spec) (w : Standing) (n : ℕ) (spec : Spec) (i : ℕ) (lines : List (List ℕ)) (line : List ℕ) → slice_get lines i ≡ Some line → sort_of line ≡ sorts.Indented
    → judged_from full w n (left_from true spec (i + 1) (drop i lines)).0 ≡ judged_from full w n (left_from true spec (i + 1 + 1) (drop (i + 1) lines)).0
past_indented full w n spec i lines line at is =
    ap (λ r. judged_from full w n r.0) (after_indented spec lines i line [] (left_from true spec (i + 1) (drop i lines)) at is (whole_front (left_from true spec (i + 1) (drop i lines))))

pub at_loose : (full : Spec) (w : Standing) (n : ℕ) (spec : Spec) (i : ℕ) (lines : List (List ℕ)) (line : List ℕ) → slice_get lines i ≡ Some line → sort_of line ≡ sorts.Indented
    → judged_from full w n (left_from false spec (i + 1) (drop i lines)).0 ≡ verdicts.Unlawful (i + 1) causes.Grammar
at_loose full w n spec i lines line at is =
    ap (λ r. judged_from full w n r.0) (after_loose spec lines i line [] (left_from false spec (i + 1) (drop i lines)) at is (whole_front (left_from false spec (i + 1) (drop i lines))))

pub at_fault : (full : Spec) (w v : Standing) (n : ℕ) (begun : Bool) (spec : Spec) (i : ℕ) (lines : List (List ℕ)) (line : List ℕ) (cause : Cause) → slice_get lines i ≡ Some line → sort_of line ≡ sorts.Head
    → KeepsAllButNames full spec → IsJudgedAs w (judged_entry spec w (entry_at spec i lines)) (Some cause) v
    → judged_from full w n (left_from begun spec (i + 1) (drop i lines)).0 ≡ verdicts.Unlawful (i + 1) cause
at_fault full w v n begun spec i lines line cause at is kept judged =
    let rest = left_from true (named_at spec i lines) (i + 1 + 1) (drop (i + 1) lines) in
    ap (λ r. judged_from full w n r.0) (names_past_head begun spec lines i line at is)
    ∙ ap (λ r. goes_on (i + 1) r (λ e. judged_from full (stood_after w e) (n + 1) rest.0))
    (sym (judged_alike spec full w (entry_at spec i lines) (models_kept full spec kept) (rules_kept full spec kept)) ∙ stopped w v _ cause judged)

pub past_head : (full : Spec) (w v : Standing) (n : ℕ) (begun : Bool) (spec : Spec) (i : ℕ) (lines : List (List ℕ)) (line : List ℕ) → slice_get lines i ≡ Some line → sort_of line ≡ sorts.Head
    → KeepsAllButNames full spec → IsJudgedAs w (judged_entry spec w (entry_at spec i lines)) None v
    → judged_from full w n (left_from begun spec (i + 1) (drop i lines)).0
    ≡ judged_from full v (n + 1) (left_from true (named_at spec i lines) (i + 1 + 1) (drop (i + 1) lines)).0
past_head full w v n begun spec i lines line at is kept judged =
    let rest = left_from true (named_at spec i lines) (i + 1 + 1) (drop (i + 1) lines) in
    let went = went_on w v _ judged in
    ap (λ r. judged_from full w n r.0) (names_past_head begun spec lines i line at is)
    ∙ ap (λ r. goes_on (i + 1) r (λ e. judged_from full (stood_after w e) (n + 1) rest.0))
    (sym (judged_alike spec full w (entry_at spec i lines) (models_kept full spec kept) (rules_kept full spec kept)) ∙ went.1)
    ∙ ap (λ x. judged_from full x (n + 1) rest.0) (sym went.2)

pub past_all : (full : Spec) (w : Standing) (n : ℕ) (begun : Bool) (spec : Spec) (i : ℕ) (lines : List (List ℕ)) → length lines ≤ i
    → judged_from full w n (left_from begun spec (i + 1) (drop i lines)).0 ≡ verdicts.Lawful n
past_all full w n begun spec i lines past = ap (λ ls. judged_from full w n (left_from begun spec (i + 1) ls).0) (drop_all i lines past) ∙ none begun
  where
    none : (b : Bool) → judged_from full w n (left_from b spec (i + 1) []).0 ≡ verdicts.Lawful n
    none true = refl
    none false = refl

-- the names behind a line that brings none
pub names_past_other : (spec : Spec) (lines : List (List ℕ)) (i : ℕ) (line : List ℕ) (s : Sort) → slice_get lines i ≡ Some line → sort_of line ≡ s → (s ≡ sorts.Head → ⊥)
    → names_left spec i lines ≡ names_left spec (i + 1) lines
names_past_other spec lines i line sorts.PassedOver at is other = ap (λ r. r.1) (after_remark true spec lines i line [] (left_from true spec (i + 1) (drop i lines)) at is (whole_front (left_from true spec (i + 1) (drop i lines))))
names_past_other spec lines i line sorts.Indented at is other = ap (λ r. r.1) (after_indented spec lines i line [] (left_from true spec (i + 1) (drop i lines)) at is (whole_front (left_from true spec (i + 1) (drop i lines))))
names_past_other spec lines i line sorts.Head at is other = absurd (other refl)

pub names_past_entry : (spec : Spec) (lines : List (List ℕ)) (i : ℕ) (line : List ℕ) → slice_get lines i ≡ Some line → sort_of line ≡ sorts.Head
    → names_left spec i lines ≡ names_left (named_at spec i lines) (i + 1) lines
names_past_entry spec lines i line at is = ap (λ r. r.1) (names_past_head true spec lines i line at is)

-- how far lines were judged: the verdict on those that are left, from the standing behind those that were read, is that on all
pub record IsJudgedTo (given : Spec) (judge : Standing) (lines : List (List ℕ)) (spec : Spec) (now : Standing) (place entries : ℕ) (begun : Bool) : Type 0 where
  pub verdict : judged_from given judge 0 (log_of given lines).0 ≡ judged_from given now entries (left_from begun spec (place + 1) (drop place lines)).0
  pub names : (log_of given lines).1 ≡ names_left spec place lines
  pub readable : IsReadableFrom spec place lines
  pub kept : KeepsAllButNames given spec
  pub models : spec.models ≡ now.cluster.models
  pub counted : entries ≤ place

-- a line that begins no entry leaves it so
pub judged_past : (given : Spec) (judge : Standing) (lines : List (List ℕ)) (spec : Spec) (now : Standing) (place entries : ℕ) (begun : Bool) (line : List ℕ) (s : Sort)
    → IsJudgedTo given judge lines spec now place entries begun → slice_get lines place ≡ Some line → sort_of line ≡ s → (s ≡ sorts.Head → ⊥) → place < length lines
    → judged_from given now entries (left_from begun spec (place + 1) (drop place lines)).0 ≡ judged_from given now entries (left_from begun spec (place + 1 + 1) (drop (place + 1) lines)).0
    → IsJudgedTo given judge lines spec now (place + 1) entries begun
judged_past given judge lines spec now place entries begun line s h at is other lt same = record {
  verdict = h.verdict ∙ same;
  names = h.names ∙ names_past_other spec lines place line s at is other;
  readable = readable_past spec place lines h.readable lt;
  kept = h.kept;
  models = h.models;
  counted = omega (arith, h.counted);
}

pub models_on : (w v : Standing) (r : Result Event Cause) → IsJudgedAs w r None v → v.cluster.models ≡ w.cluster.models
models_on w v r is = let went = went_on w v r is in ap (λ (x : Standing). x.cluster.models) went.2 ∙ (fixed_next w.cluster went.0).models

-- the description behind a line that was read
pub named_told : (spec after : Spec) (place : ℕ) (lines : List (List ℕ)) (entry : Option LogEntry) → entry ≡ entry_at spec place lines → after ≡ with_added spec (exact_words (line_at lines place)) entry
    → after ≡ named_at spec place lines
named_told spec after place lines entry told is = is ∙ ap (with_added spec (exact_words (line_at lines place))) told

-- a description whose names are taken back
pub restored : (old new : Spec) (names : List (List ℕ)) → KeepsAllButNames old new → names ≡ take (length old.resource_names) new.resource_names → record new { resource_names = names } ≡ old
restored old new names kept is =
    ap (λ (s : Spec). record s { resource_names = names }) kept.rest
    ∙ ap (λ (ns : List (List ℕ)). record old { resource_names = ns })
    (is ∙ ap (take (length old.resource_names)) kept.names.1 ∙ take-append_seam old.resource_names kept.names.0)

-- the verdict by the description with all names, which only opens the standing
pub whole_verdict : (spec full back : Spec) (judge : Standing) (lines : List (List ℕ)) (v : Verdict) → full ≡ (log_of spec lines).1 → KeepsAllButNames spec full → back ≡ spec
    → judge ≡ opening_standing full → v ≡ judged_from back judge 0 (log_of back lines).0 → v ≡ verdict_of spec lines
whole_verdict spec full back judge lines v whole kept same opens is =
    is
    ∙ ap (λ (s : Spec). judged_from s judge 0 (log_of s lines).0) same
    ∙ ap (λ (w : Standing). judged_from spec w 0 (log_of spec lines).0) opens
    ∙ all_alike spec full (opening_standing full) 0 (log_of spec lines).0 (sym (models_kept spec full kept)) (sym (rules_kept spec full kept))
    ∙ ap (λ (s : Spec). judged_from s (opening_standing s) 0 (log_of spec lines).0) whole
