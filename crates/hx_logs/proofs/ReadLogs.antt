-- The log that a history is read from is the history's text.
use Rattle.std.proofs.Common.{◌≡◌, ℕ, ◌+◌, Bool, true, false, ◌==◌, ◌&&◌, List, [], ◌∷◌, ◌++◌, map, filter, drop, Some, None, Result, Ok, Err, if◌then◌else◌, refl, sym, ap, ◌∙◌, subst}
use Rattle.std.proofs.lemmas.Bool.{and_parts, eqb-true}
use Rattle.std.proofs.lemmas.Grind.{flat_map-append}
use Rattle.std.specs.List.{flat_map, before_first}
use Rattle.hx_ids.specs.Names.{place_after}
use Rattle.hx_cluster.specs.declared.description.Spec.{Spec}
use Rattle.hx_cluster.specs.declared.state.Cluster.{Cluster}
use Rattle.hx_cluster.specs.declared.happenings.Event.{Event}
use Rattle.hx_cluster.specs.Events.{next, IsLegal}
use Rattle.hx_cluster.specs.Valid.{are_names, IsValid}
use Rattle.hx_print.specs.Texts.{name_at, roll_of, log_text}
use Rattle.hx_script.specs.declared.faults.ScriptKind.{ScriptKind}
use Rattle.hx_script.specs.declared.log.LogLine.{LogLine}
use Rattle.hx_script.specs.declared.log.LogEntry.{LogEntry}
use Rattle.hx_script.specs.declared.log.LogEntry.TheVariants as logs
use Rattle.hx_script.specs.declared.log.Sort.{Sort}
use Rattle.hx_script.specs.declared.log.Sort.TheVariants as sorts
use Rattle.hx_script.specs.LogEntries.{entry_told_by}
use Rattle.hx_script.specs.Logs.{Block, Blocks, is_remark, sort_of, with_line, blocks_from, exact_words, told_words, entry_of, entry_told, is_hash, second_word, with_added, told_entries, loose_line, log_of}
use Rattle.hx_script.specs.Parsing.{KeepsAllButNames}
use Rattle.hx_script.proofs.Joined.{joined}
use Rattle.hx_script.proofs.Later.{with_names}
use Rattle.hx_script.proofs.Scripts.{keeps_itself, kept_on}
use Rattle.hx_logs.specs.Kept.{is_kept, kept_text}
use Rattle.hx_logs.proofs.OnRoll.{has_names, is_on_roll, are_on_roll, history_on_roll}
use Rattle.hx_logs.specs.Printed.{told_along}
use Rattle.hx_logs.proofs.Added.{adds_entry}
use Rattle.hx_logs.proofs.EntriesRead.{indented_told}
use Rattle.hx_logs.proofs.EntriesPrinted.{HasAdded, joined_exact, entry_printed}
use Rattle.hx_logs.proofs.PrintedLogs.{behind_two, lines_told, lines_if, ended_line_of, text_of, events_text, tells}
use Rattle.hx_logs.proofs.WordsPrinted.{HasMore, name_longer, name_added}

-- the lines of an entry, and the lines of a log that are kept
abbrev block_lines : Block → List (List ℕ)
block_lines b = b.line ∷ map behind_two b.indented

abbrev kept_lines : List (List ℕ) → List (List ℕ)
kept_lines lines = filter (λ l. is_kept (sort_of l)) lines

indented_whole : (l : List ℕ) → sort_of l ≡ sorts.Indented → l ≡ behind_two (drop 2 l)
indented_whole [] e = cc
indented_whole (a ∷ []) e = one (is_remark a) e
  where
    one : (r : Bool) → (if r then sorts.PassedOver else sorts.Head) ≡ sorts.Indented → a ∷ [] ≡ behind_two (drop 2 (a ∷ []))
    one true e = cc
    one false e = cc
indented_whole (a ∷ b ∷ bs) e = one (is_remark a) ((a == 32) && (b == 32)) refl e
  where
    one : (r s : Bool) → ((a == 32) && (b == 32)) ≡ s → (if r then sorts.PassedOver else if s then sorts.Indented else sorts.Head) ≡ sorts.Indented → a ∷ b ∷ bs ≡ behind_two (drop 2 (a ∷ b ∷ bs))
    one true s is e = cc
    one false true is e = let both = and_parts (a == 32) (b == 32) is in ap (λ x. x ∷ b ∷ bs) (eqb-true a 32 both.0) ∙ ap (λ x. 32 ∷ x ∷ bs) (eqb-true b 32 both.1)
    one false false is e = cc

-- they are those of its entries behind the loose ones
abbrev lines_in : Blocks → List (List ℕ)
lines_in b = map behind_two (map (λ x. x.1) b.loose) ++ flat_map block_lines b.entries

kept_blocks : (n : ℕ) (lines : List (List ℕ)) → kept_lines lines ≡ lines_in (blocks_from n lines)
kept_blocks n [] = refl
kept_blocks n (l ∷ ls) = one (sort_of l) refl (kept_blocks (n + 1) ls)
  where
    one : (s : Sort) → sort_of l ≡ s → kept_lines ls ≡ lines_in (blocks_from (n + 1) ls) → (if is_kept s then l ∷ kept_lines ls else kept_lines ls) ≡ lines_in (with_line n l s (blocks_from (n + 1) ls))
    one sorts.PassedOver is rest = rest
    one sorts.Indented is rest = ap (λ t. t ∷ kept_lines ls) (indented_whole l is) ∙ ap (λ ts. behind_two (drop 2 l) ∷ ts) rest
    one sorts.Head is rest = ap (λ ts. l ∷ ts) rest

-- entries keep all of a description but its names
told_kept : (spec : Spec) (bs : List Block) → KeepsAllButNames spec (told_entries spec bs).1
told_kept spec [] = keeps_itself spec
told_kept spec (b ∷ bs) =
    let words = exact_words b.line in
    let entry = entry_told spec b.line b.indented in
    let s = with_added spec words entry in
    kept_on spec s (told_entries s bs).1 (adds_entry spec words entry).kept (told_kept s bs)

has_added : (spec after : Spec) (words : List (List ℕ)) (entry : LogEntry) → KeepsAllButNames (with_added spec words (Some entry)) after → HasAdded spec after.resource_names words entry
has_added spec after words (logs.Add name r model replicas parts mode) kept =
    let text = before_first is_hash (second_word words) in
    λ is. ap (λ ns. name_at ns (place_after spec.resource_names text)) kept.names.1 ∙ name_added spec.resource_names kept.names.0 text
has_added spec after words _ kept = λ is. cc

entry_from : (r : Result LogEntry ScriptKind) (entry : LogEntry) → entry_of r ≡ Some entry → r ≡ Ok entry
entry_from (Ok x) entry e = cc
entry_from (Err kind) entry e = cc

-- an entry's lines, by the description that the whole log leaves
block_printed : (spec after : Spec) (line : List ℕ) (indented : List (List ℕ)) (entry : LogEntry) → are_names spec.states ≡ true → KeepsAllButNames (with_added spec (exact_words line) (Some entry)) after
    → entry_told spec line indented ≡ Some entry → has_names entry ≡ true → lines_told after entry ≡ line ∷ map behind_two indented
block_printed spec after line indented entry named kept is known =
    let words = exact_words line in
    let whole = kept_on spec (with_added spec words (Some entry)) after (adds_entry spec words (Some entry)).kept kept in
    let more : HasMore spec after.resource_names = λ w n place. ap (λ ns. name_at ns n) whole.names.1 ∙ name_longer spec.resource_names whole.names.0 w n place in
    let p = entry_printed spec after.resource_names more named words indented entry known (has_added spec after words entry kept) (entry_from (told_words spec words indented) entry is) in
    ap (λ (s : Spec). lines_told s entry) whole.rest
    ∙ ap (λ ws. joined ws ∷ map behind_two (map joined (indented_told (with_names spec after.resource_names) entry))) p.words
    ∙ ap (λ ls. joined words ∷ map behind_two ls) p.lines
    ∙ ap (λ l. l ∷ map behind_two indented) (joined_exact line)

heads : {A : Type 0} (x y : A) (xs ys : List A) → x ∷ xs ≡ y ∷ ys → (x ≡ y) × (xs ≡ ys)
heads x y xs ys e = (cc, cc)

-- entry by entry
read_along : (spec : Spec) (bs : List Block) (c : Cluster) (h : List Event) → are_names spec.states ≡ true → are_on_roll c h ≡ true → told_along c h ≡ map (λ l. l.entry) (told_entries spec bs).0
    → log_text (told_entries spec bs).1 c h ≡ text_of (flat_map block_lines bs)
read_along spec [] c [] named is told = refl
read_along spec [] c (e ∷ es) named is told = cc
read_along spec (b ∷ bs) c [] named is told = cc
read_along spec (b ∷ bs) c (e ∷ es) named is told =
    let words = exact_words b.line in
    let entry = entry_told spec b.line b.indented in
    let s = with_added spec words entry in
    let after = (told_entries s bs).1 in
    let both = and_parts (is_on_roll (roll_of c) e) (are_on_roll (next c e) es) is in
    let t = tells has_names (roll_of c) e both.0 in
    let first = heads (entry_told_by c e) entry (told_along (next c e) es) (map (λ l. l.entry) (told_entries s bs).0) told in
    let now : entry ≡ Some t.entry = sym first.0 ∙ t.told in
    let kept : KeepsAllButNames (with_added spec words (Some t.entry)) after = subst (λ o. KeepsAllButNames (with_added spec words o) after) now (told_kept s bs) in
    let still : are_names s.states ≡ true = ap (λ (x : Spec). are_names x.states) (adds_entry spec words entry).kept.rest ∙ named in
    let text = log_text after (next c e) es in
    ap (λ w. w ++ text) (
    events_text after (roll_of c) e t.known
    ∙ ap (λ o. text_of (lines_if after o)) t.told
    ∙ ap text_of (block_printed spec after b.line b.indented t.entry named kept now t.passes)
    )
    ∙ ap (λ w. text_of (block_lines b) ++ w) (read_along s bs (next c e) es still both.1 first.1)
    ∙ sym (flat_map-append ended_line_of (block_lines b) (flat_map block_lines bs))

none_loose : (xs : List (ℕ × List ℕ)) (ls : List LogLine) (c : Cluster) (h : List Event) → are_on_roll c h ≡ true → told_along c h ≡ map (λ l. l.entry) (map loose_line xs ++ ls) → xs ≡ []
none_loose [] ls c h is told = refl
none_loose (x ∷ xs) ls c [] is told = cc
none_loose (x ∷ xs) ls c (e ∷ es) is told =
    let t = tells has_names (roll_of c) e (and_parts (is_on_roll (roll_of c) e) (are_on_roll (next c e) es) is).0 in
    let first = heads (entry_told_by c e) None (told_along (next c e) es) (map (λ l. l.entry) (map loose_line xs ++ ls)) told in
    let no : Some t.entry ≡ None = sym t.told ∙ first.0 in
    cc

pub log_printed : (spec : Spec) (lines : List (List ℕ)) (c : Cluster) (h : List Event) → IsValid spec → IsLegal c h → told_along c h ≡ map (λ l. l.entry) (log_of spec lines).0
    → log_text (log_of spec lines).1 c h ≡ kept_text lines
log_printed spec lines c h valid legal told =
    let b = blocks_from 1 lines in
    let is = history_on_roll c h legal in
    let none = none_loose b.loose (told_entries spec b.entries).0 c h is told in
    read_along spec b.entries c h valid.states is (told ∙ ap (λ xs. map (λ l. l.entry) (map loose_line xs ++ (told_entries spec b.entries).0)) none)
    ∙ sym (ap text_of (kept_blocks 1 lines ∙ ap (λ xs. map behind_two (map (λ x. x.1) xs) ++ flat_map block_lines b.entries) none))
