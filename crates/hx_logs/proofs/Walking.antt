-- A log, walked from line to line.
use Rattle.std.proofs.Common.{◌≡◌, ℕ, ◌+◌, ◌≤◌, suc, Bool, true, false, List, [], ◌∷◌, ◌++◌, map, length, drop, slice_get, Option, Some, None, refl, sym, ap, ◌∙◌, append_assoc, add-one, get_or, ◌==◌, ◌&&◌, if◌then◌else◌, arith}
use Rattle.std.proofs.lemmas.Bool.{and_parts, eqb-true}
use Rattle.std.proofs.lemmas.List.{append-nil, drop_all}
use Rattle.std.proofs.lemmas.Option.{slice_get_within, get_or_from_slice_get}
use Rattle.std.proofs.Math.Seq.{drop-cons}
use Rattle.hx_cluster.specs.declared.description.Spec.{Spec}
use Rattle.hx_script.specs.declared.log.LogLine.{LogLine}
use Rattle.hx_script.specs.declared.log.LogEntry.{LogEntry}
use Rattle.hx_script.specs.declared.log.Sort.{Sort}
use Rattle.hx_script.specs.declared.log.Sort.TheVariants as sorts
use Rattle.hx_script.specs.Logs.{Blocks, is_remark, sort_of, with_line, blocks_from, entry_told, exact_words, with_added, told_entries, lines_before, log_of_blocks}
use Rattle.hx_logs.specs.Walk.{line_at, indented_by, indented_before}

-- the lines from a place on begin with the line there
pub drop_at : (lines : List (List ℕ)) (i : ℕ) (line : List ℕ) → slice_get lines i ≡ Some line → drop i lines ≡ line ∷ drop (i + 1) lines
drop_at lines i line at =
    drop-cons lines i line (slice_get_within lines i line at)
    ∙ ap (λ l. l ∷ drop (suc i) lines) (get_or_from_slice_get lines i line line at)
    ∙ ap (λ k. line ∷ drop k lines) (sym (add-one i))

pub line_there : (lines : List (List ℕ)) (i : ℕ) (line : List ℕ) → slice_get lines i ≡ Some line → line_at lines i ≡ line
line_there lines i line at = get_or_from_slice_get lines i line [] at

-- the indented lines of a block are those before the next entry
loose_with : (n : ℕ) (l : List ℕ) (s : Sort) (b : Blocks) → map (λ x. x.1) (with_line n l s b).loose ≡ indented_by s l (map (λ x. x.1) b.loose)
loose_with n l sorts.PassedOver b = refl
loose_with n l sorts.Indented b = refl
loose_with n l sorts.Head b = refl

pub loose_lines : (n : ℕ) (ls : List (List ℕ)) → map (λ x. x.1) (blocks_from n ls).loose ≡ indented_before ls
loose_lines n [] = refl
loose_lines n (l ∷ ls) = loose_with n l (sort_of l) (blocks_from (n + 1) ls) ∙ ap (indented_by (sort_of l) l) (loose_lines (n + 1) ls)

-- what is left of a log: once an entry was read, indented lines belong to it
abbrev pub left_of : Bool → Spec → Blocks → List LogLine × Spec
left_of true spec b = told_entries spec b.entries
left_of false spec b = log_of_blocks spec b

abbrev pub left_from : Bool → Spec → ℕ → List (List ℕ) → List LogLine × Spec
left_from begun spec n ls = left_of begun spec (blocks_from n ls)

before-more : (done more : List LogLine) (rest : List LogLine × Spec) → lines_before done (lines_before more rest) ≡ lines_before (done ++ more) rest
before-more done more rest = ap (λ ls. (ls, rest.1)) (sym (append_assoc done more rest.0))

left-drop : (begun : Bool) (spec : Spec) (lines : List (List ℕ)) (i n : ℕ) (line : List ℕ) (s : Sort) → slice_get lines i ≡ Some line → sort_of line ≡ s
    → left_from begun spec n (drop i lines) ≡ left_of begun spec (with_line n line s (blocks_from (n + 1) (drop (i + 1) lines)))
left-drop begun spec lines i n line s at is =
    ap (left_from begun spec n) (drop_at lines i line at)
    ∙ ap (λ s. left_of begun spec (with_line n line s (blocks_from (n + 1) (drop (i + 1) lines)))) is

-- a line that is passed over
pub after_remark : (begun : Bool) (spec : Spec) (lines : List (List ℕ)) (i : ℕ) (line : List ℕ) (done : List LogLine) (whole : List LogLine × Spec)
    → slice_get lines i ≡ Some line → sort_of line ≡ sorts.PassedOver
    → whole ≡ lines_before done (left_from begun spec (i + 1) (drop i lines))
    → whole ≡ lines_before done (left_from begun spec (i + 1 + 1) (drop (i + 1) lines))
after_remark begun spec lines i line done whole at is all = all ∙ ap (lines_before done) (left-drop begun spec lines i (i + 1) line sorts.PassedOver at is)

-- an indented line behind an entry, and before the first one
pub after_indented : (spec : Spec) (lines : List (List ℕ)) (i : ℕ) (line : List ℕ) (done : List LogLine) (whole : List LogLine × Spec)
    → slice_get lines i ≡ Some line → sort_of line ≡ sorts.Indented
    → whole ≡ lines_before done (left_from true spec (i + 1) (drop i lines))
    → whole ≡ lines_before done (left_from true spec (i + 1 + 1) (drop (i + 1) lines))
after_indented spec lines i line done whole at is all = all ∙ ap (lines_before done) (left-drop true spec lines i (i + 1) line sorts.Indented at is)

pub after_loose : (spec : Spec) (lines : List (List ℕ)) (i : ℕ) (line : List ℕ) (done : List LogLine) (whole : List LogLine × Spec)
    → slice_get lines i ≡ Some line → sort_of line ≡ sorts.Indented
    → whole ≡ lines_before done (left_from false spec (i + 1) (drop i lines))
    → whole ≡ lines_before (done ++ (record { line = i + 1; entry = None }) ∷ []) (left_from false spec (i + 1 + 1) (drop (i + 1) lines))
after_loose spec lines i line done whole at is all =
    all
    ∙ ap (lines_before done) (left-drop false spec lines i (i + 1) line sorts.Indented at is)
    ∙ before-more done ((record { line = i + 1; entry = None }) ∷ []) (left_from false spec (i + 1 + 1) (drop (i + 1) lines))

-- an entry
head_left : (begun : Bool) (spec : Spec) (n : ℕ) (line : List ℕ) (b : Blocks)
    → left_of begun spec (with_line n line sorts.Head b)
    ≡ lines_before ((record { line = n; entry = entry_told spec line (map (λ x. x.1) b.loose) }) ∷ [])
    (told_entries (with_added spec (exact_words line) (entry_told spec line (map (λ x. x.1) b.loose))) b.entries)
head_left true spec n line b = refl
head_left false spec n line b = refl

pub after_head : (begun : Bool) (spec after : Spec) (lines : List (List ℕ)) (i : ℕ) (line : List ℕ) (entry : Option LogEntry) (done : List LogLine) (whole : List LogLine × Spec)
    → slice_get lines i ≡ Some line → sort_of line ≡ sorts.Head
    → entry ≡ entry_told spec (line_at lines i) (indented_before (drop (i + 1) lines))
    → after ≡ with_added spec (exact_words (line_at lines i)) entry
    → whole ≡ lines_before done (left_from begun spec (i + 1) (drop i lines))
    → whole ≡ lines_before (done ++ (record { line = i + 1; entry = entry }) ∷ []) (left_from true after (i + 1 + 1) (drop (i + 1) lines))
after_head begun spec after lines i line entry done whole at is told added all =
    let b = blocks_from (i + 1 + 1) (drop (i + 1) lines) in
    let there = line_there lines i line at in
    let same : entry_told spec line (map (λ x. x.1) b.loose) ≡ entry =
    ap (entry_told spec line) (loose_lines (i + 1 + 1) (drop (i + 1) lines)) ∙ ap (λ l. entry_told spec l (indented_before (drop (i + 1) lines))) (sym there) ∙ sym told in
    let left : with_added spec (exact_words line) entry ≡ after = ap (λ l. with_added spec (exact_words l) entry) (sym there) ∙ sym added in
    all
    ∙ ap (lines_before done)
    (left-drop begun spec lines i (i + 1) line sorts.Head at is
    ∙ head_left begun spec (i + 1) line b
    ∙ ap (λ e. lines_before ((record { line = i + 1; entry = e }) ∷ []) (told_entries (with_added spec (exact_words line) e) b.entries)) same
    ∙ ap (λ s. lines_before ((record { line = i + 1; entry = entry }) ∷ []) (told_entries s b.entries)) left)
    ∙ before-more done ((record { line = i + 1; entry = entry }) ∷ []) (told_entries after b.entries)

-- behind the last line nothing is left
nothing_left : (begun : Bool) (spec : Spec) (n : ℕ) → left_from begun spec n [] ≡ ([], spec)
nothing_left true spec n = refl
nothing_left false spec n = refl

pub read_whole : (begun : Bool) (spec : Spec) (lines : List (List ℕ)) (n : ℕ) (done : List LogLine) (whole : List LogLine × Spec) → length lines ≤ n
    → whole ≡ lines_before done (left_from begun spec (n + 1) (drop n lines)) → (done, spec) ≡ whole
read_whole begun spec lines n done whole past all =
    sym (all ∙ ap (λ ls. lines_before done (left_from begun spec (n + 1) ls)) (drop_all n lines past) ∙ ap (lines_before done) (nothing_left begun spec (n + 1)) ∙ ap (λ ls. (ls, spec)) (append-nil done))

-- the indented lines up to the next entry, gathered one by one
gathered-drop : (lines : List (List ℕ)) (i : ℕ) (line : List ℕ) (s : Sort) → slice_get lines i ≡ Some line → sort_of line ≡ s
    → indented_before (drop i lines) ≡ indented_by s line (indented_before (drop (i + 1) lines))
gathered-drop lines i line s at is = ap indented_before (drop_at lines i line at) ∙ ap (λ s. indented_by s line (indented_before (drop (i + 1) lines))) is

pub gathered_past : (lines : List (List ℕ)) (i : ℕ) (line : List ℕ) (done whole : List (List ℕ)) → slice_get lines i ≡ Some line → sort_of line ≡ sorts.PassedOver
    → whole ≡ done ++ indented_before (drop i lines) → whole ≡ done ++ indented_before (drop (i + 1) lines)
gathered_past lines i line done whole at is all = all ∙ ap (λ ls. done ++ ls) (gathered-drop lines i line sorts.PassedOver at is)

pub gathered_more : (lines : List (List ℕ)) (i : ℕ) (line : List ℕ) (done whole : List (List ℕ)) → slice_get lines i ≡ Some line → sort_of line ≡ sorts.Indented
    → whole ≡ done ++ indented_before (drop i lines) → whole ≡ (done ++ drop 2 line ∷ []) ++ indented_before (drop (i + 1) lines)
gathered_more lines i line done whole at is all =
    all ∙ ap (λ ls. done ++ ls) (gathered-drop lines i line sorts.Indented at is) ∙ sym (append_assoc done (drop 2 line ∷ []) (indented_before (drop (i + 1) lines)))

pub gathered_all : (lines : List (List ℕ)) (i : ℕ) (line : List ℕ) (done whole : List (List ℕ)) → slice_get lines i ≡ Some line → sort_of line ≡ sorts.Head
    → whole ≡ done ++ indented_before (drop i lines) → done ≡ whole
gathered_all lines i line done whole at is all = sym (all ∙ ap (λ ls. done ++ ls) (gathered-drop lines i line sorts.Head at is) ∙ append-nil done)

pub gathered_end : (lines : List (List ℕ)) (n : ℕ) (done whole : List (List ℕ)) → length lines ≤ n → whole ≡ done ++ indented_before (drop n lines) → done ≡ whole
gathered_end lines n done whole past all = sym (all ∙ ap (λ ls. done ++ indented_before ls) (drop_all n lines past) ∙ append-nil done)

-- an indented line begins with two spaces
pub spaces_at : (line : List ℕ) → sort_of line ≡ sorts.Indented → (2 ≤ length line) × (get_or line 1 0 ≡ 32)
spaces_at [] e = cc
spaces_at (a ∷ []) e = one (is_remark a) e
  where
    one : (r : Bool) → (if r then sorts.PassedOver else sorts.Head) ≡ sorts.Indented → (2 ≤ length (a ∷ [])) × (get_or (a ∷ []) 1 0 ≡ 32)
    one true e = cc
    one false e = cc
spaces_at (a ∷ b ∷ bs) e = one (is_remark a) ((a == 32) && (b == 32)) refl e
  where
    one : (r s : Bool) → ((a == 32) && (b == 32)) ≡ s → (if r then sorts.PassedOver else if s then sorts.Indented else sorts.Head) ≡ sorts.Indented
        → (2 ≤ length (a ∷ b ∷ bs)) × (get_or (a ∷ b ∷ bs) 1 0 ≡ 32)
    one true s is e = cc
    one false true is e = (omega arith, eqb-true b 32 (and_parts (a == 32) (b == 32) is).1)
    one false false is e = cc
