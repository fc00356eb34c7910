-- The log of a history is read as what its events tell.
use Rattle.std.proofs.Common.{◌≡◌, ◌≢◌, ℕ, ◌+◌, ◌-◌, ◌<◌, Bool, true, false, ◌&&◌, nat_lt, List, [], ◌∷◌, ◌++◌, length, map, get_or, All, Option, None, Some, codes, refl, sym, ap, ◌∙◌, append_assoc, append-nil, subst, arith}
use Rattle.std.specs.Prelude.{is_some}
use Rattle.std.proofs.lemmas.Bool.{and_parts, and_from, ltb-true, ne_eqb}
use Rattle.std.proofs.lemmas.Bool.Decides.{nat_tests}
use Rattle.std.proofs.lemmas.List.Folds.{list_all-append}
use Rattle.std.proofs.lemmas.List.Sums.{AllPass-from_list_all}
use Rattle.std.specs.Fmt.{decimal}
use Rattle.std.specs.List.{list_all, list_any, flat_map, before_first}
use Rattle.std.specs.Option.{option_map, option_map_or}
use Rattle.std.specs.Str.{bytes_eq}
use Rattle.hx_ids.specs.Names.{interned, place_after}
use Rattle.hx_ids.specs.declared.InstanceId.{InstanceId}
use Rattle.hx_ids.specs.declared.SessionId.{SessionId}
use Rattle.hx_ids.specs.declared.ModelId.{ModelId}
use Rattle.hx_ids.specs.declared.ResourceId.{ResourceId}
use Rattle.hx_ids.specs.declared.PartId.{PartId}
use Rattle.hx_ids.specs.declared.ControllerId.{ControllerId}
use Rattle.hx_ids.specs.declared.Epoch.{Epoch}
use Rattle.hx_ids.proofs.Places.{interned_there}
use Rattle.hx_ideal.specs.ModeKinds.{kind_of, kind_name}
use Rattle.hx_ideal.specs.declared.Mode.{Mode}
use Rattle.hx_ideal.specs.declared.kinds.ModeKind.{ModeKind}
use Rattle.hx_ideal.specs.declared.kinds.ModeKind.TheVariants as modes
use Rattle.hx_text.specs.Lines.{is_line_feed, lines_of}
use Rattle.hx_text.proofs.ReadBack.{lines_of-line}
use Rattle.hx_cluster.specs.declared.description.Spec.{Spec}
use Rattle.hx_cluster.specs.declared.state.Cluster.{Cluster}
use Rattle.hx_cluster.specs.declared.happenings.Admin.{Admin}
use Rattle.hx_cluster.specs.declared.happenings.Admin.TheVariants as steps
use Rattle.hx_cluster.specs.declared.happenings.Did.{Did}
use Rattle.hx_cluster.specs.declared.happenings.Proposal.{Proposal}
use Rattle.hx_cluster.specs.declared.happenings.Placed.{Placed}
use Rattle.hx_cluster.specs.declared.happenings.Placed.TheVariants as placings
use Rattle.hx_cluster.specs.declared.happenings.Event.{Event}
use Rattle.hx_cluster.specs.declared.happenings.Event.TheVariants as events
use Rattle.hx_cluster.specs.Ends.{instance_in, session_in}
use Rattle.hx_cluster.specs.Events.{next}
use Rattle.hx_cluster.specs.Valid.{IsValid}
use Rattle.hx_print.specs.declared.roll.Roll.{Roll}
use Rattle.hx_print.specs.Texts.{spaced, line_of, name_at, model_name, numbered, roll_of, joined_by, ended_by_tick, added_as, leads_in, session_line, ended_line, add_text, reset_text, lead_text, step_text, placed_line, placed_lines, event_text, log_text}
use Rattle.hx_script.specs.declared.log.LogEntry.{LogEntry}
use Rattle.hx_script.specs.declared.log.LogEntry.TheVariants as logs
use Rattle.hx_script.specs.declared.log.Sort.TheVariants as sorts
use Rattle.hx_script.specs.LineTexts.{mode_text}
use Rattle.hx_script.specs.LogEntries as told
use Rattle.hx_script.specs.Logs.{Block, Blocks, sort_of, with_line, blocks_from, exact_words, told_words, entry_of, entry_told, is_hash, with_added, told_entries, loose_line, log_of}
use Rattle.hx_script.specs.Modes.{mode_number, mode_numbered}
use Rattle.hx_script.specs.Ranges.{has_model, has_resource_name}
use Rattle.hx_script.proofs.Joined.{joined}
use Rattle.hx_script.proofs.WordsAgain.{none_first}
use Rattle.hx_logs.specs.Printed.{is_short, is_entry_in_range, are_known, is_told, are_told, told_along}
use Rattle.hx_logs.proofs.WordsRead
use Rattle.hx_logs.proofs.EntriesRead.{words_told, indented_told, ended_told, move_told, are_dark, cut_again, entry_read, dark_entry, dark_indented}

-- the lines of an entry, and a text of lines
abbrev pub behind_two : List ℕ → List ℕ
behind_two t = 32 ∷ 32 ∷ t

abbrev pub lines_told : Spec → LogEntry → List (List ℕ)
lines_told spec entry = joined (words_told spec entry) ∷ map behind_two (map joined (indented_told spec entry))

abbrev pub lines_if : Spec → Option LogEntry → List (List ℕ)
lines_if spec None = []
lines_if spec (Some entry) = lines_told spec entry

abbrev pub ended_line_of : List ℕ → List ℕ
ended_line_of l = l ++ 10 ∷ []

abbrev pub text_of : List (List ℕ) → List ℕ
text_of ls = flat_map ended_line_of ls

-- the text of an event is that of the entry that it tells
one_line : (line : List ℕ) → line ++ 10 ∷ [] ≡ text_of (line ∷ [])
one_line line = sym (append-nil (line ++ 10 ∷ []))

module _ (spec : Spec) where
  join_text : (i : InstanceId) (s : Option SessionId) → session_line (codes "join") spec i s ≡ text_of (lines_if spec (option_map (logs.Join i) s))
  join_text i None = refl
  join_text i (Some s) = one_line (joined (words_told spec (logs.Join i s)))

  end_text : (i : InstanceId) (s : Option SessionId) → session_line (codes "end") spec i s ≡ text_of (lines_if spec (option_map (logs.End i) s))
  end_text i None = refl
  end_text i (Some s) = one_line (joined (words_told spec (logs.End i s)))

  beat_text : (i : InstanceId) (s : Option SessionId) → session_line (codes "beat") spec i s ≡ text_of (lines_if spec (option_map (logs.Beat i) s))
  beat_text i None = refl
  beat_text i (Some s) = one_line (joined (words_told spec (logs.Beat i s)))

  mode_told : (kind : ModeKind) → kind_name kind ≡ mode_text (mode_number kind)
  mode_told modes.FullAuto = refl
  mode_told modes.SemiAuto = refl
  mode_told modes.Customized = refl

  added_text : (name : ℕ) (model : ModelId) (replicas parts : ℕ) (mode : Mode) (r : Option ResourceId)
      → add_text spec name model replicas parts mode r ≡ text_of (lines_if spec (option_map (λ r. logs.Add name r model replicas parts (mode_number (kind_of mode))) r))
  added_text name model replicas parts mode None = refl
  added_text name model replicas parts mode (Some r) =
      ap (λ m. line_of (codes "add" ∷ numbered (name_at spec.resource_names name) r ∷ model_name spec model ∷ decimal replicas ∷ decimal parts ∷ m ∷ [])) (mode_told (kind_of mode))
      ∙ one_line (joined (words_told spec (logs.Add name r model replicas parts (mode_number (kind_of mode)))))

  resets_text : (names : List ℕ) (i : InstanceId) (p : PartId) (s : Option SessionId) → reset_text spec names i p s ≡ text_of (lines_if spec (option_map (λ s. logs.Reset i s (told.part_told names p)) s))
  resets_text names i p None = refl
  resets_text names i p (Some s) = one_line (joined (words_told spec (logs.Reset i s (told.part_told names p))))

  leads_text : (k : ControllerId) (e : Option Epoch) → lead_text k e ≡ text_of (lines_if spec (option_map (logs.Lead k) e))
  leads_text k None = refl
  leads_text k (Some e) = one_line (joined (words_told spec (logs.Lead k e)))

  -- the sessions that a tick ended
  ended_text : (live : List (SessionId × InstanceId)) (s : SessionId) (i : Option InstanceId) → instance_in live s ≡ i → is_some i ≡ true
      → ended_line spec live s ≡ ended_line_of (behind_two (joined (ended_told spec (told.ended_told live s))))
  ended_text live s None is some = cc
  ended_text live s (Some i) is some = rw is refl

  all_ended_text : (live : List (SessionId × InstanceId)) (ss : List SessionId) → list_all (λ s. is_some (instance_in live s)) ss ≡ true
      → flat_map (ended_line spec live) ss ≡ text_of (map behind_two (map joined (map (ended_told spec) (map (told.ended_told live) ss))))
  all_ended_text live [] known = refl
  all_ended_text live (s ∷ ss) known =
      let both = and_parts (is_some (instance_in live s)) (list_all (λ s. is_some (instance_in live s)) ss) known in
      ap (λ t. t ++ flat_map (ended_line spec live) ss) (ended_text live s (instance_in live s) refl both.0)
      ∙ ap (λ t. ended_line_of (behind_two (joined (ended_told spec (told.ended_told live s)))) ++ t) (all_ended_text live ss both.1)

  -- proposals with what became of them
  placed_text : (names : List ℕ) (q : Proposal) (answer : Placed) → placed_line spec names q answer ≡ ended_line_of (behind_two (joined (move_told spec (told.move_told names q answer))))
  placed_text names q (placings.Sent m) = refl
  placed_text names q _ = refl

  all_placed_text : (names : List ℕ) (qs : List Proposal) (answers : List Placed)
      → placed_lines spec names qs answers ≡ text_of (map behind_two (map joined (map (move_told spec) (told.moves_told names qs answers))))
  all_placed_text names [] answers = refl
  all_placed_text names (q ∷ qs) [] = refl
  all_placed_text names (q ∷ qs) (answer ∷ answers) =
      ap (λ t. t ++ placed_lines spec names qs answers) (placed_text names q answer)
      ∙ ap (λ t. ended_line_of (behind_two (joined (move_told spec (told.move_told names q answer)))) ++ t) (all_placed_text names qs answers)

  steps_text : (roll : Roll) (step : Admin) (did : Did) → are_known roll (events.Admin step did) ≡ true → step_text spec roll step did ≡ text_of (lines_if spec (told.step_told roll step did))
  steps_text roll (steps.Join i) did known = join_text i (joined_by did)
  steps_text roll (steps.End i) did known = end_text i (session_in roll.live i)
  steps_text roll (steps.Beat i) did known = beat_text i (session_in roll.live i)
  steps_text roll (steps.Tick n) did known = ap (λ t. line_of (codes "tick" ∷ decimal n ∷ []) ++ t) (all_ended_text roll.live (ended_by_tick did) known)
  steps_text roll (steps.Drain i) did known = one_line (joined (words_told spec (logs.Drain i)))
  steps_text roll (steps.Undrain i) did known = one_line (joined (words_told spec (logs.Undrain i)))
  steps_text roll (steps.Add name model ideal) did known = added_text name model ideal.replicas ideal.parts ideal.mode (added_as did)
  steps_text roll (steps.Drop r) did known = sym (append-nil _)
  steps_text roll (steps.SetList p list) did known = sym (append-nil _)
  steps_text roll (steps.SetMap p entries) did known = sym (append-nil _)
  steps_text roll (steps.Reset i p) did known = resets_text roll.resources i p (session_in roll.live i)
  steps_text roll (steps.Lead k) did known = leads_text k (leads_in did)
  steps_text roll (steps.Stop k) did known = one_line (joined (words_told spec (logs.Stop k)))
  steps_text roll (steps.Start k) did known = one_line (joined (words_told spec (logs.Start k)))

  pub events_text : (roll : Roll) (e : Event) → are_known roll e ≡ true → event_text spec roll e ≡ text_of (lines_if spec (told.event_told roll e))
  events_text roll (events.Admin step did) known = steps_text roll step did known
  events_text roll (events.Dispatch k epoch pass proposals answer) known =
      ap (λ t. ended_line_of (joined (words_told spec (logs.Dispatch k epoch pass []))) ++ t) (all_placed_text roll.resources proposals answer.placed)
  events_text roll _ known = sym (append-nil _)

-- lines of visible bytes are taken apart again
abbrev is_visible_byte : ℕ → Bool
is_visible_byte b = nat_lt 31 b

abbrev is_visible : List ℕ → Bool
is_visible l = list_all is_visible_byte l

visible_dark : (w : List ℕ) → WordsRead.is_dark w ≡ true → is_visible w ≡ true
visible_dark w dark = WordsRead.all_so WordsRead.is_dark_byte is_visible_byte (λ b is. grind (arith, nat_tests, is)) w dark

visible_both : (v w : List ℕ) → is_visible v ≡ true → is_visible w ≡ true → is_visible (v ++ w) ≡ true
visible_both v w one two = list_all-append is_visible_byte v w ∙ and_from (is_visible v) (is_visible w) one two

visible_spaced : (ws : List (List ℕ)) → are_dark ws ≡ true → is_visible (spaced ws) ≡ true
visible_spaced [] dark = refl
visible_spaced (w ∷ ws) dark =
    let both = and_parts (WordsRead.is_dark w) (are_dark ws) dark in
    visible_both (32 ∷ w) (spaced ws) (visible_dark w both.0) (visible_spaced ws both.1)

visible_joined : (ws : List (List ℕ)) → are_dark ws ≡ true → is_visible (joined ws) ≡ true
visible_joined [] dark = refl
visible_joined (w ∷ ws) dark =
    let both = and_parts (WordsRead.is_dark w) (are_dark ws) dark in
    visible_both w (spaced ws) (visible_dark w both.0) (visible_spaced ws both.1)

visible_behind : (lines : List (List (List ℕ))) → list_all are_dark lines ≡ true → list_all is_visible (map behind_two (map joined lines)) ≡ true
visible_behind [] dark = refl
visible_behind (ws ∷ lines) dark =
    let both = and_parts (are_dark ws) (list_all are_dark lines) dark in
    and_from (is_visible (joined ws)) (list_all is_visible (map behind_two (map joined lines))) (visible_joined ws both.0) (visible_behind lines both.1)

visible_told : (spec : Spec) → IsValid spec → (entry : LogEntry) → is_entry_in_range spec entry ≡ true → list_all is_visible (lines_told spec entry) ≡ true
visible_told spec valid entry is =
    and_from (is_visible (joined (words_told spec entry))) (list_all is_visible (map behind_two (map joined (indented_told spec entry))))
    (visible_joined (words_told spec entry) (dark_entry spec valid entry is))
    (visible_behind (indented_told spec entry) (dark_indented spec valid entry is))

no_line_feed : (line : List ℕ) → is_visible line ≡ true → All (λ b. is_line_feed b ≡ false) line
no_line_feed line visible k d lt =
    let above = ltb-true 31 (get_or line k d) (AllPass-from_list_all is_visible_byte line visible k d lt) in
    ne_eqb (get_or line k d) 10 (λ e. absurd (omega (arith, above, e)))

no_return : (line : List ℕ) → is_visible line ≡ true → get_or line (length line - 1) 0 ≢ 13
no_return [] visible e = cc
no_return (b ∷ bs) visible e =
    let above = ltb-true 31 (get_or (b ∷ bs) (length (b ∷ bs) - 1) 0) (AllPass-from_list_all is_visible_byte (b ∷ bs) visible (length (b ∷ bs) - 1) 0 (omega arith)) in
    absurd (omega (arith, above, e))

lines_again : (ls : List (List ℕ)) (rest : List ℕ) → list_all is_visible ls ≡ true → lines_of (text_of ls ++ rest) ≡ ls ++ lines_of rest
lines_again [] rest visible = refl
lines_again (l ∷ ls) rest visible =
    let both = and_parts (is_visible l) (list_all is_visible ls) visible in
    ap lines_of (append_assoc (ended_line_of l) (text_of ls) rest ∙ append_assoc l (10 ∷ []) (text_of ls ++ rest))
    ∙ lines_of-line l (text_of ls ++ rest) (no_line_feed l both.0) (no_return l both.0)
    ∙ ap (λ ms. l ∷ ms) (lines_again ls rest both.1)

-- an event that tells an entry which passes a test
pub record Tells (test : LogEntry → Bool) (roll : Roll) (e : Event) : Type 0 where
  pub entry : LogEntry
  pub told : told.event_told roll e ≡ Some entry
  pub passes : test entry ≡ true
  pub known : are_known roll e ≡ true

pub tells : (test : LogEntry → Bool) (roll : Roll) (e : Event) → (option_map_or test (told.event_told roll e) false && are_known roll e) ≡ true → Tells test roll e
tells test roll e is =
    let both = and_parts (option_map_or test (told.event_told roll e) false) (are_known roll e) is in
    one (told.event_told roll e) refl both.0 both.1
  where
    one : (o : Option LogEntry) → told.event_told roll e ≡ o → option_map_or test o false ≡ true → are_known roll e ≡ true → Tells test roll e
    one None at good known = cc
    one (Some entry) at good known = record { entry = entry; told = at; passes = good; known = known }

-- the lines of a history's log
abbrev lines_along : Spec → Cluster → List Event → List (List ℕ)
lines_along spec c [] = []
lines_along spec c (e ∷ es) = lines_if spec (told.event_told (roll_of c) e) ++ lines_along spec (next c e) es

log_lines : (spec : Spec) → IsValid spec → (c : Cluster) (h : List Event) → are_told spec c h ≡ true → lines_of (log_text spec c h) ≡ lines_along spec c h
log_lines spec valid c [] is = refl
log_lines spec valid c (e ∷ es) is =
    let both = and_parts (is_told spec (roll_of c) e) (are_told spec (next c e) es) is in
    let t = tells (is_entry_in_range spec) (roll_of c) e both.0 in
    let visible : list_all is_visible (lines_if spec (told.event_told (roll_of c) e)) ≡ true = ap (λ o. list_all is_visible (lines_if spec o)) t.told ∙ visible_told spec valid t.entry t.passes in
    ap (λ w. lines_of (w ++ log_text spec (next c e) es)) (events_text spec (roll_of c) e t.known)
    ∙ lines_again (lines_if spec (told.event_told (roll_of c) e)) (log_text spec (next c e) es) visible
    ∙ ap (λ ls. lines_if spec (told.event_told (roll_of c) e) ++ ls) (log_lines spec valid (next c e) es both.1)

-- an entry's lines are its own and the indented ones behind it
head_sort : (spec : Spec) (entry : LogEntry) → sort_of (joined (words_told spec entry)) ≡ sorts.Head
head_sort spec (logs.Line n) = refl
head_sort spec _ = refl

record AreBehind (n : ℕ) (ts ls : List (List ℕ)) : Type 0 where
  from : ℕ
  loose : map (λ x. x.1) (blocks_from n (map behind_two ts ++ ls)).loose ≡ ts ++ map (λ x. x.1) (blocks_from from ls).loose
  entries : (blocks_from n (map behind_two ts ++ ls)).entries ≡ (blocks_from from ls).entries

behind : (n : ℕ) (ts ls : List (List ℕ)) → AreBehind n ts ls
behind n [] ls = record { from = n; loose = refl; entries = refl }
behind n (t ∷ ts) ls = let rest = behind (n + 1) ts ls in record { from = rest.from; loose = ap (λ us. t ∷ us) rest.loose; entries = rest.entries }

-- a name that the description has is not added
name_found : (spec : Spec) → IsValid spec → (name : ℕ) → has_resource_name spec name ≡ true → (b : Bool) → list_any (bytes_eq (name_at spec.resource_names name)) spec.resource_names ≡ b → b ≡ true
name_found spec valid name has true e = refl
name_found spec valid name has false e =
    let place : place_after spec.resource_names (name_at spec.resource_names name) ≡ name = WordsRead.added_place spec valid name has in
    let last : place_after spec.resource_names (name_at spec.resource_names name) ≡ length spec.resource_names = none_first (bytes_eq (name_at spec.resource_names name)) spec.resource_names e in
    let below = ltb-true name (length spec.resource_names) has in
    absurd (omega (arith, place, last, below))

kept_name : (spec : Spec) → IsValid spec → (entry : LogEntry) → is_entry_in_range spec entry ≡ true → with_added spec (words_told spec entry) (Some entry) ≡ spec
kept_name spec valid (logs.Add name r model replicas parts mode) is =
    let has = (and_parts (has_resource_name spec name) (is_short r.0 && (has_model spec model && (is_short replicas && (is_short parts && is_some (mode_numbered mode))))) is).0 in
    let text = name_at spec.resource_names name in
    let cut : before_first is_hash (numbered text r) ≡ text = WordsRead.numbered_cut text r (WordsRead.told_is_name spec valid (Some name) has) in
    let there : spec.resource_names ≡ interned spec.resource_names text = interned_there spec.resource_names text (name_found spec valid name has (list_any (bytes_eq text) spec.resource_names) refl) in
    ap (λ w. let s : Spec = record spec { resource_names = interned spec.resource_names w } in s) cut ∙ ap (λ ns. let s : Spec = record spec { resource_names = ns } in s) (sym there)
kept_name spec valid _ is = refl

-- the words of an entry's line
some_words : (spec : Spec) (entry : LogEntry) → 0 < length (words_told spec entry)
some_words spec (logs.Line n) = omega arith
some_words spec _ = omega arith

cut_all : (ws : List (List ℕ)) → 0 < length ws → are_dark ws ≡ true → exact_words (joined ws) ≡ ws
cut_all [] some dark = absurd (omega arith)
cut_all (w ∷ ws) some dark = cut_again [] w ws dark

-- a history's entries are read one by one
record IsRead (spec : Spec) (c : Cluster) (h : List Event) (b : Blocks) : Type 0 where
  loose : map (λ x. x.1) b.loose ≡ []
  entries : map (λ l. l.entry) (told_entries spec b.entries).0 ≡ told_along c h
  kept : (told_entries spec b.entries).1 ≡ spec

abbrev begun : ℕ → List ℕ → List (List ℕ) → List Block → Blocks
begun n line indented bs = record { loose = []; entries = (record { number = n; line = line; indented = indented }) ∷ bs }

read_along : (spec : Spec) → IsValid spec → (n : ℕ) (c : Cluster) (h : List Event) → are_told spec c h ≡ true → IsRead spec c h (blocks_from n (lines_along spec c h))
read_along spec valid n c [] is = record { loose = refl; entries = refl; kept = refl }
read_along spec valid n c (e ∷ es) is =
    let both = and_parts (is_told spec (roll_of c) e) (are_told spec (next c e) es) is in
    let t = tells (is_entry_in_range spec) (roll_of c) e both.0 in
    let words = words_told spec t.entry in
    let line = joined words in
    let ls = lines_along spec (next c e) es in
    let indented = map joined (indented_told spec t.entry) in
    let b = behind (n + 1) indented ls in
    let bs = (blocks_from b.from ls).entries in
    let rest = read_along spec valid b.from (next c e) es both.1 in
    let gathered : map (λ x. x.1) (blocks_from (n + 1) (map behind_two indented ++ ls)).loose ≡ indented = b.loose ∙ ap (λ us. indented ++ us) rest.loose ∙ append-nil indented in
    let blocks : blocks_from n (lines_along spec c (e ∷ es)) ≡ begun n line indented bs =
    ap (λ o. blocks_from n (lines_if spec o ++ ls)) t.told
    ∙ ap (λ s. with_line n line s (blocks_from (n + 1) (map behind_two indented ++ ls))) (head_sort spec t.entry)
    ∙ ap (λ us. begun n line us (blocks_from (n + 1) (map behind_two indented ++ ls)).entries) gathered
    ∙ ap (begun n line indented) b.entries in
    let cut : exact_words line ≡ words = cut_all words (some_words spec t.entry) (dark_entry spec valid t.entry t.passes) in
    let now : entry_told spec line indented ≡ Some t.entry = ap (λ ws. entry_of (told_words spec ws indented)) cut ∙ ap entry_of (entry_read spec valid t.entry t.passes) in
    let added : with_added spec (exact_words line) (entry_told spec line indented) ≡ spec =
    ap (with_added spec (exact_words line)) now ∙ ap (λ ws. with_added spec ws (Some t.entry)) cut ∙ kept_name spec valid t.entry t.passes in
    let of_blocks : IsRead spec c (e ∷ es) (begun n line indented bs) = record {
      loose = refl;
      entries = ap (λ o. o ∷ map (λ l. l.entry) (told_entries (with_added spec (exact_words line) (entry_told spec line indented)) bs).0) now
          ∙ ap (λ s. Some t.entry ∷ map (λ l. l.entry) (told_entries s bs).0) added
          ∙ ap (λ os. Some t.entry ∷ os) rest.entries
          ∙ ap (λ o. o ∷ told_along (next c e) es) (sym t.told);
      kept = ap (λ s. (told_entries s bs).1) added ∙ rest.kept;
    } in
    subst (IsRead spec c (e ∷ es)) (sym blocks) of_blocks

none_loose : (xs : List (ℕ × List ℕ)) → map (λ x. x.1) xs ≡ [] → xs ≡ []
none_loose [] e = refl
none_loose (x ∷ xs) e = cc

pub log_read : (spec : Spec) (c : Cluster) (h : List Event) → IsValid spec → are_told spec c h ≡ true
    → (map (λ l. l.entry) (log_of spec (lines_of (log_text spec c h))).0 ≡ told_along c h) × ((log_of spec (lines_of (log_text spec c h))).1 ≡ spec)
log_read spec c h valid is =
    let lines = log_lines spec valid c h is in
    let b = blocks_from 1 (lines_along spec c h) in
    let read = read_along spec valid 1 c h is in
    let none = none_loose b.loose read.loose in (
      ap (λ ls. map (λ l. l.entry) (log_of spec ls).0) lines ∙ ap (λ xs. map (λ l. l.entry) (map loose_line xs ++ (told_entries spec b.entries).0)) none ∙ read.entries,
      ap (λ ls. (log_of spec ls).1) lines ∙ read.kept,
    )
