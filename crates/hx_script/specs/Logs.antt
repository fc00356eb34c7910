-- The grammar of logs: what each entry tells. Words stand with exactly one space between them.
use Rattle.std.specs.Prelude.{ℕ, ◌+◌, ◌-◌, ◌^◌, Bool, ◌==◌, ◌&&◌, List, [], ◌∷◌, ◌++◌, map, drop, Option, None, Some, Result, Ok, Err, if◌then◌else◌, find, codes}
use Rattle.std.specs.List.{slice_split, before_first, after_first, list_any}
use Rattle.std.specs.Option.{option_map}
use Rattle.std.specs.Str.{bytes_eq}
use Rattle.hx_ids.specs.declared.InstanceId.{InstanceId}
use Rattle.hx_ids.specs.declared.StateId.{StateId}
use Rattle.hx_ids.specs.declared.ResourceId.{ResourceId}
use Rattle.hx_ids.specs.declared.SessionId.{SessionId}
use Rattle.hx_ids.specs.declared.MsgId.{MsgId}
use Rattle.hx_ids.specs.declared.Epoch.{Epoch}
use Rattle.hx_ids.specs.declared.PassNo.{PassNo}
use Rattle.hx_ids.specs.declared.ControllerId.{ControllerId}
use Rattle.hx_ids.specs.Names.{place_of, place_after, interned}
use Rattle.hx_text.specs.Spellings.{is_name}
use Rattle.hx_text.specs.Lines.{is_space}
use Rattle.hx_cluster.specs.declared.description.Spec.{Spec}
use Rattle.hx_cluster.specs.declared.happenings.Placed.{Placed}
use Rattle.hx_cluster.specs.declared.happenings.Placed.TheVariants as placings
use Rattle.hx_cluster.specs.declared.happenings.Outcome.{Outcome}
use Rattle.hx_cluster.specs.declared.happenings.Outcome.TheVariants as outcomes
use Rattle.hx_script.specs.declared.faults.ScriptKind.{ScriptKind}
use Rattle.hx_script.specs.declared.faults.ScriptKind.TheVariants as kinds
use Rattle.hx_script.specs.declared.log.LogPart.{LogPart}
use Rattle.hx_script.specs.declared.log.LogMove.{LogMove}
use Rattle.hx_script.specs.declared.log.LogEntry.{LogEntry}
use Rattle.hx_script.specs.declared.log.LogEntry.TheVariants as logs
use Rattle.hx_script.specs.declared.log.LogLine.{LogLine}
use Rattle.hx_script.specs.declared.log.LogVerb.{LogVerb}
use Rattle.hx_script.specs.declared.log.LogVerb.TheVariants as verbs
use Rattle.hx_script.specs.declared.log.Sort.{Sort}
use Rattle.hx_script.specs.declared.log.Sort.TheVariants as sorts
use Rattle.hx_script.specs.Grammar.{map_ok, then_ok, or_fault, instance_word, model_word, state_word, number_word, numbered_by, controller_word, mode_word, pair_word, all_words, one_word, two_words, three_words, five_words, instance_alone, controller_alone}

-- the words of a line, cut at each space
abbrev pub exact_words : List ℕ → List (List ℕ)
exact_words line = slice_split is_space line

-- numbers of 32 and 64 bits
abbrev pub short_number : List ℕ → Result ℕ ScriptKind
short_number w = number_word 0 (2 ^ 32 - 1) w

abbrev pub long_number : List ℕ → Result ℕ ScriptKind
long_number w = number_word 0 (2 ^ 64 - 1) w

-- `s1`, `m1`, `e1` and `p1`
abbrev pub session_word : List ℕ → Result SessionId ScriptKind
session_word w = or_fault kinds.BadNumber (option_map (λ n. record { 0 = n }) (numbered_by 115 w))

abbrev pub message_id_word : List ℕ → Result MsgId ScriptKind
message_id_word w = or_fault kinds.BadMessage (option_map (λ n. record { 0 = n }) (numbered_by 109 w))

abbrev pub epoch_word : List ℕ → Result Epoch ScriptKind
epoch_word w = or_fault kinds.BadNumber (option_map (λ n. record { 0 = n }) (numbered_by 101 w))

abbrev pub pass_word : List ℕ → Result PassNo ScriptKind
pass_word w = or_fault kinds.BadNumber (option_map (λ n. record { 0 = n }) (numbered_by 112 w))

-- or `-` for none
abbrev pub is_dash : List ℕ → Bool
is_dash w = bytes_eq w (codes "-")

abbrev pub unless_dash : {A : Type 0} → (List ℕ → Result A ScriptKind) → List ℕ → Result (Option A) ScriptKind
unless_dash word w = if is_dash w then Ok None else map_ok Some (word w)

-- a resource: `NAME#NUMBER`; a part: `NAME#NUMBER/INDEX`
abbrev pub is_hash : ℕ → Bool
is_hash b = b == 35

abbrev pub is_slash : ℕ → Bool
is_slash b = b == 47

abbrev pub name_before : List ℕ → Result (List ℕ) ScriptKind
name_before w = if is_name (before_first is_hash w) then Ok (before_first is_hash w) else Err kinds.BadName

abbrev pub resource_number : List ℕ → Result ResourceId ScriptKind
resource_number w = map_ok (λ n. record { 0 = n }) (short_number w)

abbrev pub resource_named : Spec → List ℕ → Result (Option ℕ × ResourceId) ScriptKind
resource_named spec w = then_ok (name_before w) (λ name. map_ok (λ r. (place_of spec.resource_names name, r)) (resource_number (after_first is_hash w)))

abbrev pub part_at : Spec → List ℕ → ResourceId → ℕ → LogPart
part_at spec name r index = record { name = place_of spec.resource_names name; resource = r; index = index }

abbrev pub part_numbers : List ℕ → Result (ResourceId × ℕ) ScriptKind
part_numbers w = then_ok (resource_number (before_first is_slash w)) (λ r. map_ok (λ index. (r, index)) (short_number (after_first is_slash w)))

abbrev pub part_named : Spec → List ℕ → Result LogPart ScriptKind
part_named spec w = then_ok (name_before w) (λ name. map_ok (λ p. part_at spec name p.0 p.1) (part_numbers (after_first is_hash w)))

-- a transition: `FROM>TO`
abbrev pub is_arrow : ℕ → Bool
is_arrow b = b == 62

abbrev pub move_word : Spec → List ℕ → Result (StateId × StateId) ScriptKind
move_word spec w = then_ok (state_word spec (before_first is_arrow w)) (λ from. map_ok (λ to. (from, to)) (state_word spec (after_first is_arrow w)))

-- how a run ended
abbrev pub outcome_word : List ℕ → Result Outcome ScriptKind
outcome_word w = if bytes_eq w (codes "ok") then Ok outcomes.Ok else if bytes_eq w (codes "failed") then Ok outcomes.Failed else Err kinds.BadKind

-- so many words, and no more, or any number of others
abbrev pub four_words : List (List ℕ) → Result (List ℕ × List ℕ × List ℕ × List ℕ) ScriptKind
four_words (a ∷ b ∷ c ∷ d ∷ []) = Ok (a, b, c, d)
four_words _ = Err kinds.WordCount

abbrev pub one_and_more : List (List ℕ) → Result (List ℕ × List (List ℕ)) ScriptKind
one_and_more (a ∷ more) = Ok (a, more)
one_and_more [] = Err kinds.WordCount

-- an instance and its session; a controller with its epoch, with its pass, with a session too, or with both numbers
abbrev pub instance_and_session : Spec → List (List ℕ) → Result (InstanceId × SessionId) ScriptKind
instance_and_session spec ws = then_ok (two_words ws) (λ t. then_ok (instance_word spec t.0) (λ i. map_ok (λ s. (i, s)) (session_word t.1)))

abbrev pub controller_and_epoch : Spec → List (List ℕ) → Result (ControllerId × Epoch) ScriptKind
controller_and_epoch spec ws = then_ok (two_words ws) (λ t. then_ok (controller_word spec t.0) (λ k. map_ok (λ e. (k, e)) (epoch_word t.1)))

abbrev pub controller_and_pass : Spec → List (List ℕ) → Result (ControllerId × PassNo) ScriptKind
controller_and_pass spec ws = then_ok (two_words ws) (λ t. then_ok (controller_word spec t.0) (λ k. map_ok (λ p. (k, p)) (pass_word t.1)))

abbrev pub pass_and_session : Spec → List (List ℕ) → Result (ControllerId × PassNo × SessionId) ScriptKind
pass_and_session spec ws =
    then_ok (three_words ws) (λ t. then_ok (controller_word spec t.0) (λ k. then_ok (pass_word t.1) (λ p. map_ok (λ s. (k, p, s)) (session_word t.2))))

abbrev pub epoch_and_pass : Spec → List (List ℕ) → Result (ControllerId × Epoch × PassNo) ScriptKind
epoch_and_pass spec ws =
    then_ok (three_words ws) (λ t. then_ok (controller_word spec t.0) (λ k. then_ok (epoch_word t.1) (λ e. map_ok (λ p. (k, e, p)) (pass_word t.2))))

abbrev pub session_and_message : List (List ℕ) → Result (SessionId × MsgId) ScriptKind
session_and_message ws = then_ok (two_words ws) (λ t. then_ok (session_word t.0) (λ s. map_ok (λ m. (s, m)) (message_id_word t.1)))

-- the other forms
abbrev pub add_entry : Spec → List (List ℕ) → Result LogEntry ScriptKind
add_entry spec ws =
    then_ok (five_words ws) (λ t. then_ok (name_before t.0) (λ name. then_ok (resource_number (after_first is_hash t.0)) (λ r. then_ok (model_word spec t.1) (λ model.
    then_ok (short_number t.2) (λ replicas. then_ok (short_number t.3) (λ parts. map_ok (logs.Add (place_after spec.resource_names name) r model replicas parts) (mode_word t.4)))))))

abbrev pub drop_entry : Spec → List (List ℕ) → Result LogEntry ScriptKind
drop_entry spec ws = then_ok (one_word ws) (λ w. map_ok (λ r. logs.Drop r.0 r.1) (resource_named spec w))

abbrev pub list_entry : Spec → List (List ℕ) → Result LogEntry ScriptKind
list_entry spec ws = then_ok (one_and_more ws) (λ t. then_ok (part_named spec t.0) (λ p. map_ok (logs.List p) (all_words (instance_word spec) t.1)))

abbrev pub map_entry : Spec → List (List ℕ) → Result LogEntry ScriptKind
map_entry spec ws = then_ok (one_and_more ws) (λ t. then_ok (part_named spec t.0) (λ p. map_ok (logs.Map p) (all_words (pair_word spec) t.1)))

abbrev pub reset_entry : Spec → List (List ℕ) → Result LogEntry ScriptKind
reset_entry spec ws = then_ok (three_words ws) (λ t. then_ok (instance_word spec t.0) (λ i. then_ok (session_word t.1) (λ s. map_ok (logs.Reset i s) (part_named spec t.2))))

abbrev pub post_entry : Spec → List (List ℕ) → Result LogEntry ScriptKind
post_entry spec ws = then_ok (three_words ws) (λ t. then_ok (controller_word spec t.0) (λ k. then_ok (epoch_word t.1) (λ e. map_ok (logs.Post k e) (short_number t.2))))

abbrev pub fetch_entry : Spec → List (List ℕ) → Result LogEntry ScriptKind
fetch_entry spec ws = then_ok (three_words ws) (λ t. then_ok (instance_word spec t.0) (λ i. then_ok (unless_dash session_word t.1) (λ s. map_ok (logs.Fetch i s) (short_number t.2))))

abbrev pub write_entry : List (List ℕ) → Result LogEntry ScriptKind
write_entry ws = then_ok (three_words ws) (λ t. then_ok (session_word t.0) (λ s. then_ok (message_id_word t.1) (λ m. map_ok (logs.Write s m) (outcome_word t.2))))

-- the indented lines of a tick: the sessions that it ended
abbrev pub ended_words : Spec → List (List ℕ) → Result (InstanceId × SessionId) ScriptKind
ended_words spec (w ∷ ws) = if bytes_eq w (codes "end") then instance_and_session spec ws else Err kinds.UnknownWord
ended_words spec [] = Err kinds.WordCount

abbrev pub tick_entry : Spec → List (List ℕ) → List (List ℕ) → Result LogEntry ScriptKind
tick_entry spec ws indented = then_ok (one_word ws) (λ t. then_ok (long_number t) (λ n. map_ok (logs.Tick n) (all_words (λ l. ended_words spec (exact_words l)) indented)))

-- and those of a dispatch: what became of each proposal, and the proposal
abbrev pub move_of : Spec → Placed → List (List ℕ) → Result LogMove ScriptKind
move_of spec answer ws =
    then_ok (three_words ws) (λ t. then_ok (session_word t.0) (λ s. then_ok (part_named spec t.1) (λ p.
    map_ok (λ m. record { session = s; part = p; from = m.0; to = m.1; answer = answer }) (move_word spec t.2))))

abbrev pub then_move : Spec → List (List ℕ) → Result Placed ScriptKind → Result LogMove ScriptKind
then_move spec ws answer = then_ok answer (λ a. move_of spec a ws)

abbrev pub is_of : List ℕ → Bool
is_of w = bytes_eq w (codes "of")

abbrev pub over_bound : List ℕ → List ℕ → List ℕ → Result Placed ScriptKind
over_bound count of bound = if is_of of then then_ok (short_number count) (λ n. map_ok (placings.OverBound n) (short_number bound)) else Err kinds.UnknownWord

abbrev pub over_throttle : List ℕ → List ℕ → List ℕ → List ℕ → Result Placed ScriptKind
over_throttle rule load of limit =
    if is_of of then then_ok (short_number rule) (λ k. then_ok (short_number load) (λ n. map_ok (placings.OverThrottle k n) (short_number limit))) else Err kinds.UnknownWord

-- an answer of the word alone, of one word more, of three more and of four more
abbrev pub bare_answer : List ℕ → Result Placed ScriptKind
bare_answer w =
    if bytes_eq w (codes "ended") then Ok placings.Ended
    else if bytes_eq w (codes "dropped") then Ok placings.ResourceDropped
    else if bytes_eq w (codes "illegal") then Ok placings.Illegal
    else Err kinds.UnknownWord

abbrev pub answer_with : Spec → List ℕ → List ℕ → Result Placed ScriptKind
answer_with spec w a =
    if bytes_eq w (codes "sent") then map_ok placings.Sent (message_id_word a)
    else if bytes_eq w (codes "busy") then map_ok placings.Busy (message_id_word a)
    else if bytes_eq w (codes "from") then map_ok placings.WrongFrom (unless_dash (state_word spec) a)
    else Err kinds.UnknownWord

abbrev pub bound_answer : List ℕ → List ℕ → List ℕ → List ℕ → Result Placed ScriptKind
bound_answer w count of bound = if bytes_eq w (codes "bound") then over_bound count of bound else Err kinds.UnknownWord

abbrev pub throttle_answer : List ℕ → List ℕ → List ℕ → List ℕ → List ℕ → Result Placed ScriptKind
throttle_answer w rule load of limit = if bytes_eq w (codes "throttle") then over_throttle rule load of limit else Err kinds.UnknownWord

abbrev pub move_words : Spec → List (List ℕ) → Result LogMove ScriptKind
move_words spec (w ∷ s ∷ p ∷ m ∷ []) = then_move spec (s ∷ p ∷ m ∷ []) (bare_answer w)
move_words spec (w ∷ a ∷ s ∷ p ∷ m ∷ []) = then_move spec (s ∷ p ∷ m ∷ []) (answer_with spec w a)
move_words spec (w ∷ a ∷ b ∷ c ∷ s ∷ p ∷ m ∷ []) = then_move spec (s ∷ p ∷ m ∷ []) (bound_answer w a b c)
move_words spec (w ∷ a ∷ b ∷ c ∷ d ∷ s ∷ p ∷ m ∷ []) = then_move spec (s ∷ p ∷ m ∷ []) (throttle_answer w a b c d)
move_words spec _ = Err kinds.WordCount

abbrev pub dispatch_entry : Spec → List (List ℕ) → List (List ℕ) → Result LogEntry ScriptKind
dispatch_entry spec ws indented = then_ok (epoch_and_pass spec ws) (λ t. map_ok (logs.Dispatch t.0 t.1 t.2) (all_words (λ l. move_words spec (exact_words l)) indented))

-- no other entry has indented lines
abbrev pub alone : List (List ℕ) → Result LogEntry ScriptKind → Result LogEntry ScriptKind
alone [] entry = entry
alone (l ∷ ls) entry = Err kinds.UnknownWord

-- what the words behind a verb tell, with the indented lines
abbrev pub told_by : Spec → LogVerb → List (List ℕ) → List (List ℕ) → Result LogEntry ScriptKind
told_by spec verbs.Line ws ls = alone ls (then_ok (one_word ws) (λ w. map_ok logs.Line (short_number w)))
told_by spec verbs.Join ws ls = alone ls (map_ok (λ t. logs.Join t.0 t.1) (instance_and_session spec ws))
told_by spec verbs.End ws ls = alone ls (map_ok (λ t. logs.End t.0 t.1) (instance_and_session spec ws))
told_by spec verbs.Beat ws ls = alone ls (map_ok (λ t. logs.Beat t.0 t.1) (instance_and_session spec ws))
told_by spec verbs.Tick ws ls = tick_entry spec ws ls
told_by spec verbs.Drain ws ls = alone ls (map_ok logs.Drain (instance_alone spec ws))
told_by spec verbs.Undrain ws ls = alone ls (map_ok logs.Undrain (instance_alone spec ws))
told_by spec verbs.Add ws ls = alone ls (add_entry spec ws)
told_by spec verbs.Drop ws ls = alone ls (drop_entry spec ws)
told_by spec verbs.List ws ls = alone ls (list_entry spec ws)
told_by spec verbs.Map ws ls = alone ls (map_entry spec ws)
told_by spec verbs.Reset ws ls = alone ls (reset_entry spec ws)
told_by spec verbs.Lead ws ls = alone ls (map_ok (λ t. logs.Lead t.0 t.1) (controller_and_epoch spec ws))
told_by spec verbs.Stop ws ls = alone ls (map_ok logs.Stop (controller_alone spec ws))
told_by spec verbs.Start ws ls = alone ls (map_ok logs.Start (controller_alone spec ws))
told_by spec verbs.Begin ws ls = alone ls (map_ok (λ t. logs.Begin t.0 t.1 t.2) (epoch_and_pass spec ws))
told_by spec verbs.Live ws ls = alone ls (map_ok (λ t. logs.Live t.0 t.1) (controller_and_pass spec ws))
told_by spec verbs.Mail ws ls = alone ls (map_ok (λ t. logs.Mail t.0 t.1 t.2) (pass_and_session spec ws))
told_by spec verbs.States ws ls = alone ls (map_ok (λ t. logs.States t.0 t.1 t.2) (pass_and_session spec ws))
told_by spec verbs.Ideals ws ls = alone ls (map_ok (λ t. logs.Ideals t.0 t.1) (controller_and_pass spec ws))
told_by spec verbs.Send ws ls = dispatch_entry spec ws ls
told_by spec verbs.Post ws ls = alone ls (post_entry spec ws)
told_by spec verbs.Fetch ws ls = alone ls (fetch_entry spec ws)
told_by spec verbs.Take ws ls = alone ls (map_ok (λ t. logs.Take t.0 t.1) (session_and_message ws))
told_by spec verbs.Write ws ls = alone ls (write_entry ws)
told_by spec verbs.Ack ws ls = alone ls (map_ok (λ t. logs.Ack t.0 t.1) (session_and_message ws))

-- the words that begin an entry
abbrev pub log_verb_name : LogVerb → List ℕ
log_verb_name verbs.Line = codes "line"
log_verb_name verbs.Join = codes "join"
log_verb_name verbs.End = codes "end"
log_verb_name verbs.Beat = codes "beat"
log_verb_name verbs.Tick = codes "tick"
log_verb_name verbs.Drain = codes "drain"
log_verb_name verbs.Undrain = codes "undrain"
log_verb_name verbs.Add = codes "add"
log_verb_name verbs.Drop = codes "drop"
log_verb_name verbs.List = codes "list"
log_verb_name verbs.Map = codes "map"
log_verb_name verbs.Reset = codes "reset"
log_verb_name verbs.Lead = codes "lead"
log_verb_name verbs.Stop = codes "stop"
log_verb_name verbs.Start = codes "start"
log_verb_name verbs.Begin = codes "begin"
log_verb_name verbs.Live = codes "live"
log_verb_name verbs.Mail = codes "mail"
log_verb_name verbs.States = codes "states"
log_verb_name verbs.Ideals = codes "ideals"
log_verb_name verbs.Send = codes "send"
log_verb_name verbs.Post = codes "post"
log_verb_name verbs.Fetch = codes "fetch"
log_verb_name verbs.Take = codes "take"
log_verb_name verbs.Write = codes "write"
log_verb_name verbs.Ack = codes "ack"

abbrev pub all_log_verbs : List LogVerb
all_log_verbs =
    verbs.Line ∷ verbs.Join ∷ verbs.End ∷ verbs.Beat ∷ verbs.Tick ∷ verbs.Drain ∷ verbs.Undrain ∷ verbs.Add ∷ verbs.Drop ∷ verbs.List ∷ verbs.Map ∷ verbs.Reset
    ∷ verbs.Lead ∷ verbs.Stop ∷ verbs.Start ∷ verbs.Begin ∷ verbs.Live ∷ verbs.Mail ∷ verbs.States ∷ verbs.Ideals ∷ verbs.Send ∷ verbs.Post ∷ verbs.Fetch
    ∷ verbs.Take ∷ verbs.Write ∷ verbs.Ack ∷ []

abbrev pub is_log_verb : List ℕ → LogVerb → Bool
is_log_verb w v = bytes_eq (log_verb_name v) w

abbrev pub log_verb_of : List ℕ → Result LogVerb ScriptKind
log_verb_of w = or_fault kinds.UnknownWord (find (is_log_verb w) all_log_verbs)

-- what an entry's line tells, with the indented lines given to it
abbrev pub told_words : Spec → List (List ℕ) → List (List ℕ) → Result LogEntry ScriptKind
told_words spec [] indented = Err kinds.WordCount
told_words spec (w ∷ ws) indented = then_ok (log_verb_of w) (λ verb. told_by spec verb ws indented)

abbrev pub entry_of : Result LogEntry ScriptKind → Option LogEntry
entry_of (Ok entry) = Some entry
entry_of (Err kind) = None

abbrev pub entry_told : Spec → List ℕ → List (List ℕ) → Option LogEntry
entry_told spec line indented = entry_of (told_words spec (exact_words line) indented)

-- a line of a log is passed over, belongs to the entry before it, or is an entry
abbrev pub is_remark : ℕ → Bool
is_remark a = list_any (λ c. a == c) (codes "!?=")

abbrev pub sort_of : List ℕ → Sort
sort_of [] = sorts.PassedOver
sort_of (a ∷ []) = if is_remark a then sorts.PassedOver else sorts.Head
sort_of (a ∷ b ∷ bs) = if is_remark a then sorts.PassedOver else if (a == 32) && (b == 32) then sorts.Indented else sorts.Head

-- an entry's line with its number and the indented lines that belong to it
pub record Block : Type 0 where
  pub number : ℕ
  pub line : List ℕ
  pub indented : List (List ℕ)

-- the indented lines at the front of a log, with their numbers, and the entries behind them
pub record Blocks : Type 0 where
  pub loose : List (ℕ × List ℕ)
  pub entries : List Block

abbrev pub with_line : ℕ → List ℕ → Sort → Blocks → Blocks
with_line n l sorts.PassedOver b = b
with_line n l sorts.Indented b = record b { loose = (n, drop 2 l) ∷ b.loose }
with_line n l sorts.Head b = record { loose = []; entries = (record { number = n; line = l; indented = map (λ x. x.1) b.loose }) ∷ b.entries }

abbrev pub blocks_from : ℕ → List (List ℕ) → Blocks
blocks_from n [] = record { loose = []; entries = [] }
blocks_from n (l ∷ ls) = with_line n l (sort_of l) (blocks_from (n + 1) ls)

-- the names with the one that an `add` entry brings, which is in its second word
abbrev pub second_word : List (List ℕ) → List ℕ
second_word (a ∷ b ∷ more) = b
second_word _ = []

abbrev pub with_added : Spec → List (List ℕ) → Option LogEntry → Spec
with_added spec words (Some (logs.Add name r model replicas parts mode)) =
    record spec { resource_names = interned spec.resource_names (before_first is_hash (second_word words)) }
with_added spec words _ = spec

abbrev pub line_before : LogLine → List LogLine × Spec → List LogLine × Spec
line_before l rest = (l ∷ rest.0, rest.1)

abbrev pub told_entries : Spec → List Block → List LogLine × Spec
told_entries spec [] = ([], spec)
told_entries spec (b ∷ bs) =
    line_before (record { line = b.number; entry = entry_told spec b.line b.indented }) (told_entries (with_added spec (exact_words b.line) (entry_told spec b.line b.indented)) bs)

-- indented lines with no entry before them are no lines of a log
abbrev pub loose_line : ℕ × List ℕ → LogLine
loose_line l = record { line = l.0; entry = None }

abbrev pub lines_before : List LogLine → List LogLine × Spec → List LogLine × Spec
lines_before ls rest = (ls ++ rest.0, rest.1)

-- what the lines of a log are read as, and the description with the names that its `add` entries bring
abbrev pub log_of_blocks : Spec → Blocks → List LogLine × Spec
log_of_blocks spec b = lines_before (map loose_line b.loose) (told_entries spec b.entries)

abbrev pub log_of : Spec → List (List ℕ) → List LogLine × Spec
log_of spec lines = log_of_blocks spec (blocks_from 1 lines)
