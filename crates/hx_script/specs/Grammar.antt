-- The grammar of scripts: what each line asks for, or the first fault.
use Rattle.std.specs.Prelude.{ℕ, ◌+◌, ◌-◌, ◌^◌, Bool, true, false, ◌==◌, ◌&&◌, List, [], ◌∷◌, ◌++◌, length, Option, None, Some, Result, Ok, Err, if◌then◌else◌, find, nat_lt, nat_le, codes}
use Rattle.std.specs.List.{position_or_len, before_first, after_first}
use Rattle.std.specs.Option.{option_map}
use Rattle.std.specs.Str.{bytes_eq}
use Rattle.hx_ids.specs.declared.InstanceId.{InstanceId}
use Rattle.hx_ids.specs.declared.StateId.{StateId}
use Rattle.hx_ids.specs.declared.ModelId.{ModelId}
use Rattle.hx_ids.specs.declared.MsgId.{MsgId}
use Rattle.hx_ids.specs.declared.ControllerId.{ControllerId}
use Rattle.hx_ids.specs.Names.{place_of, place_after, interned}
use Rattle.hx_text.specs.Spellings.{is_name, number_of}
use Rattle.hx_text.specs.Lines.{words_of}
use Rattle.hx_ideal.specs.ModeKinds.{kind_named}
use Rattle.hx_cluster.specs.declared.description.Spec.{Spec}
use Rattle.hx_script.specs.Modes.{mode_number}
use Rattle.hx_script.specs.declared.ReadKind.{ReadKind}
use Rattle.hx_script.specs.declared.ReadKind.TheVariants as reads
use Rattle.hx_script.specs.declared.What.{What}
use Rattle.hx_script.specs.declared.What.TheVariants as asks
use Rattle.hx_script.specs.declared.Line.{Line}
use Rattle.hx_script.specs.declared.verbs.Verb.{Verb}
use Rattle.hx_script.specs.declared.verbs.Verb.TheVariants as verbs
use Rattle.hx_script.specs.declared.faults.ScriptKind.{ScriptKind}
use Rattle.hx_script.specs.declared.faults.ScriptKind.TheVariants as kinds
use Rattle.hx_script.specs.declared.faults.ScriptFault.{ScriptFault}

-- a value, or the first fault; the next word is tested where there was none
abbrev pub map_ok : {A B E : Type 0} → (A → B) → Result A E → Result B E
map_ok f (Ok x) = Ok (f x)
map_ok f (Err e) = Err e

abbrev pub then_ok : {A B E : Type 0} → Result A E → (A → Result B E) → Result B E
then_ok (Ok x) f = f x
then_ok (Err e) f = Err e

abbrev pub or_fault : {A : Type 0} → ScriptKind → Option A → Result A ScriptKind
or_fault kind None = Err kind
or_fault kind (Some x) = Ok x

-- the words of a line, each by what stands there
abbrev pub instance_word : Spec → List ℕ → Result InstanceId ScriptKind
instance_word spec w = or_fault kinds.UnknownInstance (option_map (λ n. record { 0 = n }) (place_of spec.instances w))

abbrev pub resource_word : Spec → List ℕ → Result ℕ ScriptKind
resource_word spec w = or_fault kinds.UnknownResource (place_of spec.resource_names w)

abbrev pub model_word : Spec → List ℕ → Result ModelId ScriptKind
model_word spec w = or_fault kinds.UnknownModel (option_map (λ n. record { 0 = n }) (place_of spec.model_names w))

abbrev pub state_word : Spec → List ℕ → Result StateId ScriptKind
state_word spec w = or_fault kinds.UnknownState (option_map (λ n. record { 0 = n }) (place_of spec.states w))

-- a name that an added resource gets
abbrev pub name_word : Spec → List ℕ → Result ℕ ScriptKind
name_word spec w = if is_name w then Ok (place_after spec.resource_names w) else Err kinds.BadName

-- a number from a least to a most
abbrev pub in_range : ℕ → ℕ → Option ℕ → Option ℕ
in_range least most None = None
in_range least most (Some n) = if nat_le least n && nat_le n most then Some n else None

abbrev pub number_word : ℕ → ℕ → List ℕ → Result ℕ ScriptKind
number_word least most w = or_fault kinds.BadNumber (in_range least most (number_of w))

-- a letter and a number
abbrev pub numbered_by : ℕ → List ℕ → Option ℕ
numbered_by letter [] = None
numbered_by letter (b ∷ bs) = if b == letter then number_of bs else None

-- `c` and a number from 1 names the controller before it
abbrev pub controller_word : Spec → List ℕ → Result ControllerId ScriptKind
controller_word spec w = or_fault kinds.UnknownController (option_map (λ n. record { 0 = n - 1 }) (in_range 1 spec.controllers (numbered_by 99 w)))

abbrev pub message_word : List ℕ → Result MsgId ScriptKind
message_word w = or_fault kinds.BadMessage (option_map (λ n. record { 0 = n }) (in_range 1 (2 ^ 64 - 1) (numbered_by 109 w)))

-- a mode, by its number
abbrev pub mode_word : List ℕ → Result ℕ ScriptKind
mode_word w = or_fault kinds.BadMode (option_map mode_number (kind_named w))

abbrev pub read_kind_of : List ℕ → Option ReadKind
read_kind_of w =
    if bytes_eq w (codes "live") then Some reads.Live
    else if bytes_eq w (codes "mail") then Some reads.Mail
    else if bytes_eq w (codes "states") then Some reads.States
    else if bytes_eq w (codes "ideals") then Some reads.Ideals
    else None

abbrev pub read_kind_word : List ℕ → Result ReadKind ScriptKind
read_kind_word w = or_fault kinds.BadKind (read_kind_of w)

-- `INSTANCE=STATE`, cut at the first `=`
abbrev pub is_equals : ℕ → Bool
is_equals b = b == 61

abbrev pub pair_word : Spec → List ℕ → Result (InstanceId × StateId) ScriptKind
pair_word spec w =
    if nat_lt (position_or_len is_equals w) (length w)
    then then_ok (instance_word spec (before_first is_equals w)) (λ i. map_ok (λ s. (i, s)) (state_word spec (after_first is_equals w)))
    else Err kinds.BadPair

-- any number of such words
abbrev pub all_words : {A : Type 0} → (List ℕ → Result A ScriptKind) → List (List ℕ) → Result (List A) ScriptKind
all_words word [] = Ok []
all_words word (w ∷ ws) = then_ok (word w) (λ x. map_ok (λ xs. x ∷ xs) (all_words word ws))

-- so many words, and no more
abbrev pub no_words : List (List ℕ) → Result (Unit {0}) ScriptKind
no_words [] = Ok tt
no_words _ = Err kinds.WordCount

abbrev pub one_word : List (List ℕ) → Result (List ℕ) ScriptKind
one_word (a ∷ []) = Ok a
one_word _ = Err kinds.WordCount

abbrev pub two_words : List (List ℕ) → Result (List ℕ × List ℕ) ScriptKind
two_words (a ∷ b ∷ []) = Ok (a, b)
two_words _ = Err kinds.WordCount

abbrev pub three_words : List (List ℕ) → Result (List ℕ × List ℕ × List ℕ) ScriptKind
three_words (a ∷ b ∷ c ∷ []) = Ok (a, b, c)
three_words _ = Err kinds.WordCount

abbrev pub five_words : List (List ℕ) → Result (List ℕ × List ℕ × List ℕ × List ℕ × List ℕ) ScriptKind
five_words (a ∷ b ∷ c ∷ d ∷ e ∷ []) = Ok (a, b, c, d, e)
five_words _ = Err kinds.WordCount

-- two words, and any number of others
abbrev pub two_and_more : List (List ℕ) → Result (List ℕ × List ℕ × List (List ℕ)) ScriptKind
two_and_more (a ∷ b ∷ more) = Ok (a, b, more)
two_and_more _ = Err kinds.WordCount

-- the words behind the first: an instance; a controller; an instance and a message; none
abbrev pub instance_alone : Spec → List (List ℕ) → Result InstanceId ScriptKind
instance_alone spec ws = then_ok (one_word ws) (instance_word spec)

abbrev pub controller_alone : Spec → List (List ℕ) → Result ControllerId ScriptKind
controller_alone spec ws = then_ok (one_word ws) (controller_word spec)

abbrev pub instance_and_message : Spec → List (List ℕ) → Result (InstanceId × MsgId) ScriptKind
instance_and_message spec ws = then_ok (two_words ws) (λ t. then_ok (instance_word spec t.0) (λ i. map_ok (λ m. (i, m)) (message_word t.1)))

-- the other forms
abbrev pub tick_line : List (List ℕ) → Result What ScriptKind
tick_line ws = then_ok (one_word ws) (λ n. map_ok asks.Tick (number_word 0 (2 ^ 64 - 1) n))

abbrev pub add_line : Spec → List (List ℕ) → Result What ScriptKind
add_line spec ws =
    then_ok (five_words ws) (λ t. then_ok (name_word spec t.0) (λ name. then_ok (model_word spec t.1) (λ model. then_ok (number_word 1 64 t.2) (λ replicas.
    then_ok (number_word 1 1024 t.3) (λ parts. map_ok (asks.Add name model replicas parts) (mode_word t.4))))))

abbrev pub drop_line : Spec → List (List ℕ) → Result What ScriptKind
drop_line spec ws = then_ok (one_word ws) (λ r. map_ok asks.Drop (resource_word spec r))

-- a resource's name and a partition's number
abbrev pub part_word : List ℕ → Result ℕ ScriptKind
part_word w = number_word 0 (2 ^ 32 - 1) w

abbrev pub part_words : Spec → List ℕ → List ℕ → Result (ℕ × ℕ) ScriptKind
part_words spec r p = then_ok (resource_word spec r) (λ name. map_ok (λ part. (name, part)) (part_word p))

abbrev pub list_line : Spec → List (List ℕ) → Result What ScriptKind
list_line spec ws = then_ok (two_and_more ws) (λ t. then_ok (part_words spec t.0 t.1) (λ p. map_ok (asks.List p.0 p.1) (all_words (instance_word spec) t.2)))

abbrev pub map_line : Spec → List (List ℕ) → Result What ScriptKind
map_line spec ws = then_ok (two_and_more ws) (λ t. then_ok (part_words spec t.0 t.1) (λ p. map_ok (asks.Map p.0 p.1) (all_words (pair_word spec) t.2)))

abbrev pub reset_line : Spec → List (List ℕ) → Result What ScriptKind
reset_line spec ws = then_ok (three_words ws) (λ t. then_ok (instance_word spec t.0) (λ i. map_ok (λ p. asks.Reset i p.0 p.1) (part_words spec t.1 t.2)))

abbrev pub read_line : Spec → List (List ℕ) → Result What ScriptKind
read_line spec ws = then_ok (two_words ws) (λ t. then_ok (controller_word spec t.0) (λ c. map_ok (asks.Read c) (read_kind_word t.1)))

abbrev pub route_line : Spec → List (List ℕ) → Result What ScriptKind
route_line spec ws = then_ok (three_words ws) (λ t. then_ok (part_words spec t.0 t.1) (λ p. map_ok (asks.Route p.0 p.1) (state_word spec t.2)))

abbrev pub bare_line : What → List (List ℕ) → Result What ScriptKind
bare_line what ws = map_ok (λ _. what) (no_words ws)

-- what the words behind a verb ask for
abbrev pub what_of : Spec → Verb → List (List ℕ) → Result What ScriptKind
what_of spec verbs.Join ws = map_ok asks.Join (instance_alone spec ws)
what_of spec verbs.Beat ws = map_ok asks.Beat (instance_alone spec ws)
what_of spec verbs.Drain ws = map_ok asks.Drain (instance_alone spec ws)
what_of spec verbs.Undrain ws = map_ok asks.Undrain (instance_alone spec ws)
what_of spec verbs.Tick ws = tick_line ws
what_of spec verbs.Expire ws = map_ok asks.Expire (instance_alone spec ws)
what_of spec verbs.Die ws = map_ok asks.Die (instance_alone spec ws)
what_of spec verbs.Add ws = add_line spec ws
what_of spec verbs.Drop ws = drop_line spec ws
what_of spec verbs.List ws = list_line spec ws
what_of spec verbs.Map ws = map_line spec ws
what_of spec verbs.Reset ws = reset_line spec ws
what_of spec verbs.Lead ws = map_ok asks.Lead (controller_alone spec ws)
what_of spec verbs.Stop ws = map_ok asks.Stop (controller_alone spec ws)
what_of spec verbs.Start ws = map_ok asks.Start (controller_alone spec ws)
what_of spec verbs.Begin ws = map_ok asks.Begin (controller_alone spec ws)
what_of spec verbs.Read ws = read_line spec ws
what_of spec verbs.Send ws = map_ok asks.Send (controller_alone spec ws)
what_of spec verbs.Post ws = map_ok asks.Post (controller_alone spec ws)
what_of spec verbs.Pass ws = map_ok asks.Pass (controller_alone spec ws)
what_of spec verbs.Fetch ws = map_ok asks.Fetch (instance_alone spec ws)
what_of spec verbs.Deliver ws = map_ok (λ e. asks.Deliver e.0 e.1) (instance_and_message spec ws)
what_of spec verbs.Take ws = map_ok (λ e. asks.Take e.0 e.1) (instance_and_message spec ws)
what_of spec verbs.Write ws = map_ok (λ e. asks.Write e.0 e.1) (instance_and_message spec ws)
what_of spec verbs.Ack ws = map_ok (λ e. asks.Ack e.0 e.1) (instance_and_message spec ws)
what_of spec verbs.Work ws = map_ok asks.Work (instance_alone spec ws)
what_of spec verbs.Settle ws = bare_line asks.Settle ws
what_of spec verbs.View ws = bare_line asks.View ws
what_of spec verbs.Route ws = route_line spec ws
what_of spec verbs.Summary ws = bare_line asks.Summary ws

-- the words that begin a line
abbrev pub verb_name : Verb → List ℕ
verb_name verbs.Join = codes "join"
verb_name verbs.Beat = codes "beat"
verb_name verbs.Drain = codes "drain"
verb_name verbs.Undrain = codes "undrain"
verb_name verbs.Tick = codes "tick"
verb_name verbs.Expire = codes "expire"
verb_name verbs.Die = codes "die"
verb_name verbs.Add = codes "add"
verb_name verbs.Drop = codes "drop"
verb_name verbs.List = codes "list"
verb_name verbs.Map = codes "map"
verb_name verbs.Reset = codes "reset"
verb_name verbs.Lead = codes "lead"
verb_name verbs.Stop = codes "stop"
verb_name verbs.Start = codes "start"
verb_name verbs.Begin = codes "begin"
verb_name verbs.Read = codes "read"
verb_name verbs.Send = codes "send"
verb_name verbs.Post = codes "post"
verb_name verbs.Pass = codes "pass"
verb_name verbs.Fetch = codes "fetch"
verb_name verbs.Deliver = codes "deliver"
verb_name verbs.Take = codes "take"
verb_name verbs.Write = codes "write"
verb_name verbs.Ack = codes "ack"
verb_name verbs.Work = codes "work"
verb_name verbs.Settle = codes "settle"
verb_name verbs.View = codes "view"
verb_name verbs.Route = codes "route"
verb_name verbs.Summary = codes "summary"

abbrev pub all_verbs : List Verb
all_verbs =
    verbs.Join ∷ verbs.Beat ∷ verbs.Drain ∷ verbs.Undrain ∷ verbs.Tick ∷ verbs.Expire ∷ verbs.Die ∷ verbs.Add ∷ verbs.Drop ∷ verbs.List ∷ verbs.Map ∷ verbs.Reset
    ∷ verbs.Lead ∷ verbs.Stop ∷ verbs.Start ∷ verbs.Begin ∷ verbs.Read ∷ verbs.Send ∷ verbs.Post ∷ verbs.Pass ∷ verbs.Fetch ∷ verbs.Deliver ∷ verbs.Take ∷ verbs.Write ∷ verbs.Ack
    ∷ verbs.Work ∷ verbs.Settle ∷ verbs.View ∷ verbs.Route ∷ verbs.Summary ∷ []

abbrev pub is_verb : List ℕ → Verb → Bool
is_verb w v = bytes_eq (verb_name v) w

abbrev pub verb_of : List ℕ → Result Verb ScriptKind
verb_of w = or_fault kinds.UnknownWord (find (is_verb w) all_verbs)

-- a line without words, or whose first word begins with `#`, is a comment
abbrev pub is_comment : List ℕ → Bool
is_comment [] = false
is_comment (b ∷ bs) = b == 35

-- what the words of a line ask for; of a comment, nothing
abbrev pub asked_by_words : Spec → List (List ℕ) → Result (Option What) ScriptKind
asked_by_words spec [] = Ok None
asked_by_words spec (w ∷ ws) = if is_comment w then Ok None else then_ok (verb_of w) (λ verb. map_ok Some (what_of spec verb ws))

abbrev pub asked_by : Spec → List ℕ → Result (Option What) ScriptKind
asked_by spec line = asked_by_words spec (words_of line)

-- the description with the name that an `add` line brings, which is its second word
abbrev pub with_second : Spec → Result (List ℕ × List ℕ × List (List ℕ)) ScriptKind → Spec
with_second spec (Err kind) = spec
with_second spec (Ok words) = record spec { resource_names = interned spec.resource_names words.1 }

abbrev pub with_name : Spec → List (List ℕ) → Spec
with_name spec words = with_second spec (two_and_more words)

abbrev pub is_add : Option What → Bool
is_add (Some (asks.Add name model replicas parts mode)) = true
is_add _ = false

abbrev pub spec_with : Spec → List (List ℕ) → Result (Option What) ScriptKind → Spec
spec_with spec words (Err kind) = spec
spec_with spec words (Ok what) = if is_add what then with_name spec words else spec

abbrev pub spec_after : Spec → List ℕ → Spec
spec_after spec line = spec_with spec (words_of line) (asked_by spec line)

-- the lines that ask for something, each with its number, and the description with the names that they bring; or the first fault
abbrev pub line_asked : ℕ → Option What → List Line
line_asked n None = []
line_asked n (Some what) = (record { number = n; what = what }) ∷ []

abbrev pub numbered : ℕ → Result (Option What) ScriptKind → Result (List Line × Spec) ScriptFault → Result (List Line × Spec) ScriptFault
numbered n (Err kind) rest = Err (record { line = n; kind = kind })
numbered n (Ok what) rest = map_ok (λ r. (line_asked n what ++ r.0, r.1)) rest

abbrev pub script_from : ℕ → List (List ℕ) → Spec → Result (List Line × Spec) ScriptFault
script_from n [] spec = Ok ([], spec)
script_from n (line ∷ lines) spec = numbered n (asked_by spec line) (script_from (n + 1) lines (spec_after spec line))

abbrev pub script_of : List (List ℕ) → Spec → Result (List Line × Spec) ScriptFault
script_of lines spec = script_from 1 lines spec
