-- A command without subcommands stops at one kind of error at most.
use Rattle.std.proofs.Common.{◌≡◌, inl, inr, ℕ, ◌+◌, Bool, true, false, ◌&&◌, ◌==◌, nat_lt, zero, suc, List, [], ◌∷◌, length, min, Option, Some, None, is_some, if◌then◌else◌, refl, sym, ap}
use Rattle.std.specs.Option.{option_map_or}
use Rattle.std.specs.Prelude.{slice_get, drop, encode_utf8}
use Rattle.std.specs.Str.{chars}
use Rattle.clap.specs.Matches.{count_text}
use Rattle.clap.specs.Facts.{parser_of_value, unwrap_or_range}
use Rattle.clap.specs.Kinds.{Kinds, IsAmong, or_else, value_kinds, values_kinds, range_kinds, request_kinds, check_kinds}
use Rattle.clap.specs.Lexer.{long_of, short_of}
use Rattle.clap.specs.Walk.{Held, Row, Rule, Step, Text, Waiting, idle, option, positional, next, trailing, subcommand, value, Walk, action_of, arg_by_id, arg_by_index, arg_by_long, arg_by_short, attached_value, count_of, most_values, reacted, settled, takes_values, values_or_missing, walk, walk_from, walked, with_default, word_met, finished, nothing_held}
use Rattle.clap.specs.Simple.{Shape, built, argument_words}
use Rattle.clap.specs.Faults.{values_fault, count_fault, repeat_fault, set_fault, action_fault, use_fault, settle_fault, react_fault, option_fault, long_fault, short_fault, bundle_step_fault, flags_fault, flag_word_fault, other_fault, word_fault, positional_fault, stray_fault, step_fault, turn_fault, walk_fault, default_fault, defaults_fault, check_fault, level_fault, entered_fault, fault_of}
use Rattle.clap.specs.declared.builder.action.ArgAction.{ArgAction}
use Rattle.clap.specs.declared.builder.action.ArgAction.TheVariants as actions
use Rattle.clap.specs.declared.builder.value_parser.ValueParser.{ValueParser}
use Rattle.clap.specs.declared.error.kind.ErrorKind.{ErrorKind}
use Rattle.clap.specs.declared.error.kind.ErrorKind.TheVariants as kinds
use Rattle.hx_words.specs.CommandLine.{command_line}

abbrev pub IsOne : Kinds → Type 0
IsOne [] = Unit {0}
IsOne (k ∷ []) = Unit {0}
IsOne (k ∷ l ∷ ks) = ⊥

-- the kind that an error has is that one
pub only : (k : ErrorKind) (ks : Kinds) → IsOne ks → IsAmong k ks → ks ≡ k ∷ []
only k [] one among = absurd among
only k (l ∷ []) one (inl same) = ap (λ x. x ∷ []) (sym same)
only k (l ∷ []) one (inr none) = absurd none
only k (l ∷ m ∷ ks) one among = absurd one

-- choices among lists of one
or_one : (a b : Kinds) → IsOne a → IsOne b → IsOne (or_else a b)
or_one [] b one_a one_b = one_b
or_one (k ∷ []) b one_a one_b = tt
or_one (k ∷ l ∷ ks) b one_a one_b = one_a

if_one : (t : Bool) (a b : Kinds) → IsOne a → IsOne b → IsOne (if t then a else b)
if_one true a b one_a one_b = one_a
if_one false a b one_a one_b = one_b

option_one : {X : Type 0} (f : X → Kinds) (o : Option X) (d : Kinds) → ((x : X) → IsOne (f x)) → IsOne d → IsOne (option_map_or f o d)
option_one f None d each one_d = one_d
option_one f (Some x) d each one_d = each x

-- one use of an argument
value_one : (i : Bool) (p : ValueParser) (t : Text) → IsOne (value_kinds i p t)
value_one i p t = if_one _ [] (_ ∷ []) tt tt

values_one : (i : Bool) (p : ValueParser) (ts : List Text) → IsOne (values_kinds i p ts)
values_one i p [] = tt
values_one i p (t ∷ ts) = or_one (value_kinds i p t) (values_kinds i p ts) (value_one i p t) (values_one i p ts)

range_by : (none same right few many : Bool) → IsOne (if none then kinds.InvalidValue ∷ [] else (if same then (if right then [] else kinds.WrongNumberOfValues ∷ []) else (if few then kinds.TooFewValues ∷ [] else (if many then kinds.TooManyValues ∷ [] else []))))
range_by true same right few many = tt
range_by false true true few many = tt
range_by false true false few many = tt
range_by false false right true many = tt
range_by false false right false true = tt
range_by false false right false false = tt

range_one : (least most n : ℕ) → IsOne (range_kinds least most n)
range_one least most n = range_by (nat_lt 0 least && n == 0) (least == most) (least == n) (nat_lt n least) (nat_lt most n)

request_one : (a : ArgAction) → IsOne (request_kinds a)
request_one actions.Set = tt
request_one actions.Append = tt
request_one actions.SetTrue = tt
request_one actions.SetFalse = tt
request_one actions.Count = tt
request_one actions.Help = tt
request_one actions.HelpShort = tt
request_one actions.HelpLong = tt
request_one actions.Version = tt

count_one : (a : Rule) (values : List Text) (rows : List Row) → IsOne (count_fault a values rows)
count_one a [] rows = value_one a.ignore_case (parser_of_value a.parser) (count_text (min (count_of a.id rows + 1) 255))
count_one a (v ∷ vs) rows = values_one a.ignore_case (parser_of_value a.parser) (v ∷ vs)

set_one : (again : Bool) (a : Rule) (values : List Text) (rows : List Row) → IsOne (set_fault again a values rows)
set_one again a values rows = or_one (repeat_fault again a.id rows) (values_fault a values) (if_one _ (_ ∷ []) [] tt tt) (values_one a.ignore_case (parser_of_value a.parser) values)

action_one : (action : ArgAction) (again : Bool) (a : Rule) (values : List Text) (rows : List Row) → IsOne (action_fault action again a values rows)
action_one actions.Set again a values rows = set_one again a values rows
action_one actions.Append again a values rows = values_one a.ignore_case (parser_of_value a.parser) values
action_one actions.SetTrue again a values rows = set_one again a values rows
action_one actions.SetFalse again a values rows = set_one again a values rows
action_one actions.Count again a values rows = count_one a values rows
action_one actions.Help again a values rows = tt
action_one actions.HelpShort again a values rows = tt
action_one actions.HelpLong again a values rows = tt
action_one actions.Version again a values rows = tt

use_one : (again : Bool) (a : Rule) (values : List Text) (rows : List Row) → IsOne (use_fault again a values rows)
use_one again a values rows =
    or_one (range_kinds (unwrap_or_range a.range).start_inclusive (most_values a) (length values)) (action_fault (action_of a) again a (values_or_missing a values) rows)
    (range_one (unwrap_or_range a.range).start_inclusive (most_values a) (length values)) (action_one (action_of a) again a (values_or_missing a values) rows)

-- one word
settle_one : (c : List Rule) (again : Bool) (h : Held) → IsOne (settle_fault c again h)
settle_one c again h = option_one _ h.pending [] (λ p. option_one _ (arg_by_id c p.0) [] (λ a. use_one again a p.1 h.rows) tt) tt

react_one : (c : List Rule) (again : Bool) (a : Rule) (values : List Text) (h : Held) → IsOne (react_fault c again a values h)
react_one c again a values h = or_one (settle_fault c again h) (use_fault again a values (settled c h).rows) (settle_one c again h) (use_one again a values (settled c h).rows)

value_of_option_one : (c : List Rule) (again : Bool) (a : Rule) (v : Option Text) (h : Held) → IsOne (option_fault c again a v h)
value_of_option_one c again a (Some v) h = react_one c again a (v ∷ []) h
value_of_option_one c again a None h = settle_one c again h

long_one : (c : List Rule) (again : Bool) (a : Option Rule) (v : Option Text) (h : Held) → IsOne (long_fault c again a v h)
long_one c again None v h = tt
long_one c again (Some a) v h = if_one (takes_values a) _ _ (value_of_option_one c again a v h) (if_one (is_some v) (_ ∷ []) _ tt (react_one c again a [] h))

short_one : (c : List Rule) (again : Bool) (a : Option Rule) (rest : Text) (h : Held) (more : Held → Kinds) → ((h : Held) → IsOne (more h)) → IsOne (short_fault c again a rest h more)
short_one c again None rest h more each = tt
short_one c again (Some a) rest h more each =
    if_one (takes_values a) _ _ (value_of_option_one c again a (attached_value rest) h) (or_one (react_fault c again a [] h) (more (reacted c a [] h)) (react_one c again a [] h) (each (reacted c a [] h)))

bundle_step_one : (c : List Rule) (again : Bool) (x : Option ℕ) (flags : Text) (skip : ℕ) (h : Held) (more : Text → ℕ → Held → Kinds) → ((t : Text) (n : ℕ) (h : Held) → IsOne (more t n h)) → IsOne (bundle_step_fault c again x flags skip h more)
bundle_step_one c again None flags skip h more each = tt
bundle_step_one c again (Some x) flags zero h more each =
    short_one c again (arg_by_short c x) (drop (length (encode_utf8 x)) flags) h (more (drop (length (encode_utf8 x)) flags) 0) (each (drop (length (encode_utf8 x)) flags) 0)
bundle_step_one c again (Some x) flags (suc skip) h more each = each (drop (length (encode_utf8 x)) flags) skip h

flags_one : (c : List Rule) (again : Bool) (k : ℕ) (flags : Text) (skip : ℕ) (h : Held) → IsOne (flags_fault c again k flags skip h)
unfolding flags_fault
flags_one c again zero flags skip h = tt
flags_one c again (suc k) flags skip h = bundle_step_one c again (slice_get (chars flags) 0) flags skip h (flags_fault c again k) (flags_one c again k)

flag_word_one : (c : List Rule) (again : Bool) (p : Option (Text × Option Text)) (word : Text) (h : Held) → IsOne (flag_word_fault c again p word h)
flag_word_one c again (Some p) word h = long_one c again (arg_by_long c p.0) p.1 h
flag_word_one c again None word h = option_one _ (short_of word) [] (λ flags. flags_one c again (length flags) flags h.skip (record h { skip = 0 })) tt

other_one : (s : Shape) (word : Text) (h : Held) → IsOne (other_fault s None word h)
other_one s word h = if_one _ [] _ tt (flag_word_one s.rules s.args_override_self (long_of word) word h)

word_one : (s : Shape) (is_trailing : Bool) (waiting : Waiting) (word : Text) (h : Held) → IsOne (word_fault s [] is_trailing waiting word h)
word_one s is_trailing idle word h = if_one is_trailing [] _ tt (other_one s word h)
word_one s is_trailing (option t) word h = if_one is_trailing [] _ tt (other_one s word h)
word_one s is_trailing positional word h = if_one is_trailing [] _ tt (other_one s word h)

stray_one : (s : Shape) → s.is_leaf ≡ true → IsOne (stray_fault s)
stray_one s leaf = rw leaf tt

positional_one : (c : List Rule) (again : Bool) (a : Rule) (h : Held) → IsOne (positional_fault c again a h)
positional_one c again a h = if_one _ [] _ tt (settle_one c again h)

step_one : (s : Shape) → s.is_leaf ≡ true → (position : ℕ) (h : Held) (step : Step) → IsOne (step_fault s position h step)
step_one s leaf position h (next w) = tt
step_one s leaf position h (trailing n) = tt
step_one s leaf position h (subcommand t) = tt
step_one s leaf position h value = option_one _ (arg_by_index s.rules position) (stray_fault s) (λ a. positional_one s.rules s.args_override_self a h) (stray_one s leaf)

turn_one : (s : Shape) → s.is_leaf ≡ true → (w : Walk) (word : Text) → IsOne (turn_fault s [] w word)
turn_one s leaf w word =
    let met = word_met s.rules [] w.is_trailing w.waiting w.position word w.held in
    if_one (is_some w.stopped) [] _ tt
    (or_one (word_fault s [] w.is_trailing w.waiting word w.held) (step_fault s w.position met.0 met.1) (word_one s w.is_trailing w.waiting word w.held) (step_one s leaf w.position met.0 met.1))

-- all words, and what follows them
walk_one : (s : Shape) → s.is_leaf ≡ true → (w : Walk) (words : List Text) → IsOne (walk_fault s [] w words)
unfolding walk_fault
walk_one s leaf w [] = tt
walk_one s leaf w (word ∷ rest) = or_one (turn_fault s [] w word) (walk_fault s [] (walked s.rules [] w word) rest) (turn_one s leaf w word) (walk_one s leaf (walked s.rules [] w word) rest)

default_one : (rows : List Row) (a : Rule) → IsOne (default_fault rows a)
default_one rows a = if_one _ [] _ tt (or_one (request_kinds (action_of a)) (values_fault a a.defaults) (request_one (action_of a)) (values_one a.ignore_case (parser_of_value a.parser) a.defaults))

defaults_one : (rows : List Row) (rules : List Rule) → IsOne (defaults_fault rows rules)
unfolding defaults_fault
defaults_one rows [] = tt
defaults_one rows (a ∷ rest) = or_one (default_fault rows a) (defaults_fault (with_default rows a) rest) (default_one rows a) (defaults_one (with_default rows a) rest)

check_by : (help command argument : Bool) → IsOne (check_kinds help command argument)
check_by true command argument = tt
check_by false true argument = tt
check_by false false true = tt
check_by false false false = tt

check_one : (s : Shape) (rows : List Row) (has_subcommand : Bool) → IsOne (check_fault s rows has_subcommand)
check_one s rows has_subcommand = check_by _ _ _

level_one : (s : Shape) → s.is_leaf ≡ true → (words : List Text) (has_subcommand : Bool) (below : Kinds) → IsOne below → IsOne (level_fault s [] nothing_held words has_subcommand below)
level_one s leaf words has_subcommand below one_below =
    let end = (walk s.rules [] nothing_held words).held in
    or_one (walk_fault s [] (walk_from nothing_held) words) _ (walk_one s leaf (walk_from nothing_held) words)
    (or_one below _ one_below
    (or_one (settle_fault s.rules s.args_override_self end) _ (settle_one s.rules s.args_override_self end)
    (or_one (defaults_fault (settled s.rules end).rows s.rules) _ (defaults_one (settled s.rules end).rows s.rules) (check_one s (finished s.rules end) has_subcommand))))

entered_one : (modes : ValueParser) (stop : Option (Text × List Text)) → IsOne (entered_fault (built (command_line modes)) stop)
entered_one modes None = tt
entered_one modes (Some p) = tt

pub command_line_one : (modes : ValueParser) (words : List Text) → IsOne (fault_of (command_line modes) words)
command_line_one modes words =
    let app = built (command_line modes) in
    let stop = (walk app.top.rules [] nothing_held (argument_words app words)).stopped in
    level_one app.top refl (argument_words app words) _ (entered_fault app stop) (entered_one modes stop)
