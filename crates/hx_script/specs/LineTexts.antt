-- The texts of script lines, as they are printed: one space between words.
use Rattle.std.specs.Prelude.{◌≡◌, ℕ, Bool, ◌&&◌, List, [], ◌∷◌, map, codes, decimal, Some, Ok}
use Rattle.std.specs.List.{list_all}
use Rattle.std.specs.Option.{option_map_or}
use Rattle.hx_text.specs.Spellings.{is_name}
use Rattle.hx_text.specs.Lines.{lines_of}
use Rattle.hx_ideal.specs.ModeKinds.{kind_name}
use Rattle.hx_cluster.specs.declared.description.Spec.{Spec}
use Rattle.hx_print.specs.Texts.{line_of, name_at, instance_name, state_name, model_name, controller_name, message_name, mapped_name}
use Rattle.hx_script.specs.Modes.{mode_numbered}
use Rattle.hx_script.specs.declared.ReadKind.{ReadKind}
use Rattle.hx_script.specs.declared.ReadKind.TheVariants as reads
use Rattle.hx_script.specs.declared.What.{What}
use Rattle.hx_script.specs.declared.What.TheVariants as asks
use Rattle.hx_script.specs.declared.verbs.Verb.TheVariants as verbs
use Rattle.hx_script.specs.Grammar.{verb_name, asked_by, spec_after, script_of}

-- a number that is no mode has the empty name
abbrev pub mode_text : ℕ → List ℕ
mode_text mode = option_map_or kind_name (mode_numbered mode) []

abbrev pub read_kind_text : ReadKind → List ℕ
read_kind_text reads.Live = codes "live"
read_kind_text reads.Mail = codes "mail"
read_kind_text reads.States = codes "states"
read_kind_text reads.Ideals = codes "ideals"

-- the words of a line
abbrev pub what_words : Spec → What → List (List ℕ)
what_words spec (asks.Join i) = verb_name verbs.Join ∷ instance_name spec i ∷ []
what_words spec (asks.Beat i) = verb_name verbs.Beat ∷ instance_name spec i ∷ []
what_words spec (asks.Drain i) = verb_name verbs.Drain ∷ instance_name spec i ∷ []
what_words spec (asks.Undrain i) = verb_name verbs.Undrain ∷ instance_name spec i ∷ []
what_words spec (asks.Tick n) = verb_name verbs.Tick ∷ decimal n ∷ []
what_words spec (asks.Expire i) = verb_name verbs.Expire ∷ instance_name spec i ∷ []
what_words spec (asks.Die i) = verb_name verbs.Die ∷ instance_name spec i ∷ []
what_words spec (asks.Add name model replicas parts mode) =
    verb_name verbs.Add ∷ name_at spec.resource_names name ∷ model_name spec model ∷ decimal replicas ∷ decimal parts ∷ mode_text mode ∷ []
what_words spec (asks.Drop name) = verb_name verbs.Drop ∷ name_at spec.resource_names name ∷ []
what_words spec (asks.List name part list) = verb_name verbs.List ∷ name_at spec.resource_names name ∷ decimal part ∷ map (instance_name spec) list
what_words spec (asks.Map name part entries) = verb_name verbs.Map ∷ name_at spec.resource_names name ∷ decimal part ∷ map (mapped_name spec) entries
what_words spec (asks.Reset i name part) = verb_name verbs.Reset ∷ instance_name spec i ∷ name_at spec.resource_names name ∷ decimal part ∷ []
what_words spec (asks.Lead k) = verb_name verbs.Lead ∷ controller_name k ∷ []
what_words spec (asks.Stop k) = verb_name verbs.Stop ∷ controller_name k ∷ []
what_words spec (asks.Start k) = verb_name verbs.Start ∷ controller_name k ∷ []
what_words spec (asks.Begin k) = verb_name verbs.Begin ∷ controller_name k ∷ []
what_words spec (asks.Read k kind) = verb_name verbs.Read ∷ controller_name k ∷ read_kind_text kind ∷ []
what_words spec (asks.Send k) = verb_name verbs.Send ∷ controller_name k ∷ []
what_words spec (asks.Post k) = verb_name verbs.Post ∷ controller_name k ∷ []
what_words spec (asks.Pass k) = verb_name verbs.Pass ∷ controller_name k ∷ []
what_words spec (asks.Fetch i) = verb_name verbs.Fetch ∷ instance_name spec i ∷ []
what_words spec (asks.Deliver i m) = verb_name verbs.Deliver ∷ instance_name spec i ∷ message_name m ∷ []
what_words spec (asks.Take i m) = verb_name verbs.Take ∷ instance_name spec i ∷ message_name m ∷ []
what_words spec (asks.Write i m) = verb_name verbs.Write ∷ instance_name spec i ∷ message_name m ∷ []
what_words spec (asks.Ack i m) = verb_name verbs.Ack ∷ instance_name spec i ∷ message_name m ∷ []
what_words spec (asks.Work i) = verb_name verbs.Work ∷ instance_name spec i ∷ []
what_words spec asks.Settle = verb_name verbs.Settle ∷ []
what_words spec asks.View = verb_name verbs.View ∷ []
what_words spec (asks.Route name part state) = verb_name verbs.Route ∷ name_at spec.resource_names name ∷ decimal part ∷ state_name spec state ∷ []
what_words spec asks.Summary = verb_name verbs.Summary ∷ []

-- its text, with the line feed at its end
abbrev pub line_text : Spec → What → List ℕ
line_text spec what = line_of (what_words spec what)

-- some line asks for it and brings no name that the description lacks: so each line that `parse` gives, of the description that it leaves
pub record IsAsked (spec : Spec) (what : What) : Type 0 where
  pub text : List ℕ
  pub asks : asked_by spec text ≡ Ok (Some what)
  pub known : spec_after spec text ≡ spec

-- the names that a description has are spelt as names are
abbrev pub has_names : Spec → Bool
has_names spec = list_all is_name spec.instances && (list_all is_name spec.states && (list_all is_name spec.resource_names && list_all is_name spec.model_names))

-- the text is read as a line that asks for the same, and brings no name
abbrev pub IsReadAs : Spec → List ℕ → What → Type 0
IsReadAs spec text what = script_of (lines_of text) spec ≡ Ok (record { number = 1; what = what } ∷ [], spec)
