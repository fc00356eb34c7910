-- The command line: five options, each with a value, and the requests for help and for the version.
use Rattle.std.specs.Prelude.{◌^◌, ◌-◌, ℕ, List, [], ◌∷◌, map, Option, Some, None, codes, true}
use Rattle.clap.specs.Walk.{Rule}
use Rattle.clap.specs.Simple.{App, new_app, new_rule, with_rule}
use Rattle.clap.specs.declared.builder.action.ArgAction.TheVariants as actions
use Rattle.clap.specs.declared.builder.value_parser.ValueParser.{ValueParser}
use Rattle.clap.specs.declared.builder.value_parser.ValueParser.TheVariants as parsers

-- `--NAME VALUE`
abbrev pub option_rule : List ℕ → ValueParser → Rule
option_rule name parser = record (new_rule name) { long = Some name; action = Some actions.Set; parser = Some parser }

-- the modes that are built
abbrev pub mode_names : List (List ℕ)
mode_names = codes "sim" ∷ codes "gen" ∷ codes "check" ∷ []

-- the names that a parser takes, where it takes names
abbrev pub names_taken : ValueParser → Option (List (List ℕ))
names_taken (parsers.Names names) = Some (map (λ name. name.now) names.now)
names_taken _ = None

abbrev pub mode_rule : ValueParser → Rule
mode_rule modes = option_rule (codes "mode") modes

abbrev pub lanes_rule : Rule
lanes_rule = option_rule (codes "lanes") (parsers.Unsigned 1 16)

abbrev pub rounds_rule : Rule
rounds_rule = option_rule (codes "rounds") (parsers.Unsigned 0 1000)

abbrev pub seed_rule : Rule
seed_rule = option_rule (codes "seed") (parsers.Unsigned 0 (2 ^ 64 - 1))

abbrev pub size_rule : Rule
size_rule = option_rule (codes "size") (parsers.Unsigned 1 256)

abbrev pub with_version : App → App
with_version a = record a { top = record a.top { has_version = true } }

-- all options. The command speaks of its own list of names, wherever that stands
abbrev pub command_line : ValueParser → App
command_line modes = with_rule (with_rule (with_rule (with_rule (with_rule (with_version (new_app (codes "fodderca"))) (mode_rule modes)) lanes_rule) rounds_rule) seed_rule) size_rule
