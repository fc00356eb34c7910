-- What the words of a command line ask for.
use Rattle.std.specs.Prelude.{⊤, ◌≡◌, ◌⊎◌, ◌≤◌, ◌^◌, ◌-◌, ℕ, List, [], ◌∷◌, Option, Some, None, unwrap_or, Result, Ok, Err, IfOk, IfErr, codes, if◌then◌else◌}
use Rattle.std.specs.Str.{bytes_eq}
use Rattle.std.specs.Str.Parse.{digits_value, without_leading_plus}
use Rattle.clap.specs.ValueTests.{is_unsigned_in}
use Rattle.clap.specs.Walk.{Row, first_of, one_of}
use Rattle.clap.specs.Simple.{matches_of}
use Rattle.clap.specs.Kinds.{Kinds}
use Rattle.clap.specs.Faults.{fault_of}
use Rattle.clap.specs.declared.builder.value_parser.ValueParser.{ValueParser}
use Rattle.clap.specs.declared.error.kind.ErrorKind.{ErrorKind}
use Rattle.clap.specs.declared.error.kind.ErrorKind.TheVariants as kinds
use Rattle.hx_words.specs.declared.RunMode.{RunMode}
use Rattle.hx_words.specs.declared.RunMode.TheVariants as modes
use Rattle.hx_words.specs.declared.Task.{Task}
use Rattle.hx_words.specs.declared.Words.{Words}
use Rattle.hx_words.specs.declared.Words.TheVariants as asks
use Rattle.hx_words.specs.declared.WordsFault.{WordsFault}
use Rattle.hx_words.specs.declared.WordsFault.TheVariants as faults
use Rattle.hx_words.specs.CommandLine.{mode_names, names_taken, command_line}

-- the number of an option, which the command line has tested; its default where the option isn't there
abbrev pub number_in : ℕ → ℕ → ℕ → Option (List ℕ) → ℕ
number_in least most default None = default
number_in least most default (Some text) = if is_unsigned_in least most text then digits_value 10 (without_leading_plus text) else default

-- the mode of a name, which the command line has tested too
abbrev pub mode_named : List ℕ → Option RunMode
mode_named text =
    if bytes_eq text (codes "sim") then Some modes.Sim
    else if bytes_eq text (codes "gen") then Some modes.Gen
    else if bytes_eq text (codes "check") then Some modes.Check
    else None

abbrev pub mode_in : Option (List ℕ) → RunMode
mode_in None = modes.Sim
mode_in (Some text) = unwrap_or (mode_named text) modes.Sim

-- the numbers of a task are in the ranges of their options
pub record HasRanges (task : Task) : Type 0 where
  pub lanes : (1 ≤ task.lanes) × (task.lanes ≤ 16)
  pub rounds : task.rounds ≤ 1000
  pub size : (1 ≤ task.size) × (task.size ≤ 256)

abbrev pub MeetsRanges : Words → Type 0
MeetsRanges (asks.Run task) = HasRanges task
MeetsRanges asks.Help = ⊤
MeetsRanges asks.Version = ⊤

-- the task of the options that were read
abbrev pub task_of : List Row → Task
task_of rows = record {
  mode = mode_in (first_of (codes "mode") rows);
  lanes = number_in 1 16 4 (one_of (codes "lanes") rows);
  rounds = number_in 0 1000 10 (one_of (codes "rounds") rows);
  seed = number_in 0 (2 ^ 64 - 1) 1 (one_of (codes "seed") rows);
  size = number_in 1 256 64 (one_of (codes "size") rows);
}

-- where the command line stops at a request, that; any other fault refuses the words
abbrev pub answer_to : ErrorKind → Result Words WordsFault
answer_to kinds.DisplayHelp = Ok asks.Help
answer_to kinds.DisplayVersion = Ok asks.Version
answer_to kinds.OutOfMemory = Err faults.OutOfMemory
answer_to _ = Err faults.Refused

abbrev pub answer_by : Kinds → List Row → Result Words WordsFault
answer_by [] rows = Ok (asks.Run (task_of rows))
answer_by (kind ∷ more) rows = answer_to kind

-- what the words ask for, the program's name among them as the first
abbrev pub asked_by : ValueParser → List (List ℕ) → Result Words WordsFault
asked_by modes words = answer_by (fault_of (command_line modes) words) (matches_of (command_line modes) words)

-- something holds of what the words ask of the command whose modes are those that are built
abbrev pub HoldsOfAsked : List (List ℕ) → (Result Words WordsFault → Type 0) → Type 0
HoldsOfAsked words Holds = (modes : ValueParser) × (names_taken modes ≡ Some mode_names) × Holds (asked_by modes words)

-- an answer is what was asked for, or tells of want of memory
pub record IsAnswer (answer asked : Result Words WordsFault) : Type 0 where
  pub ok : IfOk answer (λ words. asked ≡ Ok words)
  pub err : IfErr answer (λ e. (e ≡ faults.OutOfMemory) ⊎ (asked ≡ Err e))
