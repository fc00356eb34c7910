-- What a run promises: what became of its source calls for one answer, and that is what it writes.
use Rattle.std.specs.Prelude.{◌≡◌, ◌⊎◌, ℕ, ◌<◌, ◌≤◌, List, [], ◌∷◌, length, Option, Result, Ok, Err}
use Rattle.std.specs.Io.KnownBytes.{Consumes, IsAtEnd}
use Rattle.std.specs.declared.io.ErrorKind.{ErrorKind}
use Rattle.std.specs.declared.io.ErrorKind.TheVariants as kinds
use Rattle.hx_lists.specs.Counts.{Rose}
use Rattle.hx_io.specs.Whole.{Gave}
use Rattle.hx_words.specs.declared.RunMode.{RunMode}
use Rattle.hx_words.specs.declared.RunMode.TheVariants as modes
use Rattle.hx_words.specs.declared.Task.{Task}
use Rattle.hx_words.specs.declared.Words.{Words}
use Rattle.hx_words.specs.declared.Words.TheVariants as asks
use Rattle.hx_words.specs.declared.WordsFault.{WordsFault}
use Rattle.hx_words.specs.declared.WordsFault.TheVariants as faults
use Rattle.hx_words.specs.Tasks.{HoldsOfAsked}
use Rattle.hx_app.specs.Constants.{most_bytes, no_memory}
use Rattle.hx_app.specs.Replies.{Answer, usage, version, words_refused, read_fault, too_long}
use Rattle.hx_app.specs.History.{IsSoundRun}
use Rattle.hx_app.specs.Answers.{answer_to, generated_answer}
use Rattle.hx_app.specs.Sound.{IsSoundLog}
use Rattle.hx_app.specs.Verdicts.{judged_answer}
use Rattle.hx_app.specs.declared.program.Behind.{Behind}
use Rattle.hx_app.specs.declared.program.Behind.TheVariants as behinds
use Rattle.hx_app.specs.Writes.{SinkAt, Writes}

-- a source at one moment: the bytes that are left, where it tells them, and how many calls have failed
pub record SourceAt : Type 0 where
  pub left : Option (List ℕ)
  pub faults : ℕ

-- the answer to an input: a script is run, and a log judged
abbrev pub answer_in : Behind → List ℕ → Answer
answer_in behinds.Script bytes = answer_to bytes
answer_in behinds.Log bytes = judged_answer bytes

-- the history of its run, or the one that its log tells if it is found lawful, is sound: lawful, safe at each place, with one run of each
-- taken message, and without a refused proposal
abbrev pub IsSoundInput : Behind → List ℕ → Type 0
IsSoundInput behinds.Script bytes = IsSoundRun bytes
IsSoundInput behinds.Log bytes = IsSoundLog bytes

-- the source was read to its end and gave these bytes, not too many
pub record IsRead (behind : Behind) (old new : SourceAt) (bytes : List ℕ) : Type 0 where
  pub given : Consumes old.left new.left bytes
  pub end : IsAtEnd new.left
  pub short : length bytes ≤ most_bytes
  pub sound : IsSoundInput behind bytes

-- the source failed before it gave too many bytes
pub record IsFailed (old new : SourceAt) : Type 0 where
  pub rose : Rose old.faults new.faults
  pub short : Gave old.left new.left (λ bytes. length bytes ≤ most_bytes)

-- the source gave too many bytes
abbrev pub IsTooLong : SourceAt → SourceAt → Type 0
IsTooLong old new = Gave old.left new.left (λ bytes. most_bytes < length bytes)

-- what became of the source calls for an answer
abbrev pub CallsFor : Behind → SourceAt → SourceAt → Answer → Type 0
CallsFor behind old new answer =
    ((bytes : List ℕ) × IsRead behind old new bytes × (answer ≡ answer_in behind bytes))
    ⊎ (IsFailed old new × (answer ≡ read_fault))
    ⊎ (IsTooLong old new × (answer ≡ too_long))

-- memory was wanted, and nothing was written
pub record IsUnwritten (old new : SinkAt) (status : ℕ) : Type 0 where
  pub wanted : status ≡ no_memory
  pub got : new.got ≡ old.got

-- the run of an input on a source and a sink. Their counts of faults never fall
pub record RunsInput (behind : Behind) (source source' : SourceAt) (sink sink' : SinkAt) (status : ℕ) : Type 0 where
  pub ended :
      ((answer : Answer) × CallsFor behind source source' answer × Writes answer sink sink' status)
      ⊎ IsUnwritten sink sink' status
  pub source_later : source.faults ≤ source'.faults
  pub sink_later : sink.faults ≤ sink'.faults

-- an answer was written, whole or cut; or memory was wanted, and nothing was written
abbrev pub EndsTold : Answer → SinkAt → SinkAt → ℕ → Type 0
EndsTold answer sink sink' status = Writes answer sink sink' status ⊎ ((status ≡ no_memory) × (sink' ≡ sink))

-- an answer for which nothing is read
pub record Tells (answer : Answer) (source source' : SourceAt) (sink sink' : SinkAt) (status : ℕ) : Type 0 where
  pub ended : EndsTold answer sink sink' status
  pub unread : source' ≡ source

-- a run of a task. Where its input is generated nothing is read
abbrev pub RunsIn : RunMode → Task → SourceAt → SourceAt → SinkAt → SinkAt → ℕ → Type 0
RunsIn modes.Sim task source source' sink sink' status = RunsInput behinds.Script source source' sink sink' status
RunsIn modes.Gen task source source' sink sink' status =
    Tells (generated_answer task) source source' sink sink' status
RunsIn modes.Check task source source' sink sink' status = RunsInput behinds.Log source source' sink sink' status

abbrev pub Runs : Task → SourceAt → SourceAt → SinkAt → SinkAt → ℕ → Type 0
Runs task source source' sink sink' status = RunsIn task.mode task source source' sink sink' status

-- what the words ask for is done. For want of memory nothing is read or written
abbrev pub RunsWords : SourceAt → SourceAt → SinkAt → SinkAt → ℕ → Result Words WordsFault → Type 0
RunsWords source source' sink sink' status (Ok (asks.Run task)) = Runs task source source' sink sink' status
RunsWords source source' sink sink' status (Ok asks.Help) = Tells usage source source' sink sink' status
RunsWords source source' sink sink' status (Ok asks.Version) = Tells version source source' sink sink' status
RunsWords source source' sink sink' status (Err faults.Refused) =
    Tells words_refused source source' sink sink' status
RunsWords source source' sink sink' status (Err faults.OutOfMemory) =
    (status ≡ no_memory) × (source' ≡ source) × (sink' ≡ sink)

-- why the system doesn't tell the words: want of memory, or else a word isn't text, which is refused
abbrev pub untold_by : ErrorKind → WordsFault
untold_by kinds.OutOfMemory = faults.OutOfMemory
untold_by _ = faults.Refused

-- something holds of what words ask for. No words at all are refused
abbrev pub HoldsOfTold : List (List ℕ) → (Result Words WordsFault → Type 0) → Type 0
HoldsOfTold [] Holds = Holds (Err faults.Refused)
HoldsOfTold (word ∷ words) Holds = HoldsOfAsked (word ∷ words) Holds
