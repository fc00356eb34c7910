-- What words ask for, by what the command line answers.
use Rattle.std.proofs.Common.{◌≡◌, ◌⊎◌, inl, inr, true, List, [], Result, Ok, Err, refl, sym, ap, ◌∙◌, subst}
use Rattle.std.specs.Result.{IsErrAnd}
use Rattle.clap.specs.Matches.{found_of}
use Rattle.clap.specs.Values.{kind_of}
use Rattle.clap.specs.Walk.{rows_of, Text}
use Rattle.clap.specs.Simple.{App, HasMatchesOf, matches_of, is_simple}
use Rattle.clap.specs.Kinds.{FailsBy, IsAmong}
use Rattle.clap.specs.Faults.{fault_of, is_simple_and_free}
use Rattle.clap.specs.declared.builder.value_parser.ValueParser.{ValueParser}
use Rattle.clap.specs.declared.error.Error.{Error}
use Rattle.clap.specs.declared.error.kind.ErrorKind.{ErrorKind}
use Rattle.clap.specs.declared.error.kind.ErrorKind.TheVariants as kinds
use Rattle.clap.specs.declared.parser.matches.ArgMatches.{ArgMatches}
use Rattle.clap.proofs.OnLiterals.{clap_on_literals}
use Rattle.hx_words.specs.declared.Words.{Words}
use Rattle.hx_words.specs.declared.Words.TheVariants as asks
use Rattle.hx_words.specs.declared.WordsFault.{WordsFault}
use Rattle.hx_words.specs.declared.WordsFault.TheVariants as faults
use Rattle.hx_words.specs.CommandLine.{command_line}
use Rattle.hx_words.specs.Tasks.{task_of, answer_to, answer_by, asked_by, IsAnswer}
use Rattle.hx_words.proofs.OneKind.{only, command_line_one}

-- the command line is one of those that clap's definitions cover
simple_and_free : (modes : ValueParser) → is_simple_and_free (command_line modes) ≡ true
unfolding clap_on_literals
simple_and_free modes = refl

simple : (modes : ValueParser) → is_simple (command_line modes) ≡ true
unfolding clap_on_literals
simple modes = refl

-- the command's matches are the task
pub by_matches : (app : App) (modes : ValueParser) (words : List Text) (m : ArgMatches) → app ≡ command_line modes → (is_simple_and_free app ≡ true → FailsBy {T = ArgMatches} (fault_of app words) (Ok m)) → HasMatchesOf app words m
    → Ok (asks.Run (task_of (rows_of (found_of m)))) ≡ asked_by modes words
by_matches app modes words m is fails matches =
    let none : fault_of (command_line modes) words ≡ [] = ap (λ a. fault_of a words) (sym is) ∙ fails (ap is_simple_and_free is ∙ simple_and_free modes) in
    let rows = (matches (ap is_simple is ∙ simple modes)).0 ∙ ap (λ a. matches_of a words) is in
    ap (λ rs. Ok (asks.Run (task_of rs))) rows ∙ ap (λ ks. answer_by ks (matches_of (command_line modes) words)) (sym none)

-- its error is the one that the words are answered by, or tells of want of memory
pub by_error : (app : App) (modes : ValueParser) (words : List Text) (e : Error) → app ≡ command_line modes → (is_simple_and_free app ≡ true → FailsBy {T = ArgMatches} (fault_of app words) (Err e))
    → (kind_of e ≡ kinds.OutOfMemory) ⊎ (answer_to (kind_of e) ≡ asked_by modes words)
by_error app modes words e is fails = elim (fails (ap is_simple_and_free is ∙ simple_and_free modes)) [
  | inl memory ↦ inl memory
  | inr among ↦ inr (
      let one = only (kind_of e) (fault_of (command_line modes) words) (command_line_one modes words) (subst (λ a. IsAmong (kind_of e) (fault_of a words)) is among) in
      ap (λ ks. answer_by ks (matches_of (command_line modes) words)) (sym one)
      )
]

-- an answer that is the definition's, or that tells of want of memory
pub answered : (asked r : Result Words WordsFault) → r ≡ asked → IsAnswer r asked
answered asked (Ok words) is = record { ok = sym is; err = tt }
answered asked (Err e) is = record { ok = tt; err = inr (sym is) }

pub answered_error : (asked : Result Words WordsFault) (kind : ErrorKind) (r : Result Words WordsFault) → r ≡ answer_to kind → (kind ≡ kinds.OutOfMemory) ⊎ (answer_to kind ≡ asked) → IsAnswer r asked
answered_error asked kind r is (inr same) = answered asked r (is ∙ same)
answered_error asked kind (Ok words) is (inl memory) = let out = is ∙ ap answer_to memory in cc
answered_error asked kind (Err e) is (inl memory) = let out = is ∙ ap answer_to memory in let same : e ≡ faults.OutOfMemory = cc in record { ok = tt; err = inl same }

pub wanted : (asked r : Result Words WordsFault) → IsErrAnd r (λ e. e ≡ faults.OutOfMemory) → IsAnswer r asked
wanted asked (Ok words) none = absurd none
wanted asked (Err e) memory = record { ok = tt; err = inl memory }
