-- What holds of a log that is found lawful.
use Rattle.std.specs.Prelude.{⊤, ◌≡◌, ℕ, List, length, IfOk}
use Rattle.hx_text.specs.Lines.{lines_of}
use Rattle.hx_cluster.specs.declared.description.Spec.{Spec}
use Rattle.hx_cluster.specs.declared.happenings.Event.{Event}
use Rattle.hx_cluster.specs.Steps.{opening}
use Rattle.hx_lawful.specs.Holding.{IsSound}
use Rattle.hx_print.specs.Texts.{log_text}
use Rattle.hx_script.specs.declared.log.LogLine.{LogLine}
use Rattle.hx_script.specs.Logs.{log_of}
use Rattle.hx_logs.specs.Kept.{kept_text}
use Rattle.hx_desc.specs.Description.{input_spec}
use Rattle.hx_check.specs.declared.Verdict.{Verdict}
use Rattle.hx_check.specs.declared.Verdict.TheVariants as verdicts
use Rattle.hx_check.specs.Judge.{IsToldBy, verdict_on_text}
use Rattle.hx_app.specs.Verdicts.{log_in}

-- the lines of a log tell a history, one event for each entry, which is lawful and so all that a lawful history is. Its text is that of the
-- lines, without those that are passed over
pub record TellsSound (lines : List (List ℕ)) (log : List LogLine × Spec) (n : ℕ) : Type 0 where
  pub history : List Event
  pub sound : IsSound log.1 history
  pub told : IsToldBy log.1 history log.0
  pub entries : n ≡ length log.0
  pub text : log_text log.1 (opening log.1) history ≡ kept_text lines

abbrev pub IsSoundVerdict : List (List ℕ) → List LogLine × Spec → Verdict → Type 0
IsSoundVerdict lines log (verdicts.Lawful n) = TellsSound lines log n
IsSoundVerdict lines log (verdicts.Unlawful line cause) = ⊤

-- such is a log behind a good description, where it is found lawful
abbrev pub IsSoundLog : List ℕ → Type 0
IsSoundLog bytes =
    IfOk (input_spec bytes) (λ spec. IsSoundVerdict (lines_of (log_in bytes)) (log_of spec (lines_of (log_in bytes))) (verdict_on_text spec (log_in bytes)))
