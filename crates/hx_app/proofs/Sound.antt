-- A log that is found lawful tells a sound history.
use Rattle.std.proofs.Common.{◌≡◌, ℕ, List, [], ◌∷◌, Option, None, Some, Result, Ok, Err, refl, ap, subst, ◌∙◌}
use Rattle.std.specs.Prelude.{IfOk}
use Rattle.hx_text.specs.Faults.{lines_fault}
use Rattle.hx_text.specs.Lines.{lines_of}
use Rattle.hx_text.specs.declared.line_table.TextFault.{TextFault}
use Rattle.hx_text.specs.declared.line_table.TextFault.TheVariants as texts
use Rattle.hx_cluster.specs.declared.description.Spec.{Spec}
use Rattle.hx_cluster.specs.declared.state.Cluster.{Cluster}
use Rattle.hx_cluster.specs.declared.happenings.Event.{Event}
use Rattle.hx_cluster.specs.Events.{next}
use Rattle.hx_cluster.specs.Steps.{opening}
use Rattle.hx_cluster.specs.Valid.{IsValid}
use Rattle.hx_pass.specs.Lawful.{IsLawful}
use Rattle.hx_lawful.specs.Holding.{IsSound}
use Rattle.hx_lawful.proofs.Holding.{holds_of_lawful}
use Rattle.hx_script.specs.Logs.{log_of}
use Rattle.hx_script.specs.declared.log.LogEntry.{LogEntry}
use Rattle.hx_script.specs.LogEntries.{entry_told_by}
use Rattle.hx_logs.specs.Printed as logs
use Rattle.hx_logs.proofs.ReadLogs.{log_printed}
use Rattle.hx_forms.specs.Found.{Found}
use Rattle.hx_desc.specs.Description.{input_spec}
use Rattle.hx_desc.proofs.ValidSpec.{input_valid}
use Rattle.hx_check.specs.declared.Verdict.{Verdict}
use Rattle.hx_check.specs.declared.Verdict.TheVariants as verdicts
use Rattle.hx_check.specs.Judge.{built, fault_or, most_line, verdict_of, verdict_on_text, told_along}
use Rattle.hx_check.proofs.Built.{lawful_built}
use Rattle.hx_check.proofs.LogsValid.{log_valid}
use Rattle.hx_app.specs.Verdicts.{log_in}
use Rattle.hx_app.specs.Sound.{IsSoundVerdict, IsSoundLog}

sound_history : (spec : Spec) (history : List Event) → IsValid spec → IsLawful spec history → IsSound spec history
sound_history spec history valid lawful = record {
  lawful = lawful;
  holds = λ h more is. holds_of_lawful spec h more valid (subst (λ (es : List Event). IsLawful spec es) is lawful);
}

-- what events tell, by both definitions
told_as_read : (c : Cluster) (es : List Event) → logs.told_along c es ≡ told_along c es
told_as_read c [] = refl
told_as_read c (e ∷ es) = ap (λ (more : List (Option LogEntry)). entry_told_by c e ∷ more) (told_as_read (next c e) es)

sound_lines : (spec : Spec) (lines : List (List ℕ)) → IsValid spec → (v : Verdict) → verdict_of spec lines ≡ v → IsSoundVerdict lines (log_of spec lines) v
sound_lines spec lines valid (verdicts.Unlawful line cause) is = tt
sound_lines spec lines valid (verdicts.Lawful n) is =
    let log = log_of spec lines in
    let good = log_valid spec lines valid in
    let made = lawful_built log.1 log.0 n good is in
    record {
      history = built log.1 log.0;
      sound = sound_history log.1 (built log.1 log.0) good made.0.lawful;
      told = made.0;
      entries = made.1;
      text = log_printed spec lines (opening log.1) (built log.1 log.0) valid made.0.lawful.0 (told_as_read (opening log.1) (built log.1 log.0) ∙ made.0.told);
    }

sound_text : (spec : Spec) (log : List ℕ) → IsValid spec → IsSoundVerdict (lines_of log) (log_of spec (lines_of log)) (verdict_on_text spec log)
sound_text spec log valid = one (lines_fault most_line log)
  where
    one : (fault : Option TextFault) → IsSoundVerdict (lines_of log) (log_of spec (lines_of log)) (fault_or fault (verdict_of spec (lines_of log)))
    one None = sound_lines spec (lines_of log) valid (verdict_of spec (lines_of log)) refl
    one (Some (texts.NotUtf8 line)) = tt
    one (Some (texts.LineTooLong line)) = tt
    one (Some texts.OutOfMemory) = sound_lines spec (lines_of log) valid (verdict_of spec (lines_of log)) refl

pub sound_log : (bytes : List ℕ) → IsSoundLog bytes
sound_log bytes = one (input_spec bytes) refl
  where
    one : (found : Found Spec) → input_spec bytes ≡ found
        → IfOk found (λ spec. IsSoundVerdict (lines_of (log_in bytes)) (log_of spec (lines_of (log_in bytes))) (verdict_on_text spec (log_in bytes)))
    one (Ok spec) is = sound_text spec (log_in bytes) (input_valid bytes spec is)
    one (Err f) is = tt
