-- The status and the text that answer a log.
use Rattle.std.specs.Prelude.{ℕ, List, [], Result, Ok, Err, unwrap_or}
use Rattle.hx_text.specs.Lines.{cut_of}
use Rattle.hx_cluster.specs.declared.description.Spec.{Spec}
use Rattle.hx_forms.specs.Found.{Found}
use Rattle.hx_desc.specs.Description.{input_spec}
use Rattle.hx_check.specs.declared.Verdict.{Verdict}
use Rattle.hx_check.specs.declared.Verdict.TheVariants as verdicts
use Rattle.hx_check.specs.Judge.{verdict_on_text, verdict_text}
use Rattle.hx_app.specs.Constants as statuses
use Rattle.hx_app.specs.Replies.{Answer, description_answer}

abbrev pub verdict_status : Verdict → ℕ
verdict_status (verdicts.Lawful n) = statuses.done
verdict_status (verdicts.Unlawful line cause) = statuses.unlawful

abbrev pub verdict_answer : Verdict → Answer
verdict_answer v = record { status = verdict_status v; text = verdict_text v }

-- the log of an input: what stands behind its description
abbrev pub log_in : List ℕ → List ℕ
log_in bytes = (unwrap_or (cut_of bytes) ([], [])).1

-- a description that isn't good is refused, whatever stands behind it
abbrev pub judged_by : Found Spec → List ℕ → Answer
judged_by (Ok spec) log = verdict_answer (verdict_on_text spec log)
judged_by (Err fault) log = description_answer fault

abbrev pub judged_answer : List ℕ → Answer
judged_answer bytes = judged_by (input_spec bytes) (log_in bytes)
