-- The status and the text that answer an input.
use Rattle.std.specs.Prelude.{ℕ, Bool, true, false, List, Result, Ok, Err}
use Rattle.hx_words.specs.declared.Task.{Task}
use Rattle.hx_genwork.specs.Made.{made}
use Rattle.hx_print.specs.Texts.{history_full_text}
use Rattle.hx_worlds.specs.Runs.{Deed, GoesOn, Stops}
use Rattle.hx_worlds.specs.Scripts.{sim_run, sim_text, is_full_after}
use Rattle.hx_worlds.specs.Summaries.{summary_of}
use Rattle.hx_app.specs.Constants as statuses
use Rattle.hx_app.specs.Replies.{Answer, description_answer, script_answer}
use Rattle.hx_app.specs.declared.input.Scenario.{Scenario}
use Rattle.hx_app.specs.declared.input.InputFault.{InputFault}
use Rattle.hx_app.specs.declared.input.InputFault.TheVariants as faults
use Rattle.hx_app.specs.Input.{scenario_of}

-- an input that isn't run
abbrev pub fault_answer : InputFault → Answer
fault_answer (faults.Description f) = description_answer f
fault_answer (faults.Script f) = script_answer f

-- a script that is run to its end, or up to where the history has no room
abbrev pub ended_status : Bool → ℕ
ended_status true = statuses.history_full
ended_status false = statuses.done

abbrev pub sim_answer : Scenario → Answer
sim_answer s = record { status = ended_status (is_full_after s.spec s.lines); text = sim_text s.spec s.lines }

-- the same, of which the summary alone is told, or that the history is full
abbrev pub summary_text : Deed → List ℕ
summary_text (GoesOn items x answer) = summary_of x.world.history
summary_text (Stops items x) = history_full_text x.world.weight

abbrev pub summary_answer : Scenario → Answer
summary_answer s = record { status = ended_status (is_full_after s.spec s.lines); text = summary_text (sim_run s.spec s.lines) }

-- the answer to an input that was read
abbrev pub answer_by : (Scenario → Answer) → Result Scenario InputFault → Answer
answer_by run (Ok s) = run s
answer_by run (Err f) = fault_answer f

abbrev pub answer_to : List ℕ → Answer
answer_to bytes = answer_by sim_answer (scenario_of bytes)

-- the answer to a generated input, which nobody gives
abbrev pub generated_answer : Task → Answer
generated_answer task = answer_by summary_answer (scenario_of (made task.seed task.size))
