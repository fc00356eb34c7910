-- What an input asks for: a cluster and the lines of a script on it, or why it isn't run.
use Rattle.std.specs.Prelude.{ℕ, List, [], Option, None, Some, option_and_then, unwrap_or, Result, Ok, Err}
use Rattle.hx_text.specs.Faults.{lines_fault}
use Rattle.hx_text.specs.Lines.{cut_of, lines_of}
use Rattle.hx_text.specs.declared.line_table.TextFault.{TextFault}
use Rattle.hx_text.specs.declared.line_table.TextFault.TheVariants as texts
use Rattle.hx_cluster.specs.declared.description.Spec.{Spec}
use Rattle.hx_script.specs.declared.Line.{Line}
use Rattle.hx_script.specs.declared.faults.ScriptKind.TheVariants as kinds
use Rattle.hx_script.specs.declared.faults.ScriptFault.{ScriptFault}
use Rattle.hx_script.specs.Grammar.{then_ok, script_of}
use Rattle.hx_desc.specs.Description.{input_spec}
use Rattle.hx_app.specs.Constants.{most_line}
use Rattle.hx_app.specs.declared.input.Scenario.{Scenario}
use Rattle.hx_app.specs.declared.input.InputFault.{InputFault}
use Rattle.hx_app.specs.declared.input.InputFault.TheVariants as faults

-- all lines of a script are tested as texts before any is read
abbrev pub fault_by_text : TextFault → Option ScriptFault
fault_by_text (texts.NotUtf8 n) = Some (record { line = n; kind = kinds.NotUtf8 })
fault_by_text (texts.LineTooLong n) = Some (record { line = n; kind = kinds.LineTooLong })
fault_by_text texts.OutOfMemory = None

abbrev pub text_fault : List ℕ → Option ScriptFault
text_fault script = option_and_then fault_by_text (lines_fault most_line script)

abbrev pub unless_fault : {A : Type 0} → Option ScriptFault → Result A ScriptFault → Result A ScriptFault
unless_fault None read = read
unless_fault (Some f) read = Err f

-- the lines of a script, and the description with the names that they bring
abbrev pub script_in : List ℕ → Spec → Result (List Line × Spec) ScriptFault
script_in script spec = unless_fault (text_fault script) (script_of (lines_of script) spec)

-- a fault of a part is a fault of the input
abbrev pub map_err : {A E F : Type 0} → (E → F) → Result A E → Result A F
map_err f (Ok x) = Ok x
map_err f (Err e) = Err (f e)

-- the script of an input in two parts, whose first describes the cluster
abbrev pub scenario_in : List ℕ × List ℕ → Spec → Result Scenario InputFault
scenario_in parts spec = then_ok (map_err faults.Script (script_in parts.1 spec)) (λ read. Ok (record { spec = read.1; lines = read.0 }))

-- the first fault of the description, or else of the script; or what the input asks for
abbrev pub scenario_of : List ℕ → Result Scenario InputFault
scenario_of bytes = then_ok (map_err faults.Description (input_spec bytes)) (scenario_in (unwrap_or (cut_of bytes) ([], [])))
