-- A script that was read can be given to a world, and so its history is sound.
use Rattle.std.proofs.Common.{◌≡◌, ℕ, List, [], None, Some, Option, Result, Ok, Err, refl}
use Rattle.std.specs.Prelude.{IfOk, unwrap_or}
use Rattle.hx_cluster.specs.declared.description.Spec.{Spec}
use Rattle.hx_cluster.specs.Valid.{IsValid}
use Rattle.hx_text.specs.Lines.{cut_of, lines_of}
use Rattle.hx_script.specs.declared.Line.{Line}
use Rattle.hx_script.specs.declared.faults.ScriptFault.{ScriptFault}
use Rattle.hx_script.specs.Grammar.{then_ok, script_of}
use Rattle.hx_lawful.specs.Holding.{IsSound}
use Rattle.hx_worlds.specs.Scripts.{sim_history}
use Rattle.hx_scripted.proofs.DoingLines.{lawful_scripts, holds_of_scripts}
use Rattle.hx_scripted.proofs.ReadScripts.{given_read}
use Rattle.hx_forms.specs.Found.{Found}
use Rattle.hx_desc.specs.Description.{input_spec}
use Rattle.hx_desc.proofs.ValidSpec.{input_valid}
use Rattle.hx_app.specs.declared.input.Scenario.{Scenario}
use Rattle.hx_app.specs.declared.input.InputFault.{InputFault}
use Rattle.hx_app.specs.declared.input.InputFault.TheVariants as faults
use Rattle.hx_app.specs.Input.{map_err, unless_fault, text_fault, script_in, scenario_in, scenario_of}
use Rattle.hx_app.specs.Simulation.{IsGiven}
use Rattle.hx_app.specs.History.{IsSoundRun}

pub given_in : (script : List ℕ) (spec new : Spec) (lines : List Line) → IsValid spec → script_in script spec ≡ Ok (lines, new) → IsGiven (record { spec = new; lines = lines })
given_in script spec new lines valid is = one (text_fault script) is
  where
    one : (o : Option ScriptFault) → unless_fault o (script_of (lines_of script) spec) ≡ Ok (lines, new) → IsGiven (record { spec = new; lines = lines })
    one None is = let given = given_read (lines_of script) spec new lines valid is in record { valid = given.0; lines = given.1 }
    one (Some f) is = cc

-- of any input
given_scenario : (parts : List ℕ × List ℕ) (spec : Spec) → IsValid spec → IfOk (scenario_in parts spec) IsGiven
given_scenario parts spec valid = one (script_in parts.1 spec) refl
  where
    one : (r : Result (List Line × Spec) ScriptFault) → script_in parts.1 spec ≡ r → IfOk (then_ok (map_err faults.Script r) (λ read. Ok (record { spec = read.1; lines = read.0 }))) IsGiven
    one (Ok read) is = given_in parts.1 spec read.1 read.0 valid is
    one (Err f) is = tt

given_of : (bytes : List ℕ) → IfOk (scenario_of bytes) IsGiven
given_of bytes = one (input_spec bytes) refl
  where
    one : (r : Found Spec) → input_spec bytes ≡ r → IfOk (then_ok (map_err faults.Description r) (scenario_in (unwrap_or (cut_of bytes) ([], [])))) IsGiven
    one (Ok spec) is = given_scenario (unwrap_or (cut_of bytes) ([], [])) spec (input_valid bytes spec is)
    one (Err f) is = tt

pub run_sound : (bytes : List ℕ) → IsSoundRun bytes
run_sound bytes = one (scenario_of bytes) (given_of bytes)
  where
    one : (r : Result Scenario InputFault) → IfOk r IsGiven → IfOk r (λ s. IsSound s.spec (sim_history s.spec s.lines))
    one (Err f) given = tt
    one (Ok s) given = record {
      lawful = lawful_scripts s.spec s.lines given.valid given.lines;
      holds = λ h more is. holds_of_scripts s.spec s.lines h more given.valid given.lines is;
    }
