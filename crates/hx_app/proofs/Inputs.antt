-- What is found of an input whose parts were read.
use Rattle.std.proofs.Common.{◌≡◌, ℕ, List, Some, Result, Ok, Err, refl, sym, subst, ◌∙◌}
use Rattle.std.specs.Prelude.{IfErr, IsErrAnd}
use Rattle.hx_text.specs.Lines.{cut_of}
use Rattle.hx_cluster.specs.declared.description.Spec.{Spec}
use Rattle.hx_script.specs.declared.faults.ScriptRefusal.{ScriptRefusal}
use Rattle.hx_script.specs.declared.faults.ScriptRefusal.TheVariants as scripts
use Rattle.hx_desc.specs.Description.{input_spec}
use Rattle.hx_app.specs.declared.input.Scenario.{Scenario}
use Rattle.hx_app.specs.declared.input.InputFault.{InputFault}
use Rattle.hx_app.specs.declared.input.InputRefusal.{InputRefusal}
use Rattle.hx_app.specs.Input.{script_in, scenario_in, scenario_of}
use Rattle.hx_app.specs.Refusals.{Refuses, RefusesScript, by_script}

-- the description and the cut are there: the rest is found of the script
found_in : (bytes description script : List ℕ) (spec : Spec) → input_spec bytes ≡ Ok spec → Some (description, script) ≡ cut_of bytes → scenario_of bytes ≡ scenario_in (description, script) spec
found_in bytes description script spec is cut = rw (is, ← cut) refl

pub script_refused : (bytes description script : List ℕ) (spec : Spec) (refusal : ScriptRefusal) → input_spec bytes ≡ Ok spec → Some (description, script) ≡ cut_of bytes
    → RefusesScript (script_in script spec) refusal → Refuses (scenario_of bytes) (by_script refusal)
script_refused bytes description script spec scripts.OutOfMemory is cut refused = tt
script_refused bytes description script spec (scripts.Fault f) is cut refused = found_in bytes description script spec is cut ∙ rw refused refl

-- the refusal that is handed on
pub handed_on : {A : Type 0} (r : Result A InputRefusal) (refusal : InputRefusal) (found : Result Scenario InputFault) → IsErrAnd r (λ e. e ≡ refusal) → Refuses found refusal → IfErr r (Refuses found)
handed_on (Ok x) refusal found is refused = tt
handed_on (Err e) refusal found is refused = let P : InputRefusal → Type 0 = λ x. Refuses found x in subst P (sym is) refused
