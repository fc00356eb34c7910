-- Why an input isn't run, beside what the definitions find.
use Rattle.std.specs.Prelude.{◌≡◌, Option, Some, Result, Err}
use Rattle.hx_script.specs.declared.faults.ScriptFault.{ScriptFault}
use Rattle.hx_script.specs.declared.faults.ScriptRefusal.{ScriptRefusal}
use Rattle.hx_script.specs.declared.faults.ScriptRefusal.TheVariants as scripts
use Rattle.hx_forms.specs.declared.faults.DescRefusal.{DescRefusal}
use Rattle.hx_forms.specs.declared.faults.DescRefusal.TheVariants as descriptions
use Rattle.hx_app.specs.declared.input.InputFault.{InputFault}
use Rattle.hx_app.specs.declared.input.InputFault.TheVariants as faults
use Rattle.hx_app.specs.declared.input.InputRefusal.{InputRefusal}
use Rattle.hx_app.specs.declared.input.InputRefusal.TheVariants as refusals

-- the definition finds this fault. Want of memory may come anywhere
abbrev pub Refuses : {A : Type 0} → Result A InputFault → InputRefusal → Type 0
Refuses found (refusals.Fault f) = found ≡ Err f
Refuses found refusals.OutOfMemory = Unit {0}

abbrev pub RefusesScript : {A : Type 0} → Result A ScriptFault → ScriptRefusal → Type 0
RefusesScript found (scripts.Fault f) = found ≡ Err f
RefusesScript found scripts.OutOfMemory = Unit {0}

abbrev pub IsTextFault : Option ScriptFault → ScriptRefusal → Type 0
IsTextFault found (scripts.Fault f) = found ≡ Some f
IsTextFault found scripts.OutOfMemory = Unit {0}

-- a refusal of a part, as one of the input
abbrev pub by_description : DescRefusal → InputRefusal
by_description (descriptions.Fault f) = refusals.Fault (faults.Description f)
by_description descriptions.OutOfMemory = refusals.OutOfMemory

abbrev pub by_script : ScriptRefusal → InputRefusal
by_script (scripts.Fault f) = refusals.Fault (faults.Script f)
by_script scripts.OutOfMemory = refusals.OutOfMemory
