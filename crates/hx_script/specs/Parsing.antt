-- What reading a script needs of a description, what it keeps, and what a refusal leaves.
use Rattle.std.specs.Prelude.{◌≡◌, ℕ, ◌+◌, ◌-◌, ◌^◌, ◌<◌, ◌≤◌, List, ◌++◌, length, take, Ok}
use Rattle.hx_cluster.specs.declared.description.Spec.{Spec}
use Rattle.hx_script.specs.declared.Line.{Line}
use Rattle.hx_script.specs.declared.faults.ScriptRefusal.{ScriptRefusal}
use Rattle.hx_script.specs.declared.faults.ScriptRefusal.TheVariants.{OutOfMemory, Fault}
use Rattle.hx_script.specs.Grammar.{script_of}

-- states and models have numbers of 8 bits, and there is room for a name of each line
pub record IsReadable (spec : Spec) (lines : List (List ℕ)) : Type 0 where
  pub models : length spec.model_names ≤ 256
  pub states : length spec.states ≤ 256
  pub names : length spec.resource_names + length lines < 2 ^ 32

-- nothing but resource names was added
pub record KeepsAllButNames (old new : Spec) : Type 0 where
  pub rest : new ≡ record old { resource_names = new.resource_names }
  pub names : (more : List (List ℕ)) × (new.resource_names ≡ old.resource_names ++ more)

-- the first n lines are a script, which brings its names
abbrev pub HasRead : List (List ℕ) → ℕ → Spec → Spec → Type 0
HasRead lines n old new = (script : List Line) × (script_of (take n lines) old ≡ Ok (script, new))

-- what a refusal leaves: for a fault, all lines before its own were read; for want of memory, some of the first
abbrev pub Leaves : List (List ℕ) → ScriptRefusal → Spec → Spec → Type 0
Leaves lines (Fault fault) old new = HasRead lines (fault.line - 1) old new
Leaves lines OutOfMemory old new = (n : ℕ) × (n ≤ length lines) × HasRead lines n old new
