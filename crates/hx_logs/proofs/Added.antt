-- The names that entries bring.
use Rattle.std.proofs.Common.{◌≡◌, ℕ, ◌+◌, ◌≤◌, List, [], ◌∷◌, length, Option, Some, Ok, Err, arith}
use Rattle.std.specs.List.{before_first}
use Rattle.hx_ids.specs.Names.{interned}
use Rattle.hx_cluster.specs.declared.description.Spec.{Spec}
use Rattle.hx_script.specs.declared.log.LogEntry.{LogEntry}
use Rattle.hx_script.specs.declared.log.LogEntry.TheVariants as logs
use Rattle.hx_script.specs.Logs.{is_hash, second_word, with_added}
use Rattle.hx_script.specs.Parsing.{KeepsAllButNames}
use Rattle.hx_script.specs.declared.faults.ScriptKind.TheVariants as kinds
use Rattle.hx_script.specs.declared.What.TheVariants as asks
use Rattle.hx_script.proofs.Scripts.{AddsName, adds_with, kept_on}

adds_none : (spec : Spec) → AddsName spec spec
adds_none spec = adds_with spec [] (Err kinds.WordCount)

-- as an `add` line of a script with this name brings it
adds_one : (spec : Spec) (name : List ℕ) → AddsName spec (record spec { resource_names = interned spec.resource_names name })
adds_one spec name = adds_with spec ([] ∷ name ∷ []) (Ok (Some (asks.Add 0 (record { 0 = 0 }) 1 1 0)))

-- an entry brings one name at most
pub adds_entry : (spec : Spec) (words : List (List ℕ)) (entry : Option LogEntry) → AddsName spec (with_added spec words entry)
adds_entry spec words (Some (logs.Add name r model replicas parts mode)) = adds_one spec (before_first is_hash (second_word words))
adds_entry spec words _ = adds_none spec

-- what an entry keeps, where those before it kept it
pub kept_on_entry : (old spec after : Spec) (words : List (List ℕ)) (entry : Option LogEntry) → after ≡ with_added spec words entry → KeepsAllButNames old spec → KeepsAllButNames old after
kept_on_entry old spec after words entry is kept = rw is (kept_on old spec (with_added spec words entry) kept (adds_entry spec words entry).kept)

pub few_on_entry : (old spec after : Spec) (words : List (List ℕ)) (entry : Option LogEntry) (i : ℕ) → after ≡ with_added spec words entry → length spec.resource_names ≤ length old.resource_names + i
    → length after.resource_names ≤ length old.resource_names + (i + 1)
few_on_entry old spec after words entry i is few = rw is (omega (arith, few, (adds_entry spec words entry).few))
