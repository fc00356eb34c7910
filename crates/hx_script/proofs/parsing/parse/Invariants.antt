use Rattle.std.proofs.Common.{◌≡◌, ◌+◌, ◌≤◌, length, take, drop, Ok}
use Rattle.hx_script.specs.Grammar.{script_of, script_from}
use Rattle.hx_script.specs.Parsing.{KeepsAllButNames}
use Rattle.hx_script.proofs.Scripts.{before}
use Rattle.hx_script.proofs.parsing.parse.Given as goal

-- the lines that were read and those that are left are the script
abbrev pub invariant-loop-place : goal.invariant-loop-place
invariant-loop-place l = record {
  script : script_of l.lines l.fn.spec ≡ before l.script.items (script_from (l.place + 1) (drop l.place l.lines) l.spec);
  read : script_of (take l.place l.lines) l.fn.spec ≡ Ok (l.script.items, l.spec);
  kept : KeepsAllButNames l.fn.spec l.spec;
  few : length l.spec.resource_names ≤ length l.fn.spec.resource_names + l.place;
}
