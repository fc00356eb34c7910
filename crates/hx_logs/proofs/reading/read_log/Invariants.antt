use Rattle.std.proofs.Common.{◌≡◌, ◌+◌, ◌≤◌, length, drop}
use Rattle.hx_script.specs.Logs.{log_of, lines_before}
use Rattle.hx_script.specs.Parsing.{KeepsAllButNames}
use Rattle.hx_logs.proofs.Walking.{left_from}
use Rattle.hx_logs.proofs.reading.read_log.Given as goal

-- the lines that were read and those that are left are the log
abbrev pub invariant-loop-place : goal.invariant-loop-place
invariant-loop-place l = record {
  log : log_of l.fn.spec l.lines ≡ lines_before l.log.items (left_from l.begun l.spec (l.place + 1) (drop l.place l.lines));
  kept : KeepsAllButNames l.fn.spec l.spec;
  few : length l.spec.resource_names ≤ length l.fn.spec.resource_names + l.place;
}
