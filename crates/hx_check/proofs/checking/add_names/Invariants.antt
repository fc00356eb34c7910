use Rattle.std.proofs.Common.{◌≡◌}
use Rattle.hx_script.specs.Parsing.{KeepsAllButNames}
use Rattle.hx_check.specs.Streams.{names_left, IsReadableFrom}
use Rattle.hx_check.proofs.checking.add_names.Given as goal

abbrev pub invariant-loop-place : goal.invariant-loop-place
invariant-loop-place l = record {
  left : names_left l.fn.spec l.fn.from l.lines ≡ names_left l.spec l.place l.lines;
  readable : IsReadableFrom l.spec l.place l.lines;
  kept : KeepsAllButNames l.fn.spec l.spec;
}
