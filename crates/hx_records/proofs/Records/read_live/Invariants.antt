use Rattle.std.proofs.Common.{◌≡◌, ◌++◌, drop}
use Rattle.hx_records.proofs.Sitting.{shown_from}
use Rattle.hx_records.proofs.Records.read_live.Given as goal

abbrev pub invariant-loop-place : goal.invariant-loop-place
invariant-loop-place l = l.shown.items ++ shown_from l.place (drop l.place l.seat-items) ≡ shown_from 0 l.seat-items
