use Rattle.std.proofs.Common.{◌≡◌, ◌&&◌, ℕ, ◌+◌, ◌<◌, false, get_or, nat_lt}
use Rattle.hx_cluster.specs.declared.happenings.Seen.{Seen}
use Rattle.hx_cluster.specs.Ends.{part_eq}
use Rattle.hx_pass.proofs.narrow.rise.Given as goal

-- the rows so far rise
abbrev pub invariant-loop-place : goal.invariant-loop-place
invariant-loop-place l =
    (k : ℕ) (d : Seen) → k + 1 < l.place → (part_eq (get_or l.rows (k + 1) d).part (get_or l.rows k d).part && nat_lt (get_or l.rows (k + 1) d).instance.0 (get_or l.rows k d).instance.0) ≡ false
