use Rattle.std.proofs.Common.{◌-◌, length, vec_len}
use Rattle.hx_records.proofs.Sitting.{HaveShown}
use Rattle.hx_records.proofs.Records.roster.Given as goal

abbrev pub invariant-loop-next : goal.invariant-loop-next
invariant-loop-next l = HaveShown l.self.live l.shown.items l.next

abbrev pub decreases-loop-next : goal.decreases-loop-next
decreases-loop-next l = length l.self.live - vec_len l.shown
