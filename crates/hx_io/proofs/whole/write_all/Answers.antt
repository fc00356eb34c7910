use Rattle.std.proofs.Common.{length-drop, arith}
use Rattle.std.proofs.KnownBytes.{Appends-trans}
use Rattle.hx_io.proofs.Fronts.{take-plus, take-drop_all}
use Rattle.hx_io.proofs.whole.write_all.Goals as goal

pub loop-sent-preserved : goal.loop-sent-preserved
loop-sent-preserved g c =
    let all = c.args.bytes.now in
    let sent = c.loop-sent.sent in
    let more = rw (take-drop_all all sent) at c.in-Ok.ensures.bytes in
    record {
      within = omega (arith, rw (take-drop_all all sent) at c.in-Ok.ensures.bound, length-drop sent all);
      sent = rw (take-plus all sent c.in-Ok.n c.loop-sent.invariant.within) (Appends-trans _ _ _ _ _ c.loop-sent.invariant.sent more);
      later = omega (arith, c.loop-sent.invariant.later, c.in-Ok.ensures.cause.later);
    }
