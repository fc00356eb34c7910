use Rattle.std.proofs.Common.{◌∙◌, ap, unwrap_or, Option}
use Rattle.hx_ids.specs.declared.InstanceId.{InstanceId}
use Rattle.hx_pass.proofs.Among.{row_more}
use Rattle.hx_pass.proofs.narrow.push_rows.Goals as goal

pub loop-row-preserved : goal.loop-row-preserved
loop-row-preserved c = λ view is.
    row_more view c.args.live.now is c.args.rows.now c.loop-row.row-index _ c.unwrap_or.result c.args.seen.now.items c.loop-row.seen.items c.push.new.self.items c.loop-row-test.true
    (c.unwrap_or.ensures ∙ ap (λ (o : Option InstanceId). unwrap_or o (record { 0 = 0 })) c.instance_of.ensures)
    (c.loop-row.invariant view is) c.in_ok-push.ensures.items
