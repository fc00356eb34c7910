use Rattle.std.proofs.Common.{◌∙◌, sym}
use Rattle.hx_throttle.proofs.Walk.{all_sent, loads_first}
use Rattle.hx_throttle.proofs.sent_on.Goals as goal

pub returns-then-is_empty : goal.returns-then-is_empty
returns-then-is_empty c = all_sent c.args.rules.now c.args.view.now c.args.accepted.now c.from_slice.result (sym c.is_empty.ensures ∙ c.if-is_empty.true) c.from_slice.ensures

pub returns : goal.returns
returns c =
    let view = c.args.view.now in
    let shown = c.in_ok-shown.ensures ∙ c.as_slice.ensures in
    let loads = loads_first c.args.rules.now view _ _ c.in_ok-loads.loads shown c.as_slice-2.ensures c.in_ok-loads.ensures in
    c.sent_beside.ensures.chosen view shown loads
