use Rattle.std.proofs.Common.{◌∙◌}
use Rattle.hx_throttle.proofs.Walk.{loads_first}
use Rattle.hx_throttle.proofs.throttle_on.Goals as goal

pub returns : goal.returns
returns c =
    let view = c.args.view.now in
    let shown = c.in_ok-shown.ensures ∙ c.as_slice.ensures in
    let loads = loads_first c.args.rules.now view _ _ c.in_ok-loads.loads shown c.as_slice-2.ensures c.in_ok-loads.ensures in
    c.throttled_beside.ensures.chosen view shown loads
