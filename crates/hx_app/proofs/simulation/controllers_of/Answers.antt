use Rattle.std.proofs.Common.{ℕ, List, [], ◌∷◌, ◌++◌, sym, ap₂, ◌∙◌, arith}
use Rattle.hx_control.specs.Controllers.{Controller, idle_controller}
use Rattle.hx_lists.proofs.Numbers.{map-numbers_below_more}
use Rattle.hx_app.proofs.simulation.controllers_of.Goals as goal

pub loop-number-preserved : goal.loop-number-preserved
loop-number-preserved c = record {
  items = c.push_reserved.ensures.items
      ∙ ap₂ (λ (made : List Controller) (k : Controller). made ++ k ∷ []) c.loop-number.invariant.items c.new.ensures
      ∙ sym (map-numbers_below_more (λ (k : ℕ). idle_controller (record { 0 = k })) c.loop-number.number);
  room = omega (arith, c.loop-number.invariant.room, c.push_reserved.ensures.len, c.push_reserved.ensures.capacity, c.loop-number-test.true);
}
