use Rattle.std.proofs.Common.{subst}
use Rattle.hx_scene.specs.Kept.{IsScene}
use Rattle.hx_sim.proofs.Ended.{settles_nobody, settles_found, settles_told}
use Rattle.hx_sim.proofs.world.World.settle.Goals as goal

pub returns-in_default : goal.returns-in_default
returns-in_default g c =
    settles_nobody c.args.self.now c.settle_led.new.self _ c.settle_led.new.out c.in_ok-passes.field-0 (subst IsScene c.self.view_is c.board.ensures.scene) c.new-log.ensures c.in_ok-passes.ensures c.in_default.is

pub unreachable-requires : goal.unreachable-requires
unreachable-requires g c =
    settles_told c.args.self.now c.settle_led.new.self _ c.settle_led.new.out c.in_ok-passes.field-0 (subst IsScene c.self.view_is c.board.ensures.scene) c.new-log.ensures c.in_ok-passes.ensures c.in-Some.field-0 c.in-Some.is c.in-None.is

pub returns : goal.returns
returns g c =
    settles_found c.args.self.now c.settle_led.new.self _ c.settle_led.new.out c.in_ok-passes.field-0 (subst IsScene c.self.view_is c.board.ensures.scene) c.new-log.ensures c.in_ok-passes.ensures c.in-Some.field-0 c.in-Some-report.report c.in-Some.is c.in-Some-report.is
