use Rattle.std.proofs.Common.{sym, ◌∙◌}
use Rattle.hx_worlds.specs.Turns.{pass_over}
use Rattle.hx_scene.proofs.Reaching.{does_err}
use Rattle.hx_sim.specs.Words.{is_call_of}
use Rattle.hx_sim.proofs.Words.{words_fail, words_end, words_else}
use Rattle.hx_sim.proofs.world.World.calls_if.Goals as goal

pub returns-in_err-calls : goal.returns-in_err-calls
returns-in_err-calls g c same =
    does_err _ _ _ _ _ _ _ _ c.from_residual.ensures.1
    (words_fail c.args.voice c.args.controller (is_call_of c.args.word) (pass_over c.args.voice c.args.controller) c.args.left c.args.self.now c.args.out.now (sym c.is_next.ensures ∙ c.if-is_next.true) same _ _ _ c.in_err-calls.ensures)

pub returns-in_ok-calls : goal.returns-in_ok-calls
returns-in_ok-calls g c same =
    words_end c.args.voice c.args.controller (is_call_of c.args.word) (pass_over c.args.voice c.args.controller) c.args.left c.args.self.now c.args.out.now (sym c.is_next.ensures ∙ c.if-is_next.true) same c.in_ok-calls.ensures

pub returns-else-is_next : goal.returns-else-is_next
returns-else-is_next g c same =
    words_else c.args.voice c.args.controller (is_call_of c.args.word) (pass_over c.args.voice c.args.controller) c.args.self.now c.args.out.now (sym c.is_next.ensures ∙ c.if-is_next.false) _ _ _ c.pass_over.ensures
