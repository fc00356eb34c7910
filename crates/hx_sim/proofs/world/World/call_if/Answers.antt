use Rattle.std.proofs.Common.{sym, ◌∙◌}
use Rattle.hx_scene.proofs.Reaching.{does_err}
use Rattle.hx_sim.specs.Words.{is_call_of}
use Rattle.hx_sim.proofs.Words.{word_fails, word_ends, word_else}
use Rattle.hx_sim.proofs.world.World.call_if.Goals as goal

pub returns-in_err-call : goal.returns-in_err-call
returns-in_err-call g c = does_err _ _ _ _ _ _ _ _ c.from_residual.ensures.1
    (word_fails c.args.voice c.args.controller (is_call_of c.args.word) c.args.self.now c.args.out.now (sym c.is_next.ensures ∙ c.if-is_next.true) _ _ _ c.in_err-call.ensures)

pub returns-in_ok-call : goal.returns-in_ok-call
returns-in_ok-call g c = word_ends c.args.voice c.args.controller (is_call_of c.args.word) c.args.self.now c.args.out.now (sym c.is_next.ensures ∙ c.if-is_next.true) c.in_ok-call.ensures

pub returns-else-is_next : goal.returns-else-is_next
returns-else-is_next g c = word_else c.args.voice c.args.controller (is_call_of c.args.word) c.args.self.now c.args.out.now (sym c.is_next.ensures ∙ c.if-is_next.false) _ _ _ c.out_of_turn.ensures
