use Rattle.std.proofs.Common.{sym, ◌∙◌}
use Rattle.hx_check.proofs.Judged.{dispatch_refused, dispatch_sent, placed_there, placed_models, both_ok}
use Rattle.hx_check.proofs.judge.Judge.dispatch.Goals as goal

pub returns-then-not-so : goal.returns-then-not-so
returns-then-not-so c = dispatch_refused c.args.spec.now c.args.self.now c.place.new.self c.args.c c.args.epoch c.args.pass c.args.moves.now (sym c.in_ok-so.ensures.made.0 ∙ c.if-not-so.true)

pub send-requires : goal.send-requires
send-requires c =
    let now = c.args.self.now in
    let at = c.in_ok-so.ensures.made.1 c.if-not-so.false in
    record {
      there = placed_there now c.place.new.self c.args.c c.args.epoch c.args.pass c.args.moves.now (sym c.in_ok-so.ensures.made.0 ∙ c.if-not-so.false) at;
      models = c.requires ∙ placed_models now c.place.new.self c.args.c c.args.moves.now at;
    }

pub returns : goal.returns
returns c =
    let now = c.args.self.now in
    let at = c.in_ok-so.ensures.made.1 c.if-not-so.false in
    both_ok c.send.result _ _ _ c.send.ensures.cause c.send.ensures.turn
    (λ cause is stands. dispatch_sent c.args.spec.now now c.place.new.self c.send.new.self c.args.c c.args.epoch c.args.pass c.args.moves.now cause (sym c.in_ok-so.ensures.made.0 ∙ c.if-not-so.false) at (c.in_ok-so.ensures.turn c.if-not-so.false) is stands)
