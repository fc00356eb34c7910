use Rattle.std.proofs.Common.{◌≡◌, true, Some, sym, ap, subst, ◌∙◌}
use Rattle.hx_script.specs.declared.Line.{Line}
use Rattle.hx_worlds.specs.Runs.{for_each}
use Rattle.hx_worlds.specs.Scripts.{do_line, is_next_line}
use Rattle.hx_scene.specs.Doing.{Ends, Fails}
use Rattle.hx_app.proofs.Along.{along_none, next_line, line_given, along_more, along_all, along_fails, fails_on}
use Rattle.hx_app.proofs.simulation.do_lines.Goals as goal

pub loop-line-init : goal.loop-line-init
loop-line-init g c = along_none c.args.lines.now c.args.world.now c.args.page.now c.requires

pub line-requires-clause-next : goal.line-requires-clause-next
line-requires-clause-next g c κs within =
    next_line c.args.lines.now c.loop-line.line-index c.line-item.result c.args.world.now c.loop-line.world c.args.page.now c.loop-line.page c.requires c.loop-line.invariant c.board.ensures.kept c.loop-line-test.true
    ∙ ap (λ (l : Line). Some l.number) (sym c.line-item.is)

pub line-requires-clause-given : goal.line-requires-clause-given
line-requires-clause-given g c κs within =
    subst (λ (l : Line). is_next_line c.loop-line.world.spec c.loop-line.world.board.cluster.line l ≡ true) (sym c.line-item.is)
    (line_given c.args.lines.now c.loop-line.line-index c.line-item.result c.args.world.now c.loop-line.world c.args.page.now c.loop-line.page c.requires c.loop-line.invariant c.board.ensures.kept c.loop-line-test.true)

pub returns-in_err-line : goal.returns-in_err-line
returns-in_err-line g c =
    fails_on (for_each do_line c.args.lines.now) c.args.world.now c.line.new.self c.args.page.now c.line.new.out c.from_residual.result c.in_err-line.field-0.0 c.from_residual.ensures.1
    (along_fails c.args.lines.now c.loop-line.line-index c.line-item.result c.args.world.now c.loop-line.world c.args.page.now c.loop-line.page c.requires c.loop-line.invariant c.board.ensures.kept c.loop-line-test.true
    c.in_err-line.field-0.0 c.line.new.self c.line.new.out
    (subst (λ (l : Line). Fails (do_line l) c.loop-line.world c.loop-line.page c.in_err-line.field-0.0 c.line.new.self c.line.new.out) c.line-item.is c.in_err-line.ensures))

pub loop-line-preserved : goal.loop-line-preserved
loop-line-preserved g c =
    along_more c.args.lines.now c.loop-line.line-index c.line-item.result c.args.world.now c.loop-line.world c.args.page.now c.loop-line.page c.requires c.loop-line.invariant c.board.ensures.kept c.loop-line-test.true
    c.line.new.self c.line.new.out
    (subst (λ (l : Line). Ends (do_line l) c.loop-line.world c.loop-line.page tt c.line.new.self c.line.new.out) c.line-item.is c.in_ok-line.ensures)

pub returns : goal.returns
returns g c = along_all c.args.lines.now c.loop-line.line-index c.args.world.now c.loop-line.world c.args.page.now c.loop-line.page c.loop-line-test.false c.loop-line.invariant
