use Rattle.hx_scene.proofs.Happening.{line_done, line_refused, scene_of_line}
use Rattle.hx_scene.proofs.scene.Scene.take_line.Goals as goal

pub returns-in_err-next_line : goal.returns-in_err-next_line
returns-in_err-next_line g c =
    rw (← c.self.view_is)
    (line_refused c.args.number _ c.next_line.new.self c.args.out.now c.in_err-next_line.field-0.0 c.from_residual.result (rw (← c.self.view_is) at c.requires.next) c.in_err-next_line.ensures.err
    c.in_err-next_line.ensures.refused c.from_residual.ensures.1)

pub invariant_of-self-2 : goal.invariant_of-self-2
invariant_of-self-2 g c = (
  scene_of_line c.next_line.new.self c.args.number c.self.invariant.0 c.history.ensures.history (rw (← c.self.view_is) at c.requires.next) (rw (← c.self.view_is) at c.requires.later)
      c.in_ok-next_line.ensures.refused c.in_ok-next_line.ensures.ok,
  c.self.invariant.1,
)

pub returns : goal.returns
returns g c =
    rw (← c.self.view_is)
    (line_done c.args.number _ c.next_line.new.self c.args.out.now c.print_given.new.out c.print_given.result (rw (← c.self.view_is) at c.requires.next) c.in_ok-next_line.ensures.refused c.in_ok-next_line.ensures.ok
    c.print_given.ensures.prints c.print_given.ensures.memory)
