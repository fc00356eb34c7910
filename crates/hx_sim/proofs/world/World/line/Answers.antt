use Rattle.std.proofs.Common.{◌≡◌, true, sym, subst}
use Rattle.hx_cluster.specs.declared.description.Spec.{Spec}
use Rattle.hx_safe.proofs.Counting.{and-first, and-second}
use Rattle.hx_script.specs.Ranges.{is_in_range}
use Rattle.hx_worlds.specs.declared.Voice.TheVariants.{Loud}
use Rattle.hx_worlds.specs.World.{Missing}
use Rattle.hx_worlds.specs.Scripts.{do_what}
use Rattle.hx_scene.proofs.Reaching.{does_err, does_then_deed, fails_inside_deed}
use Rattle.hx_sim.proofs.world.World.line.Goals as goal

pub take_line-requires-clause-later : goal.take_line-requires-clause-later
take_line-requires-clause-later g c κs within = and-first _ _ (rw (← c.self.view_is) at c.requires.given)

pub returns-in_err-take_line : goal.returns-in_err-take_line
returns-in_err-take_line g c =
    rw (← c.self.view_is)
    (does_err _ _ _ _ _ _ _ _ c.from_residual.ensures.1
    (fails_inside_deed _ _ _ _ _ _ c.in_err-take_line.ensures (λ y. do_what (Loud c.args.line.now.number) c.args.line.now.what y)))

pub what-requires-after_bounds : goal.what-requires-after_bounds
what-requires-after_bounds g c κs within =
    subst (λ (spec : Spec). is_in_range spec c.args.line.now.what ≡ true) (sym (c.in_ok-take_line.ensures.brings Missing).spec) (and-second _ _ (rw (← c.self.view_is) at c.requires.given))

pub returns : goal.returns
returns g c =
    rw (← c.self.view_is) (does_then_deed c.in_ok-take_line.ensures (λ y. do_what (Loud c.args.line.now.number) c.args.line.now.what y) _ _ _ _ c.what.ensures)
