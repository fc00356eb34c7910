use Rattle.std.proofs.Common.{ap}
use Rattle.hx_worlds.specs.declared.Voice.{Voice}
use Rattle.hx_worlds.specs.Runs.{say_if_loud}
use Rattle.hx_scene.specs.Scenes.{at}
use Rattle.hx_scene.proofs.Saying.{say_nothing}
use Rattle.hx_scene.proofs.Reaching.{does_as}
use Rattle.hx_print.specs.Texts.{accept_text}
use Rattle.hx_scene.proofs.scene.Scene.say_accept.Goals as goal

pub returns-in-Quiet-clause-does : goal.returns-in-Quiet-clause-does
returns-in-Quiet-clause-does g c = say_nothing _ c.args.self.now c.args.out.now (λ a. ap (λ (v : Voice). say_if_loud v 1 (accept_text c.args.self.now.spec c.args.instance c.args.id) (at c.args.self.now a)) c.in-Quiet.is)

pub returns-in-Loud-clause-does : goal.returns-in-Loud-clause-does
returns-in-Loud-clause-does g c =
    does_as _ _ c.args.self.now (λ a. ap (λ (v : Voice). say_if_loud v 1 (accept_text c.args.self.now.spec c.args.instance c.args.id) (at c.args.self.now a)) c.in-Loud.is)
    _ _ _ _ _ c.say_accepted.ensures.does
