use Rattle.std.proofs.Common.{◌∙◌}
use Rattle.hx_scene.proofs.Bags.{found_by}
use Rattle.hx_scene.proofs.numbered.Numbered.get.Goals as goal

pub returns : goal.returns
returns c = c.copied.ensures ∙ c.get.ensures.value ∙ rw (← c.self.view_is) (found_by c.self.inside.messages.entries c.args.id c.self.invariant)
