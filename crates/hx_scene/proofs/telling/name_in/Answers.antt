use Rattle.std.proofs.Common.{List, ap, ◌∙◌}
use Rattle.hx_cluster.specs.declared.description.Resource.{Resource}
use Rattle.hx_print.specs.Texts.{resource_name}
use Rattle.hx_scene.proofs.telling.name_in.Goals as goal

pub returns : goal.returns
returns c = c.resource_name.ensures ∙ ap (λ (rs : List Resource). resource_name c.args.spec.now rs c.args.part.resource) c.resources.ensures
