-- A well-formed view has the models that a plan needs.
use Rattle.std.proofs.Common.{◌≡◌, List, ap}
use Rattle.hx_model.specs.declared.ModelParts.{ModelParts}
use Rattle.hx_cluster.specs.declared.description.Rule.{Rule}
use Rattle.hx_cluster.specs.declared.planning.View.{View}
use Rattle.hx_pass.specs.Plans.{plan}
use Rattle.hx_pass.specs.Drafts.{Draft, draft, finished}
pub use Rattle.hx_gen.proofs.Modelled.{well_formed-modelled as modelled}

-- a draft of a view is finished as its plan
pub finished_as_planned : (models : List ModelParts) (rules : List Rule) (view : View) (d : Draft) → d ≡ draft models rules view → finished view d ≡ plan models rules view
finished_as_planned models rules view d is = ap (finished view) is
