use Rattle.std.proofs.Common.{List, ◌∙◌, ap}
use Rattle.hx_ids.specs.declared.StateId.{StateId}
use Rattle.hx_model.specs.declared.Bound.{Bound}
use Rattle.hx_model.specs.declared.ModelParts.{ModelParts}
use Rattle.hx_model.specs.Model.{bound_of}
use Rattle.hx_model.proofs.Model.bound.Goals as goal

pub returns : goal.returns
returns c =
    c.bound_in.ensures
    ∙ ap (λ (states : List (StateId × Bound)). bound_of (record c.self.inside.parts { states = states }) c.args.state) c.as_slice.ensures
    ∙ ap (λ (m : ModelParts). bound_of m c.args.state) c.self.view_is
