use Rattle.std.proofs.Common.{◌≡◌, List, length, ap, ◌∙◌, ℕ}
use Rattle.hx_ids.specs.declared.StateId.{StateId}
use Rattle.hx_model.specs.Model.{states_of}
use Rattle.hx_ideal.specs.Faults.{map_fault}
use Rattle.hx_cluster.specs.Ends.{model_of}
use Rattle.hx_cluster.proofs.state.Cluster.entry_fault.Goals as goal

pub returns-in-Some : goal.returns-in-Some
returns-in-Some c =
    let model : c.in-Some.model.now ≡ model_of c.args.self.now.models c.args.self.now.resources c.args.part.resource = c.in-Some.ensures.parts in
    c.map_fault.ensures
    ∙ ap (λ (n : ℕ). map_fault n c.states.result.now c.args.part.index c.args.map.now) c.len-instances.ensures
    ∙ ap (λ (states : List StateId). map_fault (length c.args.self.now.instances) states c.args.part.index c.args.map.now) (c.states.ensures.states ∙ ap states_of model)
