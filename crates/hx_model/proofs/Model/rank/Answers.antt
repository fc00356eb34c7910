use Rattle.std.proofs.Common.{◌∙◌, ap, List, sym}
use Rattle.hx_ids.specs.declared.StateId.{StateId}
use Rattle.hx_model.specs.declared.ModelParts.{ModelParts}
use Rattle.hx_model.specs.Model.{rank_of, is_between}
use Rattle.hx_model.proofs.Places.{found_none}
use Rattle.hx_model.proofs.Model.rank.Goals as goal

pub returns-in-None : goal.returns-in-None
returns-in-None c =
    found_none (is_between c.args.from c.args.to) c.as_slice-transitions.result.now (sym c.place_of.ensures ∙ c.in-None.is)
    ∙ ap (λ (ts : List (StateId × StateId)). rank_of (record c.self.inside.parts { transitions = ts }) c.args.from c.args.to) c.as_slice-transitions.ensures
    ∙ ap (λ (m : ModelParts). rank_of m c.args.from c.args.to) c.self.view_is
