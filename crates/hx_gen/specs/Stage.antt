-- What the candidates of a pass are made with.
use Rattle.std.specs.Prelude.{◌≡◌, Bool, false, nat_lt, List, length}
use Rattle.std.specs.Option.{option_map_or}
use Rattle.hx_ids.specs.declared.ResourceId.{ResourceId}
use Rattle.hx_model.specs.declared.ModelParts.{ModelParts}
use Rattle.hx_model.specs.Model.{rank_of}
use Rattle.hx_cluster.specs.declared.description.Resource.{Resource}
use Rattle.hx_cluster.specs.declared.planning.View.{View}
use Rattle.hx_cluster.specs.declared.planning.Candidate.{Candidate}
use Rattle.hx_cluster.specs.declared.state.Message.{Message}
use Rattle.hx_cluster.specs.Ends.{resource_at}
use Rattle.hx_parts.specs.Parts.{HasSameAt}
use Rattle.hx_gen.specs.declared.Ranked.{Ranked}
use Rattle.hx_gen.specs.Candidates.{rank_in}

-- whether a resource is there, and has one of the models
abbrev pub has_model : List ModelParts → List Resource → ResourceId → Bool
has_model models resources n = option_map_or (λ r. nat_lt r.model.0 (length models)) (resource_at resources n) false

-- the models and the view of a pass
pub record Stage : Type 0 where
  pub models : List ModelParts
  pub view : View

-- the hops of each model, and the shown messages by part
pub record IsStage (s : Stage) (hops : List ModelParts) (mail : List Message) : Type 0 where
  pub hops_of : hops ≡ s.models
  pub by_part : HasSameAt (λ m. m.part) s.view.mail mail

-- a candidate with its rank, in a model and in a pass
abbrev pub ranked_by : ModelParts → Candidate → Ranked
ranked_by m c = record { rank = rank_of m c.from c.to; candidate = c }

abbrev pub ranked_as : Stage → Candidate → Ranked
ranked_as s c = record { rank = rank_in s.models s.view c; candidate = c }
