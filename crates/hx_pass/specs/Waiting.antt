-- Candidates that may be left, part by part.
use Rattle.std.specs.Prelude.{◌≡◌, List, []}
use Rattle.hx_ids.specs.declared.PartId.{PartId}
use Rattle.hx_cluster.specs.declared.planning.Candidate.{Candidate}
use Rattle.hx_parts.specs.Parts.{items_at, IsByPart}

-- in order of part, and a part of which none was accepted and none waits has no candidate
pub record HasWaiting (candidates accepted waiting : List Candidate) : Type 0 where
  pub by_part : IsByPart (λ c. c.part) waiting
  pub none : (p : PartId) → items_at (λ c. c.part) p accepted ≡ [] → items_at (λ c. c.part) p waiting ≡ [] → items_at (λ c. c.part) p candidates ≡ []
