-- What is found of a part by what a view shows of it, so that a view that differs from another one in a few parts needs only these to be gone over.
use Rattle.std.specs.Prelude.{◌≡◌, Bool, false, List, filter}
use Rattle.hx_ids.specs.declared.PartId.{PartId}
use Rattle.hx_model.specs.declared.ModelParts.{ModelParts}
use Rattle.hx_cluster.specs.declared.planning.View.{View}
use Rattle.hx_cluster.specs.declared.planning.Target.{Target}
use Rattle.hx_cluster.specs.declared.planning.Candidate.{Candidate}
use Rattle.hx_parts.specs.Parts.{items_at}
use Rattle.hx_best.specs.Targets.{all_targets}
use Rattle.hx_gen.specs.Candidates.{candidates}
use Rattle.hx_select.specs.Selection.{accepted_of}
use Rattle.hx_pass.specs.Plans.{selection_of}

-- two views show the same sessions, and the same to be wanted
pub record IsAlike (v w : View) : Type 0 where
  pub live : v.live ≡ w.live
  pub ideals : v.ideals ≡ w.ideals

-- and the same rows and messages of a part
pub record ShowSame (v w : View) (p : PartId) : Type 0 where
  pub rows : items_at (λ r. r.part) p v.rows ≡ items_at (λ r. r.part) p w.rows
  pub mail : items_at (λ m. m.part) p v.mail ≡ items_at (λ m. m.part) p w.mail

-- and so of each part that isn't marked
pub record DifferWithin (marked : PartId → Bool) (v w : View) : Type 0 where
  pub alike : IsAlike v w
  pub same : (p : PartId) → marked p ≡ false → ShowSame v w p

-- a view with the rows and messages of the marked parts alone
abbrev pub narrowed : (PartId → Bool) → View → View
narrowed marked v = record v { rows = filter (λ r. marked r.part) v.rows; mail = filter (λ m. marked m.part) v.mail }

-- the accepted candidates of a view, and the candidates and accepted ones among the targets of the marked parts
abbrev pub accepted_in : List ModelParts → View → List Candidate
accepted_in models v = (selection_of models v).accepted

abbrev pub marked_targets : List ModelParts → (PartId → Bool) → View → List Target
marked_targets models marked v = filter (λ t. marked t.part) (all_targets models v)

abbrev pub candidates_within : List ModelParts → (PartId → Bool) → View → List Candidate
candidates_within models marked v = candidates models v (marked_targets models marked v)

abbrev pub accepted_within : List ModelParts → (PartId → Bool) → View → List Candidate
accepted_within models marked v = accepted_of models v (candidates_within models marked v)
