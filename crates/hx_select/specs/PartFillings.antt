-- How full the states of one part are, among the parts up to it.
use Rattle.std.specs.Prelude.{◌≡◌, ℕ, ◌==◌, Bool, not, true, List, find, Option, option_map, unwrap_or, is_some}
use Rattle.std.specs.List.{list_all}
use Rattle.hx_ids.specs.declared.StateId.{StateId}
use Rattle.hx_ids.specs.declared.PartId.{PartId}
use Rattle.hx_model.specs.declared.ModelParts.{ModelParts}
use Rattle.hx_cluster.specs.declared.planning.View.{View}
use Rattle.hx_cluster.specs.declared.planning.Candidate.{Candidate}
use Rattle.hx_cluster.specs.Ends.{part_before}
use Rattle.hx_parts.specs.Index.{count_in}
use Rattle.hx_select.specs.declared.part_fillings.Filling.{Filling}
use Rattle.hx_select.specs.Fillings.{limit_in, filling_in}

-- whether a filling is of a state, and the number that fillings have for it
abbrev pub is_of : StateId → Filling → Bool
is_of t f = f.state.0 == t.0

abbrev pub count_at : List Filling → StateId → Option ℕ
count_at fillings t = option_map (λ f. f.count) (find (is_of t) fillings)

-- the fillings are those of each limited state of a part that was asked for, and nobody was accepted for a later part
pub record ArePartFillings (models : List ModelParts) (view : View) (accepted : List Candidate) (p : PartId) (fillings : List Filling) : Type 0 where
  pub counted : (t : StateId) → is_some (limit_in models view p t) ≡ true → unwrap_or (count_at fillings t) (count_in view p t) ≡ filling_in view accepted p t
  pub behind : list_all (λ a. not (part_before p a.part)) accepted ≡ true
