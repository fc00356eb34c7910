-- The candidates that the bounds allow, walked in order.
use Rattle.std.specs.Prelude.{ℕ, ◌+◌, Bool, true, ◌==◌, ◌&&◌, ◌||◌, nat_lt, List, [], ◌∷◌, length, map, filter, Option, unwrap_or}
use Rattle.std.specs.List.{list_any}
use Rattle.std.specs.Option.{option_map_or}
use Rattle.hx_lists.specs.Lists.{count}
use Rattle.hx_lists.specs.Choices.{chosen_of, left_after, IsChoice}
use Rattle.hx_ids.specs.declared.StateId.{StateId}
use Rattle.hx_ids.specs.declared.SessionId.{SessionId}
use Rattle.hx_ids.specs.declared.PartId.{PartId}
use Rattle.hx_model.specs.declared.ModelParts.{ModelParts}
use Rattle.hx_cluster.specs.declared.planning.View.{View}
use Rattle.hx_cluster.specs.declared.planning.Candidate.{Candidate}
use Rattle.hx_cluster.specs.declared.planning.Full.{Full}
use Rattle.hx_cluster.specs.declared.planning.Selection.{Selection}
use Rattle.hx_cluster.specs.Ends.{part_eq, has_end, count_over, limit_over}

abbrev pub shown_sessions : View → List SessionId
shown_sessions view = map (λ e. e.0) view.live

-- whether a candidate goes to a state of a part
abbrev pub goes_to : PartId → StateId → Candidate → Bool
goes_to p t c = part_eq c.part p && (c.to.0 == t.0)

-- how many sessions have a candidate's state among their ends or were accepted for it, and the most that may
abbrev pub filling : View → List Candidate → Candidate → ℕ
filling view accepted c = count_over (shown_sessions view) view.rows view.mail c.part c.to + count (goes_to c.part c.to) accepted

abbrev pub limit_for : List ModelParts → View → Candidate → Option ℕ
limit_for models view c = limit_over models view.ideals.resources (length view.live) c.part c.to

-- whether there is room for a candidate beside those accepted before it
abbrev pub has_room : List ModelParts → View → List Candidate → Candidate → Bool
has_room models view accepted c = option_map_or (nat_lt (filling view accepted c)) (limit_for models view c) true

-- the accepted candidates: those for which there is room
abbrev pub accepted_of : List ModelParts → View → List Candidate → List Candidate
accepted_of models view candidates = chosen_of (has_room models view) candidates

-- marks of the candidates, where the marked ones are accepted
abbrev pub IsSelection : List ModelParts → View → List Candidate → List Bool → Type 0
IsSelection models view candidates marks = IsChoice (has_room models view) candidates marks

-- the sessions that have a candidate's state among their ends or were accepted for it
abbrev pub holds : View → List Candidate → Candidate → SessionId → Bool
holds view accepted c s = has_end view.rows view.mail c.part c.to s || list_any (λ a. goes_to c.part c.to a && (a.session.0 == s.0)) accepted

abbrev pub full : List ModelParts → View → List Candidate → Candidate → Full
full models view accepted c = record {
  candidate = c;
  count = filling view accepted c;
  bound = unwrap_or (limit_for models view c) 0;
  holders = filter (holds view accepted c) (shown_sessions view);
}

-- those for which there is no room, with who takes it
abbrev pub full_of : List ModelParts → View → List Candidate → List Full
full_of models view candidates = left_after (has_room models view) (λ accepted c. full models view accepted c ∷ []) [] candidates

abbrev pub selection : List ModelParts → View → List Candidate → Selection
selection models view candidates = record { accepted = accepted_of models view candidates; full = full_of models view candidates }
