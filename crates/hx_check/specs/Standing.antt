-- What a history leaves: the cluster, each controller's turn, and how far each session's messages were fetched.
use Rattle.std.specs.Prelude.{◌≡◌, ℕ, zero, suc, ◌+◌, Bool, true, List, [], ◌∷◌, Some, replicate, slice_index_or, nat_lt}
use Rattle.std.specs.List.{list_any}
use Rattle.hx_ids.specs.declared.ControllerId.{ControllerId}
use Rattle.hx_ids.specs.declared.SessionId.{SessionId}
use Rattle.hx_ids.specs.declared.MsgId.{MsgId}
use Rattle.hx_cluster.specs.declared.description.Spec.{Spec}
use Rattle.hx_cluster.specs.declared.state.Cluster.{Cluster}
use Rattle.hx_cluster.specs.declared.happenings.Event.{Event}
use Rattle.hx_cluster.specs.declared.happenings.Event.TheVariants as events
use Rattle.hx_cluster.specs.Steps.{opening}
use Rattle.hx_cluster.specs.Messages.{has_id}
use Rattle.hx_cluster.specs.Events.{next, replay, can_take}
use Rattle.hx_pass.specs.Turns.{Turn, idle_turn, turn_after}
use Rattle.hx_pass.specs.Lawful.{fetched_from}

pub record Standing : Type 0 where
  pub cluster : Cluster
  pub turns : List Turn
  pub marks : List ℕ

abbrev pub opening_standing : Spec → Standing
opening_standing spec = record { cluster = opening spec; turns = replicate spec.controllers idle_turn; marks = [] }

-- the turns after an event, of the controllers from a number on
abbrev pub turns_after : Cluster → Event → ℕ → List Turn → List Turn
turns_after c e k [] = []
turns_after c e k (t ∷ ts) = turn_after c (record { 0 = k }) t e ∷ turns_after c e (k + 1) ts

-- a session's mark, at its number, is the next message number at its last fetch
abbrev pub with_mark : List ℕ → ℕ → ℕ → List ℕ
with_mark [] zero next = next ∷ []
with_mark [] (suc s) next = 0 ∷ with_mark [] s next
with_mark (x ∷ xs) zero next = next ∷ xs
with_mark (x ∷ xs) (suc s) next = x ∷ with_mark xs s next

abbrev pub marks_after : Cluster → List ℕ → Event → List ℕ
marks_after c marks (events.Fetch i (Some s) n) = with_mark marks s.0 c.next_msg
marks_after c marks _ = marks

abbrev pub stood_after : Standing → Event → Standing
stood_after w e = record {
  cluster = next w.cluster e;
  turns = turns_after w.cluster e 0 w.turns;
  marks = marks_after w.cluster w.marks e;
}

-- what all events of a history leave
abbrev pub stood_from : Standing → List Event → Standing
stood_from w [] = w
stood_from w (e ∷ es) = stood_from (stood_after w e) es

abbrev pub standing_of : Spec → List Event → Standing
standing_of spec h = stood_from (opening_standing spec) h

abbrev pub turn_in : Standing → ControllerId → Turn
turn_in w k = slice_index_or w.turns k.0 idle_turn

-- whether a number is below its session's mark
abbrev pub mark_of : List ℕ → SessionId → ℕ
mark_of marks s = slice_index_or marks s.0 0

abbrev pub is_marked : Standing → SessionId → MsgId → Bool
is_marked w s id = nat_lt id.0 (mark_of w.marks s)

-- once a message can be taken, a fetch showed it exactly where its number is below the mark of its session: this is to be shown of
-- every legal history
abbrev pub MarksTell : Spec → List Event → Type 0
MarksTell spec h =
    (s : SessionId) → (id : MsgId) → can_take (replay (opening spec) h) s id ≡ true →
    is_marked (standing_of spec h) s id ≡ list_any (has_id s id) (fetched_from (opening spec) h)
