-- Tests of what is asked of a board, its controllers and its participants that agree. They go over the instances and the parts that a
-- board has, and over the slots that a participant has.
use Rattle.std.specs.Prelude.{ℕ, ◌+◌, Bool, true, false, not, ◌==◌, ◌&&◌, ◌||◌, List, [], ◌∷◌, length, Option, None, Some, is_none, unwrap_or, nat_lt}
use Rattle.std.specs.List.{list_any, list_all}
use Rattle.hx_lists.specs.Lists.{numbers_below}
use Rattle.hx_ids.specs.declared.StateId.{StateId}
use Rattle.hx_ids.specs.declared.SessionId.{SessionId}
use Rattle.hx_ids.specs.declared.PartId.{PartId}
use Rattle.hx_ids.specs.Words.{instance, resource, part}
use Rattle.hx_model.specs.declared.ModelParts.{ModelParts}
use Rattle.hx_cluster.specs.declared.state.Message.{Message}
use Rattle.hx_cluster.specs.declared.state.Cluster.{Cluster}
use Rattle.hx_cluster.specs.Ends.{state_of, message_of, model_of, parts_of}
use Rattle.hx_cluster.specs.Steps.{session_of}
use Rattle.hx_cluster.specs.Events.{has_part}
use Rattle.hx_replicas.specs.Participants.{Participant, Slot, slot_of, counts_as, is_session}
use Rattle.hx_replicas.specs.Jobs.{ParticipantState}
use Rattle.hx_board.specs.Board.{Held}
use Rattle.hx_worlds.specs.Agree.{BoardState, Stationed, has_any}

-- what matters of a board and of a participant
abbrev pub board_state : Held → BoardState
board_state b = record { spec = b.spec; history = b.history }

abbrev pub stationed : ParticipantState → Stationed
stationed p = record { instance = p.instance; plain = p.plain }

-- numbers stand in order, from n on
abbrev pub are_in_order : ℕ → List ℕ → Bool
are_in_order n [] = true
are_in_order n (x ∷ xs) = (x == n) && are_in_order (n + 1) xs

-- each part of a resource, and each of a board
abbrev pub at_each_of : Cluster → (PartId → Bool) → ℕ → Bool
at_each_of c test r = list_all (λ n. test (part r n)) (numbers_below (parts_of c.resources (resource r)))

abbrev pub at_each_part : Cluster → (PartId → Bool) → Bool
at_each_part c test = list_all (at_each_of c test) (numbers_below (length c.resources))

-- nothing was done in a session at a part
abbrev pub is_taken : Option Message → Bool
is_taken None = false
is_taken (Some m) = m.taken

abbrev pub is_untouched_at : Cluster → SessionId → PartId → Bool
is_untouched_at c s q = is_none (state_of c.rows s q) && not (is_taken (message_of c.mail s q))

-- the live session of each of the first n instances is a participant's, or nothing was done in it
abbrev pub is_cared_at : Cluster → List Stationed → Option SessionId → Bool
is_cared_at c ps None = true
is_cared_at c ps (Some s) = has_any s ps || at_each_part c (is_untouched_at c s)

abbrev pub are_cared_for : ℕ → Cluster → List Stationed → Bool
are_cared_for n c ps = list_all (λ i. is_cared_at c ps (session_of c (instance i))) (numbers_below n)

-- one of the first n instances has a session
abbrev pub has_session : ℕ → Cluster → SessionId → Bool
has_session n c s = list_any (λ i. is_session (session_of c (instance i)) s) (numbers_below n)

-- the initial state of a part's model, one of these models
abbrev pub initial_at : List ModelParts → Cluster → PartId → StateId
initial_at models c q = (model_of models c.resources q.resource).initial

-- the initial state of the messages that were accepted, if any, is this one
abbrev pub is_like : Option StateId → StateId → Bool
is_like None initial = true
is_like (Some has) initial = has.0 == initial.0

-- a pending message, if any, isn't taken, and its number is above the last that was accepted
abbrev pub is_coming : ℕ → Option Message → Bool
is_coming last None = true
is_coming last (Some m) = not m.taken && nat_lt last m.id.0

-- a slot counts as at its row, the last number that it accepted was given, and where it accepted any its part is there
abbrev pub is_settled_slot : ℕ → Bool → StateId → Slot → Option StateId → Option Message → Bool
is_settled_slot next is_there initial x row m =
    nat_lt x.last.0 next && (is_there || (x.last.0 == 0)) && is_like x.initial initial
    && ((counts_as x initial).0 == (unwrap_or row initial).0) && is_coming x.last.0 m

abbrev pub is_settled_at : ℕ → List ModelParts → Cluster → Participant → SessionId → PartId → Bool
is_settled_at next models c w s q =
    is_settled_slot next (has_part c q) (initial_at models c q) (slot_of w q) (state_of c.rows s q) (message_of c.mail s q)

-- a participant's session is that of its instance, and its slots are settled, those of the board's parts among them
abbrev pub are_slots_settled : ℕ → List ModelParts → Cluster → Participant → SessionId → Bool
are_slots_settled next models c w s = list_all (λ x. is_settled_at next models c w s x.part) w.slots

abbrev pub is_settled_in : ℕ → List ModelParts → Cluster → Stationed → SessionId → Bool
is_settled_in next models c p s =
    is_session (session_of c p.instance) s && are_slots_settled next models c p.plain s && at_each_part c (is_settled_at next models c p.plain s)

-- so is one whose session is live
abbrev pub is_settled_with : ℕ → List ModelParts → ℕ → Cluster → Stationed → Option SessionId → Bool
is_settled_with next models n c p None = true
is_settled_with next models n c p (Some s) = not (has_session n c s) || is_settled_in next models c p s

abbrev pub is_settled : ℕ → List ModelParts → ℕ → Cluster → Stationed → Bool
is_settled next models n c p = is_settled_with next models n c p p.plain.session
