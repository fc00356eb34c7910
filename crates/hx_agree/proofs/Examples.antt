-- What the tests answer to a board with one instance, and one partition that it follows.
use Rattle.std.proofs.Common.{◌≡◌, ℕ, Bool, true, false, List, [], ◌∷◌, Option, refl}
use Rattle.std.specs.Prelude.{None, Some}
use Rattle.hx_ids.specs.Words.{instance, session, message, state, epoch, part}
use Rattle.hx_ids.specs.declared.StateId.{StateId}
use Rattle.hx_cluster.specs.declared.state.Message.{Message}
use Rattle.hx_cluster.specs.declared.state.Cluster.{Cluster}
use Rattle.hx_cluster.specs.declared.happenings.Admin.TheVariants as steps
use Rattle.hx_cluster.specs.Steps.{opening, after}
use Rattle.hx_replicas.specs.declared.slots.Work.TheVariants.{Idle}
use Rattle.hx_replicas.specs.Participants.{Slot, new_participant}
use Rattle.hx_worlds.specs.Agree.{Stationed, is_below}
use Rattle.hx_agree.specs.Tests.{are_in_order, are_cared_for, has_session, is_settled}
use Rattle.hx_worlds.proofs.Examples.{spec}

-- the instance joined; then its replica came to a state other than the initial one, and a message leads on from there
abbrev joined : Cluster
joined = after (opening spec) (steps.Join (instance 0))

abbrev follows : StateId
follows = state 3

abbrev note : Message
note = record { id = message 2; session = session 1; part = part 0 0; from = follows; to = state 2; initial = state 4; epoch = epoch 1; taken = false; written = false }

abbrev held : Cluster
held = record joined { rows = record { session = session 1; part = part 0 0; state = follows } ∷ []; mail = note ∷ []; next_msg = 3 }

abbrev taken : Cluster
taken = record held { mail = (record note { taken = true }) ∷ [] }

-- participants, with the slots that they have
abbrev placed : Option ℕ → List Slot → Stationed
placed None slots = record { instance = instance 0; plain = new_participant }
placed (Some s) slots = record { instance = instance 0; plain = record { session = Some (session s); slots = slots; tried = [] } }

abbrev slot : ℕ → ℕ → ℕ → Slot
slot index last t = record { part = part 0 index; state = state t; last = message last; initial = Some (state 4); work = Idle; handler = None }

abbrev stands : ℕ → Cluster → Stationed → Bool
stands next c p = is_settled next spec.models 1 c p

-- numbers stand in order, or don't
in_order : are_in_order 0 (0 ∷ 1 ∷ 2 ∷ []) ≡ true
in_order = refl

one_twice : are_in_order 0 (0 ∷ 1 ∷ 1 ∷ []) ≡ false
one_twice = refl

-- a session that no participant has may have done nothing
new_session : are_cared_for 1 joined (placed None [] ∷ []) ≡ true
new_session = refl

left_session : are_cared_for 1 held (placed None [] ∷ []) ≡ false
left_session = refl

own_session : are_cared_for 1 held (placed (Some 1) [] ∷ []) ≡ true
own_session = refl

-- one that has its session stands as the board has it: at its row, which none of its slots is absent from
at_its_row : stands 3 held (placed (Some 1) (slot 0 1 3 ∷ [])) ≡ true
at_its_row = refl

at_another_state : stands 3 held (placed (Some 1) (slot 0 1 2 ∷ [])) ≡ false
at_another_state = refl

without_a_slot : stands 3 held (placed (Some 1) []) ≡ false
without_a_slot = refl

-- its message isn't taken, and comes after the last that it accepted
already_accepted : stands 3 held (placed (Some 1) (slot 0 2 3 ∷ [])) ≡ false
already_accepted = refl

message_taken : stands 3 taken (placed (Some 1) (slot 0 1 3 ∷ [])) ≡ false
message_taken = refl

-- it accepted nothing of a part that isn't there, and no number that wasn't given
another_part : stands 3 held (placed (Some 1) (slot 0 1 3 ∷ slot 1 1 4 ∷ [])) ≡ false
another_part = refl

slot_of_another_part : stands 3 held (placed (Some 1) (slot 0 1 3 ∷ slot 5 0 2 ∷ [])) ≡ false
slot_of_another_part = refl

number_to_come : stands 1 held (placed (Some 1) (slot 0 1 3 ∷ [])) ≡ false
number_to_come = refl

-- nothing is asked of one whose session has ended, but that it is a session
ended : stands 3 held (placed (Some 7) (slot 0 9 2 ∷ [])) ≡ true
ended = refl

live_session : has_session 1 held (session 1) ≡ true
live_session = refl

session_to_come : is_below 2 (Some (session 2)) ≡ false
session_to_come = refl
