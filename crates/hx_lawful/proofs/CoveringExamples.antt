-- The order of a turn's calls, and what stands apart, on small examples.
use Rattle.std.proofs.Common.{◌≡◌, ◌==◌, true, false, [], ◌∷◌, refl}
use Rattle.hx_ids.specs.declared.SessionId.{SessionId}
use Rattle.hx_ids.specs.declared.InstanceId.{InstanceId}
use Rattle.hx_cluster.specs.Reads.{nothing_shown}
use Rattle.hx_pass.specs.Turns.{Mail, States, Ideals, Send, Post, Turn, idle_turn, calls_after_live}
use Rattle.hx_lawful.specs.Reading.{is_in_order, is_read}
use Rattle.hx_lawful.specs.Covers.{has_mail, has_states}
use Rattle.hx_lawful.proofs.Counts.{are_apart, each_answered}

abbrev session : SessionId
session = record { 0 = 4 }

abbrev another : SessionId
another = record { 0 = 7 }

abbrev instance : InstanceId
instance = record { 0 = 1 }

-- the mail of each session comes before the states of any
whole_turn : is_in_order (calls_after_live ((session, instance) ∷ (another, record { 0 = 2 }) ∷ [])) ≡ true
whole_turn = refl

states_first : is_in_order (Mail session ∷ States session ∷ Mail another ∷ States another ∷ Ideals ∷ Send ∷ Post ∷ []) ≡ false
states_first = refl

no_post : is_in_order (Ideals ∷ Send ∷ []) ≡ false
no_post = refl

-- a turn whose live showed a session, and that has read its mail
abbrev halfway : Turn
halfway = record idle_turn {
  left = States session ∷ Ideals ∷ Send ∷ Post ∷ [];
  view = record nothing_shown { live = (session, instance) ∷ [] };
}

mail_was_read : has_mail halfway session ≡ true
mail_was_read = refl

states_were_not : has_states halfway session ≡ false
states_were_not = refl

others_were_not : has_mail halfway another ≡ false
others_were_not = refl

ideals_are_left : is_read halfway ≡ false
ideals_are_left = refl

-- numbers that stand apart, and one that answers to each
apart : are_apart (λ a b. a == b) (3 ∷ 5 ∷ 8 ∷ []) ≡ true
apart = refl

twice : are_apart (λ a b. a == b) (3 ∷ 5 ∷ 3 ∷ []) ≡ false
twice = refl

answered : each_answered (λ a b. a == b) (λ a. true) (λ b. true) (8 ∷ 3 ∷ 5 ∷ 5 ∷ []) (3 ∷ 5 ∷ 8 ∷ []) ≡ true
answered = refl
