-- Messages that are handed out together. No public clause cites this module.
use Rattle.std.specs.Prelude.{◌≡◌, ◌≤◌, Bool, false, List, [], ◌∷◌, is_none}
use Rattle.std.specs.Option.{ForSome}
use Rattle.hx_ids.specs.declared.PartId.{PartId}
use Rattle.hx_cluster.specs.Ends.{part_eq}
use Rattle.hx_cluster.specs.declared.state.Message.{Message}
use Rattle.hx_replicas.specs.declared.slots.Work.TheVariants.{Accepted}
use Rattle.hx_replicas.specs.Participants.{Participant, slot_of, made_ready, readied_all}
use Rattle.hx_replicas.specs.Jobs.{ParticipantState, Job, KeepsRest, AreAnswered, runs_of}

-- a part that no message is of, and messages of parts of their own
abbrev pub AreApart : PartId → List Message → Type 0
AreApart p [] = Unit {0}
AreApart p (m ∷ ms) = (part_eq m.part p ≡ false) × AreApart p ms

abbrev pub AreSpread : List Message → Type 0
AreSpread [] = Unit {0}
AreSpread (m ∷ ms) = AreApart m.part ms × AreSpread ms

-- all messages are accepted
abbrev pub AreAccepted : Participant → List Message → Type 0
AreAccepted w [] = Unit {0}
AreAccepted w (m ∷ ms) = ((slot_of w m.part).work ≡ Accepted m) × AreAccepted w ms

-- the answers are told by the slots: there is a handler or none
abbrev pub AreShown : Participant → List Message → List Bool → Type 0
AreShown w ms [] = Unit {0}
AreShown w [] (f ∷ fs) = Unit {0}
AreShown w (m ∷ ms) (f ∷ fs) = (f ≡ is_none (made_ready (slot_of w m.part) m f).handler) × AreShown w ms fs

-- the first handlers were made
pub record IsReadied (a b : ParticipantState) (ms : List Message) (fs : List Bool) : Type 0 where
  pub plain : b.plain ≡ readied_all a.plain ms fs
  pub answered : AreAnswered a b ms fs
  pub shown : AreShown a.plain ms fs
  pub made : a.made ≤ b.made
  pub rest : KeepsRest a b

-- jobs of the first messages went out, with the handlers that stood in the slots
abbrev pub AreGiven : ParticipantState → List Message → List Job → Type 0
AreGiven a ms [] = Unit {0}
AreGiven a [] (j ∷ js) = ⊥
AreGiven a (m ∷ ms) (j ∷ js) =
    (j.message ≡ m) × (runs_of j.handler ≡ (slot_of a.plain m.part).handler) × ForSome j.handler (λ h. h.listed ≡ a.listed) × AreGiven a ms js
