-- The ledger of handlers: each that was made is held, or was retired.
use Rattle.std.specs.Prelude.{◌≡◌, ℕ, ◌+◌, Option, None, Some, if◌then◌else◌}
use Rattle.std.specs.List.{sum_by}
use Rattle.hx_replicas.specs.declared.slots.Work.{Work}
use Rattle.hx_replicas.specs.declared.slots.Work.TheVariants.{Idle, Accepted, Out}
use Rattle.hx_replicas.specs.Participants.{Participant, Slot}

-- a handler in a slot, and one that a job took out of it
abbrev pub in_place : {H : Type 0} → Option H → ℕ
in_place None = 0
in_place (Some h) = 1

abbrev pub lent : Work → ℕ
lent Idle = 0
lent (Accepted m) = 0
lent (Out m is_held) = if is_held then 1 else 0

-- how many handlers a participant holds, those of its jobs that are out among them
abbrev pub held_in : Slot → ℕ
held_in x = in_place x.handler + lent x.work

abbrev pub held_by : Participant → ℕ
held_by w = sum_by held_in w.slots

abbrev pub IsBalanced : ℕ → ℕ → Participant → Type 0
IsBalanced made retired w = made ≡ retired + held_by w
