-- Rounds fall, work and turns end, and so do settles.
use Rattle.std.proofs.Common.{◌≡◌, ℕ, ◌<◌, Bool, true, false, List, [], Option, Some, None, refl, sym, ap, ◌∙◌, subst}
use Rattle.hx_ids.specs.declared.InstanceId.{InstanceId}
use Rattle.hx_ids.specs.declared.ControllerId.{ControllerId}
use Rattle.hx_ids.specs.declared.SessionId.{SessionId}
use Rattle.hx_ids.specs.declared.MsgId.{MsgId}
use Rattle.hx_ids.specs.declared.PartId.{PartId}
use Rattle.hx_cluster.specs.declared.description.Spec.{Spec}
use Rattle.hx_cluster.specs.declared.state.Message.{Message}
use Rattle.hx_cluster.specs.declared.state.Cluster.{Cluster}
use Rattle.hx_cluster.specs.declared.happenings.Outcome.{Outcome}
use Rattle.hx_cluster.specs.Ends.{is_live, limit_at, message_of}
use Rattle.hx_cluster.specs.Messages.{pending_of, after_write, after_ack}
use Rattle.hx_cluster.specs.Events.{can_write, can_ack}
use Rattle.hx_cluster.specs.Safe.{IsSafe}
use Rattle.hx_cluster.specs.Ranged.{IsRanged}
use Rattle.hx_cluster.specs.Valid.{IsValid}
use Rattle.hx_pass.specs.Left.{left_of}
use Rattle.hx_replicas.specs.declared.slots.Work.{Work}
use Rattle.hx_replicas.specs.declared.slots.Work.TheVariants.{Accepted}
use Rattle.hx_replicas.specs.Participants.{slot_of}
use Rattle.hx_control.specs.declared.PassOutcome.{PassOutcome}
use Rattle.hx_control.specs.declared.PassOutcome.TheVariants as ends
use Rattle.hx_worlds.specs.declared.Voice.TheVariants.{Quiet}
use Rattle.hx_worlds.specs.World.{State, participant_of}
use Rattle.hx_worlds.specs.Turns as Turns
use Rattle.hx_worlds.specs.Settles.{work_all, settle, settle_led}
use Rattle.hx_safe.proofs.Whole.{whole_from}
use Rattle.hx_scripted.specs.OfHistory.{IsOfItsHistory}
use Rattle.hx_scripted.proofs.Standing.{Last, since, scripted_since}
use Rattle.hx_agreed.specs.InStep.{IsAcceptedHere, HasWork, IsInStep}
use Rattle.hx_agreed.proofs.Placed.{placed_work}
use Rattle.hx_agreed.proofs.DoingTurns.{Stands}
use Rattle.hx_settled.specs.Places.{tries_left}
use Rattle.hx_bounded.specs.Ending.{IfGoesOn, IsEnd}
use Rattle.hx_bounded.specs.Measure.{all_walks, work_left}
use Rattle.hx_bounded.specs.Falling.{is_honest, IsFalling}
use Rattle.hx_bounded.specs.Rounds.{IsSound, HasNothingToDo, IsBetweenRounds, IsOver, LeavesLess, SettlesOrLeavesLess}
use Rattle.hx_bounded.proofs.Counting.{work_falls}
use Rattle.hx_bounded.proofs.Falls.{write_falls, ack_falls}
use Rattle.hx_bounded.proofs.Going.{goes_so}
use Rattle.hx_bounded.proofs.Rounds.{IsSetOff, IsLaterTurn, IsLaterRest, safe_there, ranged_there, led_ends}
use Rattle.hx_bounded.proofs.Turning.{IsTold, IsThrough, turn_through, first_turn}
use Rattle.hx_bounded.proofs.Passing.{jobs_dead, later_turn}
use Rattle.hx_bounded.proofs.Resting.{any_work, first_work, later_work}

-- a sound world stands
stands_of : (spec : Spec) (x : State) → IsSound spec x.world → Stands spec (since x.world.cluster.line) x
stands_of spec x s = record { scripted = scripted_since spec x.world s.of; in_step = s.in_step }

sound_of : (spec : Spec) (last : Last) (x : State) → Stands spec last x → IsSound spec x.world
sound_of spec last x s = record { of = s.scripted.of; in_step = s.in_step }

-- where nothing is pending, live sessions have nothing to do
nothing_to_do : (spec : Spec) (last : Last) (x : State) → Stands spec last x → x.world.cluster.mail ≡ [] → HasNothingToDo x.world
nothing_to_do spec last x s none = record { mail = none; jobs = jobs_dead spec last x s none; accepted = λ i q m is. one i q m is (is_live x.world.cluster.live m.session) refl }
  where
    one : (i : InstanceId) (q : PartId) (m : Message) → (slot_of (participant_of x.world i) q).work ≡ Accepted m → (b : Bool) → is_live x.world.cluster.live m.session ≡ b → b ≡ false
    one i q m is false e = refl
    one i q m is true e =
        let a : IsAcceptedHere x.world.cluster x.world.bag (participant_of x.world i).session q (slot_of (participant_of x.world i) q) m
        = subst (λ (w : Work). HasWork x.world.cluster x.world.bag x.world.jobs i (participant_of x.world i).session q (slot_of (participant_of x.world i) q) w) is
        (placed_work x.world.cluster x.world.bag x.world.jobs i (participant_of x.world i) (s.in_step.parts.each i) q) in
        let u = a.waits e in
        let no : None ≡ Some u.now = ap (λ (ms : List Message). message_of ms m.session m.part) (sym none) ∙ u.found in
        absurd (cc)

-- work
pub work_rests : (spec : Spec) (x : State) → IsValid spec → IsSound spec x.world → IfGoesOn (λ _ y. IsSound spec y.world × HasNothingToDo y.world) (work_all x)
work_rests spec x valid s =
    goes_so (λ _ y. Stands spec (since x.world.cluster.line) y × (y.world.cluster.mail ≡ [])) (λ _ y. IsSound spec y.world × HasNothingToDo y.world) (work_all x)
    (any_work spec valid (since x.world.cluster.line) x (stands_of spec x s))
    (λ _ y e. (sound_of spec (since x.world.cluster.line) y e.0, nothing_to_do spec (since x.world.cluster.line) y e.0 e.1))

-- turns
pub turn_over : (spec : Spec) (k : ControllerId) (x : State) → IsValid spec → IsSound spec x.world → x.world.cluster.leader ≡ Some k → IfGoesOn (IsOver k) (Turns.do_pass Quiet k x)
turn_over spec k x valid s leads =
    goes_so (IsThrough spec valid (since x.world.cluster.line) k x) (IsOver k) (Turns.do_pass Quiet k x) (turn_through spec valid (since x.world.cluster.line) k x (stands_of spec x s) leads)
    (λ o y t. one o y t t.moved.told)
  where
    one : (o : Option PassOutcome) (y : State) → IsThrough spec valid (since x.world.cluster.line) k x o y → IsTold x.world.cluster o y.world.cluster → IsOver k o y
    one (Some (ends.Settled r)) y t told = record { idle = t.idle; report = told }
    one _ y t told = record { idle = t.idle; report = tt }

-- later rounds
pub rounds_fall : (spec : Spec) (k : ControllerId) (x : State) → IsValid spec → IsBetweenRounds spec k x → IfGoesOn (SettlesOrLeavesLess spec k (work_left x.world.cluster)) (Turns.do_pass Quiet k x)
rounds_fall spec k x valid b =
    goes_so (IsLaterTurn spec last k (all_walks x.world.cluster) (tries_left x.world.cluster) (left_of x.world.cluster)) (SettlesOrLeavesLess spec k (work_left x.world.cluster)) (Turns.do_pass Quiet k x)
    (later_turn spec valid (since x.world.cluster.line) k x (record { led = record { stands = stands_of spec x b.sound; leads = b.leads; idle = b.idle }; mail = b.rest.mail })) one
  where
    last : Last
    last = (since x.world.cluster.line)

    less : (y : State) → IsSetOff spec (since x.world.cluster.line) k (all_walks x.world.cluster) (tries_left x.world.cluster) (left_of x.world.cluster) y → LeavesLess spec k (work_left x.world.cluster) y
    less y off =
        goes_so (λ _ z. IsLaterRest spec (since x.world.cluster.line) k (all_walks x.world.cluster) (tries_left x.world.cluster) (left_of x.world.cluster) z)
        (λ _ z. IsBetweenRounds spec k z × (work_left z.world.cluster < work_left x.world.cluster)) (work_all y)
        (later_work spec valid (since x.world.cluster.line) k (all_walks x.world.cluster) (tries_left x.world.cluster) (left_of x.world.cluster) y off)
        (λ _ z e.
        let s = e.0.led.stands in (
          record { sound = sound_of spec (since x.world.cluster.line) z s; leads = e.0.led.leads; idle = e.0.led.idle; rest = nothing_to_do spec (since x.world.cluster.line) z s e.0.mail },
          work_falls (all_walks x.world.cluster) (tries_left x.world.cluster) (left_of x.world.cluster) z.world.cluster (safe_there spec valid (since x.world.cluster.line) z s) (ranged_there spec valid (since x.world.cluster.line) z s) e.0.mail e.1,
        ))

    one : (o : Option PassOutcome) (y : State) → IsLaterTurn spec (since x.world.cluster.line) k (all_walks x.world.cluster) (tries_left x.world.cluster) (left_of x.world.cluster) o y
        → SettlesOrLeavesLess spec k (work_left x.world.cluster) o y
    one (Some (ends.Settled r)) y explained = explained
    one _ y off = less y off

-- settles
pub settles : (spec : Spec) (x : State) → IsValid spec → IsOfItsHistory spec x.world → IsInStep x.world → IfGoesOn (IsEnd x.world.cluster x.world.cluster.leader) (settle x)
settles spec x valid of in_step = one x.world.cluster.leader refl
  where
    one : (o : Option ControllerId) → x.world.cluster.leader ≡ o → IfGoesOn (IsEnd x.world.cluster o) (settle_led o x)
    one None is = record { to = refl }
    one (Some k) is =
        let last = (since x.world.cluster.line) in
        led_ends spec valid last k (first_turn spec valid last k) (first_work spec valid last k) (later_turn spec valid last k) (later_work spec valid last k) x (stands_of spec x (record { of = of; in_step = in_step })) is

-- and the laws of single events
pub written_falls : (w t l : ℕ) (c : Cluster) (s : SessionId) (id : MsgId) (m : Message) (o : Outcome) → IsSafe c → IsRanged c → can_write c s id ≡ true → pending_of c s id ≡ Some m → is_honest m o ≡ true
    → IsFalling w t l c → IsFalling w t l (after_write c s id o)
written_falls w t l c s id m o safe ranged can at honest f =
    write_falls w t l c s id o safe ranged (whole_from (limit_at c) c safe ranged).kept can (λ n here. subst (λ (x : Message). is_honest x o ≡ true) (one m n (sym at ∙ here)) honest) f
  where
    one : (a b : Message) → Some a ≡ Some b → a ≡ b
    one a b e = cc

pub acked_falls : (w t l : ℕ) (c : Cluster) (s : SessionId) (id : MsgId) → IsSafe c → IsRanged c → can_ack c s id ≡ true → IsFalling w t l c → IsFalling w t l (after_ack c s id)
acked_falls w t l c s id safe ranged can f = ack_falls w t l c s id (whole_from (limit_at c) c safe ranged).kept can f
