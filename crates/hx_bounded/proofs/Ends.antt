-- What takes, writes and acknowledgements in a world come to.
use Rattle.std.proofs.Common.{◌≡◌, ℕ, not, Bool, true, false, [], ◌∷◌, ◌++◌, map, filter, find, Option, Some, None, refl, sym, ap, ◌∙◌, subst, arith}
use Rattle.std.specs.Prelude.{if◌then◌else◌, slice_set}
use Rattle.hx_ids.specs.declared.InstanceId.{InstanceId}
use Rattle.hx_ids.specs.declared.MsgId.{MsgId}
use Rattle.hx_cluster.specs.declared.state.Message.{Message}
use Rattle.hx_cluster.specs.declared.happenings.Event.{Event}
use Rattle.hx_cluster.specs.declared.happenings.Event.TheVariants as events
use Rattle.hx_cluster.specs.Messages.{after_take, after_write, after_ack}
use Rattle.hx_cluster.specs.Events.{can_take, can_write, can_ack}
use Rattle.hx_replicas.specs.Participants.{accepted_by, makes, slot_of, hand_out, finish}
use Rattle.hx_worlds.specs.World.{World, State, Job, participant_of, with_participant}
use Rattle.hx_worlds.specs.declared.Voice.TheVariants.{Quiet}
use Rattle.hx_worlds.specs.Runs.{Deed, and_then, make, done, happened}
use Rattle.hx_worlds.specs.Jobs as Jobs
use Rattle.hx_bounded.specs.Ending.{IfGoesOn}
use Rattle.hx_bounded.proofs.Going.{goes_made, goes_chosen}

-- a message is taken: it goes out, and its job is open
pub record IsTaken (i : InstanceId) (id : MsgId) (w v : World) : Type 0 where
  pub message : Message
  pub accepted : accepted_by (participant_of w i) id ≡ Some message
  pub can : can_take w.cluster message.session message.id ≡ true
  pub failed : Bool
  pub handler : Option ℕ
  pub from : State
  pub cluster : v.cluster ≡ after_take w.cluster message.session message.id
  pub participants : v.participants ≡ slice_set w.participants i.0 (hand_out (participant_of w i) message failed)
  pub jobs : v.jobs ≡ w.jobs ++ Jobs.job_run i message handler from ∷ []
  pub controllers : v.controllers ≡ w.controllers

-- or put back
pub record IsPutBack (i : InstanceId) (id : MsgId) (w v : World) : Type 0 where
  pub message : Message
  pub accepted : accepted_by (participant_of w i) id ≡ Some message
  pub failed : Bool
  pub handler : Option ℕ
  pub between : World
  pub out : between.participants ≡ slice_set w.participants i.0 (hand_out (participant_of w i) message failed)
  pub cluster : v.cluster ≡ w.cluster
  pub participants : v.participants ≡ slice_set between.participants i.0 (finish (participant_of between i) message None handler)
  pub jobs : v.jobs ≡ w.jobs
  pub controllers : v.controllers ≡ w.controllers

pub record IsNotTaken (i : InstanceId) (id : MsgId) (w v : World) : Type 0 where
  pub none : accepted_by (participant_of w i) id ≡ None
  pub same : v ≡ w

pub data Takes (i : InstanceId) (id : MsgId) (w v : World) : Type 0 where
  WasTaken : IsTaken i id w v → Takes i id w v
  WasPutBack : IsPutBack i id w v → Takes i id w v
  WasNotTaken : IsNotTaken i id w v → Takes i id w v

answered_world : (is : Bool) (x : State) → (Jobs.if_answered is x).world ≡ x.world
answered_world true x = refl
answered_world false x = refl

module _ (i : InstanceId) (id : MsgId) (x : State) (m : Message) (is : accepted_by (participant_of x.world i) id ≡ Some m) (failed : Bool) (handler : Option ℕ) where
  taken_from : (y : State) → y.world ≡ (with_participant i (hand_out (participant_of x.world i) m failed) x).world
      → IfGoesOn (λ _ z. Takes i id x.world z.world) (Jobs.take_job Quiet i m handler y)
  taken_from y same =
      goes_chosen (λ _ z. Takes i id x.world z.world) (can_take y.world.cluster m.session m.id) _ _
      (λ can. goes_made (λ _ z. Takes i id x.world z.world) (events.Take m.session m.id) y (λ z. done (Jobs.ran i m handler z)) (record {
        to = WasTaken (record {
          message = m;
          accepted = is;
          can = ap (λ (w : World). can_take w.cluster m.session m.id) (sym same) ∙ can;
          failed = failed;
          handler = handler;
          from = happened (events.Take m.session m.id) y;
          cluster = ap (λ (w : World). w.cluster) (ran (happened (events.Take m.session m.id) y)) ∙ ap (λ (w : World). after_take w.cluster m.session m.id) same;
          participants = ap (λ (w : World). w.participants) (ran (happened (events.Take m.session m.id) y)) ∙ ap (λ (w : World). w.participants) same;
          jobs =
              ap (λ (w : World). w.jobs ++ Jobs.job_run i m handler (happened (events.Take m.session m.id) y) ∷ []) (answered_world (Jobs.runs_handler m handler) (happened (events.Take m.session m.id) y))
              ∙ ap (λ (w : World). w.jobs ++ Jobs.job_run i m handler (happened (events.Take m.session m.id) y) ∷ []) same;
          controllers = ap (λ (w : World). w.controllers) (ran (happened (events.Take m.session m.id) y)) ∙ ap (λ (w : World). w.controllers) same;
        });
      }))
      (λ can. record {
        to = WasPutBack (record {
          message = m;
          accepted = is;
          failed = failed;
          handler = handler;
          between = y.world;
          out = ap (λ (w : World). w.participants) same;
          cluster = ap (λ (w : World). w.cluster) same;
          participants = refl;
          jobs = ap (λ (w : World). w.jobs) same;
          controllers = ap (λ (w : World). w.controllers) same;
        });
      })
    where
      ran : (z : State) → (Jobs.if_answered (Jobs.runs_handler m handler) z).world ≡ z.world
      ran z = answered_world (Jobs.runs_handler m handler) z

pub take_ends : (i : InstanceId) (id : MsgId) (x : State) → IfGoesOn (λ _ z. Takes i id x.world z.world) (Jobs.do_take Quiet i id x)
take_ends i id x = one (accepted_by (participant_of x.world i) id) refl
  where
    one : (o : Option Message) → accepted_by (participant_of x.world i) id ≡ o → IfGoesOn (λ _ z. Takes i id x.world z.world) (Jobs.take_accepted Quiet i o x)
    one None is = record { to = WasNotTaken (record { none = is; same = refl }) }
    one (Some m) is =
        let failed = Jobs.fails_to_make i m x in
        taken_from i id x m is failed (Jobs.handler_of i m failed x)
        (Jobs.if_answered (makes (slot_of (participant_of x.world i) m.part) m) (with_participant i (hand_out (participant_of x.world i) m failed) x))
        (answered_world (makes (slot_of (participant_of x.world i) m.part) m) (with_participant i (hand_out (participant_of x.world i) m failed) x))

-- a job is ended
pub record IsEnded (w v : World) (j : Job) : Type 0 where
  pub participants : v.participants ≡ slice_set w.participants j.instance.0 (finish (participant_of w j.instance) j.message (Some j.outcome) j.handler)
  pub jobs : v.jobs ≡ filter (λ x. not (Jobs.is_job j.instance j.message.id x)) w.jobs
  pub controllers : v.controllers ≡ w.controllers

pub record IsCutOff (i : InstanceId) (id : MsgId) (w v : World) : Type 0 where
  pub job : Job
  pub found : find (Jobs.is_job i id) w.jobs ≡ Some job
  pub cluster : v.cluster ≡ w.cluster
  pub ended : IsEnded w v job

pub record HasNoJob (i : InstanceId) (id : MsgId) (w v : World) : Type 0 where
  pub none : find (Jobs.is_job i id) w.jobs ≡ None
  pub same : v ≡ w

pub record HasMarkedJob (i : InstanceId) (id : MsgId) (mark : Bool) (w v : World) : Type 0 where
  pub job : Job
  pub found : find (Jobs.is_job i id) w.jobs ≡ Some job
  pub marked : job.is_written ≡ mark
  pub same : v ≡ w

-- a call for a job: there is none, or it was marked so before; or the call is made, or the job is ended
pub data Calls (mark : Bool) (IsMade : World → World → Type 0) (i : InstanceId) (id : MsgId) (w v : World) : Type 0 where
  HasNone : HasNoJob i id w v → Calls mark IsMade i id w v
  WasMarked : HasMarkedJob i id mark w v → Calls mark IsMade i id w v
  WasMade : IsMade w v → Calls mark IsMade i id w v
  WasCutOff : IsCutOff i id w v → Calls mark IsMade i id w v

call_ends : (mark : Bool) (IsMade : World → World → Type 0) (i : InstanceId) (id : MsgId) (x : State) (call : Option Job → Deed) (skips can : Job → Bool) (e : Job → Event) (f : Job → State → State)
    → call None ≡ done x
    → ((j : Job) → call (Some j) ≡ (if skips j then done x else if can j then and_then (make (e j) x) (λ y. done (f j y)) else done (Jobs.end_job j x)))
    → ((j : Job) → skips j ≡ true → j.is_written ≡ mark)
    → ((j : Job) → find (Jobs.is_job i id) x.world.jobs ≡ Some j → can j ≡ true → IsMade x.world (f j (happened (e j) x)).world)
    → IfGoesOn (λ _ z. Calls mark IsMade i id x.world z.world) (call (find (Jobs.is_job i id) x.world.jobs))
call_ends mark IsMade i id x call skips can e f nothing by marked made = one (find (Jobs.is_job i id) x.world.jobs) refl
  where
    one : (o : Option Job) → find (Jobs.is_job i id) x.world.jobs ≡ o → IfGoesOn (λ _ z. Calls mark IsMade i id x.world z.world) (call o)
    one None is = subst (IfGoesOn (λ _ z. Calls mark IsMade i id x.world z.world)) (sym nothing) (record { to = HasNone (record { none = is; same = refl }) })
    one (Some j) is =
        subst (IfGoesOn (λ _ z. Calls mark IsMade i id x.world z.world)) (sym (by j))
        (goes_chosen (λ _ z. Calls mark IsMade i id x.world z.world) (skips j) _ _
        (λ skip. record { to = WasMarked (record { job = j; found = is; marked = marked j skip; same = refl }) })
        (λ on. goes_chosen (λ _ z. Calls mark IsMade i id x.world z.world) (can j) _ _
        (λ yes. goes_made (λ _ z. Calls mark IsMade i id x.world z.world) (e j) x (λ y. done (f j y)) (record { to = WasMade (made j is yes) }))
        (λ no. record { to = WasCutOff (record { job = j; found = is; cluster = refl; ended = record { participants = refl; jobs = refl; controllers = refl } }) })))

-- a write
pub record IsWritten (i : InstanceId) (id : MsgId) (w v : World) : Type 0 where
  pub job : Job
  pub found : find (Jobs.is_job i id) w.jobs ≡ Some job
  pub can : can_write w.cluster job.message.session job.message.id ≡ true
  pub cluster : v.cluster ≡ after_write w.cluster job.message.session job.message.id job.outcome
  pub participants : v.participants ≡ w.participants
  pub jobs : v.jobs ≡ map (Jobs.as_written_job job.instance job.message.id) w.jobs
  pub controllers : v.controllers ≡ w.controllers

abbrev pub Writes : InstanceId → MsgId → World → World → Type 0
Writes i id = Calls true (IsWritten i id) i id

pub write_ends : (i : InstanceId) (id : MsgId) (x : State) → IfGoesOn (λ _ z. Writes i id x.world z.world) (Jobs.do_write Quiet i id x)
write_ends i id x =
    call_ends true (IsWritten i id) i id x (λ o. Jobs.write_job Quiet o x) (λ j. j.is_written) (λ j. can_write x.world.cluster j.message.session j.message.id)
    (λ j. events.Write j.message.session j.message.id j.outcome) (λ j. Jobs.with_written j.instance j.message.id) refl (λ j. refl) (λ j e. e)
    (λ j is can. record { job = j; found = is; can = can; cluster = refl; participants = refl; jobs = refl; controllers = refl })

-- an acknowledgement, with which the job ends
pub record IsAcked (i : InstanceId) (id : MsgId) (w v : World) : Type 0 where
  pub job : Job
  pub found : find (Jobs.is_job i id) w.jobs ≡ Some job
  pub can : can_ack w.cluster job.message.session job.message.id ≡ true
  pub cluster : v.cluster ≡ after_ack w.cluster job.message.session job.message.id
  pub ended : IsEnded w v job

abbrev pub Acks : InstanceId → MsgId → World → World → Type 0
Acks i id = Calls false (IsAcked i id) i id

pub ack_ends : (i : InstanceId) (id : MsgId) (x : State) → IfGoesOn (λ _ z. Acks i id x.world z.world) (Jobs.do_ack Quiet i id x)
ack_ends i id x =
    call_ends false (IsAcked i id) i id x (λ o. Jobs.ack_job Quiet o x) (λ j. not j.is_written) (λ j. can_ack x.world.cluster j.message.session j.message.id)
    (λ j. events.Ack j.message.session j.message.id) (λ j. Jobs.end_job j) refl (λ j. refl) (λ j e. grind (arith, e))
    (λ j is can. record { job = j; found = is; can = can; cluster = refl; ended = record { participants = refl; jobs = refl; controllers = refl } })
