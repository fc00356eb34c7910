-- What participants do in a world keeps it in step: they take, write and acknowledge messages.
use Rattle.std.proofs.Common.{◌≡◌, ℕ, ◌+◌, ◌≤◌, ◌==◌, not, Bool, true, false, List, [], ◌∷◌, ◌++◌, map, find, Option, Some, None, refl, sym, ap, ◌∙◌, subst, arith}
use Rattle.std.specs.Prelude.{is_some, is_none, if◌then◌else◌, slice_set}
use Rattle.std.specs.Option.{option_map}
use Rattle.std.proofs.lemmas.Bool.Decides.{nat_tests}
use Rattle.hx_lists.specs.Counts.{count_up}
use Rattle.hx_ids.specs.declared.InstanceId.{InstanceId}
use Rattle.hx_ids.specs.declared.SessionId.{SessionId}
use Rattle.hx_ids.specs.declared.MsgId.{MsgId}
use Rattle.hx_cluster.specs.declared.description.Spec.{Spec}
use Rattle.hx_cluster.specs.declared.state.Message.{Message}
use Rattle.hx_cluster.specs.declared.state.Cluster.{Cluster}
use Rattle.hx_cluster.specs.declared.happenings.Event.{Event}
use Rattle.hx_cluster.specs.declared.happenings.Event.TheVariants as events
use Rattle.hx_cluster.specs.declared.happenings.WriteRefusal.TheVariants as writes
use Rattle.hx_cluster.specs.declared.happenings.AckFault.TheVariants as acks
use Rattle.hx_cluster.specs.Ends.{is_live}
use Rattle.hx_cluster.specs.Messages.{pending_of}
use Rattle.hx_cluster.specs.Marks.{write_fault, ack_fault}
use Rattle.hx_cluster.specs.Events.{can_take, can_write, can_ack}
use Rattle.hx_cluster.specs.Valid.{IsValid}
use Rattle.hx_print.specs.declared.Note.TheVariants as notes
use Rattle.hx_replicas.specs.declared.slots.Work.TheVariants.{Accepted}
use Rattle.hx_replicas.specs.Participants.{Participant, slot_of, accepted_by, makes, made_ready, hand_out, finish}
use Rattle.hx_worlds.specs.World.{State, Job, Answers, rest_of, participant_of, with_participant}
use Rattle.hx_worlds.specs.declared.Voice.{Voice}
use Rattle.hx_worlds.specs.Runs.{done, happened}
use Rattle.hx_worlds.specs.Jobs
use Rattle.hx_safe.proofs.Counting.{and-first, and-second, find-passes}
use Rattle.hx_safe.proofs.Ideals.{length-put}
use Rattle.hx_safe.proofs.Kept.{IsKept}
use Rattle.hx_scripted.specs.OfHistory.{is_fetched}
use Rattle.hx_scripted.proofs.Standing.{Last, IsScripted, scripted_other}
use Rattle.hx_scripted.proofs.Lines.{write-line}
use Rattle.hx_scripted.proofs.Keeping.{Keeps, makes_then, choice}
use Rattle.hx_scripted.proofs.Walking.{keeps_note, keeps_call}
use Rattle.hx_scripted.proofs.Taking.{jobs_there, job_ended, handed_there, put_back_there, accepted_fetched, participant_there}
use Rattle.hx_agreed.specs.InStep.{IsTakenBy, IsHeldJob, IsInStep}
use Rattle.hx_agreed.proofs.Frames.{same_is}
use Rattle.hx_agreed.proofs.Changes.{instance_same}
use Rattle.hx_agreed.proofs.Marks.{accepted_slot, live_by, dead_by, refused_dead, take_in_step, put_back_in_step, pending_found}
use Rattle.hx_agreed.proofs.Ending.{end_in_step, ack_in_step}
use Rattle.hx_agreed.proofs.Writing.{write_in_step}
use Rattle.hx_agreed.proofs.Going.{whole_there, each-find}
use Rattle.hx_agreed.proofs.DoingTurns.{Stands, keeps_line}

-- a job's handler, as it ran
handler_ran : (m : Message) (h : Option ℕ) → is_some (Jobs.handler_after m h) ≡ is_some h
handler_ran m h = one (Jobs.runs_handler m h) h
  where
    one : (b : Bool) (o : Option ℕ) → is_some (if b then option_map count_up o else o) ≡ is_some o
    one true None = refl
    one true (Some n) = refl
    one false o = refl

-- a call that is answered is of a live session
write_live : (c : Cluster) (s : SessionId) (id : MsgId) → can_write c s id ≡ true → is_live c.live s ≡ true
write_live c s id can = live_by (is_live c.live s) (write_fault (pending_of c s id)) writes.SessionEnded can

ack_live : (c : Cluster) (s : SessionId) (id : MsgId) → can_ack c s id ≡ true → is_live c.live s ≡ true
ack_live c s id can = live_by (is_live c.live s) (ack_fault (pending_of c s id)) acks.SessionEnded can

unwritten_passes : (m : Message) → m.taken ≡ true → m.written ≡ false → is_none (write_fault (Some m)) ≡ true
unwritten_passes m t w = rw (t, w) refl

written_passes : (m : Message) → m.written ≡ true → is_none (ack_fault (Some m)) ≡ true
written_passes m w = rw w refl

module _ (c : Cluster) (k : IsKept c) (ws : List Participant) (jobs : List Job) (j : Job) (h : IsHeldJob c ws jobs j) where
  job_pending : (t : IsTakenBy c j) → pending_of c j.message.session j.message.id ≡ Some t.now
  job_pending t = pending_found c k j.message.session j.message.id j.message.part t.now t.found (sym (same_is j.message t.now t.taken.same).id)

  -- a call that is refused is of a session that isn't live
  write_dead : j.is_written ≡ false → can_write c j.message.session j.message.id ≡ false → is_live c.live j.message.session ≡ false
  write_dead unwritten refused = dead_by (is_live c.live j.message.session) (write_fault (pending_of c j.message.session j.message.id)) writes.SessionEnded none refused
    where
      none : is_live c.live j.message.session ≡ true → is_none (write_fault (pending_of c j.message.session j.message.id)) ≡ true
      none live = let t = h.taken live in ap (λ (o : Option Message). is_none (write_fault o)) (job_pending t) ∙ unwritten_passes t.now t.taken.taken (t.taken.written ∙ unwritten)

  ack_dead : j.is_written ≡ true → can_ack c j.message.session j.message.id ≡ false → is_live c.live j.message.session ≡ false
  ack_dead written refused = dead_by (is_live c.live j.message.session) (ack_fault (pending_of c j.message.session j.message.id)) acks.SessionEnded none refused
    where
      none : is_live c.live j.message.session ≡ true → is_none (ack_fault (pending_of c j.message.session j.message.id)) ≡ true
      none live = let t = h.taken live in ap (λ (o : Option Message). is_none (ack_fault o)) (job_pending t) ∙ written_passes t.now (t.taken.written ∙ written)

no_weight : (n : ℕ) (limit : ℕ) → n ≤ limit → n + 0 ≤ limit
no_weight n limit e = omega arith

module _ (spec : Spec) (valid : IsValid spec) (last : Last) where
  kept_there : (x : State) → Stands spec last x → IsKept x.world.cluster
  kept_there x s = (whole_there spec last x.world valid s.scripted).kept

  -- takes
  ran_scripted : (i : InstanceId) (m : Message) (handler : Option ℕ) (y x : State) (is : Bool) → IsScripted spec last x.world
      → IsScripted spec last (Jobs.with_job (Jobs.job_run i m handler y) (Jobs.if_answered is x)).world
  ran_scripted i m handler y x true s = jobs_there spec last x.world (x.world.jobs ++ Jobs.job_run i m handler y ∷ []) s
  ran_scripted i m handler y x false s = jobs_there spec last x.world (x.world.jobs ++ Jobs.job_run i m handler y ∷ []) s

  ran_in_step : (job : Job) (x : State) (is : Bool) → IsInStep (record x.world { jobs = x.world.jobs ++ job ∷ [] }) → IsInStep (Jobs.with_job job (Jobs.if_answered is x)).world
  ran_in_step job x true s = record { parts = s.parts; participants = s.participants; weight = s.weight }
  ran_in_step job x false s = record { parts = s.parts; participants = s.participants; weight = s.weight }

  module _ (i : InstanceId) (m : Message) (failed : Bool) (handler : Option ℕ) (answers : Answers) (x : State) (s : Stands spec last x) (fetched : is_fetched spec x.world.history m ≡ true)
      (work : (slot_of (participant_of x.world i) m.part).work ≡ Accepted m) where
    -- once a message was handed out
    out : IsScripted spec last (with_participant i (hand_out (participant_of x.world i) m failed) x).world
    out = handed_there spec last i m failed x s.scripted

    -- it is taken, or put back
    pub took_there : is_some handler ≡ is_some (made_ready (slot_of (participant_of x.world i) m.part) m failed).handler → can_take x.world.cluster m.session m.id ≡ true
        → Stands spec last (Jobs.ran i m handler (happened (events.Take m.session m.id) (record { world = (with_participant i (hand_out (participant_of x.world i) m failed) x).world; answers = answers })))
    took_there held can =
        let y : State = record { world = (with_participant i (hand_out (participant_of x.world i) m failed) x).world; answers = answers } in
        let z = happened (events.Take m.session m.id) y in
        record {
          scripted = ran_scripted i m handler z z (Jobs.runs_handler m handler)
              (scripted_other spec last last.line y.world (events.Take m.session m.id) z.world.weight out can fetched s.scripted.line (λ k. refl));
          in_step = ran_in_step (Jobs.job_run i m handler z) z (Jobs.runs_handler m handler) (record {
            parts = take_in_step x.world.cluster x.world.participants x.world.jobs x.world.bag (kept_there x s) s.in_step.parts i m work failed (Jobs.job_run i m handler z) can refl refl (handler_ran m handler ∙ held) refl;
            participants = length-put x.world.participants i.0 (hand_out (participant_of x.world i) m failed) ∙ s.in_step.participants;
            weight = no_weight x.world.weight x.world.limit s.in_step.weight;
          });
        }

    pub stays_there : can_take x.world.cluster m.session m.id ≡ false
        → Stands spec last (Jobs.put_back i m handler (record { world = (with_participant i (hand_out (participant_of x.world i) m failed) x).world; answers = answers }))
    stays_there can =
        let y : State = record { world = (with_participant i (hand_out (participant_of x.world i) m failed) x).world; answers = answers } in
        record {
          scripted = put_back_there spec last i m handler y out;
          in_step = record {
            parts = put_back_in_step x.world.cluster x.world.participants x.world.jobs x.world.bag (kept_there x s) s.in_step.parts i m work failed handler
                (refused_dead x.world.cluster x.world.participants x.world.jobs x.world.bag (kept_there x s) s.in_step.parts i m work can);
            participants = length-put (slice_set x.world.participants i.0 (hand_out (participant_of x.world i) m failed)) i.0 (finish (participant_of y.world i) m None handler)
                ∙ length-put x.world.participants i.0 (hand_out (participant_of x.world i) m failed) ∙ s.in_step.participants;
            weight = s.in_step.weight;
          };
        }

  module _ (v : Voice) (i : InstanceId) (m : Message) (failed : Bool) (handler : Option ℕ) (x : State) (s : Stands spec last x) (fetched : is_fetched spec x.world.history m ≡ true)
      (work : (slot_of (participant_of x.world i) m.part).work ≡ Accepted m) (held : is_some handler ≡ is_some (made_ready (slot_of (participant_of x.world i) m.part) m failed).handler) where
    taken_there : (answers : Answers) → Keeps (Stands spec last) (Jobs.take_job v i m handler (record { world = (with_participant i (hand_out (participant_of x.world i) m failed) x).world; answers = answers }))
    taken_there answers =
        let y : State = record { world = (with_participant i (hand_out (participant_of x.world i) m failed) x).world; answers = answers } in
        choice (Stands spec last) (can_take x.world.cluster m.session m.id) _ _
        (λ can. makes_then (Stands spec last) (events.Take m.session m.id) y (λ z. done (Jobs.ran i m handler z)) (record { left = took_there i m failed handler answers x s fetched work held can }))
        (λ can. keeps_note (Stands spec last) (keeps_line spec valid last) v notes.SessionEnded (Jobs.put_back i m handler y) (stays_there i m failed handler answers x s fetched work can))

    taken_answered : (is : Bool) → Keeps (Stands spec last) (Jobs.take_job v i m handler (Jobs.if_answered is (with_participant i (hand_out (participant_of x.world i) m failed) x)))
    taken_answered true = taken_there (rest_of x.answers)
    taken_answered false = taken_there x.answers

  pub keeps_taken : (v : Voice) (i : InstanceId) (id : MsgId) (o : Option Message) (x : State) → Stands spec last x → accepted_by (participant_of x.world i) id ≡ o → Keeps (Stands spec last) (Jobs.take_accepted v i o x)
  keeps_taken v i id None x s is = keeps_note (Stands spec last) (keeps_line spec valid last) v _ x s
  keeps_taken v i id (Some m) x s is =
      let failed = Jobs.fails_to_make i m x in
      taken_answered v i m failed (Jobs.handler_of i m failed x) x s (accepted_fetched spec x.world.history (participant_of x.world i) id m (participant_there spec last x.world i s.scripted) is)
      (accepted_slot x.world.cluster x.world.bag x.world.jobs i (participant_of x.world i) id m (s.in_step.parts.each i) is) refl (makes (slot_of (participant_of x.world i) m.part) m)

  -- a job whose session ended
  pub ended_there : (j : Job) (x : State) → Stands spec last x → IsHeldJob x.world.cluster x.world.participants x.world.jobs j → is_live x.world.cluster.live j.message.session ≡ false → Stands spec last (Jobs.end_job j x)
  ended_there j x s h dead = record {
    scripted = job_ended spec last j x s.scripted;
    in_step = record {
      parts = end_in_step x.world.cluster x.world.participants x.world.jobs x.world.bag (kept_there x s) s.in_step.parts j h dead;
      participants = length-put x.world.participants j.instance.0 (finish (participant_of x.world j.instance) j.message (Some j.outcome) j.handler) ∙ s.in_step.participants;
      weight = s.in_step.weight;
    };
  }

  -- writes
  job_there : (i : InstanceId) (id : MsgId) (j : Job) (x : State) → Stands spec last x → Jobs.job_of i id x ≡ Some j → IsHeldJob x.world.cluster x.world.participants x.world.jobs j
  job_there i id j x s is = each-find (IsHeldJob x.world.cluster x.world.participants x.world.jobs) (Jobs.is_job i id) x.world.jobs j s.in_step.parts.held is

  job_found : (i : InstanceId) (id : MsgId) (j : Job) (x : State) → find (Jobs.is_job i id) x.world.jobs ≡ Some j → find (Jobs.is_job j.instance j.message.id) x.world.jobs ≡ Some j
  job_found i id j x found =
      let p = find-passes (Jobs.is_job i id) x.world.jobs j found in
      let at : j.instance ≡ i = instance_same j.instance i (and-first (j.instance.0 == i.0) (j.message.id.0 == id.0) p) in
      let number : j.message.id.0 ≡ id.0 = (let q = and-second (j.instance.0 == i.0) (j.message.id.0 == id.0) p in grind (arith, nat_tests, q)) in
      subst (λ (n : InstanceId). find (Jobs.is_job n j.message.id) x.world.jobs ≡ Some j) (sym at)
      (subst (λ (n : ℕ). find (Jobs.is_job i (record { 0 = n })) x.world.jobs ≡ Some j) (sym number) found)

  pub wrote_there : (i : InstanceId) (id : MsgId) (j : Job) (x : State) → Stands spec last x → Jobs.job_of i id x ≡ Some j → can_write x.world.cluster j.message.session j.message.id ≡ true
      → Stands spec last (Jobs.with_written j.instance j.message.id (happened (events.Write j.message.session j.message.id j.outcome) x))
  wrote_there i id j x s is can =
      let e : Event = events.Write j.message.session j.message.id j.outcome in
      let h = job_there i id j x s is in
      let y = happened e x in
      record {
        scripted = jobs_there spec last y.world (map (Jobs.as_written_job j.instance j.message.id) y.world.jobs)
            (scripted_other spec last last.line x.world e y.world.weight s.scripted can tt (write-line x.world.cluster j.message.session j.message.id j.outcome ∙ s.scripted.line) (λ k. refl));
        in_step = record {
          parts = write_in_step x.world.cluster x.world.participants x.world.jobs x.world.bag (kept_there x s) s.in_step.parts j h
              (h.taken (write_live x.world.cluster j.message.session j.message.id can)) (job_found i id j x is);
          participants = s.in_step.participants;
          weight = no_weight x.world.weight x.world.limit s.in_step.weight;
        };
      }

  keeps_written : (v : Voice) (o : Option Job) (i : InstanceId) (id : MsgId) (x : State) → Stands spec last x → Jobs.job_of i id x ≡ o → Keeps (Stands spec last) (Jobs.write_job v o x)
  keeps_written v None i id x s is = keeps_note (Stands spec last) (keeps_line spec valid last) v _ x s
  keeps_written v (Some j) i id x s is =
      let h = job_there i id j x s is in
      keeps_call (Stands spec last) (keeps_line spec valid last) v j x j.is_written (can_write x.world.cluster j.message.session j.message.id) (events.Write j.message.session j.message.id j.outcome) (Jobs.with_written j.instance j.message.id) s
      (λ unwritten can. wrote_there i id j x s is can)
      (λ unwritten refused. ended_there j x s h (write_dead x.world.cluster (kept_there x s) x.world.participants x.world.jobs j h unwritten refused))

  -- acknowledgements
  pub acked_there : (i : InstanceId) (id : MsgId) (j : Job) (x : State) → Stands spec last x → Jobs.job_of i id x ≡ Some j → j.is_written ≡ true → can_ack x.world.cluster j.message.session j.message.id ≡ true
      → Stands spec last (Jobs.end_job j (happened (events.Ack j.message.session j.message.id) x))
  acked_there i id j x s is written can =
      let e : Event = events.Ack j.message.session j.message.id in
      let h = job_there i id j x s is in
      record {
        scripted = job_ended spec last j (happened e x) (scripted_other spec last last.line x.world e (happened e x).world.weight s.scripted can tt s.scripted.line (λ k. refl));
        in_step = record {
          parts = ack_in_step x.world.cluster x.world.participants x.world.jobs x.world.bag (kept_there x s) s.in_step.parts j h written (ack_live x.world.cluster j.message.session j.message.id can);
          participants = length-put x.world.participants j.instance.0 (finish (participant_of x.world j.instance) j.message (Some j.outcome) j.handler) ∙ s.in_step.participants;
          weight = no_weight x.world.weight x.world.limit s.in_step.weight;
        };
      }

  keeps_acked : (v : Voice) (o : Option Job) (i : InstanceId) (id : MsgId) (x : State) → Stands spec last x → Jobs.job_of i id x ≡ o → Keeps (Stands spec last) (Jobs.ack_job v o x)
  keeps_acked v None i id x s is = keeps_note (Stands spec last) (keeps_line spec valid last) v _ x s
  keeps_acked v (Some j) i id x s is =
      let h = job_there i id j x s is in
      keeps_call (Stands spec last) (keeps_line spec valid last) v j x (not j.is_written) (can_ack x.world.cluster j.message.session j.message.id) (events.Ack j.message.session j.message.id) (Jobs.end_job j) s
      (λ on can. acked_there i id j x s is (grind (arith, on)) can)
      (λ on refused. ended_there j x s h (ack_dead x.world.cluster (kept_there x s) x.world.participants x.world.jobs j h (grind (arith, on)) refused))

  pub keeps_write : (v : Voice) (i : InstanceId) (id : MsgId) (x : State) → Stands spec last x → Keeps (Stands spec last) (Jobs.do_write v i id x)
  keeps_write v i id x s = keeps_written v _ i id x s refl

  pub keeps_ack : (v : Voice) (i : InstanceId) (id : MsgId) (x : State) → Stands spec last x → Keeps (Stands spec last) (Jobs.do_ack v i id x)
  keeps_ack v i id x s = keeps_acked v _ i id x s refl
