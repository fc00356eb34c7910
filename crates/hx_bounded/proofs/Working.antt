-- What holds of a world stays as messages are taken, written and acknowledged.
use Rattle.std.proofs.Common.{◌≡◌, ◌<◌, not, Bool, true, false, List, length, refl, sym, ap, ◌∙◌, subst, arith}
use Rattle.std.specs.Prelude.{if◌then◌else◌}
use Rattle.std.specs.List.{list_any}
use Rattle.hx_ids.specs.declared.InstanceId.{InstanceId}
use Rattle.hx_ids.specs.declared.MsgId.{MsgId}
use Rattle.hx_ids.specs.declared.Live.{Live}
use Rattle.hx_cluster.specs.declared.description.Spec.{Spec}
use Rattle.hx_cluster.specs.declared.state.Cluster.{Cluster}
use Rattle.hx_cluster.specs.Ends.{is_live}
use Rattle.hx_cluster.specs.Valid.{IsValid}
use Rattle.hx_replicas.specs.Participants.{accepted_by}
use Rattle.hx_control.specs.Controllers.{Controller}
use Rattle.hx_worlds.specs.declared.Voice.TheVariants.{Quiet}
use Rattle.hx_worlds.specs.World.{World, State, Job, participant_of}
use Rattle.hx_worlds.specs.Jobs as Jobs
use Rattle.hx_safe.proofs.Kept.{IsKept}
use Rattle.hx_scripted.proofs.Standing.{Last}
use Rattle.hx_agreed.specs.InStep.{Each, IsHeldJob}
use Rattle.hx_agreed.proofs.Lists.{each-append, each-map, each-filter}
use Rattle.hx_agreed.proofs.Going.{whole_there, each-find}
use Rattle.hx_agreed.proofs.DoingTurns.{Stands}
use Rattle.hx_agreed.proofs.Doing.{keeps_taken, keeps_write, keeps_ack}
use Rattle.hx_bounded.specs.Ending.{IfGoesOn}
use Rattle.hx_bounded.proofs.Going.{goes_then, goes_too, goes_so}
use Rattle.hx_bounded.proofs.Rounds.{safe_there, ranged_there}
use Rattle.hx_bounded.proofs.Ends
use Rattle.hx_bounded.proofs.Carrying.{IsClosed, OfLive, IsWorking, write_live, live_written, can_live, IsCarried, write_carries, ack_carries, carried_both}

module _ (spec : Spec) (valid : IsValid spec) (last : Last) (P : Cluster → Type 0) (H : Job → Type 0) (closed : IsClosed P H) (live : List Live) (ks : List Controller) where
  works_same : (w v : World) → v ≡ w → IsWorking P H live ks w → IsWorking P H live ks v
  works_same w v same k = subst (IsWorking P H live ks) (sym same) k

  take_works : (i : InstanceId) (id : MsgId) (w v : World) → Ends.Takes i id w v → IsWorking P H live ks w → IsWorking P H live ks v
  take_works i id w v (Ends.WasTaken t) k = record {
    holds = subst P (sym t.cluster) (closed.take w.cluster t.message.session t.message.id k.holds);
    sessions = ap (λ (c : Cluster). c.live) t.cluster ∙ k.sessions;
    jobs = subst (Each (OfLive live H)) (sym t.jobs) (each-append (OfLive live H) w.jobs (Jobs.job_run i t.message t.handler t.from) k.jobs (λ _. closed.ran i t.message t.handler t.from));
    controllers = t.controllers ∙ k.controllers;
  }
  take_works i id w v (Ends.WasPutBack t) k = record {
    holds = subst P (sym t.cluster) k.holds;
    sessions = ap (λ (c : Cluster). c.live) t.cluster ∙ k.sessions;
    jobs = subst (Each (OfLive live H)) (sym t.jobs) k.jobs;
    controllers = t.controllers ∙ k.controllers;
  }
  take_works i id w v (Ends.WasNotTaken t) k = works_same w v t.same k

  marked_works : (i : InstanceId) (id : MsgId) (j : Job) → OfLive live H j → OfLive live H (Jobs.as_written_job i id j)
  marked_works i id j h = one (Jobs.is_job i id j)
    where
      one : (b : Bool) → OfLive live H (if b then record j { is_written = true } else j)
      one true = λ is. closed.marked j (h is)
      one false = h

  ended_works : (w v : World) (j : Job) → Ends.IsEnded w v j → Each (OfLive live H) w.jobs → Each (OfLive live H) v.jobs
  ended_works w v j e all =
      subst (Each (OfLive live H)) (sym e.jobs) (each-filter (OfLive live H) (OfLive live H) (λ x. not (Jobs.is_job j.instance j.message.id x)) (λ x is h. h) w.jobs all)

  write_works : (i : InstanceId) (id : MsgId) (x : State) (v : World) → Stands spec last x → Ends.Writes i id x.world v → IsWorking P H live ks x.world → IsWorking P H live ks v
  write_works i id x v s (Ends.HasNone t) k = works_same x.world v t.same k
  write_works i id x v s (Ends.WasMarked t) k = works_same x.world v t.same k
  write_works i id x v s (Ends.WasMade t) k =
      let j = t.job in
      let kept = (whole_there spec last x.world valid s.scripted).kept in
      let h : IsHeldJob x.world.cluster x.world.participants x.world.jobs j = each-find (IsHeldJob x.world.cluster x.world.participants x.world.jobs) (Jobs.is_job i id) x.world.jobs j s.in_step.parts.held t.found in
      let alive = can_live x.world.cluster j.message.session j.message.id t.can in
      let of : H j = each-find (OfLive live H) (Jobs.is_job i id) x.world.jobs j k.jobs t.found (subst (λ (ls : List Live). is_live ls j.message.session ≡ true) k.sessions alive) in
      record {
        holds = subst P (sym t.cluster) (closed.write x.world.cluster j (safe_there spec valid last x s) (ranged_there spec valid last x s) kept t.can of (write_live x.world.cluster j x.world.participants x.world.jobs kept h alive) k.holds);
        sessions = ap (λ (c : Cluster). c.live) t.cluster ∙ live_written x.world.cluster j.message.session j.message.id j.outcome ∙ k.sessions;
        jobs =
            subst (Each (OfLive live H)) (sym t.jobs)
            (each-map (OfLive live H) (OfLive live H) (Jobs.as_written_job j.instance j.message.id) (λ y of. marked_works j.instance j.message.id y of) x.world.jobs k.jobs);
        controllers = t.controllers ∙ k.controllers;
      }
  write_works i id x v s (Ends.WasCutOff t) k = record {
    holds = subst P (sym t.cluster) k.holds;
    sessions = ap (λ (c : Cluster). c.live) t.cluster ∙ k.sessions;
    jobs = ended_works x.world v t.job t.ended k.jobs;
    controllers = t.ended.controllers ∙ k.controllers;
  }

  ack_works : (i : InstanceId) (id : MsgId) (w v : World) → IsKept w.cluster → Ends.Acks i id w v → IsWorking P H live ks w → IsWorking P H live ks v
  ack_works i id w v kept (Ends.HasNone t) k = works_same w v t.same k
  ack_works i id w v kept (Ends.WasMarked t) k = works_same w v t.same k
  ack_works i id w v kept (Ends.WasMade t) k = record {
    holds = subst P (sym t.cluster) (closed.ack w.cluster t.job.message.session t.job.message.id kept t.can k.holds);
    sessions = ap (λ (c : Cluster). c.live) t.cluster ∙ k.sessions;
    jobs = ended_works w v t.job t.ended k.jobs;
    controllers = t.ended.controllers ∙ k.controllers;
  }
  ack_works i id w v kept (Ends.WasCutOff t) k = record {
    holds = subst P (sym t.cluster) k.holds;
    sessions = ap (λ (c : Cluster). c.live) t.cluster ∙ k.sessions;
    jobs = ended_works w v t.job t.ended k.jobs;
    controllers = t.ended.controllers ∙ k.controllers;
  }

  -- a state in which work is done
  pub record IsAtWork (x : State) : Type 0 where
    pub stands : Stands spec last x
    pub works : IsWorking P H live ks x.world

  kept_there : (x : State) → IsAtWork x → IsKept x.world.cluster
  kept_there x a = (whole_there spec last x.world valid a.stands.scripted).kept

  pub taken : (i : InstanceId) (id : MsgId) (x : State) → IsAtWork x → IfGoesOn (λ _ y. IsAtWork y × Ends.Takes i id x.world y.world) (Jobs.do_take Quiet i id x)
  taken i id x a =
      goes_so (λ _ y. Stands spec last y × Ends.Takes i id x.world y.world) (λ _ y. IsAtWork y × Ends.Takes i id x.world y.world) (Jobs.do_take Quiet i id x)
      (goes_too (Stands spec last) (λ _ y. Ends.Takes i id x.world y.world) (Jobs.do_take Quiet i id x)
      (keeps_taken spec valid last Quiet i id (accepted_by (participant_of x.world i) id) x a.stands refl) (Ends.take_ends i id x))
      (λ _ y e. (record { stands = e.0; works = take_works i id x.world y.world e.1 a.works }, e.1))

  written : (i : InstanceId) (id : MsgId) (x : State) → IsAtWork x → IfGoesOn (λ _ y. IsAtWork y × Ends.Writes i id x.world y.world) (Jobs.do_write Quiet i id x)
  written i id x a =
      goes_so (λ _ y. Stands spec last y × Ends.Writes i id x.world y.world) (λ _ y. IsAtWork y × Ends.Writes i id x.world y.world) (Jobs.do_write Quiet i id x)
      (goes_too (Stands spec last) (λ _ y. Ends.Writes i id x.world y.world) (Jobs.do_write Quiet i id x)
      (keeps_write spec valid last Quiet i id x a.stands) (Ends.write_ends i id x))
      (λ _ y e. (record { stands = e.0; works = write_works i id x y.world a.stands e.1 a.works }, e.1))

  acked : (i : InstanceId) (id : MsgId) (x : State) → IsAtWork x → IfGoesOn (λ _ y. IsAtWork y × Ends.Acks i id x.world y.world) (Jobs.do_ack Quiet i id x)
  acked i id x a =
      goes_so (λ _ y. Stands spec last y × Ends.Acks i id x.world y.world) (λ _ y. IsAtWork y × Ends.Acks i id x.world y.world) (Jobs.do_ack Quiet i id x)
      (goes_too (Stands spec last) (λ _ y. Ends.Acks i id x.world y.world) (Jobs.do_ack Quiet i id x)
      (keeps_ack spec valid last Quiet i id x a.stands) (Ends.ack_ends i id x))
      (λ _ y e. (record { stands = e.0; works = ack_works i id x.world y.world (kept_there x a) e.1 a.works }, e.1))

  -- each participant of the description is there
  pub low_there : (i : InstanceId) → i.0 < length spec.instances → (x : State) → Stands spec last x → i.0 < length x.world.participants
  low_there i low x s =
      let many = s.in_step.participants in
      let given : length x.world.spec.instances ≡ length spec.instances = ap (λ (g : Spec). length g.instances) s.scripted.of.given in
      omega (arith, low, many, given)

  -- a job that is carried to its end is gone
  pub record IsGone (i : InstanceId) (id : MsgId) (w : World) (y : State) : Type 0 where
    pub at_work : IsAtWork y
    pub carried : IsCarried i w y.world
    pub none : list_any (Jobs.is_job i id) y.world.jobs ≡ false

  pub carry_ends : (i : InstanceId) → i.0 < length spec.instances → (id : MsgId) (x : State) → IsAtWork x → IfGoesOn (λ _ y. IsGone i id x.world y) (Jobs.carry i id x)
  carry_ends i low id x a =
      goes_then (λ y. IsAtWork y × Ends.Writes i id x.world y.world) (λ _ y. IsGone i id x.world y) (Jobs.do_write Quiet i id x) (λ y. Jobs.do_ack Quiet i id y) (written i id x a)
      (λ y here.
      let w = write_carries i id x.world y.world (low_there i low x a.stands) here.1 in
      goes_so (λ _ z. IsAtWork z × Ends.Acks i id y.world z.world) (λ _ z. IsGone i id x.world z) (Jobs.do_ack Quiet i id y) (acked i id y here.0)
      (λ _ z there.
      let g = ack_carries i id y.world z.world (low_there i low y here.0.stands) (kept_there y here.0) w.1 there.1 in
      record { at_work = there.0; carried = carried_both i x.world y.world z.world w.0 g.0; none = g.1 }))
