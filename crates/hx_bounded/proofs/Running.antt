-- Work on a live instance, and on all of them: nothing is pending after it.
use Rattle.std.proofs.Common.{◌≡◌, ℕ, ◌<◌, ◌||◌, ◌&&◌, ◌==◌, Bool, true, false, List, [], ◌∷◌, ◌++◌, length, filter, Option, Some, None, refl, sym, ap, ◌∙◌, subst, arith}
use Rattle.std.specs.Prelude.{nat_le, slice_set}
use Rattle.std.specs.List.{list_any, filter_map}
use Rattle.std.specs.Option.{option_map}
use Rattle.hx_ids.specs.declared.InstanceId.{InstanceId}
use Rattle.hx_ids.specs.declared.SessionId.{SessionId}
use Rattle.hx_ids.specs.declared.MsgId.{MsgId}
use Rattle.hx_ids.specs.declared.PartId.{PartId}
use Rattle.hx_ids.specs.declared.Live.{Live}
use Rattle.hx_cluster.specs.declared.description.Spec.{Spec}
use Rattle.hx_cluster.specs.declared.state.Message.{Message}
use Rattle.hx_cluster.specs.declared.state.Cluster.{Cluster}
use Rattle.hx_cluster.specs.Ends.{part_eq, message_of}
use Rattle.hx_cluster.specs.Steps.{live_of}
use Rattle.hx_cluster.specs.Reads.{fetched}
use Rattle.hx_cluster.specs.Valid.{IsValid}
use Rattle.hx_control.specs.Controllers.{Controller}
use Rattle.hx_replicas.specs.declared.slots.Work.{Work}
use Rattle.hx_replicas.specs.declared.slots.Work.TheVariants.{Accepted}
use Rattle.hx_replicas.specs.Participants.{Participant, slot_of, accepted_of, has_accepted, accepted_by, accepted_all, number_before, hand_out, finish}
use Rattle.hx_script.specs.Ranges as Ranges
use Rattle.hx_worlds.specs.declared.Voice.TheVariants.{Quiet}
use Rattle.hx_worlds.specs.World.{World, State, Job, participant_of}
use Rattle.hx_worlds.specs.Runs.{and_then}
use Rattle.hx_worlds.specs.Jobs as Jobs
use Rattle.hx_safe.proofs.Counting.{any-append}
use Rattle.hx_safe.proofs.Ends.{part_eq-self}
use Rattle.hx_safe.proofs.Ideals.{length-put}
use Rattle.hx_scripted.proofs.Standing.{Last}
use Rattle.hx_agreed.specs.InStep.{of_instance, IsAcceptedHere, HasWork}
use Rattle.hx_agreed.proofs.Placed.{placed_work}
use Rattle.hx_agreed.proofs.Frames.{same_is}
use Rattle.hx_agreed.proofs.Replicas.{here_put, one_bagged}
use Rattle.hx_agreed.proofs.Marks.{accepted_slot}
use Rattle.hx_settled.proofs.Moments.{any-sort}
use Rattle.hx_bounded.specs.Ending.{IfGoesOn}
use Rattle.hx_bounded.proofs.Going.{goes_then, goes_so, goes_each}
use Rattle.hx_bounded.proofs.Ends
use Rattle.hx_bounded.proofs.Later.{IsLater, later_self, later_both, le_both, handed_later, handed_gone, finished_later, IsFrom}
use Rattle.hx_bounded.proofs.Carrying.{IsClosed, from_self, from_both, from_take}
use Rattle.hx_bounded.proofs.Working.{IsAtWork, low_there, taken, IsGone, carry_ends}
use Rattle.hx_bounded.proofs.Emptying.{IsEmptyOf, IsJobless, AreSeen, has_its, AreListed, any_filtered, same_number, work_listed, accepted_none, accepted_number, all_listed, session_now, IsReady, emptied}
use Rattle.hx_bounded.proofs.Delivering.{IsDelivered, fetched_and_delivered}

-- the jobs of an instance, by number
abbrev jobs_with : List Job → MsgId → Bool
jobs_with js id = list_any (λ j. j.message.id.0 == id.0) js

any_listed : (i : InstanceId) (x : State) (id : MsgId) → jobs_with (Jobs.jobs_of i x) id ≡ list_any (Jobs.is_job i id) x.world.jobs
any_listed i x id =
    any-sort (λ (j : Job). j.message.id.0 == id.0) Jobs.job_before (filter (Jobs.is_job_of i) x.world.jobs)
    ∙ any_filtered (λ (j : Job). j.message.id.0 == id.0) (Jobs.is_job_of i) x.world.jobs

module _ (spec : Spec) (valid : IsValid spec) (last : Last) (P : Cluster → Type 0) (H : Job → Type 0) (closed : IsClosed P H) (live : List Live) (ks : List Controller)
    (i : InstanceId) (low : i.0 < length spec.instances) where
  -- open jobs are carried to their ends
  record IsCarrying (js : List Job) (x : State) : Type 0 where
    at_work : IsAtWork spec valid last P H closed live ks x
    left : (id : MsgId) → jobs_with js id ≡ false → list_any (Jobs.is_job i id) x.world.jobs ≡ false

  record IsWithoutJobs (x : State) : Type 0 where
    at_work : IsAtWork spec valid last P H closed live ks x
    jobless : IsJobless i x.world

  carried : (j : Job) (js : List Job) (x : State) → IsCarrying (j ∷ js) x → IfGoesOn (λ _ y. IsCarrying js y) (Jobs.carry i j.message.id x)
  carried j js x here =
      goes_so (λ _ y. IsGone spec valid last P H closed live ks i j.message.id x.world y) (λ _ y. IsCarrying js y) (Jobs.carry i j.message.id x)
      (carry_ends spec valid last P H closed live ks i low j.message.id x here.at_work)
      (λ _ y g. record { at_work = g.at_work; left = λ id none. one y g id none (j.message.id.0 == id.0) refl })
    where
      one : (y : State) (g : IsGone spec valid last P H closed live ks i j.message.id x.world y) (id : MsgId) → jobs_with js id ≡ false → (b : Bool) → (j.message.id.0 == id.0) ≡ b
          → list_any (Jobs.is_job i id) y.world.jobs ≡ false
      one y g id none true e = subst (λ (n : MsgId). list_any (Jobs.is_job i n) y.world.jobs ≡ false) (same_number j.message.id id e) g.none
      one y g id none false e = g.carried.none_more id (here.left id (ap (λ (b : Bool). b || jobs_with js id) e ∙ none))

  all_carried : (x : State) → IsAtWork spec valid last P H closed live ks x → IfGoesOn (λ _ y. IsWithoutJobs y) (Jobs.carry_jobs i x)
  all_carried x a =
      goes_so (λ _ y. IsCarrying [] y) (λ _ y. IsWithoutJobs y) (Jobs.carry_jobs i x)
      (goes_each IsCarrying (λ j y. Jobs.carry i j.message.id y) carried (Jobs.jobs_of i x) x (record { at_work = a; left = λ id none. sym (any_listed i x id) ∙ none }))
      (λ _ y here. record { at_work = here.at_work; jobless = λ id. here.left id refl })

  -- accepted messages are run
  module _ (s : SessionId) (own : option_map (λ l. l.session) (live_of live i) ≡ Some s) where
    record IsRunning (ns : List Message) (x : State) : Type 0 where
      ready : IsReady spec valid last P H closed live ks i low s own x
      seen : AreSeen i s x.world
      listed : AreListed i ns x.world

    -- what a take leaves
    record IsTakenOf (m : Message) (ns : List Message) (x y : State) : Type 0 where
      none : (id : MsgId) → (m.id.0 == id.0) ≡ false → list_any (Jobs.is_job i id) y.world.jobs ≡ false
      later : IsLater (participant_of x.world i) (participant_of y.world i)
      from : IsFrom x.world.cluster y.world.cluster
      listed : AreListed i ns y.world

    module _ (m : Message) (ns : List Message) (x : State) (r : IsRunning (m ∷ ns) x) where
      many : i.0 < length x.world.participants
      many = low_there spec valid last P H closed live ks i low x r.ready.at_work.stands

      -- another slot's message has another number
      apart : (t : Message) → accepted_by (participant_of x.world i) m.id ≡ Some t → (q : PartId) (n : Message) → (slot_of (participant_of x.world i) q).work ≡ Accepted n → part_eq t.part q ≡ false
          → (m.id.0 == n.id.0) ≡ false
      apart t at q n is other = one (m.id.0 == n.id.0) refl
        where
          one : (b : Bool) → (m.id.0 == n.id.0) ≡ b → b ≡ false
          one false e = refl
          one true e =
              let s = r.ready.at_work.stands.in_step.parts in
              let work = accepted_slot x.world.cluster x.world.bag x.world.jobs i (participant_of x.world i) m.id t (s.each i) at in
              let a : IsAcceptedHere x.world.cluster x.world.bag (participant_of x.world i).session t.part (slot_of (participant_of x.world i) t.part) t
              = subst (λ (v : Work). HasWork x.world.cluster x.world.bag x.world.jobs i (participant_of x.world i).session t.part (slot_of (participant_of x.world i) t.part) v) work (placed_work x.world.cluster x.world.bag x.world.jobs i (participant_of x.world i) (s.each i) t.part) in
              let b : IsAcceptedHere x.world.cluster x.world.bag (participant_of x.world i).session q (slot_of (participant_of x.world i) q) n
              = subst (λ (v : Work). HasWork x.world.cluster x.world.bag x.world.jobs i (participant_of x.world i).session q (slot_of (participant_of x.world i) q) v) is (placed_work x.world.cluster x.world.bag x.world.jobs i (participant_of x.world i) (s.each i) q) in
              let number : t.id ≡ n.id = accepted_number (participant_of x.world i).slots m.id t at ∙ same_number m.id n.id e in
              let same = one_bagged x.world.bag t n s.numbers a.bagged b.bagged number in
              let part : t.part ≡ q = (same_is t n same).part ∙ b.of.part in
              let is_it : part_eq t.part q ≡ true = subst (λ (p : PartId). part_eq t.part p ≡ true) part (part_eq-self t.part) in
              sym is_it ∙ other

      listed_rest : (n : Message) → has_its (m ∷ ns) n.id ≡ true → (m.id.0 == n.id.0) ≡ false → has_its ns n.id ≡ true
      listed_rest n there other = sym (ap (λ (b : Bool). b || has_its ns n.id) other) ∙ there

      handed : (t : Message) (failed : Bool) (ps : List Participant) → ps ≡ slice_set x.world.participants i.0 (hand_out (participant_of x.world i) t failed) → of_instance ps i ≡ hand_out (participant_of x.world i) t failed
      handed t failed ps is = ap (λ (us : List Participant). of_instance us i) is ∙ here_put x.world.participants i (hand_out (participant_of x.world i) t failed) many

      new_job : (id : MsgId) (t : Message) (handler : Option ℕ) (z : State) → t.id ≡ m.id → (m.id.0 == id.0) ≡ false → Jobs.is_job i id (Jobs.job_run i t handler z) ≡ false
      new_job id t handler z same other = (λ k. (i.0 == i.0) && ((same k).0 == id.0)) ∙ ap (λ (b : Bool). (i.0 == i.0) && b) other ∙ never (i.0 == i.0)
        where
          never : (b : Bool) → (b && false) ≡ false
          never true = refl
          never false = refl

      none_more : (js : List Job) (id : MsgId) (j : Job) → list_any (Jobs.is_job i id) js ≡ false → Jobs.is_job i id j ≡ false → list_any (Jobs.is_job i id) (js ++ j ∷ []) ≡ false
      none_more js id j none other = any-append (Jobs.is_job i id) js (j ∷ []) ∙ (λ k. none k || (other k || false))

      after_take : (y : State) → Ends.Takes i m.id x.world y.world → IsTakenOf m ns x y
      after_take y (Ends.WasNotTaken t) = record {
        none = λ id other. subst (λ (w : World). list_any (Jobs.is_job i id) w.jobs ≡ false) (sym t.same) (r.ready.jobless id);
        later = subst (λ (w : World). IsLater (participant_of x.world i) (participant_of w i)) (sym t.same) (later_self (participant_of x.world i));
        from = subst (λ (w : World). IsFrom x.world.cluster w.cluster) (sym t.same) (from_self x.world.cluster);
        listed = subst (AreListed i ns) (sym t.same) (λ q n is. listed_rest n (r.listed q n is) (one n (accepted_none (participant_of x.world i).slots m.id t.none) (work_listed (participant_of x.world i).slots q n is) (m.id.0 == n.id.0) refl));
      }
        where
          one : (n : Message) → list_any (λ y. has_accepted m.id y.work) (participant_of x.world i).slots ≡ false → list_any (λ y. has_accepted n.id y.work) (participant_of x.world i).slots ≡ true
              → (b : Bool) → (m.id.0 == n.id.0) ≡ b → b ≡ false
          one n none some false e = refl
          one n none some true e =
              let there : list_any (λ y. has_accepted m.id y.work) (participant_of x.world i).slots ≡ true
              = subst (λ (v : MsgId). list_any (λ y. has_accepted v y.work) (participant_of x.world i).slots ≡ true) (sym (same_number m.id n.id e)) some in
              sym there ∙ none
      after_take y (Ends.WasTaken t) = record {
        none = λ id other.
            ap (list_any (Jobs.is_job i id)) t.jobs
            ∙ none_more x.world.jobs id (Jobs.job_run i t.message t.handler t.from) (r.ready.jobless id)
            (new_job id t.message t.handler t.from (accepted_number (participant_of x.world i).slots m.id t.message t.accepted) other);
        later = subst (IsLater (participant_of x.world i)) (sym (handed t.message t.failed y.world.participants t.participants)) (handed_later (participant_of x.world i) t.message t.failed);
        from = subst (IsFrom x.world.cluster) (sym t.cluster) (from_take x.world.cluster t.message.session t.message.id);
        listed = λ q n is.
            let now : (slot_of (hand_out (participant_of x.world i) t.message t.failed) q).work ≡ Accepted n = ap (λ (p : Participant). (slot_of p q).work) (sym (handed t.message t.failed y.world.participants t.participants)) ∙ is in
            let was = (handed_later (participant_of x.world i) t.message t.failed).accepted q n now in
            listed_rest n (r.listed q n was) (apart t.message t.accepted q n was (handed_gone (participant_of x.world i) t.message t.failed q n now));
      }
      after_take y (Ends.WasPutBack t) = record {
        none = λ id other. ap (list_any (Jobs.is_job i id)) t.jobs ∙ r.ready.jobless id;
        later = later_both (participant_of x.world i) (participant_of t.between i) (participant_of y.world i) out back;
        from = subst (IsFrom x.world.cluster) (sym t.cluster) (from_self x.world.cluster);
        listed = λ q n is.
            let now : (slot_of (hand_out (participant_of x.world i) t.message t.failed) q).work ≡ Accepted n
            = ap (λ (p : Participant). (slot_of p q).work) (sym (handed t.message t.failed t.between.participants t.out)) ∙ back.accepted q n is in
            let was = (handed_later (participant_of x.world i) t.message t.failed).accepted q n now in
            listed_rest n (r.listed q n was) (apart t.message t.accepted q n was (handed_gone (participant_of x.world i) t.message t.failed q n now));
      }
        where
          out : IsLater (participant_of x.world i) (participant_of t.between i)
          out = subst (IsLater (participant_of x.world i)) (sym (handed t.message t.failed t.between.participants t.out)) (handed_later (participant_of x.world i) t.message t.failed)

          wide : i.0 < length t.between.participants
          wide =
              let same : length t.between.participants ≡ length x.world.participants = ap (λ (us : List Participant). length us) t.out ∙ length-put x.world.participants i.0 (hand_out (participant_of x.world i) t.message t.failed) in
              let low = many in omega (arith, low, same)

          back : IsLater (participant_of t.between i) (participant_of y.world i)
          back =
              subst (IsLater (participant_of t.between i))
              (sym (ap (λ (us : List Participant). of_instance us i) t.participants ∙ here_put t.between.participants i (finish (participant_of t.between i) t.message None t.handler) wide))
              (finished_later (participant_of t.between i) t.message None t.handler)

      -- and carrying its job
      run : IfGoesOn (λ _ y. IsRunning ns y) (Jobs.run_message i m x)
      run =
          goes_then (λ y. IsAtWork spec valid last P H closed live ks y × Ends.Takes i m.id x.world y.world) (λ _ y. IsRunning ns y) (Jobs.do_take Quiet i m.id x) (λ y. Jobs.carry i m.id y)
          (taken spec valid last P H closed live ks i m.id x r.ready.at_work)
          (λ y here.
          let t = after_take y here.1 in
          goes_so (λ _ z. IsGone spec valid last P H closed live ks i m.id y.world z) (λ _ z. IsRunning ns z) (Jobs.carry i m.id y)
          (carry_ends spec valid last P H closed live ks i low m.id y here.0)
          (λ _ z g. record {
            ready = record {
              at_work = g.at_work;
              jobless = λ id. jobless y z t g id (m.id.0 == id.0) refl;
              mine = g.carried.later.session ∙ t.later.session ∙ r.ready.mine;
            };
            seen = λ q n at.
                let before = from_both x.world.cluster y.world.cluster z.world.cluster t.from g.carried.from s q n at in
                let up = later_both (participant_of x.world i) (participant_of y.world i) (participant_of z.world i) t.later g.carried.later in
                subst (λ (v : MsgId). nat_le v.0 (slot_of (participant_of z.world i) q).last.0 ≡ true) before.2
                (le_both before.0.id.0 (slot_of (participant_of x.world i) q).last.0 (slot_of (participant_of z.world i) q).last.0 (r.seen q before.0 before.1) (up.last q));
            listed = λ q n is. t.listed q n (g.carried.later.accepted q n is);
          }))
        where
          jobless : (y z : State) → IsTakenOf m ns x y → IsGone spec valid last P H closed live ks i m.id y.world z → (id : MsgId) → (b : Bool) → (m.id.0 == id.0) ≡ b → list_any (Jobs.is_job i id) z.world.jobs ≡ false
          jobless y z t g id true e = subst (λ (n : MsgId). list_any (Jobs.is_job i n) z.world.jobs ≡ false) (same_number m.id id e) g.none
          jobless y z t g id false e = g.carried.none_more id (t.none id e)

    record IsRun (x : State) : Type 0 where
      at_work : IsAtWork spec valid last P H closed live ks x
      empty : (q : PartId) → message_of x.world.cluster.mail s q ≡ None

    all_run : (x : State) → IsDelivered spec valid last P H closed live ks i low s own x → IfGoesOn (λ _ y. IsRun y) (Jobs.run_accepted i x)
    all_run x d =
        goes_so (λ _ y. IsRunning [] y) (λ _ y. IsRun y) (Jobs.run_accepted i x)
        (goes_each IsRunning (Jobs.run_message i) run (accepted_all (participant_of x.world i)) x (record {
          ready = d.ready;
          seen = d.seen;
          listed = λ q n is.
              any-sort (λ (y : Message). y.id.0 == n.id.0) number_before (filter_map (λ y. accepted_of y.work) (participant_of x.world i).slots)
              ∙ all_listed (participant_of x.world i).slots n.id (work_listed (participant_of x.world i).slots q n is);
        }))
        (λ _ y here. record { at_work = here.ready.at_work; empty = emptied spec valid last P H closed live ks i low s own y here.ready here.seen here.listed })

    work_done : Ranges.has_instance spec i ≡ true → (x : State) → IsAtWork spec valid last P H closed live ks x → IfGoesOn (λ _ y. IsRun y) (Jobs.do_work i x)
    work_done there x a =
        goes_then IsWithoutJobs (λ _ y. IsRun y) (Jobs.carry_jobs i x) (λ y. and_then (Jobs.fetch_and_deliver i (fetched y.world.cluster i) y) (λ z. Jobs.run_accepted i z)) (all_carried x a)
        (λ y here.
        goes_then (λ z. IsDelivered spec valid last P H closed live ks i low s own z) (λ _ z. IsRun z) (Jobs.fetch_and_deliver i (fetched y.world.cluster i) y) (λ z. Jobs.run_accepted i z)
        (fetched_and_delivered spec valid last P H closed live ks i low s own there y here.at_work here.jobless)
        (λ z now. all_run z now))

    -- after work on a live instance
    pub worked : Ranges.has_instance spec i ≡ true → (x : State) → IsAtWork spec valid last P H closed live ks x
        → IfGoesOn (λ _ y. IsAtWork spec valid last P H closed live ks y × IsEmptyOf y.world.cluster i) (Jobs.do_work i x)
    worked there x a =
        goes_so (λ _ y. IsRun y) (λ _ y. IsAtWork spec valid last P H closed live ks y × IsEmptyOf y.world.cluster i) (Jobs.do_work i x) (work_done there x a)
        (λ _ y here. (
          here.at_work,
          λ u is q.
              let mine = session_now spec valid last P H closed live ks i low s own y here.at_work in
              subst (λ (v : SessionId). message_of y.world.cluster.mail v q ≡ None) (session_is s u (sym mine ∙ is)) (here.empty q),
        ))
      where
        session_is : (a b : SessionId) → Some a ≡ Some b → a ≡ b
        session_is a b e = cc
