-- Messages are taken and carried to their ends, and what holds of the world stays.
use Rattle.std.proofs.Common.{◌≡◌, ℕ, ◌<◌, ◌||◌, ◌==◌, not, Bool, true, false, List, [], ◌∷◌, length, map, filter, find, Option, Some, None, refl, sym, ap, ◌∙◌, subst, arith}
use Rattle.std.specs.Prelude.{if◌then◌else◌, is_none, slice_set}
use Rattle.std.specs.List.{list_any}
use Rattle.std.specs.Option.{option_map}
use Rattle.std.proofs.lemmas.Bool.{cond_both}
use Rattle.std.proofs.lemmas.Bool.Decides.{nat_tests}
use Rattle.hx_ids.specs.declared.InstanceId.{InstanceId}
use Rattle.hx_ids.specs.declared.SessionId.{SessionId}
use Rattle.hx_ids.specs.declared.MsgId.{MsgId}
use Rattle.hx_ids.specs.declared.PartId.{PartId}
use Rattle.hx_ids.specs.declared.Live.{Live}
use Rattle.hx_cluster.specs.declared.state.Message.{Message}
use Rattle.hx_cluster.specs.declared.state.Cluster.{Cluster}
use Rattle.hx_cluster.specs.declared.happenings.Outcome.{Outcome}
use Rattle.hx_cluster.specs.declared.happenings.WriteRefusal.TheVariants as refusals
use Rattle.hx_cluster.specs.Marks.{write_fault}
use Rattle.hx_cluster.specs.Ends.{is_message, is_live, message_of}
use Rattle.hx_cluster.specs.Messages.{is_same, has_id, pending_of, as_taken, as_written, written_of, after_take, after_write, after_ack}
use Rattle.hx_cluster.specs.Events.{can_write, can_ack}
use Rattle.hx_cluster.specs.Safe.{IsSafe}
use Rattle.hx_cluster.specs.Ranged.{IsRanged}
use Rattle.hx_replicas.specs.Participants.{Participant, finish}
use Rattle.hx_control.specs.Controllers.{Controller}
use Rattle.hx_worlds.specs.World.{World, State, Job, participant_of}
use Rattle.hx_worlds.specs.Jobs as Jobs
use Rattle.hx_safe.proofs.Counting.{and-first, and-second, and-both, find-passes, find-none, none-find}
use Rattle.hx_safe.proofs.Ends.{same-self, find-filter}
use Rattle.hx_safe.proofs.Kept.{IsKept}
use Rattle.hx_agreed.specs.InStep.{Each, of_instance, IsHeldJob}
use Rattle.hx_agreed.proofs.Frames.{same_is}
use Rattle.hx_agreed.proofs.Changes.{instance_same}
use Rattle.hx_agreed.proofs.Replicas.{here_put}
use Rattle.hx_agreed.proofs.Marks.{marked, taken_message, written_message, pending_found}
use Rattle.hx_bounded.proofs.Ends
use Rattle.hx_bounded.proofs.Later.{IsLater, later_self, later_both, finished_later, IsFrom}

-- what is pending after an event of work was pending before
taken_number : (s : SessionId) (id : MsgId) (m : Message) → (as_taken s id m).id ≡ m.id
taken_number s id m = cond_both (has_id s id m) (record m { taken = true }) m (λ (x : Message). x.id ≡ m.id) (λ e. refl) (λ e. refl)

written_number : (s : SessionId) (id : MsgId) (m : Message) → (as_written s id m).id ≡ m.id
written_number s id m = cond_both (has_id s id m) (record m { written = true }) m (λ (x : Message). x.id ≡ m.id) (λ e. refl) (λ e. refl)

from_map : (f : Message → Message) (o : Option Message) (m : Message) → ((n : Message) → (f n).id ≡ n.id) → option_map f o ≡ Some m → (n : Message) × (o ≡ Some n) × (n.id ≡ m.id)
from_map f None m number e = cc
from_map f (Some n) m number e = (n, refl, sym (number n) ∙ ap (λ (x : Message). x.id) (one (f n) m e))
  where
    one : (a b : Message) → Some a ≡ Some b → a ≡ b
    one a b e = cc

pub from_take : (c : Cluster) (s : SessionId) (id : MsgId) → IsFrom c (after_take c s id)
from_take c s id u p m is = from_map (as_taken s id) (message_of c.mail u p) m (taken_number s id) (sym (marked (as_taken s id) u p (taken_message s id u p) c.mail) ∙ is)

pub from_write : (c : Cluster) (s : SessionId) (id : MsgId) (o : Outcome) → IsFrom c (after_write c s id o)
from_write c s id o = one (pending_of c s id)
  where
    one : (p : Option Message) → IsFrom c (written_of c s id o p)
    one None u p m is = (m, is, refl)
    one (Some n) u p m is = from_map (as_written s id) (message_of c.mail u p) m (written_number s id) (sym (marked (as_written s id) u p (written_message s id u p) c.mail) ∙ is)

pub from_ack : (c : Cluster) (k : IsKept c) (s : SessionId) (id : MsgId) → IsFrom c (after_ack c s id)
from_ack c k s id u p m is = (m, find-filter (is_message u p) (λ x. not (has_id s id x)) c.mail m (k.mail.single u p) is, refl)

pub from_self : (c : Cluster) → IsFrom c c
from_self c u p m is = (m, is, refl)

pub from_both : (b c d : Cluster) → IsFrom b c → IsFrom c d → IsFrom b d
from_both b c d f g u p m is =
    let x = g u p m is in
    let y = f u p x.0 x.1 in
    (y.0, y.1, y.2 ∙ x.2)

-- so what isn't pending stays so
pub from_none : (c d : Cluster) → IsFrom c d → (s : SessionId) (q : PartId) → message_of c.mail s q ≡ None → message_of d.mail s q ≡ None
from_none c d from s q none = one (message_of d.mail s q) refl
  where
    one : (o : Option Message) → message_of d.mail s q ≡ o → o ≡ None
    one None is = refl
    one (Some m) is = let f = from s q m is in absurd (let no : None ≡ Some f.0 = sym none ∙ f.1 in cc)

from_same : (c d : Cluster) → d ≡ c → IsFrom c d
from_same c d same = subst (IsFrom c) (sym same) (from_self c)

pub live_written : (c : Cluster) (s : SessionId) (id : MsgId) (o : Outcome) → (after_write c s id o).live ≡ c.live
live_written c s id o = one (pending_of c s id)
  where
    one : (p : Option Message) → (written_of c s id o p).live ≡ c.live
    one None = refl
    one (Some m) = refl

-- a write that nothing refuses is of a live session
pub can_live : (c : Cluster) (s : SessionId) (id : MsgId) → can_write c s id ≡ true → is_live c.live s ≡ true
can_live c s id can = one (is_live c.live s) can
  where
    one : (b : Bool) → is_none (if b then write_fault (pending_of c s id) else Some refusals.SessionEnded) ≡ true → b ≡ true
    one true f = refl
    one false f = cc

-- what the events of work keep of a cluster, where jobs are of a kind
pub record IsClosed (P : Cluster → Type 0) (H : Job → Type 0) : Type 0 where
  pub take : (c : Cluster) (s : SessionId) (id : MsgId) → P c → P (after_take c s id)
  pub write : (c : Cluster) (j : Job) → IsSafe c → IsRanged c → IsKept c → can_write c j.message.session j.message.id ≡ true → H j
      → ((m : Message) → pending_of c j.message.session j.message.id ≡ Some m → m.from ≡ j.message.from) → P c → P (after_write c j.message.session j.message.id j.outcome)
  pub ack : (c : Cluster) (s : SessionId) (id : MsgId) → IsKept c → can_ack c s id ≡ true → P c → P (after_ack c s id)
  pub ran : (i : InstanceId) (m : Message) (handler : Option ℕ) (x : State) → H (Jobs.job_run i m handler x)
  pub marked : (j : Job) → H j → H (record j { is_written = true })

-- what holds of a world as work is done: of its cluster, and of its open jobs of live sessions; sessions and controllers are as they were
abbrev pub OfLive : List Live → (Job → Type 0) → Job → Type 0
OfLive live H j = is_live live j.message.session ≡ true → H j

pub record IsWorking (P : Cluster → Type 0) (H : Job → Type 0) (live : List Live) (ks : List Controller) (w : World) : Type 0 where
  pub holds : P w.cluster
  pub sessions : w.cluster.live ≡ live
  pub jobs : Each (OfLive live H) w.jobs
  pub controllers : w.controllers ≡ ks

-- two messages that are the same but for their marks lead from one state
same_from : (a b : Message) → is_same a b ≡ true → a.from ≡ b.from
same_from a b e = let same : a.from.0 ≡ b.from.0 = grind (arith, nat_tests, e) in ap (λ (n : ℕ). record { 0 = n }) same

-- a job that is written is live
pub write_live : (c : Cluster) (j : Job) (ws : List Participant) (jobs : List Job) → IsKept c → IsHeldJob c ws jobs j → is_live c.live j.message.session ≡ true
    → (m : Message) → pending_of c j.message.session j.message.id ≡ Some m → m.from ≡ j.message.from
write_live c j ws jobs k h live m at =
    let t = h.taken live in
    let found = pending_found c k j.message.session j.message.id j.message.part t.now t.found (sym (same_is j.message t.now t.taken.same).id) in
    let same : t.now ≡ m = some_is t.now m (sym found ∙ at) in
    ap (λ (x : Message). x.from) (sym same) ∙ sym (same_from j.message t.now t.taken.same)
  where
    some_is : (a b : Message) → Some a ≡ Some b → a ≡ b
    some_is a b e = cc

-- what a job's being carried leaves
pub record IsCarried (i : InstanceId) (w v : World) : Type 0 where
  pub none_more : (id : MsgId) → list_any (Jobs.is_job i id) w.jobs ≡ false → list_any (Jobs.is_job i id) v.jobs ≡ false
  pub later : IsLater (participant_of w i) (participant_of v i)
  pub from : IsFrom w.cluster v.cluster

carried_same : (i : InstanceId) (w v : World) → v ≡ w → IsCarried i w v
carried_same i w v same = subst (IsCarried i w) (sym same) (record { none_more = λ id e. e; later = later_self (participant_of w i); from = from_self w.cluster })

pub carried_both : (i : InstanceId) (u w v : World) → IsCarried i u w → IsCarried i w v → IsCarried i u v
carried_both i u w v a b = record {
  none_more = λ id e. b.none_more id (a.none_more id e);
  later = later_both (participant_of u i) (participant_of w i) (participant_of v i) a.later b.later;
  from = from_both u.cluster w.cluster v.cluster a.from b.from;
}

-- jobs that are taken away or marked
none_filtered : (p k : Job → Bool) (js : List Job) → list_any p js ≡ false → list_any p (filter k js) ≡ false
none_filtered p k [] e = refl
none_filtered p k (j ∷ js) e = grind (arith, e, none_filtered p k js)

gone_filtered : (p : Job → Bool) (js : List Job) → list_any p (filter (λ j. not (p j)) js) ≡ false
gone_filtered p [] = refl
gone_filtered p (j ∷ js) = grind (arith, gone_filtered p js)

marked_job : (i : InstanceId) (id : MsgId) (k : InstanceId) (n : MsgId) (j : Job) → Jobs.is_job i id (Jobs.as_written_job k n j) ≡ Jobs.is_job i id j
marked_job i id k n j = cond_both (Jobs.is_job k n j) (record j { is_written = true }) j (λ (x : Job). Jobs.is_job i id x ≡ Jobs.is_job i id j) (λ e. refl) (λ e. refl)

any_marked : (i : InstanceId) (id : MsgId) (k : InstanceId) (n : MsgId) (js : List Job) → list_any (Jobs.is_job i id) (map (Jobs.as_written_job k n) js) ≡ list_any (Jobs.is_job i id) js
any_marked i id k n [] = refl
any_marked i id k n (j ∷ js) = (λ x. marked_job i id k n j x || any_marked i id k n js x)

find_marked : (i : InstanceId) (id : MsgId) (k : InstanceId) (n : MsgId) (js : List Job)
    → find (Jobs.is_job i id) (map (Jobs.as_written_job k n) js) ≡ option_map (Jobs.as_written_job k n) (find (Jobs.is_job i id) js)
find_marked i id k n [] = refl
find_marked i id k n (j ∷ js) = one (Jobs.is_job i id j) refl (find_marked i id k n js)
  where
    one : (b : Bool) → Jobs.is_job i id j ≡ b → find (Jobs.is_job i id) (map (Jobs.as_written_job k n) js) ≡ option_map (Jobs.as_written_job k n) (find (Jobs.is_job i id) js)
        → find (Jobs.is_job i id) (map (Jobs.as_written_job k n) (j ∷ js)) ≡ option_map (Jobs.as_written_job k n) (find (Jobs.is_job i id) (j ∷ js))
    one true e rest = rw (marked_job i id k n j, e) refl
    one false e rest = rw (marked_job i id k n j, e) rest

-- a job that is found is that of its instance and number
module _ (i : InstanceId) (id : MsgId) (js : List Job) (j : Job) (found : find (Jobs.is_job i id) js ≡ Some j) where
  job_instance : j.instance ≡ i
  job_instance = instance_same j.instance i (and-first (j.instance.0 == i.0) (j.message.id.0 == id.0) (find-passes (Jobs.is_job i id) js j found))

  job_number : j.message.id ≡ id
  job_number =
      let is = and-second (j.instance.0 == i.0) (j.message.id.0 == id.0) (find-passes (Jobs.is_job i id) js j found) in
      let same : j.message.id.0 ≡ id.0 = grind (arith, nat_tests, is) in ap (λ (n : ℕ). record { 0 = n }) same

-- a job that ends
module _ (i : InstanceId) (id : MsgId) (w v : World) (j : Job) (low : i.0 < length w.participants) (found : find (Jobs.is_job i id) w.jobs ≡ Some j) (e : Ends.IsEnded w v j) where
  ended_none : (n : MsgId) → list_any (Jobs.is_job i n) w.jobs ≡ false → list_any (Jobs.is_job i n) v.jobs ≡ false
  ended_none n none =
      ap (list_any (Jobs.is_job i n)) e.jobs ∙ none_filtered (Jobs.is_job i n) (λ x. not (Jobs.is_job j.instance j.message.id x)) w.jobs none

  ended_here : list_any (Jobs.is_job i id) v.jobs ≡ false
  ended_here =
      ap (list_any (Jobs.is_job i id)) e.jobs
      ∙ (λ x. list_any (Jobs.is_job i id) (filter (λ y. not (Jobs.is_job (job_instance i id w.jobs j found x) (job_number i id w.jobs j found x) y)) w.jobs))
      ∙ gone_filtered (Jobs.is_job i id) w.jobs

  ended_later : IsLater (participant_of w i) (participant_of v i)
  ended_later =
      let put : v.participants ≡ slice_set w.participants i.0 (finish (participant_of w i) j.message (Some j.outcome) j.handler)
      = e.participants ∙ (λ x. slice_set w.participants (job_instance i id w.jobs j found x).0 (finish (participant_of w (job_instance i id w.jobs j found x)) j.message (Some j.outcome) j.handler)) in
      subst (IsLater (participant_of w i))
      (sym (ap (λ (ps : List Participant). of_instance ps i) put ∙ here_put w.participants i (finish (participant_of w i) j.message (Some j.outcome) j.handler) low))
      (finished_later (participant_of w i) j.message (Some j.outcome) j.handler)

-- after a write the job is written, or there is none
abbrev pub WrittenIs : InstanceId → MsgId → World → Type 0
WrittenIs i id w = (j : Job) → find (Jobs.is_job i id) w.jobs ≡ Some j → j.is_written ≡ true

module _ (i : InstanceId) (id : MsgId) (w v : World) (low : i.0 < length w.participants) where
  never : (o : Option Job) (j : Job) → o ≡ None → o ≡ Some j → ⊥
  never o j e f = cc

  pub write_carries : Ends.Writes i id w v → IsCarried i w v × WrittenIs i id v
  write_carries (Ends.HasNone t) = (carried_same i w v t.same, subst (WrittenIs i id) (sym t.same) (λ j e. absurd (never (find (Jobs.is_job i id) w.jobs) j t.none e)))
  write_carries (Ends.WasMarked t) = (
    carried_same i w v t.same,
    subst (WrittenIs i id) (sym t.same) (λ j e. let same : t.job ≡ j = job_is t.job j (sym t.found ∙ e) in ap (λ (x : Job). x.is_written) (sym same) ∙ t.marked),
  )
    where
      job_is : (a b : Job) → Some a ≡ Some b → a ≡ b
      job_is a b e = cc
  write_carries (Ends.WasMade t) = (
    record {
      none_more = λ n none. ap (list_any (Jobs.is_job i n)) t.jobs ∙ any_marked i n t.job.instance t.job.message.id w.jobs ∙ none;
      later = subst (IsLater (participant_of w i)) (ap (λ (ps : List Participant). of_instance ps i) (sym t.participants)) (later_self (participant_of w i));
      from = subst (IsFrom w.cluster) (sym t.cluster) (from_write w.cluster t.job.message.session t.job.message.id t.job.outcome);
    },
    λ j e.
        let at : option_map (Jobs.as_written_job t.job.instance t.job.message.id) (Some t.job) ≡ Some j
        = ap (option_map (Jobs.as_written_job t.job.instance t.job.message.id)) (sym t.found) ∙ sym (find_marked i id t.job.instance t.job.message.id w.jobs)
        ∙ ap (find (Jobs.is_job i id)) (sym t.jobs) ∙ e in
        let same = job_is (Jobs.as_written_job t.job.instance t.job.message.id t.job) j at in
        ap (λ (x : Job). x.is_written) (sym same) ∙ marked_now t.job,
  )
    where
      job_is : (a b : Job) → Some a ≡ Some b → a ≡ b
      job_is a b e = cc

      marked_now : (j : Job) → (Jobs.as_written_job j.instance j.message.id j).is_written ≡ true
      marked_now j = one (Jobs.is_job j.instance j.message.id j) (and-both (j.instance.0 == j.instance.0) (j.message.id.0 == j.message.id.0) (same-self j.instance.0) (same-self j.message.id.0))
        where
          one : (b : Bool) → b ≡ true → (if b then record j { is_written = true } else j).is_written ≡ true
          one true e = refl
          one false e = cc
  write_carries (Ends.WasCutOff t) = (
    record { none_more = ended_none i id w v t.job low t.found t.ended; later = ended_later i id w v t.job low t.found t.ended; from = from_same w.cluster v.cluster t.cluster },
    λ j e. absurd (never (find (Jobs.is_job i id) v.jobs) j (find-none (Jobs.is_job i id) v.jobs (ended_here i id w v t.job low t.found t.ended)) e),
  )

  pub ack_carries : IsKept w.cluster → WrittenIs i id w → Ends.Acks i id w v → IsCarried i w v × (list_any (Jobs.is_job i id) v.jobs ≡ false)
  ack_carries k written (Ends.HasNone t) = (carried_same i w v t.same, subst (λ (u : World). list_any (Jobs.is_job i id) u.jobs ≡ false) (sym t.same) (none-find (Jobs.is_job i id) w.jobs t.none))
  ack_carries k written (Ends.WasMarked t) = absurd (let no : true ≡ false = sym (written t.job t.found) ∙ t.marked in cc)
  ack_carries k written (Ends.WasMade t) = (
    record {
      none_more = ended_none i id w v t.job low t.found t.ended;
      later = ended_later i id w v t.job low t.found t.ended;
      from = subst (IsFrom w.cluster) (sym t.cluster) (from_ack w.cluster k t.job.message.session t.job.message.id);
    },
    ended_here i id w v t.job low t.found t.ended,
  )
  ack_carries k written (Ends.WasCutOff t) = (
    record { none_more = ended_none i id w v t.job low t.found t.ended; later = ended_later i id w v t.job low t.found t.ended; from = from_same w.cluster v.cluster t.cluster },
    ended_here i id w v t.job low t.found t.ended,
  )
