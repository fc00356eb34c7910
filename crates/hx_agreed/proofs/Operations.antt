-- What each operation on a world keeps, and what the calls of an operation need of a world that stands.
use Rattle.std.proofs.Common.{◌≡◌, ℕ, zero, suc, ◌+◌, ◌≤◌, ◌<◌, ◌||◌, ◌==◌, not, Bool, true, false, List, [], ◌∷◌, ◌++◌, filter, find, length, Option, Some, refl, sym, ap, ◌∙◌, subst, arith}
use Rattle.std.specs.Prelude.{is_some, nat_lt, slice_get, slice_set}
use Rattle.std.specs.List.{list_any, list_all}
use Rattle.std.proofs.lemmas.Bool.Decides.{nat_tests}
use Rattle.hx_lists.specs.Lists.{count}
use Rattle.hx_ids.specs.declared.InstanceId.{InstanceId}
use Rattle.hx_ids.specs.declared.ControllerId.{ControllerId}
use Rattle.hx_ids.specs.declared.MsgId.{MsgId}
use Rattle.hx_ids.specs.declared.PartId.{PartId}
use Rattle.hx_cluster.specs.declared.description.Spec.{Spec}
use Rattle.hx_cluster.specs.declared.state.Message.{Message}
use Rattle.hx_cluster.specs.declared.happenings.Admin.{Admin}
use Rattle.hx_cluster.specs.declared.happenings.Event.TheVariants as events
use Rattle.hx_cluster.specs.declared.happenings.Outcome.{Outcome}
use Rattle.hx_cluster.specs.Ends.{part_eq, model_of}
use Rattle.hx_cluster.specs.Steps.{has_instance, has_controller, is_in_range, refusal_of}
use Rattle.hx_cluster.specs.Reads.{fetched}
use Rattle.hx_cluster.specs.Events.{is_later}
use Rattle.hx_cluster.specs.Messages.{is_same}
use Rattle.hx_cluster.specs.Weight.{weight_of}
use Rattle.hx_cluster.specs.Valid.{IsValid}
use Rattle.hx_print.specs.declared.Note.{Note}
use Rattle.hx_replicas.specs.declared.slots.Work.{Work}
use Rattle.hx_replicas.specs.declared.slots.Work.TheVariants.{Idle, Accepted, Out}
use Rattle.hx_replicas.specs.Participants.{Participant, Slot, Fits, slot_of, is_out, any_out, brought, end_of, finish, is_session}
use Rattle.hx_replicas.proofs.Parts.{part_same, part_eq-self}
use Rattle.hx_replicas.proofs.Putting.{part-slot_in, slot_in-put}
use Rattle.hx_script.specs.Ranges as Ranges
use Rattle.hx_control.specs.OfBoard.{IsPlanOf}
use Rattle.hx_worlds.specs.World.{State, Job, participant_of, controller_of}
use Rattle.hx_worlds.specs.declared.Voice.{Voice}
use Rattle.hx_worlds.specs.Runs.{happened, happen, say, note, say_if_loud}
use Rattle.hx_worlds.specs.Jobs
use Rattle.hx_worlds.specs.Turns
use Rattle.hx_worlds.specs.Scripts
use Rattle.hx_safe.proofs.Counting.{and-first, and-second, and-both, any-filter_kept, none-from-all, count-append, find-any}
use Rattle.hx_safe.proofs.Ends.{same-self}
use Rattle.hx_safe.proofs.Ideals.{length-put}
use Rattle.hx_safe.proofs.Whole.{length-replicate}
use Rattle.hx_safe.proofs.Calming.{same_self}
use Rattle.hx_safe.proofs.Waiting.{any-le}
use Rattle.hx_scripted.specs.OfHistory.{IsOfItsHistory}
use Rattle.hx_scripted.proofs.Standing.{Last, at_line, since, ranged_there, fixed_there, scripted_since}
use Rattle.hx_scripted.proofs.Keeping.{Keeps, happens}
use Rattle.hx_agreed.specs.InStep.{Each, of_instance, is_lent_as, HasWork, IsHeldJob, IsInBag, IsInStep}
use Rattle.hx_agreed.proofs.Lists.{each-le, each-filter}
use Rattle.hx_agreed.proofs.Slots.{all_slots, slot_in-other}
use Rattle.hx_agreed.proofs.Lent.{lent_is}
use Rattle.hx_agreed.proofs.Placed.{placed_work, placed_named}
use Rattle.hx_agreed.proofs.Frames.{same_is}
use Rattle.hx_agreed.proofs.Changes.{instance_same}
use Rattle.hx_agreed.proofs.Replicas.{here_put, others_put}
use Rattle.hx_agreed.proofs.Fetching.{any-sort, of_instance_all, distinct_left}
use Rattle.hx_agreed.proofs.Going.{each-find}
use Rattle.hx_agreed.proofs.Fitting.{sound_message, like_all, part_model}
use Rattle.hx_scripted.proofs.Walking as Walking
use Rattle.hx_scripted.proofs.Walking.{keeps_note, keeps_loud}
use Rattle.hx_agreed.proofs.DoingTurns.{Stands, idle_there, keeps_line, keeps_step}
use Rattle.hx_agreed.proofs.Doing.{keeps_taken, keeps_write, keeps_ack}
use Rattle.hx_agreed.proofs.DoingLines.{HasStood, line_happens, in_range_now, kept_now, fetch_happens, fetch_done, from_bag, keep}

-- a world of its history that is in step stands, at its last line
pub stands_there : (spec : Spec) (x : State) → IsOfItsHistory spec x.world → IsInStep x.world → Stands spec (since x.world.cluster.line) x
stands_there spec x of in_step = record { scripted = scripted_since spec x.world of; in_step = in_step }

-- a job whose message is out, with its handler
abbrev pub IsOutOf : List Participant → Job → Type 0
IsOutOf ws j = (slot_of (of_instance ws j.instance) j.message.part).work ≡ Out j.message (is_some j.handler)

pub each_get : {X : Type 0} (P : X → Type 0) (xs : List X) (n : ℕ) (x : X) → Each P xs → slice_get xs n ≡ Some x → P x
each_get P [] n x e is = cc
each_get P (y ∷ xs) zero x e is = let same : y ≡ x = grind (arith, is) in subst P same e.0
each_get P (y ∷ xs) (suc n) x e is = each_get P xs n x e.1 is

pub each_mid : {X : Type 0} (P : X → Type 0) (before after : List X) (x : X) → Each P (before ++ x ∷ after) → P x
each_mid P [] after x e = e.0
each_mid P (y ∷ before) after x e = each_mid P before after x e.1

-- the only one that passes a test is taken out
none_out : {X : Type 0} (p : X → Bool) (xs : List X) → count p xs ≡ 0 → filter (λ x. not (p x)) xs ≡ xs
none_out p [] e = refl
none_out {X} p (x ∷ xs) e = one (p x) refl (none_out p xs)
  where
    one : (b : Bool) → p x ≡ b → (count p xs ≡ 0 → filter (λ y. not (p y)) xs ≡ xs) → filter (λ y. not (p y)) (x ∷ xs) ≡ x ∷ xs
    one true is more = absurd (let z : true ≡ false = grind (arith, is, e) in (cc))
    one false is more = rw is (ap (λ (ys : List X). x ∷ ys) (more (grind (arith, is, e))))

pub one_out : {X : Type 0} (p : X → Bool) (before after : List X) (x : X) → p x ≡ true → count p (before ++ x ∷ after) ≡ 1 → filter (λ y. not (p y)) (before ++ x ∷ after) ≡ before ++ after
one_out p [] after x here only = rw here (none_out p after (grind (arith, here, only)))
one_out {X} p (y ∷ before) after x here only = one (p y) refl (one_out p before after x here)
  where
    one : (b : Bool) → p y ≡ b → (count p (before ++ x ∷ after) ≡ 1 → filter (λ z. not (p z)) (before ++ x ∷ after) ≡ before ++ after)
        → filter (λ z. not (p z)) ((y ∷ before) ++ x ∷ after) ≡ (y ∷ before) ++ after
    one true is more =
        let many = count-append p before (x ∷ after) in
        absurd (let z : true ≡ false = grind (arith, is, here, only, many) in (cc))
    one false is more = rw is (ap (λ (ys : List X). y ∷ ys) (more (grind (arith, is, only))))

-- a slot that is out once a job ended is another one, and was out before
pub record WasOut (w : Participant) (p q : PartId) : Type 0 where
  pub other : part_eq p q ≡ false
  pub out : is_out (slot_of w q).work ≡ true

pub was_out : (w : Participant) (m : Message) (o : Option Outcome) (h : Option ℕ) (q : PartId) → is_out (slot_of (finish w m o h) q).work ≡ true → WasOut w m.part q
was_out w m o h q out = one (part_eq m.part q) refl
  where
    y : Slot
    y = brought (slot_of w m.part) (end_of m o) h

    part : (slot_of w m.part).part ≡ m.part
    part = part-slot_in w.slots m.part

    one : (b : Bool) → part_eq m.part q ≡ b → WasOut w m.part q
    one true e =
        let here : slot_of (finish w m o h) q ≡ y = slot_in-put w.slots y q (part ∙ part_same m.part q e) in
        absurd (let z : true ≡ false = sym out ∙ ap (λ (x : Slot). is_out x.work) here in (cc))
    one false e =
        let there : slot_of (finish w m o h) q ≡ slot_of w q = slot_in-other w.slots y q (subst (λ (r : PartId). part_eq r q ≡ false) (sym part) e) in
        record { other = e; out = sym (ap (λ (x : Slot). is_out x.work) there) ∙ out }

pub finished_here : (x : State) (j : Job) (i : InstanceId) → (j.instance.0 == i.0) ≡ true → i.0 < length x.world.participants
    → participant_of (Jobs.end_job j x).world i ≡ finish (participant_of x.world i) j.message (Some j.outcome) j.handler
finished_here x j i e lt =
    subst (λ (n : InstanceId). of_instance (slice_set x.world.participants n.0 (finish (of_instance x.world.participants n) j.message (Some j.outcome) j.handler)) i ≡ finish (of_instance x.world.participants i) j.message (Some j.outcome) j.handler)
    (sym (instance_same j.instance i e)) (here_put x.world.participants i (finish (of_instance x.world.participants i) j.message (Some j.outcome) j.handler) lt)

-- each part that is out has one of the jobs that end, so then none is out
none_left : (i : InstanceId) (js : List Job) (x : State) → i.0 < length x.world.participants → list_all (Jobs.is_job_of i) js ≡ true
    → ((q : PartId) → is_out (slot_of (participant_of x.world i) q).work ≡ true → list_any (λ j. part_eq j.message.part q) js ≡ true)
    → (q : PartId) → is_out (slot_of (participant_of (Jobs.end_jobs js x).world i) q).work ≡ false
none_left i [] x lt all covered q = one (is_out (slot_of (participant_of x.world i) q).work) refl
  where
    one : (b : Bool) → is_out (slot_of (participant_of x.world i) q).work ≡ b → b ≡ false
    one false e = refl
    one true e = let no : false ≡ true = covered q e in sym no
none_left i (j ∷ js) x lt all covered q =
    none_left i js (Jobs.end_job j x) (let many = length-put x.world.participants j.instance.0 (finish (participant_of x.world j.instance) j.message (Some j.outcome) j.handler) in omega arith)
    (and-second (Jobs.is_job_of i j) (list_all (Jobs.is_job_of i) js) all) rest q
  where
    now : participant_of (Jobs.end_job j x).world i ≡ finish (participant_of x.world i) j.message (Some j.outcome) j.handler
    now = finished_here x j i (and-first (Jobs.is_job_of i j) (list_all (Jobs.is_job_of i) js) all) lt

    later : (a b : Bool) → a ≡ false → (a || b) ≡ true → b ≡ true
    later true b e f = cc
    later false b e f = f

    rest : (p : PartId) → is_out (slot_of (participant_of (Jobs.end_job j x).world i) p).work ≡ true → list_any (λ k. part_eq k.message.part p) js ≡ true
    rest p out =
        let was = was_out (participant_of x.world i) j.message (Some j.outcome) j.handler p (subst (λ (w : Participant). is_out (slot_of w p).work ≡ true) now out) in
        later (part_eq j.message.part p) (list_any (λ k. part_eq k.message.part p) js) was.other (covered p was.out)

-- a job that ended leaves the others out
out_is : (m n : Message) (x y : Bool) → Out m x ≡ Out n y → m ≡ n
out_is m n x y e = (cc)

out_still : (x : State) (j k : Job) → j.instance.0 < length x.world.participants → IsOutOf x.world.participants j → not (Jobs.is_job j.instance j.message.id k) ≡ true
    → IsOutOf x.world.participants k → IsOutOf (Jobs.end_job j x).world.participants k
out_still x j k lt mine other out = one (j.instance.0 == k.instance.0) refl (part_eq j.message.part k.message.part) refl
  where
    w' : Participant
    w' = finish (of_instance x.world.participants j.instance) j.message (Some j.outcome) j.handler

    one : (a : Bool) → (j.instance.0 == k.instance.0) ≡ a → (b : Bool) → part_eq j.message.part k.message.part ≡ b → IsOutOf (slice_set x.world.participants j.instance.0 w') k
    one false e b f = subst (λ (w : Participant). (slot_of w k.message.part).work ≡ Out k.message (is_some k.handler)) (sym (others_put x.world.participants j.instance w' k.instance e)) out
    one true e true f =
        let at = instance_same j.instance k.instance e in
        let work : (slot_of (of_instance x.world.participants j.instance) j.message.part).work ≡ Out k.message (is_some k.handler) =
        subst (λ (n : InstanceId). (slot_of (of_instance x.world.participants n) j.message.part).work ≡ Out k.message (is_some k.handler)) (sym at)
        (subst (λ (p : PartId). (slot_of (of_instance x.world.participants k.instance) p).work ≡ Out k.message (is_some k.handler)) (sym (part_same j.message.part k.message.part f)) out) in
        let same : k.message ≡ j.message = out_is k.message j.message (is_some k.handler) (is_some j.handler) (sym work ∙ mine) in
        let yes : Jobs.is_job j.instance j.message.id k ≡ true =
        and-both (k.instance.0 == j.instance.0) (k.message.id.0 == j.message.id.0)
        (subst (λ (n : InstanceId). (k.instance.0 == n.0) ≡ true) (sym at) (same-self k.instance.0)) (subst (λ (m : Message). (k.message.id.0 == m.id.0) ≡ true) same (same-self k.message.id.0)) in
        absurd (let z : true ≡ false = sym other ∙ ap not yes in (cc))
    one true e false f =
        let w = of_instance x.world.participants j.instance in
        let y = brought (slot_of w j.message.part) (end_of j.message (Some j.outcome)) j.handler in
        let at = instance_same j.instance k.instance e in
        let part : y.part ≡ j.message.part = part-slot_in w.slots j.message.part in
        let slot : slot_of w' k.message.part ≡ slot_of w k.message.part = slot_in-other w.slots y k.message.part (subst (λ (r : PartId). part_eq r k.message.part ≡ false) (sym part) f) in
        subst (λ (n : InstanceId). (slot_of (of_instance (slice_set x.world.participants j.instance.0 w') n) k.message.part).work ≡ Out k.message (is_some k.handler)) at
        (ap (λ (v : Participant). (slot_of v k.message.part).work) (here_put x.world.participants j.instance w' lt) ∙ ap (λ (z : Slot). z.work) slot
        ∙ subst (λ (n : InstanceId). (slot_of (of_instance x.world.participants n) k.message.part).work ≡ Out k.message (is_some k.handler)) (sym at) out)

pub others_out : (x : State) (j : Job) → j.instance.0 < length x.world.participants → IsOutOf x.world.participants j → Each (IsOutOf x.world.participants) x.world.jobs
    → Each (IsOutOf (Jobs.end_job j x).world.participants) (Jobs.end_job j x).world.jobs
others_out x j lt mine all =
    each-filter (IsOutOf x.world.participants) (IsOutOf (Jobs.end_job j x).world.participants) (λ k. not (Jobs.is_job j.instance j.message.id k)) (λ k other out. out_still x j k lt mine other out) x.world.jobs all

module _ (spec : Spec) (valid : IsValid spec) (last : Last) where
  -- what is said
  pub say_keeps : (charge : ℕ) (text : List ℕ) (x : State) → Stands spec last x → Keeps (Stands spec last) (say charge text x)
  say_keeps charge text x s = keeps_line spec valid last charge text x s

  pub note_keeps : (v : Voice) (n : Note) (x : State) → Stands spec last x → Keeps (Stands spec last) (note v n x)
  note_keeps v n x s = keeps_note (Stands spec last) (keeps_line spec valid last) v n x s

  pub loud_keeps : (v : Voice) (charge : ℕ) (text : List ℕ) (x : State) → Stands spec last x → Keeps (Stands spec last) (say_if_loud v charge text x)
  loud_keeps v charge text x s = keeps_loud (Stands spec last) (keeps_line spec valid last) v charge text x s

  -- lines that are taken
  pub line_stands : (n : ℕ) (x : State) → Stands spec last x → is_later last.line n ≡ true → x.world.weight + weight_of (events.Line n) ≤ x.world.limit → Stands spec (at_line last (Some n)) (happened (events.Line n) x)
  line_stands n x s later room = line_happens spec valid last n x later s room

  pub line_keeps : (n : ℕ) (x : State) → Stands spec last x → is_later last.line n ≡ true → Keeps (HasStood spec) (happen (events.Line n) x)
  line_keeps n x s later =
      happens (HasStood spec) (events.Line n) x (record { last = last; stands = s }) (λ room. record { last = at_line last (Some n); stands = line_happens spec valid last n x later s room })

  -- instances and controllers that the cluster has
  ranged_instance : (i : InstanceId) (x : State) → Stands spec last x → has_instance x.world.cluster i ≡ true → Ranges.has_instance spec i ≡ true
  ranged_instance i x s there =
      let instances : length x.world.cluster.instances ≡ length spec.instances = (fixed_there spec last x.world s.scripted).instances ∙ length-replicate (length spec.instances) false in
      ap (nat_lt i.0) (sym instances) ∙ there

  pub instance_there : (i : InstanceId) (x : State) → Stands spec last x → has_instance x.world.cluster i ≡ true → i.0 < length x.world.participants
  instance_there i x s there = in_range_now spec valid last i x (ranged_instance i x s there) s

  pub controller_there : (k : ControllerId) (x : State) → Stands spec last x → has_controller x.world.cluster k ≡ true → k.0 < length x.world.controllers
  controller_there k x s there =
      let fixed : length x.world.cluster.controllers ≡ spec.controllers = (fixed_there spec last x.world s.scripted).controllers ∙ length-replicate spec.controllers (false, record { 0 = 0 }) in
      let many : length x.world.controllers ≡ spec.controllers = s.scripted.of.controllers in
      grind (arith, nat_tests, there, fixed, many)

  -- steps of the cluster
  pub step_keeps : (v : Voice) (step : Admin) (x : State) → Stands spec last x → is_in_range x.world.cluster step ≡ true → Keeps (Stands spec last) (Scripts.do_step v step x)
  step_keeps v step x s well = Walking.step_keeps spec (Stands spec last) (keep spec valid last) v step (refusal_of x.world.cluster step) x refl well s

  pub die_keeps : (v : Voice) (i : InstanceId) (x : State) → Stands spec last x → has_instance x.world.cluster i ≡ true → Keeps (Stands spec last) (Scripts.do_die v i x)
  die_keeps v i x s there = Walking.die_keeps spec (Stands spec last) (keep spec valid last) v i _ x (ranged_instance i x s there) refl s

  -- messages come
  pub fetch_stands : (i : InstanceId) (x : State) → Stands spec last x → has_instance x.world.cluster i ≡ true
      → (let mail = fetched x.world.cluster i in
      x.world.weight + weight_of (events.Fetch i mail.session (length mail.messages)) ≤ x.world.limit → Stands spec last (happened (events.Fetch i mail.session (length mail.messages)) x))
  fetch_stands i x s there room = fetch_happens spec valid last i x (ranged_instance i x s there) s room

  pub fetch_keeps : (i : InstanceId) (x : State) → Stands spec last x → has_instance x.world.cluster i ≡ true → Keeps (Stands spec last) (Jobs.do_fetch i x)
  fetch_keeps i x s there = fetch_done spec valid last i x (ranged_instance i x s there) s

  pub deliver_keeps : (v : Voice) (i : InstanceId) (m : Message) (x : State) → Stands spec last x → find (λ n. n.id.0 == m.id.0) x.world.bag ≡ Some m → Keeps (Stands spec last) (Jobs.deliver v i m x)
  deliver_keeps v i m x s is = from_bag spec valid last v i m.id (Some m) x s is

  -- and are run
  pub take_keeps : (v : Voice) (i : InstanceId) (id : MsgId) (x : State) → Stands spec last x → Keeps (Stands spec last) (Jobs.do_take v i id x)
  take_keeps v i id x s = keeps_taken spec valid last v i id _ x s refl

  pub write_keeps : (v : Voice) (i : InstanceId) (id : MsgId) (x : State) → Stands spec last x → Keeps (Stands spec last) (Jobs.do_write v i id x)
  write_keeps v i id x s = keeps_write spec valid last v i id x s

  pub ack_keeps : (v : Voice) (i : InstanceId) (id : MsgId) (x : State) → Stands spec last x → Keeps (Stands spec last) (Jobs.do_ack v i id x)
  ack_keeps v i id x s = keeps_ack spec valid last v i id x s

  -- turns
  pub turn_keeps : (v : Voice) (k : ControllerId) (x : State) → Stands spec last x → Keeps (Stands spec last) (Turns.step v k x)
  turn_keeps v k x s = keeps_step spec valid last v k x s

  pub restart_stands : (k : ControllerId) (x : State) → Stands spec last x → Stands spec last (Turns.restarted k x)
  restart_stands k x s = idle_there spec valid last k x s

  pub controller_is : (k : ControllerId) (x : State) → Stands spec last x → (controller_of x.world k).id ≡ k
  controller_is k x s = (s.scripted.of.turns k).id

  pub turn_planned : (k : ControllerId) (x : State) → Stands spec last x → IsPlanOf spec (controller_of x.world k).turn (controller_of x.world k).plan
  turn_planned k x s = (s.scripted.of.turns k).of_board.planned

  -- open jobs are out
  pub jobs_out : (x : State) → Stands spec last x → Each (IsOutOf x.world.participants) x.world.jobs
  jobs_out x s =
      each-le (IsHeldJob x.world.cluster x.world.participants x.world.jobs) (IsOutOf x.world.participants)
      (λ j h. lent_is j (slot_of (of_instance x.world.participants j.instance) j.message.part).work h.out) x.world.jobs s.in_step.parts.held

  pub job_out : (p : Job → Bool) (j : Job) (x : State) → Stands spec last x → find p x.world.jobs ≡ Some j → (slot_of (participant_of x.world j.instance) j.message.part).work ≡ Out j.message (is_some j.handler)
  job_out p j x s is = each-find (IsOutOf x.world.participants) p x.world.jobs j (jobs_out x s) is

  pub job_out_at : (n : ℕ) (j : Job) (x : State) → Stands spec last x → slice_get x.world.jobs n ≡ Some j → (slot_of (participant_of x.world j.instance) j.message.part).work ≡ Out j.message (is_some j.handler)
  job_out_at n j x s is = each_get (IsOutOf x.world.participants) x.world.jobs n j (jobs_out x s) is

  pub only_one : (before after : List Job) (j : Job) (x : State) → Stands spec last x → x.world.jobs ≡ before ++ j ∷ after
      → filter (λ k. not (Jobs.is_job j.instance j.message.id k)) x.world.jobs ≡ before ++ after
  only_one before after j x s e =
      let held : Each (IsHeldJob x.world.cluster x.world.participants x.world.jobs) (before ++ j ∷ after) =
      subst (λ (js : List Job). Each (IsHeldJob x.world.cluster x.world.participants x.world.jobs) js) e s.in_step.parts.held in
      let h : IsHeldJob x.world.cluster x.world.participants x.world.jobs j = each_mid (IsHeldJob x.world.cluster x.world.participants x.world.jobs) before after j held in
      let only : count (Jobs.is_job j.instance j.message.id) (before ++ j ∷ after) ≡ 1 = subst (λ (js : List Job). count (Jobs.is_job j.instance j.message.id) js ≡ 1) e h.only in
      ap (filter (λ k. not (Jobs.is_job j.instance j.message.id k))) e
      ∙ one_out (Jobs.is_job j.instance j.message.id) before after j (and-both (j.instance.0 == j.instance.0) (j.message.id.0 == j.message.id.0) (same-self j.instance.0) (same-self j.message.id.0)) only

  -- a part that is out has a job
  pub job_of_part : (i : InstanceId) (q : PartId) (x : State) → Stands spec last x → is_out (slot_of (participant_of x.world i) q).work ≡ true
      → list_any (λ j. part_eq j.message.part q) (filter (Jobs.is_job_of i) x.world.jobs) ≡ true
  job_of_part i q x s out = one (slot_of (participant_of x.world i) q).work out (placed_work x.world.cluster x.world.bag x.world.jobs i (participant_of x.world i) (s.in_step.parts.each i) q)
    where
      of_part : (m : Message) → m.part ≡ q → (j : Job) → is_same j.message m ≡ true → part_eq j.message.part q ≡ true
      of_part m part j same = subst (λ (r : PartId). part_eq j.message.part r ≡ true) ((same_is j.message m same).part ∙ part) (part_eq-self j.message.part)

      one : (w : Work) → is_out w ≡ true → HasWork x.world.cluster x.world.bag x.world.jobs i (participant_of x.world i).session q (slot_of (participant_of x.world i) q) w
          → list_any (λ j. part_eq j.message.part q) (filter (Jobs.is_job_of i) x.world.jobs) ≡ true
      one Idle o h = cc
      one (Accepted m) o h = cc
      one (Out m is_held) o h =
          any-le (is_lent_as i m is_held) (λ j. part_eq j.message.part q) (λ j e. of_part m h.of.part j (and-second (Jobs.is_job i m.id j) (is_same j.message m) (and-first _ _ e))) (filter (Jobs.is_job_of i) x.world.jobs)
          (any-filter_kept (is_lent_as i m is_held) (Jobs.is_job_of i)
          (λ j e. and-first (j.instance.0 == i.0) (j.message.id.0 == m.id.0) (and-first (Jobs.is_job i m.id j) (is_same j.message m) (and-first _ _ e))) x.world.jobs h.job)

  -- where an instance has no job none of its parts is out, and once its jobs ended none is
  quiet_from : (w : Participant) → ((p : Slot → Bool) → ((q : PartId) → p (slot_of w q) ≡ true) → list_all p w.slots ≡ true) → ((q : PartId) → is_out (slot_of w q).work ≡ false) → any_out w ≡ false
  quiet_from w each none = none-from-all (λ (y : Slot). not (is_out y.work)) (λ y. is_out y.work) (λ y e. one (is_out y.work) e) w.slots (each (λ y. not (is_out y.work)) (λ q. ap not (none q)))
    where
      one : (b : Bool) → not b ≡ true → b ≡ false
      one true e = cc
      one false e = refl

  pub no_job_none_out : (i : InstanceId) (x : State) → Stands spec last x → list_any (Jobs.is_job_of i) x.world.jobs ≡ false → any_out (participant_of x.world i) ≡ false
  no_job_none_out i x s no_job =
      quiet_from (participant_of x.world i) (λ p h. all_slots p (participant_of x.world i).slots (s.in_step.parts.each i).distinct h) (λ q. one q (is_out (slot_of (participant_of x.world i) q).work) refl)
    where
      none_of : (p : Job → Bool) (js : List Job) → list_any (Jobs.is_job_of i) js ≡ false → list_any p (filter (Jobs.is_job_of i) js) ≡ false
      none_of p [] e = refl
      none_of p (j ∷ js) e = two (Jobs.is_job_of i j) refl e (none_of p js)
        where
          two : (b : Bool) → Jobs.is_job_of i j ≡ b → (b || list_any (Jobs.is_job_of i) js) ≡ false → (list_any (Jobs.is_job_of i) js ≡ false → list_any p (filter (Jobs.is_job_of i) js) ≡ false)
              → list_any p (filter (Jobs.is_job_of i) (j ∷ js)) ≡ false
          two true is f more = cc
          two false is f more = rw is (more f)

      one : (q : PartId) (b : Bool) → is_out (slot_of (participant_of x.world i) q).work ≡ b → b ≡ false
      one q false e = refl
      one q true e = sym (job_of_part i q x s e) ∙ none_of (λ j. part_eq j.message.part q) x.world.jobs no_job

  pub ended_out : (i : InstanceId) (q : PartId) (x : State) → Stands spec last x → has_instance x.world.cluster i ≡ true
      → is_out (slot_of (participant_of (Jobs.end_jobs (Jobs.jobs_of i x) x).world i) q).work ≡ false
  ended_out i q x s there =
      none_left i (Jobs.jobs_of i x) x (instance_there i x s there) (of_instance_all i x)
      (λ p out. any-sort (λ (j : Job). part_eq j.message.part p) Jobs.job_before (filter (Jobs.is_job_of i) x.world.jobs) ∙ job_of_part i p x s out) q

  pub ended_none_out : (i : InstanceId) (x : State) → Stands spec last x → has_instance x.world.cluster i ≡ true → any_out (participant_of (Jobs.end_jobs (Jobs.jobs_of i x) x).world i) ≡ false
  ended_none_out i x s there =
      let w = participant_of (Jobs.end_jobs (Jobs.jobs_of i x) x).world i in
      quiet_from w (λ p h. all_slots p w.slots (distinct_left i (Jobs.jobs_of i x) x (instance_there i x s there) (s.in_step.parts.each i).distinct) h) (λ q. ended_out i q x s there)

  -- a message of the bag fits a participant of its session
  pub fits : (i : InstanceId) (m : Message) (x : State) → Stands spec last x → find (λ n. n.id.0 == m.id.0) x.world.bag ≡ Some m → is_session (participant_of x.world i).session m.session ≡ true
      → Fits (participant_of x.world i) m
  fits i m x s is mine =
      let c = x.world.cluster in
      let its = placed_named c x.world.bag x.world.jobs i (participant_of x.world i) (s.in_step.parts.each i) m mine (find-any (λ n. n.id.0 == m.id.0) (is_same m) x.world.bag m is (same_self m)) m.part in
      let b : IsInBag x.world.cluster x.world.participants m = each-find (IsInBag x.world.cluster x.world.participants) (λ n. n.id.0 == m.id.0) x.world.bag m s.in_step.parts.bagged is in
      record {
        sound = sound_message m (model_of c.models c.resources m.part.resource) (part_model c (ranged_there spec last x.world valid s.scripted) (kept_now spec valid last x s).sound m.part b.part) b.legal b.initial;
        like = like_all (slot_of (participant_of x.world i) m.part).initial m (λ t e. its.initial t e ∙ sym b.initial);
      }
