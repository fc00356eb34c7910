-- An outcome is written.
use Rattle.std.proofs.Common.{◌≡◌, ◌||◌, ◌==◌, not, Bool, true, false, List, [], ◌∷◌, map, find, Option, Some, None, inl, refl, sym, ap, ◌∙◌, subst, arith}
use Rattle.std.specs.Prelude.{if◌then◌else◌}
use Rattle.std.specs.List.{list_any}
use Rattle.std.specs.Option.{option_map}
use Rattle.std.proofs.lemmas.Bool.Decides.{nat_tests}
use Rattle.hx_lists.specs.Lists.{count}
use Rattle.hx_ids.specs.declared.InstanceId.{InstanceId}
use Rattle.hx_ids.specs.declared.StateId.{StateId}
use Rattle.hx_ids.specs.declared.SessionId.{SessionId}
use Rattle.hx_ids.specs.declared.MsgId.{MsgId}
use Rattle.hx_ids.specs.declared.PartId.{PartId}
use Rattle.hx_model.specs.Model.{dropped}
use Rattle.hx_cluster.specs.declared.state.Message.{Message}
use Rattle.hx_cluster.specs.declared.state.Cluster.{Cluster}
use Rattle.hx_cluster.specs.declared.happenings.Outcome.{Outcome}
use Rattle.hx_cluster.specs.declared.happenings.Outcome.TheVariants as outcomes
use Rattle.hx_cluster.specs.Ends.{is_live, state_of}
use Rattle.hx_cluster.specs.Messages.{is_same, state_after, as_written, row_put, written_of, after_write}
use Rattle.hx_replicas.specs.declared.slots.Work.{Work}
use Rattle.hx_replicas.specs.declared.slots.Work.TheVariants.{Idle, Accepted, Out}
use Rattle.hx_replicas.specs.Participants.{Participant, Slot, slot_of, is_idle, is_out}
use Rattle.hx_worlds.specs.World.{Job}
use Rattle.hx_worlds.specs.Jobs.{is_job, as_written_job}
use Rattle.hx_worlds.specs.Agree.{is_known_at, is_out_as, is_lent_to, is_at_end}
use Rattle.hx_safe.proofs.Ends.{same-self, put-other, put-here}
use Rattle.hx_safe.proofs.Kept.{IsKept}
use Rattle.hx_agreed.specs.InStep.{Each, of_instance, IsOfSlot, is_lent_as, HasWork, HasSlot, row_after, IsTakenBy, IsHeldJob, AreInStep}
use Rattle.hx_agreed.proofs.Lists.{each-map, or-second}
use Rattle.hx_agreed.proofs.Placed.{placed_busy}
use Rattle.hx_agreed.proofs.Frames.{AreSame, same_is, same_sym, same_both, IsOutFor, job_out, job_mine}
use Rattle.hx_agreed.proofs.Changes.{is_replica, change_in_step}
use Rattle.hx_agreed.proofs.Ending.{other_replica}
use Rattle.hx_agreed.proofs.Marks.{marked, written_message, written_same, written_elsewhere, written_now, pending_found, was_written}

-- the only item that passes a test
none_is : {X : Type 0} (p : X → Bool) (j : X) (xs : List X) → count p xs ≡ 0 → Each (λ x. p x ≡ true → x ≡ j) xs
none_is p j [] e = tt
none_is {X} p j (x ∷ xs) e = one (p x) refl (none_is p j xs)
  where
    one : (b : Bool) → p x ≡ b → (count p xs ≡ 0 → Each (λ y. p y ≡ true → y ≡ j) xs) → Each (λ y. p y ≡ true → y ≡ j) (x ∷ xs)
    one true is more = absurd (let z : true ≡ false = grind (arith, is, e) in (cc))
    one false is more = ((λ yes. absurd (let z : true ≡ false = sym yes ∙ is in (cc))), more (grind (arith, is, e)))

pub only_one : {X : Type 0} (p : X → Bool) (j : X) (xs : List X) → find p xs ≡ Some j → count p xs ≡ 1 → Each (λ x. p x ≡ true → x ≡ j) xs
only_one p j [] f e = cc
only_one {X} p j (x ∷ xs) f e = one (p x) refl (only_one p j xs)
  where
    one : (b : Bool) → p x ≡ b → (find p xs ≡ Some j → count p xs ≡ 1 → Each (λ y. p y ≡ true → y ≡ j) xs) → Each (λ y. p y ≡ true → y ≡ j) (x ∷ xs)
    one true is more = let same : x ≡ j = grind (arith, is, f) in ((λ yes. same), none_is p j xs (grind (arith, is, e)))
    one false is more = ((λ yes. absurd (let z : true ≡ false = sym yes ∙ is in (cc))), more (grind (arith, is, f)) (grind (arith, is, e)))

each-both : {X : Type 0} (P Q : X → Type 0) (xs : List X) → Each P xs → Each Q xs → Each (λ x. P x × Q x) xs
each-both P Q [] e f = tt
each-both P Q (x ∷ xs) e f = ((e.0, f.0), each-both P Q xs e.1 f.1)

-- jobs with the mark
count_marked : (i n : InstanceId) (id number : MsgId) (jobs : List Job) → count (is_job n number) (map (as_written_job i id) jobs) ≡ count (is_job n number) jobs
count_marked i n id number [] = refl
count_marked i n id number (x ∷ jobs) = one (is_job i id x) refl (count_marked i n id number jobs)
  where
    one : (b : Bool) → is_job i id x ≡ b → count (is_job n number) (map (as_written_job i id) jobs) ≡ count (is_job n number) jobs
        → count (is_job n number) (map (as_written_job i id) (x ∷ jobs)) ≡ count (is_job n number) (x ∷ jobs)
    one true e more = rw e (grind (arith, more))
    one false e more = rw e (grind (arith, more))

lent_one : (n : InstanceId) (m : Message) (is_held : Bool) (x : Job) (b : Bool) → is_lent_as n m is_held (if b then record x { is_written = true } else x) ≡ is_lent_as n m is_held x
lent_one n m is_held x true = refl
lent_one n m is_held x false = refl

or_case : (a b d : Bool) → (a || b) ≡ true → (b ≡ true → d ≡ true) → (a || d) ≡ true
or_case true b d e f = refl
or_case false b d e f = f e

lent_marked : (i n : InstanceId) (id : MsgId) (m : Message) (is_held : Bool) (jobs : List Job) → list_any (is_lent_as n m is_held) jobs ≡ true → list_any (is_lent_as n m is_held) (map (as_written_job i id) jobs) ≡ true
lent_marked i n id m is_held [] is = is
lent_marked i n id m is_held (x ∷ jobs) is =
    ap (λ (b : Bool). b || list_any (is_lent_as n m is_held) (map (as_written_job i id) jobs)) (lent_one n m is_held x (is_job i id x))
    ∙ or_case (is_lent_as n m is_held x) (list_any (is_lent_as n m is_held) jobs) (list_any (is_lent_as n m is_held) (map (as_written_job i id) jobs)) is (lent_marked i n id m is_held jobs)

lent_to_marked : (j : Job) (w : Work) → is_lent_to (record j { is_written = true }) w ≡ is_lent_to j w
lent_to_marked j Idle = refl
lent_to_marked j (Accepted m) = refl
lent_to_marked j (Out m is_held) = refl

after_mark : (m : Message) (o : Outcome) → state_after (record m { written = true }) o ≡ state_after m o
after_mark m outcomes.Ok = refl
after_mark m outcomes.Failed = refl

after_same : (a b : Message) (o : Outcome) → a.to ≡ b.to → state_after a o ≡ state_after b o
after_same a b outcomes.Ok e = e
after_same a b outcomes.Failed e = refl

at_end_after : (t : StateId) → is_at_end t (row_after t) ≡ true
at_end_after t = one (t.0 == dropped.0) refl
  where
    one : (b : Bool) → (t.0 == dropped.0) ≡ b → is_at_end t (if b then None else Some t) ≡ true
    one true e = e
    one false e = same-self t.0

module _ (c : Cluster) (ws : List Participant) (jobs : List Job) (bag : List Message) (k : IsKept c) (a : AreInStep c ws jobs bag) (j : Job) (h : IsHeldJob c ws jobs j) (t : IsTakenBy c j) where
  same : AreSame j.message t.now
  same = same_is j.message t.now t.taken.same

  written : Cluster
  written = written_of c j.message.session j.message.id j.outcome (Some t.now)

  rows_written : (u : SessionId) (p : PartId) → is_replica j.message.session j.message.part u p ≡ false
      → state_of (row_put c.rows t.now.session t.now.part (state_after t.now j.outcome)) u p ≡ state_of c.rows u p
  rows_written u p other =
      put-other c.rows t.now.session u t.now.part p (state_after t.now j.outcome)
      (subst (λ (s : SessionId). is_replica s t.now.part u p ≡ false) same.session (subst (λ (q : PartId). is_replica j.message.session q u p ≡ false) same.part other))

  row_here : state_of (row_put c.rows t.now.session t.now.part (state_after t.now j.outcome)) t.now.session t.now.part ≡ row_after (state_after t.now j.outcome)
  row_here = put-here c.rows t.now.session t.now.part (state_after t.now j.outcome)

  row_mine : state_of (row_put c.rows t.now.session t.now.part (state_after t.now j.outcome)) j.message.session j.message.part ≡ row_after (state_after j.message j.outcome)
  row_mine =
      ap (λ (s : SessionId). state_of (row_put c.rows t.now.session t.now.part (state_after t.now j.outcome)) s j.message.part) same.session
      ∙ ap (λ (q : PartId). state_of (row_put c.rows t.now.session t.now.part (state_after t.now j.outcome)) t.now.session q) same.part
      ∙ row_here ∙ ap row_after (sym (after_same j.message t.now j.outcome same.to))

  job_written : is_live c.live j.message.session ≡ true
      → IsTakenBy (written_of c j.message.session j.message.id j.outcome (Some t.now)) (record j { is_written = true })
  job_written live = record {
    now = record t.now { written = true };
    found = written_now c k j.message.session j.message.id j.message.part t.now t.found (sym same.id);
    taken = record {
      same = t.taken.same;
      taken = t.taken.taken;
      written = refl;
      ended = λ is. subst (λ (o : Option StateId). is_at_end (state_after (record t.now { written = true }) j.outcome) o ≡ true) (sym row_here)
          (subst (λ (z : StateId). is_at_end z (row_after (state_after t.now j.outcome)) ≡ true) (sym (after_mark t.now j.outcome)) (at_end_after (state_after t.now j.outcome)));
    };
    row = λ is. row_mine;
  }

  other_written : (x : Job) → is_replica j.message.session j.message.part x.message.session x.message.part ≡ false → IsTakenBy c x → IsTakenBy (written_of c j.message.session j.message.id j.outcome (Some t.now)) x
  other_written x other u =
      let its = same_is x.message u.now u.taken.same in
      record {
        now = u.now;
        found = written_elsewhere c k j.message.session j.message.id j.message.part t.now t.found (sym same.id) x.message.session x.message.part other ∙ u.found;
        taken = record {
          same = u.taken.same;
          taken = u.taken.taken;
          written = u.taken.written;
          ended = λ is. subst (λ (o : Option StateId). is_at_end (state_after u.now x.outcome) o ≡ true)
              (sym (rows_written u.now.session u.now.part (subst (λ (s : SessionId). is_replica j.message.session j.message.part s u.now.part ≡ false) its.session (subst (λ (q : PartId). is_replica j.message.session j.message.part x.message.session q ≡ false) its.part other))))
              (u.taken.ended is);
        };
        row = λ is. rows_written x.message.session x.message.part other ∙ u.row is;
      }

  job_held : (x : Job) → IsHeldJob c ws jobs x → (is_job j.instance j.message.id x ≡ true → x ≡ j) → (b : Bool) → is_job j.instance j.message.id x ≡ b
      → IsHeldJob (written_of c j.message.session j.message.id j.outcome (Some t.now)) ws (map (as_written_job j.instance j.message.id) jobs) (if b then record x { is_written = true } else x)
  job_held x g is true e =
      subst (λ (y : Job). IsHeldJob (written_of c j.message.session j.message.id j.outcome (Some t.now)) ws (map (as_written_job j.instance j.message.id) jobs) (record y { is_written = true })) (sym (is e))
      (record {
        only = count_marked j.instance j.instance j.message.id j.message.id jobs ∙ h.only;
        out = lent_to_marked j (slot_of (of_instance ws j.instance) j.message.part).work ∙ h.out;
        taken = job_written;
      })
  job_held x g is false e = record {
    only = count_marked j.instance x.instance j.message.id x.message.id jobs ∙ g.only;
    out = g.out;
    taken = λ live. other_written x (other_replica c c ws jobs bag k a j h x (ap not e) g live) (g.taken live);
  }

  out : (let w = of_instance ws j.instance in IsOutFor bag jobs j.instance w.session j.message.part (slot_of w j.message.part) j)
  out = job_out c ws jobs bag a j h

  mine : (of_instance ws j.instance).session ≡ Some j.message.session
  mine = job_mine c ws jobs bag a j h

  active : (p : PartId) → HasSlot c bag jobs j.instance (of_instance ws j.instance).session p (slot_of (of_instance ws j.instance) p)
  active = placed_busy c bag jobs j.instance (of_instance ws j.instance) (a.each j.instance) j.message.part (ap is_idle out.work)

  now_known : (x : Slot) (m : Message) (is_held : Bool) (n : Message) → x.work ≡ Out m is_held → is_same n m ≡ true → is_known_at x n ≡ true
  now_known x m is_held n e same = or-second _ (is_out_as n x.work) (subst (λ (w : Work). is_out_as n w ≡ true) (sym e) same)

  write_there : find (is_job j.instance j.message.id) jobs ≡ Some j
      → AreInStep (written_of c j.message.session j.message.id j.outcome (Some t.now)) ws (map (as_written_job j.instance j.message.id) jobs) bag
  write_there first =
      change_in_step c (written_of c j.message.session j.message.id j.outcome (Some t.now)) ws ws jobs (map (as_written_job j.instance j.message.id) jobs) bag j.instance j.message.session j.message.part k a (record {
        others = λ n e. refl;
        mine = mine;
        session = mine;
        active = active;
        distinct = (a.each j.instance).distinct;
        slots = λ p e. refl;
        board = record {
          same = record { live = refl; sessions = refl; messages = refl; models = refl; resources = refl };
          rows = rows_written;
          mail = written_elsewhere c k j.message.session j.message.id j.message.part t.now t.found (sym same.id);
          lent = λ n m is_held e is. lent_marked j.instance n j.message.id m is_held jobs is;
          lent_here = λ p m is_held e f is. lent_marked j.instance j.instance j.message.id m is_held jobs is;
          before = λ n found. was_written c j.message.session j.message.id j.message.session j.message.part n found;
          pending = λ b s q its p. inl (record {
            now = as_written j.message.session j.message.id p.now;
            found = marked (as_written j.message.session j.message.id) b.session b.part (written_message j.message.session j.message.id b.session b.part) c.mail ∙ ap (option_map (as_written j.message.session j.message.id)) p.found;
            same = same_both b p.now (as_written j.message.session j.message.id p.now) p.same (written_same j.message.session j.message.id p.now);
          });
        };
        slot = record {
          last = (active j.message.part).last;
          used = (active j.message.part).used;
          initial = (active j.message.part).initial;
          there = (active j.message.part).there;
          work = work;
        };
        row_here = λ live idle. absurd (let yes : is_out (slot_of (of_instance ws j.instance) j.message.part).work ≡ true = ap is_out out.work in let z : true ≡ false = sym yes ∙ idle in (cc));
        mail_here = λ live n found. now_known (slot_of (of_instance ws j.instance) j.message.part) out.message out.is_held n out.work
            (let e = some_is (record t.now { written = true }) n (sym (written_now c k j.message.session j.message.id j.message.part t.now t.found (sym same.id)) ∙ found) in
            subst (λ (x : Message). is_same x out.message ≡ true) e (same_both t.now j.message out.message (same_sym j.message t.now t.taken.same) out.same));
        last = grind (arith, nat_tests);
        jobs_held = each-map (λ x. IsHeldJob c ws jobs x × (is_job j.instance j.message.id x ≡ true → x ≡ j))
            (IsHeldJob (written_of c j.message.session j.message.id j.outcome (Some t.now)) ws (map (as_written_job j.instance j.message.id) jobs)) (as_written_job j.instance j.message.id)
            (λ x g. job_held x g.0 g.1 (is_job j.instance j.message.id x) refl) jobs
            (each-both (IsHeldJob c ws jobs) (λ x. is_job j.instance j.message.id x ≡ true → x ≡ j) jobs a.held (only_one (is_job j.instance j.message.id) j jobs first h.only));
      })
    where
      some_is : (m n : Message) → Some m ≡ Some n → m ≡ n
      some_is m n e = (cc)

      work : HasWork (written_of c j.message.session j.message.id j.outcome (Some t.now)) bag (map (as_written_job j.instance j.message.id) jobs) j.instance (Some j.message.session) j.message.part
          (slot_of (of_instance ws j.instance) j.message.part) (slot_of (of_instance ws j.instance) j.message.part).work
      work = subst (λ (v : Work). HasWork (written_of c j.message.session j.message.id j.outcome (Some t.now)) bag (map (as_written_job j.instance j.message.id) jobs) j.instance (Some j.message.session) j.message.part
          (slot_of (of_instance ws j.instance) j.message.part) v) (sym out.work)
          (record {
            of = subst (λ (o : Option SessionId). IsOfSlot o j.message.part (slot_of (of_instance ws j.instance) j.message.part) out.message) mine out.here.of;
            bagged = out.here.bagged;
            job = lent_marked j.instance j.instance j.message.id out.message out.is_held jobs out.here.job;
          })

  pub write_in_step : find (is_job j.instance j.message.id) jobs ≡ Some j → AreInStep (after_write c j.message.session j.message.id j.outcome) ws (map (as_written_job j.instance j.message.id) jobs) bag
  write_in_step first =
      subst (λ (o : Option Message). AreInStep (written_of c j.message.session j.message.id j.outcome o) ws (map (as_written_job j.instance j.message.id) jobs) bag)
      (sym (pending_found c k j.message.session j.message.id j.message.part t.now t.found (sym same.id))) (write_there first)
