-- The work of a round leaves nothing pending.
use Rattle.std.proofs.Common.{◌≡◌, ℕ, ◌+◌, ◌<◌, ◌≤◌, ◌||◌, ◌&&◌, ◌==◌, not, Bool, true, false, List, [], ◌∷◌, length, map, find, Option, Some, None, ◌⊎◌, inl, inr, refl, sym, ap, ◌∙◌, subst, arith}
use Rattle.std.specs.Prelude.{if◌then◌else◌, is_some, slice_index_or}
use Rattle.std.specs.List.{list_any, list_all}
use Rattle.std.specs.Option.{option_map}
use Rattle.std.proofs.lemmas.Bool.Decides.{nat_tests}
use Rattle.hx_lists.specs.Lists.{count, sort_by}
use Rattle.hx_ids.specs.declared.InstanceId.{InstanceId}
use Rattle.hx_ids.specs.declared.SessionId.{SessionId}
use Rattle.hx_ids.specs.declared.ControllerId.{ControllerId}
use Rattle.hx_ids.specs.declared.MsgId.{MsgId}
use Rattle.hx_ids.specs.declared.PartId.{PartId}
use Rattle.hx_ids.specs.declared.Live.{Live}
use Rattle.hx_ids.specs.declared.StateId.{StateId}
use Rattle.hx_model.specs.Model.{error}
use Rattle.hx_cluster.specs.declared.description.Spec.{Spec}
use Rattle.hx_cluster.specs.declared.state.Message.{Message}
use Rattle.hx_cluster.specs.declared.state.Cluster.{Cluster}
use Rattle.hx_cluster.specs.declared.happenings.Outcome.{Outcome}
use Rattle.hx_cluster.specs.declared.happenings.Outcome.TheVariants as outcomes
use Rattle.hx_cluster.specs.Ends.{is_session, is_live, message_of, shown_of}
use Rattle.hx_cluster.specs.Steps.{is_of, live_of, session_of}
use Rattle.hx_cluster.specs.Reads.{instance_before, live_shown}
use Rattle.hx_cluster.specs.Messages.{pending_of, written_of, after_take, after_write, after_ack}
use Rattle.hx_cluster.specs.Safe.{is_pending}
use Rattle.hx_cluster.specs.Valid.{IsValid}
use Rattle.hx_control.specs.Controllers.{Controller, idle_controller}
use Rattle.hx_script.specs.Ranges as Ranges
use Rattle.hx_worlds.specs.World.{State, Job, answer_of}
use Rattle.hx_worlds.specs.Turns as Turns
use Rattle.hx_worlds.specs.Jobs as Jobs
use Rattle.hx_worlds.specs.Settles.{enough_rounds, work_all}
use Rattle.hx_safe.proofs.Counting.{and-first, and-second, all-map, all-le, find-single, find-passes, find-any}
use Rattle.hx_safe.proofs.Ends.{same-self, part_eq-self, session_same}
use Rattle.hx_safe.proofs.Kept.{IsKept}
use Rattle.hx_lawful.proofs.Sorting.{all-sort, each_there}
use Rattle.hx_scripted.proofs.Standing.{Last}
use Rattle.hx_agreed.specs.InStep.{Each}
use Rattle.hx_agreed.proofs.Lists.{each-le}
use Rattle.hx_settled.proofs.Moments.{any-sort}
use Rattle.hx_agreed.proofs.Changes.{instance_same}
use Rattle.hx_agreed.proofs.Going.{whole_there}
use Rattle.hx_agreed.proofs.DoingTurns.{Stands}
use Rattle.hx_scripted.proofs.DoingLines.{live_instances}
use Rattle.hx_bounded.specs.Ending.{IfGoesOn}
use Rattle.hx_bounded.specs.Falling.{is_honest, IsFalling}
use Rattle.hx_bounded.proofs.Falls.{take_falls, write_falls, ack_falls}
use Rattle.hx_bounded.proofs.Going.{goes_so, goes_each}
use Rattle.hx_bounded.proofs.Rounds.{IsLed, IsFirstRest, IsSetOff, IsLaterRest}
use Rattle.hx_bounded.proofs.Carrying.{IsClosed, OfLive, from_take, from_write, from_ack, live_written, from_none}
use Rattle.hx_bounded.proofs.Working.{IsAtWork}
use Rattle.hx_bounded.proofs.Emptying.{IsEmptyOf}
use Rattle.hx_bounded.proofs.Running.{worked}

-- what is found
found_any : {X : Type 0} (p : X → Bool) (xs : List X) → list_any p xs ≡ true → (x : X) × (find p xs ≡ Some x)
found_any p [] e = cc
found_any {X} p (x ∷ xs) e = one (p x) refl e (λ f. found_any p xs f)
  where
    one : (b : Bool) → p x ≡ b → (b || list_any p xs) ≡ true → (list_any p xs ≡ true → (y : X) × (find p xs ≡ Some y)) → (y : X) × ((if b then Some x else find p xs) ≡ Some y)
    one true is e rest = (x, refl)
    one false is e rest = rest e

-- sessions whose messages are done, as work goes on
empty_same : (c d : Cluster) (i : InstanceId) → d.live ≡ c.live → ((s : SessionId) (q : PartId) → message_of c.mail s q ≡ None → message_of d.mail s q ≡ None) → IsEmptyOf c i → IsEmptyOf d i
empty_same c d i live none e s is q = none s q (e s (ap (λ (ls : List Live). option_map (λ l. l.session) (live_of ls i)) (sym live) ∙ is) q)

abbrev is_in : List InstanceId → InstanceId → Bool
is_in is i = list_any (λ j. j.0 == i.0) is

abbrev AreDone : List InstanceId → Cluster → Type 0
AreDone is c = (i : InstanceId) → IsEmptyOf c i ⊎ (is_in is i ≡ true)

done_same : (is : List InstanceId) (c d : Cluster) → d.live ≡ c.live → ((s : SessionId) (q : PartId) → message_of c.mail s q ≡ None → message_of d.mail s q ≡ None) → AreDone is c → AreDone is d
done_same is c d live none all i = one (all i)
  where
    one : IsEmptyOf c i ⊎ (is_in is i ≡ true) → IsEmptyOf d i ⊎ (is_in is i ≡ true)
    one (inl e) = inl (empty_same c d i live none e)
    one (inr there) = inr there

-- it is closed too
closed_done : (P : Cluster → Type 0) (H : Job → Type 0) (is : List InstanceId) → IsClosed P H → IsClosed (λ c. P c × AreDone is c) H
closed_done P H is closed = record {
  take = λ c s id p. (closed.take c s id p.0, done_same is c (after_take c s id) refl (λ u q none. from_none c (after_take c s id) (from_take c s id) u q none) p.1);
  write = λ c j safe ranged k can h from p. (
    closed.write c j safe ranged k can h from p.0,
    done_same is c (after_write c j.message.session j.message.id j.outcome) (live_written c j.message.session j.message.id j.outcome)
        (λ u q none. from_none c (after_write c j.message.session j.message.id j.outcome) (from_write c j.message.session j.message.id j.outcome) u q none) p.1,
  );
  ack = λ c s id k can p. (closed.ack c s id k can p.0, done_same is c (after_ack c s id) refl (λ u q none. from_none c (after_ack c s id) (from_ack c k s id) u q none) p.1);
  ran = closed.ran;
  marked = closed.marked;
}

-- an instance that is shown has a session
abbrev live_shown_of : List Live → List (SessionId × InstanceId)
live_shown_of live = sort_by instance_before (shown_of live)

some_found : (live : List Live) (i : InstanceId) → list_any (is_of i) live ≡ true → is_some (live_of live i) ≡ true
some_found live i e = let f = found_any (is_of i) live e in ap (λ (o : Option Live). is_some o) f.1

shown_sessions : (live : List Live) → list_all (λ i. is_some (live_of live i)) (map (λ e. e.1) (live_shown_of live)) ≡ true
shown_sessions live =
    all-map (λ (i : InstanceId). is_some (live_of live i)) (λ (e : SessionId × InstanceId). e.1) (live_shown_of live)
    ∙ all-sort (λ (e : SessionId × InstanceId). is_some (live_of live e.1)) instance_before (shown_of live)
    ∙ all-map (λ (e : SessionId × InstanceId). is_some (live_of live e.1)) (λ (l : Live). (l.session, l.instance)) live
    ∙ all-le (λ (l : Live). list_any (is_of l.instance) live) (λ (l : Live). is_some (live_of live l.instance)) (λ l e. some_found live l.instance e) live
    (each_there (λ (a b : Live). is_of a.instance b) (λ a. same-self a.instance.0) live)

any-mapped : {X Y : Type 0} (p : Y → Bool) (f : X → Y) (xs : List X) → list_any p (map f xs) ≡ list_any (λ x. p (f x)) xs
any-mapped p f [] = refl
any-mapped p f (x ∷ xs) = grind (arith, any-mapped p f xs)

shown_in : (live : List Live) (i : InstanceId) (l : Live) → live_of live i ≡ Some l → list_any (λ j. j.0 == i.0) (map (λ e. e.1) (live_shown_of live)) ≡ true
shown_in live i l is =
    any-mapped (λ (j : InstanceId). j.0 == i.0) (λ (e : SessionId × InstanceId). e.1) (live_shown_of live)
    ∙ any-sort (λ (e : SessionId × InstanceId). e.1.0 == i.0) instance_before (shown_of live)
    ∙ any-mapped (λ (e : SessionId × InstanceId). e.1.0 == i.0) (λ (x : Live). (x.session, x.instance)) live
    ∙ find-any (is_of i) (λ (x : Live). x.instance.0 == i.0) live l is (find-passes (is_of i) live l is)

its_session : (live : List Live) (i : InstanceId) → is_some (live_of live i) ≡ true → (s : SessionId) × (option_map (λ l. l.session) (live_of live i) ≡ Some s)
its_session live i e = one (live_of live i) e
  where
    one : (o : Option Live) → is_some o ≡ true → (s : SessionId) × (option_map (λ l. l.session) o ≡ Some s)
    one None e = cc
    one (Some l) e = (l.session, refl)

-- a pending message is of an instance's session
session_there : (c : Cluster) → ((i : InstanceId) → count (is_of i) c.live ≤ 1) → (s : SessionId) → is_live c.live s ≡ true → (i : InstanceId) × (session_of c i ≡ Some s)
session_there c few s live =
    let f = found_any (is_session s) c.live live in
    let same : f.0.session ≡ s = session_same f.0.session s (find-passes (is_session s) c.live f.0 f.1) in
    let own = find-single (is_session s) (is_of f.0.instance) c.live f.0 f.1 (same-self f.0.instance.0) (few f.0.instance) in
    (f.0.instance, ap (option_map (λ l. l.session)) own ∙ ap (λ (v : SessionId). Some v) same)

nothing_pending : (c : Cluster) → IsKept c → ((i : InstanceId) → count (is_of i) c.live ≤ 1) → AreDone [] c → c.mail ≡ []
nothing_pending c k few done = one c.mail refl
  where
    none : (i : InstanceId) → IsEmptyOf c i ⊎ (false ≡ true) → IsEmptyOf c i
    none i (inl e) = e
    none i (inr never) = cc

    one : (ms : List Message) → c.mail ≡ ms → ms ≡ []
    one [] is = refl
    one (m ∷ ms) is =
        let pending : is_pending c m ≡ true = and-first (is_pending c m) (list_all (is_pending c) ms) (ap (list_all (is_pending c)) (sym is) ∙ k.mail.pending) in
        let t = session_there c few m.session (grind (arith, pending)) in
        let gone : message_of c.mail m.session m.part ≡ None = none t.0 (done t.0) m.session t.1 m.part in
        let here : message_of (m ∷ ms) m.session m.part ≡ Some m = (λ i. if same-self m.session.0 i && part_eq-self m.part i then Some m else message_of ms m.session m.part) in
        let no : None ≡ Some m = sym gone ∙ ap (λ (xs : List Message). message_of xs m.session m.part) is ∙ here in
        absurd (cc)

module _ (spec : Spec) (valid : IsValid spec) (last : Last) where
  module _ (P : Cluster → Type 0) (H : Job → Type 0) (closed : IsClosed P H) (live : List Live) (ks : List Controller) where
    -- as the live instances work, one by one
    record IsBetween (is : List InstanceId) (x : State) : Type 0 where
      at_work : IsAtWork spec valid last (λ c. P c) H closed live ks x
      done : AreDone is x.world.cluster
      there : list_all (Ranges.has_instance spec) is ≡ true
      shown : list_all (λ i. is_some (live_of live i)) is ≡ true

    one_works : (i : InstanceId) (is : List InstanceId) (x : State) → IsBetween (i ∷ is) x → IfGoesOn (λ _ y. IsBetween is y) (Jobs.do_work i x)
    one_works i is x b =
        goes_so (λ _ y. IsAtWork spec valid last (λ c. P c × AreDone (i ∷ is) c) H (closed_done P H (i ∷ is) closed) live ks y × IsEmptyOf y.world.cluster i) (λ _ y. IsBetween is y) (Jobs.do_work i x)
        (worked spec valid last (λ c. P c × AreDone (i ∷ is) c) H (closed_done P H (i ∷ is) closed) live ks i low u.0 u.1 here x (record {
          stands = b.at_work.stands;
          works = record { holds = (b.at_work.works.holds, b.done); sessions = b.at_work.works.sessions; jobs = b.at_work.works.jobs; controllers = b.at_work.works.controllers };
        }))
        (λ _ y e. record {
          at_work = record { stands = e.0.stands; works = record { holds = e.0.works.holds.0; sessions = e.0.works.sessions; jobs = e.0.works.jobs; controllers = e.0.works.controllers } };
          done = λ j. next y e.1 j (e.0.works.holds.1 j);
          there = and-second (Ranges.has_instance spec i) (list_all (Ranges.has_instance spec) is) b.there;
          shown = and-second (is_some (live_of live i)) (list_all (λ j. is_some (live_of live j)) is) b.shown;
        })
      where
        here : Ranges.has_instance spec i ≡ true
        here = and-first (Ranges.has_instance spec i) (list_all (Ranges.has_instance spec) is) b.there

        low : i.0 < length spec.instances
        low = let is = here in grind (arith, nat_tests, is)

        u : (s : SessionId) × (option_map (λ l. l.session) (live_of live i) ≡ Some s)
        u = its_session live i (and-first (is_some (live_of live i)) (list_all (λ j. is_some (live_of live j)) is) b.shown)

        next : (y : State) → IsEmptyOf y.world.cluster i → (j : InstanceId) → IsEmptyOf y.world.cluster j ⊎ (is_in (i ∷ is) j ≡ true) → IsEmptyOf y.world.cluster j ⊎ (is_in is j ≡ true)
        next y e j (inl empty) = inl empty
        next y e j (inr in_them) = two (i.0 == j.0) refl
          where
            two : (b : Bool) → (i.0 == j.0) ≡ b → IsEmptyOf y.world.cluster j ⊎ (is_in is j ≡ true)
            two true same = inl (subst (λ (n : InstanceId). IsEmptyOf y.world.cluster n) (instance_same i j same) e)
            two false same = inr (sym (ap (λ (b : Bool). b || is_in is j) same) ∙ in_them)

    pub all_work : (x : State) → x.world.cluster.live ≡ live → IsAtWork spec valid last (λ c. P c) H closed live ks x
        → IfGoesOn (λ _ y. IsAtWork spec valid last (λ c. P c) H closed live ks y × (y.world.cluster.mail ≡ [])) (work_all x)
    all_work x same a =
        goes_so (λ _ y. IsBetween [] y) (λ _ y. IsAtWork spec valid last (λ c. P c) H closed live ks y × (y.world.cluster.mail ≡ [])) (work_all x)
        (goes_each IsBetween Jobs.do_work one_works (map (λ e. e.1) (live_shown x.world.cluster)) x (record {
          at_work = a;
          done = all_in;
          there = live_instances spec valid last x a.stands.scripted;
          shown = subst (λ (ls : List Live). list_all (λ i. is_some (live_of ls i)) (map (λ e. e.1) (live_shown x.world.cluster)) ≡ true) same (shown_sessions x.world.cluster.live);
        }))
        (λ _ y b. let w = whole_there spec last y.world valid b.at_work.stands.scripted in (b.at_work, nothing_pending y.world.cluster w.kept w.seated.instances b.done))
      where
        all_in : AreDone (map (λ e. e.1) (live_shown x.world.cluster)) x.world.cluster
        all_in i = one (live_of x.world.cluster.live i) refl
          where
            one : (o : Option Live) → live_of x.world.cluster.live i ≡ o → IsEmptyOf x.world.cluster i ⊎ (is_in (map (λ e. e.1) (live_shown x.world.cluster)) i ≡ true)
            one None is = inl (λ s mine q. absurd (let no : ◌≡◌ {A = Option SessionId} None (Some s) = sym (ap (option_map (λ l. l.session)) is) ∙ mine in cc))
            one (Some l) is = inr (shown_in x.world.cluster.live i l is)

  -- the first round: what is enough stays, and who leads
  closed_first : (k : ControllerId) (enough : ℕ) → IsClosed (λ c. (enough_rounds c ≡ enough) × (c.leader ≡ Some k)) (λ j. Unit {0})
  closed_first k enough = record {
    take = λ c s id p. p;
    write = λ c j safe ranged kept can h from p. written c j.message.session j.message.id j.outcome (pending_of c j.message.session j.message.id) p;
    ack = λ c s id kept can p. p;
    ran = λ i m handler x. tt;
    marked = λ j h. tt;
  }
    where
      written : (c : Cluster) (s : SessionId) (id : MsgId) (o : Outcome) (m : Option Message) → (enough_rounds c ≡ enough) × (c.leader ≡ Some k)
          → (enough_rounds (written_of c s id o m) ≡ enough) × ((written_of c s id o m).leader ≡ Some k)
      written c s id o None p = p
      written c s id o (Some m) p = p

  -- a later round falls
  closed_later : (k : ControllerId) (w t l : ℕ) → IsClosed (λ c. IsFalling w t l c × (c.leader ≡ Some k)) (λ j. is_honest j.message j.outcome ≡ true)
  closed_later k w t l = record {
    take = λ c s id p. (take_falls w t l c s id p.0, p.1);
    write = λ c j safe ranged kept can h from p. (
      write_falls w t l c j.message.session j.message.id j.outcome safe ranged kept can (λ m at. honest j m (from m at) h) p.0,
      leads c j.message.session j.message.id j.outcome (pending_of c j.message.session j.message.id) p.1,
    );
    ack = λ c s id kept can p. (ack_falls w t l c s id kept can p.0, p.1);
    ran = λ i m handler x. honest_run i m handler x;
    marked = λ j h. h;
  }
    where
      leads : (c : Cluster) (s : SessionId) (id : MsgId) (o : Outcome) (m : Option Message) → c.leader ≡ Some k → (written_of c s id o m).leader ≡ Some k
      leads c s id o None p = p
      leads c s id o (Some m) p = p

      honest : (j : Job) (m : Message) → m.from ≡ j.message.from → is_honest j.message j.outcome ≡ true → is_honest m j.outcome ≡ true
      honest j m same h = one j.outcome h
        where
          one : (o : Outcome) → is_honest j.message o ≡ true → is_honest m o ≡ true
          one outcomes.Ok e = refl
          one outcomes.Failed e = ap (λ (s : StateId). not (s.0 == error.0)) same ∙ e

      honest_run : (i : InstanceId) (m : Message) (handler : Option ℕ) (x : State) → is_honest m (Jobs.outcome_of_run i m handler x) ≡ true
      honest_run i m None x = one (m.from.0 == error.0) refl
        where
          one : (b : Bool) → (m.from.0 == error.0) ≡ b → is_honest m (if b then outcomes.Ok else outcomes.Failed) ≡ true
          one true e = refl
          one false e = ap not e
      honest_run i m (Some runs) x = one (m.from.0 == error.0) refl
        where
          two : (o : Outcome) → (m.from.0 == error.0) ≡ false → is_honest m o ≡ true
          two outcomes.Ok e = refl
          two outcomes.Failed e = ap not e

          one : (b : Bool) → (m.from.0 == error.0) ≡ b → is_honest m (if b then outcomes.Ok else answer_of x.answers i m.part false (runs + 1)) ≡ true
          one true e = refl
          one false e = two (answer_of x.answers i m.part false (runs + 1)) e

  -- idle as before
  still_idle : (k : ControllerId) (y z : State) → z.world.controllers ≡ y.world.controllers → Turns.left_of y k ≡ [] → Turns.left_of z k ≡ []
  still_idle k y z same idle = ap (λ (ks : List Controller). (slice_index_or ks k.0 (idle_controller k)).turn.left) same ∙ idle

  each_any : (js : List Job) (live : List Live) → Each (OfLive live (λ j. Unit {0})) js
  each_any [] live = tt
  each_any (j ∷ js) live = (λ _. tt, each_any js live)

  each_dead : (js : List Job) (live : List Live) → Each (λ j. is_live live j.message.session ≡ false) js → Each (OfLive live (λ j. is_honest j.message j.outcome ≡ true)) js
  each_dead js live all = each-le (λ j. is_live live j.message.session ≡ false) (OfLive live (λ j. is_honest j.message j.outcome ≡ true)) (λ j dead is. absurd (let no : true ≡ false = sym is ∙ dead in cc)) js all

  pub first_work : (k : ControllerId) (enough : ℕ) (y : State) → IsLed spec last k y → enough_rounds y.world.cluster ≡ enough → IfGoesOn (λ _ z. IsFirstRest spec last k enough z) (work_all y)
  first_work k enough y led same =
      goes_so (λ _ z. IsAtWork spec valid last (λ c. (enough_rounds c ≡ enough) × (c.leader ≡ Some k)) (λ j. Unit {0}) (closed_first k enough) y.world.cluster.live y.world.controllers z × (z.world.cluster.mail ≡ []))
      (λ _ z. IsFirstRest spec last k enough z) (work_all y)
      (all_work (λ c. (enough_rounds c ≡ enough) × (c.leader ≡ Some k)) (λ j. Unit {0}) (closed_first k enough) y.world.cluster.live y.world.controllers y refl (record {
        stands = led.stands;
        works = record { holds = (same, led.leads); sessions = refl; jobs = each_any y.world.jobs y.world.cluster.live; controllers = refl };
      }))
      (λ _ z e. (
        record { led = record { stands = e.0.stands; leads = e.0.works.holds.1; idle = still_idle k y z e.0.works.controllers led.idle }; mail = e.1 },
        e.0.works.holds.0,
      ))

  pub later_work : (k : ControllerId) (w t l : ℕ) (y : State) → IsSetOff spec last k w t l y → IfGoesOn (λ _ z. IsLaterRest spec last k w t l z) (work_all y)
  later_work k w t l y off =
      goes_so (λ _ z. IsAtWork spec valid last (λ c. IsFalling w t l c × (c.leader ≡ Some k)) (λ j. is_honest j.message j.outcome ≡ true) (closed_later k w t l) y.world.cluster.live y.world.controllers z × (z.world.cluster.mail ≡ []))
      (λ _ z. IsLaterRest spec last k w t l z) (work_all y)
      (all_work (λ c. IsFalling w t l c × (c.leader ≡ Some k)) (λ j. is_honest j.message j.outcome ≡ true) (closed_later k w t l) y.world.cluster.live y.world.controllers y refl (record {
        stands = off.led.stands;
        works = record { holds = (off.falls, off.led.leads); sessions = refl; jobs = each_dead y.world.jobs y.world.cluster.live off.jobs; controllers = refl };
      }))
      (λ _ z e. (
        record { led = record { stands = e.0.stands; leads = e.0.works.holds.1; idle = still_idle k y z e.0.works.controllers off.led.idle }; mail = e.1 },
        e.0.works.holds.0,
      ))

  closed_always : IsClosed (λ c. Unit {0}) (λ j. Unit {0})
  closed_always = record {
    take = λ c s id p. tt;
    write = λ c j safe ranged kept can h from p. tt;
    ack = λ c s id kept can p. tt;
    ran = λ i m handler x. tt;
    marked = λ j h. tt;
  }

  pub any_work : (x : State) → Stands spec last x → IfGoesOn (λ _ z. Stands spec last z × (z.world.cluster.mail ≡ [])) (work_all x)
  any_work x st =
      goes_so (λ _ z. IsAtWork spec valid last (λ c. Unit {0}) (λ j. Unit {0}) closed_always x.world.cluster.live x.world.controllers z × (z.world.cluster.mail ≡ [])) (λ _ z. Stands spec last z × (z.world.cluster.mail ≡ []))
      (work_all x)
      (all_work (λ c. Unit {0}) (λ j. Unit {0}) closed_always x.world.cluster.live x.world.controllers x refl (record {
        stands = st;
        works = record { holds = tt; sessions = refl; jobs = each_any x.world.jobs x.world.cluster.live; controllers = refl };
      }))
      (λ _ z e. (e.0.stands, e.1))
