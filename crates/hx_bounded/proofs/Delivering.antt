-- What is fetched in work on a live instance is delivered.
use Rattle.std.proofs.Common.{◌≡◌, ℕ, ◌<◌, ◌||◌, ◌==◌, Bool, true, false, List, [], ◌∷◌, length, filter, find, Option, Some, None, ◌⊎◌, inl, inr, refl, sym, ap, ◌∙◌, subst, arith}
use Rattle.std.specs.Prelude.{if◌then◌else◌, nat_le}
use Rattle.std.specs.List.{list_any, list_all}
use Rattle.std.specs.Option.{option_map}
use Rattle.std.proofs.lemmas.Bool.Decides.{nat_tests}
use Rattle.hx_lists.specs.Lists.{sort_by}
use Rattle.hx_ids.specs.declared.InstanceId.{InstanceId}
use Rattle.hx_ids.specs.declared.SessionId.{SessionId}
use Rattle.hx_ids.specs.declared.MsgId.{MsgId}
use Rattle.hx_ids.specs.declared.PartId.{PartId}
use Rattle.hx_ids.specs.declared.Live.{Live}
use Rattle.hx_cluster.specs.declared.description.Spec.{Spec}
use Rattle.hx_cluster.specs.declared.state.Message.{Message}
use Rattle.hx_cluster.specs.declared.state.Cluster.{Cluster}
use Rattle.hx_cluster.specs.declared.happenings.Mail.{Mail}
use Rattle.hx_cluster.specs.declared.happenings.Event.{Event}
use Rattle.hx_cluster.specs.declared.happenings.Event.TheVariants as events
use Rattle.hx_cluster.specs.Ends.{is_message, message_of}
use Rattle.hx_cluster.specs.Steps.{live_of, session_of}
use Rattle.hx_cluster.specs.Reads.{messages_for, fetched}
use Rattle.hx_cluster.specs.Valid.{IsValid}
use Rattle.hx_control.specs.Controllers.{Controller}
use Rattle.hx_replicas.specs.declared.DeliverFault.{DeliverFault}
use Rattle.hx_replicas.specs.Participants.{Participant, slot_of, deliver_fault, accept, adopt}
use Rattle.hx_script.specs.Ranges as Ranges
use Rattle.hx_worlds.specs.declared.Voice.TheVariants.{Quiet}
use Rattle.hx_worlds.specs.World.{State, Job, participant_of, with_participant}
use Rattle.hx_worlds.specs.Runs.{happened, for_each}
use Rattle.hx_worlds.specs.Jobs as Jobs
use Rattle.hx_safe.proofs.Counting.{and-first, and-second, and-both, find-passes}
use Rattle.hx_safe.proofs.Ends.{same-self}
use Rattle.hx_safe.proofs.Kept.{IsKept}
use Rattle.hx_scripted.specs.OfHistory.{is_fetched}
use Rattle.hx_scripted.proofs.Standing.{Last}
use Rattle.hx_agreed.proofs.Frames.{one_number, found_part}
use Rattle.hx_agreed.proofs.Replicas.{here_put, acceptable}
use Rattle.hx_agreed.proofs.Fetching.{bagged_now}
use Rattle.hx_scripted.proofs.DoingLines.{fetched_history, mail_fetched}
use Rattle.hx_agreed.proofs.DoingLines.{AreReady, IsTaken, fetched_now, accepted_now}
use Rattle.hx_bounded.specs.Ending.{IfGoesOn}
use Rattle.hx_bounded.proofs.Going.{goes_so, goes_each, goes_fetched}
use Rattle.hx_bounded.proofs.Later.{le_both, accepted_last, accepted_here}
use Rattle.hx_bounded.proofs.Carrying.{IsClosed, IsWorking}
use Rattle.hx_bounded.proofs.Working.{IsAtWork, low_there}
use Rattle.hx_bounded.proofs.Emptying.{IsJobless, AreSeen, has_its, kept_now, session_now, IsReady, seen_or_free}

-- where no job is open, adopting ends none
none_of_its : (i : InstanceId) (js : List Job) → ((id : MsgId) → list_any (Jobs.is_job i id) js ≡ false) → filter (Jobs.is_job_of i) js ≡ []
none_of_its i [] e = refl
none_of_its i (j ∷ js) e = one (Jobs.is_job_of i j) refl (none_of_its i js (λ id. let all = e id in grind (arith, all)))
  where
    one : (b : Bool) → Jobs.is_job_of i j ≡ b → filter (Jobs.is_job_of i) js ≡ [] → (if b then j ∷ filter (Jobs.is_job_of i) js else filter (Jobs.is_job_of i) js) ≡ []
    one false is none = none
    one true is none =
        let here : Jobs.is_job i j.message.id j ≡ true = and-both (Jobs.is_job_of i j) (j.message.id.0 == j.message.id.0) is (same-self j.message.id.0) in
        absurd (let no : true ≡ false = sym (ap (λ (b : Bool). b || list_any (Jobs.is_job i j.message.id) js) here) ∙ e j.message.id in cc)

no_jobs : (i : InstanceId) (x : State) → IsJobless i x.world → Jobs.jobs_of i x ≡ []
no_jobs i x none = ap (sort_by Jobs.job_before) (none_of_its i x.world.jobs none)

fetch_is : (i : InstanceId) (mail : Mail) (x : State) → IsJobless i x.world
    → Jobs.fetched_as i mail x ≡ Jobs.bagged mail.messages (if Jobs.same_session (participant_of x.world i).session mail.session then x else Jobs.adopted i mail.session x)
fetch_is i mail x none =
    ap (λ (js : List Job). Jobs.bagged mail.messages (if Jobs.same_session (participant_of x.world i).session mail.session then x else Jobs.adopted i mail.session (Jobs.end_jobs js x))) (no_jobs i x none)

same_is : (a : Option SessionId) (s : SessionId) → Jobs.same_session a (Some s) ≡ true → a ≡ Some s
same_is None s e = cc
same_is (Some t) s e = let same : t.0 ≡ s.0 = grind (arith, nat_tests, e) in ap (λ (n : ℕ). Some (record { 0 = n })) same

find_kept : (p k q : Message → Bool) (ms : List Message) (m : Message) → find p ms ≡ Some m → k m ≡ true → q m ≡ true → list_any q (filter k ms) ≡ true
find_kept p k q [] m e f g = cc
find_kept p k q (x ∷ ms) m e f g = grind (arith, e, f, g, find_kept p k q ms m)

module _ (spec : Spec) (valid : IsValid spec) (last : Last) (P : Cluster → Type 0) (H : Job → Type 0) (closed : IsClosed P H) (live : List Live) (ks : List Controller)
    (i : InstanceId) (low : i.0 < length spec.instances) (s : SessionId) (own : option_map (λ l. l.session) (live_of live i) ≡ Some s) where
  -- as the messages of a fetch are delivered
  record IsDelivering (ms : List Message) (x : State) : Type 0 where
    ready : IsReady spec valid last P H closed live ks i low s own x
    found : AreReady x ms
    shown : list_all (is_fetched spec x.world.history) ms ≡ true
    seen : (q : PartId) (m : Message) → message_of x.world.cluster.mail s q ≡ Some m → (has_its ms m.id ≡ true) ⊎ (nat_le m.id.0 (slot_of (participant_of x.world i) q).last.0 ≡ true)

  module _ (m : Message) (ms : List Message) (x : State) (d : IsDelivering (m ∷ ms) x) where
    k : IsKept x.world.cluster
    k = kept_now spec valid last P H closed live ks i low s own x d.ready.at_work

    -- the message with its number is the one that is delivered
    it_is : (q : PartId) (n : Message) → message_of x.world.cluster.mail s q ≡ Some n → (m.id.0 == n.id.0) ≡ true → n ≡ m
    it_is q n found same =
        one_number x.world.cluster k s m.session q m.part n m found d.found.found.0
        (let number : n.id.0 ≡ m.id.0 = grind (arith, nat_tests, same) in ap (λ (v : ℕ). record { 0 = v }) number)

    refused : (f : DeliverFault) → deliver_fault (participant_of x.world i) m ≡ Some f → IsDelivering ms x
    refused f is = record {
      ready = d.ready;
      found = record { found = d.found.found.1; bagged = d.found.bagged.1 };
      shown = and-second (is_fetched spec x.world.history m) (list_all (is_fetched spec x.world.history) ms) d.shown;
      seen = λ q n at. one q n at (m.id.0 == n.id.0) refl (d.seen q n at);
    }
      where
        one : (q : PartId) (n : Message) → message_of x.world.cluster.mail s q ≡ Some n → (b : Bool) → (m.id.0 == n.id.0) ≡ b
            → ((m.id.0 == n.id.0) || has_its ms n.id ≡ true) ⊎ (nat_le n.id.0 (slot_of (participant_of x.world i) q).last.0 ≡ true)
            → (has_its ms n.id ≡ true) ⊎ (nat_le n.id.0 (slot_of (participant_of x.world i) q).last.0 ≡ true)
        one q n at b e (inr was) = inr was
        one q n at false e (inl there) = inl (sym (ap (λ (b : Bool). b || has_its ms n.id) e) ∙ there)
        one q n at true e (inl there) = inr (free (seen_or_free spec valid last P H closed live ks i low s own x d.ready q n at))
          where
            free : (deliver_fault (participant_of x.world i) n ≡ None) ⊎ (nat_le n.id.0 (slot_of (participant_of x.world i) q).last.0 ≡ true)
                → nat_le n.id.0 (slot_of (participant_of x.world i) q).last.0 ≡ true
            free (inr was) = was
            free (inl none) =
                let no : None ≡ Some f = sym none ∙ ap (λ (y : Message). deliver_fault (participant_of x.world i) y) (it_is q n at e) ∙ is in
                absurd (cc)

    accepted_so : deliver_fault (participant_of x.world i) m ≡ None → IsDelivering ms (with_participant i (accept (participant_of x.world i) m) x)
    accepted_so is = record {
      ready = record {
        at_work = record {
          stands =
              accepted_now spec valid last i m x d.ready.at_work.stands (and-first (is_fetched spec x.world.history m) (list_all (is_fetched spec x.world.history) ms) d.shown) is
              (bagged_now x.world.cluster k x.world.participants x.world.jobs x.world.bag d.ready.at_work.stands.in_step.parts m d.found.found.0) d.found.bagged.0;
          works = record { holds = w.holds; sessions = w.sessions; jobs = w.jobs; controllers = w.controllers };
        };
        jobless = d.ready.jobless;
        mine = ap (λ (p : Participant). p.session) here ∙ d.ready.mine;
      };
      found = record { found = d.found.found.1; bagged = d.found.bagged.1 };
      shown = and-second (is_fetched spec x.world.history m) (list_all (is_fetched spec x.world.history) ms) d.shown;
      seen = λ q n at. one q n at (m.id.0 == n.id.0) refl (d.seen q n at);
    }
      where
        w : IsWorking P H live ks x.world
        w = d.ready.at_work.works

        here : participant_of (with_participant i (accept (participant_of x.world i) m) x).world i ≡ accept (participant_of x.world i) m
        here = here_put x.world.participants i (accept (participant_of x.world i) m) (low_there spec valid last P H closed live ks i low x d.ready.at_work.stands)

        up : (q : PartId) → nat_le (slot_of (participant_of x.world i) q).last.0 (slot_of (participant_of (with_participant i (accept (participant_of x.world i) m) x).world i) q).last.0 ≡ true
        up q =
            subst (λ (p : Participant). nat_le (slot_of (participant_of x.world i) q).last.0 (slot_of p q).last.0 ≡ true) (sym here)
            (accepted_last (participant_of x.world i) m (acceptable (participant_of x.world i) m is).above q)

        one : (q : PartId) (n : Message) → message_of x.world.cluster.mail s q ≡ Some n → (b : Bool) → (m.id.0 == n.id.0) ≡ b
            → ((m.id.0 == n.id.0) || has_its ms n.id ≡ true) ⊎ (nat_le n.id.0 (slot_of (participant_of x.world i) q).last.0 ≡ true)
            → (has_its ms n.id ≡ true) ⊎ (nat_le n.id.0 (slot_of (participant_of (with_participant i (accept (participant_of x.world i) m) x).world i) q).last.0 ≡ true)
        one q n at b e (inr was) =
            inr (le_both n.id.0 (slot_of (participant_of x.world i) q).last.0 (slot_of (participant_of (with_participant i (accept (participant_of x.world i) m) x).world i) q).last.0 was (up q))
        one q n at false e (inl there) = inl (sym (ap (λ (b : Bool). b || has_its ms n.id) e) ∙ there)
        one q n at true e (inl there) =
            let same : n ≡ m = it_is q n at e in
            let part : m.part ≡ q = ap (λ (y : Message). y.part) (sym same) ∙ found_part x.world.cluster k s q n at in
            inr (subst (λ (p : Participant). nat_le n.id.0 (slot_of p q).last.0 ≡ true) (sym here)
            (subst (λ (p : PartId). nat_le n.id.0 (slot_of (accept (participant_of x.world i) m) p).last.0 ≡ true) part
            (subst (λ (y : Message). nat_le y.id.0 (slot_of (accept (participant_of x.world i) m) m.part).last.0 ≡ true) (sym same) (accepted_here (participant_of x.world i) m))))

    delivered : (f : Option DeliverFault) → deliver_fault (participant_of x.world i) m ≡ f → IfGoesOn (λ _ y. IsDelivering ms y) (Jobs.delivered Quiet i m f x)
    delivered (Some f) is = record { to = refused f is }
    delivered None is = record { to = accepted_so is }

  -- all is delivered
  pub record IsDelivered (x : State) : Type 0 where
    pub ready : IsReady spec valid last P H closed live ks i low s own x
    pub seen : AreSeen i s x.world

  all_delivered : (ms : List Message) (x : State) → IsDelivering ms x → IfGoesOn (λ _ y. IsDelivered y) (for_each (Jobs.deliver Quiet i) ms x)
  all_delivered ms x d =
      goes_so (λ _ y. IsDelivering [] y) (λ _ y. IsDelivered y) (for_each (Jobs.deliver Quiet i) ms x)
      (goes_each IsDelivering (Jobs.deliver Quiet i) (λ m rest y here. delivered m rest y here (deliver_fault (participant_of y.world i) m) refl) ms x d)
      (λ _ y here. record { ready = here.ready; seen = λ q m at. seen_now y here q m at (here.seen q m at) })
    where
      seen_now : (y : State) (here : IsDelivering [] y) (q : PartId) (m : Message) → message_of y.world.cluster.mail s q ≡ Some m
          → (false ≡ true) ⊎ (nat_le m.id.0 (slot_of (participant_of y.world i) q).last.0 ≡ true) → nat_le m.id.0 (slot_of (participant_of y.world i) q).last.0 ≡ true
      seen_now y here q m at (inr was) = was
      seen_now y here q m at (inl never) = cc

  -- a fetch
  module _ (there : Ranges.has_instance spec i ≡ true) (x : State) (a : IsAtWork spec valid last P H closed live ks x) (none : IsJobless i x.world) where
    abbrev its_mail : List Message
    its_mail = messages_for x.world.cluster (session_of x.world.cluster i)

    abbrev fetching : State
    fetching = happened (events.Fetch i (session_of x.world.cluster i) (length its_mail)) x

    abbrev after_fetch : Bool → State
    after_fetch b = Jobs.bagged its_mail (if b then fetching else Jobs.adopted i (session_of x.world.cluster i) fetching)

    begun : (b : Bool) → Jobs.same_session (participant_of x.world i).session (session_of x.world.cluster i) ≡ b → (z : State)
        → z ≡ after_fetch b
        → IsTaken spec valid last z its_mail → list_all (is_fetched spec z.world.history) its_mail ≡ true
        → IsDelivering its_mail z
    begun b same z is taken shown = record {
      ready = record {
        at_work = record { stands = taken.stands; works = subst (λ (y : State). IsWorking P H live ks y.world) (sym is) (works b) };
        jobless = subst (λ (y : State). IsJobless i y.world) (sym is) (jobless b);
        mine = subst (λ (y : State). (participant_of y.world i).session ≡ Some s) (sym is) (mine b same);
      };
      found = taken.ready;
      shown = shown;
      seen = λ q m at. inl (seen q m (subst (λ (y : State). message_of y.world.cluster.mail s q ≡ Some m) is at));
    }
      where
        w : IsWorking P H live ks x.world
        w = a.works

        works : (b : Bool) → IsWorking P H live ks (after_fetch b).world
        works true = record { holds = w.holds; sessions = w.sessions; jobs = w.jobs; controllers = w.controllers }
        works false = record { holds = w.holds; sessions = w.sessions; jobs = w.jobs; controllers = w.controllers }

        jobless : (b : Bool) → IsJobless i (after_fetch b).world
        jobless true = none
        jobless false = none

        mine : (b : Bool) → Jobs.same_session (participant_of x.world i).session (session_of x.world.cluster i) ≡ b
            → (participant_of (after_fetch b).world i).session ≡ Some s
        mine true is =
            same_is (participant_of x.world i).session s
            (ap (Jobs.same_session (participant_of x.world i).session) (sym (session_now spec valid last P H closed live ks i low s own x a)) ∙ is)
        mine false is =
            ap (λ (p : Participant). p.session) (here_put x.world.participants i (adopt (participant_of x.world i) (session_of x.world.cluster i)) (low_there spec valid last P H closed live ks i low x a.stands))
            ∙ session_now spec valid last P H closed live ks i low s own x a

        same_mail : (b : Bool) → (after_fetch b).world.cluster ≡ x.world.cluster
        same_mail true = refl
        same_mail false = refl

        seen : (q : PartId) (m : Message) → message_of (after_fetch b).world.cluster.mail s q ≡ Some m
            → has_its its_mail m.id ≡ true
        seen q m at =
            let found : message_of x.world.cluster.mail s q ≡ Some m = ap (λ (d : Cluster). message_of d.mail s q) (sym (same_mail b)) ∙ at in
            ap (λ (o : Option SessionId). has_its (messages_for x.world.cluster o) m.id) (session_now spec valid last P H closed live ks i low s own x a)
            ∙ find_kept (is_message s q) (λ n. n.session.0 == s.0) (λ n. n.id.0 == m.id.0) x.world.cluster.mail m found
            (and-first (m.session.0 == s.0) _ (find-passes (is_message s q) x.world.cluster.mail m found)) (same-self m.id.0)

    pub fetched_and_delivered : IfGoesOn (λ _ y. IsDelivered y) (Jobs.fetch_and_deliver i (fetched x.world.cluster i) x)
    fetched_and_delivered =
        goes_fetched (λ _ y. IsDelivered y) (events.Fetch i (session_of x.world.cluster i) (length its_mail)) x
        (λ y. Jobs.fetched_as i (fetched x.world.cluster i) y) (λ y. for_each (Jobs.deliver Quiet i) (fetched x.world.cluster i).messages y)
        (λ room.
        let mail = fetched x.world.cluster i in
        let y = fetching in
        let b = Jobs.same_session (participant_of x.world i).session (session_of x.world.cluster i) in
        let z = Jobs.fetched_as i mail y in
        all_delivered mail.messages z
        (begun b refl z (fetch_is i mail y none) (fetched_now spec valid last i x there a.stands room)
        (subst (λ (h : List Event). list_all (is_fetched spec h) mail.messages ≡ true) (sym (fetched_history b i mail y)) (mail_fetched spec valid last i x a.stands.scripted))))
