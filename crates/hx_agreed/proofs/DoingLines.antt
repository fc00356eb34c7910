-- What lines of a script do keeps a world in step.
use Rattle.std.proofs.Common.{◌≡◌, ℕ, ◌+◌, ◌<◌, ◌≤◌, ◌==◌, Bool, true, false, List, [], ◌∷◌, length, refl, sym, ap, ◌∙◌, subst, arith}
use Rattle.std.specs.Prelude.{Option, None, Some, if◌then◌else◌}
use Rattle.std.specs.List.{list_any, list_all}
use Rattle.std.specs.Option.{option_map}
use Rattle.std.proofs.lemmas.Bool.Decides.{nat_tests}
use Rattle.hx_lists.specs.Lists.{count}
use Rattle.hx_ids.specs.declared.InstanceId.{InstanceId}
use Rattle.hx_ids.specs.declared.SessionId.{SessionId}
use Rattle.hx_ids.specs.declared.MsgId.{MsgId}
use Rattle.hx_ids.specs.declared.Live.{Live}
use Rattle.hx_cluster.specs.declared.description.Spec.{Spec}
use Rattle.hx_cluster.specs.declared.state.Message.{Message}
use Rattle.hx_cluster.specs.declared.state.Cluster.{Cluster}
use Rattle.hx_cluster.specs.declared.happenings.Admin.{Admin}
use Rattle.hx_cluster.specs.declared.happenings.Admin.TheVariants as steps
use Rattle.hx_cluster.specs.declared.happenings.Did.TheVariants as dids
use Rattle.hx_cluster.specs.declared.happenings.Event.{Event}
use Rattle.hx_cluster.specs.declared.happenings.Event.TheVariants as events
use Rattle.hx_cluster.specs.declared.happenings.Mail.{Mail}
use Rattle.hx_cluster.specs.Steps.{refusal_of, did_of, has_instance, is_in_range, session_of}
use Rattle.hx_cluster.specs.Reads.{messages_for, fetched}
use Rattle.hx_cluster.specs.Events.{is_later}
use Rattle.hx_cluster.specs.Valid.{IsValid}
use Rattle.hx_replicas.specs.declared.DeliverFault.{DeliverFault}
use Rattle.hx_replicas.specs.Participants.{deliver_fault, accept}
use Rattle.hx_script.specs.declared.Line.{Line}
use Rattle.hx_script.specs.Ranges as Ranges
use Rattle.hx_worlds.specs.World.{State, participant_of, with_participant}
use Rattle.hx_worlds.specs.declared.Voice.{Voice}
use Rattle.hx_worlds.specs.declared.Voice.TheVariants.{Quiet, Loud}
use Rattle.hx_worlds.specs.Runs.{Deed, state_of, done, and_then, happened, for_each}
use Rattle.hx_worlds.specs.Jobs
use Rattle.hx_worlds.specs.Settles
use Rattle.hx_worlds.specs.Scripts
use Rattle.hx_safe.proofs.Counting.{and-first, and-second, all-find}
use Rattle.hx_scripted.proofs.Asked.{instance_there, asked_well}
use Rattle.hx_scripted.proofs.Taking.{adopted_there, history_kept, bagged_there, accepted_there}
use Rattle.hx_cluster.specs.Ends.{is_live, message_of}
use Rattle.hx_cluster.specs.Steps.{is_of, live_of, ended_of}
use Rattle.hx_cluster.specs.Messages.{is_same}
use Rattle.hx_cluster.specs.Weight.{weight_of}
use Rattle.hx_safe.proofs.Counting.{all-find, find-any}
use Rattle.hx_safe.proofs.Ends.{same-self}
use Rattle.hx_safe.proofs.Ideals.{length-put}
use Rattle.hx_safe.proofs.Kept.{IsKept}
use Rattle.hx_safe.proofs.Calming.{same_self}
use Rattle.hx_safe.proofs.On.{other-live}
use Rattle.hx_scripted.specs.OfHistory.{is_fetched, IsOfItsHistory}
use Rattle.hx_scripted.proofs.Standing.{Last, at_line, since, fixed_there, scripted_since}
use Rattle.hx_scripted.proofs.Keeping.{Keeps, keeps_more, keeps_after, happens, happens_then, done_then}
use Rattle.hx_scripted.proofs.Walking.{StepsKeep, keeps_note, keeps_loud, settle_keeps, what_keeps}
use Rattle.hx_scripted.proofs.DoingLines as Scripted
use Rattle.hx_scripted.proofs.DoingLines.{fetched_history, mail_fetched, live_instances}
use Rattle.hx_agreed.specs.InStep.{Each, of_instance, IsInBag, IsInStep}
use Rattle.hx_agreed.proofs.Quiet.{back-without}
use Rattle.hx_agreed.proofs.Replicas.{accept_in_step}
use Rattle.hx_agreed.proofs.Fetching.{cluster_left, all_put_in_step, all_in_bag, bagged_now, adopt_world_in_step, mail_found}
use Rattle.hx_agreed.proofs.Going.{whole_there, each-find, board_happens}
use Rattle.hx_agreed.proofs.DoingTurns.{Stands, idle_there, keeps_line, keeps_step}
use Rattle.hx_agreed.proofs.Doing.{keeps_taken, keeps_write, keeps_ack}

-- messages that are pending, as they are, and that the bag has
abbrev pub AreFound : Cluster → List Message → Type 0
AreFound c ms = Each (λ m. message_of c.mail m.session m.part ≡ Some m) ms

pub record AreReady (x : State) (ms : List Message) : Type 0 where
  pub found : AreFound x.world.cluster ms
  pub bagged : Each (λ m. list_any (is_same m) x.world.bag ≡ true) ms

-- a session that ended is that of its instance no more
after_end : (c : Cluster) (i : InstanceId) → ((j : InstanceId) → count (is_of j) c.live ≤ 1) → (o : Option Live) → live_of c.live i ≡ o → (s : SessionId) → session_of (ended_of c o) i ≡ Some s → is_live (ended_of c o).live s ≡ true → ⊥
after_end c i few None is s e live = absurd (let z : ◌≡◌ {A = Option SessionId} None (Some s) = sym (ap (option_map (λ l. l.session)) is) ∙ e in (cc))
after_end c i few (Some l) is s e live =
    let before = back-without c.live l.session s i (few i) e in
    let same : l.session ≡ s = some_is l.session s (sym (ap (option_map (λ x. x.session)) is) ∙ before) in
    let other = other-live c.live l.session s live in
    absurd (let z : true ≡ false = sym (subst (λ (u : SessionId). (s.0 == u.0) ≡ true) (sym same) (same-self s.0)) ∙ other in (cc))
  where
    some_is : (a b : SessionId) → Some a ≡ Some b → a ≡ b
    some_is a b e = (cc)

same_session_is : (a b : Option SessionId) (s : SessionId) → a ≡ Some s → b ≡ Some s → Jobs.same_session a b ≡ true
same_session_is a b s e f =
    ap (λ (o : Option SessionId). Jobs.same_session o b) e ∙ ap (λ (o : Option SessionId). Jobs.same_session (Some s) o) f ∙ same-self s.0

-- an instance fetches what waits for it
abbrev pub fetch_of : InstanceId → Cluster → Event
fetch_of i c = events.Fetch i (session_of c i) (length (messages_for c (session_of c i)))

module _ (spec : Spec) (valid : IsValid spec) (last : Last) where
  pub kept_now : (x : State) → Stands spec last x → IsKept x.world.cluster
  kept_now x s = (whole_there spec last x.world valid s.scripted).kept

  pub in_range_now : (i : InstanceId) (x : State) → Ranges.has_instance spec i ≡ true → Stands spec last x → i.0 < length x.world.participants
  in_range_now i x there s =
      let many = s.in_step.participants in
      let given : length x.world.spec.instances ≡ length spec.instances = ap (λ (g : Spec). length g.instances) s.scripted.of.given in
      grind (arith, nat_tests, there, many, given)

  -- a session is adopted
  pub adopted_now : (i : InstanceId) (o : Option SessionId) (x : State) → Ranges.has_instance spec i ≡ true → Stands spec last x
      → ((s : SessionId) → (of_instance x.world.participants i).session ≡ Some s → is_live x.world.cluster.live s ≡ false) → ((s : SessionId) → o ≡ Some s → session_of x.world.cluster i ≡ Some s)
      → Stands spec last (Jobs.adopt_in i o x)
  adopted_now i o x there s dead theirs = record {
    scripted = adopted_there spec last i o x s.scripted;
    in_step = adopt_world_in_step x i o (kept_now x s) s.in_step (in_range_now i x there s) dead theirs;
  }

  -- messages go into the bag
  bagged_here : (ms : List Message) (x : State) → Stands spec last x → list_all (is_fetched spec x.world.history) ms ≡ true → AreFound x.world.cluster ms → Stands spec last (Jobs.bagged ms x)
  bagged_here ms x s all found = record {
    scripted = bagged_there spec last ms x s.scripted all;
    in_step = record {
      parts = all_put_in_step x.world.cluster (kept_now x s) x.world.participants x.world.jobs ms found x.world.bag s.in_step.parts;
      participants = s.in_step.participants;
      weight = s.in_step.weight;
    };
  }

  ready_here : (ms : List Message) (x : State) → Stands spec last x → AreFound x.world.cluster ms → AreReady (Jobs.bagged ms x) ms
  ready_here ms x s found = record {
    found = found;
    bagged = all_in_bag x.world.cluster (kept_now x s) x.world.participants x.world.jobs ms found x.world.bag s.in_step.parts;
  }

  left_dead : (i : InstanceId) (x : State) → Stands spec last x → Jobs.same_session (participant_of x.world i).session (session_of x.world.cluster i) ≡ false
      → (s : SessionId) → (of_instance x.world.participants i).session ≡ Some s → is_live x.world.cluster.live s ≡ false
  left_dead i x st other s mine = one (is_live x.world.cluster.live s) refl
    where
      one : (b : Bool) → is_live x.world.cluster.live s ≡ b → b ≡ false
      one false e = refl
      one true e =
          let own = (st.in_step.parts.each i).own s mine e in
          absurd (let z : true ≡ false = sym (same_session_is (participant_of x.world i).session (session_of x.world.cluster i) s mine own) ∙ other in (cc))

  pub adopted_own : (i : InstanceId) (x : State) → Ranges.has_instance spec i ≡ true → Stands spec last x → Jobs.same_session (participant_of x.world i).session (session_of x.world.cluster i) ≡ false
      → Stands spec last (Jobs.adopt_in i (session_of x.world.cluster i) x)
  adopted_own i x there s other = adopted_now i (session_of x.world.cluster i) x there s (left_dead i x s other) (λ u e. e)

  pub record IsTaken (x : State) (ms : List Message) : Type 0 where
    pub stands : Stands spec last x
    pub ready : AreReady x ms

  mail_taken : (b : Bool) (i : InstanceId) (mail : Mail) (x : State) → Ranges.has_instance spec i ≡ true → Jobs.same_session (participant_of x.world i).session (session_of x.world.cluster i) ≡ b
      → mail.session ≡ session_of x.world.cluster i → Stands spec last x → list_all (is_fetched spec x.world.history) mail.messages ≡ true → AreFound x.world.cluster mail.messages
      → IsTaken (Jobs.bagged mail.messages (if b then x else Jobs.adopt_in i mail.session x)) mail.messages
  mail_taken true i mail x there same its s all found = record { stands = bagged_here mail.messages x s all found; ready = ready_here mail.messages x s found }
  mail_taken false i mail x there same its s all found =
      let y = Jobs.adopt_in i mail.session x in
      let g = adopted_now i mail.session x there s (left_dead i x s same) (λ u e. sym its ∙ e) in
      let f = subst (λ (c : Cluster). AreFound c mail.messages) (sym (cluster_left (Jobs.jobs_of i x) x)) found in
      record {
        stands = bagged_here mail.messages y g (subst (λ (h : List Event). list_all (is_fetched spec h) mail.messages ≡ true) (sym (history_kept (Jobs.jobs_of i x) x)) all) f;
        ready = ready_here mail.messages y g f;
      }

  pub fetch_happens : (i : InstanceId) (x : State) → Ranges.has_instance spec i ≡ true → Stands spec last x
      → x.world.weight + weight_of (fetch_of i x.world.cluster) ≤ x.world.limit
      → Stands spec last (happened (fetch_of i x.world.cluster) x)
  fetch_happens i x there s room =
      let c = x.world.cluster in
      let e = fetch_of i c in
      record {
        scripted = Scripted.fetch_happens spec valid last i x there s.scripted;
        in_step = board_happens spec valid last e x s (instance_there spec c i (fixed_there spec last x.world s.scripted) there, refl, refl) refl room;
      }

  pub fetched_now : (i : InstanceId) (x : State) → Ranges.has_instance spec i ≡ true → Stands spec last x
      → x.world.weight + weight_of (fetch_of i x.world.cluster) ≤ x.world.limit
      → IsTaken (Jobs.fetched_as i (fetched x.world.cluster i) (happened (fetch_of i x.world.cluster) x)) (messages_for x.world.cluster (session_of x.world.cluster i))
  fetched_now i x there s room =
      let c = x.world.cluster in
      let y = happened (fetch_of i c) x in
      mail_taken (Jobs.same_session (participant_of y.world i).session (session_of c i)) i (fetched x.world.cluster i) y there refl refl (fetch_happens i x there s room) (mail_fetched spec valid last i x s.scripted) (mail_found c (kept_now x s) (session_of c i))

  pub fetched_there : (i : InstanceId) (x : State) → Ranges.has_instance spec i ≡ true → Stands spec last x
      → x.world.weight + weight_of (fetch_of i x.world.cluster) ≤ x.world.limit
      → Stands spec last (Jobs.fetched_as i (fetched x.world.cluster i) (happened (fetch_of i x.world.cluster) x))
  fetched_there i x there s room = (fetched_now i x there s room).stands

  fetched_then : (i : InstanceId) (x : State) (g : State → Deed) → Ranges.has_instance spec i ≡ true → Stands spec last x
      → ((y : State) → IsTaken y (fetched x.world.cluster i).messages → list_all (is_fetched spec y.world.history) (fetched x.world.cluster i).messages ≡ true → Keeps (Stands spec last) (g y))
      → Keeps (Stands spec last) (and_then (Jobs.fetch_mail i (fetched x.world.cluster i) x) g)
  fetched_then i x g there s next =
      let mail = fetched x.world.cluster i in
      let e = fetch_of i x.world.cluster in
      let y = happened e x in
      let b = Jobs.same_session (participant_of y.world i).session mail.session in
      done_then (Stands spec last) e x (λ y. Jobs.fetched_as i mail y) g s
      (λ room. next (Jobs.fetched_as i mail y) (fetched_now i x there s room)
      (subst (λ (h : List Event). list_all (is_fetched spec h) mail.messages ≡ true) (sym (fetched_history b i mail y)) (mail_fetched spec valid last i x s.scripted)))

  pub fetch_done : (i : InstanceId) (x : State) → Ranges.has_instance spec i ≡ true → Stands spec last x → Keeps (Stands spec last) (Jobs.do_fetch i x)
  fetch_done i x there s =
      let mail = fetched x.world.cluster i in
      let e = fetch_of i x.world.cluster in
      happens_then (Stands spec last) e x (λ y. done (Jobs.fetched_as i mail y)) s (λ room. record { left = (fetched_now i x there s room).stands })

  -- deliveries
  pub accepted_now : (i : InstanceId) (m : Message) (x : State) → Stands spec last x → is_fetched spec x.world.history m ≡ true → deliver_fault (participant_of x.world i) m ≡ None
      → IsInBag x.world.cluster x.world.participants m → list_any (is_same m) x.world.bag ≡ true → Stands spec last (with_participant i (accept (participant_of x.world i) m) x)
  accepted_now i m x s is none its there = record {
    scripted = accepted_there spec last i m x s.scripted is;
    in_step = record {
      parts = accept_in_step x.world.cluster x.world.participants x.world.jobs x.world.bag (kept_now x s) s.in_step.parts i m none its there;
      participants = length-put x.world.participants i.0 (accept (participant_of x.world i) m) ∙ s.in_step.participants;
      weight = s.in_step.weight;
    };
  }

  pub delivered : (v : Voice) (i : InstanceId) (m : Message) (f : Option DeliverFault) (x : State) → deliver_fault (participant_of x.world i) m ≡ f → Stands spec last x → is_fetched spec x.world.history m ≡ true
      → IsInBag x.world.cluster x.world.participants m → list_any (is_same m) x.world.bag ≡ true → Keeps (Stands spec last) (Jobs.delivered v i m f x)
  delivered v i m (Some f) x e s is its there = keeps_note (Stands spec last) (keeps_line spec valid last) v _ x s
  delivered v i m None x e s is its there =
      keeps_loud (Stands spec last) (keeps_line spec valid last) v 1 _ (with_participant i (accept (participant_of x.world i) m) x) (accepted_now i m x s is e its there)

  pub accepted_from_bag : (i : InstanceId) (id : MsgId) (m : Message) (x : State) → Stands spec last x → Jobs.in_bag id x ≡ Some m → deliver_fault (participant_of x.world i) m ≡ None
      → Stands spec last (with_participant i (accept (participant_of x.world i) m) x)
  accepted_from_bag i id m x s is none =
      accepted_now i m x s (all-find (is_fetched spec x.world.history) (λ m. m.id.0 == id.0) x.world.bag m s.scripted.of.bag is) none
      (each-find (IsInBag x.world.cluster x.world.participants) (λ m. m.id.0 == id.0) x.world.bag m s.in_step.parts.bagged is) (find-any (λ m. m.id.0 == id.0) (is_same m) x.world.bag m is (same_self m))

  pub from_bag : (v : Voice) (i : InstanceId) (id : MsgId) (o : Option Message) (x : State) → Stands spec last x → Jobs.in_bag id x ≡ o → Keeps (Stands spec last) (Jobs.deliver_from_bag v i o x)
  from_bag v i id None x s is = keeps_note (Stands spec last) (keeps_line spec valid last) v _ x s
  from_bag v i id (Some m) x s is =
      delivered v i m _ x refl s (all-find (is_fetched spec x.world.history) (λ m. m.id.0 == id.0) x.world.bag m s.scripted.of.bag is)
      (each-find (IsInBag x.world.cluster x.world.participants) (λ m. m.id.0 == id.0) x.world.bag m s.in_step.parts.bagged is) (find-any (λ m. m.id.0 == id.0) (is_same m) x.world.bag m is (same_self m))

  delivered_then : (i : InstanceId) (m : Message) (ms : List Message) (f : Option DeliverFault) (x : State) (g : State → Deed) → deliver_fault (participant_of x.world i) m ≡ f → Stands spec last x → AreReady x ms
      → is_fetched spec x.world.history m ≡ true → IsInBag x.world.cluster x.world.participants m → list_any (is_same m) x.world.bag ≡ true
      → ((y : State) → y.world.history ≡ x.world.history → Stands spec last y → AreReady y ms → Keeps (Stands spec last) (g y)) → Keeps (Stands spec last) (and_then (Jobs.delivered Quiet i m f x) g)
  delivered_then i m ms (Some f) x g e s ready is its there next = keeps_after (Stands spec last) [] (g x) (next x refl s ready)
  delivered_then i m ms None x g e s ready is its there next =
      let y = with_participant i (accept (participant_of x.world i) m) x in
      keeps_after (Stands spec last) [] (g y) (next y refl (accepted_now i m x s is e its there) (record { found = ready.found; bagged = ready.bagged }))

  all_delivered : (i : InstanceId) (ms : List Message) (x : State) → Stands spec last x → AreReady x ms → list_all (is_fetched spec x.world.history) ms ≡ true
      → Keeps (Stands spec last) (for_each (Jobs.deliver Quiet i) ms x)
  all_delivered i [] x s ready all = record { left = s }
  all_delivered i (m ∷ ms) x s ready all =
      delivered_then i m ms (deliver_fault (participant_of x.world i) m) x (λ y. for_each (Jobs.deliver Quiet i) ms y) refl s (record { found = ready.found.1; bagged = ready.bagged.1 })
      (and-first (is_fetched spec x.world.history m) (list_all (is_fetched spec x.world.history) ms) all)
      (bagged_now x.world.cluster (kept_now x s) x.world.participants x.world.jobs x.world.bag s.in_step.parts m ready.found.0) ready.bagged.0
      (λ y same there now. all_delivered i ms y there now
      (subst (λ (h : List Event). list_all (is_fetched spec h) ms ≡ true) (sym same) (and-second (is_fetched spec x.world.history m) (list_all (is_fetched spec x.world.history) ms) all)))

  -- steps
  pub step_happens : (step : Admin) (x : State) → is_in_range x.world.cluster step ≡ true → refusal_of x.world.cluster step ≡ None → Stands spec last x
      → x.world.weight + weight_of (events.Admin step (did_of x.world.cluster step)) ≤ x.world.limit → Stands spec last (happened (events.Admin step (did_of x.world.cluster step)) x)
  step_happens step x well is s room =
      let e : Event = events.Admin step (did_of x.world.cluster step) in
      record {
        scripted = Scripted.step_happens spec valid last step x well is s.scripted;
        in_step = board_happens spec valid last e x s (well, is, refl) refl room;
      }

  end_dead : (i : InstanceId) (x : State) → Stands spec last x → (y : State) → y.world.cluster ≡ ended_of x.world.cluster (live_of x.world.cluster.live i) → Stands spec last y
      → (s : SessionId) → (of_instance y.world.participants i).session ≡ Some s → is_live y.world.cluster.live s ≡ false
  end_dead i x st y same now s mine = one (is_live y.world.cluster.live s) refl
    where
      one : (b : Bool) → is_live y.world.cluster.live s ≡ b → b ≡ false
      one false e = refl
      one true e =
          let own = (now.in_step.parts.each i).own s mine e in
          absurd (after_end x.world.cluster i (whole_there spec last x.world valid st.scripted).seated.instances (live_of x.world.cluster.live i) refl s
          (subst (λ (c : Cluster). session_of c i ≡ Some s) same own) (subst (λ (c : Cluster). is_live c.live s ≡ true) same e))

  pub died_there : (i : InstanceId) (x : State) → Ranges.has_instance spec i ≡ true → refusal_of x.world.cluster (steps.End i) ≡ None → is_in_range x.world.cluster (steps.End i) ≡ true → Stands spec last x
      → x.world.weight + weight_of (events.Admin (steps.End i) dids.Done) ≤ x.world.limit → Stands spec last (Jobs.adopt_in i None (happened (events.Admin (steps.End i) dids.Done) x))
  died_there i x there is well s room =
      let e : Event = events.Admin (steps.End i) dids.Done in
      let now = step_happens (steps.End i) x well is s room in
      adopted_now i None (happened e x) there now (end_dead i x s (happened e x) refl now) (λ u none. absurd (never u none))
    where
      never : (u : SessionId) → ◌≡◌ {A = Option SessionId} None (Some u) → ⊥
      never u e = (cc)

  -- so all steps of words keep it
  pub keep : StepsKeep spec (Stands spec last)
  keep = record {
    said = keeps_line spec valid last;
    idle = λ k x s. idle_there spec valid last k x s;
    step = keeps_step spec valid last;
    asked = λ what x is s. asked_well spec x.world.cluster what valid (fixed_there spec last x.world s.scripted) is;
    happens = λ step x well is s. happens (Stands spec last) (events.Admin step (did_of x.world.cluster step)) x s (λ room. step_happens step x well is s room);
    dies = λ i x there is s.
        let well = instance_there spec x.world.cluster i (fixed_there spec last x.world s.scripted) there in
        happens_then (Stands spec last) (events.Admin (steps.End i) dids.Done) x (λ y. done (Jobs.adopt_in i None y)) s (λ room. record { left = died_there i x there is well s room });
    fetch = fetch_done;
    deliver = λ v i id x s. from_bag v i id _ x s refl;
    take = λ v i id x s. keeps_taken spec valid last v i id _ x s refl;
    write = keeps_write spec valid last;
    ack = keeps_ack spec valid last;
    bring = λ i x there s.
        fetched_then i x (λ z. for_each (Jobs.deliver Quiet i) (fetched x.world.cluster i).messages z) there s
        (λ z now all. all_delivered i (fetched x.world.cluster i).messages z now.stands now.ready all);
    live = λ x s. live_instances spec valid last x s.scripted;
  }

-- it holds of a state after some line
pub record HasStood (spec : Spec) (x : State) : Type 0 where
  pub last : Last
  pub stands : Stands spec last x

pub line_happens : (spec : Spec) (valid : IsValid spec) (last : Last) (n : ℕ) (x : State) → is_later last.line n ≡ true → Stands spec last x → x.world.weight + weight_of (events.Line n) ≤ x.world.limit
    → Stands spec (at_line last (Some n)) (happened (events.Line n) x)
line_happens spec valid last n x later s room =
    let e : Event = events.Line n in
    let step = ap (λ (o : Option ℕ). is_later o n) s.scripted.line ∙ later in
    record {
      scripted = Scripted.line_happens spec last n x later s.scripted;
      in_step = board_happens spec valid last e x s step refl room;
    }

-- what a line and a settle leave
pub line_left : (spec : Spec) (l : Line) (x : State) → IsValid spec → IsOfItsHistory spec x.world → IsInStep x.world → Scripts.is_next_line spec x.world.cluster.line l ≡ true
    → IsInStep (state_of (Scripts.do_line l x)).world
line_left spec l x valid of in_step next =
    let last = since x.world.cluster.line in
    let s : Stands spec last x = record { scripted = scripted_since spec x.world of; in_step = in_step } in
    let later = and-first (is_later x.world.cluster.line l.number) (Ranges.is_line_in_range spec l) next in
    let ranged = and-second (is_later x.world.cluster.line l.number) (Ranges.is_line_in_range spec l) next in
    (happens_then (HasStood spec) (events.Line l.number) x (λ y. Scripts.do_what (Loud l.number) l.what y) (record { last = last; stands = s })
    (λ room. keeps_more (Stands spec (since (Some l.number))) (HasStood spec) (Scripts.do_what (Loud l.number) l.what (happened (events.Line l.number) x))
    (what_keeps spec (Stands spec (since (Some l.number))) (keep spec valid (since (Some l.number))) (Loud l.number) l.what (happened (events.Line l.number) x) ranged (line_happens spec valid last l.number x later s room))
    (λ y there. record { last = since (Some l.number); stands = there }))).left.stands.in_step

pub settle_left : (spec : Spec) (x : State) → IsValid spec → IsOfItsHistory spec x.world → IsInStep x.world → IsInStep (state_of (Settles.settle x)).world
settle_left spec x valid of in_step =
    (settle_keeps spec (Stands spec (since x.world.cluster.line)) (keep spec valid (since x.world.cluster.line)) x.world.cluster.leader x (record { scripted = scripted_since spec x.world of; in_step = in_step })).left.in_step
