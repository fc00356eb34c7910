-- What lines of a script, and whole scripts, do keeps what holds of a world. So their histories are lawful.
use Rattle.std.proofs.Common.{◌≡◌, ℕ, zero, suc, ◌+◌, ◌==◌, Bool, true, false, List, [], ◌∷◌, ◌++◌, map, length, refl, sym, ap, ◌∙◌, subst, arith}
use Rattle.std.specs.Prelude.{Option, None, Some, not, nat_lt, if◌then◌else◌, slice_index_or, replicate}
use Rattle.std.specs.List.{list_all}
use Rattle.hx_lists.specs.Lists.{numbers_from}
use Rattle.hx_ids.specs.declared.InstanceId.{InstanceId}
use Rattle.hx_ids.specs.declared.SessionId.{SessionId}
use Rattle.hx_ids.specs.declared.MsgId.{MsgId}
use Rattle.hx_ids.specs.declared.Live.{Live}
use Rattle.hx_cluster.specs.declared.description.Spec.{Spec}
use Rattle.hx_cluster.specs.declared.state.Message.{Message}
use Rattle.hx_cluster.specs.declared.state.Cluster.{Cluster}
use Rattle.hx_cluster.specs.declared.happenings.Admin.{Admin}
use Rattle.hx_cluster.specs.declared.happenings.Admin.TheVariants as steps
use Rattle.hx_cluster.specs.declared.happenings.Did.TheVariants as dids
use Rattle.hx_cluster.specs.declared.happenings.Event.{Event}
use Rattle.hx_cluster.specs.declared.happenings.Event.TheVariants as events
use Rattle.hx_cluster.specs.declared.happenings.Mail.{Mail}
use Rattle.hx_cluster.specs.Ends.{shown_of}
use Rattle.hx_cluster.specs.Steps.{opening, refusal_of, did_of, has_instance, is_in_range, session_of}
use Rattle.hx_cluster.specs.Reads.{instance_before, live_shown, messages_for, fetched}
use Rattle.hx_cluster.specs.Events.{replay, is_later, can_take, can_write, can_ack}
use Rattle.hx_cluster.specs.Weight.{weight_of}
use Rattle.hx_cluster.specs.Valid.{IsValid}
use Rattle.hx_pass.specs.Lawful.{IsProperAlong, IsLawful}
use Rattle.hx_replicas.specs.declared.DeliverFault.{DeliverFault}
use Rattle.hx_replicas.specs.Participants.{new_participant, slot_of, deliver_fault, accept, accepted_by, makes, hand_out}
use Rattle.hx_script.specs.declared.What.{What}
use Rattle.hx_script.specs.declared.Line.{Line}
use Rattle.hx_script.specs.Ranges as Ranges
use Rattle.hx_control.specs.Controllers.{idle_controller}
use Rattle.hx_worlds.specs.World.{State, Job, opening_world, participant_of, with_participant}
use Rattle.hx_worlds.specs.declared.Voice.{Voice}
use Rattle.hx_worlds.specs.declared.Voice.TheVariants.{Quiet, Loud}
use Rattle.hx_worlds.specs.Items.{Item, Happens}
use Rattle.hx_worlds.specs.Runs.{Deed, GoesOn, Stops, state_of, done, and_then, happened, make, happen, for_each}
use Rattle.hx_worlds.specs.Jobs
use Rattle.hx_worlds.specs.Settles
use Rattle.hx_worlds.specs.Scripts
use Rattle.hx_worlds.proofs.BroughtByLines.{prints_its_history}
use Rattle.hx_safe.proofs.Counting.{and-first, and-second, all-map, all-le, all-find}
use Rattle.hx_safe.proofs.Whole.{length-replicate}
use Rattle.hx_lawful.proofs.Sorting.{all-sort}
use Rattle.hx_lawful.specs.Holding.{HoldsOfLawful}
use Rattle.hx_lawful.proofs.Holding.{holds_of_lawful}
use Rattle.hx_scripted.specs.OfHistory.{is_fetched, has_fetched, IsTurnOf, IsOfItsHistory}
use Rattle.hx_scripted.proofs.Standing.{Last, at_line, since, ranged_there, fixed_there, idle_there, scripted_other, scripted_since}
use Rattle.hx_scripted.proofs.Lines.{step-line, write-line}
use Rattle.hx_scripted.proofs.Asked.{instance_there, asked_well}
use Rattle.hx_scripted.proofs.Keeping.{Keeps, keeps_then, keeps_more, keeps_after, happens, happens_then, makes_then, done_then, line_then, choice}
use Rattle.hx_scripted.proofs.Stepping.{fault_there}
use Rattle.hx_scripted.proofs.Taking.{jobs_there, job_ended, adopted_there, history_kept, bagged_there, fetch_fetched, handed_there, put_back_there, accepted_there, accepted_fetched, participant_there}
use Rattle.hx_scripted.proofs.Walking.{StepsKeep, keeps_note, keeps_call, keeps_loud, view_said, settle_keeps, what_keeps}
use Rattle.hx_scripted.proofs.DoingTurns.{Stands, keeps_line, keeps_step}

-- a fetch leaves the history as it is
pub fetched_history : (is_same : Bool) (i : InstanceId) (mail : Mail) (x : State)
    → (Jobs.bagged mail.messages (if is_same then x else Jobs.adopt_in i mail.session x)).world.history ≡ x.world.history
fetched_history true i mail x = refl
fetched_history false i mail x = history_kept (Jobs.jobs_of i x) x

module _ (spec : Spec) (valid : IsValid spec) (last : Last) where
  -- a fetch
  mail_taken : (is_same : Bool) (i : InstanceId) (mail : Mail) (x : State) → Stands spec last x → list_all (is_fetched spec x.world.history) mail.messages ≡ true
      → Stands spec last (Jobs.bagged mail.messages (if is_same then x else Jobs.adopt_in i mail.session x))
  mail_taken true i mail x s all = bagged_there spec last mail.messages x s all
  mail_taken false i mail x s all =
      bagged_there spec last mail.messages (Jobs.adopt_in i mail.session x) (adopted_there spec last i mail.session x s)
      (subst (λ (h : List Event). list_all (is_fetched spec h) mail.messages ≡ true) (sym (history_kept (Jobs.jobs_of i x) x)) all)

  pub fetch_happens : (i : InstanceId) (x : State) → Ranges.has_instance spec i ≡ true → Stands spec last x
      → Stands spec last (happened (events.Fetch i (session_of x.world.cluster i) (length (messages_for x.world.cluster (session_of x.world.cluster i)))) x)
  fetch_happens i x there s =
      let c = x.world.cluster in
      let e : Event = events.Fetch i (session_of c i) (length (messages_for c (session_of c i))) in
      scripted_other spec last last.line x.world e (happened e x).world.weight s (instance_there spec c i (fixed_there spec last x.world s) there, refl, refl) tt s.line (λ k. refl)

  pub mail_fetched : (i : InstanceId) (x : State) → Stands spec last x
      → list_all (is_fetched spec (x.world.history ++ events.Fetch i (session_of x.world.cluster i) (length (messages_for x.world.cluster (session_of x.world.cluster i))) ∷ []))
      (messages_for x.world.cluster (session_of x.world.cluster i)) ≡ true
  mail_fetched i x s =
      subst (λ (c : Cluster). list_all (is_fetched spec (x.world.history ++ events.Fetch i (session_of c i) (length (messages_for c (session_of c i))) ∷ [])) (messages_for c (session_of c i)) ≡ true)
      (sym s.of.cluster)
      (let c = replay (opening spec) x.world.history in fetch_fetched spec x.world.history i (session_of c i) (length (messages_for c (session_of c i))))

  fetched_then : (i : InstanceId) (x : State) (g : State → Deed) → Ranges.has_instance spec i ≡ true → Stands spec last x
      → ((y : State) → Stands spec last y → list_all (is_fetched spec y.world.history) (fetched x.world.cluster i).messages ≡ true → Keeps (Stands spec last) (g y))
      → Keeps (Stands spec last) (and_then (Jobs.fetch_mail i (fetched x.world.cluster i) x) g)
  fetched_then i x g there s next =
      let mail = fetched x.world.cluster i in
      let e : Event = events.Fetch i mail.session (length mail.messages) in
      let y = happened e x in
      let b = Jobs.same_session (participant_of y.world i).session mail.session in
      let all = mail_fetched i x s in
      done_then (Stands spec last) e x (λ y. Jobs.fetched_as i mail y) g s
      (λ room. next (Jobs.fetched_as i mail y) (mail_taken b i mail y (fetch_happens i x there s) all)
      (subst (λ (h : List Event). list_all (is_fetched spec h) mail.messages ≡ true) (sym (fetched_history b i mail y)) all))

  fetch_done : (i : InstanceId) (x : State) → Ranges.has_instance spec i ≡ true → Stands spec last x → Keeps (Stands spec last) (Jobs.do_fetch i x)
  fetch_done i x there s =
      let mail = fetched x.world.cluster i in
      let e : Event = events.Fetch i mail.session (length mail.messages) in
      let y = happened e x in
      happens_then (Stands spec last) e x (λ y. done (Jobs.fetched_as i mail y)) s
      (λ room. record { left = mail_taken (Jobs.same_session (participant_of y.world i).session mail.session) i mail y (fetch_happens i x there s) (mail_fetched i x s) })

  -- deliveries
  delivered : (v : Voice) (i : InstanceId) (m : Message) (f : Option DeliverFault) (x : State) → Stands spec last x → is_fetched spec x.world.history m ≡ true
      → Keeps (Stands spec last) (Jobs.delivered v i m f x)
  delivered v i m (Some f) x s is = keeps_note (Stands spec last) (keeps_line spec valid last) v _ x s
  delivered v i m None x s is =
      keeps_loud (Stands spec last) (keeps_line spec valid last) v 1 _ (with_participant i (accept (participant_of x.world i) m) x) (accepted_there spec last i m x s is)

  from_bag : (v : Voice) (i : InstanceId) (id : MsgId) (o : Option Message) (x : State) → Stands spec last x → Jobs.in_bag id x ≡ o → Keeps (Stands spec last) (Jobs.deliver_from_bag v i o x)
  from_bag v i id None x s is = keeps_note (Stands spec last) (keeps_line spec valid last) v _ x s
  from_bag v i id (Some m) x s is = delivered v i m _ x s (all-find (is_fetched spec x.world.history) (λ m. m.id.0 == id.0) x.world.bag m s.of.bag is)

  delivered_then : (i : InstanceId) (m : Message) (f : Option DeliverFault) (x : State) (g : State → Deed) → Stands spec last x → is_fetched spec x.world.history m ≡ true
      → ((y : State) → y.world.history ≡ x.world.history → Stands spec last y → Keeps (Stands spec last) (g y)) → Keeps (Stands spec last) (and_then (Jobs.delivered Quiet i m f x) g)
  delivered_then i m (Some f) x g s is next = keeps_after (Stands spec last) [] (g x) (next x refl s)
  delivered_then i m None x g s is next =
      let y = with_participant i (accept (participant_of x.world i) m) x in
      keeps_after (Stands spec last) [] (g y) (next y refl (accepted_there spec last i m x s is))

  all_delivered : (i : InstanceId) (ms : List Message) (x : State) → Stands spec last x → list_all (is_fetched spec x.world.history) ms ≡ true
      → Keeps (Stands spec last) (for_each (Jobs.deliver Quiet i) ms x)
  all_delivered i [] x s all = record { left = s }
  all_delivered i (m ∷ ms) x s all =
      delivered_then i m (deliver_fault (participant_of x.world i) m) x (λ y. for_each (Jobs.deliver Quiet i) ms y) s
      (and-first (is_fetched spec x.world.history m) (list_all (is_fetched spec x.world.history) ms) all)
      (λ y same there. all_delivered i ms y there
      (subst (λ (h : List Event). list_all (is_fetched spec h) ms ≡ true) (sym same) (and-second (is_fetched spec x.world.history m) (list_all (is_fetched spec x.world.history) ms) all)))

  -- an answer that is used up, and a job that ran
  answer_used : (is : Bool) (x : State) → Stands spec last x → Stands spec last (Jobs.if_answered is x)
  answer_used true x s = s
  answer_used false x s = s

  answer_history : (is : Bool) (x : State) → (Jobs.if_answered is x).world.history ≡ x.world.history
  answer_history true x = refl
  answer_history false x = refl

  job_ran : (i : InstanceId) (m : Message) (handler : Option ℕ) (x : State) → Stands spec last x → Stands spec last (Jobs.ran i m handler x)
  job_ran i m handler x s =
      let y = Jobs.if_answered (Jobs.runs_handler m handler) x in
      jobs_there spec last y.world (y.world.jobs ++ Jobs.job_run i m handler x ∷ []) (answer_used (Jobs.runs_handler m handler) x s)

  -- takes, writes and acknowledgements
  job_taken : (v : Voice) (i : InstanceId) (m : Message) (handler : Option ℕ) (x : State) → Stands spec last x → is_fetched spec x.world.history m ≡ true
      → Keeps (Stands spec last) (Jobs.take_job v i m handler x)
  job_taken v i m handler x s is =
      let e : Event = events.Take m.session m.id in
      choice (Stands spec last) (can_take x.world.cluster m.session m.id) _ _
      (λ can. makes_then (Stands spec last) e x (λ y. done (Jobs.ran i m handler y))
      (record { left = job_ran i m handler (happened e x) (scripted_other spec last last.line x.world e (happened e x).world.weight s can is s.line (λ k. refl)) }))
      (λ can. keeps_note (Stands spec last) (keeps_line spec valid last) v _ (Jobs.put_back i m handler x) (put_back_there spec last i m handler x s))

  taken : (v : Voice) (i : InstanceId) (id : MsgId) (o : Option Message) (x : State) → Stands spec last x → accepted_by (participant_of x.world i) id ≡ o
      → Keeps (Stands spec last) (Jobs.take_accepted v i o x)
  taken v i id None x s is = keeps_note (Stands spec last) (keeps_line spec valid last) v _ x s
  taken v i id (Some m) x s is =
      let is_faulted = Jobs.fails_to_make i m x in
      let made = makes (slot_of (participant_of x.world i) m.part) m in
      let out = with_participant i (hand_out (participant_of x.world i) m is_faulted) x in
      job_taken v i m (Jobs.handler_of i m is_faulted x) (Jobs.if_answered made out) (answer_used made out (handed_there spec last i m is_faulted x s))
      (subst (λ (h : List Event). is_fetched spec h m ≡ true) (sym (answer_history made out))
      (accepted_fetched spec x.world.history (participant_of x.world i) id m (participant_there spec last x.world i s) is))

  written : (v : Voice) (j : Option Job) (x : State) → Stands spec last x → Keeps (Stands spec last) (Jobs.write_job v j x)
  written v None x s = keeps_note (Stands spec last) (keeps_line spec valid last) v _ x s
  written v (Some j) x s =
      let e : Event = events.Write j.message.session j.message.id j.outcome in
      let y = happened e x in
      keeps_call (Stands spec last) (keeps_line spec valid last) v j x j.is_written (can_write x.world.cluster j.message.session j.message.id) e (Jobs.with_written j.instance j.message.id) s
      (λ on can. jobs_there spec last y.world (map (Jobs.as_written_job j.instance j.message.id) y.world.jobs)
      (scripted_other spec last last.line x.world e y.world.weight s can tt (write-line x.world.cluster j.message.session j.message.id j.outcome ∙ s.line) (λ k. refl)))
      (λ on refused. job_ended spec last j x s)

  acked : (v : Voice) (j : Option Job) (x : State) → Stands spec last x → Keeps (Stands spec last) (Jobs.ack_job v j x)
  acked v None x s = keeps_note (Stands spec last) (keeps_line spec valid last) v _ x s
  acked v (Some j) x s =
      let e : Event = events.Ack j.message.session j.message.id in
      keeps_call (Stands spec last) (keeps_line spec valid last) v j x (not j.is_written) (can_ack x.world.cluster j.message.session j.message.id) e (Jobs.end_job j) s
      (λ on can. job_ended spec last j (happened e x) (scripted_other spec last last.line x.world e (happened e x).world.weight s can tt s.line (λ k. refl)))
      (λ on refused. job_ended spec last j x s)

  -- the instances of live sessions are of the description
  pub live_instances : (x : State) → Stands spec last x → list_all (Ranges.has_instance spec) (map (λ e. e.1) (live_shown x.world.cluster)) ≡ true
  live_instances x s =
      let c = x.world.cluster in
      let instances : length c.instances ≡ length spec.instances = (fixed_there spec last x.world s).instances ∙ length-replicate (length spec.instances) false in
      all-map (Ranges.has_instance spec) (λ (e : SessionId × InstanceId). e.1) (live_shown c)
      ∙ all-sort (λ (e : SessionId × InstanceId). Ranges.has_instance spec e.1) instance_before (shown_of c.live)
      ∙ all-map (λ (e : SessionId × InstanceId). Ranges.has_instance spec e.1) (λ (l : Live). (l.session, l.instance)) c.live
      ∙ all-le (λ (l : Live). has_instance c l.instance) (λ (l : Live). Ranges.has_instance spec l.instance) (λ (l : Live) (is : has_instance c l.instance ≡ true). ap (nat_lt l.instance.0) (sym instances) ∙ is) c.live
      (ranged_there spec last x.world valid s).live

  -- steps
  pub step_happens : (step : Admin) (x : State) → is_in_range x.world.cluster step ≡ true → refusal_of x.world.cluster step ≡ None → Stands spec last x
      → Stands spec last (happened (events.Admin step (did_of x.world.cluster step)) x)
  step_happens step x well is s =
      let e : Event = events.Admin step (did_of x.world.cluster step) in
      scripted_other spec last last.line x.world e (happened e x).world.weight s (well, is, refl) tt (step-line x.world.cluster step ∙ s.line) (λ k. refl)

  died_there : (i : InstanceId) (x : State) → Ranges.has_instance spec i ≡ true → refusal_of x.world.cluster (steps.End i) ≡ None → Stands spec last x
      → Keeps (Stands spec last) (and_then (happen (events.Admin (steps.End i) dids.Done) x) (λ y. done (Jobs.adopt_in i None y)))
  died_there i x there is s =
      let e : Event = events.Admin (steps.End i) dids.Done in
      let well = instance_there spec x.world.cluster i (fixed_there spec last x.world s) there in
      happens_then (Stands spec last) e x (λ y. done (Jobs.adopt_in i None y)) s (λ room. record { left = adopted_there spec last i None (happened e x) (step_happens (steps.End i) x well is s) })

  -- so all steps of words keep it
  keep : StepsKeep spec (Stands spec last)
  keep = record {
    said = keeps_line spec valid last;
    idle = λ k x s. fault_there spec last x k s;
    step = keeps_step spec valid last;
    asked = λ what x is s. asked_well spec x.world.cluster what valid (fixed_there spec last x.world s) is;
    happens = λ step x well is s. happens (Stands spec last) (events.Admin step (did_of x.world.cluster step)) x s (λ room. step_happens step x well is s);
    dies = died_there;
    fetch = fetch_done;
    deliver = λ v i id x s. from_bag v i id _ x s refl;
    take = λ v i id x s. taken v i id _ x s refl;
    write = λ v i id x s. written v _ x s;
    ack = λ v i id x s. acked v _ x s;
    bring = λ i x there s.
        fetched_then i x (λ z. for_each (Jobs.deliver Quiet i) (fetched x.world.cluster i).messages z) there s (λ z now all. all_delivered i (fetched x.world.cluster i).messages z now all);
    live = live_instances;
  }

  what_done : (v : Voice) (what : What) (x : State) → Ranges.is_in_range spec what ≡ true → Stands spec last x → Keeps (Stands spec last) (Scripts.do_what v what x)
  what_done v what x is s = what_keeps spec (Stands spec last) keep v what x is s

-- it holds of a state after some line
record HasStood (spec : Spec) (is_lawful : Bool) (x : State) : Type 0 where
  pub line : Option ℕ
  pub stands : Stands spec (record { line = line; is_lawful = is_lawful }) x

-- lines, one after the other
pub line_happens : (spec : Spec) (last : Last) (n : ℕ) (x : State) → is_later last.line n ≡ true → Stands spec last x → Stands spec (at_line last (Some n)) (happened (events.Line n) x)
line_happens spec last n x later s =
    let e : Event = events.Line n in
    scripted_other spec last (Some n) x.world e (happened e x).world.weight s (ap (λ (o : Option ℕ). is_later o n) s.line ∙ later) tt refl (λ k. refl)

lines_done : (spec : Spec) → IsValid spec → (last : Last) (ls : List Line) (x : State) → Scripts.are_next_lines spec last.line ls ≡ true → Stands spec last x
    → Keeps (HasStood spec last.is_lawful) (for_each Scripts.do_line ls x)
lines_done spec valid last [] x all s = record { left = record { line = last.line; stands = s } }
lines_done spec valid last (l ∷ ls) x all s =
    let first = and-first (Scripts.is_next_line spec last.line l) (Scripts.are_next_lines spec (Some l.number) ls) all in
    let later = and-first (is_later last.line l.number) (Ranges.is_line_in_range spec l) first in
    let ranged = and-second (is_later last.line l.number) (Ranges.is_line_in_range spec l) first in
    line_then (Stands spec (at_line last (Some l.number))) (HasStood spec last.is_lawful) (events.Line l.number) x (λ y. Scripts.do_what (Loud l.number) l.what y) (λ y. for_each Scripts.do_line ls y)
    (record { line = last.line; stands = s })
    (what_done spec valid (at_line last (Some l.number)) (Loud l.number) l.what (happened (events.Line l.number) x) ranged (line_happens spec last l.number x later s))
    (λ y there. record { line = Some l.number; stands = there })
    (λ y there. lines_done spec valid (at_line last (Some l.number)) ls y (and-second (Scripts.is_next_line spec last.line l) (Scripts.are_next_lines spec (Some l.number) ls) all) there)

-- the opening
idle_listed : (a n j k : ℕ) → k ≡ a + j → slice_index_or (map (λ i. idle_controller (record { 0 = i })) (numbers_from a n)) j (idle_controller (record { 0 = k })) ≡ idle_controller (record { 0 = k })
idle_listed a zero j k same = refl
idle_listed a (suc n) zero k same = let here : a ≡ k = omega arith in ap (λ (i : ℕ). idle_controller (record { 0 = i })) here
idle_listed a (suc n) (suc j) k same = idle_listed (a + 1) n j k (omega arith)

many_listed : (a n : ℕ) → length (map (λ i. idle_controller (record { 0 = i })) (numbers_from a n)) ≡ n
many_listed a zero = refl
many_listed a (suc n) = let more = many_listed (a + 1) n in omega arith

none_accepted : (spec : Spec) (n : ℕ) → list_all (has_fetched spec []) (replicate n new_participant) ≡ true
none_accepted spec zero = refl
none_accepted spec (suc n) = none_accepted spec n

pub opening_of : (spec : Spec) (limit : ℕ) → IsOfItsHistory spec (opening_world spec limit)
opening_of spec limit = record {
  given = refl;
  legal = tt;
  cluster = refl;
  controllers = many_listed 0 spec.controllers;
  turns = λ k. subst (IsTurnOf spec [] k) (sym (idle_listed 0 spec.controllers k.0 k.0 (omega arith))) (idle_there spec [] k);
  bag = refl;
  accepted = none_accepted spec (length spec.instances);
}

opening_stands : (spec : Spec) → Stands spec (record { line = None; is_lawful = true }) (Scripts.opening_state spec)
opening_stands spec = record { of = opening_of spec Scripts.most_weight; line = refl; proper = λ is. tt }

-- a whole script
script_done : (spec : Spec) → IsValid spec → (lines : List Line) → Scripts.are_next_lines spec None lines ≡ true → Keeps (HasStood spec true) (Scripts.sim_run spec lines)
script_done spec valid lines all =
    keeps_then (HasStood spec true) (for_each Scripts.do_line lines (Scripts.opening_state spec)) Scripts.do_view
    (lines_done spec valid (record { line = None; is_lawful = true }) lines (Scripts.opening_state spec) all (opening_stands spec))
    (λ y there. keeps_more (Stands spec (record { line = there.line; is_lawful = true })) (HasStood spec true) (Scripts.do_view y)
    (view_said (Stands spec (record { line = there.line; is_lawful = true })) (keeps_line spec valid (record { line = there.line; is_lawful = true })) y there.stands) (λ z here. record { line = there.line; stands = here }))

lawful_stood : (spec : Spec) (x : State) → HasStood spec true x → IsLawful spec x.world.history
lawful_stood spec x s = (s.stands.of.legal, s.stands.proper refl)

-- what a script, a line and a settle leave
pub lawful_scripts : (spec : Spec) (lines : List Line) → IsValid spec → Scripts.are_next_lines spec None lines ≡ true → IsLawful spec (Scripts.sim_history spec lines)
lawful_scripts spec lines valid all =
    subst (λ (h : List Event). IsLawful spec h) (prints_its_history spec lines) (lawful_stood spec (state_of (Scripts.sim_run spec lines)) (script_done spec valid lines all).left)

line_stood : (spec : Spec) (l : Line) (x : State) (is_lawful : Bool) → IsValid spec → IsOfItsHistory spec x.world → (is_lawful ≡ true → IsProperAlong spec [] x.world.history)
    → Scripts.is_next_line spec x.world.cluster.line l ≡ true → HasStood spec is_lawful (state_of (Scripts.do_line l x))
line_stood spec l x is_lawful valid of proper next =
    let last : Last = record { line = x.world.cluster.line; is_lawful = is_lawful } in
    let s : Stands spec last x = record { of = of; line = refl; proper = proper } in
    let later = and-first (is_later x.world.cluster.line l.number) (Ranges.is_line_in_range spec l) next in
    let ranged = and-second (is_later x.world.cluster.line l.number) (Ranges.is_line_in_range spec l) next in
    let k = what_done spec valid (at_line last (Some l.number)) (Loud l.number) l.what (happened (events.Line l.number) x) ranged (line_happens spec last l.number x later s) in
    (happens_then (HasStood spec is_lawful) (events.Line l.number) x (λ y. Scripts.do_what (Loud l.number) l.what y) (record { line = x.world.cluster.line; stands = s })
    (λ room. keeps_more (Stands spec (at_line last (Some l.number))) (HasStood spec is_lawful) (Scripts.do_what (Loud l.number) l.what (happened (events.Line l.number) x)) k
    (λ y there. record { line = Some l.number; stands = there }))).left

pub line_left : (spec : Spec) (l : Line) (x : State) → IsValid spec → IsOfItsHistory spec x.world → Scripts.is_next_line spec x.world.cluster.line l ≡ true
    → IsOfItsHistory spec (state_of (Scripts.do_line l x)).world
line_left spec l x valid of next = (line_stood spec l x false valid of (λ is. cc) next).stands.of

pub line_lawful : (spec : Spec) (l : Line) (x : State) → IsValid spec → IsOfItsHistory spec x.world → IsLawful spec x.world.history → Scripts.is_next_line spec x.world.cluster.line l ≡ true
    → IsLawful spec (state_of (Scripts.do_line l x)).world.history
line_lawful spec l x valid of lawful next = lawful_stood spec (state_of (Scripts.do_line l x)) (line_stood spec l x true valid of (λ is. lawful.1) next)

-- a line that is done is the last
line_on : (spec : Spec) (n : ℕ) (stops : Bool) (e : Event) (x y : State) (is : List Item) (f : State → Deed) → Keeps (Stands spec (since (Some n))) (f (happened e x))
    → and_then (if stops then Stops [] x else make e x) f ≡ GoesOn is y tt → y.world.cluster.line ≡ Some n
line_on spec n true e x y is f keeps ends = cc
line_on spec n false e x y is f keeps ends =
    subst (λ (z : State). z.world.cluster.line ≡ Some n) (ap state_of ends) (keeps_after (Stands spec (since (Some n))) (Happens e ∷ []) (f (happened e x)) keeps).left.line

pub line_done : (spec : Spec) (l : Line) (x y : State) (is : List Item) → IsValid spec → IsOfItsHistory spec x.world → Scripts.is_next_line spec x.world.cluster.line l ≡ true
    → Scripts.do_line l x ≡ GoesOn is y tt → y.world.cluster.line ≡ Some l.number
line_done spec l x y is valid of next ends =
    let last = since x.world.cluster.line in
    let s : Stands spec last x = scripted_since spec x.world of in
    let later = and-first (is_later x.world.cluster.line l.number) (Ranges.is_line_in_range spec l) next in
    let ranged = and-second (is_later x.world.cluster.line l.number) (Ranges.is_line_in_range spec l) next in
    let e : Event = events.Line l.number in
    line_on spec l.number (nat_lt x.world.limit (x.world.weight + weight_of e)) e x y is (λ z. Scripts.do_what (Loud l.number) l.what z)
    (what_done spec valid (since (Some l.number)) (Loud l.number) l.what (happened e x) ranged (line_happens spec last l.number x later s)) ends

settle_stands : (spec : Spec) (last : Last) (x : State) → IsValid spec → Stands spec last x → Stands spec last (state_of (Settles.settle x))
settle_stands spec last x valid s = (settle_keeps spec (Stands spec last) (keep spec valid last) x.world.cluster.leader x s).left

pub settle_left : (spec : Spec) (x : State) → IsValid spec → IsOfItsHistory spec x.world → IsOfItsHistory spec (state_of (Settles.settle x)).world
settle_left spec x valid of = (settle_stands spec (since x.world.cluster.line) x valid (scripted_since spec x.world of)).of

pub settle_lawful : (spec : Spec) (x : State) → IsValid spec → IsOfItsHistory spec x.world → IsLawful spec x.world.history → IsLawful spec (state_of (Settles.settle x)).world.history
settle_lawful spec x valid of lawful =
    let s = settle_stands spec (record { line = x.world.cluster.line; is_lawful = true }) x valid (record { of = of; line = refl; proper = λ is. lawful.1 }) in
    (s.of.legal, s.proper refl)

-- and what holds at each place of a script's history
pub holds_of_scripts : (spec : Spec) (lines : List Line) (h more : List Event) → IsValid spec → Scripts.are_next_lines spec None lines ≡ true → Scripts.sim_history spec lines ≡ h ++ more
    → HoldsOfLawful spec h
holds_of_scripts spec lines h more valid all is =
    holds_of_lawful spec h more valid (subst (λ (es : List Event). IsLawful spec es) is (lawful_scripts spec lines valid all))
