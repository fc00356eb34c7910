-- A turn of the leader between rounds settles, or sends messages that are on their way.
use Rattle.std.proofs.Common.{◌≡◌, ℕ, zero, suc, ◌+◌, ◌<◌, ◌||◌, ◌&&◌, ◌==◌, not, Bool, true, false, List, [], ◌∷◌, ◌++◌, length, drop, map, filter, Option, Some, None, ◌⊎◌, inl, inr, refl, sym, ap, ◌∙◌, subst, arith}
use Rattle.std.specs.Prelude.{if◌then◌else◌, nat_lt, nat_le, slice_get}
use Rattle.std.specs.List.{list_all}
use Rattle.std.specs.Option.{option_map_or}
use Rattle.std.proofs.lemmas.Bool.Decides.{nat_tests}
use Rattle.hx_lists.specs.Lists.{count, numbers_below}
use Rattle.hx_ids.specs.declared.ControllerId.{ControllerId}
use Rattle.hx_ids.specs.declared.SessionId.{SessionId}
use Rattle.hx_ids.specs.declared.InstanceId.{InstanceId}
use Rattle.hx_ids.specs.declared.PassNo.{PassNo}
use Rattle.hx_ids.specs.declared.Epoch.{Epoch}
use Rattle.hx_ids.specs.declared.Live.{Live as LiveSession}
use Rattle.hx_cluster.specs.declared.description.Spec.{Spec}
use Rattle.hx_cluster.specs.declared.description.Resource.{Resource}
use Rattle.hx_cluster.specs.declared.state.Message.{Message}
use Rattle.hx_cluster.specs.declared.state.Cluster.{Cluster}
use Rattle.hx_cluster.specs.declared.planning.View.{View}
use Rattle.hx_cluster.specs.declared.planning.Plan.{Plan}
use Rattle.hx_cluster.specs.declared.happenings.Begun.{Begun}
use Rattle.hx_cluster.specs.declared.happenings.Proposal.{Proposal}
use Rattle.hx_cluster.specs.declared.happenings.Seen.{Seen}
use Rattle.hx_cluster.specs.declared.happenings.Event.{Event}
use Rattle.hx_cluster.specs.declared.happenings.Event.TheVariants as events
use Rattle.hx_cluster.specs.Ends.{is_live, message_of, parts_of}
use Rattle.hx_cluster.specs.Steps.{opening, is_leader, has_controller}
use Rattle.hx_cluster.specs.Reads.{live_shown, mail_shown, states_shown, ideals_shown, pass_of}
use Rattle.hx_cluster.specs.Messages.{raised_pass, next_pass, after_dispatch}
use Rattle.hx_cluster.specs.Events.{next, replay, begun_of, dispatched_of, is_pass, is_epoch}
use Rattle.hx_cluster.specs.Valid.{IsValid}
use Rattle.hx_cluster.specs.Views.{is_well_formed}
use Rattle.hx_pass.specs.Turns.{Call, Live, Mail, States, Ideals, Send, Post, Turn, idle_turn, begun_turn, is_first, is_due, is_of_epoch, calls_after_live, with_live, gone_on, if_due, turn_of, turn_after, posted_of}
use Rattle.hx_pass.specs.Plans.{plan}
use Rattle.hx_pass.specs.Left.{left_of}
use Rattle.hx_pass.specs.Explained.{view_at}
use Rattle.hx_lawful.specs.Reading.{is_read}
use Rattle.hx_lawful.proofs.Leads.{pass_own}
use Rattle.hx_lawful.proofs.Whole.{read_law}
use Rattle.hx_control.specs.declared.PassOutcome.{PassOutcome}
use Rattle.hx_control.specs.declared.PassOutcome.TheVariants as ends
use Rattle.hx_control.specs.declared.ControlFault.TheVariants as faults
use Rattle.hx_control.specs.Controllers.{Controller, idle_controller}
use Rattle.hx_control.specs.OfBoard.{IsPlanOf}
use Rattle.hx_control.specs.Steps.{Step, Calls, Refuses, is_sent, outcome_of, has_parts_of, is_of_cluster, begin_step, read_step, planned_step, of_cluster, step_at, after_step}
use Rattle.hx_worlds.specs.declared.Voice.TheVariants.{Quiet}
use Rattle.hx_worlds.specs.World.{World, State, Job, controller_of, with_controller}
use Rattle.hx_worlds.specs.Runs.{gives, go_on, happened}
use Rattle.hx_worlds.specs.Turns as Turns
use Rattle.hx_safe.proofs.Counting.{and-both}
use Rattle.hx_safe.proofs.Ends.{same-self}
use Rattle.hx_safe.proofs.Fixed.{IsFixed}
use Rattle.hx_safe.proofs.Whole.{length-replicate}
use Rattle.hx_scripted.proofs.Standing.{Last, fixed_there}
use Rattle.hx_agreed.specs.InStep.{Each, IsHeldJob}
use Rattle.hx_agreed.proofs.Lists.{each-le}
use Rattle.hx_agreed.proofs.DoingTurns.{Stands, keeps_step}
use Rattle.hx_settled.specs.Places.{tries_left}
use Rattle.hx_settled.specs.Standing.{read_at}
use Rattle.hx_settled.proofs.Gathering.{plan_read}
use Rattle.hx_settled.proofs.Steady.{read_whole}
use Rattle.hx_bounded.specs.Ending.{IfGoesOn}
use Rattle.hx_bounded.specs.Measure.{all_walks}
use Rattle.hx_bounded.specs.Falling.{IsOnTheWay, IsFalling}
use Rattle.hx_bounded.proofs.Going.{goes_on, goes_so, goes_too, goes_both, goes_gives}
use Rattle.hx_bounded.specs.Rounds.{by_outcome}
use Rattle.hx_bounded.proofs.Rounds.{IsAtRest, IsSetOff, IsLaterTurn, safe_there, ranged_there}
use Rattle.hx_bounded.proofs.Stepping.{alike_dispatch, ComesTo, step_comes, listed, put_is, own_turn, due_turn}
use Rattle.hx_bounded.proofs.Sent.{dispatch_falls}
use Rattle.hx_bounded.proofs.Turning.{IsTold, IsThrough, turn_through}

-- what a pass that is raised leaves as it was
record IsBeside (c d : Cluster) : Type 0 where
  epoch : d.epoch ≡ c.epoch
  change : d.change ≡ c.change
  mail : d.mail ≡ c.mail
  live : d.live ≡ c.live
  leader : d.leader ≡ c.leader
  walks : all_walks d ≡ all_walks c
  tries : tries_left d ≡ tries_left c
  left : left_of d ≡ left_of c

beside_pass : (c : Cluster) (k : ControllerId) → IsBeside c (next_pass c k)
beside_pass c k = one (slice_get c.controllers k.0)
  where
    one : (o : Option (Bool × PassNo)) → IsBeside c (raised_pass c k o)
    one None = record { epoch = refl; change = refl; mail = refl; live = refl; leader = refl; walks = refl; tries = refl; left = refl }
    one (Some d) = record { epoch = refl; change = refl; mail = refl; live = refl; leader = refl; walks = refl; tries = refl; left = refl }

-- a post lets a round fall as before
way_posted : (w t l : ℕ) (c : Cluster) (rows : List Seen) → IsFalling w t l c → IsFalling w t l (record c { posted = rows })
way_posted w t l c rows f = record { size = f.size; resets = λ m u. f.resets m (record { pending = u.pending; unwritten = u.unwritten }); falls = one f.falls }
  where
    one : (tries_left c < t) ⊎ IsOnTheWay t l c → (tries_left c < t) ⊎ IsOnTheWay t l (record c { posted = rows })
    one (inl few) = inl few
    one (inr way) = inr (record {
      tries_same = way.tries_same;
      ways = λ m u.
          let g = way.ways m (record { pending = u.pending; unwritten = u.unwritten }) in
          record { resource = g.resource; instance = g.instance; there = g.there; shown = g.shown; away = g.away; hop = g.hop; next = g.next; to = g.to };
      fewer = way.fewer;
    })

-- only reads are left before the plan
abbrev is_last : List Call → Bool
is_last (Send ∷ (Post ∷ [])) = true
is_last _ = false

abbrev are_reads : List Call → Bool
are_reads (Mail s ∷ rest) = are_reads rest
are_reads (States s ∷ rest) = are_reads rest
are_reads (Ideals ∷ rest) = is_last rest
are_reads _ = false

reads_after_live : (shown : List (SessionId × InstanceId)) → are_reads (calls_after_live shown) ≡ true
reads_after_live shown = mails shown
  where
    states : (live : List (SessionId × InstanceId)) → are_reads (map (λ e. States e.0) live ++ Ideals ∷ Send ∷ Post ∷ []) ≡ true
    states [] = refl
    states (e ∷ live) = states live

    mails : (live : List (SessionId × InstanceId)) → are_reads (map (λ e. Mail e.0) live ++ map (λ e. States e.0) shown ++ Ideals ∷ Send ∷ Post ∷ []) ≡ true
    mails [] = states shown
    mails (e ∷ live) = mails live

-- no job of a live session is open
abbrev pub HasNoJobs : World → Type 0
HasNoJobs w = Each (λ j. is_live w.cluster.live j.message.session ≡ false) w.jobs

-- without mail none is
pub jobs_dead : (spec : Spec) (last : Last) (x : State) → Stands spec last x → x.world.cluster.mail ≡ [] → HasNoJobs x.world
jobs_dead spec last x st none =
    each-le (IsHeldJob x.world.cluster x.world.participants x.world.jobs) (λ j. is_live x.world.cluster.live j.message.session ≡ false) (λ j h. dead j h (is_live x.world.cluster.live j.message.session) refl) x.world.jobs st.in_step.parts.held
  where
    dead : (j : Job) → IsHeldJob x.world.cluster x.world.participants x.world.jobs j → (b : Bool) → is_live x.world.cluster.live j.message.session ≡ b → b ≡ false
    dead j h false e = refl
    dead j h true e =
        let t = h.taken e in
        let no : None ≡ Some t.now = ap (λ (ms : List Message). message_of ms j.message.session j.message.part) (sym none) ∙ t.found in
        absurd (cc)

-- where nothing was shown and nothing has changed
module _ (spec : Spec) (valid : IsValid spec) (last : Last) (k : ControllerId) (w t l : ℕ) where
  -- the leader's controller
  abbrev own : State → Controller
  own x = controller_of x.world k

  -- a turn that has seen the cluster as it is
  record IsFresh (left : List Call) (made : Option Plan) (x : State) : Type 0 where
    stands : Stands spec last x
    leads : x.world.cluster.leader ≡ Some k
    mail : x.world.cluster.mail ≡ []
    jobs : HasNoJobs x.world
    walks : all_walks x.world.cluster ≡ w
    tries : tries_left x.world.cluster ≡ t
    lefts : left_of x.world.cluster ≡ l
    calls : Turns.left_of x k ≡ left
    plan : (own x).plan ≡ made
    epoch : (own x).turn.begun.epoch ≡ x.world.cluster.epoch
    pass : (own x).turn.begun.pass.0 ≡ (pass_of x.world.cluster k).0
    change : (own x).turn.begun.change ≡ x.world.cluster.change
    shown : (own x).turn.view.mail ≡ []

  -- how the turn ends
  abbrev IsPassed : Option PassOutcome → State → Type 0
  IsPassed o y = by_outcome (λ report. Unit {0}) (IsFalling w t l y.world.cluster × HasNoJobs y.world) o

  module _ (x : State) (st : Stands spec last x) (leads : x.world.cluster.leader ≡ Some k) where
    its_id : (own x).id ≡ k
    its_id = (st.scripted.of.turns k).id

    has_it : has_controller x.world.cluster k ≡ true
    has_it = ap (λ (o : Option ControllerId). option_map_or (has_controller x.world.cluster) o true) (sym leads) ∙ (ranged_there spec valid last x st).leader

    put : (y : Controller) (s : State) → s.world.controllers ≡ x.world.controllers → y.id ≡ (own x).id → controller_of (with_controller y s).world k ≡ y
    put y s same id = put_is k s y (subst (λ (ks : List Controller). k.0 < length ks) (sym same) (listed spec valid last k x st leads)) (id ∙ its_id)

    comes_at : (left : List Call) → Turns.left_of x k ≡ left → IfGoesOn (λ o y. Stands spec last y × ComesTo (own x) (step_at spec x.world.cluster (own x) left) x o y) (Turns.step Quiet k x)
    comes_at left is =
        goes_too (Stands spec last) (ComesTo (own x) (step_at spec x.world.cluster (own x) left) x) (Turns.step Quiet k x) (keeps_step spec valid last Quiet k x st)
        (subst (λ (given : Spec). IfGoesOn (ComesTo (own x) (step_at given x.world.cluster (own x) left) x) (Turns.step Quiet k x)) st.scripted.of.given (step_comes k x left is))

  -- a begin
  begun : (x : State) → IsAtRest spec last k x → all_walks x.world.cluster ≡ w → tries_left x.world.cluster ≡ t → left_of x.world.cluster ≡ l → IfGoesOn (λ _ y. IsFresh (Live ∷ []) None y) (Turns.step Quiet k x)
  begun x rest walks tries lefts =
      goes_so (λ o y. Stands spec last y × ComesTo (own x) (begin_step x.world.cluster (own x)) x o y) (λ _ y. IsFresh (Live ∷ []) None y) (Turns.step Quiet k x)
      (comes_at x rest.led.stands rest.led.leads [] rest.led.idle)
      (λ o y e. one (is_leader (own x).id x.world.cluster.leader) leads_it o y e.0 e.1)
    where
      id : (own x).id ≡ k
      id = its_id x rest.led.stands rest.led.leads

      leads_it : is_leader (own x).id x.world.cluster.leader ≡ true
      leads_it = (λ i. is_leader (id i) (rest.led.leads i)) ∙ same-self k.0

      one : (b : Bool) → b ≡ true → (o : Option PassOutcome) (y : State) → Stands spec last y
          → ComesTo (own x) (if b then Calls (events.Begin (own x).id (begun_of x.world.cluster (own x).id)) None else Refuses (faults.NotLeader x.world.cluster.leader)) x o y
          → IsFresh (Live ∷ []) None y
      one false is o y now comes = cc
      one true is o y now comes = subst (IsFresh (Live ∷ []) None) (sym comes.1) (record {
        stands = subst (Stands spec last) comes.1 now;
        leads = b.leader ∙ rest.led.leads;
        mail = b.mail ∙ rest.mail;
        jobs =
            subst (λ (ls : List LiveSession). Each (λ j. is_live ls j.message.session ≡ false) x.world.jobs) (sym b.live) (jobs_dead spec last x rest.led.stands rest.mail);
        walks = b.walks ∙ walks;
        tries = b.tries ∙ tries;
        lefts = b.left ∙ lefts;
        calls = ap (λ (z : Controller). z.turn.left) here ∙ ap (λ (u : Turn). u.left) turn;
        plan = ap (λ (z : Controller). z.plan) here;
        epoch = ap (λ (z : Controller). z.turn.begun.epoch) here ∙ ap (λ (u : Turn). u.begun.epoch) turn ∙ sym b.epoch;
        pass =
            ap (λ (z : Controller). z.turn.begun.pass.0) here ∙ ap (λ (u : Turn). u.begun.pass.0) turn
            ∙ ap (λ (j : ControllerId). (pass_of x.world.cluster j).0 + 1) id ∙ sym (pass_own x.world.cluster k [] (has_it x rest.led.stands rest.led.leads))
            ∙ ap (λ (j : ControllerId). (pass_of (next_pass x.world.cluster j) k).0) (sym id);
        change = ap (λ (z : Controller). z.turn.begun.change) here ∙ ap (λ (u : Turn). u.begun.change) turn ∙ sym b.change;
        shown = ap (λ (z : Controller). z.turn.view.mail) here ∙ ap (λ (u : Turn). u.view.mail) turn;
      })
        where
          b : IsBeside x.world.cluster (next_pass x.world.cluster (own x).id)
          b = beside_pass x.world.cluster (own x).id

          here : controller_of (with_controller (after_step x.world.cluster (own x) (Calls (events.Begin (own x).id (begun_of x.world.cluster (own x).id)) None)) (happened (events.Begin (own x).id (begun_of x.world.cluster (own x).id)) x)).world k
              ≡ after_step x.world.cluster (own x) (Calls (events.Begin (own x).id (begun_of x.world.cluster (own x).id)) None)
          here =
              put x rest.led.stands rest.led.leads (after_step x.world.cluster (own x) (Calls (events.Begin (own x).id (begun_of x.world.cluster (own x).id)) None))
              (happened (events.Begin (own x).id (begun_of x.world.cluster (own x).id)) x) refl refl

          turn : turn_after x.world.cluster (own x).id (own x).turn (events.Begin (own x).id (begun_of x.world.cluster (own x).id))
              ≡ begun_turn (begun_of x.world.cluster (own x).id)
          turn = own_turn (own x).id (own x).turn (begun_turn (begun_of x.world.cluster (own x).id))

  -- a read, whose turn goes on so
  read_on : (call : Call) (rest : List Call) (x : State) → IsFresh (call ∷ rest) None x → (e : Event) (u : Turn) → step_at spec x.world.cluster (own x) (call ∷ rest) ≡ read_step x.world.cluster (own x) e
      → next x.world.cluster e ≡ x.world.cluster → turn_after x.world.cluster (own x).id (own x).turn e ≡ u
      → (after : List Call) → u.left ≡ after → u.begun ≡ (own x).turn.begun → u.view.mail ≡ [] → IfGoesOn (λ o y. (o ≡ None) × IsFresh after None y) (Turns.step Quiet k x)
  read_on call rest x f e u is_read same turn after goes begun shown =
      goes_so (λ o y. Stands spec last y × ComesTo (own x) (step_at spec x.world.cluster (own x) (call ∷ rest)) x o y) (λ o y. (o ≡ None) × IsFresh after None y) (Turns.step Quiet k x)
      (comes_at x f.stands f.leads (call ∷ rest) f.calls)
      (λ o y c. one (is_pass x.world.cluster (own x).id (own x).turn.begun.pass) passes o y c.0
      (subst (λ (s : Step). ComesTo (own x) s x o y) is_read c.1))
    where
      passes : is_pass x.world.cluster (own x).id (own x).turn.begun.pass ≡ true
      passes =
          ap (λ (j : ControllerId). is_pass x.world.cluster j (own x).turn.begun.pass) (its_id x f.stands f.leads)
          ∙ and-both (has_controller x.world.cluster k) ((pass_of x.world.cluster k).0 == (own x).turn.begun.pass.0) (has_it x f.stands f.leads)
          (ap (λ (n : ℕ). (pass_of x.world.cluster k).0 == n) f.pass ∙ same-self (pass_of x.world.cluster k).0)

      one : (b : Bool) → b ≡ true → (o : Option PassOutcome) (y : State) → Stands spec last y
          → ComesTo (own x) (if b then Calls e None else Refuses (faults.OldPass (pass_of x.world.cluster (own x).id))) x o y → (o ≡ None) × IsFresh after None y
      one false is o y now comes = cc
      one true is o y now comes = (
        comes.0,
        subst (IsFresh after None) (sym comes.1) (record {
          stands = subst (Stands spec last) comes.1 now;
          leads = ap (λ (c : Cluster). c.leader) same ∙ f.leads;
          mail = ap (λ (c : Cluster). c.mail) same ∙ f.mail;
          jobs = subst (λ (c : Cluster). Each (λ j. is_live c.live j.message.session ≡ false) x.world.jobs) (sym same) f.jobs;
          walks = ap all_walks same ∙ f.walks;
          tries = ap tries_left same ∙ f.tries;
          lefts = ap left_of same ∙ f.lefts;
          calls = ap (λ (z : Controller). z.turn.left) here ∙ ap (λ (v : Turn). v.left) turn ∙ goes;
          plan = ap (λ (z : Controller). z.plan) here;
          epoch = ap (λ (z : Controller). z.turn.begun.epoch) here ∙ ap (λ (v : Turn). v.begun.epoch) turn ∙ ap (λ (b : Begun). b.epoch) begun ∙ f.epoch ∙ ap (λ (c : Cluster). c.epoch) (sym same);
          pass = ap (λ (z : Controller). z.turn.begun.pass.0) here ∙ ap (λ (v : Turn). v.begun.pass.0) turn ∙ ap (λ (b : Begun). b.pass.0) begun ∙ f.pass ∙ ap (λ (c : Cluster). (pass_of c k).0) (sym same);
          change = ap (λ (z : Controller). z.turn.begun.change) here ∙ ap (λ (v : Turn). v.begun.change) turn ∙ ap (λ (b : Begun). b.change) begun ∙ f.change ∙ ap (λ (c : Cluster). c.change) (sym same);
          shown = ap (λ (z : Controller). z.turn.view.mail) here ∙ ap (λ (v : Turn). v.view.mail) turn ∙ shown;
        }),
      )
        where
          here : controller_of (with_controller (after_step x.world.cluster (own x) (Calls e None)) (happened e x)).world k ≡ after_step x.world.cluster (own x) (Calls e None)
          here = put x f.stands f.leads (after_step x.world.cluster (own x) (Calls e None)) (happened e x) refl refl

  live_on : (x : State) → IsFresh (Live ∷ []) None x → IfGoesOn (λ o y. (o ≡ None) × IsFresh (calls_after_live (live_shown x.world.cluster)) None y) (Turns.step Quiet k x)
  live_on x f =
      read_on Live [] x f (events.Live (own x).id (own x).turn.begun.pass) (with_live x.world.cluster (own x).turn) refl refl
      (own_turn (own x).id (own x).turn (if_due (is_due (own x).turn Live (own x).turn.begun.pass) (with_live x.world.cluster (own x).turn))
      ∙ due_turn (own x).turn (with_live x.world.cluster (own x).turn) Live [] f.calls refl) (calls_after_live (live_shown x.world.cluster)) refl refl f.shown

  none_shown : (c : Cluster) (s : SessionId) (ms : List Message) → ms ≡ [] → c.mail ≡ [] → ms ++ mail_shown c s ≡ []
  none_shown c s ms none empty = λ i. none i ++ filter (λ m. m.session.0 == s.0) (empty i)

  call_on : (call : Call) (rest : List Call) (x : State) → are_reads (call ∷ rest) ≡ true → IsFresh (call ∷ rest) None x → IfGoesOn (λ o y. (o ≡ None) × IsFresh rest None y) (Turns.do_call_of Quiet k (call ∷ rest) x)
  call_on (Mail s) rest x are f =
      let t = (own x).turn in
      let u = gone_on t (record t.view { mail = t.view.mail ++ mail_shown x.world.cluster s }) in
      read_on (Mail s) rest x f (events.Mail (own x).id t.begun.pass s) u refl refl
      (own_turn (own x).id t (if_due (is_due t (Mail s) t.begun.pass) u) ∙ due_turn t u (Mail s) rest f.calls (same-self s.0)) rest (ap (drop 1) f.calls) refl
      (none_shown x.world.cluster s t.view.mail f.shown f.mail)
  call_on (States s) rest x are f =
      let t = (own x).turn in
      let u = gone_on t (record t.view { rows = t.view.rows ++ states_shown x.world.cluster s }) in
      read_on (States s) rest x f (events.States (own x).id t.begun.pass s) u refl refl
      (own_turn (own x).id t (if_due (is_due t (States s) t.begun.pass) u) ∙ due_turn t u (States s) rest f.calls (same-self s.0)) rest (ap (drop 1) f.calls) refl f.shown
  call_on Ideals rest x are f =
      let t = (own x).turn in
      let u = gone_on t (record t.view { ideals = ideals_shown x.world.cluster }) in
      read_on Ideals rest x f (events.Ideals (own x).id t.begun.pass) u refl refl
      (own_turn (own x).id t (if_due (is_due t Ideals t.begun.pass) u) ∙ due_turn t u Ideals rest f.calls refl) rest (ap (drop 1) f.calls) refl f.shown
  call_on Live rest x are f = cc
  call_on Send rest x are f = cc
  call_on Post rest x are f = cc

  -- before the dispatch the view is that of the cluster
  module _ (made : Option Plan) (x : State) (f : IsFresh (Send ∷ Post ∷ []) made x) where
    told : ((own x).turn ≡ idle_turn) ⊎ ((own x).turn ≡ turn_of spec (own x).id x.world.history)
        → (own x).turn ≡ turn_of spec (own x).id x.world.history
    told (inl idle) = absurd (let no : [] ≡ Send ∷ Post ∷ [] = ap (λ (u : Turn). u.left) (sym idle) ∙ f.calls in cc)
    told (inr same) = same

    turn : (own x).turn ≡ turn_of spec (own x).id x.world.history
    turn = told (f.stands.scripted.of.turns k).of_board.told

    read : is_read (turn_of spec (own x).id x.world.history) ≡ true
    read = ap is_read (sym turn) ∙ ap (λ (calls : List Call). is_first Send calls || is_first Post calls) f.calls

    cluster : x.world.cluster ≡ replay (opening spec) x.world.history
    cluster = f.stands.scripted.of.cluster

    view : (own x).turn.view ≡ read_at x.world.cluster
    view =
        ap (λ (u : Turn). u.view) turn
        ∙ read_whole spec x.world.history (own x).id valid f.stands.scripted.of.legal read
        (ap (λ (u : Turn). u.begun.change) (sym turn) ∙ f.change ∙ ap (λ (c : Cluster). c.change) cluster)
        ∙ ap read_at (sym cluster)

    fixed : IsFixed (opening spec) x.world.cluster
    fixed = fixed_there spec last x.world f.stands.scripted

    formed : is_well_formed spec.models (length x.world.cluster.instances) (own x).turn.view ≡ true
    formed =
        (λ i. is_well_formed spec.models (many i) ((turn i).view))
        ∙ read_law spec valid x.world.history f.stands.scripted.of.legal (own x).id read
      where
        many : length x.world.cluster.instances ≡ length spec.instances
        many = (fixed_there spec last x.world f.stands.scripted).instances ∙ length-replicate (length spec.instances) false

    same_parts : (v : View) → v.ideals.resources ≡ x.world.cluster.resources → list_all (has_parts_of x.world.cluster v) (numbers_below (length v.ideals.resources)) ≡ true
    same_parts v same = each (numbers_below (length v.ideals.resources))
      where
        le_self : (n : ℕ) → nat_le n n ≡ true
        le_self n = grind (arith, nat_tests)

        one : (n : ℕ) → has_parts_of x.world.cluster v n ≡ true
        one n = ap (λ (rs : List Resource). nat_le (parts_of rs (record { 0 = n })) (parts_of x.world.cluster.resources (record { 0 = n }))) same ∙ le_self (parts_of x.world.cluster.resources (record { 0 = n }))

        each : (ns : List ℕ) → list_all (has_parts_of x.world.cluster v) ns ≡ true
        each [] = refl
        each (n ∷ ns) = and-both (has_parts_of x.world.cluster v n) (list_all (has_parts_of x.world.cluster v) ns) (one n) (each ns)

    of_it : is_of_cluster spec x.world.cluster (own x).turn.view ≡ true
    of_it =
        and-both (is_well_formed spec.models (length x.world.cluster.instances) (own x).turn.view)
        (list_all (has_parts_of x.world.cluster (own x).turn.view) (numbers_below (length (own x).turn.view.ideals.resources)))
        formed (same_parts (own x).turn.view (ap (λ (v : View). v.ideals.resources) view))

    plan_is : plan spec.models spec.rules (own x).turn.view ≡ plan x.world.cluster.models x.world.cluster.rules (view_at x.world.cluster)
    plan_is = (λ i. plan (sym fixed.models i) (sym fixed.rules i) (view i)) ∙ plan_read x.world.cluster (safe_there spec valid last x f.stands)

  -- the plan is made
  planned_on : (x : State) → IsFresh (Send ∷ Post ∷ []) None x → IfGoesOn (λ o y. (o ≡ None) × ((p : Plan) × IsFresh (Send ∷ Post ∷ []) (Some p) y)) (Turns.step Quiet k x)
  planned_on x f =
      goes_so (λ o y. Stands spec last y × ComesTo (own x) (step_at spec x.world.cluster (own x) (Send ∷ Post ∷ [])) x o y)
      (λ o y. (o ≡ None) × ((p : Plan) × IsFresh (Send ∷ Post ∷ []) (Some p) y)) (Turns.step Quiet k x)
      (comes_at x f.stands f.leads (Send ∷ Post ∷ []) f.calls)
      (λ o y c. one (is_of_cluster spec x.world.cluster (own x).turn.view) (of_it None x f) o y c.0
      (subst (λ (a : Option Plan). ComesTo (own x) (of_cluster (is_of_cluster spec x.world.cluster (own x).turn.view) (planned_step spec x.world.cluster (own x) a)) x o y) f.plan c.1))
    where
      one : (b : Bool) → b ≡ true → (o : Option PassOutcome) (y : State) → Stands spec last y → ComesTo (own x) (of_cluster b (planned_step spec x.world.cluster (own x) None)) x o y
          → (o ≡ None) × ((p : Plan) × IsFresh (Send ∷ Post ∷ []) (Some p) y)
      one false is o y now comes = cc
      one true is o y now comes = (
        comes.0,
        (
          plan spec.models spec.rules (own x).turn.view,
          subst (IsFresh (Send ∷ Post ∷ []) (Some (plan spec.models spec.rules (own x).turn.view))) (sym comes.1) (record {
            stands = subst (Stands spec last) comes.1 now;
            leads = f.leads;
            mail = f.mail;
            jobs = f.jobs;
            walks = f.walks;
            tries = f.tries;
            lefts = f.lefts;
            calls = ap (λ (z : Controller). z.turn.left) here ∙ f.calls;
            plan = ap (λ (z : Controller). z.plan) here;
            epoch = ap (λ (z : Controller). z.turn.begun.epoch) here ∙ f.epoch;
            pass = ap (λ (z : Controller). z.turn.begun.pass.0) here ∙ f.pass;
            change = ap (λ (z : Controller). z.turn.begun.change) here ∙ f.change;
            shown = ap (λ (z : Controller). z.turn.view.mail) here ∙ f.shown;
          }),
        ),
      )
        where
          here : controller_of (with_controller (record (own x) { plan = Some (plan spec.models spec.rules (own x).turn.view) }) x).world k
              ≡ record (own x) { plan = Some (plan spec.models spec.rules (own x).turn.view) }
          here = put x f.stands f.leads (record (own x) { plan = Some (plan spec.models spec.rules (own x).turn.view) }) x refl refl

  -- the dispatch
  record IsSent (o : Option PassOutcome) (y : State) : Type 0 where
    outcome : PassOutcome
    is : o ≡ Some outcome
    passed : IsPassed (Some outcome) y
    stands : Stands spec last y
    leads : y.world.cluster.leader ≡ Some k
    calls : Turns.left_of y k ≡ Post ∷ []

  sent_on : (p : Plan) (x : State) → IsFresh (Send ∷ Post ∷ []) (Some p) x → IfGoesOn IsSent (Turns.step Quiet k x)
  sent_on p x f =
      goes_so (λ o y. Stands spec last y × ComesTo (own x) (step_at spec x.world.cluster (own x) (Send ∷ Post ∷ [])) x o y) IsSent (Turns.step Quiet k x)
      (comes_at x f.stands f.leads (Send ∷ Post ∷ []) f.calls)
      (λ o y c. one (is_of_cluster spec x.world.cluster (own x).turn.view) (of_it (Some p) x f) (is_epoch x.world.cluster (own x).turn.begun.epoch) epoch_is
      (is_pass x.world.cluster (own x).id (own x).turn.begun.pass) pass_is o y c.0
      (subst (λ (a : Option Plan). ComesTo (own x) (of_cluster (is_of_cluster spec x.world.cluster (own x).turn.view) (planned_step spec x.world.cluster (own x) a)) x o y) f.plan c.1))
    where
      epoch_is : is_epoch x.world.cluster (own x).turn.begun.epoch ≡ true
      epoch_is = ap (λ (e : Epoch). x.world.cluster.epoch.0 == e.0) f.epoch ∙ same-self x.world.cluster.epoch.0

      pass_is : is_pass x.world.cluster (own x).id (own x).turn.begun.pass ≡ true
      pass_is =
          ap (λ (n : ControllerId). is_pass x.world.cluster n (own x).turn.begun.pass) (its_id x f.stands f.leads)
          ∙ and-both (has_controller x.world.cluster k) ((pass_of x.world.cluster k).0 == (own x).turn.begun.pass.0) (has_it x f.stands f.leads)
          (ap (λ (n : ℕ). (pass_of x.world.cluster k).0 == n) f.pass ∙ same-self (pass_of x.world.cluster k).0)

      event : Event
      event =
          events.Dispatch (own x).id (own x).turn.begun.epoch (own x).turn.begun.pass p.proposals
          (dispatched_of x.world.cluster (own x).id p.proposals)

      outcome : PassOutcome
      outcome = outcome_of (own x).turn p (dispatched_of x.world.cluster (own x).id p.proposals)

      plan_so : p ≡ plan x.world.cluster.models x.world.cluster.rules (view_at x.world.cluster)
      plan_so = (subst (IsPlanOf spec (own x).turn) f.plan (f.stands.scripted.of.turns k).of_board.planned).1 ∙ plan_is (Some p) x f

      jobs_so : (qs : List Proposal) → Each (λ i. is_live (after_dispatch x.world.cluster (own x).id qs).live i.message.session ≡ false) x.world.jobs
      jobs_so qs =
          subst (λ (ls : List LiveSession). Each (λ i. is_live ls i.message.session ≡ false) x.world.jobs) (sym (alike_dispatch x.world.cluster (own x).id qs).live) f.jobs

      -- it settles where nothing is proposed
      passed : (qs : List Proposal) → p.proposals ≡ qs
          → by_outcome (λ report. Unit {0}) (IsFalling w t l (after_dispatch x.world.cluster (own x).id p.proposals)
          × Each (λ i. is_live (after_dispatch x.world.cluster (own x).id p.proposals).live i.message.session ≡ false) x.world.jobs)
          (Some (outcome_of (own x).turn p (dispatched_of x.world.cluster (own x).id p.proposals)))
      passed [] none = subst (by_outcome (λ report. Unit {0}) _) (sym (ap (λ (o : PassOutcome). Some o) settles)) tt
        where
          settles : outcome_of (own x).turn p (dispatched_of x.world.cluster (own x).id p.proposals) ≡ ends.Settled p.report
          settles =
              (λ i. if nat_lt 0 (length (none i)) then ends.Sent (count is_sent (dispatched_of x.world.cluster (own x).id p.proposals).placed)
              else if nat_lt 0 (length (f.shown i)) then ends.Waiting (length (own x).turn.view.mail)
              else if f.change i == x.world.cluster.change then ends.Settled p.report else ends.Moved (own x).turn.begun.change x.world.cluster.change)
              ∙ ap (λ (b : Bool). if b then ends.Settled p.report else ends.Moved (own x).turn.begun.change x.world.cluster.change) (same-self x.world.cluster.change)
      passed (q ∷ qs) some = subst (by_outcome (λ report. Unit {0}) _) (sym (ap (λ (o : PassOutcome). Some o) sends)) (falls, jobs_so p.proposals)
        where
          sends : outcome_of (own x).turn p (dispatched_of x.world.cluster (own x).id p.proposals)
              ≡ ends.Sent (count is_sent (dispatched_of x.world.cluster (own x).id p.proposals).placed)
          sends =
              (λ i. if nat_lt 0 (length (some i)) then ends.Sent (count is_sent (dispatched_of x.world.cluster (own x).id p.proposals).placed)
              else if nat_lt 0 (length (own x).turn.view.mail) then ends.Waiting (length (own x).turn.view.mail)
              else if (own x).turn.begun.change == x.world.cluster.change then ends.Settled p.report else ends.Moved (own x).turn.begun.change x.world.cluster.change)
              ∙ ap (λ (b : Bool). if b then ends.Sent (count is_sent (dispatched_of x.world.cluster (own x).id p.proposals).placed)
              else if nat_lt 0 (length (own x).turn.view.mail) then ends.Waiting (length (own x).turn.view.mail)
              else if (own x).turn.begun.change == x.world.cluster.change then ends.Settled p.report else ends.Moved (own x).turn.begun.change x.world.cluster.change) (more (length qs))
            where
              more : (n : ℕ) → nat_lt 0 (suc n) ≡ true
              more n = grind (arith, nat_tests)

          falls : IsFalling w t l (after_dispatch x.world.cluster (own x).id p.proposals)
          falls =
              subst (λ (qs : List Proposal). IsFalling w t l (after_dispatch x.world.cluster (own x).id qs)) (sym some)
              (subst (λ (n : ℕ). IsFalling n t l (after_dispatch x.world.cluster (own x).id (q ∷ qs))) f.walks
              (subst (λ (n : ℕ). IsFalling (all_walks x.world.cluster) n l (after_dispatch x.world.cluster (own x).id (q ∷ qs))) f.tries
              (subst (λ (n : ℕ). IsFalling (all_walks x.world.cluster) (tries_left x.world.cluster) n (after_dispatch x.world.cluster (own x).id (q ∷ qs))) f.lefts
              (dispatch_falls x.world.cluster (own x).id q qs (safe_there spec valid last x f.stands) (ranged_there spec valid last x f.stands) f.mail
              (ap (λ (r : Plan). r.proposals) (sym plan_so) ∙ some)))))

      one : (a : Bool) → a ≡ true → (b : Bool) → b ≡ true → (d : Bool) → d ≡ true → (o : Option PassOutcome) (y : State) → Stands spec last y
          → ComesTo (own x) (of_cluster a (if not b then Refuses (faults.Fenced x.world.cluster.epoch) else if not d then Refuses (faults.OldPass (pass_of x.world.cluster (own x).id))
          else Calls (events.Dispatch (own x).id (own x).turn.begun.epoch (own x).turn.begun.pass p.proposals
          (dispatched_of x.world.cluster (own x).id p.proposals)) (Some (outcome_of (own x).turn p (dispatched_of x.world.cluster (own x).id p.proposals))))) x o y
          → IsSent o y
      one false ia b ib d id o y now comes = cc
      one true ia false ib d id o y now comes = cc
      one true ia true ib false id o y now comes = cc
      one true ia true ib true id o y now comes = record {
        outcome = outcome_of (own x).turn p (dispatched_of x.world.cluster (own x).id p.proposals);
        is = comes.0;
        passed = subst (λ (z : State). by_outcome (λ report. Unit {0}) (IsFalling w t l z.world.cluster × HasNoJobs z.world) (Some (outcome_of (own x).turn p (dispatched_of x.world.cluster (own x).id p.proposals)))) (sym comes.1) (passed p.proposals refl);
        stands = now;
        leads = ap (λ (z : State). z.world.cluster.leader) comes.1 ∙ (alike_dispatch x.world.cluster (own x).id p.proposals).leader ∙ f.leads;
        calls =
            ap (λ (z : State). Turns.left_of z k) comes.1
            ∙ ap (λ (z : Controller). z.turn.left) (put x f.stands f.leads (after_step x.world.cluster (own x) (Calls event (Some outcome))) (happened event x) refl refl)
            ∙ ap (λ (u : Turn). u.left) (own_turn (own x).id (own x).turn (if_due (is_due (own x).turn Send (own x).turn.begun.pass && is_of_epoch (own x).turn (own x).turn.begun.epoch) (gone_on (own x).turn (own x).turn.view)))
            ∙ (λ i. (if_due ((is_first Send (f.calls i) && same-self (own x).turn.begun.pass.0 i) && same-self (own x).turn.begun.epoch.0 i) (gone_on (own x).turn (own x).turn.view)).left)
            ∙ ap (drop 1) f.calls;
      }

  -- the post changes nothing of this
  posted_on : (o : PassOutcome) (y : State) → Stands spec last y → y.world.cluster.leader ≡ Some k → Turns.left_of y k ≡ Post ∷ [] → IsPassed (Some o) y
      → IfGoesOn (λ p z. (p ≡ None) × IsPassed (Some o) z) (Turns.step Quiet k y)
  posted_on o y st leads calls passed =
      goes_so (λ p z. Stands spec last z × ComesTo (own y) (step_at spec y.world.cluster (own y) (Post ∷ [])) y p z) (λ p z. (p ≡ None) × IsPassed (Some o) z) (Turns.step Quiet k y)
      (comes_at y st leads (Post ∷ []) calls)
      (λ p z c. one (is_of_cluster spec y.world.cluster (own y).turn.view) (is_epoch y.world.cluster (own y).turn.begun.epoch) p z c.1)
    where
      so : (q : PassOutcome) → IsPassed (Some q) y → (rows : List Seen)
          → by_outcome (λ report. Unit {0}) (IsFalling w t l (record y.world.cluster { posted = rows }) × HasNoJobs y.world) (Some q)
      so (ends.Settled r) p rows = tt
      so _ p rows = (way_posted w t l y.world.cluster rows p.0, p.1)

      refused : (z : State) → z ≡ with_controller (idle_controller (own y).id) y → IsPassed (Some o) z
      refused z is = subst (IsPassed (Some o)) (sym is) passed

      one : (a b : Bool) (p : Option PassOutcome) (z : State)
          → ComesTo (own y) (of_cluster a (if b then Calls (events.Post (own y).id (own y).turn.begun.epoch (posted_of (own y).turn.view)) None
          else Refuses (faults.Fenced y.world.cluster.epoch))) y p z → (p ≡ None) × IsPassed (Some o) z
      one false b p z comes = (comes.0, refused z comes.1)
      one true false p z comes = (comes.0, refused z comes.1)
      one true true p z comes = (comes.0, subst (IsPassed (Some o)) (sym comes.1) (so o passed (posted_of (own y).turn.view)))

  -- what comes before an outcome doesn't count
  without_earlier : (p : Option PassOutcome) (z : State) → IsPassed p z → IsPassed (Turns.or_earlier None p) z
  without_earlier None z passed = passed
  without_earlier (Some q) z passed = passed

  sends : (x : State) → IsFresh (Send ∷ Post ∷ []) None x → IfGoesOn IsPassed (Turns.do_calls Quiet k 2 x)
  sends x f =
      goes_on IsSent IsPassed (Turns.do_call Quiet k x) (λ o y. go_on (Turns.if_under_way (Turns.left_of y k) (λ z. Turns.do_calls Quiet k 1 z) y) (λ p z. gives z (Turns.or_earlier o p)))
      (subst (λ (calls : List Call). IfGoesOn IsSent (Turns.do_call_of Quiet k calls x)) (sym f.calls)
      (subst (λ (a : Option Plan). IfGoesOn IsSent (go_on (Turns.make_plan Quiet k a x) (λ _ y. Turns.if_under_way (Turns.left_of y k) (λ z. Turns.step Quiet k z) y))) (sym f.plan)
      (goes_on (λ o y. (o ≡ None) × ((p : Plan) × IsFresh (Send ∷ Post ∷ []) (Some p) y)) IsSent (Turns.step Quiet k x) (λ _ y. Turns.if_under_way (Turns.left_of y k) (λ z. Turns.step Quiet k z) y)
      (planned_on x f)
      (λ o y e.
      subst (λ (calls : List Call). IfGoesOn IsSent (Turns.if_under_way calls (λ z. Turns.step Quiet k z) y)) (sym e.1.1.calls) (sent_on e.1.0 y e.1.1)))))
      (λ o y s.
      subst (λ (a : Option PassOutcome). IfGoesOn IsPassed (go_on (Turns.if_under_way (Turns.left_of y k) (λ z. Turns.do_calls Quiet k 1 z) y) (λ p z. gives z (Turns.or_earlier a p)))) (sym s.is)
      (subst (λ (calls : List Call). IfGoesOn IsPassed (go_on (Turns.if_under_way calls (λ z. Turns.do_calls Quiet k 1 z) y) (λ p z. gives z (Turns.or_earlier (Some s.outcome) p)))) (sym s.calls)
      (goes_on (λ p z. (p ≡ None) × IsPassed (Some s.outcome) z) IsPassed (Turns.do_calls Quiet k 1 y) (λ p z. gives z (Turns.or_earlier (Some s.outcome) p))
      (last_call s.outcome y s)
      (λ p z e. goes_gives IsPassed z (Turns.or_earlier (Some s.outcome) p) (subst (λ (a : Option PassOutcome). IsPassed (Turns.or_earlier (Some s.outcome) a) z) (sym e.0) e.1)))))
    where
      quiet : (q : PassOutcome) (p : Option PassOutcome) (z : State) (calls : List Call) → p ≡ None → IsPassed (Some q) z
          → IfGoesOn (λ p z. (p ≡ None) × IsPassed (Some q) z) (go_on (Turns.if_under_way calls (λ u. Turns.do_calls Quiet k zero u) z) (λ r u. gives u (Turns.or_earlier p r)))
      quiet q p z [] none passed = record { to = (none, passed) }
      quiet q p z (call ∷ calls) none passed = record { to = (none, passed) }

      last_call : (q : PassOutcome) (y : State) {o : Option PassOutcome} → (s : IsSent o y) → IfGoesOn (λ p z. (p ≡ None) × IsPassed (Some s.outcome) z) (Turns.do_calls Quiet k 1 y)
      last_call q y s =
          goes_on (λ p z. (p ≡ None) × IsPassed (Some s.outcome) z) (λ p z. (p ≡ None) × IsPassed (Some s.outcome) z) (Turns.do_call Quiet k y)
          (λ p z. go_on (Turns.if_under_way (Turns.left_of z k) (λ u. Turns.do_calls Quiet k zero u) z) (λ r u. gives u (Turns.or_earlier p r)))
          (subst (λ (calls : List Call). IfGoesOn (λ p z. (p ≡ None) × IsPassed (Some s.outcome) z) (Turns.do_call_of Quiet k calls y)) (sym s.calls) (posted_on s.outcome y s.stands s.leads s.calls s.passed))
          (λ p z e. quiet s.outcome p z (Turns.left_of z k) e.0 e.1)

  -- the reads, and then these
  reads : (n : ℕ) (left : List Call) (x : State) → IsFresh left None x → are_reads left ≡ true → length left ≡ n → IfGoesOn IsPassed (Turns.do_calls Quiet k n x)
  reads zero [] x f are many = cc
  reads zero (call ∷ rest) x f are many = absurd (omega (arith, many))
  reads (suc n) [] x f are many = cc
  reads (suc n) (call ∷ rest) x f are many =
      goes_on (λ o y. (o ≡ None) × IsFresh rest None y) IsPassed (Turns.do_call Quiet k x) (λ o y. go_on (Turns.if_under_way (Turns.left_of y k) (λ z. Turns.do_calls Quiet k n z) y) (λ p z. gives z (Turns.or_earlier o p)))
      (subst (λ (calls : List Call). IfGoesOn (λ o y. (o ≡ None) × IsFresh rest None y) (Turns.do_call_of Quiet k calls x)) (sym f.calls) (call_on call rest x are f))
      (λ o y e.
      subst (λ (a : Option PassOutcome). IfGoesOn IsPassed (go_on (Turns.if_under_way (Turns.left_of y k) (λ z. Turns.do_calls Quiet k n z) y) (λ p z. gives z (Turns.or_earlier a p)))) (sym e.0)
      (goes_on IsPassed IsPassed (Turns.if_under_way (Turns.left_of y k) (λ z. Turns.do_calls Quiet k n z) y) (λ p z. gives z (Turns.or_earlier None p))
      (subst (λ (calls : List Call). IfGoesOn IsPassed (Turns.if_under_way calls (λ z. Turns.do_calls Quiet k n z) y)) (sym e.1.calls) (more (λ cs z g a few. reads n cs z g a few) y rest fewer e.1 (next_reads call rest are)))
      (λ p z passed. goes_gives IsPassed z (Turns.or_earlier None p) (without_earlier p z passed))))
    where
      next_reads : (call : Call) (rest : List Call) → are_reads (call ∷ rest) ≡ true → (are_reads rest ≡ true) ⊎ (is_last rest ≡ true)
      next_reads (Mail s) rest are = inl are
      next_reads (States s) rest are = inl are
      next_reads Ideals rest are = inr are
      next_reads Live rest are = cc
      next_reads Send rest are = cc
      next_reads Post rest are = cc

      fewer : length rest ≡ n
      fewer = omega (arith, many)

      last_is : (left : List Call) → is_last left ≡ true → left ≡ Send ∷ Post ∷ []
      last_is (Send ∷ (Post ∷ [])) e = refl
      last_is [] e = cc
      last_is (Live ∷ rest) e = cc
      last_is (Mail s ∷ rest) e = cc
      last_is (States s ∷ rest) e = cc
      last_is (Ideals ∷ rest) e = cc
      last_is (Post ∷ rest) e = cc
      last_is (Send ∷ []) e = cc
      last_is (Send ∷ (Live ∷ rest)) e = cc
      last_is (Send ∷ (Mail s ∷ rest)) e = cc
      last_is (Send ∷ (States s ∷ rest)) e = cc
      last_is (Send ∷ (Ideals ∷ rest)) e = cc
      last_is (Send ∷ (Send ∷ rest)) e = cc
      last_is (Send ∷ (Post ∷ (c ∷ rest))) e = cc

      more : ((left : List Call) (z : State) → IsFresh left None z → are_reads left ≡ true → length left ≡ n → IfGoesOn IsPassed (Turns.do_calls Quiet k n z))
          → (y : State) (left : List Call) → length left ≡ n → IsFresh left None y → (are_reads left ≡ true) ⊎ (is_last left ≡ true) → IfGoesOn IsPassed (Turns.if_under_way left (λ z. Turns.do_calls Quiet k n z) y)
      more again y [] few g (inl a) = cc
      more again y (c ∷ cs) few g (inl a) = again (c ∷ cs) y g a few
      more again y left few g (inr a) =
          let same = last_is left a in
          let two : n ≡ 2 = sym few ∙ ap (λ (cs : List Call). length cs) same in
          subst (λ (cs : List Call). IfGoesOn IsPassed (Turns.if_under_way cs (λ z. Turns.do_calls Quiet k n z) y)) (sym same)
          (subst (λ (m : ℕ). IfGoesOn IsPassed (Turns.do_calls Quiet k m y)) (sym two) (sends y (subst (λ (cs : List Call). IsFresh cs None y) same g)))

  -- the whole turn
  quiet_live : (shown : List (SessionId × InstanceId)) (o : Option PassOutcome) (y : State) (calls : List Call) → o ≡ None → IsFresh (calls_after_live shown) None y
      → IfGoesOn (λ p z. (p ≡ None) × IsFresh (calls_after_live shown) None z) (go_on (Turns.if_under_way calls (λ z. Turns.do_calls Quiet k zero z) y) (λ p z. gives z (Turns.or_earlier o p)))
  quiet_live shown o y [] none f = record { to = (none, f) }
  quiet_live shown o y (call ∷ calls) none f = record { to = (none, f) }

  live_rest : (x : State) → IsFresh (Live ∷ []) None x → IfGoesOn (λ p z. (p ≡ None) × IsFresh (calls_after_live (live_shown x.world.cluster)) None z) (Turns.do_calls Quiet k 1 x)
  live_rest x f =
      goes_on (λ o y. (o ≡ None) × IsFresh (calls_after_live (live_shown x.world.cluster)) None y) (λ p z. (p ≡ None) × IsFresh (calls_after_live (live_shown x.world.cluster)) None z) (Turns.do_call Quiet k x)
      (λ o y. go_on (Turns.if_under_way (Turns.left_of y k) (λ z. Turns.do_calls Quiet k zero z) y) (λ p z. gives z (Turns.or_earlier o p)))
      (subst (λ (calls : List Call). IfGoesOn (λ o y. (o ≡ None) × IsFresh (calls_after_live (live_shown x.world.cluster)) None y) (Turns.do_call_of Quiet k calls x)) (sym f.calls) (live_on x f))
      (λ o y e. quiet_live (live_shown x.world.cluster) o y (Turns.left_of y k) e.0 e.1)

  later : (x : State) → IsAtRest spec last k x → all_walks x.world.cluster ≡ w → tries_left x.world.cluster ≡ t → left_of x.world.cluster ≡ l → IfGoesOn IsPassed (Turns.do_pass Quiet k x)
  later x rest walks tries lefts =
      goes_on (λ _ y. IsFresh (Live ∷ []) None y) IsPassed (Turns.begin_if_idle Quiet k (Turns.left_of x k) x)
      (λ _ y. go_on (Turns.do_rest Quiet k y) (λ o z. go_on (Turns.do_rest Quiet k z) (λ p u. gives u (Turns.or_earlier o p))))
      (subst (λ (calls : List Call). IfGoesOn (λ _ y. IsFresh (Live ∷ []) None y) (Turns.begin_if_idle Quiet k calls x)) (sym rest.led.idle) (begun x rest walks tries lefts))
      (λ _ y f.
      goes_on (λ o z. (o ≡ None) × IsFresh (calls_after_live (live_shown y.world.cluster)) None z) IsPassed (Turns.do_rest Quiet k y) (λ o z. go_on (Turns.do_rest Quiet k z) (λ p u. gives u (Turns.or_earlier o p)))
      (subst (λ (calls : List Call). IfGoesOn (λ o z. (o ≡ None) × IsFresh (calls_after_live (live_shown y.world.cluster)) None z) (Turns.do_calls Quiet k (length calls) y)) (sym f.calls) (live_rest y f))
      (λ o z e.
      subst (λ (a : Option PassOutcome). IfGoesOn IsPassed (go_on (Turns.do_rest Quiet k z) (λ p u. gives u (Turns.or_earlier a p)))) (sym e.0)
      (goes_on IsPassed IsPassed (Turns.do_rest Quiet k z) (λ p u. gives u (Turns.or_earlier None p))
      (subst (λ (calls : List Call). IfGoesOn IsPassed (Turns.do_calls Quiet k (length calls) z)) (sym e.1.calls)
      (reads (length (calls_after_live (live_shown y.world.cluster))) (calls_after_live (live_shown y.world.cluster)) z e.1 (reads_after_live (live_shown y.world.cluster)) refl))
      (λ p u passed. goes_gives IsPassed u (Turns.or_earlier None p) (without_earlier p u passed)))))

pub later_turn : (spec : Spec) (valid : IsValid spec) (last : Last) (k : ControllerId) (x : State) → IsAtRest spec last k x
    → IfGoesOn (IsLaterTurn spec last k (all_walks x.world.cluster) (tries_left x.world.cluster) (left_of x.world.cluster)) (Turns.do_pass Quiet k x)
later_turn spec valid last k x rest =
    let w : ℕ = all_walks x.world.cluster in
    let t : ℕ = tries_left x.world.cluster in
    let l : ℕ = left_of x.world.cluster in
    goes_so (λ o y. IsThrough spec valid last k x o y × IsPassed spec valid last k w t l o y) (IsLaterTurn spec last k w t l) (Turns.do_pass Quiet k x)
    (goes_both (IsThrough spec valid last k x) (IsPassed spec valid last k w t l) (Turns.do_pass Quiet k x) (turn_through spec valid last k x rest.led.stands rest.led.leads) (later spec valid last k w t l x rest refl refl refl))
    (λ o y e. one o y e.0 e.0.moved.told e.1)
  where
    off : (o : Option PassOutcome) (y : State) → IsThrough spec valid last k x o y → IsFalling (all_walks x.world.cluster) (tries_left x.world.cluster) (left_of x.world.cluster) y.world.cluster × HasNoJobs y.world
        → IsSetOff spec last k (all_walks x.world.cluster) (tries_left x.world.cluster) (left_of x.world.cluster) y
    off o y h p = record { led = record { stands = h.moved.stands; leads = h.moved.leads; idle = h.idle }; falls = p.0; jobs = p.1 }

    one : (o : Option PassOutcome) (y : State) → IsThrough spec valid last k x o y → IsTold x.world.cluster o y.world.cluster
        → IsPassed spec valid last k (all_walks x.world.cluster) (tries_left x.world.cluster) (left_of x.world.cluster) o y
        → IsLaterTurn spec last k (all_walks x.world.cluster) (tries_left x.world.cluster) (left_of x.world.cluster) o y
    one (Some (ends.Settled r)) y h told p = told
    one o y h told p = off o y h p
