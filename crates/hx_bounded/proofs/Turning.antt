-- A turn of the leader ends idle, and explains the board where it settles.
use Rattle.std.proofs.Common.{◌≡◌, ℕ, zero, suc, ◌<◌, ◌&&◌, not, Bool, true, false, List, [], ◌∷◌, ◌++◌, length, drop, Option, Some, None, ◌⊎◌, inl, inr, refl, sym, ap, ◌∙◌, subst, arith}
use Rattle.std.specs.Prelude.{if◌then◌else◌}
use Rattle.hx_ids.specs.declared.ControllerId.{ControllerId}
use Rattle.hx_ids.specs.declared.SessionId.{SessionId}
use Rattle.hx_ids.specs.declared.InstanceId.{InstanceId}
use Rattle.hx_cluster.specs.declared.description.Spec.{Spec}
use Rattle.hx_cluster.specs.declared.state.Cluster.{Cluster}
use Rattle.hx_cluster.specs.declared.planning.Report.{Report}
use Rattle.hx_cluster.specs.declared.planning.Plan.{Plan}
use Rattle.hx_cluster.specs.declared.happenings.Event.{Event}
use Rattle.hx_cluster.specs.declared.happenings.Event.TheVariants as events
use Rattle.hx_cluster.specs.Steps.{is_leader}
use Rattle.hx_cluster.specs.Reads.{live_shown, mail_shown, states_shown, ideals_shown, pass_of}
use Rattle.hx_cluster.specs.Events.{next, begun_of, dispatched_of, is_pass, is_epoch}
use Rattle.hx_cluster.specs.Valid.{IsValid}
use Rattle.hx_pass.specs.Turns.{Call, Live, Mail, States, Ideals, Send, Post, Turn, idle_turn, begun_turn, is_first, is_due, is_of_epoch, calls_after_live, with_live, gone_on, if_due, turn_of, turn_after, posted_of}
use Rattle.hx_pass.specs.Plans.{plan}
use Rattle.hx_pass.specs.Explained.{IsExplained}
use Rattle.hx_lawful.specs.Reading.{is_in_order}
use Rattle.hx_lawful.proofs.Whole.{turn_law}
use Rattle.hx_control.specs.declared.PassOutcome.{PassOutcome}
use Rattle.hx_control.specs.declared.PassOutcome.TheVariants as ends
use Rattle.hx_control.specs.declared.ControlFault.{ControlFault}
use Rattle.hx_control.specs.declared.ControlFault.TheVariants as faults
use Rattle.hx_control.specs.Controllers.{Controller, idle_controller}
use Rattle.hx_control.specs.Steps.{Step, Calls, Plans, Refuses, outcome_of, is_of_cluster, begin_step, read_step, dispatch_step, planned_step, post_step, of_cluster, step_at, step_of, after_step}
use Rattle.hx_worlds.specs.declared.Voice.TheVariants.{Quiet}
use Rattle.hx_worlds.specs.World.{State, controller_of, with_controller}
use Rattle.hx_worlds.specs.Runs.{gives, go_on, happened}
use Rattle.hx_worlds.specs.Turns as Turns
use Rattle.hx_worlds.specs.Settles.{enough_rounds}
use Rattle.hx_safe.proofs.Ends.{same-self}
use Rattle.hx_scripted.proofs.Standing.{Last}
use Rattle.hx_agreed.proofs.DoingTurns.{Stands, keeps_step}
use Rattle.hx_settled.proofs.Settling.{settled_board}
use Rattle.hx_bounded.specs.Ending.{IfGoesOn}
use Rattle.hx_bounded.proofs.Going.{goes_on, goes_so, goes_too, goes_gives}
use Rattle.hx_bounded.proofs.Rounds.{IsLed, IsFirstTurn}
use Rattle.hx_bounded.proofs.Stepping.{IsAlike, alike_self, alike_both, enough_alike, alike_pass, alike_dispatch, explained_beside, explained_pass, ComesTo, step_comes, listed, put_is, own_turn, due_turn}

-- which calls come after one
abbrev pub after_call : List (SessionId × InstanceId) → List Call → List Call
after_call shown [] = Live ∷ []
after_call shown (Live ∷ rest) = calls_after_live shown
after_call shown (Post ∷ rest) = []
after_call shown (Mail s ∷ rest) = rest
after_call shown (States s ∷ rest) = rest
after_call shown (Ideals ∷ rest) = rest
after_call shown (Send ∷ rest) = rest

-- a call keeps who leads, the size and, unless it has an outcome, reports; and the turn goes on
record IsFine (c : Cluster) (x : Controller) (left : List Call) (e : Event) (o : Option PassOutcome) : Type 0 where
  alike : IsAlike c (next c e)
  keeps : o ≡ None → (r : Report) → IsExplained c r → IsExplained (next c e) r
  goes : (turn_after c x.id x.turn e).left ≡ after_call (live_shown c) left

abbrev AreFine : Cluster → Controller → List Call → Step → Type 0
AreFine c x left (Calls e o) = IsFine c x left e o
AreFine c x left (Plans p) = ⊥
AreFine c x left (Refuses f) = Unit {0}

module _ (c : Cluster) (x : Controller) where
  fine_if : (left : List Call) (b : Bool) (e : Event) (o : Option PassOutcome) (f : ControlFault) → IsFine c x left e o → AreFine c x left (if b then Calls e o else Refuses f)
  fine_if left true e o f fine = fine
  fine_if left false e o f fine = tt

  fine_both : (left : List Call) (a b : Bool) (e : Event) (o : Option PassOutcome) (f g : ControlFault) → IsFine c x left e o → AreFine c x left (if not a then Refuses f else if not b then Refuses g else Calls e o)
  fine_both left true true e o f g fine = fine
  fine_both left true false e o f g fine = tt
  fine_both left false b e o f g fine = tt

  fine_of : (left : List Call) (b : Bool) (s : Step) → AreFine c x left s → AreFine c x left (of_cluster b s)
  fine_of left true s fine = fine
  fine_of left false s fine = tt

  -- a read
  read_fine : (call : Call) (rest : List Call) (e : Event) → next c e ≡ c → (turn_after c x.id x.turn e).left ≡ after_call (live_shown c) (call ∷ rest) → AreFine c x (call ∷ rest) (read_step c x e)
  read_fine call rest e same goes =
      fine_if (call ∷ rest) (is_pass c x.id x.turn.begun.pass) e None (faults.OldPass (pass_of c x.id))
      (record { alike = subst (IsAlike c) (sym same) (alike_self c); keeps = λ none r e. subst (λ (d : Cluster). IsExplained d r) (sym same) e; goes = goes })

  dispatch_fine : (rest : List Call) → x.turn.left ≡ Send ∷ rest → (b : Bool) (p : Plan) → AreFine c x (Send ∷ rest) (of_cluster b (dispatch_step c x p (dispatched_of c x.id p.proposals)))
  dispatch_fine rest left b p =
      fine_of (Send ∷ rest) b (dispatch_step c x p (dispatched_of c x.id p.proposals))
      (fine_both (Send ∷ rest) (is_epoch c x.turn.begun.epoch) (is_pass c x.id x.turn.begun.pass)
      (events.Dispatch x.id x.turn.begun.epoch x.turn.begun.pass p.proposals (dispatched_of c x.id p.proposals)) (Some (outcome_of x.turn p (dispatched_of c x.id p.proposals)))
      (faults.Fenced c.epoch) (faults.OldPass (pass_of c x.id)) (record {
        alike = alike_dispatch c x.id p.proposals;
        keeps = λ none. absurd (never (outcome_of x.turn p (dispatched_of c x.id p.proposals)) none);
        goes =
            ap (λ (t : Turn). t.left) (own_turn x.id x.turn (if_due (is_due x.turn Send x.turn.begun.pass && is_of_epoch x.turn x.turn.begun.epoch) (gone_on x.turn x.turn.view)))
            ∙ (λ i. (if_due ((is_first Send (left i) && same-self x.turn.begun.pass.0 i) && same-self x.turn.begun.epoch.0 i) (gone_on x.turn x.turn.view)).left)
            ∙ ap (drop 1) left;
      }))
    where
      never : (o : PassOutcome) → Some o ≡ None → ⊥
      never o e = cc

  -- a call that isn't a dispatch
  call_fine : (spec : Spec) (left : List Call) → x.turn.left ≡ left → is_first Send left ≡ false → AreFine c x left (step_at spec c x left)
  call_fine spec [] is other =
      fine_if [] (is_leader x.id c.leader) (events.Begin x.id (begun_of c x.id)) None (faults.NotLeader c.leader) (record {
        alike = alike_pass c x.id;
        keeps = λ none r e. explained_pass c x.id r e;
        goes = ap (λ (t : Turn). t.left) (own_turn x.id x.turn (begun_turn (begun_of c x.id)));
      })
  call_fine spec (Live ∷ rest) is other =
      read_fine Live rest (events.Live x.id x.turn.begun.pass) refl
      (ap (λ (t : Turn). t.left) (own_turn x.id x.turn (if_due (is_due x.turn Live x.turn.begun.pass) (with_live c x.turn)) ∙ due_turn x.turn (with_live c x.turn) Live rest is refl))
  call_fine spec (Mail s ∷ rest) is other =
      let u = gone_on x.turn (record x.turn.view { mail = x.turn.view.mail ++ mail_shown c s }) in
      read_fine (Mail s) rest (events.Mail x.id x.turn.begun.pass s) refl
      (ap (λ (t : Turn). t.left) (own_turn x.id x.turn (if_due (is_due x.turn (Mail s) x.turn.begun.pass) u) ∙ due_turn x.turn u (Mail s) rest is (same-self s.0)) ∙ ap (drop 1) is)
  call_fine spec (States s ∷ rest) is other =
      let u = gone_on x.turn (record x.turn.view { rows = x.turn.view.rows ++ states_shown c s }) in
      read_fine (States s) rest (events.States x.id x.turn.begun.pass s) refl
      (ap (λ (t : Turn). t.left) (own_turn x.id x.turn (if_due (is_due x.turn (States s) x.turn.begun.pass) u) ∙ due_turn x.turn u (States s) rest is (same-self s.0)) ∙ ap (drop 1) is)
  call_fine spec (Ideals ∷ rest) is other =
      let u = gone_on x.turn (record x.turn.view { ideals = ideals_shown c }) in
      read_fine Ideals rest (events.Ideals x.id x.turn.begun.pass) refl
      (ap (λ (t : Turn). t.left) (own_turn x.id x.turn (if_due (is_due x.turn Ideals x.turn.begun.pass) u) ∙ due_turn x.turn u Ideals rest is refl) ∙ ap (drop 1) is)
  call_fine spec (Send ∷ rest) is other = cc
  call_fine spec (Post ∷ rest) is other =
      fine_of (Post ∷ rest) (is_of_cluster spec c x.turn.view) (post_step c x)
      (fine_if (Post ∷ rest) (is_epoch c x.turn.begun.epoch) (events.Post x.id x.turn.begun.epoch (posted_of x.turn.view)) None (faults.Fenced c.epoch) (record {
        alike = record { leader = refl; live = refl; resources = refl; models = refl };
        keeps = λ none r e. explained_beside c c.controllers (posted_of x.turn.view) r e;
        goes = ap (λ (t : Turn). t.left) (own_turn x.id x.turn idle_turn);
      }))

-- what a run of steps leaves: its outcome, if it settled, explains the board; and without one reports stay true
abbrev pub IsTold : Cluster → Option PassOutcome → Cluster → Type 0
IsTold c None d = (r : Report) → IsExplained c r → IsExplained d r
IsTold c (Some (ends.Settled r)) d = IsExplained d r
IsTold c _ d = Unit {0}

told_both : (b c d : Cluster) (o p : Option PassOutcome) → IsTold b o c → IsTold c p d → IsTold b (Turns.or_earlier o p) d
told_both b c d o (Some (ends.Settled r)) f g = g
told_both b c d None None f g = λ r e. g r (f r e)
told_both b c d (Some (ends.Settled r)) None f g = g r f
told_both b c d o p f g = tt

module _ (spec : Spec) (valid : IsValid spec) (last : Last) (k : ControllerId) where
  -- the leader's controller
  abbrev own : State → Controller
  own x = controller_of x.world k

  pub record IsMoved (x : State) (o : Option PassOutcome) (y : State) : Type 0 where
    pub stands : Stands spec last y
    pub leads : y.world.cluster.leader ≡ Some k
    pub alike : IsAlike x.world.cluster y.world.cluster
    pub told : IsTold x.world.cluster o y.world.cluster

  moved_self : (x : State) → Stands spec last x → x.world.cluster.leader ≡ Some k → IsMoved x None x
  moved_self x s leads = record { stands = s; leads = leads; alike = alike_self x.world.cluster; told = λ r e. e }

  moved_both : (x y z : State) (o p : Option PassOutcome) → IsMoved x o y → IsMoved y p z → IsMoved x (Turns.or_earlier o p) z
  moved_both x y z o p f g = record {
    stands = g.stands;
    leads = g.leads;
    alike = alike_both x.world.cluster y.world.cluster z.world.cluster f.alike g.alike;
    told = told_both x.world.cluster y.world.cluster z.world.cluster o p f.told g.told;
  }

  settled_there : (s : State) → Stands spec last s → (e : Event) (r : Report) → step_of spec s.world.cluster (own s) ≡ Calls e (Some (ends.Settled r)) → IsExplained (next s.world.cluster e) r
  settled_there s st e r is =
      subst (λ (c : Cluster). step_of spec c (own s) ≡ Calls e (Some (ends.Settled r)) → IsExplained (next c e) r) (sym st.scripted.of.cluster)
      (λ at. (settled_board spec s.world.history (own s) e r valid st.scripted.of.legal (st.scripted.of.turns k).of_board at).1) is

  -- a step
  record IsStepped (left : List Call) (s : State) (o : Option PassOutcome) (y : State) : Type 0 where
    moved : IsMoved s o y
    goes : (Turns.left_of y k ≡ []) ⊎ (Turns.left_of y k ≡ after_call (live_shown s.world.cluster) left)

  module _ (s : State) (st : Stands spec last s) (leads : s.world.cluster.leader ≡ Some k) where
    put : (y : Controller) (t : State) → t.world.controllers ≡ s.world.controllers → y.id ≡ (own s).id → controller_of (with_controller y t).world k ≡ y
    put y t same id =
        put_is k t y (subst (λ (ks : List Controller). k.0 < length ks) (sym same) (listed spec valid last k s st leads)) (id ∙ (st.scripted.of.turns k).id)

    -- a step that leaves the cluster as it was
    stays : (o : Option PassOutcome) (y : State) → Stands spec last y → y.world.cluster ≡ s.world.cluster → IsTold s.world.cluster o s.world.cluster → IsMoved s o y
    stays o y now same told = record {
      stands = now;
      leads = ap (λ (c : Cluster). c.leader) same ∙ leads;
      alike = subst (λ (c : Cluster). IsAlike s.world.cluster c) (sym same) (alike_self s.world.cluster);
      told = subst (λ (c : Cluster). IsTold s.world.cluster o c) (sym same) told;
    }

    told_of : (e : Event) (o : Option PassOutcome) (left : List Call) → IsFine s.world.cluster (own s) left e o → step_of spec s.world.cluster (own s) ≡ Calls e o
        → IsTold s.world.cluster o (next s.world.cluster e)
    told_of e None left fine is = fine.keeps refl
    told_of e (Some (ends.Settled r)) left fine is = settled_there s st e r is
    told_of e _ left fine is = tt

    from_step : (left : List Call) (step : Step) → step_of spec s.world.cluster (own s) ≡ step → AreFine s.world.cluster (own s) left step
        → (o : Option PassOutcome) (y : State) → Stands spec last y → ComesTo (own s) step s o y → IsStepped left s o y
    from_step left (Plans p) is fine o y now comes = absurd fine
    from_step left (Calls e a) is fine o y now comes =
        let x' = after_step s.world.cluster (own s) (Calls e a) in
        record {
          moved = record {
            stands = now;
            leads = ap (λ (z : State). z.world.cluster.leader) comes.1 ∙ fine.alike.leader ∙ leads;
            alike = subst (λ (z : State). IsAlike s.world.cluster z.world.cluster) (sym comes.1) fine.alike;
            told = subst (λ (z : State). IsTold s.world.cluster o z.world.cluster) (sym comes.1) (subst (λ (b : Option PassOutcome). IsTold s.world.cluster b (next s.world.cluster e)) (sym comes.0) (told_of e a left fine is));
          };
          goes = inr (ap (λ (z : State). Turns.left_of z k) comes.1 ∙ ap (λ (z : Controller). z.turn.left) (put x' (happened e s) refl refl) ∙ fine.goes);
        }
    from_step left (Refuses f) is fine o y now comes =
        record {
          moved = stays o y now (ap (λ (z : State). z.world.cluster) comes.1) (subst (λ (b : Option PassOutcome). IsTold s.world.cluster b s.world.cluster) (sym comes.0) (λ r e. e));
          goes = inl (ap (λ (z : State). Turns.left_of z k) comes.1 ∙ ap (λ (z : Controller). z.turn.left) (put (idle_controller (own s).id) s refl refl));
        }

    comes_at : (left : List Call) → Turns.left_of s k ≡ left → IfGoesOn (λ o y. Stands spec last y × ComesTo (own s) (step_at spec s.world.cluster (own s) left) s o y) (Turns.step Quiet k s)
    comes_at left is =
        goes_too (Stands spec last) (ComesTo (own s) (step_at spec s.world.cluster (own s) left) s) (Turns.step Quiet k s) (keeps_step spec valid last Quiet k s st)
        (subst (λ (given : Spec). IfGoesOn (ComesTo (own s) (step_at given s.world.cluster (own s) left) s) (Turns.step Quiet k s)) st.scripted.of.given (step_comes k s left is))

    stepped : (left : List Call) → Turns.left_of s k ≡ left → AreFine s.world.cluster (own s) left (step_at spec s.world.cluster (own s) left)
        → IfGoesOn (IsStepped left s) (Turns.step Quiet k s)
    stepped left is fine =
        goes_so (λ o y. Stands spec last y × ComesTo (own s) (step_at spec s.world.cluster (own s) left) s o y) (IsStepped left s) (Turns.step Quiet k s) (comes_at left is)
        (λ o y e. from_step left (step_at spec s.world.cluster (own s) left) (ap (step_at spec s.world.cluster (own s)) is) fine o y e.0 e.1)

    -- a dispatch whose plan was made
    sent : (rest : List Call) (p : Plan) → Turns.left_of s k ≡ Send ∷ rest → (own s).plan ≡ Some p → IfGoesOn (IsStepped (Send ∷ rest) s) (Turns.step Quiet k s)
    sent rest p is made =
        stepped (Send ∷ rest) is
        (subst (λ (o : Option Plan). AreFine s.world.cluster (own s) (Send ∷ rest) (of_cluster (is_of_cluster spec s.world.cluster (own s).turn.view) (planned_step spec s.world.cluster (own s) o)))
        (sym made) (dispatch_fine s.world.cluster (own s) rest is (is_of_cluster spec s.world.cluster (own s).turn.view) p))

    -- the plan is made, or the turn is given up
    record IsPlanned (rest : List Call) (o : Option PassOutcome) (y : State) : Type 0 where
      moved : IsMoved s None y
      none : o ≡ None
      goes : (Turns.left_of y k ≡ []) ⊎ ((Turns.left_of y k ≡ Send ∷ rest) × ((p : Plan) × ((own y).plan ≡ Some p)))

    planned : (rest : List Call) → Turns.left_of s k ≡ Send ∷ rest → (own s).plan ≡ None → IfGoesOn (IsPlanned rest) (Turns.step Quiet k s)
    planned rest is none =
        goes_so (λ o y. Stands spec last y × ComesTo (own s) (step_at spec s.world.cluster (own s) (Send ∷ rest)) s o y) (IsPlanned rest) (Turns.step Quiet k s) (comes_at (Send ∷ rest) is)
        (λ o y e. one (is_of_cluster spec s.world.cluster (own s).turn.view) o y e.0
        (subst (λ (a : Option Plan). ComesTo (own s) (of_cluster (is_of_cluster spec s.world.cluster (own s).turn.view) (planned_step spec s.world.cluster (own s) a)) s o y) none e.1))
      where
        one : (b : Bool) (o : Option PassOutcome) (y : State) → Stands spec last y → ComesTo (own s) (of_cluster b (planned_step spec s.world.cluster (own s) None)) s o y → IsPlanned rest o y
        one true o y now comes =
            let p = plan spec.models spec.rules (own s).turn.view in
            let here = ap (λ (z : State). controller_of z.world k) comes.1 ∙ put (record (own s) { plan = Some p }) s refl refl in
            record {
              moved = stays None y now (ap (λ (z : State). z.world.cluster) comes.1) (λ r e. e);
              none = comes.0;
              goes = inr (ap (λ (z : Controller). z.turn.left) here ∙ is, (p, ap (λ (z : Controller). z.plan) here));
            }
        one false o y now comes =
            record {
              moved = stays None y now (ap (λ (z : State). z.world.cluster) comes.1) (λ r e. e);
              none = comes.0;
              goes = inl (ap (λ (z : State). Turns.left_of z k) comes.1 ∙ ap (λ (z : Controller). z.turn.left) (put (idle_controller (own s).id) s refl refl));
            }

  -- the call of a turn that is next
  call_of : (s : State) → Stands spec last s → s.world.cluster.leader ≡ Some k → (left : List Call) → Turns.left_of s k ≡ left → IfGoesOn (IsStepped left s) (Turns.do_call_of Quiet k left s)
  call_of s st leads [] is = stepped s st leads [] is (call_fine s.world.cluster (own s) spec [] is refl)
  call_of s st leads (Live ∷ rest) is = stepped s st leads (Live ∷ rest) is (call_fine s.world.cluster (own s) spec (Live ∷ rest) is refl)
  call_of s st leads (Mail u ∷ rest) is = stepped s st leads (Mail u ∷ rest) is (call_fine s.world.cluster (own s) spec (Mail u ∷ rest) is refl)
  call_of s st leads (States u ∷ rest) is = stepped s st leads (States u ∷ rest) is (call_fine s.world.cluster (own s) spec (States u ∷ rest) is refl)
  call_of s st leads (Ideals ∷ rest) is = stepped s st leads (Ideals ∷ rest) is (call_fine s.world.cluster (own s) spec (Ideals ∷ rest) is refl)
  call_of s st leads (Post ∷ rest) is = stepped s st leads (Post ∷ rest) is (call_fine s.world.cluster (own s) spec (Post ∷ rest) is refl)
  call_of s st leads (Send ∷ rest) is = one (own s).plan refl
    where
      after : (y : State) → IsMoved s None y → (Turns.left_of y k ≡ []) ⊎ ((Turns.left_of y k ≡ Send ∷ rest) × ((p : Plan) × ((own y).plan ≡ Some p)))
          → IfGoesOn (IsStepped (Send ∷ rest) s) (Turns.if_under_way (Turns.left_of y k) (λ z. Turns.step Quiet k z) y)
      after y moved (inl none) =
          subst (λ (calls : List Call). IfGoesOn (IsStepped (Send ∷ rest) s) (Turns.if_under_way calls (λ z. Turns.step Quiet k z) y)) (sym none) (record { to = record { moved = moved; goes = inl none } })
      after y moved (inr there) =
          subst (λ (calls : List Call). IfGoesOn (IsStepped (Send ∷ rest) s) (Turns.if_under_way calls (λ z. Turns.step Quiet k z) y)) (sym there.0)
          (goes_so (IsStepped (Send ∷ rest) y) (IsStepped (Send ∷ rest) s) (Turns.step Quiet k y) (sent y moved.stands moved.leads rest there.1.0 there.0 there.1.1)
          (λ o z e. record { moved = earlier o z e.moved; goes = e.goes }))
        where
          earlier : (o : Option PassOutcome) (z : State) → IsMoved y o z → IsMoved s o z
          earlier None z e = moved_both s y z None None moved e
          earlier (Some o) z e = moved_both s y z None (Some o) moved e

      one : (o : Option Plan) → (own s).plan ≡ o
          → IfGoesOn (IsStepped (Send ∷ rest) s) (go_on (Turns.make_plan Quiet k o s) (λ _ y. Turns.if_under_way (Turns.left_of y k) (λ z. Turns.step Quiet k z) y))
      one None none =
          goes_on (IsPlanned s st leads rest) (IsStepped (Send ∷ rest) s) (Turns.step Quiet k s) (λ _ y. Turns.if_under_way (Turns.left_of y k) (λ z. Turns.step Quiet k z) y)
          (planned s st leads rest is none) (λ o y e. after y e.moved e.goes)
      one (Some p) made =
          goes_on {A = Option PassOutcome} (λ _ y. IsMoved s None y × (y ≡ s)) (IsStepped (Send ∷ rest) s) (gives s None) (λ _ y. Turns.if_under_way (Turns.left_of y k) (λ z. Turns.step Quiet k z) y)
          (goes_gives {A = Option PassOutcome} (λ _ y. IsMoved s None y × (y ≡ s)) s None (moved_self s st leads, refl))
          (λ o y e.
          let left : Turns.left_of y k ≡ Send ∷ rest = ap (λ (z : State). Turns.left_of z k) e.1 ∙ is in
          let plan : (own y).plan ≡ Some p = ap (λ (z : State). (own z).plan) e.1 ∙ made in
          after y e.0 (inr (left, (p, plan))))

  -- the order of calls
  abbrev is_led : List Call → Bool
  is_led (Live ∷ rest) = true
  is_led _ = false

  order_there : (s : State) → Stands spec last s → is_in_order (Turns.left_of s k) ≡ true
  order_there s st = one (st.scripted.of.turns k).of_board.told
    where
      one : ((own s).turn ≡ idle_turn) ⊎ ((own s).turn ≡ turn_of spec (own s).id s.world.history) → is_in_order (own s).turn.left ≡ true
      one (inl idle) = ap (λ (u : Turn). is_in_order u.left) idle
      one (inr told) =
          ap (λ (u : Turn). is_in_order u.left) told ∙ (turn_law spec valid s.world.history st.scripted.of.legal (own s).id).order

  not_led_next : (call : Call) (rest : List Call) → is_in_order (call ∷ rest) ≡ true → is_led rest ≡ false
  not_led_next call [] e = refl
  not_led_next call (Mail s ∷ rest) e = refl
  not_led_next call (States s ∷ rest) e = refl
  not_led_next call (Ideals ∷ rest) e = refl
  not_led_next call (Send ∷ rest) e = refl
  not_led_next call (Post ∷ rest) e = refl
  not_led_next Live (Live ∷ rest) e = cc
  not_led_next (Mail s) (Live ∷ rest) e = cc
  not_led_next (States s) (Live ∷ rest) e = cc
  not_led_next Ideals (Live ∷ rest) e = cc
  not_led_next Send (Live ∷ rest) e = cc
  not_led_next Post (Live ∷ rest) e = cc

  -- a post is the last call
  goes_rest : (shown : List (SessionId × InstanceId)) (call : Call) (rest after : List Call) → is_in_order (call ∷ rest) ≡ true → is_led (call ∷ rest) ≡ false
      → (after ≡ []) ⊎ (after ≡ after_call shown (call ∷ rest)) → (after ≡ []) ⊎ (after ≡ rest)
  goes_rest shown call rest after order led (inl none) = inl none
  goes_rest shown Live rest after order led (inr same) = cc
  goes_rest shown (Mail s) rest after order led (inr same) = inr same
  goes_rest shown (States s) rest after order led (inr same) = inr same
  goes_rest shown Ideals rest after order led (inr same) = inr same
  goes_rest shown Send rest after order led (inr same) = inr same
  goes_rest shown Post rest after order led (inr same) = inl same

  -- the calls that are left are made, or the turn is given up
  pub record IsThrough (s : State) (o : Option PassOutcome) (y : State) : Type 0 where
    pub moved : IsMoved s o y
    pub idle : Turns.left_of y k ≡ []

  through : (n : ℕ) (left : List Call) (s : State) → Stands spec last s → s.world.cluster.leader ≡ Some k → Turns.left_of s k ≡ left → length left ≡ n → is_led left ≡ false
      → IfGoesOn (IsThrough s) (Turns.do_calls Quiet k n s)
  through zero [] s st leads is many led = record { to = record { moved = moved_self s st leads; idle = is } }
  through zero (call ∷ rest) s st leads is many led = absurd (omega (arith, many))
  through (suc n) [] s st leads is many led = absurd (omega (arith, many))
  through (suc n) (call ∷ rest) s st leads is many led =
      goes_on (IsStepped (call ∷ rest) s) (IsThrough s) (Turns.do_call Quiet k s)
      (λ o y. go_on (Turns.if_under_way (Turns.left_of y k) (λ z. Turns.do_calls Quiet k n z) y) (λ p z. gives z (Turns.or_earlier o p)))
      (subst (λ (calls : List Call). IfGoesOn (IsStepped (call ∷ rest) s) (Turns.do_call_of Quiet k calls s)) (sym is) (call_of s st leads (call ∷ rest) is))
      (λ o y e.
      goes_on (IsThrough y) (IsThrough s) (Turns.if_under_way (Turns.left_of y k) (λ z. Turns.do_calls Quiet k n z) y) (λ p z. gives z (Turns.or_earlier o p))
      (more (λ cs z ss ll at few led. through n cs z ss ll at few led) y o e.moved (goes_rest (live_shown s.world.cluster) call rest (Turns.left_of y k) (ap is_in_order (sym is) ∙ order_there s st) led e.goes))
      (λ p z g. goes_gives (IsThrough s) z (Turns.or_earlier o p) (record { moved = moved_both s y z o p e.moved g.moved; idle = g.idle })))
    where
      order : is_in_order (call ∷ rest) ≡ true
      order = ap is_in_order (sym is) ∙ order_there s st

      under : ((left : List Call) (z : State) → Stands spec last z → z.world.cluster.leader ≡ Some k → Turns.left_of z k ≡ left → length left ≡ n → is_led left ≡ false → IfGoesOn (IsThrough z) (Turns.do_calls Quiet k n z))
          → (y : State) (o : Option PassOutcome) → IsMoved s o y → (left : List Call) → Turns.left_of y k ≡ left → length left ≡ n → is_led left ≡ false → IfGoesOn (IsThrough y) (Turns.if_under_way left (λ z. Turns.do_calls Quiet k n z) y)
      under again y o m [] at few led = record { to = record { moved = moved_self y m.stands m.leads; idle = at } }
      under again y o m (c ∷ cs) at few led = again (c ∷ cs) y m.stands m.leads at few led

      more : ((left : List Call) (z : State) → Stands spec last z → z.world.cluster.leader ≡ Some k → Turns.left_of z k ≡ left → length left ≡ n → is_led left ≡ false → IfGoesOn (IsThrough z) (Turns.do_calls Quiet k n z))
          → (y : State) (o : Option PassOutcome) → IsMoved s o y → (Turns.left_of y k ≡ []) ⊎ (Turns.left_of y k ≡ rest) → IfGoesOn (IsThrough y) (Turns.if_under_way (Turns.left_of y k) (λ z. Turns.do_calls Quiet k n z) y)
      more again y o m (inl none) =
          subst (λ (calls : List Call). IfGoesOn (IsThrough y) (Turns.if_under_way calls (λ z. Turns.do_calls Quiet k n z) y)) (sym none) (record { to = record { moved = moved_self y m.stands m.leads; idle = none } })
      more again y o m (inr same) =
          subst (λ (calls : List Call). IfGoesOn (IsThrough y) (Turns.if_under_way calls (λ z. Turns.do_calls Quiet k n z) y)) (sym same)
          (under again y o m rest same (omega (arith, many)) (not_led_next call rest order))

  -- the rest of a turn of which live may be next
  record IsUnled (s : State) (o : Option PassOutcome) (y : State) : Type 0 where
    moved : IsMoved s o y
    led : is_led (Turns.left_of y k) ≡ false

  after_live : (shown : List (SessionId × InstanceId)) → is_led (calls_after_live shown) ≡ false
  after_live [] = refl
  after_live (e ∷ shown) = refl

  first_rest : (left : List Call) (s : State) → Stands spec last s → s.world.cluster.leader ≡ Some k → Turns.left_of s k ≡ left → IfGoesOn (IsUnled s) (Turns.do_calls Quiet k (length left) s)
  first_rest left s st leads is = one (is_led left) refl
    where
      unled : (y : State) (o : Option PassOutcome) → IsThrough s o y → IsUnled s o y
      unled y o t = record { moved = t.moved; led = ap is_led t.idle }

      only : (left : List Call) → is_led left ≡ true → is_in_order left ≡ true → left ≡ Live ∷ []
      only [] led order = cc
      only (Live ∷ []) led order = refl
      only (Live ∷ (b ∷ rest)) led order = cc
      only (Mail u ∷ rest) led order = cc
      only (States u ∷ rest) led order = cc
      only (Ideals ∷ rest) led order = cc
      only (Send ∷ rest) led order = cc
      only (Post ∷ rest) led order = cc

      quiet : (y : State) (o : Option PassOutcome) (calls : List Call) → IsMoved s o y → is_led (Turns.left_of y k) ≡ false
          → IfGoesOn (IsUnled s) (go_on (Turns.if_under_way calls (λ z. Turns.do_calls Quiet k zero z) y) (λ p z. gives z (Turns.or_earlier o p)))
      quiet y o [] m led = record { to = record { moved = m; led = led } }
      quiet y o (call ∷ calls) m led = record { to = record { moved = m; led = led } }

      led_next : (y : State) → (Turns.left_of y k ≡ []) ⊎ (Turns.left_of y k ≡ calls_after_live (live_shown s.world.cluster)) → is_led (Turns.left_of y k) ≡ false
      led_next y (inl none) = ap is_led none
      led_next y (inr same) = ap is_led same ∙ after_live (live_shown s.world.cluster)

      live_only : Turns.left_of s k ≡ Live ∷ [] → IfGoesOn (IsUnled s) (Turns.do_calls Quiet k 1 s)
      live_only at =
          goes_on (IsStepped (Live ∷ []) s) (IsUnled s) (Turns.do_call Quiet k s)
          (λ o y. go_on (Turns.if_under_way (Turns.left_of y k) (λ z. Turns.do_calls Quiet k zero z) y) (λ p z. gives z (Turns.or_earlier o p)))
          (subst (λ (calls : List Call). IfGoesOn (IsStepped (Live ∷ []) s) (Turns.do_call_of Quiet k calls s)) (sym at) (call_of s st leads (Live ∷ []) at))
          (λ o y e. quiet y o (Turns.left_of y k) e.moved (led_next y e.goes))

      one : (b : Bool) → is_led left ≡ b → IfGoesOn (IsUnled s) (Turns.do_calls Quiet k (length left) s)
      one false led = goes_so (IsThrough s) (IsUnled s) (Turns.do_calls Quiet k (length left) s) (through (length left) left s st leads is refl led) (λ o y t. unled y o t)
      one true led =
          let same = only left led (ap is_in_order (sym is) ∙ order_there s st) in
          subst (λ (calls : List Call). IfGoesOn (IsUnled s) (Turns.do_calls Quiet k (length calls) s)) (sym same) (live_only (is ∙ same))

  -- a whole turn
  begins : (s : State) → Stands spec last s → s.world.cluster.leader ≡ Some k → (left : List Call) → Turns.left_of s k ≡ left → IfGoesOn (λ _ y. IsMoved s None y) (Turns.begin_if_idle Quiet k left s)
  begins s st leads [] is =
      goes_so (λ o y. Stands spec last y × ComesTo (own s) (begin_step s.world.cluster (own s)) s o y) (λ _ y. IsMoved s None y) (Turns.step Quiet k s)
      (comes_at s st leads [] is)
      (λ o y e. none_of o y (no_outcome (is_leader (own s).id s.world.cluster.leader) o y e.1)
      (from_step s st leads [] (begin_step s.world.cluster (own s)) (ap (step_at spec s.world.cluster (own s)) is) (call_fine s.world.cluster (own s) spec [] is refl) o y e.0 e.1).moved)
    where
      none_of : (o : Option PassOutcome) (y : State) → o ≡ None → IsMoved s o y → IsMoved s None y
      none_of o y none m = subst (λ (p : Option PassOutcome). IsMoved s p y) none m

      no_outcome : (b : Bool) (o : Option PassOutcome) (y : State)
          → ComesTo (own s) (if b then Calls (events.Begin (own s).id (begun_of s.world.cluster (own s).id)) None else Refuses (faults.NotLeader s.world.cluster.leader)) s o y → o ≡ None
      no_outcome true o y e = e.0
      no_outcome false o y e = e.0
  begins s st leads (call ∷ rest) is = record { to = moved_self s st leads }

  pub turn_through : (s : State) → Stands spec last s → s.world.cluster.leader ≡ Some k → IfGoesOn (IsThrough s) (Turns.do_pass Quiet k s)
  turn_through s st leads =
      goes_on (λ _ y. IsMoved s None y) (IsThrough s) (Turns.begin_if_idle Quiet k (Turns.left_of s k) s)
      (λ _ y. go_on (Turns.do_rest Quiet k y) (λ o z. go_on (Turns.do_rest Quiet k z) (λ p u. gives u (Turns.or_earlier o p)))) (begins s st leads (Turns.left_of s k) refl)
      (λ _ y m.
      goes_on (IsUnled y) (IsThrough s) (Turns.do_rest Quiet k y) (λ o z. go_on (Turns.do_rest Quiet k z) (λ p u. gives u (Turns.or_earlier o p)))
      (first_rest (Turns.left_of y k) y m.stands m.leads refl)
      (λ o z e.
      goes_on (IsThrough z) (IsThrough s) (Turns.do_rest Quiet k z) (λ p u. gives u (Turns.or_earlier o p))
      (through (length (Turns.left_of z k)) (Turns.left_of z k) z e.moved.stands e.moved.leads refl refl e.led)
      (λ p u t. goes_gives (IsThrough s) u (Turns.or_earlier o p) (record {
        moved = from_begin y u (Turns.or_earlier o p) m (moved_both y z u o p e.moved t.moved);
        idle = t.idle;
      }))))
    where
      from_begin : (y u : State) (o : Option PassOutcome) → IsMoved s None y → IsMoved y o u → IsMoved s o u
      from_begin y u None m e = moved_both s y u None None m e
      from_begin y u (Some o) m e = moved_both s y u None (Some o) m e

  pub first_turn : (x : State) → Stands spec last x → x.world.cluster.leader ≡ Some k → IfGoesOn (IsFirstTurn spec last k (enough_rounds x.world.cluster)) (Turns.do_pass Quiet k x)
  first_turn x st leads =
      goes_so (IsThrough x) (IsFirstTurn spec last k (enough_rounds x.world.cluster)) (Turns.do_pass Quiet k x) (turn_through x st leads) (λ o y t. one o y t t.moved.told)
    where
      led : (o : Option PassOutcome) (y : State) → IsThrough x o y → IsLed spec last k y × (enough_rounds y.world.cluster ≡ enough_rounds x.world.cluster)
      led o y t = (record { stands = t.moved.stands; leads = t.moved.leads; idle = t.idle }, enough_alike x.world.cluster y.world.cluster t.moved.alike)

      one : (o : Option PassOutcome) (y : State) → IsThrough x o y → IsTold x.world.cluster o y.world.cluster → IsFirstTurn spec last k (enough_rounds x.world.cluster) o y
      one (Some (ends.Settled r)) y t told = told
      one o y t told = led o y t
