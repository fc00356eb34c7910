-- How a kept turn makes its plan, sends it and posts.
use Rattle.std.proofs.Common.{◌≡◌, ℕ, suc, ◌+◌, ◌⊎◌, inl, inr, ◌&&◌, not, Bool, true, false, List, [], ◌∷◌, ◌++◌, map, length, drop, Option, None, Some, refl, sym, ap, ap₂, ◌∙◌, subst, append_assoc, arith}
use Rattle.std.specs.Prelude.{◌*◌, ◌==◌, Ok, Err, IfSome, MatchOption, option_map, nat_lt, if◌then◌else◌}
use Rattle.std.proofs.lemmas.Bool.Decides.{nat_tests}
use Rattle.hx_ids.specs.declared.SessionId.{SessionId}
use Rattle.hx_ids.specs.declared.InstanceId.{InstanceId}
use Rattle.hx_cluster.specs.declared.description.Spec.{Spec}
use Rattle.hx_cluster.specs.declared.state.Cluster.{Cluster}
use Rattle.hx_cluster.specs.declared.state.Message.{Message}
use Rattle.hx_cluster.specs.declared.planning.Report.{Report}
use Rattle.hx_cluster.specs.declared.planning.Plan.{Plan}
use Rattle.hx_cluster.specs.declared.planning.View.{View}
use Rattle.hx_cluster.specs.declared.happenings.Proposal.{Proposal}
use Rattle.hx_cluster.specs.declared.happenings.Dispatched.{Dispatched}
use Rattle.hx_cluster.specs.declared.happenings.Seen.{Seen}
use Rattle.hx_cluster.specs.declared.happenings.Event.{Event}
use Rattle.hx_cluster.specs.declared.happenings.Event.TheVariants as events
use Rattle.hx_cluster.specs.Steps.{has_controller}
use Rattle.hx_cluster.specs.Reads.{pass_of}
use Rattle.hx_cluster.specs.Events.{dispatched_of, is_epoch, is_pass}
use Rattle.hx_lists.specs.Lists.{count}
use Rattle.hx_formed.specs.Formed.{Setting, IsFound}
use Rattle.hx_pass.specs.Plans.{plan}
use Rattle.hx_pass.specs.Drafts.{Draft, draft, finished}
use Rattle.hx_pass.specs.Turns.{Call, Mail, States, Ideals, Turn, Send, Post, idle_turn, is_due, is_of_epoch, if_due, gone_on, turn_after, posted_of}
use Rattle.hx_board.specs.Board.{Held, happened}
use Rattle.hx_board.specs.Refusals.{full, dispatch_refusal, post_refusal}
use Rattle.hx_board.specs.declared.faults.DispatchRefusal.{DispatchRefusal}
use Rattle.hx_board.specs.declared.faults.DispatchRefusal.TheVariants as dispatches
use Rattle.hx_board.specs.declared.faults.PostRefusal.{PostRefusal}
use Rattle.hx_board.specs.declared.faults.PostRefusal.TheVariants as posts
use Rattle.hx_board.proofs.Free.{post_free}
use Rattle.hx_control.specs.declared.PassOutcome.{PassOutcome}
use Rattle.hx_control.specs.declared.PassOutcome.TheVariants as ends
use Rattle.hx_control.specs.declared.ControlFault.{ControlFault}
use Rattle.hx_control.specs.declared.ControlFault.TheVariants as faults
use Rattle.hx_control.specs.declared.controller.Next.{Next}
use Rattle.hx_control.specs.declared.controller.Next.TheVariants as nexts
use Rattle.hx_control.specs.declared.controller.Planned.{Planned}
use Rattle.hx_control.specs.declared.controller.Controller.TheInside.{Inside}
use Rattle.hx_control.specs.Controllers.{Controller, idle_controller}
use Rattle.hx_control.specs.Steps.{Step, Calls, Plans, Refuses, is_sent, is_of_cluster, of_cluster, outcome_of, dispatch_step, planned_step, post_step, step_of}
use Rattle.hx_control.specs.OfBoard.{IsPlanOf}
use Rattle.hx_control.specs.Turning.{left_of, controller, with_plan, IsTurn, IsPlanned}
use Rattle.hx_control.specs.Drafted.{IsToSend, IsDispatched}
use Rattle.hx_control.specs.Faults.{of_dispatch, of_post}
use Rattle.hx_control.specs.Made.{step_fault, Tries}
use Rattle.hx_control.proofs.Making.{if_true, own, with_turn, call_made, full_same, refused_so, tried_in_vain, tried_well, due, next_step}

-- a turn whose plan was made has that plan
pub planned_as : (a : Inside) (x : Controller) (d : Draft) → controller a ≡ x → a.draft ≡ Some d → with_plan x (finished x.turn.view d) ≡ x
planned_as a x d seen is =
    subst (λ (v : Controller). with_plan v (finished v.turn.view d) ≡ v) seen
    (λ i. record { id = a.id; turn = (controller a).turn; plan = option_map (finished a.view) (sym is i) })

pub planned_of : (spec : Spec) (x : Controller) (p : Plan) → with_plan x p ≡ x → IsPlanOf spec x.turn x.plan → p ≡ plan spec.models spec.rules x.turn.view
planned_of spec x p is planned = (subst (λ (o : Option Plan). IsPlanOf spec x.turn o) (sym (ap (λ (v : Controller). v.plan) is)) planned).1

-- the plan
plan_made : (spec : Spec) (b : Held) (x y : Controller) (p : Plan) → x.turn.left ≡ Send ∷ Post ∷ [] → x.plan ≡ None → is_of_cluster spec b.cluster x.turn.view ≡ true
    → p ≡ plan spec.models spec.rules x.turn.view → y ≡ record x { plan = Some p } → Tries (step_of spec b.cluster x) b b x y (Ok None)
plan_made spec b x y p left none of is now =
    let plans : step_of spec b.cluster x ≡ Plans (plan spec.models spec.rules x.turn.view) =
    next_step spec b.cluster x (Send ∷ Post ∷ []) left ∙ (λ i. of_cluster (of i) (planned_step spec b.cluster x (none i))) in
    subst (λ (s : Step). Tries s b b x y (Ok None)) (sym plans)
    (record { refused = refl; made = record { answer = refl; board = refl; controller = now ∙ ap (λ (q : Plan). record x { plan = Some q }) is }; kept = tt })

pub plan_done : (spec : Spec) (b : Held) (a : Inside) (x : Controller) (d : Draft) → controller a ≡ x → x.turn.left ≡ Send ∷ Post ∷ [] → x.plan ≡ None
    → is_of_cluster spec b.cluster a.view ≡ true → d ≡ draft spec.models spec.rules a.view
    → Tries (step_of spec b.cluster x) b b x (controller (record a { draft = Some d })) (Ok None)
plan_done spec b a x d seen left none of is =
    subst (λ (v : Controller). v.turn.left ≡ Send ∷ Post ∷ [] → v.plan ≡ None → Tries (step_of spec b.cluster v) b b v (controller (record a { draft = Some d })) (Ok None)) seen
    (λ left none. plan_made spec b (controller a) (controller (record a { draft = Some d })) (finished a.view d) left none of (ap (finished a.view) is) refl) left none

-- a plan for which memory is wanting
pub plan_wants : (spec : Spec) (b : Held) (a : Inside) (x : Controller) → controller a ≡ x → Tries (step_of spec b.cluster x) b b x (controller a) (Err faults.OutOfMemory)
plan_wants spec b a x seen = record { refused = inl refl; made = tt; kept = (refl, seen) }

-- a plan that isn't made, of a view that isn't of the board
pub plan_refused : (spec : Spec) (b : Held) (a : Inside) (x : Controller) → controller a ≡ x → x.turn.left ≡ Send ∷ Post ∷ [] → is_of_cluster spec b.cluster a.view ≡ false
    → Tries (step_of spec b.cluster x) b b x (controller a) (Err faults.OtherBoard)
plan_refused spec b a x seen left of =
    let is : is_of_cluster spec b.cluster x.turn.view ≡ false = ap (λ (v : Controller). is_of_cluster spec b.cluster v.turn.view) (sym seen) ∙ of in
    let step : step_of spec b.cluster x ≡ Refuses faults.OtherBoard =
    next_step spec b.cluster x (Send ∷ Post ∷ []) left ∙ ap (λ (t : Bool). of_cluster t (planned_step spec b.cluster x x.plan)) is in
    record { refused = inr (ap (step_fault b) step); made = tt; kept = (refl, seen) }

-- a turn without a plan is one whatever was planned, and with what was found of its view
no_draft : (view : View) (o : Option Draft) → option_map (finished view) o ≡ None → o ≡ None
no_draft view None is = refl
no_draft view (Some d) is = cc

pub still_turn : (a : Inside) (x : Controller) (found : Option Setting) (known : Planned) (last : Option View) → controller a ≡ x → x.turn.left ≡ Send ∷ Post ∷ [] → x.plan ≡ None
    → IsTurn a → IsFound found a.view → IsPlanned known a.spare a.view.ideals last → IsTurn (record a { formed = found; planned = known; planner = last })
still_turn a x found known last seen left none turn finds wants =
    let free : a.draft ≡ None = no_draft a.view a.draft (ap (λ (v : Controller). v.plan) seen ∙ none) in
    record {
      left = turn.left;
      few = turn.few;
      formed = finds;
      drafted = subst (λ (o : Option Draft). IfSome o (λ d. last ≡ Some a.view)) (sym free) tt;
      posts = λ is. absurd (unposted a.next a.view.live is (ap (λ (v : Controller). v.turn.left) seen ∙ left));
      wants = wants;
    }
  where
    unposted : (next : Next) (live : List (SessionId × InstanceId)) → next ≡ nexts.Post → left_of next live ≡ Send ∷ Post ∷ [] → ⊥
    unposted next live is sends = let e : Post ∷ [] ≡ Send ∷ Post ∷ [] = sym (ap (λ (n : Next). left_of n live) is) ∙ sends in cc

-- how a dispatch ends is the same by a plan without the report that it can't tell
both_first : {A : Type 0} (t : Bool) (x y z : A) → t ≡ true → (if t then x else y) ≡ (if t then x else z)
both_first t x y z is = if_true t x y is ∙ sym (if_true t x z is)

some : (n : ℕ) → nat_lt 0 (suc n) ≡ true
some n = grind (arith, nat_tests)

ends_same : (t : Turn) (p q : Plan) (d : Dispatched) → p.proposals ≡ q.proposals → (p.proposals ≡ [] → t.view.mail ≡ [] → p.report ≡ q.report) → outcome_of t p d ≡ outcome_of t q d
ends_same t p q d proposals report =
    by p.proposals t.view.mail report ∙ ap (λ (ps : List Proposal). if nat_lt 0 (length ps) then ends.Sent (count is_sent d.placed) else unsent t.view.mail q.report) proposals
  where
    unsent : List Message → Report → PassOutcome
    unsent mail r = if nat_lt 0 (length mail) then ends.Waiting (length mail) else if t.begun.change == d.change then ends.Settled r else ends.Moved t.begun.change d.change

    by : (ps : List Proposal) (mail : List Message) → (ps ≡ [] → mail ≡ [] → p.report ≡ q.report)
        → (if nat_lt 0 (length ps) then ends.Sent (count is_sent d.placed) else unsent mail p.report) ≡ (if nat_lt 0 (length ps) then ends.Sent (count is_sent d.placed) else unsent mail q.report)
    by [] [] report = ap (unsent []) (report refl refl)
    by [] (m ∷ ms) report = both_first (nat_lt 0 (suc (length ms))) (ends.Waiting (suc (length ms))) _ _ (some (length ms))
    by (x ∷ xs) mail report = both_first (nat_lt 0 (suc (length xs))) (ends.Sent (count is_sent d.placed)) _ _ (some (length xs))

pub dispatched_draft : (spec : Spec) (old new : Held) (x : Controller) (draft : Draft) (p : Plan) (answer : Dispatched) (outcome : PassOutcome) → IsToSend x.turn.view draft p
    → answer ≡ dispatched_of old.cluster x.id p.proposals
    → new ≡ happened old (events.Dispatch x.id x.turn.begun.epoch x.turn.begun.pass p.proposals answer) → outcome ≡ outcome_of x.turn p answer
    → IsDispatched old new x (finished x.turn.view draft) outcome
dispatched_draft spec old new x draft p answer outcome sent is done ends =
    let q : Plan = finished x.turn.view draft in
    let here : answer ≡ dispatched_of old.cluster x.id q.proposals = is ∙ ap (dispatched_of old.cluster x.id) sent.proposals in
    record {
      ended = ends ∙ ends_same x.turn p q answer sent.proposals sent.report ∙ ap (outcome_of x.turn q) here;
      board = done ∙ ap₂ (λ (ps : List Proposal) (d : Dispatched). happened old (events.Dispatch x.id x.turn.begun.epoch x.turn.begun.pass ps d)) sent.proposals here;
    }

-- and so is what refuses it
same_fault : (b : Held) (of : Bool) (x : Controller) (p q : Plan) (d e : Dispatched) → p.proposals ≡ q.proposals → d ≡ e
    → step_fault b (of_cluster of (dispatch_step b.cluster x p d)) ≡ step_fault b (of_cluster of (dispatch_step b.cluster x q e))
same_fault b false x p q d e proposals is = refl
same_fault b true x p q d e proposals is = one (is_epoch b.cluster x.turn.begun.epoch) (is_pass b.cluster x.id x.turn.begun.pass)
  where
    event : Plan → Dispatched → Event
    event r f = events.Dispatch x.id x.turn.begun.epoch x.turn.begun.pass r.proposals f

    event_same : event p d ≡ event q e
    event_same = ap₂ (λ (ps : List Proposal) (f : Dispatched). events.Dispatch x.id x.turn.begun.epoch x.turn.begun.pass ps f) proposals is

    one : (epoch pass : Bool)
        → step_fault b (if not epoch then Refuses (faults.Fenced b.cluster.epoch) else if not pass then Refuses (faults.OldPass (pass_of b.cluster x.id)) else Calls (event p d) (Some (outcome_of x.turn p d)))
        ≡ step_fault b (if not epoch then Refuses (faults.Fenced b.cluster.epoch) else if not pass then Refuses (faults.OldPass (pass_of b.cluster x.id)) else Calls (event q e) (Some (outcome_of x.turn q e)))
    one true true = ap (λ (v : Event). step_fault b (Calls v None)) event_same
    one true false = refl
    one false pass = refl

pub fault_of_draft : (spec : Spec) (b : Held) (x : Controller) (p q : Plan) → x.turn.left ≡ Send ∷ Post ∷ [] → p.proposals ≡ q.proposals
    → step_fault b (step_of spec b.cluster (with_plan x p)) ≡ step_fault b (step_of spec b.cluster (with_plan x q))
fault_of_draft spec b x p q left proposals =
    let step : (r : Plan) → step_of spec b.cluster (with_plan x r) ≡ of_cluster (is_of_cluster spec b.cluster x.turn.view) (dispatch_step b.cluster (with_plan x r) r (dispatched_of b.cluster x.id r.proposals)) =
    λ r. next_step spec b.cluster (with_plan x r) (Send ∷ Post ∷ []) left in
    ap (step_fault b) (step p)
    ∙ same_fault b (is_of_cluster spec b.cluster x.turn.view) x p q _ _ proposals (ap (dispatched_of b.cluster x.id) proposals)
    ∙ sym (ap (step_fault b) (step q))

-- the board refuses the dispatch of a plan as its step does
dispatch_same : (b : Held) (x : Controller) (p : Plan) → has_controller b.cluster x.id ≡ true
    → option_map of_dispatch (dispatch_refusal b x.id x.turn.begun.epoch x.turn.begun.pass p.proposals) ≡ step_fault b (dispatch_step b.cluster x p (dispatched_of b.cluster x.id p.proposals))
dispatch_same b x p there =
    one (is_epoch b.cluster x.turn.begun.epoch) ((pass_of b.cluster x.id).0 == x.turn.begun.pass.0)
    ∙ ap (λ (t : Bool). step_fault b (step (is_epoch b.cluster x.turn.begun.epoch) (t && ((pass_of b.cluster x.id).0 == x.turn.begun.pass.0)))) (sym there)
  where
    step : Bool → Bool → Step
    step epoch pass =
        if not epoch then Refuses (faults.Fenced b.cluster.epoch)
        else if not pass then Refuses (faults.OldPass (pass_of b.cluster x.id))
        else Calls (events.Dispatch x.id x.turn.begun.epoch x.turn.begun.pass p.proposals (dispatched_of b.cluster x.id p.proposals)) (Some (outcome_of x.turn p (dispatched_of b.cluster x.id p.proposals)))

    one : (epoch pass : Bool)
        → option_map of_dispatch (if not epoch then Some (dispatches.Fenced b.cluster.epoch) else if not pass then Some (dispatches.OldPass (pass_of b.cluster x.id)) else full b (1 + 4 * length p.proposals) dispatches.HistoryFull)
        ≡ step_fault b (step epoch pass)
    one true true = full_same b (1 + 4 * length p.proposals) dispatches.HistoryFull of_dispatch (λ w. refl)
    one true false = refl
    one false pass = refl

module _ (spec : Spec) (b : Held) (a : Inside) (x : Controller) (p : Plan) (seen : controller a ≡ x) (left : x.turn.left ≡ Send ∷ Post ∷ []) where
  dispatch_is : (of : Bool) → is_of_cluster spec b.cluster a.view ≡ of
      → step_of spec b.cluster (with_plan x p) ≡ of_cluster of (dispatch_step b.cluster (with_plan x p) p (dispatched_of b.cluster x.id p.proposals))
  dispatch_is of is =
      next_step spec b.cluster (with_plan x p) (Send ∷ Post ∷ []) left
      ∙ ap (λ (t : Bool). of_cluster t (dispatch_step b.cluster (with_plan x p) p (dispatched_of b.cluster x.id p.proposals)))
      (ap (λ (v : Controller). is_of_cluster spec b.cluster v.turn.view) (sym seen) ∙ is)

  pub dispatch_of_other : is_of_cluster spec b.cluster a.view ≡ false → step_fault b (step_of spec b.cluster (with_plan x p)) ≡ Some faults.OtherBoard
  dispatch_of_other is = ap (step_fault b) (dispatch_is false is)

  module _ (there : has_controller b.cluster x.id ≡ true) (of : is_of_cluster spec b.cluster a.view ≡ true) (ps : List Proposal) (are : ps ≡ p.proposals) where
    fault_is : option_map of_dispatch (dispatch_refusal b a.id a.begun.epoch a.begun.pass ps) ≡ step_fault b (step_of spec b.cluster (with_plan x p))
    fault_is =
        ap (λ (v : Controller). option_map of_dispatch (dispatch_refusal b v.id v.turn.begun.epoch v.turn.begun.pass ps)) seen
        ∙ ap (λ (qs : List Proposal). option_map of_dispatch (dispatch_refusal b x.id x.turn.begun.epoch x.turn.begun.pass qs)) are
        ∙ dispatch_same b (with_plan x p) p there
        ∙ ap (step_fault b) (sym (dispatch_is true of))

    pub dispatch_refused : (r : DispatchRefusal) → (r ≡ dispatches.OutOfMemory) ⊎ (dispatch_refusal b a.id a.begun.epoch a.begun.pass ps ≡ Some r)
        → (of_dispatch r ≡ faults.OutOfMemory) ⊎ (step_fault b (step_of spec b.cluster (with_plan x p)) ≡ Some (of_dispatch r))
    dispatch_refused r why =
        refused_so of_dispatch dispatches.OutOfMemory (dispatch_refusal b a.id a.begun.epoch a.begun.pass ps) (step_fault b (step_of spec b.cluster (with_plan x p))) fault_is refl r why

    pub dispatch_made : dispatch_refusal b a.id a.begun.epoch a.begun.pass ps ≡ None → step_fault b (step_of spec b.cluster (with_plan x p)) ≡ None
    dispatch_made none = sym fault_is ∙ ap (option_map of_dispatch) none

    pub dispatch_answered : (answer : Dispatched) → answer ≡ dispatched_of b.cluster a.id ps → answer ≡ dispatched_of b.cluster x.id p.proposals
    dispatch_answered answer is = is ∙ ap (λ (v : Controller). dispatched_of b.cluster v.id ps) seen ∙ ap (dispatched_of b.cluster x.id) are

    pub dispatch_done : (d : Held) (answer : Dispatched) → d ≡ happened b (events.Dispatch a.id a.begun.epoch a.begun.pass ps answer)
        → d ≡ happened b (events.Dispatch x.id x.turn.begun.epoch x.turn.begun.pass p.proposals answer)
    dispatch_done d answer done =
        done ∙ ap (λ (v : Controller). happened b (events.Dispatch v.id v.turn.begun.epoch v.turn.begun.pass ps answer)) seen
        ∙ ap (λ (qs : List Proposal). happened b (events.Dispatch x.id x.turn.begun.epoch x.turn.begun.pass qs answer)) are

-- the dispatch
opened : (b : Held) (of epoch pass : Bool) (e : Event) (outcome : Option PassOutcome) (f g : ControlFault)
    → step_fault b (of_cluster of (if not epoch then Refuses f else if not pass then Refuses g else Calls e outcome)) ≡ None
    → of_cluster of (if not epoch then Refuses f else if not pass then Refuses g else Calls e outcome) ≡ Calls e outcome
opened b true true true e outcome f g none = refl
opened b true true false e outcome f g none = cc
opened b true false pass e outcome f g none = cc
opened b false epoch pass e outcome f g none = cc

sent_turn : (c : Cluster) (x : Controller) (e : Plan) (d : Dispatched) → x.turn.left ≡ Send ∷ Post ∷ []
    → turn_after c x.id x.turn (events.Dispatch x.id x.turn.begun.epoch x.turn.begun.pass e.proposals d) ≡ gone_on x.turn x.turn.view
sent_turn c x e d left =
    let first : is_due x.turn Send x.turn.begun.pass ≡ true = due x.turn Send (Post ∷ []) left refl in
    let both : (is_due x.turn Send x.turn.begun.pass && is_of_epoch x.turn x.turn.begun.epoch) ≡ true = grind (arith, nat_tests, first) in
    own x.id x.turn (if_due (is_due x.turn Send x.turn.begun.pass && is_of_epoch x.turn x.turn.begun.epoch) (gone_on x.turn x.turn.view))
    ∙ if_true (is_due x.turn Send x.turn.begun.pass && is_of_epoch x.turn x.turn.begun.epoch) (gone_on x.turn x.turn.view) idle_turn both

send_made : (spec : Spec) (b d : Held) (x y : Controller) (p : Plan) (outcome : PassOutcome) → x.turn.left ≡ Send ∷ Post ∷ []
    → step_fault b (step_of spec b.cluster (with_plan x p)) ≡ None
    → d ≡ happened b (events.Dispatch x.id x.turn.begun.epoch x.turn.begun.pass p.proposals (dispatched_of b.cluster x.id p.proposals))
    → outcome ≡ outcome_of x.turn p (dispatched_of b.cluster x.id p.proposals) → y ≡ with_turn x (gone_on x.turn x.turn.view)
    → Tries (step_of spec b.cluster (with_plan x p)) b d (with_plan x p) y (Ok (Some outcome))
send_made spec b d x y p outcome left none done is now =
    let e : Event = events.Dispatch x.id x.turn.begun.epoch x.turn.begun.pass p.proposals (dispatched_of b.cluster x.id p.proposals) in
    let ended : Option PassOutcome = Some (outcome_of x.turn p (dispatched_of b.cluster x.id p.proposals)) in
    let step : step_of spec b.cluster (with_plan x p) ≡ of_cluster (is_of_cluster spec b.cluster x.turn.view) (dispatch_step b.cluster (with_plan x p) p (dispatched_of b.cluster x.id p.proposals)) =
    next_step spec b.cluster (with_plan x p) (Send ∷ Post ∷ []) left in
    let calls : step_of spec b.cluster (with_plan x p) ≡ Calls e ended =
    step ∙ opened b (is_of_cluster spec b.cluster x.turn.view) (is_epoch b.cluster x.turn.begun.epoch) (is_pass b.cluster x.id x.turn.begun.pass) e ended
    (faults.Fenced b.cluster.epoch) (faults.OldPass (pass_of b.cluster x.id)) (ap (step_fault b) (sym step) ∙ none) in
    subst (λ (o : PassOutcome). Tries (step_of spec b.cluster (with_plan x p)) b d (with_plan x p) y (Ok (Some o))) (sym is)
    (record {
      refused = none;
      made = call_made b d (with_plan x p) y e ended (step_of spec b.cluster (with_plan x p)) (gone_on x.turn x.turn.view) calls (sent_turn b.cluster (with_plan x p) p (dispatched_of b.cluster x.id p.proposals) left) done now;
      kept = tt;
    })

pub send_done : (spec : Spec) (b d : Held) (a : Inside) (x : Controller) (p : Plan) (outcome : PassOutcome) → controller a ≡ x → x.turn.left ≡ Send ∷ Post ∷ []
    → step_fault b (step_of spec b.cluster (with_plan x p)) ≡ None → IsDispatched b d x p outcome
    → Tries (step_of spec b.cluster (with_plan x p)) b d (with_plan x p) (controller (record a { next = nexts.Post; draft = None })) (Ok (Some outcome))
send_done spec b d a x p outcome seen left none made =
    let y : Controller = controller (record a { next = nexts.Post; draft = None }) in
    let now : y ≡ with_turn x (gone_on x.turn x.turn.view) =
    subst (λ (v : Controller). v.turn.left ≡ Send ∷ Post ∷ [] → controller (record a { next = nexts.Post; draft = None }) ≡ with_turn v (gone_on v.turn v.turn.view)) seen
    (λ left. (λ i. record { id = a.id; turn = record { left = sym (ap (drop 1) left) i; begun = a.begun; view = a.view }; plan = None })) left in
    send_made spec b d x y p outcome left none made.board made.ended now

-- the post
post_same : (b : Held) (x : Controller) (rows : List Seen) → rows ≡ posted_of x.turn.view
    → option_map of_post (post_refusal b x.turn.begun.epoch rows) ≡ step_fault b (post_step b.cluster x)
post_same b x rows is = one (is_epoch b.cluster x.turn.begun.epoch)
  where
    one : (t : Bool) → option_map of_post (if not t then Some (posts.Fenced b.cluster.epoch) else full b (1 + length rows) posts.HistoryFull)
        ≡ step_fault b (if t then Calls (events.Post x.id x.turn.begun.epoch (posted_of x.turn.view)) None else Refuses (faults.Fenced b.cluster.epoch))
    one true = full_same b (1 + length rows) posts.HistoryFull of_post (λ w. refl) ∙ ap (λ (rs : List Seen). full b (1 + length rs) faults.HistoryFull) is
    one false = refl

post_is : (spec : Spec) (b : Held) (x : Controller) (of : Bool) → x.turn.left ≡ Post ∷ [] → is_of_cluster spec b.cluster x.turn.view ≡ of
    → step_of spec b.cluster x ≡ of_cluster of (post_step b.cluster x)
post_is spec b x of left is = next_step spec b.cluster x (Post ∷ []) left ∙ ap (λ (t : Bool). of_cluster t (post_step b.cluster x)) is

module _ (spec : Spec) (b : Held) (a : Inside) (x : Controller) (seen : controller a ≡ x) (left : x.turn.left ≡ Post ∷ []) where
  pub other_board : is_of_cluster spec b.cluster a.view ≡ false → Tries (step_of spec b.cluster x) b b x x (Err faults.OtherBoard)
  other_board of =
      let is : is_of_cluster spec b.cluster x.turn.view ≡ false = ap (λ (v : Controller). is_of_cluster spec b.cluster v.turn.view) (sym seen) ∙ of in
      record { refused = inr (ap (step_fault b) (post_is spec b x false left is)); made = tt; kept = (refl, refl) }

  module _ (of : is_of_cluster spec b.cluster a.view ≡ true) (rows : List Seen) (posted : rows ≡ posted_of a.view) where
    same : option_map of_post (post_refusal b x.turn.begun.epoch rows) ≡ step_fault b (step_of spec b.cluster x)
    same =
        let is : is_of_cluster spec b.cluster x.turn.view ≡ true = ap (λ (v : Controller). is_of_cluster spec b.cluster v.turn.view) (sym seen) ∙ of in
        post_same b x rows (posted ∙ ap (λ (v : Controller). posted_of v.turn.view) seen) ∙ ap (step_fault b) (sym (post_is spec b x true left is))

    pub post_refused : (d : Held) (r : PostRefusal) → (r ≡ posts.OutOfMemory) ⊎ (post_refusal b a.begun.epoch rows ≡ Some r) → d ≡ b
        → Tries (step_of spec b.cluster x) b d x x (Err (of_post r))
    post_refused d r why board =
        tried_in_vain of_post posts.OutOfMemory (post_refusal b x.turn.begun.epoch rows) (step_of spec b.cluster x) b d x x same refl r
        (subst (λ (v : Controller). (r ≡ posts.OutOfMemory) ⊎ (post_refusal b v.turn.begun.epoch rows ≡ Some r)) seen why) board refl

    pub post_done : (d : Held) (y : Controller) → post_refusal b a.begun.epoch rows ≡ None → d ≡ happened b (events.Post a.id a.begun.epoch rows) → y ≡ idle_controller x.id
        → Tries (step_of spec b.cluster x) b d x y (Ok None)
    post_done d y none done now =
        let is : is_of_cluster spec b.cluster x.turn.view ≡ true = ap (λ (v : Controller). is_of_cluster spec b.cluster v.turn.view) (sym seen) ∙ of in
        let free : post_refusal b x.turn.begun.epoch rows ≡ None = ap (λ (v : Controller). post_refusal b v.turn.begun.epoch rows) (sym seen) ∙ none in
        let e : Event = events.Post x.id x.turn.begun.epoch (posted_of x.turn.view) in
        let calls : step_of spec b.cluster x ≡ Calls e None = post_is spec b x true left is ∙ if_true (is_epoch b.cluster x.turn.begun.epoch) _ _ (post_free b x.turn.begun.epoch rows free).now in
        let then_is : d ≡ happened b e =
        done ∙ ap (λ (v : Controller). happened b (events.Post v.id v.turn.begun.epoch rows)) seen
        ∙ ap (λ (rs : List Seen). happened b (events.Post x.id x.turn.begun.epoch rs)) (posted ∙ ap (λ (v : Controller). posted_of v.turn.view) seen) in
        tried_well of_post (post_refusal b x.turn.begun.epoch rows) (step_of spec b.cluster x) b d x y None same free
        (call_made b d x y e None (step_of spec b.cluster x) idle_turn calls (own x.id x.turn idle_turn) then_is now)

-- where the post is next, the rows of the view that was planned last are those of the turn's
more_left : (calls : List Call) → calls ++ Ideals ∷ Send ∷ Post ∷ [] ≡ Post ∷ [] → ⊥
more_left [] is = cc
more_left (x ∷ []) is = let e : Ideals ∷ Send ∷ Post ∷ [] ≡ [] = ap (drop 1) is in cc
more_left (x ∷ y ∷ calls) is = let e : y ∷ (calls ++ Ideals ∷ Send ∷ Post ∷ []) ≡ [] = ap (drop 1) is in cc

pub post_next : (next : Next) (live : List (SessionId × InstanceId)) → left_of next live ≡ Post ∷ [] → next ≡ nexts.Post
post_next nexts.Begin live is = cc
post_next nexts.Live live is = cc
post_next (nexts.Mail n) live is =
    absurd (more_left (map (λ e. Mail e.0) (drop n live) ++ map (λ e. States e.0) live) (append_assoc (map (λ e. Mail e.0) (drop n live)) (map (λ e. States e.0) live) (Ideals ∷ Send ∷ Post ∷ []) ∙ is))
post_next (nexts.States n) live is = absurd (more_left (map (λ e. States e.0) (drop n live)) is)
post_next nexts.Ideals live is = cc
post_next nexts.Send live is = cc
post_next nexts.Post live is = refl

pub rows_of_turn : (a : Inside) (x : Controller) (rows : List Seen) → controller a ≡ x → x.turn.left ≡ Post ∷ [] → IsTurn a
    → MatchOption a.planner (rows ≡ []) (λ view. rows ≡ posted_of view) → rows ≡ posted_of a.view
rows_of_turn a x rows seen left turn are =
    let next : a.next ≡ nexts.Post = post_next a.next a.view.live (ap (λ (v : Controller). v.turn.left) seen ∙ left) in
    subst (λ (o : Option View). MatchOption o (rows ≡ []) (λ view. rows ≡ posted_of view)) (turn.posts next) are
