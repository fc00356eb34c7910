-- A turn that settles on its board explains it.
use Rattle.std.proofs.Common.{◌≡◌, ℕ, ◌&&◌, ◌||◌, ◌==◌, not, Bool, true, false, ◌+◌, List, [], ◌∷◌, length, Option, Some, None, refl, sym, ap, ◌∙◌, ◌⊎◌, inl, inr, subst, arith}
use Rattle.std.specs.Prelude.{if◌then◌else◌, nat_lt, slice_get, slice_set}
use Rattle.std.proofs.lemmas.List.Elements.{All-weaker}
use Rattle.hx_lists.specs.Lists.{count}
use Rattle.std.proofs.lemmas.Bool.Decides.{nat_tests}
use Rattle.hx_ids.specs.declared.ControllerId.{ControllerId}
use Rattle.hx_ids.specs.declared.PassNo.{PassNo}
use Rattle.hx_cluster.specs.declared.description.Spec.{Spec}
use Rattle.hx_cluster.specs.declared.state.Message.{Message}
use Rattle.hx_cluster.specs.declared.state.Cluster.{Cluster}
use Rattle.hx_cluster.specs.declared.planning.View.{View}
use Rattle.hx_cluster.specs.declared.planning.Plan.{Plan}
use Rattle.hx_cluster.specs.declared.planning.Report.{Report}
use Rattle.hx_cluster.specs.declared.planning.Target.{Target}
use Rattle.hx_cluster.specs.declared.planning.Finding.{Finding}
use Rattle.hx_cluster.specs.declared.planning.Finding.TheVariants as findings
use Rattle.hx_cluster.specs.declared.happenings.Proposal.{Proposal}
use Rattle.hx_cluster.specs.declared.happenings.Event.{Event}
use Rattle.hx_cluster.specs.Ends.{message_of}
use Rattle.hx_cluster.specs.Steps.{opening, is_leader}
use Rattle.hx_cluster.specs.declared.happenings.Event.TheVariants as events
use Rattle.hx_cluster.specs.Reads.{pass_of}
use Rattle.hx_cluster.specs.Messages.{raised_pass, after_dispatch}
use Rattle.hx_cluster.specs.Events.{next, replay, IsLegal, is_epoch, is_pass, begun_of, dispatched_of}
use Rattle.hx_cluster.specs.Safe.{IsSafe}
use Rattle.hx_cluster.specs.Valid.{IsValid}
use Rattle.hx_cluster.specs.Ranged.{IsRanged}
use Rattle.hx_pass.specs.Turns.{Call, Live, Mail, States, Ideals, Send, Post, Turn, is_first, idle_turn, turn_of, posted_of}
use Rattle.hx_pass.specs.Plans.{plan}
use Rattle.hx_pass.specs.Explained.{view_at, IsReason, IsExplained}
use Rattle.hx_control.specs.declared.PassOutcome.{PassOutcome}
use Rattle.hx_control.specs.declared.PassOutcome.TheVariants as ends
use Rattle.hx_control.specs.declared.ControlFault.TheVariants as faults
use Rattle.hx_control.specs.Controllers.{Controller}
use Rattle.hx_control.specs.Steps.{Calls, Refuses, is_sent, outcome_of, is_of_cluster, begin_step, read_step, planned_step, post_step, of_cluster, step_at, step_of}
use Rattle.hx_control.specs.OfBoard.{IsPlanOf, OfBoard}
use Rattle.hx_safe.proofs.Ends.{same-self, part_eq-self}
use Rattle.hx_safe.proofs.Whole.{reached_safe, reached_ranged}
use Rattle.hx_safe.proofs.Fixed.{IsFixed}
use Rattle.hx_lawful.specs.Reading.{is_read}
use Rattle.hx_lawful.proofs.Whole.{fixed_along}
use Rattle.hx_settled.specs.Standing.{read_at}
use Rattle.hx_settled.proofs.Gathering.{messages_read, plan_read}
use Rattle.hx_settled.proofs.Steady.{read_whole}
use Rattle.hx_settled.proofs.Explaining.{settled_explained}

-- where nothing was read, nothing is pending
mail_empty : (c : Cluster) → IsSafe c → (read_at c).mail ≡ [] → c.mail ≡ []
mail_empty c safe empty = one c.mail refl
  where
    one : (ms : List Message) → c.mail ≡ ms → ms ≡ []
    one [] is = refl
    one (m ∷ ms) is =
        let here : message_of (m ∷ ms) m.session m.part ≡ Some m
        = (λ i. if same-self m.session.0 i && part_eq-self m.part i then Some m else message_of ms m.session m.part) in
        let none : Some m ≡ None
        = sym here ∙ ap (λ (xs : List Message). message_of xs m.session m.part) (sym is) ∙ sym (messages_read c safe.mail m.session m.part)
        ∙ ap (λ (xs : List Message). message_of xs m.session m.part) empty in
        cc

-- a dispatch that settles: its plan proposes nothing, no message was shown, and nothing has changed since the begin
record IsSettled (c : Cluster) (t : Turn) (p : Plan) (report : Report) : Type 0 where
  proposals : p.proposals ≡ []
  mail : t.view.mail ≡ []
  change : t.begun.change ≡ c.change
  reported : p.report ≡ report

none_of : {X : Type 0} (xs : List X) → nat_lt 0 (length xs) ≡ false → xs ≡ []
none_of [] e = refl
none_of (x ∷ xs) e = absurd (grind (arith, nat_tests, e))

settled_outcome : (c : Cluster) (k : ControllerId) (t : Turn) (p : Plan) (report : Report) → outcome_of t p (dispatched_of c k p.proposals) ≡ ends.Settled report → IsSettled c t p report
settled_outcome c k t p report e = one (count is_sent (dispatched_of c k p.proposals).placed) (nat_lt 0 (length p.proposals)) refl (nat_lt 0 (length t.view.mail)) refl (t.begun.change == c.change) refl e
  where
    one : (n : ℕ) (a : Bool) → nat_lt 0 (length p.proposals) ≡ a → (b : Bool) → nat_lt 0 (length t.view.mail) ≡ b → (d : Bool) → (t.begun.change == c.change) ≡ d
        → (if a then ends.Sent n else if b then ends.Waiting (length t.view.mail) else if d then ends.Settled p.report else ends.Moved t.begun.change c.change) ≡ ends.Settled report
        → IsSettled c t p report
    one n true at b is d same e = absurd (let both = e in cc)
    one n false at true is d same e = absurd (let both = e in cc)
    one n false at false is false same e = absurd (let both = e in cc)
    one n false at false is true same e = record { proposals = none_of p.proposals at; mail = none_of t.view.mail is; change = number same; reported = report_of e }
      where
        number : {a b : ℕ} → (a == b) ≡ true → a ≡ b
        number e = grind (arith, nat_tests, e)

        report_of : ends.Settled p.report ≡ ends.Settled report → p.report ≡ report
        report_of e = cc

-- only the dispatch of a plan has that outcome
record IsDispatch (spec : Spec) (c : Cluster) (x : Controller) (e : Event) (report : Report) : Type 0 where
  plan_made : Plan
  kept : x.plan ≡ Some plan_made
  first : is_first Send x.turn.left ≡ true
  event : e ≡ events.Dispatch x.id x.turn.begun.epoch x.turn.begun.pass plan_made.proposals (dispatched_of c x.id plan_made.proposals)
  settled : IsSettled c x.turn plan_made report

calls_both : (e f : Event) (a b : Option PassOutcome) → Calls e a ≡ Calls f b → (e ≡ f) × (a ≡ b)
calls_both e f a b is = (one is, two is)
  where
    one : Calls e a ≡ Calls f b → e ≡ f
    one is = cc

    two : Calls e a ≡ Calls f b → a ≡ b
    two is = cc

of_begin : (c : Cluster) (x : Controller) (e : Event) (report : Report) → begin_step c x ≡ Calls e (Some (ends.Settled report)) → ⊥
of_begin c x e report is = one (is_leader x.id c.leader) is
  where
    one : (b : Bool) → (if b then Calls (events.Begin x.id (begun_of c x.id)) None else Refuses (faults.NotLeader c.leader)) ≡ Calls e (Some (ends.Settled report)) → ⊥
    one true is = absurd (let both = is in cc)
    one false is = absurd (let both = is in cc)

of_read : (c : Cluster) (x : Controller) (read e : Event) (report : Report) → read_step c x read ≡ Calls e (Some (ends.Settled report)) → ⊥
of_read c x read e report is = one (is_pass c x.id x.turn.begun.pass) is
  where
    one : (b : Bool) → (if b then Calls read None else Refuses (faults.OldPass (pass_of c x.id))) ≡ Calls e (Some (ends.Settled report)) → ⊥
    one true is = absurd (let both = is in cc)
    one false is = absurd (let both = is in cc)

of_post : (c : Cluster) (x : Controller) (b : Bool) (e : Event) (report : Report) → of_cluster b (post_step c x) ≡ Calls e (Some (ends.Settled report)) → ⊥
of_post c x false e report is = absurd (let both = is in cc)
of_post c x true e report is = one (is_epoch c x.turn.begun.epoch) is
  where
    one : (b : Bool) → (if b then Calls (events.Post x.id x.turn.begun.epoch (posted_of x.turn.view)) None else Refuses (faults.Fenced c.epoch)) ≡ Calls e (Some (ends.Settled report)) → ⊥
    one true is = absurd (let both = is in cc)
    one false is = absurd (let both = is in cc)

of_dispatch : (spec : Spec) (c : Cluster) (x : Controller) (b : Bool) (made : Option Plan) → x.plan ≡ made → is_first Send x.turn.left ≡ true → (e : Event) (report : Report)
    → of_cluster b (planned_step spec c x made) ≡ Calls e (Some (ends.Settled report)) → IsDispatch spec c x e report
of_dispatch spec c x false made kept first e report is = absurd (let both = is in cc)
of_dispatch spec c x true None kept first e report is = absurd (let both = is in cc)
of_dispatch spec c x true (Some p) kept first e report is = one (is_epoch c x.turn.begun.epoch) (is_pass c x.id x.turn.begun.pass) is
  where
    call : Event
    call = events.Dispatch x.id x.turn.begun.epoch x.turn.begun.pass p.proposals (dispatched_of c x.id p.proposals)

    one : (a b : Bool) → (if not a then Refuses (faults.Fenced c.epoch) else if not b then Refuses (faults.OldPass (pass_of c x.id))
        else Calls (events.Dispatch x.id x.turn.begun.epoch x.turn.begun.pass p.proposals (dispatched_of c x.id p.proposals)) (Some (outcome_of x.turn p (dispatched_of c x.id p.proposals))))
        ≡ Calls e (Some (ends.Settled report)) → IsDispatch spec c x e report
    one false b is = absurd (let both = is in cc)
    one true false is = absurd (let both = is in cc)
    one true true is =
        let both = calls_both (events.Dispatch x.id x.turn.begun.epoch x.turn.begun.pass p.proposals (dispatched_of c x.id p.proposals)) e
        (Some (outcome_of x.turn p (dispatched_of c x.id p.proposals))) (Some (ends.Settled report)) is in
        record { plan_made = p; kept = kept; first = first; event = sym both.0; settled = settled_outcome c x.id x.turn p report (some both.1) }
      where
        some : {a b : PassOutcome} → Some a ≡ Some b → a ≡ b
        some e = cc

settled_step : (spec : Spec) (c : Cluster) (x : Controller) (e : Event) (report : Report) → step_of spec c x ≡ Calls e (Some (ends.Settled report)) → IsDispatch spec c x e report
settled_step spec c x e report is = one x.turn.left refl is
  where
    one : (left : List Call) → x.turn.left ≡ left → step_at spec c x left ≡ Calls e (Some (ends.Settled report)) → IsDispatch spec c x e report
    one [] at is = absurd (of_begin c x e report is)
    one (Live ∷ left) at is = absurd (of_read c x (events.Live x.id x.turn.begun.pass) e report is)
    one (Mail s ∷ left) at is = absurd (of_read c x (events.Mail x.id x.turn.begun.pass s) e report is)
    one (States s ∷ left) at is = absurd (of_read c x (events.States x.id x.turn.begun.pass s) e report is)
    one (Ideals ∷ left) at is = absurd (of_read c x (events.Ideals x.id x.turn.begun.pass) e report is)
    one (Send ∷ left) at is = of_dispatch spec c x (is_of_cluster spec c x.turn.view) x.plan refl (ap (is_first Send) at) e report is
    one (Post ∷ left) at is = absurd (of_post c x (is_of_cluster spec c x.turn.view) e report is)

-- so its plan is that of the board at one moment
explained_at : (c : Cluster) (p : Plan) (report : Report) → IsSafe c → IsRanged c → p ≡ plan c.models c.rules (read_at c) → p.proposals ≡ [] → (read_at c).mail ≡ [] → p.report ≡ report
    → IsExplained c report
explained_at c p report safe ranged is none empty reported =
    let same : p ≡ plan c.models c.rules (view_at c) = is ∙ plan_read c safe in
    subst (IsExplained c) (sym (ap (λ (q : Plan). q.report) same) ∙ reported)
    (settled_explained c safe ranged (mail_empty c safe empty) (sym (ap (λ (q : Plan). q.proposals) same) ∙ none))

-- a pass that is raised changes nothing of that
reason_raised : (c : Cluster) (controllers : List (Bool × PassNo)) (t : Target) (f : Finding) → IsReason c t f → IsReason (record c { controllers = controllers }) t f
reason_raised c controllers t findings.AtBest r = r
reason_raised c controllers t findings.Failed r = r
reason_raised c controllers t (findings.Full f) r = record { next = r.next; count = r.count; bound = r.bound; reached = r.reached; holders = r.holders; each = r.each }
reason_raised c controllers t _ r = absurd r

explained_raised : (c : Cluster) (k : ControllerId) (o : Option (Bool × PassNo)) (report : Report) → IsExplained c report → IsExplained (raised_pass c k o) report
explained_raised c k None report explained = explained
explained_raised c k (Some d) report explained =
    let controllers : List (Bool × PassNo) = slice_set c.controllers k.0 (d.0, record { 0 = d.1.0 + 1 }) in
    record {
      targets = explained.targets;
      reasons = All-weaker (λ e. IsReason c e.target e.finding) (λ e. IsReason (record c { controllers = controllers }) e.target e.finding)
          (λ e r. reason_raised c controllers e.target e.finding r) report.entries explained.reasons;
    }

-- and the board is explained before the dispatch and after it
pub settled_board : (spec : Spec) (h : List Event) (x : Controller) (e : Event) (report : Report) → IsValid spec → IsLegal (opening spec) h → OfBoard spec h x
    → step_of spec (replay (opening spec) h) x ≡ Calls e (Some (ends.Settled report)) → IsExplained (replay (opening spec) h) report × IsExplained (next (replay (opening spec) h) e) report
settled_board spec h x e report valid legal board is = from_step (settled_step spec (replay (opening spec) h) x e report is)
  where
    c : Cluster
    c = replay (opening spec) h

    from_step : IsDispatch spec (replay (opening spec) h) x e report → IsExplained (replay (opening spec) h) report × IsExplained (next (replay (opening spec) h) e) report
    from_step s =
        let later : IsExplained (after_dispatch (replay (opening spec) h) x.id []) report
        = explained_raised (replay (opening spec) h) x.id (slice_get (replay (opening spec) h).controllers x.id.0) report here in
        let sent : IsExplained (after_dispatch (replay (opening spec) h) x.id s.plan_made.proposals) report
        = subst (λ (qs : List Proposal). IsExplained (after_dispatch (replay (opening spec) h) x.id qs) report) (sym s.settled.proposals) later in
        (here, subst (λ (f : Event). IsExplained (next (replay (opening spec) h) f) report) (sym s.event) sent)
      where
        p : Plan
        p = s.plan_made

        planned : IsPlanOf spec x.turn (Some s.plan_made)
        planned = subst (IsPlanOf spec x.turn) s.kept board.planned

        told : (x.turn ≡ idle_turn) ⊎ (x.turn ≡ turn_of spec x.id h) → x.turn ≡ turn_of spec x.id h
        told (inl idle) = absurd (let no_one : false ≡ true = sym (ap (λ (t : Turn). is_first Send t.left) idle) ∙ s.first in cc)
        told (inr same) = same

        turn : x.turn ≡ turn_of spec x.id h
        turn = told board.told

        read : is_read (turn_of spec x.id h) ≡ true
        read = ap (λ (b : Bool). b || is_first Post (turn_of spec x.id h).left) (ap (λ (t : Turn). is_first Send t.left) (sym turn) ∙ s.first)

        view : x.turn.view ≡ read_at (replay (opening spec) h)
        view = ap (λ (t : Turn). t.view) turn ∙ read_whole spec h x.id valid legal read (ap (λ (t : Turn). t.begun.change) (sym turn) ∙ s.settled.change)

        fixed : IsFixed (opening spec) (replay (opening spec) h)
        fixed = fixed_along (opening spec) h

        made : s.plan_made ≡ plan (replay (opening spec) h).models (replay (opening spec) h).rules (read_at (replay (opening spec) h))
        made = planned.1 ∙ (λ i. plan (sym fixed.models i) (sym fixed.rules i) (view i))

        here : IsExplained (replay (opening spec) h) report
        here =
            explained_at (replay (opening spec) h) s.plan_made report (reached_safe spec valid h legal) (reached_ranged spec valid h legal) made s.settled.proposals
            (ap (λ (v : View). v.mail) (sym view) ∙ s.settled.mail) s.settled.reported
