-- A step keeps a controller's turn one of its board, and so does an event that is not the controller's own.
use Rattle.std.proofs.Common.{◌≡◌, Bool, true, false, not, List, [], ◌∷◌, ◌++◌, refl, sym, ap, subst, ◌∙◌, inl, inr, arith}
use Rattle.std.specs.Prelude.{◌⊎◌, Option, None, Some, ◌==◌, if◌then◌else◌}
use Rattle.std.proofs.lemmas.List.{append-nil}
use Rattle.std.proofs.lemmas.Bool.Decides.{nat_tests}
use Rattle.hx_ids.specs.declared.ControllerId.{ControllerId}
use Rattle.hx_cluster.specs.declared.description.Spec.{Spec}
use Rattle.hx_cluster.specs.declared.state.Cluster.{Cluster}
use Rattle.hx_cluster.specs.declared.planning.Plan.{Plan}
use Rattle.hx_cluster.specs.declared.happenings.Dispatched.{Dispatched}
use Rattle.hx_cluster.specs.declared.happenings.Event.{Event}
use Rattle.hx_cluster.specs.declared.happenings.Event.TheVariants as events
use Rattle.hx_cluster.specs.Steps.{opening, is_leader}
use Rattle.hx_cluster.specs.Reads.{pass_of}
use Rattle.hx_cluster.specs.Events.{next, replay, begun_of, dispatched_of, is_epoch, is_pass}
use Rattle.hx_pass.specs.Turns.{Call, Live, Mail, States, Ideals, Send, Post, Turn, idle_turn, begun_turn, is_first, when_own, turn_after, turn_from, turn_of}
use Rattle.hx_control.specs.declared.PassOutcome.{PassOutcome}
use Rattle.hx_control.specs.declared.ControlFault.{ControlFault}
use Rattle.hx_control.specs.declared.ControlFault.TheVariants as faults
use Rattle.hx_control.specs.Controllers.{Controller}
use Rattle.hx_control.specs.Steps.{Step, Calls, Plans, Refuses, dispatch_step, planned_step, outcome_of, of_cluster, step_at, step_of, after_step}
use Rattle.hx_control.specs.OfBoard.{IsPlanOf, OfBoard, StepKeeps, calls_of, is_own}

-- the turn after one event more
turn_from-snoc : (c : Cluster) (k : ControllerId) (t : Turn) (es : List Event) (e : Event)
    → turn_from c k t (es ++ e ∷ []) ≡ turn_after (replay c es) k (turn_from c k t es) e
turn_from-snoc c k t [] e = refl
turn_from-snoc c k t (d ∷ es) e = turn_from-snoc (next c d) k (turn_after c k t d) es e

pub turn_of-snoc : (spec : Spec) (k : ControllerId) (h : List Event) (e : Event)
    → turn_of spec k (h ++ e ∷ []) ≡ turn_after (replay (opening spec) h) k (turn_of spec k h) e
turn_of-snoc spec k h e = turn_from-snoc (opening spec) k idle_turn h e

-- a plan that a step makes is that of the view, and its dispatch is next
abbrev plan_of : Step → Option Plan
plan_of (Plans p) = Some p
plan_of _ = None

record MakesPlan (spec : Spec) (t : Turn) (s : Step) : Type 0 where
  of_view : IsPlanOf spec t (plan_of s)

calls : (spec : Spec) (t : Turn) (e : Event) (outcome : Option PassOutcome) → MakesPlan spec t (Calls e outcome)
calls spec t e outcome = record { of_view = tt }

refuses : (spec : Spec) (t : Turn) (fault : ControlFault) → MakesPlan spec t (Refuses fault)
refuses spec t fault = record { of_view = tt }

called_or_refused : (spec : Spec) (t : Turn) (b : Bool) (e : Event) (outcome : Option PassOutcome) (fault : ControlFault)
    → MakesPlan spec t (if b then Calls e outcome else Refuses fault)
called_or_refused spec t true e outcome fault = calls spec t e outcome
called_or_refused spec t false e outcome fault = refuses spec t fault

either : (spec : Spec) (t : Turn) (b : Bool) (r s : Step) → MakesPlan spec t r → MakesPlan spec t s → MakesPlan spec t (if b then r else s)
either spec t true r s br bs = br
either spec t false r s br bs = bs

dispatch_made : (spec : Spec) (c : Cluster) (x : Controller) (p : Plan) (d : Dispatched) → MakesPlan spec x.turn (dispatch_step c x p d)
dispatch_made spec c x p d =
    either spec x.turn (not (is_epoch c x.turn.begun.epoch)) (Refuses (faults.Fenced c.epoch)) _ (refuses spec x.turn (faults.Fenced c.epoch))
    (either spec x.turn (not (is_pass c x.id x.turn.begun.pass)) (Refuses (faults.OldPass (pass_of c x.id))) _
    (refuses spec x.turn (faults.OldPass (pass_of c x.id)))
    (calls spec x.turn (events.Dispatch x.id x.turn.begun.epoch x.turn.begun.pass p.proposals d) (Some (outcome_of x.turn p d))))

planned : (spec : Spec) (c : Cluster) (x : Controller) (p : Option Plan) → is_first Send x.turn.left ≡ true → MakesPlan spec x.turn (planned_step spec c x p)
planned spec c x None is_next = record { of_view = (is_next, refl) }
planned spec c x (Some p) is_next = dispatch_made spec c x p (dispatched_of c x.id p.proposals)

of_its_cluster : (spec : Spec) (t : Turn) (is : Bool) (s : Step) → MakesPlan spec t s → MakesPlan spec t (of_cluster is s)
of_its_cluster spec t true s b = b
of_its_cluster spec t false s b = refuses spec t faults.OtherBoard

makes : (spec : Spec) (c : Cluster) (x : Controller) (left : List Call) → left ≡ x.turn.left → MakesPlan spec x.turn (step_at spec c x left)
makes spec c x [] same = called_or_refused spec x.turn _ _ _ _
makes spec c x (Live ∷ rest) same = called_or_refused spec x.turn _ _ _ _
makes spec c x (Mail s ∷ rest) same = called_or_refused spec x.turn _ _ _ _
makes spec c x (States s ∷ rest) same = called_or_refused spec x.turn _ _ _ _
makes spec c x (Ideals ∷ rest) same = called_or_refused spec x.turn _ _ _ _
makes spec c x (Send ∷ rest) same = of_its_cluster spec x.turn _ _ (planned spec c x x.plan (ap (is_first Send) (sym same)))
makes spec c x (Post ∷ rest) same = of_its_cluster spec x.turn _ _ (called_or_refused spec x.turn _ _ _ _)

-- a step of a turn that the history left
goes_on : (spec : Spec) (h : List Event) (x : Controller) (s : Step) → x.turn ≡ turn_of spec x.id h → MakesPlan spec x.turn s
    → OfBoard spec (h ++ calls_of s) (after_step (replay (opening spec) h) x s)
goes_on spec h x (Calls e outcome) told made = record {
  told = inr (ap (λ t. turn_after (replay (opening spec) h) x.id t e) told ∙ sym (turn_of-snoc spec x.id h e));
  planned = tt;
}
goes_on spec h x (Plans p) told made = record {
  told = inr (told ∙ ap (turn_of spec x.id) (sym (append-nil h)));
  planned = made.of_view;
}
goes_on spec h x (Refuses fault) told made = record { told = inl refl; planned = tt }

-- a begin, whatever turn there was
own_begin : (k : ControllerId) (t : Turn) (after : Turn) → when_own k k t after ≡ after
own_begin k t after = grind (arith, nat_tests)

begins_if : (spec : Spec) (h : List Event) (x : Controller) (leads : Bool)
    → let c = replay (opening spec) h in
    let s = if leads then Calls (events.Begin x.id (begun_of c x.id)) None else Refuses (faults.NotLeader c.leader) in
    OfBoard spec (h ++ calls_of s) (after_step c x s)
begins_if spec h x true = record {
  told = inr (
      own_begin x.id x.turn (begun_turn (begun_of (replay (opening spec) h) x.id))
      ∙ sym (own_begin x.id (turn_of spec x.id h) (begun_turn (begun_of (replay (opening spec) h) x.id)))
      ∙ sym (turn_of-snoc spec x.id h (events.Begin x.id (begun_of (replay (opening spec) h) x.id))));
  planned = tt;
}
begins_if spec h x false = record { told = inl refl; planned = tt }

begins : (spec : Spec) (h : List Event) (x : Controller) (left : List Call) → left ≡ []
    → let s = step_at spec (replay (opening spec) h) x left in
    OfBoard spec (h ++ calls_of s) (after_step (replay (opening spec) h) x s)
begins spec h x left none =
    subst (λ calls. OfBoard spec (h ++ calls_of (step_at spec (replay (opening spec) h) x calls)) (after_step (replay (opening spec) h) x (step_at spec (replay (opening spec) h) x calls)))
    (sym none) (begins_if spec h x (is_leader x.id (replay (opening spec) h).leader))

keeps_told : (spec : Spec) (h : List Event) (x : Controller) → (x.turn ≡ idle_turn) ⊎ (x.turn ≡ turn_of spec x.id h)
    → OfBoard spec (h ++ calls_of (step_of spec (replay (opening spec) h) x)) (after_step (replay (opening spec) h) x (step_of spec (replay (opening spec) h) x))
keeps_told spec h x (inl idle) = begins spec h x x.turn.left (ap (λ t. t.left) idle)
keeps_told spec h x (inr told) = goes_on spec h x (step_of spec (replay (opening spec) h) x) told (makes spec (replay (opening spec) h) x x.turn.left refl)

pub step_keeps : (spec : Spec) (h : List Event) (x : Controller) → StepKeeps spec h x (step_of spec (replay (opening spec) h) x)
step_keeps spec h x b = keeps_told spec h x b.told

-- an event that isn't the controller's own
not_own : (own : Bool) (a t : Turn) → own ≡ false → (if own then a else t) ≡ t
not_own true a t other = cc
not_own false a t other = refl

same_turn : (c : Cluster) (k : ControllerId) (t : Turn) (e : Event) → is_own k e ≡ false → turn_after c k t e ≡ t
same_turn c k t (events.Begin j begun) other = not_own (j.0 == k.0) _ t other
same_turn c k t (events.Live j pass) other = not_own (j.0 == k.0) _ t other
same_turn c k t (events.Mail j pass s) other = not_own (j.0 == k.0) _ t other
same_turn c k t (events.States j pass s) other = not_own (j.0 == k.0) _ t other
same_turn c k t (events.Ideals j pass) other = not_own (j.0 == k.0) _ t other
same_turn c k t (events.Dispatch j epoch pass proposals answer) other = not_own (j.0 == k.0) _ t other
same_turn c k t (events.Post j epoch rows) other = not_own (j.0 == k.0) _ t other
same_turn c k t _ other = refl

still_told : (spec : Spec) (k : ControllerId) (t : Turn) (h : List Event) (e : Event) → is_own k e ≡ false
    → (t ≡ idle_turn) ⊎ (t ≡ turn_of spec k h) → (t ≡ idle_turn) ⊎ (t ≡ turn_of spec k (h ++ e ∷ []))
still_told spec k t h e other (inl idle) = inl idle
still_told spec k t h e other (inr told) =
    inr (told ∙ sym (same_turn (replay (opening spec) h) k (turn_of spec k h) e other) ∙ sym (turn_of-snoc spec k h e))

pub others_keep : (spec : Spec) (h : List Event) (x : Controller) (e : Event) → is_own x.id e ≡ false → OfBoard spec h x → OfBoard spec (h ++ e ∷ []) x
others_keep spec h x e other b = record { told = still_told spec x.id x.turn h e other b.told; planned = b.planned }
