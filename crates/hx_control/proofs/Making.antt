-- The steps that are one call of the board: what they make, and how they are refused.
use Rattle.std.proofs.Common.{◌≡◌, ℕ, ◌+◌, ◌⊎◌, inl, inr, ◌==◌, ◌&&◌, not, Bool, true, false, List, ◌∷◌, Option, None, Some, refl, sym, ap, ◌∙◌, subst, arith}
use Rattle.std.specs.Prelude.{Ok, Err, option_map, if◌then◌else◌, nat_lt}
use Rattle.std.proofs.lemmas.Bool.Decides.{nat_tests}
use Rattle.hx_ids.specs.declared.ControllerId.{ControllerId}
use Rattle.hx_cluster.specs.declared.description.Spec.{Spec}
use Rattle.hx_cluster.specs.declared.state.Cluster.{Cluster}
use Rattle.hx_cluster.specs.declared.happenings.Event.{Event}
use Rattle.hx_cluster.specs.declared.happenings.Event.TheVariants as events
use Rattle.hx_cluster.specs.Steps.{has_controller}
use Rattle.hx_cluster.specs.Reads.{pass_of}
use Rattle.hx_cluster.specs.Events.{is_pass}
use Rattle.hx_cluster.specs.Weight.{weight_of}
use Rattle.hx_pass.specs.Turns.{Call, Live, Turn, idle_turn, same_call, is_first, is_due, if_due, with_live, when_own, turn_after}
use Rattle.hx_board.specs.Board.{Held, happened, weight_at}
use Rattle.hx_board.specs.Refusals.{full, read_refusal}
use Rattle.hx_board.specs.declared.faults.ReadRefusal.TheVariants as reads
use Rattle.hx_board.proofs.Free.{read_free}
use Rattle.hx_control.specs.declared.PassOutcome.{PassOutcome}
use Rattle.hx_control.specs.declared.ControlFault.{ControlFault}
use Rattle.hx_control.specs.declared.ControlFault.TheVariants as faults
use Rattle.hx_control.specs.Controllers.{Controller}
use Rattle.hx_control.specs.Steps.{Step, Calls, Refuses, read_step, step_at, step_of}
use Rattle.hx_control.specs.Faults.{of_read}
use Rattle.hx_control.specs.Made.{step_fault, IsMade, Tries}

pub if_true : {A : Type 0} (b : Bool) (p q : A) → b ≡ true → (if b then p else q) ≡ p
if_true true p q e = refl
if_true false p q e = cc

pub own : (k : ControllerId) (t after : Turn) → when_own k k t after ≡ after
own k t after = grind (arith, nat_tests)

-- the controller with another turn, and no plan
abbrev pub with_turn : Controller → Turn → Controller
with_turn x t = record { id = x.id; turn = t; plan = None }

-- a call that is made
pub call_made : (b d : Held) (x y : Controller) (e : Event) (outcome : Option PassOutcome) (step : Step) (t : Turn) → step ≡ Calls e outcome
    → turn_after b.cluster x.id x.turn e ≡ t → d ≡ happened b e → y ≡ with_turn x t → IsMade step b d x y outcome
call_made b d x y e outcome step t is turn done now =
    subst (λ (s : Step). IsMade s b d x y outcome) (sym is)
    (record { answer = refl; board = done; controller = now ∙ ap (with_turn x) (sym turn) })

-- a fault of the board's call is that of the step
pub full_same : {E : Type 0} (b : Held) (n : ℕ) (made : ℕ → E) (of : E → ControlFault) → ((w : ℕ) → of (made w) ≡ faults.HistoryFull w)
    → option_map of (full b n made) ≡ full b n faults.HistoryFull
full_same b n made of same = one (nat_lt b.limit (weight_at b + n))
  where
    one : (t : Bool) → option_map of (if t then Some (made (weight_at b)) else None) ≡ (if t then Some (faults.HistoryFull (weight_at b)) else None)
    one true = ap Some (same (weight_at b))
    one false = refl

pub refused_so : {E : Type 0} (of : E → ControlFault) (memory : E) (refusal : Option E) (fault : Option ControlFault) → option_map of refusal ≡ fault
    → of memory ≡ faults.OutOfMemory → (e : E) → (e ≡ memory) ⊎ (refusal ≡ Some e) → (of e ≡ faults.OutOfMemory) ⊎ (fault ≡ Some (of e))
refused_so of memory refusal fault same wants e (inl is) = inl (ap of is ∙ wants)
refused_so of memory refusal fault same wants e (inr is) = inr (sym same ∙ ap (option_map of) is)

pub tried_in_vain : {E : Type 0} (of : E → ControlFault) (memory : E) (refusal : Option E) (step : Step) (b d : Held) (x y : Controller) → option_map of refusal ≡ step_fault b step
    → of memory ≡ faults.OutOfMemory → (e : E) → (e ≡ memory) ⊎ (refusal ≡ Some e) → d ≡ b → y ≡ x → Tries step b d x y (Err (of e))
tried_in_vain of memory refusal step b d x y same wants e why board turn =
    record { refused = refused_so of memory refusal (step_fault b step) same wants e why; made = tt; kept = (board, turn) }

pub tried_well : {E : Type 0} (of : E → ControlFault) (refusal : Option E) (step : Step) (b d : Held) (x y : Controller) (outcome : Option PassOutcome)
    → option_map of refusal ≡ step_fault b step → refusal ≡ None → IsMade step b d x y outcome → Tries step b d x y (Ok outcome)
tried_well of refusal step b d x y outcome same none made = record { refused = sym same ∙ ap (option_map of) none; made = made; kept = tt }

-- a read
pub read_same : (b : Held) (x : Controller) (e : Event) → has_controller b.cluster x.id ≡ true → weight_of e ≡ 1
    → option_map of_read (read_refusal b x.id x.turn.begun.pass) ≡ step_fault b (read_step b.cluster x e)
read_same b x e there weight =
    one ((pass_of b.cluster x.id).0 == x.turn.begun.pass.0)
    ∙ ap (λ (t : Bool). step_fault b (if t && ((pass_of b.cluster x.id).0 == x.turn.begun.pass.0) then Calls e None else Refuses (faults.OldPass (pass_of b.cluster x.id)))) (sym there)
  where
    one : (t : Bool) → option_map of_read (if not t then Some (reads.OldPass (pass_of b.cluster x.id)) else full b 1 reads.HistoryFull)
        ≡ step_fault b (if t then Calls e None else Refuses (faults.OldPass (pass_of b.cluster x.id)))
    one true = full_same b 1 reads.HistoryFull of_read (λ w. refl) ∙ ap (λ (n : ℕ). full b n faults.HistoryFull) (sym weight)
    one false = refl

pub read_tried : (spec : Spec) (b d : Held) (x y : Controller) (e : Event) (t : Turn) → has_controller b.cluster x.id ≡ true → weight_of e ≡ 1
    → step_of spec b.cluster x ≡ read_step b.cluster x e → turn_after b.cluster x.id x.turn e ≡ t
    → read_refusal b x.id x.turn.begun.pass ≡ None → d ≡ happened b e → y ≡ with_turn x t → Tries (step_of spec b.cluster x) b d x y (Ok None)
read_tried spec b d x y e t there weight is turn none done now =
    let same : option_map of_read (read_refusal b x.id x.turn.begun.pass) ≡ step_fault b (step_of spec b.cluster x) = read_same b x e there weight ∙ ap (step_fault b) (sym is) in
    let stands : is_pass b.cluster x.id x.turn.begun.pass ≡ true = grind (arith, there, (read_free b x.id x.turn.begun.pass none).now) in
    let calls : step_of spec b.cluster x ≡ Calls e None = is ∙ if_true (is_pass b.cluster x.id x.turn.begun.pass) _ _ stands in
    tried_well of_read (read_refusal b x.id x.turn.begun.pass) (step_of spec b.cluster x) b d x y None same none (call_made b d x y e None (step_of spec b.cluster x) t calls turn done now)

-- a call that is next
pub due : (t : Turn) (call : Call) (rest : List Call) → t.left ≡ call ∷ rest → same_call call call ≡ true → is_due t call t.begun.pass ≡ true
due t call rest is same = let first : is_first call t.left ≡ true = ap (is_first call) is ∙ same in grind (arith, nat_tests, first)

due_turn : (k : ControllerId) (t after : Turn) (call : Call) (rest : List Call) → t.left ≡ call ∷ rest → same_call call call ≡ true
    → when_own k k t (if_due (is_due t call t.begun.pass) after) ≡ after
due_turn k t after call rest is same = own k t _ ∙ if_true (is_due t call t.begun.pass) after idle_turn (due t call rest is same)

pub live_turn : (c : Cluster) (x : Controller) (rest : List Call) → x.turn.left ≡ Live ∷ rest
    → turn_after c x.id x.turn (events.Live x.id x.turn.begun.pass) ≡ with_live c x.turn
live_turn c x rest is = due_turn x.id x.turn (with_live c x.turn) Live rest is refl

-- the step of a turn whose next call is known
pub next_step : (spec : Spec) (c : Cluster) (x : Controller) (left : List Call) → x.turn.left ≡ left → step_of spec c x ≡ step_at spec c x left
next_step spec c x left is = ap (step_at spec c x) is
