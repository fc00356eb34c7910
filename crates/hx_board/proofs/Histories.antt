-- Laws of histories with one event more, and of what they weigh.
use Rattle.std.proofs.Common.{◌≡◌, ℕ, ◌+◌, ◌≤◌, ◌⊎◌, inl, inr, true, List, [], ◌∷◌, ◌++◌, length, Option, Some, None, refl, sym, ap, ◌∙◌, subst, arith}
use Rattle.std.specs.Prelude.{take, nat_lt, slice_get, is_none}
use Rattle.hx_ids.specs.declared.InstanceId.{InstanceId}
use Rattle.hx_ids.specs.declared.ControllerId.{ControllerId}
use Rattle.hx_ids.specs.declared.StateId.{StateId}
use Rattle.hx_cluster.specs.declared.description.Spec.{Spec}
use Rattle.hx_cluster.specs.declared.state.Cluster.{Cluster}
use Rattle.hx_cluster.specs.declared.happenings.Admin.{Admin}
use Rattle.hx_cluster.specs.declared.happenings.Admin.TheVariants as steps
use Rattle.hx_cluster.specs.declared.happenings.Event.{Event}
use Rattle.hx_cluster.specs.declared.happenings.Event.TheVariants as events
use Rattle.hx_cluster.specs.Steps.{opening, after, refusal_of, has_instance, has_controller}
use Rattle.hx_cluster.specs.Marks.{take_refusal, write_refusal, ack_refusal}
use Rattle.hx_cluster.specs.Events.{next, replay, has_state_name, IsStep, IsLegal}
use Rattle.hx_cluster.specs.Weight.{step_weight, weight_of, weight_of_all, owed_of}
use Rattle.hx_cluster.specs.Valid.{IsValid}
use Rattle.hx_cluster.specs.Safe.{SafeAlong}
use Rattle.hx_cluster.specs.Runs.{IsOneRunEach}
use Rattle.hx_safe.proofs.Fixed.{IsFixed, fixed_self, fixed_both, fixed_next}
use Rattle.hx_safe.proofs.Whole.{valid_safe, length-replicate}
use Rattle.hx_safe.proofs.OneRun.{one_run_each}
use Rattle.hx_calls.proofs.Front.{take-get}
use Rattle.hx_board.specs.Board.{Held, new_board, weight_at, happened, lines_in, next_line_of, IsInOrder, HasHistory}
use Rattle.hx_board.proofs.Growing.{replay-more, legal-more, weight-more, lines-more, append-none, push-length, owed_raised, owed_step, owed_end, owed_dispatch, owed_take, owed_write, owed_ack}

pub safe_once : (spec : Spec) → IsValid spec → (h : List Event) → IsLegal (opening spec) h → SafeAlong (opening spec) h × IsOneRunEach (opening spec) h
safe_once spec valid h legal = (valid_safe spec valid h legal, one_run_each spec valid h legal)

pub opens : (spec : Spec) → IsValid spec → (lines : List ℕ) (limit : ℕ) → HasHistory (new_board spec lines limit)
opens spec valid lines limit = record { valid = valid; legal = tt; replays = refl; lines = refl; weight = omega arith }

-- an event takes no line, or the next one
one-line : (b : Held) (e : Event) → IsInOrder b e → (lines_in (e ∷ []) ≡ []) ⊎ ((n : ℕ) × (lines_in (e ∷ []) ≡ n ∷ []) × (next_line_of b ≡ Some n))
one-line b (events.Line n) order = inr (n, refl, order)
one-line b _ order = inl refl

lines-kept : (h : List Event) (e : Event) (lines : List ℕ) → lines_in h ≡ take (length (lines_in h)) lines → lines_in (e ∷ []) ≡ []
    → lines_in (h ++ e ∷ []) ≡ take (length (lines_in (h ++ e ∷ []))) lines
lines-kept h e lines front none =
    let same : lines_in (h ++ e ∷ []) ≡ lines_in h = lines-more h e ∙ ap (λ (ns : List ℕ). lines_in h ++ ns) none ∙ append-none (lines_in h) in
    same ∙ front ∙ ap (λ (ns : List ℕ). take (length ns) lines) (sym same)

lines-taken : (h : List Event) (e : Event) (lines : List ℕ) (n : ℕ) → lines_in h ≡ take (length (lines_in h)) lines → lines_in (e ∷ []) ≡ n ∷ []
    → slice_get lines (length (lines_in h)) ≡ Some n → lines_in (h ++ e ∷ []) ≡ take (length (lines_in (h ++ e ∷ []))) lines
lines-taken h e lines n front one next =
    let more : lines_in (h ++ e ∷ []) ≡ lines_in h ++ n ∷ [] = lines-more h e ∙ ap (λ (ns : List ℕ). lines_in h ++ ns) one in
    let long : length (lines_in h) + 1 ≡ length (lines_in (h ++ e ∷ [])) = sym (push-length (lines_in h) n) ∙ ap length (sym more) in
    more ∙ ap (λ (ns : List ℕ). ns ++ n ∷ []) front ∙ sym (take-get lines (length (lines_in h)) n next) ∙ ap (λ (k : ℕ). take k lines) long

in-order : (b : Held) (e : Event) → lines_in b.history ≡ take (length (lines_in b.history)) b.lines → IsInOrder b e
    → lines_in (b.history ++ e ∷ []) ≡ take (length (lines_in (b.history ++ e ∷ []))) b.lines
in-order b e front order = by (one-line b e order)
  where
    by : (lines_in (e ∷ []) ≡ []) ⊎ ((n : ℕ) × (lines_in (e ∷ []) ≡ n ∷ []) × (next_line_of b ≡ Some n)) → lines_in (b.history ++ e ∷ []) ≡ take (length (lines_in (b.history ++ e ∷ []))) b.lines
    by (inl none) = lines-kept b.history e b.lines front none
    by (inr taken) = lines-taken b.history e b.lines taken.0 front taken.1 taken.2

pub goes_on : (b : Held) → HasHistory b → (e : Event) → IsStep b.cluster e → IsInOrder b e → weight_at b + weight_of e ≤ b.limit → HasHistory (happened b e)
goes_on b h e step order fits =
    let from = opening b.spec in
    record {
      valid = h.valid;
      legal = legal-more from b.history e h.legal (subst (λ (c : Cluster). IsStep c e) (sym h.replays) step);
      replays = replay-more from b.history e ∙ ap (λ (c : Cluster). next c e) h.replays;
      lines = in-order b e h.lines order;
      weight = omega (arith, weight-more b.history e, fits);
    }

-- what no event changes
fixed : (c : Cluster) (h : List Event) → IsFixed c (replay c h)
fixed c [] = fixed_self c
fixed c (e ∷ h) = fixed_both (fixed_next c e) (fixed (next c e) h)

pub instances_stay : (spec : Spec) (h : List Event) (i : InstanceId) → has_instance (replay (opening spec) h) i ≡ nat_lt i.0 (length spec.instances)
instances_stay spec h i = ap (nat_lt i.0) ((fixed (opening spec) h).instances ∙ length-replicate (length spec.instances) _)

pub controllers_stay : (spec : Spec) (h : List Event) (k : ControllerId) → has_controller (replay (opening spec) h) k ≡ nat_lt k.0 spec.controllers
controllers_stay spec h k = ap (nat_lt k.0) ((fixed (opening spec) h).controllers ∙ length-replicate spec.controllers _)

pub states_stay : (spec : Spec) (h : List Event) (t : StateId) → has_state_name (replay (opening spec) h) t ≡ nat_lt t.0 (length spec.states)
states_stay spec h t = ap (nat_lt t.0) (fixed (opening spec) h).states

-- each event is paid for
is-none : {E : Type 0} (o : Option E) → is_none o ≡ true → o ≡ None
is-none None e = refl
is-none (Some x) e = cc

paid_step : (c : Cluster) (step : Admin) → refusal_of c step ≡ None → owed_of (after c step) + 1 ≤ owed_of c + step_weight step
paid_step c (steps.Join i) free = omega (arith, owed_step c (steps.Join i))
paid_step c (steps.End i) free = omega (arith, owed_end c (steps.End i) refl free)
paid_step c (steps.Beat i) free = omega (arith, owed_step c (steps.Beat i))
paid_step c (steps.Tick n) free = omega (arith, owed_step c (steps.Tick n))
paid_step c (steps.Drain i) free = omega (arith, owed_step c (steps.Drain i))
paid_step c (steps.Undrain i) free = omega (arith, owed_step c (steps.Undrain i))
paid_step c (steps.Add name model ideal) free = omega (arith, owed_step c (steps.Add name model ideal))
paid_step c (steps.Drop r) free = omega (arith, owed_step c (steps.Drop r))
paid_step c (steps.SetList p list) free = omega (arith, owed_step c (steps.SetList p list))
paid_step c (steps.SetMap p map) free = omega (arith, owed_step c (steps.SetMap p map))
paid_step c (steps.Reset i p) free = omega (arith, owed_step c (steps.Reset i p))
paid_step c (steps.Lead k) free = omega (arith, owed_step c (steps.Lead k))
paid_step c (steps.Stop k) free = omega (arith, owed_step c (steps.Stop k))
paid_step c (steps.Start k) free = omega (arith, owed_step c (steps.Start k))

paid_next : (c : Cluster) (e : Event) → IsStep c e → owed_of (next c e) + 1 ≤ owed_of c + weight_of e
paid_next c (events.Admin step did) legal = paid_step c step legal.1
paid_next c (events.Begin k begun) legal = omega (arith, owed_raised c k)
paid_next c (events.Dispatch k epoch pass proposals answer) legal = omega (arith, owed_dispatch c k proposals)
paid_next c (events.Take s id) legal = omega (arith, owed_take c s id (is-none (take_refusal c s id) legal))
paid_next c (events.Write s id outcome) legal = omega (arith, owed_write c s id outcome (is-none (write_refusal c s id) legal))
paid_next c (events.Ack s id) legal = omega (arith, owed_ack c s id (is-none (ack_refusal c s id) legal))
paid_next c (events.Line n) legal = omega arith
paid_next c (events.Live k pass) legal = omega arith
paid_next c (events.Mail k pass s) legal = omega arith
paid_next c (events.States k pass s) legal = omega arith
paid_next c (events.Ideals k pass) legal = omega arith
paid_next c (events.Post k epoch rows) legal = omega arith
paid_next c (events.Fetch i s n) legal = omega arith

paid : (c : Cluster) (h : List Event) → IsLegal c h → length h + owed_of (replay c h) ≤ owed_of c + weight_of_all h
paid c [] legal = omega arith
paid c (e ∷ h) legal = omega (arith, paid_next c e legal.0, paid (next c e) h legal.1)

pub each_paid : (spec : Spec) (h : List Event) → IsLegal (opening spec) h → length h + owed_of (replay (opening spec) h) ≤ weight_of_all h
each_paid spec h legal = omega (arith, paid (opening spec) h legal)
