-- Calls one after another, with the later of their outcomes.
use Rattle.std.proofs.Common.{◌≡◌, ℕ, suc, ◌-◌, ◌<◌, ◌≤◌, List, [], ◌++◌, Option, Some, None, ◌+◌, refl, sym, ap, subst, ◌∙◌, arith}
use Rattle.std.specs.Option.{option_or}
use Rattle.std.proofs.lemmas.List.{append-nil}
use Rattle.hx_ids.specs.declared.ControllerId.{ControllerId}
use Rattle.hx_control.specs.declared.PassOutcome.{PassOutcome}
use Rattle.hx_worlds.specs.declared.Voice.{Voice}
use Rattle.hx_worlds.specs.World.{Answers, State, controller_of}
use Rattle.hx_worlds.specs.Runs.{Run, GoesOn, Stops, gives, go_on}
use Rattle.hx_worlds.specs.Turns.{left_of, if_under_way, begin_if_idle, do_call, do_calls, do_rest, do_pass, or_earlier}
use Rattle.hx_control.specs.declared.Stage.TheVariants as stages
use Rattle.hx_control.specs.Controllers.{stage}
use Rattle.hx_scene.specs.Scenes.{SceneState, at, world_of}
use Rattle.hx_scene.specs.Doing.{Reaches, Ends, Fails}
use Rattle.hx_board.specs.declared.faults.RoomFault.{RoomFault}
use Rattle.hx_scene.proofs.Reaching.{here, there, inside, then_on, reaches_as, reaches_to, fails_inside, fails_as, fails_after}
use Rattle.hx_sim.proofs.Stages.{idle_at, under_way}

-- the later of outcomes
pub or_as : (earlier later : Option PassOutcome) → option_or later earlier ≡ or_earlier earlier later
or_as earlier None = refl
or_as earlier (Some outcome) = refl

or_none : (p : Option PassOutcome) → or_earlier None p ≡ p
or_none None = refl
or_none (Some outcome) = refl

or_or : (a b p : Option PassOutcome) → or_earlier a (or_earlier b p) ≡ or_earlier (or_earlier a b) p
or_or a b None = refl
or_or a b (Some outcome) = refl

-- what is done, with an earlier outcome
abbrev pub after_outcome : Option PassOutcome → Run (Option PassOutcome) → Run (Option PassOutcome)
after_outcome earlier r = go_on r (λ p z. gives z (or_earlier earlier p))

after_no_outcome : (r : Run (Option PassOutcome)) → r ≡ after_outcome None r
after_no_outcome (GoesOn is x p) = ap (λ l. GoesOn l x p) (sym (append-nil is)) ∙ ap (λ o. GoesOn (is ++ []) x o) (sym (or_none p))
after_no_outcome (Stops is x) = refl

after_both_outcomes : (a b : Option PassOutcome) (r : Run (Option PassOutcome)) → after_outcome a (after_outcome b r) ≡ after_outcome (or_earlier a b) r
after_both_outcomes a b (GoesOn is x p) = ap (λ l. GoesOn l x (or_earlier a (or_earlier b p))) (append-nil (is ++ [])) ∙ ap (λ o. GoesOn (is ++ []) x o) (or_or a b p)
after_both_outcomes a b (Stops is x) = refl

-- those that are left after the first ones, whose outcome is known
abbrev pub calls_left : Voice → ControllerId → ℕ → Option PassOutcome → State → Run (Option PassOutcome)
calls_left v k n earlier x = after_outcome earlier (do_calls v k n x)

calls_begin : (v : Voice) (k : ControllerId) (n : ℕ) (s : SceneState) (p : List ℕ) → Reaches (do_calls v k n) s p (calls_left v k n None) s p
calls_begin v k n s p = reaches_as (λ a. after_no_outcome (do_calls v k n (at s a))) (here (calls_left v k n None) s p)

one_call : (v : Voice) (k : ControllerId) (n m : ℕ) (earlier : Option PassOutcome) (x : State) → n ≡ suc m
    → calls_left v k n earlier x ≡ after_outcome earlier (go_on (do_call v k x) (λ o y. after_outcome o (if_under_way (left_of y k) (λ z. do_calls v k m z) y)))
one_call v k n m earlier x is = ap (λ (i : ℕ). calls_left v k i earlier x) is

-- a call of those that are left, and what is then to do
called : (v : Voice) (k : ControllerId) (n m : ℕ) (earlier : Option PassOutcome) {later : Option PassOutcome} {s u : SceneState} {p q : List ℕ} → n ≡ suc m → Ends (do_call v k) s p later u q
    → Reaches (calls_left v k n earlier) s p (λ y. after_outcome earlier (after_outcome later (if_under_way (left_of y k) (λ z. do_calls v k m z) y))) u q
called v k n m earlier {later} {s} is e =
    reaches_as (λ a. one_call v k n m earlier (at s a) is)
    (inside (then_on e (λ o y. after_outcome o (if_under_way (left_of y k) (λ z. do_calls v k m z) y))) (λ p z. gives z (or_earlier earlier p)))

pub call_on : (v : Voice) (k : ControllerId) (n m : ℕ) (earlier later : Option PassOutcome) (s u : SceneState) (p q : List ℕ) → n ≡ suc m → Ends (do_call v k) s p later u q
    → ((a : Answers) (f : State → Run (Option PassOutcome)) → if_under_way (left_of (at u a) k) f (at u a) ≡ f (at u a)) → Reaches (calls_left v k n earlier) s p (calls_left v k m (or_earlier earlier later)) u q
call_on v k n m earlier later s u p q is e busy =
    reaches_to (called v k n m earlier is e)
    (λ a. ap (λ r. after_outcome earlier (after_outcome later r)) (busy a (λ z. do_calls v k m z)) ∙ after_both_outcomes earlier later (do_calls v k m (at u a)))

pub call_ends : (v : Voice) (k : ControllerId) (n m : ℕ) (earlier later : Option PassOutcome) (s u : SceneState) (p q : List ℕ) → n ≡ suc m → Ends (do_call v k) s p later u q
    → ((a : Answers) → left_of (at u a) k ≡ []) → Ends (calls_left v k n earlier) s p (or_earlier earlier later) u q
call_ends v k n m earlier later s u p q is e idle =
    reaches_to (called v k n m earlier is e)
    (λ a. ap (λ l. after_outcome earlier (after_outcome later (if_under_way l (λ z. do_calls v k m z) (at u a)))) (idle a))

pub call_fails : (v : Voice) (k : ControllerId) (n m : ℕ) (earlier : Option PassOutcome) (s : SceneState) (p : List ℕ) (fault : RoomFault) (u : SceneState) (q : List ℕ) → n ≡ suc m
    → Fails (do_call v k) s p fault u q → Fails (calls_left v k n earlier) s p fault u q
call_fails v k n m earlier s p fault u q is e =
    fails_as (calls_left v k n earlier) (λ x. after_outcome earlier (go_on (do_call v k x) (λ o y. after_outcome o (if_under_way (left_of y k) (λ z. do_calls v k m z) y)))) s
    (λ a. one_call v k n m earlier (at s a) is) p fault u q
    (fails_inside (λ x. go_on (do_call v k x) (λ o y. after_outcome o (if_under_way (left_of y k) (λ z. do_calls v k m z) y))) s p fault u q
    (fails_inside (do_call v k) s p fault u q e (λ o y. after_outcome o (if_under_way (left_of y k) (λ z. do_calls v k m z) y))) (λ p z. gives z (or_earlier earlier p)))

pub calls_end : (v : Voice) (k : ControllerId) (n : ℕ) (earlier : Option PassOutcome) {f : State → Run (Option PassOutcome)} {s u : SceneState} {p q : List ℕ} → n ≡ 0
    → Reaches f s p (calls_left v k n earlier) u q → Ends f s p earlier u q
calls_end v k n earlier {f} {s} {u} is e = reaches_to e (λ a. ap (λ (i : ℕ). calls_left v k i earlier (at u a)) is)

-- a pass: its begin, the calls that are left, and those that are left then
abbrev pub begin : Voice → ControllerId → State → Run (Option PassOutcome)
begin v k x = begin_if_idle v k (left_of x k) x

abbrev pub rest_after : Voice → ControllerId → Option PassOutcome → State → Run (Option PassOutcome)
rest_after v k earlier x = after_outcome earlier (do_rest v k x)

abbrev pub rest_twice : Voice → ControllerId → State → Run (Option PassOutcome)
rest_twice v k x = go_on (do_rest v k x) (λ o y. rest_after v k o y)

pub pass_fails : (v : Voice) (k : ControllerId) (s : SceneState) (p : List ℕ) (fault : RoomFault) (u : SceneState) (q : List ℕ) → Fails (begin v k) s p fault u q → Fails (do_pass v k) s p fault u q
pass_fails v k s p fault u q e = fails_inside (begin v k) s p fault u q e (λ _ y. rest_twice v k y)

pass_begins : (v : Voice) (k : ControllerId) {first : Option PassOutcome} {s u : SceneState} {p q : List ℕ} → Ends (begin v k) s p first u q → Reaches (do_pass v k) s p (rest_twice v k) u q
pass_begins v k e = then_on e (λ _ y. rest_twice v k y)

pub earlier_fails : (v : Voice) (k : ControllerId) {first : Option PassOutcome} {s u : SceneState} {p q : List ℕ} → Ends (begin v k) s p first u q → (fault : RoomFault) (w : SceneState) (r : List ℕ)
    → Fails (do_rest v k) u q fault w r → Fails (do_pass v k) s p fault w r
earlier_fails v k {first} {s} {u} {p} {q} e fault w r f = fails_after (pass_begins v k e) fault w r (fails_inside (do_rest v k) u q fault w r f (λ o y. rest_after v k o y))

pass_goes : (v : Voice) (k : ControllerId) {first earlier : Option PassOutcome} {s u w : SceneState} {p q r : List ℕ} → Ends (begin v k) s p first u q → Ends (do_rest v k) u q earlier w r
    → Reaches (do_pass v k) s p (rest_after v k earlier) w r
pass_goes v k e f = there (pass_begins v k e) (then_on f (λ o y. rest_after v k o y))

pub later_fails : (v : Voice) (k : ControllerId) {first earlier : Option PassOutcome} {s u w : SceneState} {p q r : List ℕ} → Ends (begin v k) s p first u q → Ends (do_rest v k) u q earlier w r
    → (fault : RoomFault) (z : SceneState) (t : List ℕ) → Fails (do_rest v k) w r fault z t → Fails (do_pass v k) s p fault z t
later_fails v k {first} {earlier} {s} {u} {w} {p} {q} {r} e f fault z t g =
    fails_after (pass_goes v k e f) fault z t (fails_inside (do_rest v k) w r fault z t g (λ o y. gives y (or_earlier earlier o)))

pub pass_ends : (v : Voice) (k : ControllerId) {first earlier later : Option PassOutcome} {s u w z : SceneState} {p q r t : List ℕ} → Ends (begin v k) s p first u q → Ends (do_rest v k) u q earlier w r
    → Ends (do_rest v k) w r later z t → (answer : Option PassOutcome) → answer ≡ option_or later earlier → Ends (do_pass v k) s p answer z t
pass_ends v k {first} {earlier} {later} {s} {u} {w} {z} {p} {q} {r} {t} e f g answer is =
    subst (λ o. Ends (do_pass v k) s p o z t) (sym (is ∙ or_as earlier later)) (there (pass_goes v k e f) (then_on g (λ o y. gives y (or_earlier earlier o))))

-- a call of a turn that is under way after it, or that is idle
pub loop_on : (v : Voice) (k : ControllerId) (n i : ℕ) (earlier later answer : Option PassOutcome) {f : State → Run (Option PassOutcome)} {s u w : SceneState} {p q r : List ℕ} → i < n → answer ≡ option_or later earlier
    → Reaches f s p (calls_left v k (n - i) earlier) u q → Ends (do_call v k) u q later w r → (stage (controller_of (world_of w) k) ≡ stages.Idle → ⊥) → Reaches f s p (calls_left v k (n - (i + 1)) answer) w r
loop_on v k n i earlier later answer {f} {s} {u} {w} {p} {q} {r} lt is e c busy =
    subst (λ o. Reaches f s p (calls_left v k (n - (i + 1)) o) w r) (sym (is ∙ or_as earlier later))
    (there e (call_on v k (n - i) (n - (i + 1)) earlier later u w q r (omega arith) c (λ a g. under_way v k (at w a) g busy)))

pub loop_ends : (v : Voice) (k : ControllerId) (n i : ℕ) (earlier later answer : Option PassOutcome) {f : State → Run (Option PassOutcome)} {s u w : SceneState} {p q r : List ℕ} → i < n → answer ≡ option_or later earlier
    → Reaches f s p (calls_left v k (n - i) earlier) u q → Ends (do_call v k) u q later w r → stage (controller_of (world_of w) k) ≡ stages.Idle → Ends f s p answer w r
loop_ends v k n i earlier later answer {f} {s} {u} {w} {p} {q} {r} lt is e c idle =
    subst (λ o. Ends f s p o w r) (sym (is ∙ or_as earlier later))
    (there e (call_ends v k (n - i) (n - (i + 1)) earlier later u w q r (omega arith) c (λ a. idle_at (controller_of (world_of w) k) (left_of (at w a) k) idle)))

pub loop_fails : (v : Voice) (k : ControllerId) (n i : ℕ) (earlier : Option PassOutcome) {f : State → Run (Option PassOutcome)} {s u : SceneState} {p q : List ℕ} → i < n
    → Reaches f s p (calls_left v k (n - i) earlier) u q → (fault : RoomFault) (w : SceneState) (r : List ℕ) → Fails (do_call v k) u q fault w r → Fails f s p fault w r
loop_fails v k n i earlier {f} {s} {u} {p} {q} lt e fault w r c = fails_after e fault w r (call_fails v k (n - i) (n - (i + 1)) earlier u q fault w r (omega arith) c)

pub loop_over : (v : Voice) (k : ControllerId) (n i : ℕ) (earlier : Option PassOutcome) {f : State → Run (Option PassOutcome)} {s u : SceneState} {p q : List ℕ} → n ≤ i
    → Reaches f s p (calls_left v k (n - i) earlier) u q → Ends f s p earlier u q
loop_over v k n i earlier past e = calls_end v k (n - i) earlier (omega arith) e

pub loop_begins : (v : Voice) (k : ControllerId) (n m : ℕ) (s : SceneState) (p : List ℕ) → m ≡ n → Reaches (do_calls v k n) s p (calls_left v k m None) s p
loop_begins v k n m s p is = subst (λ i. Reaches (do_calls v k n) s p (calls_left v k i None) s p) (sym is) (calls_begin v k n s p)
