-- Rounds of a settle, one after another.
use Rattle.std.proofs.Common.{◌≡◌, true, ℕ, suc, ◌+◌, ◌-◌, ◌<◌, List, Option, Some, None, refl, sym, ap, subst, ◌∙◌, arith}
use Rattle.std.specs.Prelude.{Result}
use Rattle.std.specs.Option.{option_map_or}
use Rattle.hx_ids.specs.declared.ControllerId.{ControllerId}
use Rattle.hx_cluster.specs.declared.planning.Report.{Report}
use Rattle.hx_cluster.specs.Steps.{has_controller}
use Rattle.hx_control.specs.declared.PassOutcome.{PassOutcome}
use Rattle.hx_control.specs.declared.PassOutcome.TheVariants as ends
use Rattle.hx_board.specs.Board.{Held, HasHistory}
use Rattle.hx_board.specs.declared.faults.RoomFault.{RoomFault}
use Rattle.hx_worlds.specs.declared.Settled.{Settled}
use Rattle.hx_worlds.specs.declared.Voice.{Voice}
use Rattle.hx_worlds.specs.declared.Voice.TheVariants.{Quiet}
use Rattle.hx_worlds.specs.World.{Answers, State}
use Rattle.hx_worlds.specs.Runs.{Run, Deed, GoesOn, Stops, gives, go_on, after_items}
use Rattle.hx_worlds.specs.Turns.{do_pass}
use Rattle.hx_worlds.specs.Settles.{work_all, unless_settled, enough_rounds, rounds, settle_led, settle, tell_settle, do_settle}
use Rattle.hx_scene.specs.Scenes.{SceneState, at}
use Rattle.hx_scene.specs.Kept.{IsScene}
use Rattle.hx_scene.specs.Doing.{Reaches, Ends, Fails, DoesDeed}
use Rattle.hx_scene.proofs.Reaching.{there, then_on, then_do, fails_inside_deed, reaches_as, reaches_to, fails_inside, fails_as, fails_after, on_after, does_as, does_then, nothing_done}
use Rattle.hx_sim.specs.Rounds.{report_of, round_after, round}
use Rattle.hx_sim.proofs.Said.{changed_on}
use Rattle.hx_sim.proofs.Standing.{board_ranged}

-- what follows a round, of which m are left after n
abbrev pub rounds_after : ℕ → ControllerId → ℕ → Option Report → State → Run Settled
rounds_after m k n (Some report) x = gives x (record { passes = n + 1; report = Some report })
rounds_after m k n None x = rounds m k (n + 1) x

one_round : (m : ℕ) (k : ControllerId) (n : ℕ) (outcome : Option PassOutcome) (x : State)
    → unless_settled (n + 1) outcome (λ z. rounds m k (n + 1) z) x ≡ go_on (round_after (report_of outcome) x) (rounds_after m k n)
one_round m k n None x = changed_on (work_all x) (λ y. y) None (rounds_after m k n)
one_round m k n (Some (ends.Settled report)) x = refl
one_round m k n (Some (ends.Sent sent)) x = changed_on (work_all x) (λ y. y) None (rounds_after m k n)
one_round m k n (Some (ends.Waiting pending)) x = changed_on (work_all x) (λ y. y) None (rounds_after m k n)
one_round m k n (Some (ends.Moved from to)) x = changed_on (work_all x) (λ y. y) None (rounds_after m k n)

after_pass : (m : ℕ) (k : ControllerId) (n : ℕ) (r : Run (Option PassOutcome))
    → go_on r (λ outcome y. unless_settled (n + 1) outcome (λ z. rounds m k (n + 1) z) y) ≡ go_on (go_on r (λ outcome y. round_after (report_of outcome) y)) (rounds_after m k n)
after_pass m k n (GoesOn is x outcome) = ap (λ r. after_items is r) (one_round m k n outcome x) ∙ sym (on_after is (round_after (report_of outcome) x) (rounds_after m k n))
after_pass m k n (Stops is x) = refl

first_round : (l m : ℕ) (k : ControllerId) (n : ℕ) (x : State) → l ≡ suc m → rounds l k n x ≡ go_on (round k x) (rounds_after m k n)
first_round l m k n x is = ap (λ (i : ℕ). rounds i k n x) is ∙ after_pass m k n (do_pass Quiet k x)

pub rounds_begin : (l m : ℕ) (k : ControllerId) (s : SceneState) (p : List ℕ) → m ≡ l → Reaches (rounds l k 0) s p (rounds l k 0) s p → Reaches (rounds l k 0) s p (rounds m k 0) s p
rounds_begin l m k s p is e = subst (λ (i : ℕ). Reaches (rounds l k 0) s p (rounds i k 0) s p) (sym is) e

pub round_goes : (l n : ℕ) (k : ControllerId) {f : State → Run Settled} {report : Option Report} {s u w : SceneState} {p q r : List ℕ} → n < l → Reaches f s p (rounds (l - n) k n) u q
    → Ends (round k) u q report w r → Reaches f s p (rounds_after (l - (n + 1)) k n report) w r
round_goes l n k {f} {report} {s} {u} lt e o =
    there e (reaches_as (λ a. first_round (l - n) (l - (n + 1)) k n (at u a) (omega arith)) (then_on o (rounds_after (l - (n + 1)) k n)))

pub round_fails : (l n : ℕ) (k : ControllerId) {f : State → Run Settled} {s u : SceneState} {p q : List ℕ} → n < l → Reaches f s p (rounds (l - n) k n) u q
    → (fault : RoomFault) (w : SceneState) (r : List ℕ) → Fails (round k) u q fault w r → Fails f s p fault w r
round_fails l n k {f} {s} {u} {p} {q} lt e fault w r o =
    fails_after e fault w r
    (fails_as (rounds (l - n) k n) (λ x. go_on (round k x) (rounds_after (l - (n + 1)) k n)) u (λ a. first_round (l - n) (l - (n + 1)) k n (at u a) (omega arith)) q fault w r
    (fails_inside (round k) u q fault w r o (rounds_after (l - (n + 1)) k n)))

pub rounds_over : (l n : ℕ) (k : ControllerId) {f : State → Run Settled} {s u : SceneState} {p q : List ℕ} → l ≡ n → Reaches f s p (rounds (l - n) k n) u q
    → Ends f s p (record { passes = l; report = None }) u q
rounds_over l n k {f} {s} {u} is e = reaches_to e (λ a. ap (λ (i : ℕ). rounds i k n (at u a)) (none_left l n is) ∙ ap (λ (i : ℕ). gives (at u a) (record { passes = i; report = None })) (sym is))
  where
    none_left : (l n : ℕ) → l ≡ n → l - n ≡ 0
    none_left l n is = omega arith

-- by the report of a round
pub round_on : (l n : ℕ) (k : ControllerId) (report : Option Report) {f : State → Run Settled} {s u w : SceneState} {p q r : List ℕ} → n < l → report ≡ None → Reaches f s p (rounds (l - n) k n) u q
    → Ends (round k) u q report w r → Reaches f s p (rounds (l - (n + 1)) k (n + 1)) w r
round_on l n k report {f} {s} {u} {w} {p} {q} {r} lt is e o = round_goes l n k lt e (subst (λ x. Ends (round k) u q x w r) is o)

pub round_settles : (l n : ℕ) (k : ControllerId) (report : Option Report) (settled : Report) {f : State → Run Settled} {s u w : SceneState} {p q r : List ℕ} → n < l → report ≡ Some settled
    → Reaches f s p (rounds (l - n) k n) u q → Ends (round k) u q report w r → Ends f s p (record { passes = n + 1; report = Some settled }) w r
round_settles l n k report settled {f} {s} {u} {w} {p} {q} {r} lt is e o = round_goes l n k lt e (subst (λ x. Ends (round k) u q x w r) is o)

-- a round by itself
round_then : (k : ControllerId) (outcome : Option PassOutcome) (report : Option Report) {s u : SceneState} {p q : List ℕ} → Ends (do_pass Quiet k) s p outcome u q → report_of outcome ≡ report
    → Reaches (round k) s p (round_after report) u q
round_then k outcome report {s} {u} e is = reaches_to (then_on e (λ o y. round_after (report_of o) y)) (λ a. ap (λ (x : Option Report). round_after x (at u a)) is)

pub pass_settles : (k : ControllerId) (outcome : Option PassOutcome) (settled : Report) {s u : SceneState} {p q : List ℕ} → Ends (do_pass Quiet k) s p outcome u q → report_of outcome ≡ Some settled
    → Ends (round k) s p (Some settled) u q
pass_settles k outcome settled e is = round_then k outcome (Some settled) e is

pub pass_works : (k : ControllerId) (outcome : Option PassOutcome) {s u w : SceneState} {p q r : List ℕ} → Ends (do_pass Quiet k) s p outcome u q → report_of outcome ≡ None → Ends work_all u q tt w r
    → Ends (round k) s p None w r
pass_works k outcome e is f = there (round_then k outcome None e is) (then_do f (λ y. gives y None))

pub pass_work_fails : (k : ControllerId) (outcome : Option PassOutcome) {s u : SceneState} {p q : List ℕ} → Ends (do_pass Quiet k) s p outcome u q → report_of outcome ≡ None
    → (fault : RoomFault) (w : SceneState) (r : List ℕ) → Fails work_all u q fault w r → Fails (round k) s p fault w r
pass_work_fails k outcome {s} {u} {p} {q} e is fault w r f = fails_after (round_then k outcome None e is) fault w r (fails_inside_deed work_all u q fault w r f (λ y. gives y None))

pub pass_stops : (k : ControllerId) (s : SceneState) (p : List ℕ) (fault : RoomFault) (u : SceneState) (q : List ℕ) → Fails (do_pass Quiet k) s p fault u q → Fails (round k) s p fault u q
pass_stops k s p fault u q e = fails_inside (do_pass Quiet k) s p fault u q e (λ o y. round_after (report_of o) y)

-- who leads is read off the board, and is there
pub leader_read : (s inside : SceneState) (b : Held) (read l : Option ControllerId) → inside ≡ s → b ≡ inside.board → read ≡ b.cluster.leader → read ≡ l → s.board.cluster.leader ≡ l
leader_read s inside b read l seen shown reads is =
    ap (λ (x : SceneState). x.board.cluster.leader) (sym seen) ∙ ap (λ (x : Held). x.cluster.leader) (sym shown) ∙ sym reads ∙ is

leader_on : (b : Held) → HasHistory b → (k : ControllerId) → b.cluster.leader ≡ Some k → has_controller b.cluster k ≡ true
leader_on b told k is = ap (λ (l : Option ControllerId). option_map_or (has_controller b.cluster) l true) (sym is) ∙ (board_ranged b told).leader

pub leader_in : (s inside : SceneState) → IsScene inside → inside ≡ s → (k : ControllerId) → s.board.cluster.leader ≡ Some k → has_controller s.board.cluster k ≡ true
leader_in s inside h seen k is = leader_on s.board (subst (λ (x : SceneState). HasHistory x.board) seen h.history) k is

-- a settle, by who leads
pub nobody_led : (s : SceneState) (p : List ℕ) → s.board.cluster.leader ≡ None → Ends settle s p None s p
nobody_led s p is = nothing_done settle None s p (λ a. ap (λ (l : Option ControllerId). settle_led l (at s a)) is)

abbrev pub led : ℕ → ControllerId → State → Run (Option Settled)
led most k x = go_on (rounds most k 0 x) (λ settled y. gives y (Some settled))

led_as : (s : SceneState) (k : ControllerId) (most : ℕ) → s.board.cluster.leader ≡ Some k → most ≡ enough_rounds s.board.cluster → (a : Answers) → settle (at s a) ≡ led most k (at s a)
led_as s k most is enough a = ap (λ (l : Option ControllerId). settle_led l (at s a)) is ∙ ap (λ (n : ℕ). led n k (at s a)) (sym enough)

pub led_ends : (s : SceneState) (k : ControllerId) (most : ℕ) → s.board.cluster.leader ≡ Some k → most ≡ enough_rounds s.board.cluster
    → {p q : List ℕ} {u : SceneState} {settled : Settled} → Ends (rounds most k 0) s p settled u q → Ends settle s p (Some settled) u q
led_ends s k most is enough e = reaches_as (led_as s k most is enough) (then_on e (λ settled y. gives y (Some settled)))

pub led_fails : (s : SceneState) (k : ControllerId) (most : ℕ) → s.board.cluster.leader ≡ Some k → most ≡ enough_rounds s.board.cluster
    → (p : List ℕ) (fault : RoomFault) (u : SceneState) (q : List ℕ) → Fails (rounds most k 0) s p fault u q → Fails settle s p fault u q
led_fails s k most is enough p fault u q e =
    fails_as settle (led most k) s (led_as s k most is enough) p fault u q (fails_inside (rounds most k 0) s p fault u q e (λ settled y. gives y (Some settled)))

-- a settle and what is said of it
abbrev pub settle_and_tell : Voice → Option ControllerId → State → Deed
settle_and_tell v l x = go_on (settle x) (λ settled y. tell_settle v l settled y)

aloud_as : (v : Voice) (s : SceneState) (l : Option ControllerId) → s.board.cluster.leader ≡ l → (a : Answers) → do_settle v (at s a) ≡ settle_and_tell v l (at s a)
aloud_as v s l is a = ap (λ (o : Option ControllerId). settle_and_tell v o (at s a)) is

pub aloud_does : {R : Type 0} (v : Voice) (s : SceneState) (l : Option ControllerId) → s.board.cluster.leader ≡ l → {p q : List ℕ} {u : SceneState} {settled : Option Settled} → Ends settle s p settled u q
    → (w : SceneState) (r : List ℕ) (result : Result R RoomFault) → DoesDeed (tell_settle v l settled) u q w r result → DoesDeed (do_settle v) s p w r result
aloud_does v s l is {p} e w r result d =
    does_as (do_settle v) (settle_and_tell v l) s (aloud_as v s l is) (λ _. tt) p w r result (does_then e (λ settled y. tell_settle v l settled y) (λ _. tt) w r result d)

pub aloud_fails : (v : Voice) (s : SceneState) (l : Option ControllerId) → s.board.cluster.leader ≡ l → (p : List ℕ) (fault : RoomFault) (u : SceneState) (q : List ℕ) → Fails settle s p fault u q
    → Fails (do_settle v) s p fault u q
aloud_fails v s l is p fault u q e =
    fails_as (do_settle v) (settle_and_tell v l) s (aloud_as v s l is) p fault u q (fails_inside settle s p fault u q e (λ settled y. tell_settle v l settled y))
