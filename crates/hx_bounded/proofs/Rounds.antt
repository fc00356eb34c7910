-- Rounds end, where each round after the first settles or leaves less work.
use Rattle.std.proofs.Common.{◌≡◌, ℕ, zero, suc, ◌+◌, ◌<◌, false, [], Option, Some, refl, sym, subst, arith}
use Rattle.hx_ids.specs.declared.ControllerId.{ControllerId}
use Rattle.hx_cluster.specs.declared.description.Spec.{Spec}
use Rattle.hx_cluster.specs.Ends.{is_live}
use Rattle.hx_cluster.specs.Safe.{IsSafe}
use Rattle.hx_cluster.specs.Ranged.{IsRanged}
use Rattle.hx_cluster.specs.Valid.{IsValid}
use Rattle.hx_pass.specs.Left.{left_of}
use Rattle.hx_pass.specs.Explained.{IsExplained}
use Rattle.hx_control.specs.declared.PassOutcome.{PassOutcome}
use Rattle.hx_control.specs.declared.PassOutcome.TheVariants as ends
use Rattle.hx_worlds.specs.declared.Voice.TheVariants.{Quiet}
use Rattle.hx_worlds.specs.World.{State}
use Rattle.hx_worlds.specs.Runs.{gives, and_then}
use Rattle.hx_worlds.specs.Turns as Turns
use Rattle.hx_worlds.specs.Settles.{enough_rounds, work_all, unless_settled, rounds, settle_led}
use Rattle.hx_safe.proofs.Whole.{reached_safe, reached_ranged}
use Rattle.hx_scripted.proofs.Standing.{Last}
use Rattle.hx_agreed.specs.InStep.{Each}
use Rattle.hx_agreed.proofs.DoingTurns.{Stands}
use Rattle.hx_settled.specs.Places.{tries_left}
use Rattle.hx_bounded.specs.Ending.{IfGoesOn, HasSettled, IsEnd}
use Rattle.hx_bounded.specs.Measure.{all_walks, work_left}
use Rattle.hx_bounded.specs.Falling.{IsFalling}
use Rattle.hx_bounded.specs.Rounds.{by_outcome}
use Rattle.hx_bounded.proofs.Counting.{work_bounded, work_falls}
use Rattle.hx_bounded.proofs.Going.{goes_on, goes_then, goes_gives}

-- a controller leads, and has no turn under way
pub record IsLed (spec : Spec) (last : Last) (k : ControllerId) (x : State) : Type 0 where
  pub stands : Stands spec last x
  pub leads : x.world.cluster.leader ≡ Some k
  pub idle : Turns.left_of x k ≡ []

-- between rounds nothing is pending
pub record IsAtRest (spec : Spec) (last : Last) (k : ControllerId) (x : State) : Type 0 where
  pub led : IsLed spec last k x
  pub mail : x.world.cluster.mail ≡ []

-- the first round: its turn settles, or leaves its controller idle; and its work leaves nothing pending
abbrev pub IsFirstTurn : Spec → Last → ControllerId → ℕ → Option PassOutcome → State → Type 0
IsFirstTurn spec last k enough o y =
    by_outcome (λ report. IsExplained y.world.cluster report) (IsLed spec last k y × (enough_rounds y.world.cluster ≡ enough)) o

abbrev pub IsFirstRest : Spec → Last → ControllerId → ℕ → State → Type 0
IsFirstRest spec last k enough z = IsAtRest spec last k z × (enough_rounds z.world.cluster ≡ enough)

-- a later round: its turn settles, or sends messages that are on their way; and as they are worked off the round falls
pub record IsSetOff (spec : Spec) (last : Last) (k : ControllerId) (walks tries left : ℕ) (y : State) : Type 0 where
  pub led : IsLed spec last k y
  pub falls : IsFalling walks tries left y.world.cluster
  pub jobs : Each (λ j. is_live y.world.cluster.live j.message.session ≡ false) y.world.jobs

abbrev pub IsLaterTurn : Spec → Last → ControllerId → ℕ → ℕ → ℕ → Option PassOutcome → State → Type 0
IsLaterTurn spec last k walks tries left o y =
    by_outcome (λ report. IsExplained y.world.cluster report) (IsSetOff spec last k walks tries left y) o

abbrev pub IsLaterRest : Spec → Last → ControllerId → ℕ → ℕ → ℕ → State → Type 0
IsLaterRest spec last k walks tries left z = IsAtRest spec last k z × IsFalling walks tries left z.world.cluster

pub safe_there : (spec : Spec) (valid : IsValid spec) (last : Last) (x : State) → Stands spec last x → IsSafe x.world.cluster
safe_there spec valid last x s = subst IsSafe (sym s.scripted.of.cluster) (reached_safe spec valid x.world.history s.scripted.of.legal)

pub ranged_there : (spec : Spec) (valid : IsValid spec) (last : Last) (x : State) → Stands spec last x → IsRanged x.world.cluster
ranged_there spec valid last x s = subst IsRanged (sym s.scripted.of.cluster) (reached_ranged spec valid x.world.history s.scripted.of.legal)

module _ (spec : Spec) (valid : IsValid spec) (last : Last) (k : ControllerId)
    (first_turn : (x : State) → Stands spec last x → x.world.cluster.leader ≡ Some k → IfGoesOn (IsFirstTurn spec last k (enough_rounds x.world.cluster)) (Turns.do_pass Quiet k x))
    (first_work : (enough : ℕ) (y : State) → IsLed spec last k y → enough_rounds y.world.cluster ≡ enough → IfGoesOn (λ _ z. IsFirstRest spec last k enough z) (work_all y))
    (later_turn : (x : State) → IsAtRest spec last k x
    → IfGoesOn (IsLaterTurn spec last k (all_walks x.world.cluster) (tries_left x.world.cluster) (left_of x.world.cluster)) (Turns.do_pass Quiet k x))
    (later_work : (w t l : ℕ) (y : State) → IsSetOff spec last k w t l y → IfGoesOn (λ _ z. IsLaterRest spec last k w t l z) (work_all y)) where
  -- the rounds after the first
  rounds_end : (m n : ℕ) (x : State) → IsAtRest spec last k x → work_left x.world.cluster < m → IfGoesOn (λ s y. HasSettled (n + m) y s) (rounds m k n x)
  rounds_end zero n x rest less = absurd (omega (arith, less))
  rounds_end (suc m) n x rest less =
      let w : ℕ = all_walks x.world.cluster in
      let t : ℕ = tries_left x.world.cluster in
      let l : ℕ = left_of x.world.cluster in
      goes_on (IsLaterTurn spec last k w t l) (λ s y. HasSettled (n + suc m) y s) (Turns.do_pass Quiet k x) (λ o y. unless_settled (n + 1) o (λ z. rounds m k (n + 1) z) y)
      (later_turn x rest) (ended (λ z r e. rounds_end m (n + 1) z r e))
    where
      more : ((z : State) → IsAtRest spec last k z → work_left z.world.cluster < m → IfGoesOn (λ s y. HasSettled (n + 1 + m) y s) (rounds m k (n + 1) z))
          → (y : State) → IsSetOff spec last k (all_walks x.world.cluster) (tries_left x.world.cluster) (left_of x.world.cluster) y
          → IfGoesOn (λ s z. HasSettled (n + suc m) z s) (and_then (work_all y) (λ z. rounds m k (n + 1) z))
      more again y here =
          goes_then (IsLaterRest spec last k (all_walks x.world.cluster) (tries_left x.world.cluster) (left_of x.world.cluster)) (λ s z. HasSettled (n + suc m) z s) (work_all y) (λ z. rounds m k (n + 1) z)
          (later_work (all_walks x.world.cluster) (tries_left x.world.cluster) (left_of x.world.cluster) y here)
          (λ z after.
          let s = after.0.led.stands in
          let falls = work_falls (all_walks x.world.cluster) (tries_left x.world.cluster) (left_of x.world.cluster) z.world.cluster (safe_there spec valid last z s) (ranged_there spec valid last z s) after.0.mail after.1 in
          let many : n + 1 + m ≡ n + suc m = omega arith in
          subst (λ (most : ℕ). IfGoesOn (λ s y. HasSettled most y s) (rounds m k (n + 1) z)) many (again z after.0 (omega (arith, falls, less))))

      ended : ((z : State) → IsAtRest spec last k z → work_left z.world.cluster < m → IfGoesOn (λ s y. HasSettled (n + 1 + m) y s) (rounds m k (n + 1) z))
          → (o : Option PassOutcome) (y : State) → IsLaterTurn spec last k (all_walks x.world.cluster) (tries_left x.world.cluster) (left_of x.world.cluster) o y
          → IfGoesOn (λ s z. HasSettled (n + suc m) z s) (unless_settled (n + 1) o (λ z. rounds m k (n + 1) z) y)
      ended again (Some (ends.Settled report)) y here = record { to = record { report = report; told = refl; passes = omega arith; explained = here } }
      ended again _ y here = more again y here

  -- and the first
  first_ends : (m : ℕ) (x : State) → Stands spec last x → x.world.cluster.leader ≡ Some k → enough_rounds x.world.cluster ≡ suc m
      → IfGoesOn (λ s y. HasSettled (suc m) y s) (rounds (suc m) k 0 x)
  first_ends m x s leads enough =
      goes_on (IsFirstTurn spec last k (enough_rounds x.world.cluster)) (λ s y. HasSettled (suc m) y s) (Turns.do_pass Quiet k x) (λ o y. unless_settled (0 + 1) o (λ z. rounds m k (0 + 1) z) y)
      (first_turn x s leads) ended
    where
      more : (y : State) → IsLed spec last k y × (enough_rounds y.world.cluster ≡ enough_rounds x.world.cluster)
          → IfGoesOn (λ s z. HasSettled (suc m) z s) (and_then (work_all y) (λ z. rounds m k (0 + 1) z))
      more y here =
          goes_then (IsFirstRest spec last k (enough_rounds x.world.cluster)) (λ s z. HasSettled (suc m) z s) (work_all y) (λ z. rounds m k (0 + 1) z)
          (first_work (enough_rounds x.world.cluster) y here.0 here.1)
          (λ z after.
          let s = after.0.led.stands in
          let bound = work_bounded z.world.cluster (safe_there spec valid last z s) (ranged_there spec valid last z s) in
          let same = after.1 in
          let many : 0 + 1 + m ≡ suc m = omega arith in
          subst (λ (most : ℕ). IfGoesOn (λ s y. HasSettled most y s) (rounds m k (0 + 1) z)) many (rounds_end m (0 + 1) z after.0 (omega (arith, bound, same, enough))))

      ended : (o : Option PassOutcome) (y : State) → IsFirstTurn spec last k (enough_rounds x.world.cluster) o y
          → IfGoesOn (λ s z. HasSettled (suc m) z s) (unless_settled (0 + 1) o (λ z. rounds m k (0 + 1) z) y)
      ended (Some (ends.Settled report)) y here = record { to = record { report = report; told = refl; passes = omega arith; explained = here } }
      ended _ y here = more y here

  pub led_ends : (x : State) → Stands spec last x → x.world.cluster.leader ≡ Some k → IfGoesOn (IsEnd x.world.cluster (Some k)) (settle_led (Some k) x)
  led_ends x s leads =
      goes_on (λ s y. HasSettled (enough_rounds x.world.cluster) y s) (IsEnd x.world.cluster (Some k)) (rounds (enough_rounds x.world.cluster) k 0 x) (λ s y. gives y (Some s))
      (one (enough_rounds x.world.cluster) refl) (λ s y here. goes_gives (IsEnd x.world.cluster (Some k)) y (Some s) here)
    where
      one : (n : ℕ) → enough_rounds x.world.cluster ≡ n → IfGoesOn (λ s y. HasSettled n y s) (rounds n k 0 x)
      one zero is = let bound = work_bounded x.world.cluster (safe_there spec valid last x s) (ranged_there spec valid last x s) in absurd (omega (arith, bound, is))
      one (suc m) is = first_ends m x s leads is
