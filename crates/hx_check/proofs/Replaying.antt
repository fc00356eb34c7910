-- Clusters that a legal history led to.
use Rattle.std.proofs.Common.{◌≡◌, ℕ, ◌+◌, ◌≤◌, ◌<◌, ◌==◌, ◌^◌, Bool, true, false, List, [], ◌∷◌, ◌++◌, length, refl, sym, ap, ◌∙◌, subst, arith}
use Rattle.std.specs.Prelude.{Option, None, Some, Result, Ok, Err, OnOk, OnErr, is_none, is_ok, nat_lt, nat_le}
use Rattle.std.proofs.lemmas.Bool.{and_from}
use Rattle.std.proofs.lemmas.Bool.Decides.{nat_tests}
use Rattle.hx_ids.specs.declared.ControllerId.{ControllerId}
use Rattle.hx_cluster.specs.declared.description.Spec.{Spec}
use Rattle.hx_cluster.specs.declared.state.Cluster.{Cluster}
use Rattle.hx_cluster.specs.declared.happenings.Event.{Event}
use Rattle.hx_lists.specs.Answers.{RefusedAs}
use Rattle.hx_cluster.specs.Steps.{opening, has_controller}
use Rattle.hx_cluster.specs.Reads.{pass_of}
use Rattle.hx_cluster.specs.Events.{next, replay, is_epoch, is_pass, IsStep}
use Rattle.hx_cluster.specs.Weight.{weight_of, weight_of_all}
use Rattle.hx_cluster.specs.Ranged.{IsRanged}
use Rattle.hx_cluster.specs.Valid.{is_within, IsValid}
use Rattle.hx_cluster.specs.Room.{half, HasRoom}
use Rattle.hx_safe.specs.Weighed.{IsWeighed}
use Rattle.hx_safe.proofs.Counting.{all-le}
use Rattle.hx_safe.proofs.Ends.{same-self}
use Rattle.hx_safe.proofs.Whole.{reached_ranged}
use Rattle.hx_safe.proofs.Weighing.{reached_weighed}
use Rattle.hx_records.specs.Reached.{IsReached}
use Rattle.hx_check.specs.Judging.{most_weight, IsMadeIf, IsLedTo}
use Rattle.hx_pass.proofs.Longer.{legal_more}

replay_more : (c : Cluster) (h : List Event) (e : Event) → replay c (h ++ e ∷ []) ≡ next (replay c h) e
replay_more c [] e = refl
replay_more c (x ∷ h) e = replay_more (next c x) h e

weight_more : (h : List Event) (e : Event) → weight_of_all (h ++ e ∷ []) ≡ weight_of_all h + weight_of e
weight_more [] e = omega arith
weight_more (x ∷ h) e = omega (arith, weight_more h e)

pub led_opening : (spec : Spec) → IsValid spec → IsLedTo (opening spec) 0
led_opening spec valid = record { spec = spec; history = []; valid = valid; legal = tt; replays = refl; weighs = omega arith; within = omega arith }

pub led_on : (c : Cluster) (weight more : ℕ) (e : Event) → IsLedTo c weight → IsStep c e → weight + weight_of e ≤ more → more ≤ most_weight → IsLedTo (next c e) more
led_on c weight more e led step heavy within =
    let from = opening led.spec in
    record {
      spec = led.spec;
      history = led.history ++ e ∷ [];
      valid = led.valid;
      legal = legal_more from led.history e led.legal (subst (λ (d : Cluster). IsStep d e) (sym led.replays) step);
      replays = replay_more from led.history e ∙ ap (λ (d : Cluster). next d e) led.replays;
      weighs = omega (arith, weight_more led.history e, led.weighs, heavy);
      within = within;
    }

pub reached_led : (c : Cluster) (weight : ℕ) → IsLedTo c weight → IsReached c
reached_led c weight led = record { spec = led.spec; history = led.history; valid = led.valid; legal = led.legal; replays = led.replays }

pub ranged_led : (c : Cluster) (weight : ℕ) → IsLedTo c weight → IsRanged c
ranged_led c weight led = subst (λ (d : Cluster). IsRanged d) led.replays (reached_ranged led.spec led.valid led.history led.legal)

-- no number of it comes near the end of its type
pub room_led : (c : Cluster) (weight : ℕ) → IsLedTo c weight → HasRoom c
room_led c weight led =
    let weighed = subst (λ (d : Cluster). IsWeighed d (weight_of_all led.history)) led.replays (reached_weighed led.spec led.valid led.history led.legal) in
    let ranged = ranged_led c weight led in
    let small : weight_of_all led.history ≤ 2 ^ 40 = omega (arith, led.weighs, led.within) in
    record {
      ids = record { instances = few (length c.instances) ranged.instances; resources = omega (arith, ranged.few_resources) };
      sessions = omega (arith, weighed.sessions, small);
      messages = omega (arith, weighed.messages, small);
      changes = omega (arith, weighed.changes, small);
      epochs = omega (arith, weighed.epochs, small);
      passes = all-le (λ d. nat_le d.1.0 (weight_of_all led.history)) (λ d. nat_lt d.1.0 half) (λ d e. low d.1.0 (weight_of_all led.history) small e) c.controllers weighed.passes;
    }
  where
    few : (n : ℕ) → is_within 1 64 n ≡ true → n < 2 ^ 32
    few n e = let below : nat_le n 64 ≡ true = grind (arith, e) in let most : n ≤ 64 = grind (arith, nat_tests, below) in omega (arith, most)

    low : (n w : ℕ) → w ≤ 2 ^ 40 → nat_le n w ≡ true → nat_lt n half ≡ true
    low n w small e = let le : n ≤ w = grind (arith, nat_tests, e) in let less : n < half = omega (arith, le, small) in grind (arith, nat_tests, less)

none-is : {E : Type 0} (o : Option E) → o ≡ None → is_none o ≡ true
none-is None e = refl
none-is (Some x) e = cc

-- what a message's mark leaves, whether it is made or refused
pub led_marked : {T E : Type 0} (refusal : Cluster → Option E) (e : Event) (c d : Cluster) (weight : ℕ) (r : Result T E) → (is_none (refusal c) ≡ true → IsStep c e) → weight_of e ≡ 0
    → IsLedTo c weight → RefusedAs (refusal c) r → OnOk r (d ≡ next c e) → OnErr r (d ≡ c) → IsLedTo d weight
led_marked refusal e c d weight (Ok x) step light led free ok err =
    subst (λ (x : Cluster). IsLedTo x weight) (sym ok) (led_on c weight weight e led (step (none-is (refusal c) free)) (omega (arith, light)) led.within)
led_marked refusal e c d weight (Err x) step light led free ok err = subst (λ (x : Cluster). IsLedTo x weight) (sym err) led

-- the epoch that it has, and the pass of a controller's, are those of now
pub own_epoch : (c : Cluster) → is_epoch c c.epoch ≡ true
own_epoch c = same-self c.epoch.0

pub own_pass : (c : Cluster) (k : ControllerId) → has_controller c k ≡ true → is_pass c k (pass_of c k) ≡ true
own_pass c k there = and_from (has_controller c k) ((pass_of c k).0 == (pass_of c k).0) there (same-self (pass_of c k).0)

-- a controller that there is
pub some_controller : (c : Cluster) → IsRanged c → has_controller c (record { 0 = 0 }) ≡ true
some_controller c ranged = least (length c.controllers) ranged.controllers
  where
    least : (n : ℕ) → is_within 1 16 n ≡ true → nat_lt 0 n ≡ true
    least n e = grind (arith, nat_tests, e)

made_if : {X T E : Type 0} (refusal : Option E) (r : Result T E) (old after new : X) → RefusedAs refusal r → OnOk r (new ≡ after) → OnErr r (new ≡ old)
    → IsMadeIf (is_none refusal) (is_ok r) old after new
made_if refusal (Ok x) old after new free ok err = (sym (none-is refusal free), ok)
made_if refusal (Err x) old after new free ok err = (sym (some-is refusal x free), err)
  where
    some-is : {E : Type 0} (o : Option E) (x : E) → o ≡ Some x → is_none o ≡ false
    some-is None x e = cc
    some-is (Some y) x e = refl

-- the same of a cluster as it is seen, where it is told whether the event was made
pub made_so : {T E : Type 0} (refusal : Cluster → Option E) (r : Result T E) (old now new : Cluster) (e : Event) (so : Bool) → old ≡ now → so ≡ is_ok r
    → RefusedAs (refusal old) r → OnOk r (new ≡ next old e) → OnErr r (new ≡ old) → IsMadeIf (is_none (refusal now)) so now (next now e) new
made_so refusal r old now new e so same told free ok err =
    subst (λ (x : Cluster). IsMadeIf (is_none (refusal x)) so x (next x e) new) same
    (subst (λ (b : Bool). IsMadeIf (is_none (refusal old)) b old (next old e) new) (sym told) (made_if (refusal old) r old (next old e) new free ok err))
