-- Live sessions whose instances and numbers rise are distinct, and so good ones.
use Rattle.std.proofs.Common.{◌≡◌, ℕ, ◌+◌, ◌≤◌, ◌&&◌, ◌==◌, not, Bool, true, false, List, [], ◌∷◌, Option, Some, refl, arith}
use Rattle.std.specs.Prelude.{nat_lt, nat_le}
use Rattle.std.specs.List.{list_all}
use Rattle.std.proofs.lemmas.Bool.Decides.{nat_tests}
use Rattle.hx_lists.specs.Lists.{count}
use Rattle.hx_ids.specs.declared.SessionId.{SessionId}
use Rattle.hx_ids.specs.declared.InstanceId.{InstanceId}
use Rattle.hx_cluster.specs.Ends.{is_shown}
use Rattle.hx_cluster.specs.Views.{is_good_session}
use Rattle.hx_formed.specs.Sessions.{instances_rise, is_newer, sessions_rise, are_distinct}

pub both : (a b : Bool) → (a && b) ≡ true → (a ≡ true) × (b ≡ true)
both true b e = (refl, e)
both false b e = cc

abbrev same : SessionId × InstanceId → SessionId × InstanceId → Bool
same e o = o.0.0 == e.0.0

abbrev beside : SessionId × InstanceId → SessionId × InstanceId → Bool
beside e o = o.1.0 == e.1.0

-- a session that isn't shown counts none, and one that counts none isn't shown
not_shown : (live : List (SessionId × InstanceId)) (e : SessionId × InstanceId) → is_shown live e.0 ≡ false → count (same e) live ≡ 0
not_shown [] e h = refl
not_shown (x ∷ live) e h = grind (arith, nat_tests, h, not_shown live e)

none_shown : (live : List (SessionId × InstanceId)) (e : SessionId × InstanceId) → count (same e) live ≡ 0 → is_shown live e.0 ≡ false
none_shown [] e h = refl
none_shown (x ∷ live) e h = grind (arith, nat_tests, h, none_shown live e)

-- sessions that rise are all behind the last one
behind_last : (l : SessionId) (live : List (SessionId × InstanceId)) (s : SessionId) → sessions_rise (Some l) live ≡ true → nat_le s.0 l.0 ≡ true → is_shown live s ≡ false
behind_last l [] s h less = refl
behind_last l (x ∷ live) s h less =
    let parts = both (nat_lt l.0 x.0.0) (sessions_rise (Some x.0) live) h in
    grind (arith, nat_tests, parts.0, less, behind_last x.0 live s parts.1)

pub risen_distinct : (last : Option SessionId) (live : List (SessionId × InstanceId)) → sessions_rise last live ≡ true → are_distinct live ≡ true
risen_distinct last [] h = refl
risen_distinct last (x ∷ live) h =
    let parts = both (is_newer last x.0) (sessions_rise (Some x.0) live) h in
    let here : is_shown live x.0 ≡ false = behind_last x.0 live x.0 parts.1 (grind (arith, nat_tests)) in
    grind (arith, here, risen_distinct (Some x.0) live parts.1)

-- good sessions are distinct
good_once : (n : ℕ) (all live : List (SessionId × InstanceId)) → ((e : SessionId × InstanceId) → count (same e) live ≤ count (same e) all) → list_all (is_good_session n all) live ≡ true
    → are_distinct live ≡ true
good_once n all [] few h = refl
good_once n all (x ∷ live) few h =
    let parts = both (is_good_session n all x) (list_all (is_good_session n all) live) h in
    let numbers = both (nat_lt x.1.0 n && (count (same x) all == 1)) (count (beside x) all == 1) parts.0 in
    let once = both (nat_lt x.1.0 n) (count (same x) all == 1) numbers.0 in
    let here : count (same x) live ≡ 0 = grind (arith, nat_tests, few x, once.1) in
    let rest : are_distinct live ≡ true = good_once n all live (λ e. grind (arith, few e)) parts.1 in
    grind (arith, none_shown live x here, rest)

pub good_distinct : (n : ℕ) (live : List (SessionId × InstanceId)) → list_all (is_good_session n live) live ≡ true → are_distinct live ≡ true
good_distinct n live h = good_once n live live (λ e. omega arith) h

-- instances that rise from one on are none before it
none_before : (n from : ℕ) (live : List (SessionId × InstanceId)) (e : SessionId × InstanceId) → instances_rise n from live ≡ true → nat_lt e.1.0 from ≡ true → count (beside e) live ≡ 0
none_before n from [] e h less = refl
none_before n from (x ∷ live) e h less =
    let parts = both (nat_le from x.1.0 && nat_lt x.1.0 n) (instances_rise n (x.1.0 + 1) live) h in
    let lower = both (nat_le from x.1.0) (nat_lt x.1.0 n) parts.0 in
    grind (arith, nat_tests, lower.0, less, none_before n (x.1.0 + 1) live e parts.1)

-- in a list of which some stand in front, none of them with the session or the instance of one behind
good_of : (n : ℕ) (all live : List (SessionId × InstanceId)) (from : ℕ)
    → ((e : SessionId × InstanceId) → is_shown live e.0 ≡ true → count (same e) all ≡ count (same e) live)
    → ((e : SessionId × InstanceId) → nat_le from e.1.0 ≡ true → count (beside e) all ≡ count (beside e) live)
    → instances_rise n from live ≡ true → are_distinct live ≡ true → list_all (is_good_session n all) live ≡ true
good_of n all [] from named placed h d = refl
good_of n all (x ∷ live) from named placed h d =
    let parts = both (nat_le from x.1.0 && nat_lt x.1.0 n) (instances_rise n (x.1.0 + 1) live) h in
    let lower = both (nat_le from x.1.0) (nat_lt x.1.0 n) parts.0 in
    let apart = both (not (is_shown live x.0)) (are_distinct live) d in
    let gone : is_shown live x.0 ≡ false = grind (arith, apart.0) in
    let shown : is_shown (x ∷ live) x.0 ≡ true = grind (arith, nat_tests) in
    let one : count (same x) all ≡ 1 = grind (arith, nat_tests, named x shown, not_shown live x gone) in
    let alone : count (beside x) all ≡ 1 = grind (arith, nat_tests, placed x lower.0, none_before n (x.1.0 + 1) live x parts.1) in
    let here : is_good_session n all x ≡ true = grind (arith, nat_tests, lower.1, one, alone) in
    let rest : list_all (is_good_session n all) live ≡ true =
    good_of n all live (x.1.0 + 1) (λ e s. other e s (x.0.0 == e.0.0) refl gone) (λ e s. above e s lower.0) parts.1 apart.1 in
    grind (arith, here, rest)
  where
    other : (e : SessionId × InstanceId) → is_shown live e.0 ≡ true → (b : Bool) → (x.0.0 == e.0.0) ≡ b → is_shown live x.0 ≡ false → count (same e) all ≡ count (same e) live
    other e s true is gone = grind (arith, nat_tests, s, is, gone, not_shown live x gone, none_shown live e)
    other e s false is gone =
        let more : is_shown (x ∷ live) e.0 ≡ true = grind (arith, s) in
        grind (arith, nat_tests, named e more, is)

    above : (e : SessionId × InstanceId) → nat_le (x.1.0 + 1) e.1.0 ≡ true → nat_le from x.1.0 ≡ true → count (beside e) all ≡ count (beside e) live
    above e s low =
        let more : nat_le from e.1.0 ≡ true = grind (arith, nat_tests, s, low) in
        grind (arith, nat_tests, placed e more, s)

pub risen_good : (n : ℕ) (live : List (SessionId × InstanceId)) → instances_rise n 0 live ≡ true → are_distinct live ≡ list_all (is_good_session n live) live
risen_good n live h = one (are_distinct live) refl (list_all (is_good_session n live) live) refl
  where
    one : (a : Bool) → are_distinct live ≡ a → (b : Bool) → list_all (is_good_session n live) live ≡ b → a ≡ b
    one true d b g = grind (arith, g, good_of n live live 0 (λ e s. refl) (λ e s. refl) h d)
    one false d true g = grind (arith, d, good_distinct n live g)
    one false d false g = refl
