-- Visits with one more, and with those of some sessions more.
use Rattle.std.proofs.Common.{◌≡◌, ℕ, zero, suc, ◌+◌, ◌<◌, ◌≤◌, ◌==◌, ◌&&◌, ◌||◌, not, Bool, true, false, List, [], ◌∷◌, length, get_or, set, find, Option, Some, None, refl, sym, ap, ◌∙◌, arith}
use Rattle.std.specs.Prelude.{if◌then◌else◌, nat_lt}
use Rattle.std.specs.List.{insert}
use Rattle.std.specs.List.Sorted.{IsNonDecreasingBy, IsPartitionPoint}
use Rattle.std.specs.Option.{option_map_or, option_or}
use Rattle.std.proofs.lemmas.Bool.Decides.{nat_tests}
use Rattle.hx_best.specs.declared.marks.Mark.{Mark}
use Rattle.hx_best.specs.declared.visits.Visit.{Visit}
use Rattle.hx_ids.specs.declared.SessionId.{SessionId}
use Rattle.hx_ids.specs.declared.InstanceId.{InstanceId}
use Rattle.hx_best.specs.Orders.{IsOnce}
use Rattle.hx_best.specs.Visits.{rises, is_visited, mark_at, Adds}

pub both : (a b : Bool) → (a && b) ≡ true → (a ≡ true) × (b ≡ true)
both true b e = (refl, e)
both false b e = cc

pub turned : (a b : ℕ) → (a == b) ≡ (b == a)
turned a b = grind (arith, nat_tests)

pub or_none : {X : Type 0} (o : Option X) → option_or o None ≡ o
or_none None = refl
or_none (Some x) = refl

-- visits that rise from a number have none below it
pub not_visited : (first : ℕ) (vs : List Visit) (k : ℕ) → rises first vs ≡ true → k < first → is_visited vs k ≡ false
not_visited first [] k up lt = refl
not_visited first (v ∷ vs) k up lt =
    let parts = both (not (nat_lt v.number first)) (rises (v.number + 1) vs) up in
    let high : first ≤ v.number = grind (arith, nat_tests, parts.0) in
    let other : (v.number == k) ≡ false = grind (arith, nat_tests, high, lt) in
    rw other (not_visited (v.number + 1) vs k parts.1 (omega arith))

pub no_mark : (vs : List Visit) (k : ℕ) → is_visited vs k ≡ false → mark_at vs k ≡ None
no_mark [] k e = refl
no_mark (v ∷ vs) k e = one (v.number == k) refl e (no_mark vs k)
  where
    one : (b : Bool) → (v.number == k) ≡ b → (b || is_visited vs k) ≡ false → (is_visited vs k ≡ false → mark_at vs k ≡ None)
        → option_map_or (λ v. v.mark) (if b then Some v else find (λ v. v.number == k) vs) None ≡ None
    one true is e more = cc
    one false is e more = more e

pub above_first : (first : ℕ) (vs : List Visit) (j : ℕ) (d : Visit) → rises first vs ≡ true → j < length vs → first ≤ (get_or vs j d).number
above_first first [] j d up lt = absurd (omega (arith, lt))
above_first first (v ∷ vs) zero d up lt = let parts = both (not (nat_lt v.number first)) (rises (v.number + 1) vs) up in grind (arith, nat_tests, parts.0)
above_first first (v ∷ vs) (suc j) d up lt =
    let parts = both (not (nat_lt v.number first)) (rises (v.number + 1) vs) up in
    let here : first ≤ v.number = grind (arith, nat_tests, parts.0) in
    let rest = above_first (v.number + 1) vs j d parts.1 (omega (arith, lt)) in
    omega arith

pub in_order : (first : ℕ) (vs : List Visit) → rises first vs ≡ true → IsNonDecreasingBy (λ v. v.number) vs
in_order first [] up i j d le lt = absurd (omega (arith, lt))
in_order first (v ∷ vs) up zero zero d le lt = omega arith
in_order first (v ∷ vs) up zero (suc j) d le lt =
    let parts = both (not (nat_lt v.number first)) (rises (v.number + 1) vs) up in
    let rest = above_first (v.number + 1) vs j d parts.1 (omega (arith, lt)) in
    omega arith
in_order first (v ∷ vs) up (suc i) zero d le lt = absurd (omega (arith, le))
in_order first (v ∷ vs) up (suc i) (suc j) d le lt =
    in_order (v.number + 1) vs (both (not (nat_lt v.number first)) (rises (v.number + 1) vs) up).1 i j d (omega (arith, le)) (omega (arith, lt))

-- a visit more, in order
abbrev pub with_visit : Visit → List Visit → List Visit
with_visit v [] = v ∷ []
with_visit v (w ∷ ws) =
    if nat_lt w.number v.number then w ∷ with_visit v ws
    else if w.number == v.number then record { number = v.number; mark = option_or w.mark v.mark } ∷ ws
    else v ∷ w ∷ ws

-- where it goes: those before it have lower numbers, and the others don't
pub record IsPlace (v : Visit) (vs : List Visit) (place : ℕ) : Type 0 where
  pub fits : place ≤ length vs
  pub below : (k : ℕ) (d : Visit) → k < place → nat_lt (get_or vs k d).number v.number ≡ true
  pub above : (k : ℕ) (d : Visit) → place ≤ k → k < length vs → nat_lt (get_or vs k d).number v.number ≡ false

pub place_is : (v : Visit) (vs : List Visit) (place : ℕ) → place ≤ length vs → IsPartitionPoint (λ w. nat_lt w.number v.number ≡ true) (λ w. nat_lt w.number v.number ≡ false) vs place → IsPlace v vs place
place_is v vs place fits point = record {
  fits = fits;
  below = λ k d lt. point.0 k d (omega arith) lt;
  above = λ k d ge lt. point.1 k d ge lt;
}

next_place : (v w : Visit) (ws : List Visit) (place : ℕ) → IsPlace v (w ∷ ws) (suc place) → IsPlace v ws place
next_place v w ws place is = record {
  fits = omega (arith, is.fits);
  below = λ k d lt. is.below (suc k) d (omega (arith, lt));
  above = λ k d ge lt. is.above (suc k) d (omega (arith, ge)) (omega (arith, lt));
}

pub inserted : (v : Visit) (vs : List Visit) (place : ℕ) → IsPlace v vs place → ((d : Visit) → place < length vs → ((get_or vs place d).number == v.number) ≡ false) → insert vs place v ≡ with_visit v vs
inserted v [] zero is new = refl
inserted v [] (suc place) is new = absurd (omega (arith, is.fits))
inserted v (w ∷ ws) zero is new =
    let high = is.above 0 w (omega arith) (omega arith) in
    let other = new w (omega arith) in
    rw (high, other) refl
inserted v (w ∷ ws) (suc place) is new =
    let low = is.below 0 w (omega arith) in
    rw low (ap (λ (vs : List Visit). w ∷ vs) (inserted v ws place (next_place v w ws place is) (λ d lt. new d (omega (arith, lt)))))

pub merged : (v : Visit) (vs : List Visit) (place : ℕ) (d : Visit) → IsPlace v vs place → place < length vs → ((get_or vs place d).number == v.number) ≡ true
    → set vs place (record { number = v.number; mark = option_or (get_or vs place d).mark v.mark }) ≡ with_visit v vs
merged v [] place d is lt same = absurd (omega (arith, lt))
merged v (w ∷ ws) zero d is lt same = let high = is.above 0 w (omega arith) (omega arith) in rw (high, same) refl
merged v (w ∷ ws) (suc place) d is lt same =
    let low = is.below 0 w (omega arith) in
    rw low (ap (λ (vs : List Visit). w ∷ vs) (merged v ws place d (next_place v w ws place is) (omega (arith, lt)) same))

pub still_rises : (first : ℕ) (v : Visit) (vs : List Visit) → rises first vs ≡ true → first ≤ v.number → rises first (with_visit v vs) ≡ true
still_rises first v [] up le = grind (arith, nat_tests, le)
still_rises first v (w ∷ ws) up le =
    one (nat_lt w.number v.number) refl (w.number == v.number) refl (still_rises (w.number + 1) v ws (both (not (nat_lt w.number first)) (rises (w.number + 1) ws) up).1)
  where
    parts : (not (nat_lt w.number first) ≡ true) × (rises (w.number + 1) ws ≡ true)
    parts = both (not (nat_lt w.number first)) (rises (w.number + 1) ws) up

    one : (a : Bool) → nat_lt w.number v.number ≡ a → (b : Bool) → (w.number == v.number) ≡ b → (w.number + 1 ≤ v.number → rises (w.number + 1) (with_visit v ws) ≡ true)
        → rises first (if a then w ∷ with_visit v ws else if b then record { number = v.number; mark = option_or w.mark v.mark } ∷ ws else v ∷ w ∷ ws) ≡ true
    one true low b is more =
        let rest = more (grind (arith, nat_tests, low)) in
        grind (arith, parts.0, rest)
    one false high true is more =
        let same : w.number ≡ v.number = grind (arith, nat_tests, is) in
        rw (← same) (grind (arith, parts.0, parts.1))
    one false high false is more =
        let low : nat_lt v.number first ≡ false = grind (arith, nat_tests, le) in
        let above : nat_lt w.number (v.number + 1) ≡ false = grind (arith, nat_tests, high, is) in
        rw (low, above) parts.1

pub visited_more : (v : Visit) (vs : List Visit) (k : ℕ) → is_visited (with_visit v vs) k ≡ (is_visited vs k || (k == v.number))
visited_more v [] k = grind (arith, turned v.number k)
visited_more v (w ∷ ws) k = one (nat_lt w.number v.number) (w.number == v.number) refl (visited_more v ws k)
  where
    one : (a b : Bool) → (w.number == v.number) ≡ b → is_visited (with_visit v ws) k ≡ (is_visited ws k || (k == v.number))
        → is_visited (if a then w ∷ with_visit v ws else if b then record { number = v.number; mark = option_or w.mark v.mark } ∷ ws else v ∷ w ∷ ws) k
        ≡ ((w.number == k) || is_visited ws k || (k == v.number))
    one true b is more = grind (arith, more)
    one false true is more =
        let same : w.number ≡ v.number = grind (arith, nat_tests, is) in
        grind (arith, turned v.number k, ap (λ (n : ℕ). n == k) same)
    one false false is more = grind (arith, turned v.number k)

pub marked_more : (first : ℕ) (v : Visit) (vs : List Visit) (k : ℕ) → rises first vs ≡ true → mark_at (with_visit v vs) k ≡ option_or (mark_at vs k) (if k == v.number then v.mark else None)
marked_more first v [] k up = one (k == v.number) refl
  where
    one : (b : Bool) → (k == v.number) ≡ b → mark_at (v ∷ []) k ≡ (if b then v.mark else None)
    one true is = rw (turned v.number k, is) refl
    one false is = rw (turned v.number k, is) refl
marked_more first v (w ∷ ws) k up = one (nat_lt w.number v.number) refl (w.number == v.number) refl (w.number == k) refl (k == v.number) refl (marked_more (w.number + 1) v ws k)
  where
    rest : rises (w.number + 1) ws ≡ true
    rest = (both (not (nat_lt w.number first)) (rises (w.number + 1) ws) up).1

    old : Bool → Option Mark
    old c = option_map_or (λ v. v.mark) (if c then Some w else find (λ v. v.number == k) ws) None

    one : (a : Bool) → nat_lt w.number v.number ≡ a → (b : Bool) → (w.number == v.number) ≡ b → (c : Bool) → (w.number == k) ≡ c → (e : Bool) → (k == v.number) ≡ e
        → (rises (w.number + 1) ws ≡ true → mark_at (with_visit v ws) k ≡ option_or (mark_at ws k) (if k == v.number then v.mark else None))
        → mark_at (if a then w ∷ with_visit v ws else if b then record { number = v.number; mark = option_or w.mark v.mark } ∷ ws else v ∷ w ∷ ws) k
        ≡ option_or (old c) (if e then v.mark else None)
    one true low b is true at true on more = absurd (grind (arith, nat_tests, low, at, on))
    one true low b is true at false on more = rw at (sym (or_none w.mark))
    one true low b is false at e on more = rw at (more rest ∙ ap (λ (e : Bool). option_or (mark_at ws k) (if e then v.mark else None)) on)
    one false high true is true at true on more = rw (turned v.number k, on) refl
    one false high true is true at false on more = absurd (grind (arith, nat_tests, is, at, on))
    one false high true is false at true on more = absurd (grind (arith, nat_tests, is, at, on))
    one false high true is false at false on more = rw (turned v.number k, on) (sym (or_none (mark_at ws k)))
    one false high false is true at true on more = absurd (grind (arith, nat_tests, is, at, on))
    one false high false is true at false on more = rw (turned v.number k, on, at) (sym (or_none w.mark))
    one false high false is false at true on more =
        let below : k < w.number + 1 = grind (arith, nat_tests, high, is, on) in
        let none = no_mark ws k (not_visited (w.number + 1) ws k rest below) in
        rw (turned v.number k, on) (sym (ap (λ (o : Option Mark). option_or o v.mark) none))
    one false high false is false at false on more = rw (turned v.number k, on, at) (sym (or_none (mark_at ws k)))

pub added : (v : Visit) (vs : List Visit) → rises 0 vs ≡ true → (n : ℕ) → v.number < n → Adds n (λ k. k == v.number) v.mark vs (with_visit v vs)
added v vs up n lt = record {
  marks = λ k _. marked_more 0 v vs k up;
  visited = λ k _. visited_more v vs k;
  within = λ inside k e. one (is_visited vs k) refl (k == v.number) refl (sym (visited_more v vs k) ∙ e) (inside k);
}
  where
    one : {k : ℕ} (a : Bool) → is_visited vs k ≡ a → (b : Bool) → (k == v.number) ≡ b → (a || b) ≡ true → (is_visited vs k ≡ true → k < n) → k < n
    one {k} true old b is any inside = inside old
    one {k} false old true is any inside = grind (arith, nat_tests, is, lt)
    one {k} false old false is any inside = cc

-- sessions more
module _ (n : ℕ) (mark : Option Mark) where
  pub none_added : (p : ℕ → Bool) (vs : List Visit) → ((k : ℕ) → k < n → p k ≡ false) → Adds n p mark vs vs
  none_added p vs none = record {
    marks = λ k lt. rw (none k lt) (sym (or_none (mark_at vs k)));
    visited = λ k lt. rw (none k lt) (grind arith);
    within = λ inside. inside;
  }

  pub adds_same : (p q : ℕ → Bool) (old new : List Visit) → ((k : ℕ) → k < n → p k ≡ q k) → Adds n p mark old new → Adds n q mark old new
  adds_same p q old new same adds = record {
    marks = λ k lt. adds.marks k lt ∙ ap (λ (b : Bool). option_or (mark_at old k) (if b then mark else None)) (same k lt);
    visited = λ k lt. adds.visited k lt ∙ ap (λ (b : Bool). is_visited old k || b) (same k lt);
    within = adds.within;
  }

  or_twice : (o : Option Mark) (a b : Bool) → option_or (option_or o (if a then mark else None)) (if b then mark else None) ≡ option_or o (if a || b then mark else None)
  or_twice (Some m) a b = refl
  or_twice None false b = refl
  or_twice None true false = or_none mark
  or_twice None true true = own mark
    where
      own : (m : Option Mark) → option_or m m ≡ m
      own None = refl
      own (Some m) = refl

  pub adds_more : (p q : ℕ → Bool) (old mid new : List Visit) → Adds n p mark old mid → Adds n q mark mid new → Adds n (λ k. p k || q k) mark old new
  adds_more p q old mid new first second = record {
    marks = λ k lt. second.marks k lt ∙ ap (λ (o : Option Mark). option_or o (if q k then mark else None)) (first.marks k lt) ∙ or_twice (mark_at old k) (p k) (q k);
    visited = λ k lt. second.visited k lt ∙ ap (λ (b : Bool). b || q k) (first.visited k lt) ∙ or_assoc (is_visited old k) (p k) (q k);
    within = λ inside. second.within (first.within inside);
  }
    where
      or_assoc : (a b c : Bool) → (a || b || c) ≡ (a || (b || c))
      or_assoc a b c = grind arith

-- those from a first on, below an end
abbrev pub from_to : ℕ → ℕ → ℕ → Bool
from_to first end k = not (nat_lt k first) && nat_lt k end

module _ (n : ℕ) (mark : Option Mark) (first number : ℕ) (old mid new : List Visit) where
  pub span_none : Adds n (from_to first first) mark old old
  span_none = none_added n mark (from_to first first) old (λ k lt. grind (arith, nat_tests))

  pub span_more : first ≤ number → Adds n (from_to first number) mark old mid → Adds n (λ k. k == number) mark mid new → Adds n (from_to first (number + 1)) mark old new
  span_more le before adds =
      adds_same n mark (λ k. from_to first number k || (k == number)) (from_to first (number + 1)) old new (λ k lt. grind (arith, nat_tests, le))
      (adds_more n mark (from_to first number) (λ k. k == number) old mid new before adds)

-- a session that stands once, and is visited already
pub visited_already : (live : List (SessionId × InstanceId)) (s : SessionId) (vs : List Visit) (j : ℕ) (d : SessionId × InstanceId) → IsOnce live → j < length live → is_visited vs j ≡ true
    → (get_or live j d).0.0 ≡ s.0 → Adds (length live) (λ k. (get_or live k d).0.0 == s.0) None vs vs
visited_already live s vs j d once few there own = record {
  marks = λ k lt. sym (one ((get_or live k d).0.0 == s.0) (mark_at vs k));
  visited = λ k lt. two k lt ((get_or live k d).0.0 == s.0) refl;
  within = λ inside. inside;
}
  where
    one : (b : Bool) (o : Option Mark) → option_or o (if b then None else None) ≡ o
    one true o = or_none o
    one false o = or_none o

    two : (k : ℕ) → k < length live → (b : Bool) → ((get_or live k d).0.0 == s.0) ≡ b → is_visited vs k ≡ (is_visited vs k || b)
    two k lt true is =
        let session : (get_or live k d).0.0 ≡ s.0 = grind (arith, nat_tests, is) in
        let same = once k j d lt few (session ∙ sym own) in
        let here : is_visited vs k ≡ true = ap (is_visited vs) same ∙ there in
        rw here refl
    two k lt false is = grind arith
