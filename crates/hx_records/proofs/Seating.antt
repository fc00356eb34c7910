-- Where live sessions sit, as sessions join, leave and are heard of.
use Rattle.std.proofs.Common.{◌≡◌, ℕ, zero, suc, ◌<◌, ◌≤◌, ◌==◌, not, Bool, true, false, List, [], ◌∷◌, ◌++◌, length, filter, find, Option, Some, None, refl, sym, ap, ◌∙◌, subst, arith}
use Rattle.std.specs.Prelude.{slice_set, slice_index_or, nat_le, option_map, is_some}
use Rattle.std.proofs.lemmas.Bool.Decides.{nat_tests}
use Rattle.std.proofs.lemmas.List.{get_or-set_same}
use Rattle.hx_lists.specs.Lists.{count}
use Rattle.hx_ids.specs.declared.InstanceId.{InstanceId}
use Rattle.hx_ids.specs.declared.SessionId.{SessionId}
use Rattle.hx_ids.specs.declared.Live.{Live}
use Rattle.hx_ids.specs.Sessions.{no_later}
use Rattle.hx_cluster.specs.Ends.{is_session, is_live}
use Rattle.hx_cluster.specs.Steps.{is_of, live_of}
use Rattle.hx_cluster.specs.Safe.{beats_rise}
use Rattle.hx_safe.proofs.Counting.{any-count, find-any, find-passes}
use Rattle.hx_safe.proofs.Ends.{same-self}
use Rattle.hx_records.specs.Records.{seat_at}

abbrev pub Seats : Type 0
Seats = List (Option SessionId)

-- each instance's live session sits at its place
abbrev pub SitAt : Seats → List Live → Type 0
SitAt seats live = (i : InstanceId) → seat_at seats i ≡ option_map (λ l. l.session) (live_of live i)

-- a place that is set
pub set-other : (xs : Seats) (n k : ℕ) (o : Option SessionId) → (k == n) ≡ false → slice_index_or (slice_set xs n o) k None ≡ slice_index_or xs k None
set-other [] n k o ne = refl
set-other (x ∷ xs) zero zero o ne = cc
set-other (x ∷ xs) zero (suc k) o ne = refl
set-other (x ∷ xs) (suc n) zero o ne = refl
set-other (x ∷ xs) (suc n) (suc k) o ne = set-other xs n k o (grind (arith, nat_tests, ne))

pub set-here : (xs : Seats) (n : ℕ) (o : Option SessionId) → n < length xs → slice_index_or (slice_set xs n o) n None ≡ o
set-here xs n o fits = get_or-set_same xs n o None fits

pub set-none : (xs : Seats) (n : ℕ) → slice_index_or (slice_set xs n None) n None ≡ None
set-none [] n = refl
set-none (x ∷ xs) zero = refl
set-none (x ∷ xs) (suc n) = set-none xs n

pub instance_same : (i j : InstanceId) → (i.0 == j.0) ≡ true → i ≡ j
instance_same i j e = ap (λ (n : ℕ). record { 0 = n }) (let n : i.0 ≡ j.0 = grind (arith, nat_tests, e) in n)

-- what is found with one more, last
pub find-push_other : {X : Type 0} (p : X → Bool) (xs : List X) (x : X) → p x ≡ false → find p (xs ++ x ∷ []) ≡ find p xs
find-push_other p [] x e = grind (arith, e)
find-push_other p (y ∷ xs) x e = grind (arith, find-push_other p xs x e)

pub find-push_here : {X : Type 0} (p : X → Bool) (xs : List X) (x : X) → find p xs ≡ None → p x ≡ true → find p (xs ++ x ∷ []) ≡ Some x
find-push_here p [] x none e = grind (arith, e)
find-push_here p (y ∷ xs) x none e = grind (arith, none, find-push_here p xs x)

kept-where_none : {X : Type 0} (q s : X → Bool) (xs : List X) → count s xs ≤ 0 → find q (filter (λ y. not (s y)) xs) ≡ find q xs
kept-where_none q s [] none = refl
kept-where_none q s (z ∷ xs) none = grind (arith, none, kept-where_none q s xs)

gone-where_none : {X : Type 0} (p s : X → Bool) (xs : List X) → count p xs ≤ 0 → find p (filter (λ y. not (s y)) xs) ≡ None
gone-where_none p s [] none = refl
gone-where_none p s (z ∷ xs) none = grind (arith, none, gone-where_none p s xs)

-- where only the one that is found at i is taken out, what is found elsewhere stays
pub find-left_other : {X : Type 0} (p q s : X → Bool) (xs : List X) (x : X) → find p xs ≡ Some x → s x ≡ true → q x ≡ false → count s xs ≤ 1
    → find q (filter (λ y. not (s y)) xs) ≡ find q xs
find-left_other p q s [] x e here apart one = refl
find-left_other p q s (y ∷ xs) x e here apart one = turn (p y) refl (s y) refl (λ later few. find-left_other p q s xs x later here apart few)
  where
    turn : (a : Bool) → p y ≡ a → (b : Bool) → s y ≡ b
        → (find p xs ≡ Some x → count s xs ≤ 1 → find q (filter (λ z. not (s z)) xs) ≡ find q xs)
        → find q (filter (λ z. not (s z)) (y ∷ xs)) ≡ find q (y ∷ xs)
    turn true is true at again =
        let same : y ≡ x = grind (arith, e, is) in
        let other : q y ≡ false = ap q same ∙ apart in
        let few : count s xs ≤ 0 = grind (arith, at, one) in
        let rest = kept-where_none q s xs few in
        grind (arith, at, other, rest)
    turn true is false at again =
        let same : y ≡ x = grind (arith, e, is) in
        let both : false ≡ true = sym at ∙ ap s same ∙ here in
        cc
    turn false is true at again =
        let later : find p xs ≡ Some x = grind (arith, e, is) in
        let more = any-count s xs (find-any p s xs x later here) in
        grind (arith, at, one, more)
    turn false is false at again =
        let later : find p xs ≡ Some x = grind (arith, e, is) in
        let few : count s xs ≤ 1 = grind (arith, at, one) in
        let rest = again later few in
        grind (arith, at, rest)

-- and nothing is found there
pub find-left_here : {X : Type 0} (p s : X → Bool) (xs : List X) (x : X) → find p xs ≡ Some x → s x ≡ true → count p xs ≤ 1
    → find p (filter (λ y. not (s y)) xs) ≡ None
find-left_here p s [] x e here one = refl
find-left_here p s (y ∷ xs) x e here one = turn (p y) refl (s y) refl (λ later few. find-left_here p s xs x later here few)
  where
    turn : (a : Bool) → p y ≡ a → (b : Bool) → s y ≡ b
        → (find p xs ≡ Some x → count p xs ≤ 1 → find p (filter (λ z. not (s z)) xs) ≡ None)
        → find p (filter (λ z. not (s z)) (y ∷ xs)) ≡ None
    turn true is true at again =
        let few : count p xs ≤ 0 = grind (arith, is, one) in
        let rest = gone-where_none p s xs few in
        grind (arith, at, rest)
    turn true is false at again =
        let same : y ≡ x = grind (arith, e, is) in
        let both : false ≡ true = sym at ∙ ap s same ∙ here in
        cc
    turn false is b at again =
        let later : find p xs ≡ Some x = grind (arith, e, is) in
        let few : count p xs ≤ 1 = grind (arith, is, one) in
        let rest = again later few in
        either b at rest
      where
        either : (b : Bool) → s y ≡ b → find p (filter (λ z. not (s z)) xs) ≡ None → find p (filter (λ z. not (s z)) (y ∷ xs)) ≡ None
        either true at rest = grind (arith, at, rest)
        either false at rest = grind (arith, at, is, rest)

-- a session that joins
pub sit_join : (seats : Seats) (live : List Live) (i : InstanceId) (l : Live) → l.instance ≡ i → i.0 < length seats → live_of live i ≡ None
    → SitAt seats live → SitAt (slice_set seats i.0 (Some l.session)) (live ++ l ∷ [])
sit_join seats live i l its fits free old j = one (j.0 == i.0) refl
  where
    new : List Live
    new = live ++ l ∷ []

    one : (b : Bool) → (j.0 == i.0) ≡ b → seat_at (slice_set seats i.0 (Some l.session)) j ≡ option_map (λ x. x.session) (live_of new j)
    one true is =
        let here : is_of i l ≡ true = ap (λ (k : InstanceId). k.0 == i.0) its ∙ same-self i.0 in
        let found : live_of new i ≡ Some l = find-push_here (is_of i) live l free here in
        let at : seat_at (slice_set seats i.0 (Some l.session)) i ≡ option_map (λ x. x.session) (live_of new i) =
        set-here seats i.0 (Some l.session) fits ∙ sym (ap (λ (o : Option Live). option_map (λ x. x.session) o) found) in
        subst (λ (k : InstanceId). seat_at (slice_set seats i.0 (Some l.session)) k ≡ option_map (λ x. x.session) (live_of new k)) (sym (instance_same j i is)) at
    one false is =
        let no : is_of j l ≡ false = ap (λ (k : InstanceId). k.0 == j.0) its ∙ (let e : (i.0 == j.0) ≡ false = grind (arith, nat_tests, is) in e) in
        set-other seats i.0 j.0 (Some l.session) is ∙ old j ∙ sym (ap (λ (o : Option Live). option_map (λ x. x.session) o) (find-push_other (is_of j) live l no))

of-other : (live : List Live) (i j : InstanceId) (l : Live) → live_of live i ≡ Some l → (j.0 == i.0) ≡ false → is_of j l ≡ false
of-other live i j l found ne = let at = find-passes (is_of i) live l found in grind (arith, nat_tests, at, ne)

-- a session that leaves
pub sit_left : (seats : Seats) (live : List Live) (i : InstanceId) (s : SessionId) (l : Live) → live_of live i ≡ Some l → is_session s l ≡ true
    → count (is_session s) live ≤ 1 → count (is_of i) live ≤ 1 → SitAt seats live → SitAt (slice_set seats i.0 None) (filter (λ x. not (is_session s x)) live)
sit_left seats live i s l found here once single old j = one (j.0 == i.0) refl
  where
    new : List Live
    new = filter (λ x. not (is_session s x)) live

    one : (b : Bool) → (j.0 == i.0) ≡ b → seat_at (slice_set seats i.0 None) j ≡ option_map (λ x. x.session) (live_of new j)
    one true is =
        let gone : live_of new i ≡ None = find-left_here (is_of i) (is_session s) live l found here single in
        let at : seat_at (slice_set seats i.0 None) i ≡ option_map (λ x. x.session) (live_of new i) =
        set-none seats i.0 ∙ sym (ap (λ (o : Option Live). option_map (λ x. x.session) o) gone) in
        subst (λ (k : InstanceId). seat_at (slice_set seats i.0 None) k ≡ option_map (λ x. x.session) (live_of new k)) (sym (instance_same j i is)) at
    one false is =
        let stays = find-left_other (is_of i) (is_of j) (is_session s) live l found here (of-other live i j l found is) once in
        set-other seats i.0 j.0 None is ∙ old j ∙ sym (ap (λ (o : Option Live). option_map (λ x. x.session) o) stays)

-- a session that is heard of
pub sit_beaten : (seats : Seats) (live : List Live) (i : InstanceId) (l : Live) (beat : ℕ) → live_of live i ≡ Some l
    → count (is_session l.session) live ≤ 1 → count (is_of i) live ≤ 1 → SitAt seats live
    → SitAt seats (filter (λ x. not (is_session l.session x)) live ++ (record l { beat = beat }) ∷ [])
sit_beaten seats live i l beat found once single old j = one (j.0 == i.0) refl
  where
    left : List Live
    left = filter (λ x. not (is_session l.session x)) live

    last : Live
    last = record l { beat = beat }

    one : (b : Bool) → (j.0 == i.0) ≡ b → seat_at seats j ≡ option_map (λ x. x.session) (live_of (left ++ last ∷ []) j)
    one true is =
        let gone : live_of left i ≡ None = find-left_here (is_of i) (is_session l.session) live l found (same-self l.session.0) single in
        let back : live_of (left ++ last ∷ []) i ≡ Some last = find-push_here (is_of i) left last gone (find-passes (is_of i) live l found) in
        let at : seat_at seats i ≡ option_map (λ x. x.session) (live_of (left ++ last ∷ []) i) =
        old i ∙ ap (λ (o : Option Live). option_map (λ x. x.session) o) found ∙ sym (ap (λ (o : Option Live). option_map (λ x. x.session) o) back) in
        subst (λ (k : InstanceId). seat_at seats k ≡ option_map (λ x. x.session) (live_of (left ++ last ∷ []) k)) (sym (instance_same j i is)) at
    one false is =
        let no = of-other live i j l found is in
        let stays = find-left_other (is_of i) (is_of j) (is_session l.session) live l found (same-self l.session.0) no once in
        old j ∙ sym (ap (λ (o : Option Live). option_map (λ x. x.session) o) (find-push_other (is_of j) left last no ∙ stays))

-- no beat is later than the clock
low-clock : (a : ℕ) (live : List Live) (clock : ℕ) → beats_rise a live clock ≡ true → nat_le a clock ≡ true
low-clock a [] clock e = e
low-clock a (l ∷ live) clock e =
    let low : nat_le a l.beat ≡ true = grind (arith, e) in
    let rest : beats_rise l.beat live clock ≡ true = grind (arith, e) in
    let more = low-clock l.beat live clock rest in
    grind (arith, nat_tests, low, more)

pub none_later_than : (a : ℕ) (live : List Live) (clock : ℕ) → beats_rise a live clock ≡ true → no_later clock live ≡ true
none_later_than a [] clock e = refl
none_later_than a (l ∷ live) clock e =
    let rest : beats_rise l.beat live clock ≡ true = grind (arith, e) in
    let first = low-clock l.beat live clock rest in
    let more = none_later_than l.beat live clock rest in
    grind (arith, first, more)

-- a session that is found is live
pub live_found : (live : List Live) (s : SessionId) → is_some (find (is_session s) live) ≡ is_live live s
live_found [] s = refl
live_found (l ∷ live) s = grind (arith, live_found live s)
