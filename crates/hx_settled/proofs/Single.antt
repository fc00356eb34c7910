-- A live session has one place of each part that is there.
use Rattle.std.proofs.Common.{◌≡◌, ℕ, zero, suc, ◌+◌, ◌≤◌, ◌<◌, ◌||◌, ◌&&◌, ◌==◌, Bool, true, false, List, [], ◌∷◌, length, Option, Some, None, refl, ap, ◌∙◌, arith}
use Rattle.std.specs.Prelude.{nat_lt, slice_get}
use Rattle.std.specs.List.{list_any, flat_map}
use Rattle.std.specs.Option.{option_map_or}
use Rattle.std.proofs.lemmas.Bool.Decides.{nat_tests}
use Rattle.hx_lists.specs.Lists.{count, numbers_from, numbers_below}
use Rattle.hx_ids.specs.declared.InstanceId.{InstanceId}
use Rattle.hx_ids.specs.declared.SessionId.{SessionId}
use Rattle.hx_ids.specs.declared.PartId.{PartId}
use Rattle.hx_cluster.specs.declared.description.Resource.{Resource}
use Rattle.hx_cluster.specs.declared.state.Cluster.{Cluster}
use Rattle.hx_cluster.specs.Ends.{part_eq, is_live, is_shown, resource_at, parts_of}
use Rattle.hx_cluster.specs.Reads.{live_shown}
use Rattle.hx_cluster.specs.Safe.{IsSafe}
use Rattle.hx_safe.proofs.Counting.{and-first, any-append, any-count, count-map, count-none, count-le}
use Rattle.hx_lawful.proofs.Viewing.{sessions_once}
use Rattle.hx_lawful.proofs.Choosing.{pieces-once, numbers-once}
use Rattle.hx_settled.specs.Places.{Place, place_on, places_at, places_in, places_of}
use Rattle.hx_settled.proofs.Moments.{shown_is_live}

-- a session's place of a part
abbrev pub is_place : SessionId → PartId → Place → Bool
is_place s p x = (x.session.0 == s.0) && part_eq x.part p

none-flat : {X Y : Type 0} (q : Y → Bool) (f : X → List Y) → ((x : X) → list_any q (f x) ≡ false) → (xs : List X) → list_any q (flat_map f xs) ≡ false
none-flat q f none [] = refl
none-flat q f none (x ∷ xs) = any-append q (f x) (flat_map f xs) ∙ (λ i. none x i || none-flat q f none xs i)

some-flat : {Y : Type 0} (q : Y → Bool) (f : ℕ → List Y) (m : ℕ) → ((n : ℕ) → (n == m) ≡ true → list_any q (f n) ≡ true) → (ns : List ℕ) → list_any (λ n. n == m) ns ≡ true
    → list_any q (flat_map f ns) ≡ true
some-flat q f m some [] e = e
some-flat {Y} q f m some (n ∷ ns) e = any-append q (f n) (flat_map f ns) ∙ one (n == m) refl e (some-flat q f m some ns)
  where
    one : (b : Bool) → (n == m) ≡ b → (b || list_any (λ k. k == m) ns) ≡ true → (list_any (λ k. k == m) ns ≡ true → list_any q (flat_map f ns) ≡ true)
        → (list_any q (f n) || list_any q (flat_map f ns)) ≡ true
    one true is e rest = ap (λ (b : Bool). b || list_any q (flat_map f ns)) (some n is)
    one false is e rest = either (list_any q (f n)) (list_any q (flat_map f ns)) (rest e)
      where
        either : (a b : Bool) → b ≡ true → (a || b) ≡ true
        either true b e = refl
        either false b e = e

numbers-there : (a n m : ℕ) → a ≤ m → m < a + n → list_any (λ j. j == m) (numbers_from a n) ≡ true
numbers-there a zero m low high = absurd (omega (arith, low, high))
numbers-there a (suc n) m low high = one (a == m) refl (numbers-there (a + 1) n m)
  where
    one : (b : Bool) → (a == m) ≡ b → (a + 1 ≤ m → m < a + 1 + n → list_any (λ j. j == m) (numbers_from (a + 1) n) ≡ true) → (b || list_any (λ j. j == m) (numbers_from (a + 1) n)) ≡ true
    one true is rest = refl
    one false is rest = rest (above is) (omega (arith, high))
      where
        above : (a == m) ≡ false → a + 1 ≤ m
        above is = grind (arith, nat_tests, is, low)

none_at : (s : SessionId) (p q : PartId) → part_eq q p ≡ false → (live : List (SessionId × InstanceId)) → list_any (is_place s p) (places_at live q) ≡ false
none_at s p q ne [] = refl
none_at s p q ne (e ∷ live) = (λ i. both (e.0.0 == s.0) i || none_at s p q ne live i)
  where
    both : (a : Bool) → (a && part_eq q p) ≡ false
    both true = ne
    both false = refl

some_at : (s : SessionId) (p q : PartId) → part_eq q p ≡ true → (live : List (SessionId × InstanceId)) → is_shown live s ≡ true → list_any (is_place s p) (places_at live q) ≡ true
some_at s p q same [] e = e
some_at s p q same (x ∷ live) e = one (x.0.0 == s.0) e (some_at s p q same live)
  where
    one : (b : Bool) → (b || is_shown live s) ≡ true → (is_shown live s ≡ true → list_any (is_place s p) (places_at live q) ≡ true)
        → ((b && part_eq q p) || list_any (is_place s p) (places_at live q)) ≡ true
    one true e rest = ap (λ (b : Bool). b || list_any (is_place s p) (places_at live q)) same
    one false e rest = rest e

once_at : (c : Cluster) → IsSafe c → (s : SessionId) (p q : PartId) → count (is_place s p) (places_at (live_shown c) q) ≤ 1
once_at c safe s p q =
    let mapped = count-map (is_place s p) (place_on q) (live_shown c) in
    let less = count-le (λ (e : SessionId × InstanceId). is_place s p (place_on q e)) (λ (e : SessionId × InstanceId). e.0.0 == s.0) (λ e here. and-first (e.0.0 == s.0) (part_eq q p) here) (live_shown c) in
    omega (arith, mapped, less, sessions_once c safe.sessions.numbers s)

other_index : (n k : ℕ) (p : PartId) → (k == p.index) ≡ false → part_eq (record { resource = record { 0 = n }; index = k }) p ≡ false
other_index n k p ne = one (n == p.resource.0)
  where
    one : (a : Bool) → (a && (k == p.index)) ≡ false
    one true = ne
    one false = refl

other_resource : (n k : ℕ) (p : PartId) → (n == p.resource.0) ≡ false → part_eq (record { resource = record { 0 = n }; index = k }) p ≡ false
other_resource n k p ne = ap (λ (b : Bool). b && (k == p.index)) ne

at_most : (c : Cluster) → IsSafe c → (s : SessionId) (p : PartId) → count (is_place s p) (places_of c) ≤ 1
at_most c safe s p =
    pieces-once (is_place s p) (λ n. places_in (live_shown c) n (parts_of c.resources (record { 0 = n }))) p.resource.0
    (λ n ne. count-none (is_place s p) (places_in (live_shown c) n (parts_of c.resources (record { 0 = n })))
    (none-flat (is_place s p) (λ k. places_at (live_shown c) (record { resource = record { 0 = n }; index = k }))
    (λ k. none_at s p (record { resource = record { 0 = n }; index = k }) (other_resource n k p ne) (live_shown c)) (numbers_below (parts_of c.resources (record { 0 = n })))))
    (λ n at. pieces-once (is_place s p) (λ k. places_at (live_shown c) (record { resource = record { 0 = n }; index = k })) p.index
    (λ k ne. count-none (is_place s p) (places_at (live_shown c) (record { resource = record { 0 = n }; index = k }))
    (none_at s p (record { resource = record { 0 = n }; index = k }) (other_index n k p ne) (live_shown c)))
    (λ k here. once_at c safe s p (record { resource = record { 0 = n }; index = k }))
    (numbers_below (parts_of c.resources (record { 0 = n }))) (numbers-once (parts_of c.resources (record { 0 = n })) p.index))
    (numbers_below (length c.resources)) (numbers-once (length c.resources) p.resource.0)

get-low : {X : Type 0} (xs : List X) (n : ℕ) (x : X) → slice_get xs n ≡ Some x → n < length xs
get-low [] n x e = absurd (let both = e in cc)
get-low (y ∷ xs) zero x e = omega arith
get-low (y ∷ xs) (suc n) x e = let rest = get-low xs n x e in omega (arith, rest)

there : (c : Cluster) (p : PartId) → nat_lt p.index (parts_of c.resources p.resource) ≡ true → (p.resource.0 < length c.resources) × (p.index < parts_of c.resources p.resource)
there c p low = (one (resource_at c.resources p.resource) refl low, below low)
  where
    below : {a b : ℕ} → nat_lt a b ≡ true → a < b
    below e = grind (arith, nat_tests, e)

    one : (o : Option Resource) → resource_at c.resources p.resource ≡ o → nat_lt p.index (option_map_or (λ x. x.ideal.parts) o 0) ≡ true → p.resource.0 < length c.resources
    one None is e = absurd (grind (arith, nat_tests, e))
    one (Some r) is e = get-low c.resources p.resource.0 r is

number_same : (a b : ℕ) → (a == b) ≡ true → a ≡ b
number_same a b e = grind (arith, nat_tests, e)

at_least : (c : Cluster) (s : SessionId) (p : PartId) → is_live c.live s ≡ true → nat_lt p.index (parts_of c.resources p.resource) ≡ true → list_any (is_place s p) (places_of c) ≡ true
at_least c s p live low =
    some-flat (is_place s p) (λ n. places_in (live_shown c) n (parts_of c.resources (record { 0 = n }))) p.resource.0 of_resource (numbers_below (length c.resources))
    (numbers-there 0 (length c.resources) p.resource.0 (omega arith) (omega (arith, (there c p low).0)))
  where
    of_part : (n : ℕ) → (n == p.resource.0) ≡ true → (k : ℕ) → (k == p.index) ≡ true → list_any (is_place s p) (places_at (live_shown c) (record { resource = record { 0 = n }; index = k })) ≡ true
    of_part n at k here = some_at s p (record { resource = record { 0 = n }; index = k }) (λ i. at i && here i) (live_shown c) (shown_is_live c s ∙ live)

    of_resource : (n : ℕ) → (n == p.resource.0) ≡ true → list_any (is_place s p) (places_in (live_shown c) n (parts_of c.resources (record { 0 = n }))) ≡ true
    of_resource n at =
        let parts : parts_of c.resources (record { 0 = n }) ≡ parts_of c.resources p.resource = ap (λ (k : ℕ). parts_of c.resources (record { 0 = k })) (number_same n p.resource.0 at) in
        some-flat (is_place s p) (λ k. places_at (live_shown c) (record { resource = record { 0 = n }; index = k })) p.index (of_part n at) (numbers_below (parts_of c.resources (record { 0 = n })))
        (numbers-there 0 (parts_of c.resources (record { 0 = n })) p.index (omega arith) (omega (arith, (there c p low).1, parts)))

pub one_place : (c : Cluster) → IsSafe c → (s : SessionId) (p : PartId) → is_live c.live s ≡ true → nat_lt p.index (parts_of c.resources p.resource) ≡ true → count (is_place s p) (places_of c) ≡ 1
one_place c safe s p live low =
    let most = at_most c safe s p in
    let least = any-count (is_place s p) (places_of c) (at_least c s p live low) in
    omega (arith, most, least)
