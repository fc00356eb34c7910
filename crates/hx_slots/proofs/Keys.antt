-- Keys of slots stand as rows do.
use Rattle.std.proofs.Common.{◌≡◌, ℕ, ◌<◌, ◌+◌, ◌*◌, Bool, true, false, refl, ap, arith}
use Rattle.std.specs.Prelude.{◌==◌, ◌&&◌, ◌||◌, nat_lt}
use Rattle.std.proofs.lemmas.Bool.{eqb-true}
use Rattle.std.proofs.lemmas.Bool.Decides.{nat_tests}
use Rattle.hx_ids.specs.declared.SessionId.{SessionId}
use Rattle.hx_ids.specs.declared.PartId.{PartId}
use Rattle.hx_cluster.specs.Ends.{part_eq, part_before}
use Rattle.hx_slots.specs.Slots.{slot_key, IsPlaced}

-- of numbers
before_by : (s r i t q j : ℕ) → r < 256 → i < 1024 → q < 256 → j < 1024
    → nat_lt (s * 262144 + r * 1024 + i) (t * 262144 + q * 1024 + j) ≡ (nat_lt s t || ((s == t) && (nat_lt r q || ((r == q) && nat_lt i j))))
before_by s r i t q j a b c d = grind (arith, nat_tests)

same_by : (s r i t q j : ℕ) → r < 256 → i < 1024 → q < 256 → j < 1024
    → ((t * 262144 + q * 1024 + j) == (s * 262144 + r * 1024 + i)) ≡ ((s == t) && ((r == q) && (i == j)))
same_by s r i t q j a b c d = grind (arith, nat_tests)

pub key_before : (s t : SessionId) (p q : PartId) → IsPlaced s p → IsPlaced t q → nat_lt (slot_key s p) (slot_key t q) ≡ (nat_lt s.0 t.0 || ((s.0 == t.0) && part_before p q))
key_before s t p q a b = before_by s.0 p.resource.0 p.index t.0 q.resource.0 q.index a.resource a.index b.resource b.index

pub key_same : (s t : SessionId) (p q : PartId) → IsPlaced s p → IsPlaced t q → (slot_key t q == slot_key s p) ≡ ((s.0 == t.0) && part_eq p q)
key_same s t p q a b = same_by s.0 p.resource.0 p.index t.0 q.resource.0 q.index a.resource a.index b.resource b.index

pub key_small : (s : SessionId) (p : PartId) → IsPlaced s p → slot_key s p < 18446744073709551615
key_small s p placed =
    let a : s.0 < 549755813888 = placed.session in
    let b : p.resource.0 < 256 = placed.resource in
    let c : p.index < 1024 = placed.index in
    omega arith

pub both : (a b : Bool) → (a && b) ≡ true → (a ≡ true) × (b ≡ true)
both true true h = (refl, refl)
both true false h = cc
both false b h = cc

pub and_false : (b : Bool) → (b && false) ≡ false
and_false true = refl
and_false false = refl

pub eq_turned : (a b : ℕ) → (a == b) ≡ (b == a)
eq_turned a b = grind (arith, nat_tests)

-- one with the key of a session's part is of that part
pub same_session : (s t : SessionId) → s.0 ≡ t.0 → s ≡ t
same_session s t h = ap (λ (n : ℕ). record { 0 = n }) h

pub same_part : (p q : PartId) → p.resource.0 ≡ q.resource.0 → p.index ≡ q.index → p ≡ q
same_part p q h i = λ j. record { resource = record { 0 = h j }; index = i j }

pub of_part : (s t : SessionId) (p q : PartId) → ((t.0 == s.0) && part_eq q p) ≡ true → (t ≡ s) × (q ≡ p)
of_part s t p q h =
    let a = both (t.0 == s.0) (part_eq q p) h in
    let b = both (q.resource.0 == p.resource.0) (q.index == p.index) a.1 in
    (same_session t s (eqb-true t.0 s.0 a.0), same_part q p (eqb-true q.resource.0 p.resource.0 b.0) (eqb-true q.index p.index b.1))
