-- What the gate asks of the numbers.
use Rattle.std.proofs.Common.{◌≡◌, ℕ, suc, ◌+◌, ◌&&◌, not, Bool, false, List, [], ◌∷◌, Option, Some, None, refl, sym, ap, ◌∙◌, subst, arith}
use Rattle.std.specs.Prelude.{if◌then◌else◌, slice_get, nat_le}
use Rattle.hx_ids.specs.declared.StateId.{StateId}
use Rattle.hx_ids.specs.declared.InstanceId.{InstanceId}
use Rattle.hx_ids.specs.declared.SessionId.{SessionId}
use Rattle.hx_ids.specs.declared.PartId.{PartId}
use Rattle.hx_ids.specs.declared.Live.{Live}
use Rattle.hx_model.specs.declared.Bound.{Bound}
use Rattle.hx_model.specs.declared.Bound.TheVariants.{Count, Replicas, Live as LiveBound, Free}
use Rattle.hx_model.specs.Model.{bound_of, limit_of}
use Rattle.hx_counts.specs.Tally.{Numbers, ends_of, loads_of}
use Rattle.hx_cluster.specs.declared.description.Rule.{Rule}
use Rattle.hx_cluster.specs.declared.description.Scope.{Scope}
use Rattle.hx_cluster.specs.declared.description.Scope.TheVariants as scopes
use Rattle.hx_cluster.specs.declared.state.Cluster.{Cluster}
use Rattle.hx_cluster.specs.declared.happenings.Proposal.{Proposal}
use Rattle.hx_cluster.specs.declared.happenings.Placed.{Placed}
use Rattle.hx_cluster.specs.declared.happenings.Placed.TheVariants as placings
use Rattle.hx_cluster.specs.Ends.{shown_of, count_of, model_of, limit_at, matches, key_of, load_of}
use Rattle.hx_cluster.specs.Messages.{proposal_load, throttled_from, bounded}
use Rattle.hx_safe.proofs.Throttles.{instance_on, key-on}
use Rattle.hx_safe.proofs.Throttles as throttles
use Rattle.hx_slots.specs.Tallies.{is_free, key_on, load_at, IsCounted, throttled_by, bounded_by}

-- a state that has a limit is counted
limited : (b : Bound) (replicas live limit : ℕ) → limit_of b replicas live ≡ Some limit → is_free b ≡ false
limited (Count n) replicas live limit e = refl
limited Replicas replicas live limit e = refl
limited LiveBound replicas live limit e = refl
limited Free replicas live limit e = cc

pub ends_kept : (c : Cluster) (k : Numbers) (p : PartId) (t : StateId) (limit : ℕ) → IsCounted c k → limit_at c p t ≡ Some limit → ends_of k p t ≡ count_of c p t
ends_kept c k p t limit old e =
    let b = bound_of (model_of c.models c.resources p.resource) t in
    let counts = limited b _ _ limit e in
    old.ends p t ∙ ap (λ (x : Bool). if not x then count_of c p t else 0) counts

-- and the load of each rule
pub loads_kept : (c : Cluster) (k : Numbers) (n : ℕ) (r : Rule) (key : ℕ) → IsCounted c k → slice_get c.rules n ≡ Some r → loads_of k n key ≡ load_of c r key
loads_kept c k n r key old at = old.loads n key ∙ ap (λ (o : Option Rule). load_at c o key) at

-- the key of a proposal is that of its session's instance
key-its : (scope : Scope) (i : InstanceId) (p : PartId) → throttles.key_on scope (Some i) p ≡ key_on scope i p
key-its scopes.Cluster i p = refl
key-its scopes.Instance i p = refl
key-its scopes.Resource i p = refl

pub key_its : (live : List Live) (scope : Scope) (s : SessionId) (i : InstanceId) (p : PartId) → instance_on live s ≡ Some i → key_of scope (shown_of live) s p ≡ key_on scope i p
key_its live scope s i p at = key-on scope live s p ∙ ap (λ (o : Option InstanceId). throttles.key_on scope o p) at ∙ key-its scope i p

pub load_its : (c : Cluster) (k : Numbers) (q : Proposal) (i : InstanceId) (n : ℕ) (r : Rule) → IsCounted c k → instance_on c.live q.session ≡ Some i → slice_get c.rules n ≡ Some r
    → loads_of k n (key_on r.scope i q.part) ≡ proposal_load c q r
load_its c k q i n r old at here = loads_kept c k n r (key_on r.scope i q.part) old here ∙ ap (load_of c r) (sym (key_its c.live r.scope q.session i q.part at))

-- so the kept loads give the gate's answer
pub throttled_same : (c : Cluster) (k : Numbers) (q : Proposal) (i : InstanceId) (n : ℕ) (rules : List Rule) → IsCounted c k → instance_on c.live q.session ≡ Some i
    → ((j : ℕ) (r : Rule) → slice_get rules j ≡ Some r → slice_get c.rules (n + j) ≡ Some r)
    → throttled_by k (record { 0 = c.next_msg }) i q n rules ≡ throttled_from c q n rules
throttled_same c k q i n [] old at here = refl
throttled_same c k q i n (r ∷ rules) old at here =
    one _ _ (load_its c k q i n r old at (subst (λ (x : ℕ). slice_get c.rules x ≡ Some r) zero_more (here 0 r refl)))
    ∙ ap (λ (rest : Placed). if matches r q.from q.to && nat_le r.limit (proposal_load c q r) then placings.OverThrottle n (proposal_load c q r) r.limit else rest)
    (throttled_same c k q i (n + 1) rules old at (λ j x e. subst (λ (y : ℕ). slice_get c.rules y ≡ Some x) (more j) (here (suc j) x e)))
  where
    zero_more : n + 0 ≡ n
    zero_more = omega arith

    more : (j : ℕ) → n + suc j ≡ n + 1 + j
    more j = omega arith

    one : (x y : ℕ) → x ≡ y
        → (if matches r q.from q.to && nat_le r.limit x then placings.OverThrottle n x r.limit else throttled_by k (record { 0 = c.next_msg }) i q (n + 1) rules)
        ≡ (if matches r q.from q.to && nat_le r.limit y then placings.OverThrottle n y r.limit else throttled_by k (record { 0 = c.next_msg }) i q (n + 1) rules)
    one x y e = ap (λ (z : ℕ). if matches r q.from q.to && nat_le r.limit z then placings.OverThrottle n z r.limit else throttled_by k (record { 0 = c.next_msg }) i q (n + 1) rules) e

pub throttled_kept : (c : Cluster) (k : Numbers) (q : Proposal) (i : InstanceId) → IsCounted c k → instance_on c.live q.session ≡ Some i
    → throttled_by k (record { 0 = c.next_msg }) i q 0 c.rules ≡ throttled_from c q 0 c.rules
throttled_kept c k q i old at = throttled_same c k q i 0 c.rules old at (λ j r e. subst (λ (x : ℕ). slice_get c.rules x ≡ Some r) (none j) e)
  where
    none : (j : ℕ) → j ≡ 0 + j
    none j = omega arith

pub bounded_kept : (c : Cluster) (k : Numbers) (q : Proposal) (i : InstanceId) → IsCounted c k → instance_on c.live q.session ≡ Some i
    → bounded_by k (record { 0 = c.next_msg }) i q c.rules (limit_at c q.part q.to) ≡ bounded c q (limit_at c q.part q.to)
bounded_kept c k q i old at = one (limit_at c q.part q.to) refl
  where
    rest : throttled_by k (record { 0 = c.next_msg }) i q 0 c.rules ≡ throttled_from c q 0 c.rules
    rest = throttled_kept c k q i old at

    one : (o : Option ℕ) → limit_at c q.part q.to ≡ o → bounded_by k (record { 0 = c.next_msg }) i q c.rules o ≡ bounded c q o
    one None is = rest
    one (Some limit) is =
        let count = ends_kept c k q.part q.to limit old is in
        ap (λ (x : ℕ). if nat_le limit x then placings.OverBound x limit else throttled_by k (record { 0 = c.next_msg }) i q 0 c.rules) count
        ∙ ap (λ (x : Placed). if nat_le limit (count_of c q.part q.to) then placings.OverBound (count_of c q.part q.to) limit else x) rest
