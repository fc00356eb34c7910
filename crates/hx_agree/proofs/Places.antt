-- Tests at each part of a board.
use Rattle.std.proofs.Common.{◌≡◌, ℕ, zero, suc, ◌<◌, Bool, true, List, [], ◌∷◌, length, arith}
use Rattle.std.specs.Prelude.{nat_lt}
use Rattle.std.proofs.lemmas.Bool.Decides.{nat_tests}
use Rattle.hx_ids.specs.declared.PartId.{PartId}
use Rattle.hx_ids.specs.Words.{resource, part}
use Rattle.hx_cluster.specs.declared.description.Resource.{Resource}
use Rattle.hx_cluster.specs.declared.state.Cluster.{Cluster}
use Rattle.hx_cluster.specs.Ends.{parts_of}
use Rattle.hx_cluster.specs.Events.{has_part}
use Rattle.hx_agree.specs.Tests.{at_each_of, at_each_part}
use Rattle.hx_agree.proofs.Below.{all_below, below_all}

-- a resource that has a part is there
there : (xs : List Resource) (r i : ℕ) → nat_lt i (parts_of xs (resource r)) ≡ true → r < length xs
there [] r i e = grind (arith, nat_tests, e)
there (x ∷ xs) zero i e = omega arith
there (x ∷ xs) (suc r) i e = let rest = there xs r i e in omega arith

module _ (c : Cluster) (test : PartId → Bool) where
  pub at_part : at_each_part c test ≡ true → (q : PartId) → has_part c q ≡ true → test q ≡ true
  at_part e q has =
      let some : q.resource.0 < length c.resources = there c.resources q.resource.0 q.index has in
      let index : q.index < parts_of c.resources q.resource = grind (arith, nat_tests, has) in
      all_below (λ n. test (part q.resource.0 n)) (parts_of c.resources q.resource)
      (all_below (at_each_of c test) (length c.resources) e q.resource.0 some) q.index index

  pub each_part : ((q : PartId) → has_part c q ≡ true → test q ≡ true) → at_each_part c test ≡ true
  each_part h =
      below_all (at_each_of c test) (length c.resources)
      (λ r lt. below_all (λ n. test (part r n)) (parts_of c.resources (resource r)) (λ n less. h (part r n) (within n (parts_of c.resources (resource r)) less)))
    where
      within : (n m : ℕ) → n < m → nat_lt n m ≡ true
      within n m lt = grind (arith, nat_tests, lt)
