-- The names of the instances that are read are names of the grammar, each once, and some.
use Rattle.std.proofs.Common.{◌≡◌, ℕ, ◌+◌, ◌≤◌, true, false, List, [], ◌∷◌, ◌++◌, length, length-append, Ok, refl, ap, subst, arith}
use Rattle.std.specs.Prelude.{◌==◌, codes}
use Rattle.std.specs.Str.{bytes_eq}
use Rattle.std.proofs.lemmas.Bool.Decides.{nat_tests}
use Rattle.serde_json.specs.Data.{Data, Members}
use Rattle.hx_lists.specs.Lists.{sort_by}
use Rattle.hx_text.specs.Spellings.{is_name}
use Rattle.hx_forms.specs.declared.faults.DescKind.TheVariants as kinds
use Rattle.hx_forms.specs.Found.{new_name_in, array_up_to, tested, read_all, required}
use Rattle.hx_forms.proofs.Chains.{then_ok, ok_same, passed, required_ok, array_few, keeps, counts}
use Rattle.hx_desc.specs.Description.{is_before, instance_name_in, instances_in}
use Rattle.hx_desc.proofs.Sorting.{all-sort_by, distinct-sort_by, length-sort_by}
use Rattle.hx_desc.proofs.Each.{distinct_passes}
use Rattle.hx_desc.proofs.Names.{AreNames, new_name, names-append}

name_kept : (before after : List (List ℕ)) (d : Data) → AreNames before → instance_name_in before d ≡ Ok after → AreNames after
name_kept before after d good is =
    let name = then_ok (new_name_in before d) _ after is in
    let new = new_name before d name.0 name.1 in
    subst (λ (names : List (List ℕ)). AreNames names) (ok_same (before ++ name.0 ∷ []) after name.2) (names-append before name.0 good new.is new.new)

name_longer : (before after : List (List ℕ)) (d : Data) → instance_name_in before d ≡ Ok after → length after ≡ length before + 1
name_longer before after d is =
    let name = then_ok (new_name_in before d) _ after is in
    omega (arith, ap length (ok_same (before ++ name.0 ∷ []) after name.2), length-append before (name.0 ∷ []))

pub record AreInstances (instances : List (List ℕ)) : Type 0 where
  pub names : AreNames instances
  pub some : (1 ≤ length instances) × (length instances ≤ 64)

sorted : (names : List (List ℕ)) → AreNames names → AreNames (sort_by is_before names)
sorted names good = record {
  each = all-sort_by (λ n. is_name n ≡ true) is_before names good.each;
  distinct = distinct-sort_by is_before names good.distinct;
}

pub instances_read : (members : Members) (instances : List (List ℕ)) → required (codes "instances") instances_in members ≡ Ok instances → AreInstances instances
instances_read members instances is =
    let read = required_ok (codes "instances") instances_in members instances is in
    let ds = then_ok (array_up_to 64 read.0) _ instances read.1 in
    let some = then_ok (tested ((length ds.0 == 0, kinds.TooFew) ∷ []) ds.0) _ instances ds.2 in
    let names = then_ok (read_all instance_name_in [] some.0) _ instances some.2 in
    let there = passed kinds.TooFew (length ds.0 == 0) (Ok ds.0) some.0 some.1 in
    let same = ap length (ok_same ds.0 some.0 there.1) in
    let few = array_few 64 read.0 ds.0 ds.1 in
    let many = counts length instance_name_in name_longer some.0 0 [] names.0 names.1 in
    let good = keeps (λ (ns : List (List ℕ)). AreNames ns) instance_name_in name_kept some.0 0 [] names.0 (record { each = tt; distinct = distinct_passes bytes_eq [] refl }) names.1 in
    subst (λ (ns : List (List ℕ)). AreInstances ns) (ok_same (sort_by is_before names.0) instances names.2)
    (record { names = sorted names.0 good; some = count (length ds.0) (length some.0) (length names.0) (length (sort_by is_before names.0)) there.0 few same many (length-sort_by is_before names.0) })
  where
    count : (n m k l : ℕ) → (n == 0) ≡ false → n ≤ 64 → n ≡ m → k ≡ 0 + m → l ≡ k → (1 ≤ l) × (l ≤ 64)
    count n m k l there few same many sorted = (grind (arith, nat_tests, there, same, many, sorted), omega (arith, few, same, many, sorted))
