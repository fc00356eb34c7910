-- The failures that are read are valid.
use Rattle.std.proofs.Common.{◌≡◌, ℕ, ◌+◌, ◌<◌, ◌≤◌, Bool, true, false, not, List, [], ◌∷◌, ◌++◌, length, length-append, Option, None, Some, Ok, inl, inr, ap, subst, arith}
use Rattle.std.specs.Prelude.{◌&&◌, nat_lt, codes}
use Rattle.std.specs.List.{AllByRecursion}
use Rattle.std.proofs.lemmas.Bool.Decides.{nat_tests}
use Rattle.serde_json.specs.Data.{Data, Members}
use Rattle.hx_ids.specs.declared.PartId.{PartId}
use Rattle.hx_cluster.specs.declared.description.Resource.{Resource}
use Rattle.hx_cluster.specs.declared.description.Failure.{Failure}
use Rattle.hx_cluster.specs.Ends.{parts_of}
use Rattle.hx_forms.specs.declared.faults.DescKind.TheVariants as kinds
use Rattle.hx_forms.specs.Found.{whole_in, number_in, array_up_to, object_in, required, optional}
use Rattle.hx_forms.proofs.Chains.{then_ok, ok_same, passed, required_ok, optional_ok, number_range, array_few, keeps, counts}
use Rattle.hx_desc.specs.declared.tables.ResourceTable.{ResourceTable}
use Rattle.hx_desc.specs.ResourceForm.{instance_in}
use Rattle.hx_desc.specs.FailureForm.{resource_id_in, part_in, turn_in, turn_of, failed_part, failed_turn, failure_keys, failure_in, failures_in}
use Rattle.hx_cluster.specs.Valid.{is_within}
use Rattle.hx_desc.proofs.Each.{each-append}
use Rattle.hx_desc.proofs.Names.{yes}
use Rattle.hx_desc.proofs.ValidIdeals.{instance_range}
use Rattle.hx_desc.proofs.ValidRules.{in_bounds}

-- a failure of a part, on an instance
abbrev pub is_failure : ℕ → List Resource → Failure → Bool
is_failure instances resources f =
    nat_lt f.instance.0 instances && nat_lt f.part.index (parts_of resources f.part.resource) && is_within 1 1000000 f.number

part_read : (parts : ℕ) (d : Data) (index : ℕ) → part_in parts d ≡ Ok index → nat_lt index parts ≡ true
part_read parts d index is =
    let n = then_ok (whole_in d) _ index is in
    let there = passed kinds.NoPart (not (nat_lt n.0 parts)) (Ok n.0) index n.2 in
    subst (λ (i : ℕ). nat_lt i parts ≡ true) (ok_same n.0 index there.1) (yes (nat_lt n.0 parts) there.0)

abbrev IsTurn : Option ℕ → Type 0
IsTurn None = Unit {0}
IsTurn (Some n) = is_within 1 1000000 n ≡ true

turn_read : (name : List ℕ) (members : Members) (o : Option ℕ) → optional name None turn_in members ≡ Ok o → IsTurn o
turn_read name members o is = elim (optional_ok name None turn_in members o is) [
  | inl same ↦ subst IsTurn same tt
  | inr read ↦
      let n = then_ok (number_in 1 1000000 read.0) _ o read.1 in
      subst IsTurn (ok_same (Some n.0) o n.2) (in_bounds 1 1000000 n.0 (number_range 1 1000000 read.0 n.0 n.1))
]

turn_good : (run make : Option ℕ) (t : Bool × ℕ) → IsTurn run → IsTurn make → turn_of run make ≡ Ok t → is_within 1 1000000 t.1 ≡ true
turn_good (Some n) None t run_good make_good is = subst (λ (u : Bool × ℕ). is_within 1 1000000 u.1 ≡ true) (ok_same (false, n) t is) run_good
turn_good None (Some n) t run_good make_good is = subst (λ (u : Bool × ℕ). is_within 1 1000000 u.1 ≡ true) (ok_same (true, n) t is) make_good
turn_good None None t run_good make_good is = cc
turn_good (Some n) (Some m) t run_good make_good is = cc

below : (a b : ℕ) → a < b → nat_lt a b ≡ true
below a b lt = grind (arith, nat_tests)

abbrev IsPart : ResourceTable → PartId → Type 0
IsPart table part = nat_lt part.index (parts_of table.resources part.resource) ≡ true

failed_part_good : (table : ResourceTable) (members : Members) (part : PartId) → failed_part table members ≡ Ok part → IsPart table part
failed_part_good table members part is =
    let resource = then_ok (required (codes "resource") (resource_id_in table.names) members) _ part is in
    let index = then_ok (required (codes "part") (part_in (parts_of table.resources resource.0)) members) _ part resource.2 in
    let read = required_ok (codes "part") (part_in (parts_of table.resources resource.0)) members index.0 index.1 in
    subst (λ (p : PartId). IsPart table p) (ok_same (record { resource = resource.0; index = index.0 }) part index.2) (part_read (parts_of table.resources resource.0) read.0 index.0 read.1)

failed_turn_good : (members : Members) (turn : Bool × ℕ) → failed_turn members ≡ Ok turn → is_within 1 1000000 turn.1 ≡ true
failed_turn_good members turn is =
    let run = then_ok (optional (codes "run") None turn_in members) _ turn is in
    let make = then_ok (optional (codes "make") None turn_in members) _ turn run.2 in
    turn_good run.0 make.0 turn (turn_read (codes "run") members run.0 run.1) (turn_read (codes "make") members make.0 make.1) make.2

-- one more failure
record IsNext (instances : ℕ) (resources : List Resource) (before after : List Failure) : Type 0 where
  failure : Failure
  good : is_failure instances resources failure ≡ true
  same : before ++ failure ∷ [] ≡ after

next_failure : (instances : List (List ℕ)) (table : ResourceTable) (before after : List Failure) (d : Data) → failure_in instances table before d ≡ Ok after → IsNext (length instances) table.resources before after
next_failure instances table before after d is =
    let members = then_ok (object_in failure_keys d) _ after is in
    let instance = then_ok (required (codes "instance") (instance_in instances) members.0) _ after members.2 in
    let part = then_ok (failed_part table members.0) _ after instance.2 in
    let turn = then_ok (failed_turn members.0) _ after part.2 in
    let read = required_ok (codes "instance") (instance_in instances) members.0 instance.0 instance.1 in
    let on_instance = below instance.0.0 (length instances) (instance_range instances read.0 instance.0 read.1) in
    let of_part = failed_part_good table members.0 part.0 part.1 in
    record {
      failure = record { instance = instance.0; part = part.0; make = turn.0.0; number = turn.0.1 };
      good = rw (on_instance, of_part) (failed_turn_good members.0 turn.0 turn.1);
      same = ok_same _ after turn.2;
    }

failure_kept : (instances : List (List ℕ)) (table : ResourceTable) (before after : List Failure) (d : Data) → AllByRecursion (λ f. is_failure (length instances) table.resources f ≡ true) before → failure_in instances table before d ≡ Ok after
    → AllByRecursion (λ f. is_failure (length instances) table.resources f ≡ true) after
failure_kept instances table before after d good is =
    let next = next_failure instances table before after d is in
    subst (λ (fs : List Failure). AllByRecursion (λ f. is_failure (length instances) table.resources f ≡ true) fs) next.same
    (each-append (λ (f : Failure). is_failure (length instances) table.resources f ≡ true) before next.failure good next.good)

failure_longer : (instances : List (List ℕ)) (table : ResourceTable) (before after : List Failure) (d : Data) → failure_in instances table before d ≡ Ok after → length after ≡ length before + 1
failure_longer instances table before after d is =
    let next = next_failure instances table before after d is in
    omega (arith, ap length next.same, length-append before (next.failure ∷ []))

pub record AreFailures (instances : ℕ) (resources : List Resource) (failures : List Failure) : Type 0 where
  pub each : AllByRecursion (λ f. is_failure instances resources f ≡ true) failures
  pub few : length failures ≤ 1024

pub failures_read : (instances : List (List ℕ)) (table : ResourceTable) (members : Members) (failures : List Failure) → optional (codes "failures") [] (failures_in instances table) members ≡ Ok failures → AreFailures (length instances) table.resources failures
failures_read instances table members failures is = elim (optional_ok (codes "failures") [] (failures_in instances table) members failures is) [
  | inl same ↦ subst (λ (fs : List Failure). AreFailures (length instances) table.resources fs) same (record { each = tt; few = omega arith })
  | inr read ↦
      let ds = then_ok (array_up_to 1024 read.0) _ failures read.1 in
      let few = array_few 1024 read.0 ds.0 ds.1 in
      let many = counts length (failure_in instances table) (failure_longer instances table) ds.0 0 [] failures ds.2 in
      let good = keeps (λ (fs : List Failure). AllByRecursion (λ f. is_failure (length instances) table.resources f ≡ true) fs) (failure_in instances table) (failure_kept instances table) ds.0 0 [] failures tt ds.2 in
      record { each = good; few = up_to_1024 (length failures) (length ds.0) few many }
]
  where
    up_to_1024 : (n k : ℕ) → k ≤ 1024 → n ≡ 0 + k → n ≤ 1024
    up_to_1024 n k few many = omega (arith, few, many)
