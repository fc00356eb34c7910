-- The rules that are read are valid.
use Rattle.std.proofs.Common.{◌≡◌, ℕ, ◌+◌, ◌<◌, ◌≤◌, true, false, List, [], ◌∷◌, ◌++◌, length, length-append, Option, None, Some, Ok, inl, inr, refl, ap, subst, arith}
use Rattle.std.specs.Prelude.{◌==◌, nat_lt, nat_le, codes}
use Rattle.std.specs.List.{list_all, AllByRecursion}
use Rattle.std.specs.Option.{option_map_or}
use Rattle.std.proofs.lemmas.Bool.Decides.{nat_tests}
use Rattle.serde_json.specs.Data.{Data, Members}
use Rattle.hx_ids.specs.declared.StateId.{StateId}
use Rattle.hx_model.specs.Model.{error, dropped}
use Rattle.hx_cluster.specs.declared.description.Rule.{Rule}
use Rattle.hx_forms.specs.declared.faults.DescKind.TheVariants as kinds
use Rattle.hx_forms.specs.Found.{place_in, number_in, array_up_to, object_in, required, optional}
use Rattle.hx_forms.proofs.Chains.{then_ok, ok_same, passed, required_ok, optional_ok, number_range, place_range, array_few, keeps, counts}
use Rattle.hx_desc.specs.RuleForm.{scope_in, end_in, transition_of, rule_in, rules_in}
use Rattle.hx_cluster.specs.Valid.{is_within, is_counted_transition, is_valid_rule}
use Rattle.hx_desc.proofs.Each.{each-append, each_test, both_true}

pub in_bounds : (least most n : ℕ) → (least ≤ n) × (n ≤ most) → is_within least most n ≡ true
in_bounds least most n range = both_true _ _ (at_most least n range.0) (at_most n most range.1)
  where
    at_most : (a b : ℕ) → a ≤ b → nat_le a b ≡ true
    at_most a b le = grind (arith, nat_tests)

-- an end: a state with a name, and not the one that is no such end
abbrev IsEnd : ℕ → StateId → Option StateId → Type 0
IsEnd n never None = Unit {0}
IsEnd n never (Some s) = (nat_lt s.0 n ≡ true) × ((s.0 == never.0) ≡ false)

end_read : (states : List (List ℕ)) (never : StateId) (d : Data) (o : Option StateId) → end_in states never d ≡ Ok o → IsEnd (length states) never o
end_read states never d o is =
    let place = then_ok (place_in kinds.UnknownState states d) _ o is in
    let other = passed kinds.UnknownState (place.0 == never.0) (Ok (Some (record { 0 = place.0 }))) o place.2 in
    let range = place_range kinds.UnknownState states d place.0 place.1 in
    subst (λ (e : Option StateId). IsEnd (length states) never e) (ok_same (Some (record { 0 = place.0 })) o other.1) (below place.0 (length states) range, other.0)
  where
    below : (a b : ℕ) → a < b → nat_lt a b ≡ true
    below a b lt = grind (arith, nat_tests)

end_there : (name : List ℕ) (states : List (List ℕ)) (never : StateId) (members : Members) (o : Option StateId) → optional name None (end_in states never) members ≡ Ok o → IsEnd (length states) never o
end_there name states never members o is = elim (optional_ok name None (end_in states never) members o is) [
  | inl same ↦ subst (λ (e : Option StateId). IsEnd (length states) never e) same tt
  | inr read ↦ end_read states never read.0 o read.1
]

counted : (n : ℕ) (from to : Option StateId) (t : Option (StateId × StateId)) → IsEnd n dropped from → IsEnd n error to → transition_of from to ≡ Ok t → option_map_or (is_counted_transition n) t true ≡ true
counted n None None t from_good to_good is = subst (λ (u : Option (StateId × StateId)). option_map_or (is_counted_transition n) u true ≡ true) (ok_same None t is) refl
counted n (Some from) (Some to) t from_good to_good is =
    subst (λ (u : Option (StateId × StateId)). option_map_or (is_counted_transition n) u true ≡ true) (ok_same (Some (from, to)) t is)
    (rw (from_good.0, to_good.0, from_good.1, to_good.1) refl)
counted n None (Some to) t from_good to_good is = cc
counted n (Some from) None t from_good to_good is = cc

-- one more rule
record IsNext (states : ℕ) (before after : List Rule) : Type 0 where
  rule : Rule
  good : is_valid_rule states rule ≡ true
  same : before ++ rule ∷ [] ≡ after

next_rule : (states : List (List ℕ)) (before after : List Rule) (d : Data) → rule_in states before d ≡ Ok after → IsNext (length states) before after
next_rule states before after d is =
    let members = then_ok (object_in (codes "scope" ∷ codes "limit" ∷ codes "from" ∷ codes "to" ∷ []) d) _ after is in
    let scope = then_ok (required (codes "scope") scope_in members.0) _ after members.2 in
    let limit = then_ok (required (codes "limit") (number_in 1 65535) members.0) _ after scope.2 in
    let from = then_ok (optional (codes "from") None (end_in states dropped) members.0) _ after limit.2 in
    let to = then_ok (optional (codes "to") None (end_in states error) members.0) _ after from.2 in
    let transition = then_ok (transition_of from.0 to.0) _ after to.2 in
    let read = required_ok (codes "limit") (number_in 1 65535) members.0 limit.0 limit.1 in
    let limited = in_bounds 1 65535 limit.0 (number_range 1 65535 read.0 limit.0 read.1) in
    let ends = counted (length states) from.0 to.0 transition.0 (end_there (codes "from") states dropped members.0 from.0 from.1) (end_there (codes "to") states error members.0 to.0 to.1) transition.1 in
    record {
      rule = record { scope = scope.0; transition = transition.0; limit = limit.0 };
      good = both_true _ _ limited ends;
      same = ok_same _ after transition.2;
    }

rule_kept : (states : List (List ℕ)) (before after : List Rule) (d : Data) → AllByRecursion (λ r. is_valid_rule (length states) r ≡ true) before → rule_in states before d ≡ Ok after → AllByRecursion (λ r. is_valid_rule (length states) r ≡ true) after
rule_kept states before after d good is =
    let next = next_rule states before after d is in
    subst (λ (rules : List Rule). AllByRecursion (λ r. is_valid_rule (length states) r ≡ true) rules) next.same
    (each-append (λ (r : Rule). is_valid_rule (length states) r ≡ true) before next.rule good next.good)

rule_longer : (states : List (List ℕ)) (before after : List Rule) (d : Data) → rule_in states before d ≡ Ok after → length after ≡ length before + 1
rule_longer states before after d is =
    let next = next_rule states before after d is in
    omega (arith, ap length next.same, length-append before (next.rule ∷ []))

pub record AreRules (states : ℕ) (rules : List Rule) : Type 0 where
  pub each : list_all (is_valid_rule states) rules ≡ true
  pub few : length rules ≤ 16

pub rules_read : (states : List (List ℕ)) (members : Members) (rules : List Rule) → optional (codes "throttles") [] (rules_in states) members ≡ Ok rules → AreRules (length states) rules
rules_read states members rules is = elim (optional_ok (codes "throttles") [] (rules_in states) members rules is) [
  | inl same ↦ subst (λ (rs : List Rule). AreRules (length states) rs) same (record { each = refl; few = omega arith })
  | inr read ↦
      let ds = then_ok (array_up_to 16 read.0) _ rules read.1 in
      let few = array_few 16 read.0 ds.0 ds.1 in
      let many = counts length (rule_in states) (rule_longer states) ds.0 0 [] rules ds.2 in
      let good = keeps (λ (rs : List Rule). AllByRecursion (λ r. is_valid_rule (length states) r ≡ true) rs) (rule_in states) (rule_kept states) ds.0 0 [] rules tt ds.2 in
      record { each = each_test (λ (r : Rule). is_valid_rule (length states) r ≡ true) (is_valid_rule (length states)) (λ r is. is) rules good; few = up_to_16 (length rules) (length ds.0) few many }
]
  where
    up_to_16 : (n k : ℕ) → k ≤ 16 → n ≡ 0 + k → n ≤ 16
    up_to_16 n k few many = omega (arith, few, many)
