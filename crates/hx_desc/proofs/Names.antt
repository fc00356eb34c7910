-- Names that are declared: names of the grammar, each once.
use Rattle.std.proofs.Common.{◌≡◌, ℕ, Bool, true, false, not, List, [], ◌∷◌, ◌++◌, Ok, refl, subst}
use Rattle.std.specs.Prelude.{if◌then◌else◌}
use Rattle.std.specs.List.{list_any, IsDistinct, AllByRecursion}
use Rattle.std.specs.Str.{bytes_eq}
use Rattle.serde_json.specs.Data.{Data}
use Rattle.hx_ids.specs.Names.{interned}
use Rattle.hx_text.specs.Spellings.{is_name}
use Rattle.hx_model.proofs.Named.{bytes_same}
use Rattle.hx_forms.specs.declared.faults.DescKind.TheVariants as kinds
use Rattle.hx_forms.specs.Found.{fault, text_in, new_name_in}
use Rattle.hx_forms.proofs.Chains.{then_ok, ok_same, passed}
use Rattle.hx_cluster.specs.Valid.{are_names}
use Rattle.hx_desc.proofs.Sorting.{flips}
use Rattle.hx_desc.proofs.Each.{each-append, each_test, both_true, distinct_once, distinct-append}

pub record AreNames (names : List (List ℕ)) : Type 0 where
  pub each : AllByRecursion (λ n. is_name n ≡ true) names
  pub distinct : IsDistinct bytes_eq names

pub valid_names : (names : List (List ℕ)) → AreNames names → are_names names ≡ true
valid_names names good =
    both_true _ _ (each_test (λ n. is_name n ≡ true) is_name (λ n is. is) names good.each) (distinct_once bytes_eq bytes_same flips names good.distinct)

pub names-append : (names : List (List ℕ)) (name : List ℕ) → AreNames names → is_name name ≡ true → list_any (bytes_eq name) names ≡ false → AreNames (names ++ name ∷ [])
names-append names name good is new = record {
  each = each-append (λ n. is_name n ≡ true) names name good.each is;
  distinct = distinct-append bytes_eq flips names name good.distinct new;
}

pub names-interned : (names : List (List ℕ)) (name : List ℕ) → AreNames names → is_name name ≡ true → AreNames (interned names name)
names-interned names name good is = one (list_any (bytes_eq name) names) refl
  where
    one : (b : Bool) → list_any (bytes_eq name) names ≡ b → AreNames (if b then names else names ++ name ∷ [])
    one true there = good
    one false new = names-append names name good is new

-- a name that was read is a new one
pub record IsNew (names : List (List ℕ)) (name : List ℕ) : Type 0 where
  pub is : is_name name ≡ true
  pub new : list_any (bytes_eq name) names ≡ false

pub yes : (b : Bool) → not b ≡ false → b ≡ true
yes true is = refl
yes false is = cc

pub new_name : (names : List (List ℕ)) (d : Data) (name : List ℕ) → new_name_in names d ≡ Ok name → IsNew names name
new_name names d name is =
    let text = then_ok (text_in d) _ name is in
    let spelt = passed kinds.BadName (not (is_name text.0)) (if list_any (bytes_eq text.0) names then fault kinds.Twice else Ok text.0) name text.2 in
    let new = passed kinds.Twice (list_any (bytes_eq text.0) names) (Ok text.0) name spelt.1 in
    subst (λ (n : List ℕ). IsNew names n) (ok_same text.0 name new.1) (record { is = yes (is_name text.0) spelt.0; new = new.0 })
