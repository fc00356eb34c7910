-- A list to which the items of a walk are added.
use Rattle.std.proofs.Common.{◌≡◌, ℕ, ◌≤◌, ◌++◌, List, [], ◌∷◌, length, take, Option, refl, sym, ap, ◌∙◌, arith}
use Rattle.std.specs.List.{filter_map, cons_option}
use Rattle.std.proofs.Math.Seq.{take-length}
use Rattle.std.proofs.lemmas.List.{append_assoc, append-nil, take-append-le, length-append}

-- a list that held some items, so many, lacks the rest of those that it is to get
abbrev pub IsGrowing : {X : Type 0} → ℕ → List X → List X → List X → List X → Type 0
IsGrowing before old now rest all = (before ≤ length now) × (take before now ≡ old) × (now ++ rest ≡ old ++ all)

pub grows : {X : Type 0} (before : ℕ) (old rest all : List X) → before ≡ length old → rest ≡ all → IsGrowing before old old rest all
grows before old rest all is same = (omega (arith, is), rw is (take-length old), ap (λ xs. old ++ xs) same)

pub grows_by : {X : Type 0} (x : X) (before : ℕ) (old now new rest left all : List X) → IsGrowing before old now rest all → rest ≡ x ∷ left → new ≡ now ++ x ∷ [] → IsGrowing before old new left all
grows_by x before old now new rest left all growing step is = rw is (
  omega (arith, growing.0, length-append now (x ∷ [])),
  take-append-le before now (x ∷ []) growing.0 ∙ growing.1,
  append_assoc now (x ∷ []) left ∙ ap (λ xs. now ++ xs) (sym step) ∙ growing.2,
)

pub grows_on : {X : Type 0} (before : ℕ) (old now rest left all : List X) → IsGrowing before old now rest all → rest ≡ left → IsGrowing before old now left all
grows_on before old now rest left all growing step = (growing.0, growing.1, ap (λ xs. now ++ xs) (sym step) ∙ growing.2)

pub has_grown : {X : Type 0} (before : ℕ) (old now rest all : List X) → IsGrowing before old now rest all → rest ≡ [] → now ≡ old ++ all
has_grown before old now rest all growing end = sym (append-nil now) ∙ ap (λ xs. now ++ xs) (sym end) ∙ growing.2

-- what is left once an item is passed
pub passed : {X Y : Type 0} (f : X → Option Y) (x : X) (o : Option Y) (xs ys : List X) → xs ≡ x ∷ ys → f x ≡ o → filter_map f xs ≡ cons_option o (filter_map f ys)
passed f x o xs ys step is = rw (step, is) refl
