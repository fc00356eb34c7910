-- What a test leaves of lists that are made of others.
use Rattle.std.proofs.Common.{◌≡◌, ◌∙◌, Bool, true, false, cond, List, [], ◌∷◌, ◌++◌, refl, sym, ap, arith}
use Rattle.std.specs.Prelude.{filter, map, Option, None, Some, if◌then◌else◌}
use Rattle.std.specs.List.{filter_map, cons_option, flat_map, fold}
use Rattle.std.proofs.lemmas.List.{append-nil}
use Rattle.std.proofs.lemmas.List.Elements.{filter-append}
use Rattle.hx_lists.specs.Choices.{with_chosen, chosen_of}

-- a test behind a wider one
pub filter-wider : {X : Type 0} (p q : X → Bool) → ((x : X) → p x ≡ true → q x ≡ true) → (xs : List X) → filter p (filter q xs) ≡ filter p xs
filter-wider p q wide [] = refl
filter-wider p q wide (x ∷ xs) = grind (arith, filter-wider p q wide xs, wide x)

-- and behind one that leaves none of what passes
pub filter-other : {X : Type 0} (p q : X → Bool) → ((x : X) → p x ≡ true → q x ≡ false) → (xs : List X) → filter p (filter q xs) ≡ []
filter-other p q other [] = refl
filter-other p q other (x ∷ xs) = grind (arith, filter-other p q other xs, other x)

-- two rules that agree at each item
pub map-agree : {X Y : Type 0} (f g : X → Y) → ((x : X) → f x ≡ g x) → (xs : List X) → map f xs ≡ map g xs
map-agree f g same [] = refl
map-agree f g same (x ∷ xs) = rw (same x, map-agree f g same xs) refl

-- what passes of what a rule makes is made of what passes
pub filter-map : {X Y : Type 0} (q : Y → Bool) (f : X → Y) (xs : List X) → filter q (map f xs) ≡ map f (filter (λ x. q (f x)) xs)
filter-map q f [] = refl
filter-map q f (x ∷ xs) = grind (arith, filter-map q f xs)

-- where nothing that a rule makes passes
pub filter-map_none : {X Y : Type 0} (q : Y → Bool) (f : X → Y) → ((x : X) → q (f x) ≡ false) → (xs : List X) → filter q (map f xs) ≡ []
filter-map_none q f none [] = refl
filter-map_none q f none (x ∷ xs) = grind (arith, none x, filter-map_none q f none xs)

-- lists that agree behind a test, one after another
pub filter-flat_map : {X Y : Type 0} (q : Y → Bool) (f g : X → List Y) → ((x : X) → filter q (f x) ≡ filter q (g x)) → (xs : List X) → filter q (flat_map f xs) ≡ filter q (flat_map g xs)
filter-flat_map q f g same [] = refl
filter-flat_map {Y = Y} q f g same (x ∷ xs) =
    filter-append q (f x) (flat_map f xs) ∙ ap (λ (ys : List Y). ys ++ filter q (flat_map f xs)) (same x)
    ∙ ap (λ (ys : List Y). filter q (g x) ++ ys) (filter-flat_map q f g same xs) ∙ sym (filter-append q (g x) (flat_map g xs))

-- where what is made of an item passes exactly if the item does, and another rule makes the same of an item that passes
module _ {X Y : Type 0} (f g : X → Option Y) (p : X → Bool) (q : Y → Bool) (kept : (x : X) (y : Y) → f x ≡ Some y → q y ≡ p x) (same : (x : X) → p x ≡ true → f x ≡ g x) where
  pub filter-filter_map : (xs : List X) → filter q (filter_map f xs) ≡ filter_map g (filter p xs)
  filter-filter_map [] = refl
  filter-filter_map (x ∷ xs) = one (f x) (kept x) refl (p x) refl (filter-filter_map xs)
    where
      one : (o : Option Y) → ((y : Y) → o ≡ Some y → q y ≡ p x) → f x ≡ o → (b : Bool) → p x ≡ b → filter q (filter_map f xs) ≡ filter_map g (filter p xs)
          → filter q (cons_option o (filter_map f xs)) ≡ filter_map g (cond b (x ∷ filter p xs) (filter p xs))
      one None own is true e more = more ∙ ap (λ (o : Option Y). cons_option o (filter_map g (filter p xs))) (sym is ∙ same x e)
      one None own is false e more = more
      one (Some y) own is true e more =
          ap (λ (b : Bool). cond b (y ∷ filter q (filter_map f xs)) (filter q (filter_map f xs))) (own y refl ∙ e)
          ∙ ap (λ (ys : List Y). y ∷ ys) more ∙ ap (λ (o : Option Y). cons_option o (filter_map g (filter p xs))) (sym is ∙ same x e)
      one (Some y) own is false e more =
          ap (λ (b : Bool). cond b (y ∷ filter q (filter_map f xs)) (filter q (filter_map f xs))) (own y refl ∙ e) ∙ more

-- where an item that passes is taken as another rule takes it beside those of the chosen items that pass
module _ {X : Type 0} (takes also : List X → X → Bool) (q : X → Bool) (same : (chosen : List X) (x : X) → q x ≡ true → takes chosen x ≡ also (filter q chosen) x) where
  one_more : (chosen : List X) (x : X) (b : Bool) → q x ≡ b → filter q (with_chosen takes chosen x) ≡ (if b then with_chosen also (filter q chosen) x else filter q chosen)
  one_more chosen x true is =
      filter-append q chosen (if takes chosen x then x ∷ [] else [])
      ∙ ap (λ (ys : List X). filter q chosen ++ ys) (two (takes chosen x)) ∙ ap (λ (c : Bool). filter q chosen ++ (if c then x ∷ [] else [])) (same chosen x is)
    where
      two : (c : Bool) → filter q (if c then x ∷ [] else []) ≡ (if c then x ∷ [] else [])
      two true = rw is refl
      two false = refl
  one_more chosen x false is =
      filter-append q chosen (if takes chosen x then x ∷ [] else []) ∙ ap (λ (ys : List X). filter q chosen ++ ys) (two (takes chosen x)) ∙ append-nil (filter q chosen)
    where
      two : (c : Bool) → filter q (if c then x ∷ [] else []) ≡ []
      two true = rw is refl
      two false = refl

  filter-fold : (chosen xs : List X) → filter q (fold (with_chosen takes) chosen xs) ≡ fold (with_chosen also) (filter q chosen) (filter q xs)
  filter-fold chosen [] = refl
  filter-fold chosen (x ∷ xs) = filter-fold (with_chosen takes chosen x) xs ∙ one (q x) (one_more chosen x (q x) refl)
    where
      one : (b : Bool) → filter q (with_chosen takes chosen x) ≡ (if b then with_chosen also (filter q chosen) x else filter q chosen)
          → fold (with_chosen also) (filter q (with_chosen takes chosen x)) (filter q xs) ≡ fold (with_chosen also) (filter q chosen) (cond b (x ∷ filter q xs) (filter q xs))
      one true e = ap (λ (ys : List X). fold (with_chosen also) ys (filter q xs)) e
      one false e = ap (λ (ys : List X). fold (with_chosen also) ys (filter q xs)) e

  pub filter-chosen : (xs : List X) → filter q (chosen_of takes xs) ≡ chosen_of also (filter q xs)
  filter-chosen xs = filter-fold [] xs
