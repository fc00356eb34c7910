-- Counting by keys, and what was chosen before an item.
use Rattle.std.proofs.Common.{◌≡◌, ℕ, ◌+◌, ◌≤◌, ◌&&◌, ◌||◌, not, Bool, true, false, List, [], ◌∷◌, ◌++◌, append_assoc, length, length-append, refl, sym, ap, ◌∙◌, arith}
use Rattle.std.specs.Prelude.{if◌then◌else◌, nat_le}
use Rattle.std.specs.List.{list_any, list_all, fold}
use Rattle.std.proofs.lemmas.Bool.Decides.{nat_tests}
use Rattle.hx_lists.specs.Lists.{count}
use Rattle.hx_lists.specs.Choices.{with_chosen, chosen_of}
use Rattle.hx_safe.proofs.Counting.{and-first, and-second, and-both}

-- whether an item of the second list passes its test and answers to an item of the first
abbrev pub answers : {X Y : Type 0} → (X → Y → Bool) → (Y → Bool) → List Y → X → Bool
answers same q ys x = list_any (λ y. q y && same x y) ys

-- an item of a list passes both tests at its head, or some item does behind it
pub any_here : (a c d : Bool) → a ≡ true → c ≡ true → ((a && c) || d) ≡ true
any_here true true d v w = refl
any_here true false d v w = cc
any_here false c d v w = cc

pub any_behind : (a d : Bool) → d ≡ true → (a || d) ≡ true
any_behind true d v = refl
any_behind false d v = v

-- where each item that passes a test has one in another list that answers to it, and no two of them the same, there are no more of them
count_without : {Y : Type 0} (q r : Y → Bool) (ys : List Y) → list_any (λ y. q y && r y) ys ≡ true → count (λ y. q y && not (r y)) ys + 1 ≤ count q ys
count_without q r [] e = cc
count_without {Y} q r (y ∷ ys) e = one (q y) refl (r y) refl e (λ w. count_without q r ys w)
  where
    less : (zs : List Y) → count (λ z. q z && not (r z)) zs ≤ count q zs
    less [] = omega arith
    less (z ∷ zs) = two (q z) refl (r z) refl (less zs)
      where
        two : (a : Bool) → q z ≡ a → (b : Bool) → r z ≡ b → count (λ x. q x && not (r x)) zs ≤ count q zs → count (λ x. q x && not (r x)) (z ∷ zs) ≤ count q (z ∷ zs)
        two true is true at low = grind (arith, is, at, low)
        two true is false at low = grind (arith, is, at, low)
        two false is b at low = grind (arith, is, low)

    one : (a : Bool) → q y ≡ a → (b : Bool) → r y ≡ b → ((a && b) || list_any (λ z. q z && r z) ys) ≡ true
        → (list_any (λ z. q z && r z) ys ≡ true → count (λ z. q z && not (r z)) ys + 1 ≤ count q ys) → count (λ z. q z && not (r z)) (y ∷ ys) + 1 ≤ count q (y ∷ ys)
    one true is true at w rest = let low = less ys in grind (arith, is, at, low)
    one true is false at w rest = let low = rest w in grind (arith, is, at, low)
    one false is b at w rest = let low = rest w in grind (arith, is, low)

-- no two items of a list clash
abbrev pub are_apart : {X : Type 0} → (X → X → Bool) → List X → Bool
are_apart clash [] = true
are_apart clash (x ∷ xs) = list_all (λ z. not (clash x z)) xs && are_apart clash xs

-- each item that passes has one that answers to it
abbrev pub each_answered : {X Y : Type 0} → (X → Y → Bool) → (X → Bool) → (Y → Bool) → List Y → List X → Bool
each_answered same p q ys xs = list_all (λ x. not (p x) || answers same q ys x) xs

any_more : {Y : Type 0} (p q : Y → Bool) (h : (y : Y) → p y ≡ true → q y ≡ true) (ys : List Y) → list_any p ys ≡ true → list_any q ys ≡ true
any_more p q h [] e = cc
any_more p q h (y ∷ ys) e = grind (arith, e, h y, any_more p q h ys)

still_answered : {X Y : Type 0} (same : X → Y → Bool) (clash : X → X → Bool) → ((a b : X) (y : Y) → same a y ≡ true → same b y ≡ true → clash a b ≡ true)
    → (p : X → Bool) (q : Y → Bool) (ys : List Y) (x : X) (xs : List X) → list_all (λ z. not (clash x z)) xs ≡ true → each_answered same p q ys xs ≡ true
    → each_answered same p (λ y. q y && not (same x y)) ys xs ≡ true
still_answered same clash h p q ys x [] apart all = refl
still_answered {X} {Y} same clash h p q ys x (z ∷ zs) apart all =
    and-both (not (p z) || answers same (λ y. q y && not (same x y)) ys z) (each_answered same p (λ y. q y && not (same x y)) ys zs)
    (one (p z) (and-first (not (p z) || answers same q ys z) (each_answered same p q ys zs) all))
    (still_answered same clash h p q ys x zs (and-second (not (clash x z)) (list_all (λ w. not (clash x w)) zs) apart) (and-second (not (p z) || answers same q ys z) (each_answered same p q ys zs) all))
  where
    apart_here : not (clash x z) ≡ true
    apart_here = and-first (not (clash x z)) (list_all (λ w. not (clash x w)) zs) apart

    kept : (y : Y) (a b d : Bool) → q y ≡ a → same z y ≡ b → same x y ≡ d → (a && b) ≡ true → ((a && not d) && b) ≡ true
    kept y true true true is at here e = let both = sym (ap not (h x z y here at)) ∙ apart_here in cc
    kept y true true false is at here e = refl
    kept y true false d is at here e = cc
    kept y false b d is at here e = cc

    one : (b : Bool) → (not b || answers same q ys z) ≡ true → (not b || answers same (λ y. q y && not (same x y)) ys z) ≡ true
    one true e = any_more (λ y. q y && same z y) (λ y. (q y && not (same x y)) && same z y) (λ y w. kept y (q y) (same z y) (same x y) refl refl refl w) ys e
    one false e = refl

-- only the items that are counted need stand apart
pub count-inject : {X Y : Type 0} (same : X → Y → Bool) (clash : X → X → Bool) → ((a b : X) (y : Y) → same a y ≡ true → same b y ≡ true → clash a b ≡ true)
    → (p : X → Bool) (q : Y → Bool) (ys : List Y) (xs : List X) → are_apart clash xs ≡ true → each_answered same p q ys xs ≡ true → count p xs ≤ count q ys
count-inject same clash h p q ys [] apart all = omega arith
count-inject {X} {Y} same clash h p q ys (x ∷ xs) apart all =
    one (p x) refl (and-first (not (p x) || answers same q ys x) (each_answered same p q ys xs) all)
    (count-inject same clash h p q ys xs others rest)
    (count-inject same clash h p (λ y. q y && not (same x y)) ys xs others (still_answered same clash h p q ys x xs here rest))
  where
    here : list_all (λ z. not (clash x z)) xs ≡ true
    here = and-first (list_all (λ z. not (clash x z)) xs) (are_apart clash xs) apart

    others : are_apart clash xs ≡ true
    others = and-second (list_all (λ z. not (clash x z)) xs) (are_apart clash xs) apart

    rest : each_answered same p q ys xs ≡ true
    rest = and-second (not (p x) || answers same q ys x) (each_answered same p q ys xs) all

    one : (b : Bool) → p x ≡ b → (not b || answers same q ys x) ≡ true → count p xs ≤ count q ys → count p xs ≤ count (λ y. q y && not (same x y)) ys → count p (x ∷ xs) ≤ count q ys
    one true is e low less = let fewer = count_without q (same x) ys e in grind (arith, is, less, fewer)
    one false is e low less = grind (arith, is, low)

-- what is chosen goes on from what was chosen
chosen_goes_on : {X : Type 0} (takes : List X → X → Bool) (chosen xs : List X) → (more : List X) × (fold (with_chosen takes) chosen xs ≡ chosen ++ more)
chosen_goes_on takes chosen [] = ([], sym (append_nothing chosen))
  where
    append_nothing : {X : Type 0} (ys : List X) → ys ++ [] ≡ ys
    append_nothing [] = refl
    append_nothing (y ∷ ys) = grind (arith, append_nothing ys)
chosen_goes_on {X} takes chosen (x ∷ xs) =
    let next : List X = if takes chosen x then x ∷ [] else [] in
    let rest = chosen_goes_on takes (chosen ++ next) xs in
    (next ++ rest.0, rest.1 ∙ append_assoc chosen next rest.0)

same_front : {X : Type 0} (b d : List X) (x z : X) (a r : List X) → length b ≡ length d → b ++ x ∷ a ≡ d ++ z ∷ r → (b ≡ d) × (x ≡ z)
same_front [] [] x z a r len e = (refl, head e)
  where
    head : x ∷ a ≡ z ∷ r → x ≡ z
    head e = cc
same_front [] (w ∷ d) x z a r len e = absurd (grind (arith, len))
same_front (y ∷ b) [] x z a r len e = absurd (grind (arith, len))
same_front {X} (y ∷ b) (w ∷ d) x z a r len e =
    let first : y ≡ w = head e in
    let tails : b ++ x ∷ a ≡ d ++ z ∷ r = tail e in
    let rest = same_front b d x z a r (grind (arith, len)) tails in
    (ap (λ (v : X). v ∷ b) first ∙ ap (λ (vs : List X). w ∷ vs) rest.0, rest.1)
  where
    head : y ∷ (b ++ x ∷ a) ≡ w ∷ (d ++ z ∷ r) → y ≡ w
    head e = cc

    tail : y ∷ (b ++ x ∷ a) ≡ w ∷ (d ++ z ∷ r) → b ++ x ∷ a ≡ d ++ z ∷ r
    tail e = cc

-- what was chosen before a chosen item is what is chosen of a front of the list, and the item behind that front was taken beside it
pub record IsSplit {X : Type 0} (takes : List X → X → Bool) (chosen xs b : List X) (x : X) : Type 0 where
  pub front : List X
  pub rest : List X
  pub parts : xs ≡ front ++ x ∷ rest
  pub before : b ≡ fold (with_chosen takes) chosen front
  pub taken : takes b x ≡ true

split_from : {X : Type 0} (takes : List X → X → Bool) (chosen xs b : List X) (x : X) (a : List X) → length chosen ≤ length b → fold (with_chosen takes) chosen xs ≡ b ++ x ∷ a
    → IsSplit takes chosen xs b x
split_from takes chosen [] b x a low e =
    let long : length chosen ≡ length b + length (x ∷ a) = ap length e ∙ length-append b (x ∷ a) in
    absurd (grind (arith, long, low))
split_from {X} takes chosen (z ∷ zs) b x a low e = one (takes chosen z) refl (λ less. split_from takes (with_chosen takes chosen z) zs b x a less e)
  where
    behind : IsSplit takes (with_chosen takes chosen z) zs b x → IsSplit takes chosen (z ∷ zs) b x
    behind s = record { front = z ∷ s.front; rest = s.rest; parts = ap (λ (ys : List X). z ∷ ys) s.parts; before = s.before; taken = s.taken }

    here : takes chosen z ≡ true → length b ≤ length chosen → IsSplit takes chosen (z ∷ zs) b x
    here is most =
        let more = chosen_goes_on takes (with_chosen takes chosen z) zs in
        let next : with_chosen takes chosen z ≡ chosen ++ z ∷ [] = ap (λ (t : Bool). chosen ++ (if t then z ∷ [] else [])) is in
        let all : b ++ x ∷ a ≡ chosen ++ z ∷ more.0 = sym e ∙ more.1 ∙ ap (λ (ys : List X). ys ++ more.0) next ∙ append_assoc chosen (z ∷ []) more.0 in
        let same = same_front b chosen x z a more.0 (omega (arith, most, low)) all in
        record {
          front = [];
          rest = zs;
          parts = ap (λ (y : X). y ∷ zs) (sym same.1);
          before = same.0;
          taken = ap (λ (ys : List X). takes ys x) same.0 ∙ ap (takes chosen) same.1 ∙ is;
        }

    one : (t : Bool) → takes chosen z ≡ t → (length (with_chosen takes chosen z) ≤ length b → IsSplit takes (with_chosen takes chosen z) zs b x) → IsSplit takes chosen (z ∷ zs) b x
    one false is rest =
        let same : length (with_chosen takes chosen z) ≡ length chosen = ap (λ (t : Bool). length (chosen ++ (if t then z ∷ [] else []))) is ∙ length-append chosen [] ∙ plus (length chosen) in
        behind (rest (omega (arith, same, low)))
      where
        plus : (n : ℕ) → n + length {A = X} [] ≡ n
        plus n = omega arith
    one true is rest =
        let same : length (with_chosen takes chosen z) ≡ length chosen + length (z ∷ []) = ap (λ (t : Bool). length (chosen ++ (if t then z ∷ [] else []))) is ∙ length-append chosen (z ∷ []) in
        two (nat_le (length chosen + 1) (length b)) refl same
      where
        two : (t : Bool) → nat_le (length chosen + 1) (length b) ≡ t → length (with_chosen takes chosen z) ≡ length chosen + length (z ∷ []) → IsSplit takes chosen (z ∷ zs) b x
        two true fits same = behind (rest (grind (arith, nat_tests, fits, same)))
        two false fits same = here is (grind (arith, nat_tests, fits))

pub chosen-split : {X : Type 0} (takes : List X → X → Bool) (xs b : List X) (x : X) (a : List X) → chosen_of takes xs ≡ b ++ x ∷ a → IsSplit takes [] xs b x
chosen-split takes xs b x a e = split_from takes [] xs b x a (omega arith) e
