-- Where a plan sends nothing, each candidate is for a state that is full.
use Rattle.std.proofs.Common.{◌≡◌, ℕ, ◌+◌, ◌≤◌, ◌||◌, ◌&&◌, not, Bool, true, false, List, [], ◌∷◌, ◌++◌, length, map, length-append, refl, sym, ap, ◌∙◌, arith}
use Rattle.std.specs.Prelude.{if◌then◌else◌, nat_le}
use Rattle.std.specs.List.{list_any, list_all, fold}
use Rattle.std.proofs.lemmas.Bool.Decides.{nat_tests}
use Rattle.hx_lists.specs.Choices.{with_chosen, chosen_of, left_after}
use Rattle.hx_model.specs.declared.ModelParts.{ModelParts}
use Rattle.hx_cluster.specs.declared.description.Rule.{Rule}
use Rattle.hx_cluster.specs.declared.state.Message.{Message}
use Rattle.hx_cluster.specs.declared.state.Cluster.{Cluster}
use Rattle.hx_cluster.specs.declared.planning.View.{View}
use Rattle.hx_cluster.specs.declared.planning.Candidate.{Candidate}
use Rattle.hx_cluster.specs.Ends.{matches, load_over}
use Rattle.hx_cluster.specs.Valid.{is_valid_rule}
use Rattle.hx_cluster.specs.Ranged.{IsRanged}
use Rattle.hx_select.specs.Selection.{has_room, full, accepted_of}
use Rattle.hx_throttle.specs.Throttle.{key_for, holds_back, is_sent}
use Rattle.hx_pass.specs.Plans.{all_candidates, throttled_of}
use Rattle.hx_pass.specs.Explained.{view_at}
use Rattle.hx_safe.proofs.Counting.{and-first, and-second, all-le}
use Rattle.hx_settled.specs.Nothing.{IsAllFull}

-- where nothing was chosen, the first item isn't taken, nor is any other
chosen_longer : {X : Type 0} (takes : List X → X → Bool) (chosen xs : List X) → length chosen ≤ length (fold (with_chosen takes) chosen xs)
chosen_longer takes chosen [] = omega arith
chosen_longer {X} takes chosen (x ∷ xs) =
    let more = chosen_longer takes (with_chosen takes chosen x) xs in
    let parts = length-append chosen (if takes chosen x then x ∷ [] else []) in
    omega (arith, more, parts)

none_taken : {X : Type 0} (takes : List X → X → Bool) (xs : List X) → chosen_of takes xs ≡ [] → list_all (λ x. not (takes [] x)) xs ≡ true
none_taken takes [] e = refl
none_taken {X} takes (x ∷ xs) e = one (takes [] x) e (none_taken takes xs)
  where
    one : (b : Bool) → fold (with_chosen takes) (if b then x ∷ [] else []) xs ≡ [] → (chosen_of takes xs ≡ [] → list_all (λ y. not (takes [] y)) xs ≡ true)
        → (not b && list_all (λ y. not (takes [] y)) xs) ≡ true
    one true e rest =
        let low = chosen_longer takes (x ∷ []) xs in
        let none = ap length e in
        absurd (omega (arith, low, none))
    one false e rest = rest e

all_left : {X Y : Type 0} (takes : List X → X → Bool) (say : List X → X → Y) (xs : List X) → list_all (λ x. not (takes [] x)) xs ≡ true
    → left_after takes (λ chosen x. say chosen x ∷ []) [] xs ≡ map (say []) xs
all_left takes say [] e = refl
all_left {X} {Y} takes say (x ∷ xs) e = one (takes [] x) (and-first (not (takes [] x)) (list_all (λ y. not (takes [] y)) xs) e) (all_left takes say xs (and-second (not (takes [] x)) (list_all (λ y. not (takes [] y)) xs) e))
  where
    one : (b : Bool) → not b ≡ true → left_after takes (λ chosen y. say chosen y ∷ []) [] xs ≡ map (say []) xs
        → (if b then [] else say [] x ∷ []) ++ left_after takes (λ chosen y. say chosen y ∷ []) (if b then x ∷ [] else []) xs ≡ say [] x ∷ map (say []) xs
    one true w rest = cc
    one false w rest = ap (λ (ys : List Y). say [] x ∷ ys) rest

-- with no message no rule holds the first candidate back
abbrev pub lets_one : Rule → Bool
lets_one r = nat_le 1 r.limit

pub rules_let : (c : Cluster) → IsRanged c → list_all lets_one c.rules ≡ true
rules_let c ranged = all-le (is_valid_rule c.states) lets_one (λ r e. grind (arith, e)) c.rules ranged.rules

first_sent : (rules : List Rule) (view : View) (x : Candidate) → list_all lets_one rules ≡ true → view.mail ≡ [] → is_sent rules view [] x ≡ true
first_sent rules view x lets empty = ap not (none rules lets)
  where
    load : (r : Rule) (key : ℕ) → load_over view.live view.mail r key ≡ 0
    load r key = ap (λ (ms : List Message). load_over view.live ms r key) empty

    over : (limit n : ℕ) (b : Bool) → n ≡ 0 → nat_le 1 limit ≡ true → (b && nat_le limit (n + 0)) ≡ false
    over limit n true none some = grind (arith, nat_tests, none, some)
    over limit n false none some = refl

    neither : (a b : Bool) → a ≡ false → b ≡ false → (a || b) ≡ false
    neither true b e w = e
    neither false b e w = w

    none : (rs : List Rule) → list_all lets_one rs ≡ true → list_any (holds_back view [] x) rs ≡ false
    none [] e = refl
    none (r ∷ rs) e =
        neither (holds_back view [] x r) (list_any (holds_back view [] x) rs)
        (over r.limit (load_over view.live view.mail r (key_for view r x)) (matches r x.from x.to) (load r (key_for view r x)) (and-first (lets_one r) (list_all lets_one rs) e))
        (none rs (and-second (lets_one r) (list_all lets_one rs) e))

-- so where nothing is sent, nothing is accepted, and each candidate is full
none_sent : (rules : List Rule) (view : View) (xs : List Candidate) → list_all lets_one rules ≡ true → view.mail ≡ [] → chosen_of (is_sent rules view) xs ≡ [] → xs ≡ []
none_sent rules view [] lets empty e = refl
none_sent rules view (x ∷ xs) lets empty e =
    let kept = and-first (not (is_sent rules view [] x)) (list_all (λ y. not (is_sent rules view [] y)) xs) (none_taken (is_sent rules view) (x ∷ xs) e) in
    let both = sym (ap not (first_sent rules view x lets empty)) ∙ kept in
    cc

pub all_full : (models : List ModelParts) (rules : List Rule) (view : View) → list_all lets_one rules ≡ true → view.mail ≡ [] → (throttled_of models rules view).sent ≡ [] → IsAllFull models view
all_full models rules view lets empty sent =
    let xs = all_candidates models view in
    let none : accepted_of models view xs ≡ [] = none_sent rules view (accepted_of models view xs) lets empty sent in
    let roomless = none_taken (has_room models view) xs none in
    record { accepted = none; roomless = roomless; full = all_left (has_room models view) (full models view) xs roomless }

pub all_full_at : (c : Cluster) → IsRanged c → c.mail ≡ [] → (throttled_of c.models c.rules (view_at c)).sent ≡ [] → IsAllFull c.models (view_at c)
all_full_at c ranged empty sent = all_full c.models c.rules (view_at c) (rules_let c ranged) empty sent
