-- One step of a walk that chooses items one by one.
use Rattle.std.proofs.Common.{◌≡◌, Bool, true, false, List, [], ◌∷◌, ◌++◌, append-nil, ap, ◌∙◌}
use Rattle.std.specs.Prelude.{if◌then◌else◌}
use Rattle.std.specs.List.{fold}
use Rattle.hx_lists.specs.Choices.{with_chosen, left_after}

-- an item that is chosen
pub chosen_more : {X : Type 0} (takes : List X → X → Bool) (chosen : List X) (x : X) (xs : List X) → takes chosen x ≡ true
    → fold (with_chosen takes) chosen (x ∷ xs) ≡ fold (with_chosen takes) (chosen ++ x ∷ []) xs
chosen_more takes chosen x xs is = ap (λ (b : Bool). fold (with_chosen takes) (chosen ++ (if b then x ∷ [] else [])) xs) is

pub left_more : {X Y : Type 0} (takes : List X → X → Bool) (say : List X → X → List Y) (chosen : List X) (x : X) (xs : List X) → takes chosen x ≡ true
    → left_after takes say chosen (x ∷ xs) ≡ left_after takes say (chosen ++ x ∷ []) xs
left_more takes say chosen x xs is = ap (λ (b : Bool). (if b then [] else say chosen x) ++ left_after takes say (chosen ++ (if b then x ∷ [] else [])) xs) is

-- and one that isn't
pub chosen_same : {X : Type 0} (takes : List X → X → Bool) (chosen : List X) (x : X) (xs : List X) → takes chosen x ≡ false
    → fold (with_chosen takes) chosen (x ∷ xs) ≡ fold (with_chosen takes) chosen xs
chosen_same {X} takes chosen x xs is =
    ap (λ (b : Bool). fold (with_chosen takes) (chosen ++ (if b then x ∷ [] else [])) xs) is ∙ ap (λ (ys : List X). fold (with_chosen takes) ys xs) (append-nil chosen)

pub left_same : {X Y : Type 0} (takes : List X → X → Bool) (say : List X → X → List Y) (chosen : List X) (x : X) (xs : List X) → takes chosen x ≡ false
    → left_after takes say chosen (x ∷ xs) ≡ say chosen x ++ left_after takes say chosen xs
left_same {X} takes say chosen x xs is =
    ap (λ (b : Bool). (if b then [] else say chosen x) ++ left_after takes say (chosen ++ (if b then x ∷ [] else [])) xs) is
    ∙ ap (λ (ys : List X). say chosen x ++ left_after takes say ys xs) (append-nil chosen)
