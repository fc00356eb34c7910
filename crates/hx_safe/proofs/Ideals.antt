-- Ideal states that stay without fault as lists and maps are put into them.
use Rattle.std.proofs.Common.{◌≡◌, ℕ, zero, suc, ◌+◌, ◌&&◌, ◌==◌, map, not, Bool, true, false, List, [], ◌∷◌, ◌++◌, length, length-append, Option, Some, None, refl, sym, ap, ◌∙◌, arith}
use Rattle.std.specs.Prelude.{if◌then◌else◌, nat_lt, is_none, slice_get, slice_set}
use Rattle.std.specs.List.{list_any, list_all}
use Rattle.std.specs.Option.{option_or}
use Rattle.std.proofs.lemmas.Bool.Decides.{nat_tests}
use Rattle.hx_lists.specs.First.{answer_behind}
use Rattle.hx_ids.specs.declared.InstanceId.{InstanceId}
use Rattle.hx_ids.specs.declared.StateId.{StateId}
use Rattle.hx_model.specs.declared.Bound.{Bound}
use Rattle.hx_model.specs.declared.ModelParts.{ModelParts}
use Rattle.hx_model.specs.Model.{states_of, has_state}
use Rattle.hx_ideal.specs.declared.Mode.{Mode}
use Rattle.hx_ideal.specs.declared.Mode.TheVariants as modes
use Rattle.hx_ideal.specs.declared.IdealFault.{IdealFault}
use Rattle.hx_ideal.specs.declared.IdealFault.TheVariants.{UnknownInstance, UnknownState, TwiceInList, ZeroReplicas, TooManyReplicas, ZeroParts, TooManyParts}
use Rattle.hx_ideal.specs.IdealState.{IdealState, count_of, put_list, put_map}
use Rattle.hx_ideal.specs.Faults.{id_fault, entry_fault, list_fault, map_fault, mode_fault, part_count_fault, fault_of}
use Rattle.hx_cluster.specs.Steps.{is_empty_list, is_bare_mode, is_bare}
use Rattle.hx_cluster.specs.Views.{is_good_mode}
use Rattle.hx_safe.proofs.Counting.{and-both}
use Rattle.hx_safe.proofs.Models.{or-none}

pub none_from : {X : Type 0} (o : Option X) → is_none o ≡ true → o ≡ None
none_from None e = refl
none_from (Some x) e = cc

-- items that are put into a list
pub length-put : {X : Type 0} (xs : List X) (n : ℕ) (y : X) → length (slice_set xs n y) ≡ length xs
length-put [] n y = refl
length-put (x ∷ xs) zero y = refl
length-put (x ∷ xs) (suc n) y = grind (arith, length-put xs n y)

pub all-put : {X : Type 0} (p : X → Bool) (xs : List X) (n : ℕ) (y : X) → list_all p xs ≡ true → p y ≡ true → list_all p (slice_set xs n y) ≡ true
all-put p [] n y all e = refl
all-put p (x ∷ xs) zero y all e = grind (arith, all, e)
all-put p (x ∷ xs) (suc n) y all e = grind (arith, all, all-put p xs n y)

pub all-get : {X : Type 0} (p : X → Bool) (xs : List X) (n : ℕ) (x : X) → list_all p xs ≡ true → slice_get xs n ≡ Some x → p x ≡ true
all-get p [] n x all e = cc
all-get p (y ∷ xs) zero x all e = grind (arith, all, e)
all-get p (y ∷ xs) (suc n) x all e = all-get p xs n x (grind (arith, all)) e

-- an answer that sees of the items before it how many they are
abbrev numbered : {X Y : Type 0} → (ℕ → X → Option Y) → List X → X → Option Y
numbered ask before x = ask (length before) x

behind-length : {X Y : Type 0} (ask : ℕ → X → Option Y) (a b xs : List X) → length a ≡ length b → answer_behind (numbered ask) a xs ≡ answer_behind (numbered ask) b xs
behind-length ask a b [] same = refl
behind-length ask a b (x ∷ xs) same =
    let more : length (a ++ x ∷ []) ≡ length (b ++ x ∷ []) = grind (arith, same, length-append a (x ∷ []), length-append b (x ∷ [])) in
    let rest = behind-length ask (a ++ x ∷ []) (b ++ x ∷ []) xs more in
    ap (λ (n : ℕ). option_or (ask n x) (answer_behind (numbered ask) (a ++ x ∷ []) xs)) same ∙ ap (option_or (ask (length b) x)) rest

both-none : {X : Type 0} (a b : Option X) → a ≡ None → b ≡ None → option_or a b ≡ None
both-none a b one two = rw (one, two) refl

behind-put : {X Y : Type 0} (ask : ℕ → X → Option Y) (before xs : List X) (n : ℕ) (y : X) → answer_behind (numbered ask) before xs ≡ None
    → ask (length before + n) y ≡ None → answer_behind (numbered ask) before (slice_set xs n y) ≡ None
behind-put ask before [] n y none e = refl
behind-put ask before (x ∷ xs) zero y none e =
    let rest = or-none (ask (length before) x) (answer_behind (numbered ask) (before ++ x ∷ []) xs) none in
    let same : length (before ++ y ∷ []) ≡ length (before ++ x ∷ []) = grind (arith, length-append before (x ∷ []), length-append before (y ∷ [])) in
    let at : length before ≡ length before + 0 = omega arith in
    both-none (ask (length before) y) _ (ap (λ (k : ℕ). ask k y) at ∙ e) (behind-length ask (before ++ y ∷ []) (before ++ x ∷ []) xs same ∙ rest.1)
behind-put ask before (x ∷ xs) (suc n) y none e =
    let rest = or-none (ask (length before) x) (answer_behind (numbered ask) (before ++ x ∷ []) xs) none in
    let at : length (before ++ x ∷ []) + n ≡ length before + suc n = grind (arith, length-append before (x ∷ [])) in
    both-none (ask (length before) x) _ rest.0 (behind-put ask (before ++ x ∷ []) xs n y rest.1 (ap (λ (k : ℕ). ask k y) at ∙ e))

behind-empty : {X Y : Type 0} (ask : ℕ → List X → Option Y) → ((n : ℕ) → ask n [] ≡ None) → (before xs : List (List X)) → list_all is_empty_list xs ≡ true
    → answer_behind (numbered ask) before xs ≡ None
behind-empty ask none before [] e = refl
behind-empty ask none before ([] ∷ xs) e = both-none (ask (length before) []) _ (none (length before)) (behind-empty ask none (before ++ [] ∷ []) xs (grind (arith, e)))
behind-empty ask none before ((y ∷ ys) ∷ xs) e = cc

-- a mode with another list, or map
pub mode_listed : (instances : ℕ) (states : List StateId) (m : Mode) (part : ℕ) (list : List InstanceId) → mode_fault instances states m ≡ None
    → list_fault instances part list ≡ None → mode_fault instances states (put_list m part list) ≡ None
mode_listed instances states modes.Full part list none e = refl
mode_listed instances states (modes.Semi lists) part list none e =
    let at : 0 + part ≡ part = omega arith in
    behind-put (list_fault instances) [] lists part list none (ap (λ (k : ℕ). list_fault instances k list) at ∙ e)
mode_listed instances states (modes.Custom maps) part list none e = none

pub mode_mapped : (instances : ℕ) (states : List StateId) (m : Mode) (part : ℕ) (map : List (InstanceId × StateId)) → mode_fault instances states m ≡ None
    → map_fault instances states part map ≡ None → mode_fault instances states (put_map m part map) ≡ None
mode_mapped instances states modes.Full part map none e = refl
mode_mapped instances states (modes.Semi lists) part map none e = none
mode_mapped instances states (modes.Custom maps) part map none e =
    let at : 0 + part ≡ part = omega arith in
    behind-put (map_fault instances states) [] maps part map none (ap (λ (k : ℕ). map_fault instances states k map) at ∙ e)

pub count_listed : (m : Mode) (part : ℕ) (list : List InstanceId) → count_of (put_list m part list) ≡ count_of m
count_listed modes.Full part list = refl
count_listed (modes.Semi lists) part list = ap (λ (n : ℕ). Some n) (length-put lists part list)
count_listed (modes.Custom maps) part list = refl

pub count_mapped : (m : Mode) (part : ℕ) (map : List (InstanceId × StateId)) → count_of (put_map m part map) ≡ count_of m
count_mapped modes.Full part map = refl
count_mapped (modes.Semi lists) part map = refl
count_mapped (modes.Custom maps) part map = ap (λ (n : ℕ). Some n) (length-put maps part map)

-- the faults of an ideal state, by their tests
abbrev faults_by : Bool → Bool → Bool → Bool → Option IdealFault → Option IdealFault → Option IdealFault
faults_by a b c d counted listed =
    if a then Some ZeroReplicas else if b then Some TooManyReplicas else if c then Some ZeroParts else if d then Some TooManyParts else option_or counted listed

faults-split : (a b c d : Bool) (counted listed : Option IdealFault) → faults_by a b c d counted listed ≡ None → listed ≡ None
faults-split true b c d counted listed e = cc
faults-split false true c d counted listed e = cc
faults-split false false true d counted listed e = cc
faults-split false false false true counted listed e = cc
faults-split false false false false counted listed e = (or-none counted listed e).1

faults-with : (a b c d : Bool) (counted listed more : Option IdealFault) → faults_by a b c d counted listed ≡ None → more ≡ None → faults_by a b c d counted more ≡ None
faults-with true b c d counted listed more e none = cc
faults-with false true c d counted listed more e none = cc
faults-with false false true d counted listed more e none = cc
faults-with false false false true counted listed more e none = cc
faults-with false false false false counted listed more e none = both-none counted more (or-none counted listed e).0 none

pub mode_of_good : (replicas parts instances : ℕ) (states : List StateId) (m : Mode) → fault_of replicas parts m instances states ≡ None → mode_fault instances states m ≡ None
mode_of_good replicas parts instances states m e =
    faults-split (replicas == 0) (nat_lt 64 replicas) (parts == 0) (nat_lt 1024 parts) (part_count_fault parts (count_of m)) (mode_fault instances states m) e

pub good_with : (replicas parts instances : ℕ) (states : List StateId) (m n : Mode) → fault_of replicas parts m instances states ≡ None
    → count_of n ≡ count_of m → mode_fault instances states n ≡ None → fault_of replicas parts n instances states ≡ None
good_with replicas parts instances states m n e same none =
    ap (λ (o : Option ℕ). faults_by (replicas == 0) (nat_lt 64 replicas) (parts == 0) (nat_lt 1024 parts) (part_count_fault parts o) (mode_fault instances states n)) same
    ∙ faults-with (replicas == 0) (nat_lt 64 replicas) (parts == 0) (nat_lt 1024 parts) (part_count_fault parts (count_of m)) (mode_fault instances states m) (mode_fault instances states n) e none

-- an ideal state with only empty lists or maps
bare_mode : (instances : ℕ) (states : List StateId) (parts : ℕ) (m : Mode) → is_bare_mode parts m ≡ true → mode_fault instances states m ≡ None
bare_mode instances states parts modes.Full e = refl
bare_mode instances states parts (modes.Semi lists) e = behind-empty (list_fault instances) (λ n. refl) [] lists (grind (arith, e))
bare_mode instances states parts (modes.Custom maps) e = behind-empty (map_fault instances states) (λ n. refl) [] maps (grind (arith, e))

bare_count : (parts : ℕ) (m : Mode) → is_bare_mode parts m ≡ true → part_count_fault parts (count_of m) ≡ None
bare_count parts modes.Full e = refl
bare_count parts (modes.Semi lists) e = let same : (length lists == parts) ≡ true = grind (arith, e) in rw same refl
bare_count parts (modes.Custom maps) e = let same : (length maps == parts) ≡ true = grind (arith, e) in rw same refl

pub bare_good : (ideal : IdealState) (instances : ℕ) (states : List StateId) → is_bare ideal ≡ true → fault_of ideal.replicas ideal.parts ideal.mode instances states ≡ None
bare_good ideal instances states e =
    let mode : is_bare_mode ideal.parts ideal.mode ≡ true = grind (arith, e) in
    let a : (ideal.replicas == 0) ≡ false = grind (arith, nat_tests, e) in
    let b : nat_lt 64 ideal.replicas ≡ false = grind (arith, nat_tests, e) in
    let c : (ideal.parts == 0) ≡ false = grind (arith, nat_tests, e) in
    let d : nat_lt 1024 ideal.parts ≡ false = grind (arith, nat_tests, e) in
    rw (a, b, c, d) (both-none (part_count_fault ideal.parts (count_of ideal.mode)) (mode_fault instances states ideal.mode)
    (bare_count ideal.parts ideal.mode mode) (bare_mode instances states ideal.parts ideal.mode mode))

-- a mode without fault has instances in range, and states of the model
behind-all : {X Y : Type 0} (ask : List X → X → Option Y) (p : X → Bool) → ((before : List X) (x : X) → ask before x ≡ None → p x ≡ true) → (before xs : List X)
    → answer_behind ask before xs ≡ None → list_all p xs ≡ true
behind-all ask p h before [] e = refl
behind-all ask p h before (x ∷ xs) e =
    let both = or-none (ask before x) (answer_behind ask (before ++ x ∷ []) xs) e in
    and-both (p x) (list_all p xs) (h before x both.0) (behind-all ask p h (before ++ x ∷ []) xs both.1)

id-good : (instances part : ℕ) (before : List InstanceId) (i : InstanceId) → id_fault instances part before i ≡ None → nat_lt i.0 instances ≡ true
id-good instances part before i e = one (nat_lt i.0 instances) refl (list_any (λ b. b.0 == i.0) before) e
  where
    one : (a : Bool) → nat_lt i.0 instances ≡ a → (b : Bool)
        → (if not a then Some (UnknownInstance part (length before)) else if b then Some (TwiceInList part (length before)) else None) ≡ None → nat_lt i.0 instances ≡ true
    one true is b e = is
    one false is b e = cc

entry-good : (instances : ℕ) (m : ModelParts) (part : ℕ) (before : List (InstanceId × StateId)) (x : InstanceId × StateId)
    → entry_fault instances (states_of m) part before x ≡ None → (nat_lt x.0.0 instances && has_state m x.1) ≡ true
entry-good instances m part before x e =
    one (nat_lt x.0.0 instances) refl (list_any (λ s. s.0 == x.1.0) (states_of m)) refl (list_any (λ b. b.0.0 == x.0.0) before) e
  where
    listed : (states : List (StateId × Bound)) → list_any (λ s. s.0 == x.1.0) (map (λ p. p.0) states) ≡ list_any (λ p. p.0.0 == x.1.0) states
    listed [] = refl
    listed (s ∷ states) = grind (arith, listed states)

    one : (a : Bool) → nat_lt x.0.0 instances ≡ a → (b : Bool) → list_any (λ s. s.0 == x.1.0) (states_of m) ≡ b → (d : Bool)
        → (if not a then Some (UnknownInstance part (length before)) else if not b then Some (UnknownState part (length before)) else if d then Some (TwiceInList part (length before)) else None) ≡ None
        → (nat_lt x.0.0 instances && has_state m x.1) ≡ true
    one true is true at d e = and-both (nat_lt x.0.0 instances) (has_state m x.1) is (sym (listed m.states) ∙ at)
    one true is false at d e = cc
    one false is b at d e = cc

pub good_mode : (instances : ℕ) (m : ModelParts) (mode : Mode) → mode_fault instances (states_of m) mode ≡ None → is_good_mode instances m mode ≡ true
good_mode instances m modes.Full e = refl
good_mode instances m (modes.Semi lists) e =
    behind-all (numbered (list_fault instances)) (list_all (λ i. nat_lt i.0 instances))
    (λ before list w. behind-all (id_fault instances (length before)) (λ i. nat_lt i.0 instances) (id-good instances (length before)) [] list w) [] lists e
good_mode instances m (modes.Custom maps) e =
    behind-all (numbered (map_fault instances (states_of m))) (list_all (λ x. nat_lt x.0.0 instances && has_state m x.1))
    (λ before map w. behind-all (entry_fault instances (states_of m) (length before)) (λ x. nat_lt x.0.0 instances && has_state m x.1) (entry-good instances m (length before)) [] map w) [] maps e
