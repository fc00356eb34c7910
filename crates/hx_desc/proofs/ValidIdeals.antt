-- What is read of an ideal state has no fault.
use Rattle.std.proofs.Common.{◌≡◌, ℕ, ◌+◌, ◌<◌, ◌≤◌, Bool, true, false, not, List, [], ◌∷◌, ◌++◌, length, length-append, append_assoc, Option, Some, None, Ok, refl, ap, subst, arith}
use Rattle.std.specs.Prelude.{if◌then◌else◌, codes, nat_lt, ◌==◌, ◌||◌}
use Rattle.std.specs.List.{list_any, find}
use Rattle.std.specs.Option.{option_or}
use Rattle.std.proofs.lemmas.List.{append-nil}
use Rattle.std.proofs.lemmas.Bool.Decides.{nat_tests}
use Rattle.serde_json.specs.Data.{Data, Members}
use Rattle.hx_ids.specs.declared.InstanceId.{InstanceId}
use Rattle.hx_ids.specs.declared.StateId.{StateId}
use Rattle.hx_lists.specs.First.{answer_behind}
use Rattle.hx_model.specs.declared.ModelParts.{ModelParts}
use Rattle.hx_model.specs.Model.{states_of}
use Rattle.hx_model.specs.Builtin.{state_named}
use Rattle.hx_ideal.specs.declared.Mode.{Mode}
use Rattle.hx_ideal.specs.declared.Mode.TheVariants.{Semi, Custom}
use Rattle.hx_ideal.specs.declared.kinds.ModeKind.{ModeKind}
use Rattle.hx_ideal.specs.declared.kinds.ModeKind.TheVariants.{FullAuto, SemiAuto, Customized}
use Rattle.hx_ideal.specs.Faults.{id_fault, entry_fault, list_fault, map_fault, mode_fault, fault_of}
use Rattle.hx_forms.specs.declared.faults.DescKind.TheVariants as kinds
use Rattle.hx_forms.specs.Found.{Found, text_in, place_in, array_in, tested, read_all, object_in, required}
use Rattle.hx_forms.proofs.Chains.{then_ok, ok_same, passed, there_or_ok, required_ok, place_range, keeps, counts}
use Rattle.hx_desc.specs.ResourceForm.{instance_in, next_instance_in, is_listed, preference_in, list_in, is_placed, state_of, state_in, entry_in, map_in, each_part_in, lists_in, maps_in, mode_of}

-- a preference list, whichever partition it is for
abbrev IsPreference : ℕ → List InstanceId → Type 0
IsPreference instances list = (part : ℕ) → list_fault instances part list ≡ None

-- a map
abbrev IsPlacement : ℕ → List StateId → List (InstanceId × StateId) → Type 0
IsPlacement instances states entries = (part : ℕ) → map_fault instances states part entries ≡ None

-- a mode with its lists or maps
abbrev IsFaultless : ℕ → List StateId → Mode → Type 0
IsFaultless instances states mode = mode_fault instances states mode ≡ None

neither : {A : Type 0} (a b : Option A) → option_or a b ≡ None → (a ≡ None) × (b ≡ None)
neither None b is = (refl, is)
neither (Some x) b is = cc

-- no item is answered behind those before it
no_answer_more : {X Y : Type 0} (ask : List X → X → Option Y) (before xs : List X) (x : X) → answer_behind ask before xs ≡ None → ask (before ++ xs) x ≡ None → answer_behind ask before (xs ++ x ∷ []) ≡ None
no_answer_more ask before [] x none next =
    let here : ask before x ≡ None = rw append-nil at next in
    rw here refl
no_answer_more ask before (y ∷ xs) x none next =
    let both = neither (ask before y) (answer_behind ask (before ++ y ∷ []) xs) none in
    let later : ask ((before ++ y ∷ []) ++ xs) x ≡ None = rw append_assoc next in
    let here : ask before y ≡ None = both.0 in
    rw here (no_answer_more ask (before ++ y ∷ []) xs x both.1 later)

either : (b : Bool) → (b || true) ≡ true
either true = refl
either false = refl

is_below : (a b : ℕ) → a < b → nat_lt a b ≡ true
is_below a b lt = grind (arith, nat_tests)

preference_more : (instances : ℕ) (list : List InstanceId) (i : InstanceId) → IsPreference instances list → i.0 < instances → list_any (λ j. j.0 == i.0) list ≡ false → IsPreference instances (list ++ i ∷ [])
preference_more instances list i faultless lt new part = no_answer_more (id_fault instances part) [] list i (faultless part) (rw (is_below i.0 instances lt, new) refl)

placement_more : (instances : ℕ) (states : List StateId) (entries : List (InstanceId × StateId)) (i : InstanceId) (s : StateId) → IsPlacement instances states entries → i.0 < instances
    → list_any (λ t. t.0 == s.0) states ≡ true → list_any (λ e. e.0.0 == i.0) entries ≡ false → IsPlacement instances states (entries ++ (i, s) ∷ [])
placement_more instances states entries i s faultless lt known new part = no_answer_more (entry_fault instances states part) [] entries (i, s) (faultless part) (rw (is_below i.0 instances lt, known, new) refl)

-- one more list or map
lists_more : (instances : ℕ) (states : List StateId) (lists : List (List InstanceId)) (list : List InstanceId) → IsPreference instances list → IsFaultless instances states (Semi lists) → IsFaultless instances states (Semi (lists ++ list ∷ []))
lists_more instances states lists list next faultless = no_answer_more (λ before xs. list_fault instances (length before) xs) [] lists list faultless (next (length lists))

maps_more : (instances : ℕ) (states : List StateId) (maps : List (List (InstanceId × StateId))) (entries : List (InstanceId × StateId)) → IsPlacement instances states entries → IsFaultless instances states (Custom maps) → IsFaultless instances states (Custom (maps ++ entries ∷ []))
maps_more instances states maps entries next faultless = no_answer_more (λ before xs. map_fault instances states (length before) xs) [] maps entries faultless (next (length maps))

-- a state that is found is among those that were searched
found_state : (n : ℕ) (states : List StateId) (s : StateId) → find (λ t. t.0 == n) states ≡ Some s → list_any (λ t. t.0 == s.0) states ≡ true
found_state n [] s is = cc
found_state n (t ∷ states) s is = one (t.0 == n) is (λ found. found_state n states s found)
  where
    here : t ≡ s → (t.0 == s.0) ≡ true
    here e = let same : t.0 ≡ s.0 = ap (λ (x : StateId). x.0) e in grind (arith, nat_tests, same)

    one : (b : Bool) → (if b then Some t else find (λ u. u.0 == n) states) ≡ Some s → (find (λ u. u.0 == n) states ≡ Some s → list_any (λ u. u.0 == s.0) states ≡ true) → ((t.0 == s.0) || list_any (λ u. u.0 == s.0) states) ≡ true
    one true found later = let e : t ≡ s = cc in rw (here e) refl
    one false found later = rw (later found) (either (t.0 == s.0))

-- an instance that is read is one of them
pub instance_range : (instances : List (List ℕ)) (d : Data) (i : InstanceId) → instance_in instances d ≡ Ok i → i.0 < length instances
instance_range instances d i is =
    let place = then_ok (place_in kinds.UnknownInstance instances d) _ i is in
    let same = ap (λ (j : InstanceId). j.0) (ok_same (record { 0 = place.0 }) i place.2) in
    omega (arith, same, place_range kinds.UnknownInstance instances d place.0 place.1)

record IsNext (instances : List (List ℕ)) (is_taken : InstanceId → Bool) (i : InstanceId) : Type 0 where
  range : i.0 < length instances
  new : is_taken i ≡ false

next_instance : (instances : List (List ℕ)) (is_taken : InstanceId → Bool) (d : Data) (i : InstanceId) → next_instance_in instances is_taken d ≡ Ok i → IsNext instances is_taken i
next_instance instances is_taken d i is =
    let found = then_ok (instance_in instances d) _ i is in
    let free = passed kinds.TwiceInList (is_taken found.0) (Ok found.0) i found.2 in
    subst (λ (j : InstanceId). IsNext instances is_taken j) (ok_same found.0 i free.1) (record { range = instance_range instances d found.0 found.1; new = free.0 })

list_kept : (instances : List (List ℕ)) (before after : List InstanceId) (d : Data) → IsPreference (length instances) before → preference_in instances before d ≡ Ok after → IsPreference (length instances) after
list_kept instances before after d faultless is =
    let next = then_ok (next_instance_in instances (is_listed before) d) _ after is in
    let good = next_instance instances (is_listed before) d next.0 next.1 in
    subst (λ (list : List InstanceId). IsPreference (length instances) list) (ok_same (before ++ next.0 ∷ []) after next.2) (preference_more (length instances) before next.0 faultless good.range good.new)

lists_kept : (instances : List (List ℕ)) (before after : List (List InstanceId)) (d : Data) → IsFaultless (length instances) [] (Semi before) → list_in instances before d ≡ Ok after → IsFaultless (length instances) [] (Semi after)
lists_kept instances before after d faultless is =
    let ds = then_ok (array_in d) _ after is in
    let list = then_ok (read_all (preference_in instances) [] ds.0) _ after ds.2 in
    let good = keeps (λ (xs : List InstanceId). IsPreference (length instances) xs) (preference_in instances) (list_kept instances) ds.0 0 [] list.0 (λ part. refl) list.1 in
    subst (λ (lists : List (List InstanceId)). IsFaultless (length instances) [] (Semi lists)) (ok_same (before ++ list.0 ∷ []) after list.2) (lists_more (length instances) [] before list.0 good faultless)

entries_kept : (instances states : List (List ℕ)) (model : ModelParts) (before after : List (InstanceId × StateId)) (d : Data) → IsPlacement (length instances) (states_of model) before → entry_in instances states model before d ≡ Ok after → IsPlacement (length instances) (states_of model) after
entries_kept instances states model before after d faultless is =
    let members = then_ok (object_in (codes "instance" ∷ codes "state" ∷ []) d) _ after is in
    let next = then_ok (required (codes "instance") (next_instance_in instances (is_placed before)) members.0) _ after members.2 in
    let state = then_ok (required (codes "state") (state_in states model) members.0) _ after next.2 in
    let read_next = required_ok (codes "instance") (next_instance_in instances (is_placed before)) members.0 next.0 next.1 in
    let read_state = required_ok (codes "state") (state_in states model) members.0 state.0 state.1 in
    let good = next_instance instances (is_placed before) read_next.0 next.0 read_next.1 in
    let name = then_ok (text_in read_state.0) _ state.0 read_state.1 in
    let found = there_or_ok kinds.UnknownState (state_of states model name.0) state.0 name.2 in
    let known = found_state (state_named states name.0).0 (states_of model) state.0 found in
    subst (λ (entries : List (InstanceId × StateId)). IsPlacement (length instances) (states_of model) entries) (ok_same (before ++ (next.0, state.0) ∷ []) after state.2)
    (placement_more (length instances) (states_of model) before next.0 state.0 faultless good.range known good.new)

maps_kept : (instances states : List (List ℕ)) (model : ModelParts) (before after : List (List (InstanceId × StateId))) (d : Data) → IsFaultless (length instances) (states_of model) (Custom before) → map_in instances states model before d ≡ Ok after → IsFaultless (length instances) (states_of model) (Custom after)
maps_kept instances states model before after d faultless is =
    let ds = then_ok (array_in d) _ after is in
    let entries = then_ok (read_all (entry_in instances states model) [] ds.0) _ after ds.2 in
    let good = keeps (λ (xs : List (InstanceId × StateId)). IsPlacement (length instances) (states_of model) xs) (entry_in instances states model) (entries_kept instances states model) ds.0 0 [] entries.0 (λ part. refl) entries.1 in
    subst (λ (maps : List (List (InstanceId × StateId))). IsFaultless (length instances) (states_of model) (Custom maps)) (ok_same (before ++ entries.0 ∷ []) after entries.2) (maps_more (length instances) (states_of model) before entries.0 good faultless)

-- a list or a map for each partition, each kept by what it stands for
each_part : {A : Type 0} (P : List A → Type 0) (parts : ℕ) (read : List A → Data → Found (List A)) → ((before after : List A) (d : Data) → P before → read before d ≡ Ok after → P after)
    → ((before after : List A) (d : Data) → read before d ≡ Ok after → length after ≡ length before + 1) → (d : Data) (all : List A) → P [] → each_part_in parts read d ≡ Ok all → (length all ≡ parts) × P all
each_part P parts read kept one_more d all none is =
    let ds = then_ok (array_in d) _ all is in
    let counted = then_ok (tested ((not (length ds.0 == parts), kinds.PartCount) ∷ []) ds.0) _ all ds.2 in
    let as_many = passed kinds.PartCount (not (length ds.0 == parts)) (Ok ds.0) counted.0 counted.1 in
    let same = ap length (ok_same ds.0 counted.0 as_many.1) in
    let read_them = counts length read one_more counted.0 0 [] all counted.2 in
    (many (length ds.0) (length counted.0) (length all) as_many.0 same read_them, keeps P read kept counted.0 0 [] all none counted.2)
  where
    many : (n m k : ℕ) → not (n == parts) ≡ false → n ≡ m → k ≡ 0 + m → k ≡ parts
    many n m k as_many same read_them = grind (arith, nat_tests, as_many, same, read_them)

list_longer : (instances : List (List ℕ)) (before after : List (List InstanceId)) (d : Data) → list_in instances before d ≡ Ok after → length after ≡ length before + 1
list_longer instances before after d is =
    let ds = then_ok (array_in d) _ after is in
    let list = then_ok (read_all (preference_in instances) [] ds.0) _ after ds.2 in
    omega (arith, ap length (ok_same (before ++ list.0 ∷ []) after list.2), length-append before (list.0 ∷ []))

map_longer : (instances states : List (List ℕ)) (model : ModelParts) (before after : List (List (InstanceId × StateId))) (d : Data) → map_in instances states model before d ≡ Ok after → length after ≡ length before + 1
map_longer instances states model before after d is =
    let ds = then_ok (array_in d) _ after is in
    let entries = then_ok (read_all (entry_in instances states model) [] ds.0) _ after ds.2 in
    omega (arith, ap length (ok_same (before ++ entries.0 ∷ []) after entries.2), length-append before (entries.0 ∷ []))

semi_fault : (replicas parts instances : ℕ) (states : List StateId) (lists : List (List InstanceId)) → (1 ≤ replicas) × (replicas ≤ 64) → (1 ≤ parts) × (parts ≤ 1024) → length lists ≡ parts → IsFaultless instances [] (Semi lists)
    → fault_of replicas parts (Semi lists) instances states ≡ None
semi_fault replicas parts instances states lists some few count faultless = grind (arith, nat_tests, some.0, some.1, few.0, few.1, count, faultless)

custom_fault : (replicas parts instances : ℕ) (states : List StateId) (maps : List (List (InstanceId × StateId))) → (1 ≤ replicas) × (replicas ≤ 64) → (1 ≤ parts) × (parts ≤ 1024) → length maps ≡ parts → IsFaultless instances states (Custom maps)
    → fault_of replicas parts (Custom maps) instances states ≡ None
custom_fault replicas parts instances states maps some few count faultless = grind (arith, nat_tests, some.0, some.1, few.0, few.1, count, faultless)

-- a mode that is read has no fault
pub no_fault : (instances states : List (List ℕ)) (model : ModelParts) (ms : Members) (replicas parts : ℕ) (kind : ModeKind) (lists : List (List InstanceId)) (maps : List (List (InstanceId × StateId)))
    → (1 ≤ replicas) × (replicas ≤ 64) → (1 ≤ parts) × (parts ≤ 1024) → lists_in instances kind parts ms ≡ Ok lists → maps_in instances states model kind parts ms ≡ Ok maps
    → fault_of replicas parts (mode_of kind lists maps) (length instances) (states_of model) ≡ None
no_fault instances states model ms replicas parts FullAuto lists maps some few lists_is maps_is = grind (arith, nat_tests, some.0, some.1, few.0, few.1)
no_fault instances states model ms replicas parts SemiAuto lists maps some few lists_is maps_is =
    let read = required_ok (codes "lists") (each_part_in parts (list_in instances)) ms lists lists_is in
    let good = each_part (λ (xs : List (List InstanceId)). IsFaultless (length instances) [] (Semi xs)) parts (list_in instances) (lists_kept instances) (list_longer instances) read.0 lists refl read.1 in
    semi_fault replicas parts (length instances) (states_of model) lists some few good.0 good.1
no_fault instances states model ms replicas parts Customized lists maps some few lists_is maps_is =
    let read = required_ok (codes "maps") (each_part_in parts (map_in instances states model)) ms maps maps_is in
    let good = each_part (λ (xs : List (List (InstanceId × StateId))). IsFaultless (length instances) (states_of model) (Custom xs)) parts (map_in instances states model) (maps_kept instances states model) (map_longer instances states model) read.0 maps refl read.1 in
    custom_fault replicas parts (length instances) (states_of model) maps some few good.0 good.1
