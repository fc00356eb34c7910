-- Where the entries of a part stand, and its rows are theirs, each target of the part is at its goal.
use Rattle.std.proofs.Common.{◌≡◌, ℕ, suc, ◌+◌, ◌==◌, ◌&&◌, ◌||◌, not, Bool, true, false, List, [], ◌∷◌, length, map, find, take, Option, Some, None, refl, sym, ap, ◌∙◌, subst, arith, zero-add, add-zero}
use Rattle.std.specs.Prelude.{filter, if◌then◌else◌, option_map, slice_index_or}
use Rattle.std.specs.List.{list_any, list_all, before_first, position_or_len, AllByRecursion, IsDistinct}
use Rattle.std.specs.Option.{option_map_or, is_some}
use Rattle.std.proofs.lemmas.Bool.Decides.{nat_tests}
use Rattle.std.proofs.lemmas.Map.Keys.{IsDistinct-head, IsDistinct-tail}
use Rattle.hx_lists.specs.Lists.{count, insert_by, sort_by}
use Rattle.hx_ids.specs.declared.InstanceId.{InstanceId}
use Rattle.hx_ids.specs.declared.StateId.{StateId}
use Rattle.hx_ids.specs.declared.SessionId.{SessionId}
use Rattle.hx_ids.specs.declared.PartId.{PartId}
use Rattle.hx_model.specs.Model.{dropped}
use Rattle.hx_cluster.specs.declared.state.Row.{Row}
use Rattle.hx_cluster.specs.declared.planning.Target.{Target}
use Rattle.hx_cluster.specs.Ends.{part_eq, row_of, state_of, session_in, instance_in}
use Rattle.hx_cluster.specs.Reads.{instance_before}
use Rattle.hx_cluster.specs.Steps.{is_drained, is_error}
use Rattle.hx_parts.specs.Parts.{items_at}
use Rattle.hx_parts.proofs.Narrow.{state-at}
use Rattle.hx_best.specs.Lookups.{IsPlain}
use Rattle.hx_ideal.specs.declared.Mode.{Mode}
use Rattle.hx_ideal.specs.declared.Mode.TheVariants as modes
use Rattle.hx_best.specs.Wants.{Wants, Listed, Mapped, is_wanted, by_instance, open_instances, in_turn, wants_in}
use Rattle.hx_best.specs.Goals.{is_in_error, is_eligible, eligible_before, best_below, wanted_goal, goal}
use Rattle.hx_best.specs.Targets.{is_target, is_shown_as, target, targets_at}
use Rattle.hx_best.specs.Places.{Placing, model_in, wants_at, rows_at}
use Rattle.hx_best.specs.Still.{is_there, is_at_goal, goal_on, stands, list_stands, map_stands, is_on, list_covers, map_covers}
use Rattle.hx_lists.proofs.Conditions.{and-first, and-second, and-both}

pub same_number : (a b : ℕ) → (a == b) ≡ true → a ≡ b
same_number a b e = grind (arith, nat_tests, e)

pub is_same : (a : ℕ) → (a == a) ≡ true
is_same a = grind (arith, nat_tests)

-- a test of all items, in an order
all-insert : {X : Type 0} (lt : X → X → Bool) (q : X → Bool) (x : X) (ys : List X) → list_all q (insert_by lt x ys) ≡ (q x && list_all q ys)
all-insert lt q x [] = grind arith
all-insert lt q x (y ∷ ys) = grind (arith, all-insert lt q x ys)

pub all-sort : {X : Type 0} (lt : X → X → Bool) (q : X → Bool) (xs : List X) → list_all q (sort_by lt xs) ≡ list_all q xs
all-sort lt q [] = refl
all-sort lt q (x ∷ xs) = all-insert lt q x (sort_by lt xs) ∙ ap (λ (b : Bool). q x && b) (all-sort lt q xs)

-- and of those that pass another one
all-filtered : {X Y : Type 0} (q : Y → Bool) (f : X → Y) (t : X → Bool) (xs : List X) → list_all (λ x. not (t x) || q (f x)) xs ≡ true → list_all q (map f (filter t xs)) ≡ true
all-filtered q f t [] e = refl
all-filtered {X} {Y} q f t (x ∷ xs) e = one (t x) refl (all-filtered q f t xs (and-second (not (t x) || q (f x)) (list_all (λ x. not (t x) || q (f x)) xs) e)) (and-first (not (t x) || q (f x)) (list_all (λ x. not (t x) || q (f x)) xs) e)
  where
    one : (b : Bool) → t x ≡ b → list_all q (map f (filter t xs)) ≡ true → (not (t x) || q (f x)) ≡ true → list_all q (map f (if b then x ∷ filter t xs else filter t xs)) ≡ true
    one true is more here = and-both (q (f x)) (list_all q (map f (filter t xs))) (grind (arith, is, here)) more
    one false is more here = more

-- who is shown on an instance is shown there
pub shown_on : (live : List (SessionId × InstanceId)) (i : InstanceId) (s : SessionId) → session_in live i ≡ Some s → list_any (is_shown_as s i) live ≡ true
shown_on [] i s e = cc
shown_on (x ∷ live) i s e = one (x.1.0 == i.0) refl e (shown_on live i s)
  where
    one : (b : Bool) → (x.1.0 == i.0) ≡ b → option_map (λ e. e.0) (if b then Some x else find (λ e. e.1.0 == i.0) live) ≡ Some s
        → (session_in live i ≡ Some s → list_any (is_shown_as s i) live ≡ true) → list_any (is_shown_as s i) (x ∷ live) ≡ true
    one true at is more =
        let same : x.0 ≡ s = cc in
        grind (arith, at, is_same s.0, ap (λ (t : SessionId). t.0 == s.0) same)
    one false at is more = grind (arith, more is)

pub own_session : (o : Option SessionId) (s : SessionId) → option_map_or (λ t. t.0 == s.0) o false ≡ true → o ≡ Some s
own_session None s h = cc
own_session (Some t) s h = ap (λ (n : ℕ). let u : SessionId = record { 0 = n } in Some u) (same_number t.0 s.0 h)

-- where none is shown twice, a session has the instance where it is shown
none_later : (live : List (SessionId × InstanceId)) (a : ℕ) (s : SessionId) (i : InstanceId) → AllByRecursion (λ b. (a == b) ≡ false) (map (λ e. e.0.0) live) → a ≡ s.0 → list_any (is_shown_as s i) live ≡ false
none_later [] a s i none is = refl
none_later (x ∷ live) a s i none is =
    let here : (x.0.0 == s.0) ≡ false = grind (arith, nat_tests, none.0, is) in
    grind (arith, here, none_later live a s i none.1 is)

known : (live : List (SessionId × InstanceId)) → IsDistinct (λ a b. a == b) (map (λ e. e.0.0) live) → (s : SessionId) (i : InstanceId) → list_any (is_shown_as s i) live ≡ true → instance_in live s ≡ Some i
known [] once s i e = cc
known (x ∷ live) once s i e = one (x.0.0 == s.0) refl (x.1.0 == i.0) refl e (known live (IsDistinct-tail (λ a b. a == b) x.0.0 (map (λ e. e.0.0) live) once) s i)
  where
    one : (a : Bool) → (x.0.0 == s.0) ≡ a → (b : Bool) → (x.1.0 == i.0) ≡ b → (a && b || list_any (is_shown_as s i) live) ≡ true
        → (list_any (is_shown_as s i) live ≡ true → instance_in live s ≡ Some i)
        → option_map (λ e. e.1) (if a then Some x else find (λ e. e.0.0 == s.0) live) ≡ Some i
    one true at true on any more = ap (λ (n : ℕ). let j : InstanceId = record { 0 = n } in Some j) (same_number x.1.0 i.0 on)
    one true at false on any more =
        let none = none_later live x.0.0 s i (IsDistinct-head (λ a b. a == b) x.0.0 (map (λ e. e.0.0) live) once) (same_number x.0.0 s.0 at) in
        cc (none, any)
    one false at b on any more = more any

one_instance : (live : List (SessionId × InstanceId)) → IsDistinct (λ a b. a == b) (map (λ e. e.0.0) live) → (s : SessionId) (i j : InstanceId)
    → list_any (is_shown_as s i) live ≡ true → session_in live j ≡ Some s → j ≡ i
one_instance live once s i j shown on =
    let a : Some j ≡ Some i = sym (known live once s j (shown_on live j s on)) ∙ known live once s i shown in
    cc a

-- a row of the session, where it has one
row_passes : (q : Row → Bool) (s : SessionId) (p : PartId) (rows : List Row) → list_all q (items_at (λ r. r.part) p rows) ≡ true → is_some (row_of rows s p) ≡ true
    → (r : Row) × ((q r ≡ true) × ((r.session.0 == s.0) ≡ true))
row_passes q s p [] all some = cc
row_passes q s p (r ∷ rows) all some = one (r.session.0 == s.0) refl (part_eq r.part p) refl all some (row_passes q s p rows)
  where
    one : (a : Bool) → (r.session.0 == s.0) ≡ a → (b : Bool) → part_eq r.part p ≡ b
        → list_all q (if b then r ∷ items_at (λ r. r.part) p rows else items_at (λ r. r.part) p rows) ≡ true
        → is_some (if a && b then Some r else row_of rows s p) ≡ true
        → (list_all q (items_at (λ r. r.part) p rows) ≡ true → is_some (row_of rows s p) ≡ true → (r : Row) × ((q r ≡ true) × ((r.session.0 == s.0) ≡ true)))
        → (r : Row) × ((q r ≡ true) × ((r.session.0 == s.0) ≡ true))
    one true is true of all some more = (r, (and-first (q r) _ all, is))
    one true is false of all some more = more all some
    one false is true of all some more = more (and-second (q r) _ all) some
    one false is false of all some more = more all some

-- where each row is of an instance where one is wanted, who has a row is on such an instance
module _ (x : Placing) (p : PartId) (expects : Row → Bool) (plain : IsPlain x.view.live) where
  on_session : (i : InstanceId) (r : Row) (s : SessionId) → is_on x.view.live i r ≡ true → (r.session.0 == s.0) ≡ true → session_in x.view.live i ≡ Some s
  on_session i r s on of = one (session_in x.view.live i) on
    where
      one : (o : Option SessionId) → option_map_or (λ t. r.session.0 == t.0) o false ≡ true → o ≡ Some s
      one None e = cc
      one (Some t) e =
          let same : t.0 ≡ s.0 = sym (same_number r.session.0 t.0 e) ∙ same_number r.session.0 s.0 of in
          ap (λ (n : ℕ). let u : SessionId = record { 0 = n } in Some u) same

  pub row_wanted : list_all expects (rows_at x p) ≡ true → ((r : Row) → expects r ≡ true → (i : InstanceId) × ((is_wanted (wants_at x p) i ≡ true) × (is_on x.view.live i r ≡ true)))
      → (s : SessionId) (i : InstanceId) → list_any (is_shown_as s i) x.view.live ≡ true → is_some (row_of x.view.rows s p) ≡ true → is_wanted (wants_at x p) i ≡ true
  row_wanted rows theirs s i shown some =
      let row = row_passes expects s p x.view.rows rows some in
      let entry = theirs row.0 row.1.0 in
      let same : entry.0 ≡ i = one_instance x.view.live plain.once s i entry.0 shown (on_session entry.0 row.0 s entry.1.1 row.1.1) in
      subst (λ (j : InstanceId). is_wanted (wants_at x p) j ≡ true) same entry.1.0

-- what the entries are to show of a part: the replica of each instance where one is wanted stands, and each row is of such an instance
record Shows (x : Placing) (p : PartId) (wants : Wants) (expects : Row → Bool) : Type 0 where
  each : (i : InstanceId) → is_wanted wants i ≡ true → stands x p i (wanted_goal (model_in x) x.view x.resource p wants i) ≡ true
  rows : list_all expects (rows_at x p) ≡ true
  theirs : (r : Row) → expects r ≡ true → (i : InstanceId) × ((is_wanted wants i ≡ true) × (is_on x.view.live i r ≡ true))

module _ (x : Placing) (p : PartId) (expects : Row → Bool) (shows : Shows x p (wants_at x p) expects) (kept : x.resource.dropped ≡ false) (plain : IsPlain x.view.live) where
  abbrev live_of : List (SessionId × InstanceId)
  live_of = x.view.live

  its_goal : (s : SessionId) (i : InstanceId) → is_wanted (wants_at x p) i ≡ true → goal x.models x.view x.resource p s i ≡ goal_on x p s i (wanted_goal (model_in x) x.view x.resource p (wants_at x p) i)
  its_goal s i wanted = rw (kept, wanted) refl

  wanted_done : (s : SessionId) (i : InstanceId) → session_in x.view.live i ≡ Some s → is_wanted (wants_at x p) i ≡ true → is_at_goal (model_in x) (target x.models x.view x.resource p (s, i)) ≡ true
  wanted_done s i own wanted =
      let w : StateId = wanted_goal (model_in x) x.view x.resource p (wants_at x p) i in
      ap (is_there (model_in x) (state_of x.view.rows s p)) (its_goal s i wanted)
      ∙ subst (λ (o : Option SessionId). option_map_or (λ s. is_there (model_in x) (state_of x.view.rows s p) (goal_on x p s i w)) o true ≡ true) own (shows.each i wanted)

  not_wanted : (s : SessionId) (i : InstanceId) → list_any (is_shown_as s i) x.view.live ≡ true → is_some (row_of x.view.rows s p) ≡ true → is_wanted (wants_at x p) i ≡ true
  not_wanted = row_wanted x p expects plain shows.rows shows.theirs

  session_done : (s : SessionId) (i : InstanceId) → session_in x.view.live i ≡ Some s → (not (is_target x.view x.resource p (s, i)) || is_at_goal (model_in x) (target x.models x.view x.resource p (s, i))) ≡ true
  session_done s i own = one (is_some (row_of x.view.rows s p)) refl (is_wanted (wants_at x p) i) refl
    where
      one : (a : Bool) → is_some (row_of x.view.rows s p) ≡ a → (b : Bool) → is_wanted (wants_at x p) i ≡ b
          → (not (a || b) || is_at_goal (model_in x) (target x.models x.view x.resource p (s, i))) ≡ true
      one a some true is = grind (arith, wanted_done s i own is)
      one true some false is = cc (not_wanted s i (shown_on x.view.live i s own) some, is)
      one false some false is = refl

  each_done : (es : List (SessionId × InstanceId)) → list_all (λ e. option_map_or (λ s. s.0 == e.0.0) (session_in x.view.live e.1) false) es ≡ true
      → list_all (λ e. not (is_target x.view x.resource p e) || is_at_goal (model_in x) (target x.models x.view x.resource p e)) es ≡ true
  each_done [] own = refl
  each_done (e ∷ es) own =
      and-both (not (is_target x.view x.resource p e) || is_at_goal (model_in x) (target x.models x.view x.resource p e)) _
      (session_done e.0 e.1 (own_session (session_in x.view.live e.1) e.0 (and-first (option_map_or (λ s. s.0 == e.0.0) (session_in x.view.live e.1) false) _ own)))
      (each_done es (and-second (option_map_or (λ s. s.0 == e.0.0) (session_in x.view.live e.1) false) _ own))

  all_done : list_all (is_at_goal (model_in x)) (targets_at x.models x.view x.resource p) ≡ true
  all_done =
      all-filtered (is_at_goal (model_in x)) (target x.models x.view x.resource p) (is_target x.view x.resource p) (by_instance x.view.live)
      (all-sort instance_before (λ e. not (is_target x.view x.resource p e) || is_at_goal (model_in x) (target x.models x.view x.resource p e)) x.view.live ∙ each_done x.view.live plain.own)

suc_behind : (a b : ℕ) → a + suc b ≡ a + 1 + b
suc_behind a b = omega arith

-- what stands before the and-first that passes
before_here : {X : Type 0} (q : X → Bool) (x : X) (xs : List X) → q x ≡ true → before_first q (x ∷ xs) ≡ []
before_here q x xs e = let none : position_or_len q (x ∷ xs) ≡ 0 = grind (arith, e) in ap (λ (n : ℕ). take n (x ∷ xs)) none

before_next : {X : Type 0} (q : X → Bool) (x : X) (xs : List X) → q x ≡ false → before_first q (x ∷ xs) ≡ x ∷ before_first q xs
before_next q x xs e = let more : position_or_len q (x ∷ xs) ≡ suc (position_or_len q xs) = grind (arith, e) in ap (λ (n : ℕ). take n (x ∷ xs)) more

-- an entry whose instance has a session
module _ (x : Placing) (p : PartId) (i : InstanceId) (s : SessionId) (on : Some s ≡ session_in x.view.live i) (state : Option StateId) (has : state ≡ state_of x.view.rows s p) where
  pub entry_done : (wanted aim : StateId) → aim ≡ goal_on x p s i wanted → is_there (model_in x) state aim ≡ true → stands x p i wanted ≡ true
  entry_done wanted aim is there =
      ap (λ (o : Option SessionId). option_map_or (λ s. is_there (model_in x) (state_of x.view.rows s p) (goal_on x p s i wanted)) o true) (sym on)
      ∙ ap (λ (o : Option StateId). is_there (model_in x) o (goal_on x p s i wanted)) (sym has) ∙ ap (is_there (model_in x) state) (sym is) ∙ there

  pub eligible_is : is_eligible x.view p i ≡ (not (is_drained x.view.ideals.drained i) && not (is_error state))
  eligible_is =
      ap (λ (o : Option SessionId). option_map_or (λ s. not (is_drained x.view.ideals.drained i) && not (is_in_error x.view s p)) o false) (sym on)
      ∙ ap (λ (o : Option StateId). not (is_drained x.view.ideals.drained i) && not (is_error o)) (sym has)

  pub open_eligible : (drained : Bool) → is_error state ≡ false → drained ≡ is_drained x.view.ideals.drained i → not drained ≡ is_eligible x.view p i
  open_eligible drained fine is = grind (arith, fine, is, eligible_is)

  pub failed_eligible : (failed : Bool) → failed ≡ is_error state → failed ≡ true → not failed ≡ is_eligible x.view p i
  failed_eligible failed is fails = grind (arith, is, fails, eligible_is)

-- the and-first entry of an instance in a list
entry_stands : (x : Placing) (p : PartId) (list : List InstanceId) (rank : ℕ) (i : InstanceId) → list_stands x p list rank ≡ true → list_any (λ j. j.0 == i.0) list ≡ true
    → stands x p i (best_below (model_in x) x.resource.ideal.replicas (length x.view.live) (rank + eligible_before x.view p list i)) ≡ true
entry_stands x p [] rank i stand any = cc
entry_stands x p (j ∷ list) rank i stand any =
    one (j.0 == i.0) refl (is_eligible x.view p j) refl any (and-first (stands x p j (below rank)) _ stand) (and-second (stands x p j (below rank)) _ stand) (λ n. entry_stands x p list n i)
  where
    below : ℕ → StateId
    below n = best_below (model_in x) x.resource.ideal.replicas (length x.view.live) n

    before : ℕ
    before = eligible_before x.view p list i

    one : (a : Bool) → (j.0 == i.0) ≡ a → (b : Bool) → is_eligible x.view p j ≡ b → (a || list_any (λ j. j.0 == i.0) list) ≡ true → stands x p j (below rank) ≡ true
        → list_stands x p list (if b then rank + 1 else rank) ≡ true
        → ((n : ℕ) → list_stands x p list n ≡ true → list_any (λ j. j.0 == i.0) list ≡ true → stands x p i (below (n + before)) ≡ true)
        → stands x p i (below (rank + eligible_before x.view p (j ∷ list) i)) ≡ true
    one true at b can any here behind more =
        let same : j ≡ i = ap (λ (n : ℕ). let k : InstanceId = record { 0 = n } in k) (same_number j.0 i.0 at) in
        let none : rank + eligible_before x.view p (j ∷ list) i ≡ rank =
        ap (λ (xs : List InstanceId). rank + count (is_eligible x.view p) xs) (before_here (λ k. k.0 == i.0) j list at) ∙ add-zero rank in
        ap (λ (n : ℕ). stands x p i (below n)) none ∙ subst (λ (k : InstanceId). stands x p k (below rank) ≡ true) same here
    one false at true can any here behind more =
        let next : rank + eligible_before x.view p (j ∷ list) i ≡ rank + 1 + before =
        ap (λ (xs : List InstanceId). rank + count (is_eligible x.view p) xs) (before_next (λ k. k.0 == i.0) j list at)
        ∙ ap (λ (b : Bool). rank + length (if b then j ∷ filter (is_eligible x.view p) (before_first (λ k. k.0 == i.0) list) else filter (is_eligible x.view p) (before_first (λ k. k.0 == i.0) list))) can
        ∙ suc_behind rank before in
        ap (λ (n : ℕ). stands x p i (below n)) next ∙ more (rank + 1) behind any
    one false at false can any here behind more =
        let next : rank + eligible_before x.view p (j ∷ list) i ≡ rank + before =
        ap (λ (xs : List InstanceId). rank + count (is_eligible x.view p) xs) (before_next (λ k. k.0 == i.0) j list at)
        ∙ ap (λ (b : Bool). rank + length (if b then j ∷ filter (is_eligible x.view p) (before_first (λ k. k.0 == i.0) list) else filter (is_eligible x.view p) (before_first (λ k. k.0 == i.0) list))) can in
        ap (λ (n : ℕ). stands x p i (below n)) next ∙ more rank behind any

-- and in a map
mapped_stands : (x : Placing) (p : PartId) (map : List (InstanceId × StateId)) (i : InstanceId) → map_stands x p map ≡ true → list_any (λ e. e.0.0 == i.0) map ≡ true
    → stands x p i (option_map_or (λ e. e.1) (find (λ e. e.0.0 == i.0) map) dropped) ≡ true
mapped_stands x p [] i stand any = cc
mapped_stands x p (e ∷ map) i stand any = one (e.0.0 == i.0) refl any (and-first (stands x p e.0 e.1) _ stand) (mapped_stands x p map i (and-second (stands x p e.0 e.1) _ stand))
  where
    one : (a : Bool) → (e.0.0 == i.0) ≡ a → (a || list_any (λ e. e.0.0 == i.0) map) ≡ true → stands x p e.0 e.1 ≡ true
        → (list_any (λ e. e.0.0 == i.0) map ≡ true → stands x p i (option_map_or (λ e. e.1) (find (λ e. e.0.0 == i.0) map) dropped) ≡ true)
        → stands x p i (option_map_or (λ e. e.1) (if a then Some e else find (λ e. e.0.0 == i.0) map) dropped) ≡ true
    one true at any here more =
        let same : e.0 ≡ i = ap (λ (n : ℕ). let k : InstanceId = record { 0 = n } in k) (same_number e.0.0 i.0 at) in
        subst (λ (k : InstanceId). stands x p k e.1 ≡ true) same here
    one false at any here more = more any

-- an entry that a row is of
pub some_entry : {X : Type 0} (instance : X → InstanceId) (on : InstanceId → Bool) (xs : List X) → list_any (λ y. on (instance y)) xs ≡ true
    → (i : InstanceId) × ((list_any (λ y. (instance y).0 == i.0) xs ≡ true) × (on i ≡ true))
some_entry instance on [] any = cc
some_entry {X} instance on (y ∷ xs) any = one (on (instance y)) refl any (some_entry instance on xs)
  where
    one : (a : Bool) → on (instance y) ≡ a → (a || list_any (λ y. on (instance y)) xs) ≡ true
        → (list_any (λ y. on (instance y)) xs ≡ true → (i : InstanceId) × ((list_any (λ y. (instance y).0 == i.0) xs ≡ true) × (on i ≡ true)))
        → (i : InstanceId) × ((list_any (λ y. (instance y).0 == i.0) (y ∷ xs) ≡ true) × (on i ≡ true))
    one true is any more = (instance y, (grind (arith, is_same (instance y).0), is))
    one false is any more = let rest = more any in (rest.0, (grind (arith, rest.1.0), rest.1.1))

module _ (x : Placing) (p : PartId) (kept : x.resource.dropped ≡ false) (plain : IsPlain x.view.live) where
  pub list_still : (list : List InstanceId) → wants_at x p ≡ Listed list → (list_stands x p list 0 ≡ true) × (list_covers x p list ≡ true) → list_all (is_at_goal (model_in x)) (targets_at x.models x.view x.resource p) ≡ true
  list_still list is found =
      let expects : Row → Bool = λ r. list_any (λ i. is_on x.view.live i r) list in
      let shows : Shows x p (Listed list) expects = record {
        each = λ i wanted. ap (λ (n : ℕ). stands x p i (best_below (model_in x) x.resource.ideal.replicas (length x.view.live) n)) (sym (zero-add (eligible_before x.view p list i)))
            ∙ entry_stands x p list 0 i found.0 wanted;
        rows = found.1;
        theirs = λ r e. some_entry (λ i. i) (λ i. is_on x.view.live i r) list e;
      } in
      all_done x p expects (subst (λ (w : Wants). Shows x p w expects) (sym is) shows) kept plain

  pub map_still : (map : List (InstanceId × StateId)) → wants_at x p ≡ Mapped map → (map_stands x p map ≡ true) × (map_covers x p map ≡ true) → list_all (is_at_goal (model_in x)) (targets_at x.models x.view x.resource p) ≡ true
  map_still map is found =
      let expects : Row → Bool = λ r. list_any (λ e. is_on x.view.live e.0 r) map in
      let shows : Shows x p (Mapped map) expects = record {
        each = λ i wanted. mapped_stands x p map i found.0 wanted;
        rows = found.1;
        theirs = λ r e. some_entry (λ e. e.0) (λ i. is_on x.view.live i r) map e;
      } in
      all_done x p expects (subst (λ (w : Wants). Shows x p w expects) (sym is) shows) kept plain

-- by the mode of the resource
module _ (x : Placing) (p : PartId) (kept : x.resource.dropped ≡ false) (plain : IsPlain x.view.live) (mode : Mode) (of : mode ≡ x.resource.ideal.mode) where
  pub wants_is : (m : Mode) → mode ≡ m → wants_at x p ≡ wants_in m x.view x.resource.ideal.replicas p.index
  wants_is m is = ap (λ (m : Mode). wants_in m x.view x.resource.ideal.replicas p.index) (sym of ∙ is)

  pub full_still : (list : List InstanceId) → mode ≡ modes.Full → list ≡ in_turn (open_instances x.view) x.resource.ideal.replicas p.index
      → (list_stands x p list 0 ≡ true) × (list_covers x p list ≡ true) → list_all (is_at_goal (model_in x)) (targets_at x.models x.view x.resource p) ≡ true
  full_still list is turn found = list_still x p kept plain list (wants_is modes.Full is ∙ ap (λ (list : List InstanceId). Listed list) (sym turn)) found

  pub semi_still : (lists : List (List InstanceId)) (list : List InstanceId) → mode ≡ modes.Semi lists → list ≡ slice_index_or lists p.index []
      → (list_stands x p list 0 ≡ true) × (list_covers x p list ≡ true) → list_all (is_at_goal (model_in x)) (targets_at x.models x.view x.resource p) ≡ true
  semi_still lists list is at found = list_still x p kept plain list (wants_is (modes.Semi lists) is ∙ ap (λ (list : List InstanceId). Listed list) (sym at)) found

  pub custom_still : (maps : List (List (InstanceId × StateId))) (map : List (InstanceId × StateId)) → mode ≡ modes.Custom maps → map ≡ slice_index_or maps p.index []
      → (map_stands x p map ≡ true) × (map_covers x p map ≡ true) → list_all (is_at_goal (model_in x)) (targets_at x.models x.view x.resource p) ≡ true
  custom_still maps map is at found = map_still x p kept plain map (wants_is (modes.Custom maps) is ∙ ap (λ (map : List (InstanceId × StateId)). Mapped map) (sym at)) found

pub no_rows : (rows : List Row) → (length rows == 0) ≡ true → rows ≡ []
no_rows [] e = refl
no_rows (r ∷ rows) e = absurd (omega (arith, same_number (length (r ∷ rows)) 0 e))

-- no replica of a dropped resource has a row
pub dropped_still : (x : Placing) (p : PartId) → x.resource.dropped ≡ true → rows_at x p ≡ [] → list_all (is_at_goal (model_in x)) (targets_at x.models x.view x.resource p) ≡ true
dropped_still x p gone none = all-map (target x.models x.view x.resource p) each (filter (is_target x.view x.resource p) (by_instance x.view.live))
  where
    no_state : (s : SessionId) → state_of x.view.rows s p ≡ None
    no_state s = sym (state-at x.view.rows s p) ∙ ap (λ (rows : List Row). state_of rows s p) none

    each : (e : SessionId × InstanceId) → is_at_goal (model_in x) (target x.models x.view x.resource p e) ≡ true
    each e = rw (no_state e.0, gone) (grind arith)

    all-map : (f : SessionId × InstanceId → Target) → ((e : SessionId × InstanceId) → is_at_goal (model_in x) (f e) ≡ true) → (es : List (SessionId × InstanceId)) → list_all (is_at_goal (model_in x)) (map f es) ≡ true
    all-map f h [] = refl
    all-map f h (e ∷ es) = and-both (is_at_goal (model_in x) (f e)) (list_all (is_at_goal (model_in x)) (map f es)) (h e) (all-map f h es)
