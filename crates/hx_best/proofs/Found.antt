-- The targets of a part.
use Rattle.std.proofs.Common.{◌≡◌, ℕ, suc, zero, ◌+◌, ◌<◌, ◌||◌, ◌==◌, Bool, true, false, List, [], ◌∷◌, ◌++◌, length, map, take, get_or, Option, Some, None, refl, sym, ap, subst, ◌∙◌, arith, append_assoc, append-nil}
use Rattle.std.specs.Prelude.{if◌then◌else◌, filter, option_map}
use Rattle.std.specs.List.{list_any, position_or_len, filter_map, flat_map, cons_option, slice_get}
use Rattle.std.specs.Option.{option_map_or, is_some}
use Rattle.std.proofs.lemmas.List.{take_more}
use Rattle.std.proofs.lemmas.Option.{slice_get_read}
use Rattle.std.proofs.lemmas.List.Elements.{filter_map-append}
use Rattle.hx_lists.specs.Lists.{numbers_from, numbers_below}
use Rattle.hx_ids.specs.declared.InstanceId.{InstanceId}
use Rattle.hx_ids.specs.declared.StateId.{StateId}
use Rattle.hx_ids.specs.declared.SessionId.{SessionId}
use Rattle.hx_ids.specs.declared.PartId.{PartId}
use Rattle.hx_model.specs.declared.ModelParts.{ModelParts}
use Rattle.hx_cluster.specs.declared.description.Resource.{Resource}
use Rattle.hx_cluster.specs.declared.planning.View.{View}
use Rattle.hx_cluster.specs.declared.planning.Target.{Target}
use Rattle.hx_cluster.specs.declared.state.Row.{Row}
use Rattle.hx_cluster.specs.Ends.{row_of, state_of, resource_at}
use Rattle.hx_best.specs.declared.marks.Mark.{Mark}
use Rattle.hx_best.specs.Wants.{Wants, Listed, Mapped, is_wanted, place_in}
use Rattle.hx_best.specs.Goals.{goal, wanted_goal}
use Rattle.hx_best.specs.Targets.{is_target, target, place_of, targets, targets_in}
use Rattle.hx_best.specs.Places.{Placing, model_in, mark_of, wants_at, place_past, target_at}

not_there : {X : Type 0} (q : X → Bool) (xs : List X) → list_any q xs ≡ false → position_or_len q xs ≡ length xs
not_there q [] e = refl
not_there q (x ∷ xs) e = grind (arith, e, not_there q xs)

-- the place of where a part isn't wanted
past_is : (wants : Wants) (i : InstanceId) → is_wanted wants i ≡ false → place_in wants i ≡ place_past wants
past_is (Listed list) i e = not_there (λ j. j.0 == i.0) list e
past_is (Mapped map) i e = refl

place_is : (x : Placing) (p : PartId) (i : InstanceId) (mark : Option Mark) (past : ℕ) → mark ≡ mark_of x p (wants_at x p) i → past ≡ place_past (wants_at x p)
    → (if x.resource.dropped then 0 else option_map_or (λ m. m.place) mark past) ≡ place_of x.view x.resource p i
place_is x p i mark past is behind = ap (λ (n : ℕ). if x.resource.dropped then 0 else n) (ap (λ (o : Option Mark). option_map_or {T = Mark} (λ m. m.place) o past) is ∙ one (is_wanted (wants_at x p) i) refl)
  where
    one : (b : Bool) → is_wanted (wants_at x p) i ≡ b
        → option_map_or {T = Mark} (λ m. m.place) (if b then Some (record { place = place_in (wants_at x p) i; goal = wanted_goal (model_in x) x.view x.resource p (wants_at x p) i }) else None) past ≡ place_in (wants_at x p) i
    one true e = refl
    one false e = behind ∙ sym (past_is (wants_at x p) i e)

some_state : (o : Option Row) → is_some (option_map (λ r. r.state) o) ≡ is_some o
some_state None = refl
some_state (Some r) = refl

some_mark : (b : Bool) (m : Mark) → is_some {T = Mark} (if b then Some m else None) ≡ b
some_mark true m = refl
some_mark false m = refl

target_if : (x : Placing) (p : PartId) (e : SessionId × InstanceId) (state : Option StateId) (mark : Option Mark) → state ≡ state_of x.view.rows e.0 p → mark ≡ mark_of x p (wants_at x p) e.1
    → (is_some state || is_some mark) ≡ is_target x.view x.resource p e
target_if x p e state mark here is = rw (here, is, some_state (row_of x.view.rows e.0 p), some_mark (is_wanted (wants_at x p) e.1) _) refl

module _ (x : Placing) (p : PartId) (e : SessionId × InstanceId) (state : Option StateId) (mark : Option Mark) (here : state ≡ state_of x.view.rows e.0 p) (is : mark ≡ mark_of x p (wants_at x p) e.1) where
  pub no_target : (is_some state || is_some mark) ≡ false → None ≡ target_at x p e
  no_target none = ap (λ (b : Bool). if b then Some (target x.models x.view x.resource p e) else None) (sym none ∙ target_if x p e state mark here is)

  pub one_target : (q : PartId) (s : StateId) (place past : ℕ) → (is_some state || is_some mark) ≡ true → q ≡ p → s ≡ goal x.models x.view x.resource p e.0 e.1 → past ≡ place_past (wants_at x p)
      → place ≡ (if x.resource.dropped then 0 else option_map_or (λ m. m.place) mark past)
      → Some (record { session = e.0; instance = e.1; part = q; state = state; goal = s; place = place }) ≡ target_at x p e
  one_target q s place past some part leads behind stands =
      let placed = stands ∙ place_is x p e.1 mark past is behind in
      let same : record { session = e.0; instance = e.1; part = q; state = state; goal = s; place = place } ≡ target x.models x.view x.resource p e =
      λ j. record { session = e.0; instance = e.1; part = part j; state = here j; goal = leads j; place = placed j } in
      ap (λ (t : Target). Some t) same
      ∙ ap (λ (b : Bool). if b then Some (target x.models x.view x.resource p e) else None) (sym some ∙ target_if x p e state mark here is)

-- the targets of a part, one by one
pub found_all : (x : Placing) (p : PartId) (xs : List (SessionId × InstanceId)) → filter_map (target_at x p) xs ≡ map (target x.models x.view x.resource p) (filter (is_target x.view x.resource p) xs)
found_all x p [] = refl
found_all x p (e ∷ xs) = one (is_target x.view x.resource p e) (found_all x p xs)
  where
    one : (b : Bool) → filter_map (target_at x p) xs ≡ map (target x.models x.view x.resource p) (filter (is_target x.view x.resource p) xs)
        → cons_option (if b then Some (target x.models x.view x.resource p e) else None) (filter_map (target_at x p) xs)
        ≡ map (target x.models x.view x.resource p) (if b then e ∷ filter (is_target x.view x.resource p) xs else filter (is_target x.view x.resource p) xs)
    one true more = ap (λ (ts : List Target). target x.models x.view x.resource p e ∷ ts) more
    one false more = more

pub found_more : {X : Type 0} (f : X → Option Target) (old now new : List Target) (xs : List X) (k : ℕ) (d : X) → k < length xs
    → now ≡ old ++ filter_map f (take k xs) → new ≡ now ++ cons_option (f (get_or xs k d)) [] → new ≡ old ++ filter_map f (take (k + 1) xs)
found_more f old now new xs k d lt so is =
    is ∙ rw so (append_assoc old (filter_map f (take k xs)) (cons_option (f (get_or xs k d)) []))
    ∙ ap (λ (ts : List Target). old ++ ts) (sym (filter_map-append f (take k xs) (get_or xs k d ∷ [])) ∙ ap (filter_map f) (sym (take_more xs k d lt)))

-- one number more
flat_map-numbers_from-suc : {X : Type 0} (f : ℕ → List X) (a n : ℕ) → flat_map f (numbers_from a (suc n)) ≡ flat_map f (numbers_from a n) ++ f (a + n)
flat_map-numbers_from-suc f a zero = grind (arith, append-nil (f a))
flat_map-numbers_from-suc f a (suc n) = grind (arith, flat_map-numbers_from-suc f (a + 1) n, append_assoc (f a) (flat_map f (numbers_from (a + 1) n)) (f (a + 1 + n)))

pub flat_map-numbers_below_more : {X : Type 0} (f : ℕ → List X) (n : ℕ) → flat_map f (numbers_below (n + 1)) ≡ flat_map f (numbers_below n) ++ f n
flat_map-numbers_below_more f n = grind (arith, flat_map-numbers_from-suc f 0 n)

-- behind others
pub added_more : {X : Type 0} (f : ℕ → List X) (n : ℕ) (old now new : List X) → now ≡ old ++ flat_map f (numbers_below n) → new ≡ now ++ f n → new ≡ old ++ flat_map f (numbers_below (n + 1))
added_more f n old now new so is = is ∙ rw so (append_assoc old (flat_map f (numbers_below n)) (f n)) ∙ ap (λ (xs : List _). old ++ xs) (sym (flat_map-numbers_below_more f n))

-- those of a resource that is read in its place
pub targets_read : (models : List ModelParts) (view index : View) (read : List Resource) (count k : ℕ) (r : Resource) → index ≡ view → read ≡ index.ideals.resources
    → count ≡ length read → k < count → r ≡ get_or read k r → targets models view (record { 0 = k }) ≡ targets_in models view (record { 0 = k }) r
targets_read models view index read count k r same are long lt is =
    let there : resource_at view.ideals.resources (record { 0 = k }) ≡ Some r =
    subst (λ (rs : List Resource). slice_get rs k ≡ Some r) (are ∙ ap (λ (v : View). v.ideals.resources) same) (slice_get_read read count k r long lt is) in
    ap (λ (o : Option Resource). option_map_or (targets_in models view (record { 0 = k })) o []) there
