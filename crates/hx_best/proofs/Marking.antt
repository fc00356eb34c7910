-- Marks of where a part is wanted, one entry more.
use Rattle.std.proofs.Common.{◌≡◌, ℕ, ◌+◌, ◌<◌, ◌==◌, Bool, true, false, List, [], ◌∷◌, ◌++◌, length, map, take, get_or, Option, Some, None, refl, sym, ap, ◌∙◌, arith, find, not, cond, ◌≤◌}
use mir.Val.{bool_byte}
use Rattle.std.specs.Prelude.{if◌then◌else◌, slice_get, is_some}
use Rattle.std.specs.List.{list_any, position_or_len, filter_map}
use Rattle.std.specs.Option.{option_or}
use Rattle.std.proofs.lemmas.Bool.Decides.{nat_tests}
use Rattle.std.proofs.lemmas.List.{take_more, take_all, take-append-le, length-take-le}
use Rattle.std.proofs.lemmas.List.Sums.{prefix_len-le-length}
use Rattle.std.proofs.lemmas.List.Folds.{list_any-append, find-append}
use Rattle.std.proofs.lemmas.List.Filters.{length-filter_more}
use Rattle.std.proofs.lemmas.Option.{slice_get-get_or}
use Rattle.std.proofs.lemmas.List.Elements.{filter_map-append}
use Rattle.hx_lists.specs.Lists.{count, numbers_below}
use Rattle.hx_ids.specs.declared.InstanceId.{InstanceId}
use Rattle.hx_ids.specs.declared.StateId.{StateId}
use Rattle.hx_ids.specs.declared.SessionId.{SessionId}
use Rattle.hx_ids.specs.declared.PartId.{PartId}
use Rattle.hx_best.specs.declared.marks.Mark.{Mark}
use Rattle.hx_best.specs.Wants.{Listed, Mapped}
use Rattle.hx_best.specs.Goals.{is_eligible, best_below}
use Rattle.hx_best.specs.Places.{Placing, model_in, mark_of, order_of, IsMarked}
use Rattle.hx_best.specs.Visits.{mark_at, is_visited}
use Rattle.hx_best.specs.declared.visits.Visit.{Visit}
use Rattle.hx_best.proofs.Best.{map-numbers_below_more}

any_found : {X : Type 0} (q : X → Bool) (xs : List X) → list_any q xs ≡ is_some (find q xs)
any_found q [] = refl
any_found q (x ∷ xs) = grind (arith, any_found q xs)

place_kept : {X : Type 0} (q : X → Bool) (xs ys : List X) → list_any q xs ≡ true → position_or_len q (xs ++ ys) ≡ position_or_len q xs
place_kept q [] ys e = cc
place_kept q (x ∷ xs) ys e = grind (arith, e, place_kept q xs ys)

place_new : {X : Type 0} (q : X → Bool) (xs : List X) (y : X) → list_any q xs ≡ false → q y ≡ true → position_or_len q (xs ++ y ∷ []) ≡ length xs
place_new q [] y e is = grind (arith, is)
place_new q (x ∷ xs) y e is = grind (arith, e, is, place_new q xs y)

front_kept : {X : Type 0} (q : X → Bool) (xs ys : List X) → take (position_or_len q xs) (xs ++ ys) ≡ take (position_or_len q xs) xs
front_kept q xs ys = take-append-le (position_or_len q xs) xs ys (prefix_len-le-length (λ x. not (q x)) xs)

front_all : {X : Type 0} (xs : List X) (y : X) → take (length xs) (xs ++ y ∷ []) ≡ xs
front_all [] y = refl
front_all (x ∷ xs) y = ap (λ (ys : List _). x ∷ ys) (front_all xs y)

turned : (a b : ℕ) → (a == b) ≡ (b == a)
turned a b = grind (arith, nat_tests)

module _ (x : Placing) (p : PartId) where
  -- the mark of a list's next entry
  abbrev pub next_mark : List InstanceId → Mark
  next_mark xs = record { place = length xs; goal = best_below (model_in x) x.resource.ideal.replicas (length x.view.live) (count (is_eligible x.view p) xs) }

  pub listed_more : (xs : List InstanceId) (y i : InstanceId) → mark_of x p (Listed (xs ++ y ∷ [])) i ≡ option_or (mark_of x p (Listed xs) i) (if i.0 == y.0 then Some (next_mark xs) else None)
  listed_more xs y i = one (list_any q xs) refl (y.0 == i.0) refl
    where
      q : InstanceId → Bool
      q j = j.0 == i.0

      one : (a : Bool) → list_any q xs ≡ a → (b : Bool) → (y.0 == i.0) ≡ b
          → mark_of x p (Listed (xs ++ y ∷ [])) i ≡ option_or (mark_of x p (Listed xs) i) (if i.0 == y.0 then Some (next_mark xs) else None)
      one true is b at = rw (list_any-append q xs (y ∷ []), is, place_kept q xs (y ∷ []) is, front_kept q xs (y ∷ [])) refl
      one false is true at = rw (list_any-append q xs (y ∷ []), is, at, turned i.0 y.0, at, place_new q xs y is at, front_all xs y) refl
      one false is false at = rw (list_any-append q xs (y ∷ []), is, at, turned i.0 y.0, at) refl

  pub mapped_more : (xs : List (InstanceId × StateId)) (y : InstanceId × StateId) (i : InstanceId) → mark_of x p (Mapped (xs ++ y ∷ [])) i ≡ option_or (mark_of x p (Mapped xs) i) (if i.0 == y.0.0 then Some (record { place = 0; goal = y.1 }) else None)
  mapped_more xs y i = one (find q xs) refl (y.0.0 == i.0) refl
    where
      q : InstanceId × StateId → Bool
      q e = e.0.0 == i.0

      one : (o : Option (InstanceId × StateId)) → find q xs ≡ o → (b : Bool) → (y.0.0 == i.0) ≡ b
          → mark_of x p (Mapped (xs ++ y ∷ [])) i ≡ option_or (mark_of x p (Mapped xs) i) (if i.0 == y.0.0 then Some (record { place = 0; goal = y.1 }) else None)
      one (Some e) is b at = rw (list_any-append q xs (y ∷ []), find-append q xs (y ∷ []), any_found q xs, is) refl
      one None is true at = rw (list_any-append q xs (y ∷ []), find-append q xs (y ∷ []), any_found q xs, is, at, turned i.0 y.0.0, at) refl
      one None is false at = rw (list_any-append q xs (y ∷ []), find-append q xs (y ∷ []), any_found q xs, is, at, turned i.0 y.0.0, at) refl

-- an entry of a slice more
byte_of : (b : Bool) → bool_byte b ≡ cond b 1 0
byte_of true = refl
byte_of false = refl

pub count_more : {X : Type 0} (q : X → Bool) (xs : List X) (k : ℕ) (d : X) → k < length xs → count q (take (k + 1) xs) ≡ count q (take k xs) + bool_byte (q (get_or xs k d))
count_more q xs k d lt = length-filter_more q xs k d lt ∙ ap (λ (n : ℕ). count q (take k xs) + n) (sym (byte_of (q (get_or xs k d))))

pub byte_small : (b : Bool) → bool_byte b ≤ 1
byte_small true = omega arith
byte_small false = omega arith

-- the mark of an instance, with that of an entry more
module _ (x : Placing) (p : PartId) (i : InstanceId) (old new : Option Mark) (k : ℕ) (mark : Mark) where
  pub list_marked : (list : List InstanceId) (d : InstanceId) (rank : ℕ) → k < length list → old ≡ mark_of x p (Listed (take k list)) i
      → mark.place ≡ k → mark.goal ≡ best_below (model_in x) x.resource.ideal.replicas (length x.view.live) rank → rank ≡ count (is_eligible x.view p) (take k list)
      → new ≡ option_or old (if i.0 == (get_or list k d).0 then Some mark else None) → new ≡ mark_of x p (Listed (take (k + 1) list)) i
  list_marked list d rank lt so place goal counted filled =
      let same : mark ≡ next_mark x p (take k list) = (λ j. record { place = (place ∙ sym (length-take-le k list (omega arith))) j; goal = (goal ∙ ap (best_below (model_in x) x.resource.ideal.replicas (length x.view.live)) counted) j }) in
      filled ∙ rw (so, same) (sym (listed_more x p (take k list) (get_or list k d) i)) ∙ ap (λ (ys : List InstanceId). mark_of x p (Listed ys) i) (sym (take_more list k d lt))

  pub map_marked : (map : List (InstanceId × StateId)) (d : InstanceId × StateId) → k < length map → old ≡ mark_of x p (Mapped (take k map)) i
      → mark ≡ record { place = 0; goal = (get_or map k d).1 } → new ≡ option_or old (if i.0 == (get_or map k d).0.0 then Some mark else None) → new ≡ mark_of x p (Mapped (take (k + 1) map)) i
  map_marked map d lt so is filled =
      filled ∙ rw (so, is) (sym (mapped_more x p (take k map) (get_or map k d) i)) ∙ ap (λ (ys : List (InstanceId × StateId)). mark_of x p (Mapped ys) i) (sym (take_more map k d lt))

-- a turn more
pub turn_more : (instances list : List InstanceId) (f : ℕ → ℕ) (k : ℕ) (d : InstanceId) → f k < length instances → list ≡ filter_map (slice_get instances) (map f (numbers_below k))
    → list ++ get_or instances (f k) d ∷ [] ≡ filter_map (slice_get instances) (map f (numbers_below (k + 1)))
turn_more instances list f k d lt so =
    rw (so, map-numbers_below_more f k, filter_map-append (slice_get instances) (map f (numbers_below k)) (f k ∷ []), slice_get-get_or instances (f k) d lt) refl

-- all entries
module _ (x : Placing) (p : PartId) (visits : List Visit) (k : ℕ) (within : (j : ℕ) → is_visited visits j ≡ true → j < length (order_of x)) where
  pub list_done : (list : List InstanceId) (past : ℕ) → length list ≤ k
      → ((j : ℕ) (d : SessionId × InstanceId) → j < length (order_of x) → mark_at visits j ≡ mark_of x p (Listed (take k list)) (get_or (order_of x) j d).1) → past ≡ length list
      → IsMarked x p (Listed list) visits past
  list_done list past le so is = record {
    each = λ j d lt. so j d lt ∙ ap (λ (ys : List InstanceId). mark_of x p (Listed ys) (get_or (order_of x) j d).1) (take_all k list le);
    within = within;
    behind = is;
  }

  pub map_done : (entries : List (InstanceId × StateId)) → length entries ≤ k
      → ((j : ℕ) (d : SessionId × InstanceId) → j < length (order_of x) → mark_at visits j ≡ mark_of x p (Mapped (take k entries)) (get_or (order_of x) j d).1)
      → IsMarked x p (Mapped entries) visits 0
  map_done entries le so = record {
    each = λ j d lt. so j d lt ∙ ap (λ (ys : List (InstanceId × StateId)). mark_of x p (Mapped ys) (get_or (order_of x) j d).1) (take_all k entries le);
    within = within;
    behind = refl;
  }
