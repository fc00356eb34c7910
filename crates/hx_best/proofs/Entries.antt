-- The entries of a list or a map, one after the other.
use Rattle.std.proofs.Common.{◌≡◌, ℕ, zero, suc, ◌+◌, ◌<◌, ◌≤◌, ◌&&◌, ◌||◌, Bool, true, false, List, [], ◌∷◌, length, drop, get_or, refl, sym, ap, ◌∙◌, arith}
use mir.Val.{bool_byte}
use Rattle.std.specs.Prelude.{if◌then◌else◌}
use Rattle.std.specs.List.{list_any, list_all}
use Rattle.std.proofs.lemmas.List.{at_drop_more}
use Rattle.std.proofs.Math.ListN.{drop_of_length-le}
use Rattle.hx_ids.specs.declared.InstanceId.{InstanceId}
use Rattle.hx_ids.specs.declared.StateId.{StateId}
use Rattle.hx_ids.specs.declared.PartId.{PartId}
use Rattle.hx_cluster.specs.declared.state.Row.{Row}
use Rattle.hx_best.specs.Goals.{is_eligible, best_below}
use Rattle.hx_best.specs.Places.{Placing, model_in, rows_at}
use Rattle.hx_best.specs.Numbers.{has_number, IsNoted}
use Rattle.hx_best.specs.Still.{stands, list_stands, map_stands, is_on, list_covers, map_covers}

any_at : {X : Type 0} (q : X → Bool) (xs : List X) (k : ℕ) (d : X) → k < length xs → q (get_or xs k d) ≡ true → list_any q xs ≡ true
any_at q [] k d lt e = absurd (omega (arith, lt))
any_at q (x ∷ xs) zero d lt e = grind (arith, e)
any_at q (x ∷ xs) (suc k) d lt e = grind (arith, any_at q xs k d (omega (arith, lt)) e)

pub all_at : {X : Type 0} (q : X → Bool) (xs : List X) → ((k : ℕ) (d : X) → k < length xs → q (get_or xs k d) ≡ true) → list_all q xs ≡ true
all_at q [] h = refl
all_at q (x ∷ xs) h = grind (arith, h 0 x (omega arith), all_at q xs (λ k d lt. h (suc k) d (omega (arith, lt))))

rank_is : (rank : ℕ) (b : Bool) → rank + bool_byte b ≡ (if b then rank + 1 else rank)
rank_is rank true = refl
rank_is rank false = omega arith

module _ (x : Placing) (p : PartId) where
  pub list_next : (list : List InstanceId) (k rank : ℕ) (eligible : Bool) (d : InstanceId) → k < length list
      → list_stands x p list 0 ≡ list_stands x p (drop k list) rank
      → stands x p (get_or list k d) (best_below (model_in x) x.resource.ideal.replicas (length x.view.live) rank) ≡ true
      → eligible ≡ is_eligible x.view p (get_or list k d)
      → list_stands x p list 0 ≡ list_stands x p (drop (k + 1) list) (rank + bool_byte eligible)
  list_next list k rank eligible d lt so here is =
      so ∙ at_drop_more (λ (ys : List InstanceId). list_stands x p ys rank) list k d lt
      ∙ ap (λ (b : Bool). b && list_stands x p (drop (k + 1) list) (if is_eligible x.view p (get_or list k d) then rank + 1 else rank)) here
      ∙ ap (list_stands x p (drop (k + 1) list)) (ap (λ (b : Bool). if b then rank + 1 else rank) (sym is) ∙ sym (rank_is rank eligible))

  pub map_next : (map : List (InstanceId × StateId)) (k : ℕ) (d : InstanceId × StateId) → k < length map
      → map_stands x p map ≡ map_stands x p (drop k map) → stands x p (get_or map k d).0 (get_or map k d).1 ≡ true
      → map_stands x p map ≡ map_stands x p (drop (k + 1) map)
  map_next map k d lt so here =
      so ∙ at_drop_more (map_stands x p) map k d lt ∙ ap (λ (b : Bool). b && map_stands x p (drop (k + 1) map)) here

  -- the places that were noted so far are of rows of entries
  pub noted_next : {E : Type 0} (instance : E → InstanceId) (entries : List E) (old new k : ℕ) (d : E) → k < length entries
      → ((j : ℕ) (r : Row) → has_number old j ≡ true → list_any (λ e. is_on x.view.live (instance e) (get_or (rows_at x p) j r)) entries ≡ true)
      → IsNoted (is_on x.view.live (instance (get_or entries k d))) (rows_at x p) old new
      → (j : ℕ) (r : Row) → has_number new j ≡ true → list_any (λ e. is_on x.view.live (instance e) (get_or (rows_at x p) j r)) entries ≡ true
  noted_next {E} instance entries old new k d lt before noted j r has = one (has_number old j) refl (noted j r has)
    where
      one : (b : Bool) → has_number old j ≡ b → (b || is_on x.view.live (instance (get_or entries k d)) (get_or (rows_at x p) j r)) ≡ true
          → list_any (λ e. is_on x.view.live (instance e) (get_or (rows_at x p) j r)) entries ≡ true
      one true is any = before j r is
      one false is any = any_at (λ (e : E). is_on x.view.live (instance e) (get_or (rows_at x p) j r)) entries k d lt any

  pub list_done : (list : List InstanceId) (k rank met : ℕ) → length list ≤ k → list_stands x p list 0 ≡ list_stands x p (drop k list) rank
      → ((j : ℕ) (r : Row) → has_number met j ≡ true → list_any (λ i. is_on x.view.live i (get_or (rows_at x p) j r)) list ≡ true)
      → ((j : ℕ) → j < length (rows_at x p) → has_number met j ≡ true)
      → (list_stands x p list 0 ≡ true) × (list_covers x p list ≡ true)
  list_done list k rank met le so noted all = (
    so ∙ ap (λ (ys : List InstanceId). list_stands x p ys rank) (drop_of_length-le list le),
    all_at (λ r. list_any (λ i. is_on x.view.live i r) list) (rows_at x p) (λ j r lt. noted j r (all j lt)),
  )

  pub map_done : (map : List (InstanceId × StateId)) (k met : ℕ) → length map ≤ k → map_stands x p map ≡ map_stands x p (drop k map)
      → ((j : ℕ) (r : Row) → has_number met j ≡ true → list_any (λ e. is_on x.view.live e.0 (get_or (rows_at x p) j r)) map ≡ true)
      → ((j : ℕ) → j < length (rows_at x p) → has_number met j ≡ true)
      → (map_stands x p map ≡ true) × (map_covers x p map ≡ true)
  map_done map k met le so noted all = (
    so ∙ ap (map_stands x p) (drop_of_length-le map le),
    all_at (λ r. list_any (λ e. is_on x.view.live e.0 r) map) (rows_at x p) (λ j r lt. noted j r (all j lt)),
  )
