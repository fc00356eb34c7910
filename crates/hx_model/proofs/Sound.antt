-- The models that every description has are sound.
use Rattle.std.proofs.Common.{◌≡◌, ◌≢◌, ◌≤◌, ◌==◌, not, Bool, true, false, [], ◌∷◌, ◌++◌, find, Some, None, option_map, refl, ap, arith}
use Rattle.std.specs.Prelude.{if◌then◌else◌, nat_lt}
use Rattle.std.specs.List.{list_any}
use Rattle.std.proofs.lemmas.Bool.Decides.{nat_tests}
use Rattle.hx_ids.specs.declared.StateId.{StateId}
use Rattle.hx_model.specs.declared.Bound.{Bound}
use Rattle.hx_model.specs.declared.Bound.TheVariants.{Free}
use Rattle.hx_model.specs.declared.ModelFault.TheVariants.{Reserved, TwiceState, UnknownState, SelfLoop, TwiceTransition, NoInitial, InitialBounded, NoDrop, CantReach, CantLeave}
use Rattle.hx_model.specs.Builtin.{on_and_off, one_leads}
use Rattle.hx_model.specs.Faults.{fault_of, fault_at, state_tests, transition_tests, walk_tests, is_reserved, is_known, is_free}
use Rattle.hx_model.specs.Model.{error, dropped, is_between, has_state, bound_of}
use Rattle.hx_model.specs.Walks.{has_walk, reaches}
use Rattle.hx_model.proofs.Distances.{listed_leads}
use Rattle.hx_model.proofs.Found.{found_none, position_none, twice_none, reaches_by, eqb-same}

find_two : (p : StateId → Bool) (a b : StateId) → p a ≡ true → p b ≡ true → find (λ s. not (p s)) (a ∷ b ∷ []) ≡ None
find_two p a b h k = grind (arith, h, k)

find_three : (p : StateId → Bool) (a b c : StateId) → p a ≡ true → p b ≡ true → p c ≡ true → find (λ s. not (p s)) (a ∷ b ∷ c ∷ []) ≡ None
find_three p a b c h k l = grind (arith, h, k, l)

-- each model, at any distinct states but ERROR and DROPPED
pub on_and_off-sound : (on off : StateId) → 2 ≤ on.0 → 2 ≤ off.0 → on.0 ≢ off.0 → fault_of (on_and_off on off) ≡ None
on_and_off-sound on off lon loff ne =
    let m = on_and_off on off in
    let d : StateId × StateId = (error, error) in
    let other : (on.0 == off.0) ≡ false = grind (arith, nat_tests) in
    let free : bound_of m off ≡ Free = rw (other, eqb-same off.0) refl in
    let off_on : has_walk m 1 off on ≡ true = listed_leads m on 0 d 0 (omega arith) (eqb-same on.0) in
    let on_off : has_walk m 1 on off ≡ true = listed_leads m off 1 d 0 (omega arith) (eqb-same off.0) in
    let stays : reaches m off off ≡ true = reaches_by m 0 off off (omega arith) (eqb-same off.0) in
    found_none (state_tests ++ transition_tests ++ walk_tests) m (
      refl,
      (
        ap (fault_at (λ i. Reserved i)) (position_none (λ (p : StateId × Bound). nat_lt p.0.0 2) m.states (grind (arith, nat_tests))),
        (
          ap (fault_at (λ i. Reserved i)) (position_none is_reserved m.transitions (grind (arith, nat_tests))),
          (
            ap (fault_at (λ i. TwiceState i)) (twice_none (λ (p b : StateId × Bound). b.0.0 == p.0.0) [] m.states (refl, (grind (arith, nat_tests), tt))),
            (
              refl,
              (
                ap (λ (b : Bool). if b then None else Some NoInitial) (let h : has_state m off ≡ true = grind (arith, nat_tests) in h),
                (
                  ap (λ (b : Bound). if is_free b then None else Some InitialBounded) free,
                  (
                    ap (fault_at (λ i. UnknownState i)) (position_none (λ t. not (is_known m t)) m.transitions (grind (arith, nat_tests))),
                    (
                      ap (fault_at (λ i. SelfLoop i)) (position_none (λ (t : StateId × StateId). t.0.0 == t.1.0) m.transitions (grind (arith, nat_tests))),
                      (
                        ap (fault_at (λ i. TwiceTransition i)) (twice_none (λ (t b : StateId × StateId). is_between t.0 t.1 b) [] m.transitions (refl, (grind (arith, nat_tests), (grind (arith, nat_tests), tt)))),
                        (
                          ap (λ (b : Bool). if b then None else Some NoDrop) (let h : list_any (is_between off dropped) m.transitions ≡ true = grind (arith, nat_tests) in h),
                          (
                            ap (λ o. option_map (λ s. CantReach s) o) (find_two (λ s. reaches m off s) on off (reaches_by m 1 off on (omega arith) off_on) stays),
                            (
                              ap (λ o. option_map (λ s. CantLeave s) o) (find_two (λ s. reaches m s off) on off (reaches_by m 1 on off (omega arith) on_off) stays),
                              tt,
                            ),
                          ),
                        ),
                      ),
                    ),
                  ),
                ),
              ),
            ),
          ),
        ),
      ),
    )

pub one_leads-sound : (top mid off : StateId) → 2 ≤ top.0 → 2 ≤ mid.0 → 2 ≤ off.0 → top.0 ≢ mid.0 → top.0 ≢ off.0 → mid.0 ≢ off.0 → fault_of (one_leads top mid off) ≡ None
one_leads-sound top mid off ltop lmid loff tm to mo =
    let m = one_leads top mid off in
    let d : StateId × StateId = (error, error) in
    let first : (top.0 == off.0) ≡ false = grind (arith, nat_tests) in
    let second : (mid.0 == off.0) ≡ false = grind (arith, nat_tests) in
    let free : bound_of m off ≡ Free = rw (first, second, eqb-same off.0) refl in
    let mid_top : has_walk m 1 mid top ≡ true = listed_leads m top 1 d 0 (omega arith) (eqb-same top.0) in
    let off_mid : has_walk m 1 off mid ≡ true = listed_leads m mid 2 d 0 (omega arith) (eqb-same mid.0) in
    let off_top : has_walk m 2 off top ≡ true = listed_leads m top 2 d 1 (omega arith) mid_top in
    let mid_off : has_walk m 1 mid off ≡ true = listed_leads m off 3 d 0 (omega arith) (eqb-same off.0) in
    let top_off : has_walk m 2 top off ≡ true = listed_leads m off 0 d 1 (omega arith) mid_off in
    let stays : reaches m off off ≡ true = reaches_by m 0 off off (omega arith) (eqb-same off.0) in
    found_none (state_tests ++ transition_tests ++ walk_tests) m (
      refl,
      (
        ap (fault_at (λ i. Reserved i)) (position_none (λ (p : StateId × Bound). nat_lt p.0.0 2) m.states (grind (arith, nat_tests))),
        (
          ap (fault_at (λ i. Reserved i)) (position_none is_reserved m.transitions (grind (arith, nat_tests))),
          (
            ap (fault_at (λ i. TwiceState i)) (twice_none (λ (p b : StateId × Bound). b.0.0 == p.0.0) [] m.states (refl, (grind (arith, nat_tests), (grind (arith, nat_tests), tt)))),
            (
              refl,
              (
                ap (λ (b : Bool). if b then None else Some NoInitial) (let h : has_state m off ≡ true = grind (arith, nat_tests) in h),
                (
                  ap (λ (b : Bound). if is_free b then None else Some InitialBounded) free,
                  (
                    ap (fault_at (λ i. UnknownState i)) (position_none (λ t. not (is_known m t)) m.transitions (grind (arith, nat_tests))),
                    (
                      ap (fault_at (λ i. SelfLoop i)) (position_none (λ (t : StateId × StateId). t.0.0 == t.1.0) m.transitions (grind (arith, nat_tests))),
                      (
                        ap (fault_at (λ i. TwiceTransition i)) (twice_none (λ (t b : StateId × StateId). is_between t.0 t.1 b) [] m.transitions (refl, (grind (arith, nat_tests), (grind (arith, nat_tests), (grind (arith, nat_tests), (grind (arith, nat_tests), tt)))))),
                        (
                          ap (λ (b : Bool). if b then None else Some NoDrop) (let h : list_any (is_between off dropped) m.transitions ≡ true = grind (arith, nat_tests) in h),
                          (
                            ap (λ o. option_map (λ s. CantReach s) o) (find_three (λ s. reaches m off s) top mid off (reaches_by m 2 off top (omega arith) off_top) (reaches_by m 1 off mid (omega arith) off_mid) stays),
                            (
                              ap (λ o. option_map (λ s. CantLeave s) o) (find_three (λ s. reaches m s off) top mid off (reaches_by m 2 top off (omega arith) top_off) (reaches_by m 1 mid off (omega arith) mid_off) stays),
                              tt,
                            ),
                          ),
                        ),
                      ),
                    ),
                  ),
                ),
              ),
            ),
          ),
        ),
      ),
    )
