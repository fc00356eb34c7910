-- Tables by instance, as they grow and are filled.
use Rattle.std.proofs.Common.{◌≡◌, ◌==◌, ℕ, zero, suc, ◌-◌, ◌<◌, ◌≤◌, Bool, true, false, List, [], ◌∷◌, ◌++◌, length, get_or, set, Option, Some, None, refl, sym, ◌∙◌, arith, get_or-set_other, get_or-set_same}
use Rattle.std.specs.Prelude.{if◌then◌else◌, nat_lt}
use Rattle.std.proofs.lemmas.Bool.Decides.{nat_tests}
use Rattle.std.proofs.lemmas.List.{get_or_append_left, get_or-append_right, get_or_past}
use Rattle.hx_ids.specs.declared.InstanceId.{InstanceId}
use Rattle.hx_best.specs.Lookups.{cell_of}

nothing_there : {X : Type 0} (k : ℕ) → get_or {A = Option X} (None ∷ []) k None ≡ None
nothing_there zero = refl
nothing_there (suc k) = refl

pub cell-grown : {X : Type 0} (table : List (Option X)) (i : InstanceId) → cell_of (table ++ None ∷ []) i ≡ cell_of table i
cell-grown {X} table i = one (nat_lt i.0 (length table)) refl
  where
    one : (b : Bool) → nat_lt i.0 (length table) ≡ b → cell_of (table ++ None ∷ []) i ≡ cell_of table i
    one true e = get_or_append_left table (None ∷ []) None i.0 (grind (arith, nat_tests, e))
    one false e =
        let past : length table ≤ i.0 = grind (arith, nat_tests, e) in
        get_or-append_right table (None ∷ []) (length table) i.0 None refl past ∙ nothing_there {X = X} (i.0 - length table) ∙ sym (get_or_past table i.0 None past)

pub cell-set : {X : Type 0} (table : List (Option X)) (i j : InstanceId) (x : X) → j.0 < length table → cell_of (set table j.0 (Some x)) i ≡ (if i.0 == j.0 then Some x else cell_of table i)
cell-set table i j x lt = one (i.0 == j.0) refl
  where
    one : (b : Bool) → (i.0 == j.0) ≡ b → cell_of (set table j.0 (Some x)) i ≡ (if b then Some x else cell_of table i)
    one true e = let same : i.0 ≡ j.0 = grind (arith, nat_tests, e) in rw same (get_or-set_same table j.0 (Some x) None lt)
    one false e = get_or-set_other table j.0 i.0 (Some x) None (grind (arith, nat_tests, e))
