-- The calls of a turn that are left, from a place on.
use Rattle.std.proofs.Common.{◌≡◌, ℕ, zero, suc, ◌+◌, ◌≤◌, false, List, [], ◌∷◌, map, drop, length, slice_get, Some, None, refl, ap, ◌∙◌, sym, arith}
use Rattle.std.specs.Option.{option_map_or}
use Rattle.std.proofs.lemmas.List.{drop_all}
use Rattle.hx_pass.specs.Turns as turns
use Rattle.hx_check.specs.declared.turns.Call.{Call}
use Rattle.hx_check.specs.Judging.{call_told}

first_left : (call : turns.Call) (cs : List Call) (d : ℕ)
    → option_map_or (λ n. turns.same_call (call_told n) call) (slice_get cs d) false ≡ turns.is_first call (map call_told (drop d cs))
first_left call [] zero = refl
first_left call [] (suc d) = refl
first_left call (c ∷ cs) zero = refl
first_left call (c ∷ cs) (suc d) = first_left call cs d

pub none_left : (call : turns.Call) (cs : List Call) (d : ℕ) → slice_get cs d ≡ None → false ≡ turns.is_first call (map call_told (drop d cs))
none_left call cs d at = sym (ap (λ o. option_map_or (λ n. turns.same_call (call_told n) call) o false) at) ∙ first_left call cs d

pub some_left : (call : turns.Call) (cs : List Call) (d : ℕ) (n : Call) → slice_get cs d ≡ Some n → turns.same_call (call_told n) call ≡ turns.is_first call (map call_told (drop d cs))
some_left call cs d n at = sym (ap (λ o. option_map_or (λ n. turns.same_call (call_told n) call) o false) at) ∙ first_left call cs d

next : (cs : List Call) (d : ℕ) → map call_told (drop (suc d) cs) ≡ drop 1 (map call_told (drop d cs))
next [] zero = refl
next [] (suc d) = refl
next (c ∷ cs) zero = refl
next (c ∷ cs) (suc d) = next cs d

pub next_left : (cs : List Call) (d : ℕ) → map call_told (drop (d + 1) cs) ≡ drop 1 (map call_told (drop d cs))
next_left cs d = ap (λ n. map call_told (drop n cs)) (let same : d + 1 ≡ suc d = omega arith in same) ∙ next cs d

pub past_left : (cs : List Call) (d : ℕ) → length cs ≤ d → map call_told (drop d cs) ≡ drop 1 (map call_told (drop d cs))
past_left cs d past = ap (λ l. map call_told l) (drop_all d cs past) ∙ ap (λ l. drop 1 (map call_told l)) (sym (drop_all d cs past))
