-- A model brings at most as many names of states as it has states.
use Rattle.std.proofs.Common.{◌≡◌, ℕ, ◌+◌, ◌*◌, ◌≤◌, false, List, [], ◌∷◌, ◌++◌, length, length-append, Result, Ok, Err, ap, arith}
use Rattle.std.specs.Prelude.{IfOk, codes}
use Rattle.std.specs.List.{list_any}
use Rattle.std.specs.Str.{bytes_eq}
use Rattle.serde_json.specs.Data.{Data}
use Rattle.hx_ids.specs.Names.{interned}
use Rattle.hx_model.specs.declared.Bound.{Bound}
use Rattle.hx_model.proofs.Named.{length-interned-le}
use Rattle.hx_forms.specs.declared.faults.DescRefusal.{DescRefusal}
use Rattle.hx_forms.specs.Found.{in_item, read_from, read_all, object_in, required}
use Rattle.hx_forms.specs.Reading.{Reads}
use Rattle.hx_forms.specs.declared.tables.StateTable.{StateTable}
use Rattle.hx_forms.specs.ModelForm.{state_in, state_name_in, bound_in, with_state}
use Rattle.hx_forms.proofs.Chains.{then_ok, ok_same, item_ok}

with_state_more : (t u : StateTable) (name : List ℕ) (bound : Bound) → with_state t name bound ≡ u → length u.names ≤ length t.names + 1
with_state_more t u name bound is = omega (arith, ap (λ (v : StateTable). length v.names) is, length-interned-le t.names name)

state_more : (t : StateTable) (d : Data) (u : StateTable) → state_in t d ≡ Ok u → length u.names ≤ length t.names + 1
state_more t d u is =
    let a = then_ok (object_in (codes "name" ∷ codes "bound" ∷ []) d) _ u is in
    let b = then_ok (required (codes "name") (state_name_in t) a.0) _ u a.2 in
    let c = then_ok (required (codes "bound") bound_in a.0) _ u b.2 in
    with_state_more t u b.0 c.0 (ok_same _ _ c.2)

states_more : (ds : List Data) (place : ℕ) (t u : StateTable) → read_from place state_in t ds ≡ Ok u → length u.names ≤ length t.names + length ds
states_more [] place t u is = let e : t ≡ u = cc in omega (arith, ap (λ (v : StateTable). length v.names) e)
states_more (d ∷ ds) place t u is =
    let s = then_ok (in_item place (state_in t d)) (λ after. read_from (place + 1) state_in after ds) u is in
    omega (arith, states_more ds (place + 1) s.0 u s.2, state_more t d s.0 (item_ok place (state_in t d) s.0 s.1))

-- the names of a model's states, of which there are few
pub few_states : (names : List (List ℕ)) (ds : List Data) (r : Result StateTable DescRefusal) → length ds ≤ 16 → Reads r (read_all state_in (record { names = names; states = [] }) ds) → IfOk r (λ t. length t.names ≤ length names + 16)
few_states names ds (Ok t) few reads = omega (arith, states_more ds 0 (record { names = names; states = [] }) t reads)
few_states names ds (Err e) few reads = tt

-- one more name, and one more item
pub longer_names : (old new : List (List ℕ)) (name text : List ℕ) → text ≡ name → new ≡ interned old text → list_any (bytes_eq name) old ≡ false → length new ≡ length old + 1
longer_names old new name text same is other = rw (is, same, other) (length-append old (name ∷ []))

pub longer_list : {X : Type 0} (old new : List X) (x : X) → new ≡ old ++ x ∷ [] → length new ≡ length old + 1
longer_list old new x is = rw is (length-append old (x ∷ []))

-- there is room for the models that may come behind one more
pub room_left : (states names models more_states more_names more_models more : ℕ) → more_states ≤ states + 16 → more_names ≡ names + 1 → more_models ≡ models + 1
    → (states + 16 * (more + 1) ≤ 256) × (names + (more + 1) ≤ 256) × (names ≡ models) → (more_states + 16 * more ≤ 256) × (more_names + more ≤ 256) × (more_names ≡ more_models)
room_left states names models more_states more_names more_models more few one_name one_model kept =
    (omega (arith, few, kept.0), omega (arith, one_name, kept.1), omega (arith, one_name, one_model, kept.2))
