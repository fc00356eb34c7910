-- Whether a view is well formed depends on the states of the models alone.
use Rattle.std.proofs.lemmas.Grind.{common_steps}
use Rattle.std.proofs.Common.{◌≡◌, ℕ, zero, suc, ◌&&◌, ◌==◌, Bool, true, List, [], ◌∷◌, length, map, Option, None, Some, refl, sym, ap, ◌∙◌, subst, arith}
use Rattle.std.specs.Prelude.{nat_lt, slice_index_or}
use Rattle.std.specs.List.{list_any, list_all}
use Rattle.std.specs.Option.{option_map_or}
use Rattle.hx_ids.specs.declared.StateId.{StateId}
use Rattle.hx_ids.specs.declared.PartId.{PartId}
use Rattle.hx_ids.specs.declared.ModelId.{ModelId}
use Rattle.hx_ideal.specs.declared.Mode.{Mode}
use Rattle.hx_ideal.specs.declared.Mode.TheVariants as modes
use Rattle.hx_model.specs.declared.ModelParts.{ModelParts}
use Rattle.hx_model.specs.declared.Bound.{Bound}
use Rattle.hx_model.specs.Model.{has_state, states_of}
use Rattle.hx_cluster.specs.declared.description.Resource.{Resource}
use Rattle.hx_cluster.specs.declared.planning.View.{View}
use Rattle.hx_cluster.specs.Ends.{no_model, model_at, model_of, resource_at}
use Rattle.hx_cluster.specs.Views.{is_good_state, is_good_row, is_good_message, is_good_mode, is_good_resource, is_well_formed}
use Rattle.hx_formed.specs.Formed.{Setting, setting_of, IsFound}

all_alike : {X : Type 0} (p q : X → Bool) → ((x : X) → p x ≡ q x) → (xs : List X) → list_all p xs ≡ list_all q xs
all_alike p q h [] = refl
all_alike p q h (x ∷ xs) = grind (arith, h x, all_alike p q h xs)

any_mapped : (t : StateId) (ps : List (StateId × Bound)) → list_any (λ p. p.0.0 == t.0) ps ≡ list_any (λ s. s.0 == t.0) (map (λ p. p.0) ps)
any_mapped t [] = refl
any_mapped t (p ∷ ps) = grind (arith, any_mapped t ps)

same_states : (m n : ModelParts) → states_of m ≡ states_of n → (t : StateId) → has_state m t ≡ has_state n t
same_states m n e t = any_mapped t m.states ∙ ap (λ (ss : List StateId). list_any (λ s. s.0 == t.0) ss) e ∙ sym (any_mapped t n.states)

placed_states : (ms : List ModelParts) (n : ℕ) → states_of (slice_index_or ms n no_model) ≡ slice_index_or (map states_of ms) n []
placed_states [] n = refl
placed_states (m ∷ ms) zero = refl
placed_states (m ∷ ms) (suc n) = placed_states ms n

model_states : (ms ns : List ModelParts) → map states_of ms ≡ map states_of ns → (m : ModelId) (t : StateId) → has_state (model_at ms m) t ≡ has_state (model_at ns m) t
model_states ms ns e m t =
    same_states (model_at ms m) (model_at ns m)
    (placed_states ms m.0 ∙ ap (λ (ss : List (List StateId)). slice_index_or ss m.0 []) e ∙ sym (placed_states ns m.0)) t

resource_states : (ms ns : List ModelParts) → map states_of ms ≡ map states_of ns → (o : Option Resource) (t : StateId)
    → has_state (option_map_or (λ x. model_at ms x.model) o no_model) t ≡ has_state (option_map_or (λ x. model_at ns x.model) o no_model) t
resource_states ms ns e None t = refl
resource_states ms ns e (Some x) t = model_states ms ns e x.model t

good_states : (ms ns : List ModelParts) → map states_of ms ≡ map states_of ns → (view : View) (p : PartId) (t : StateId) → is_good_state ms view p t ≡ is_good_state ns view p t
good_states ms ns e view p t =
    let same : has_state (model_of ms view.ideals.resources p.resource) t ≡ has_state (model_of ns view.ideals.resources p.resource) t =
    resource_states ms ns e (resource_at view.ideals.resources p.resource) t in
    grind (arith, same)

good_modes : (ms ns : List ModelParts) → map states_of ms ≡ map states_of ns → (n : ℕ) (m : ModelId) (mode : Mode) → is_good_mode n (model_at ms m) mode ≡ is_good_mode n (model_at ns m) mode
good_modes ms ns e n m modes.Full = refl
good_modes ms ns e n m (modes.Semi lists) = refl
good_modes ms ns e n m (modes.Custom maps) =
    all_alike (list_all (λ x. nat_lt x.0.0 n && has_state (model_at ms m) x.1)) (list_all (λ x. nat_lt x.0.0 n && has_state (model_at ns m) x.1))
    (λ entries. all_alike (λ x. nat_lt x.0.0 n && has_state (model_at ms m) x.1) (λ x. nat_lt x.0.0 n && has_state (model_at ns m) x.1)
    (λ x. ap (λ (b : Bool). nat_lt x.0.0 n && b) (model_states ms ns e m x.1)) entries) maps

as_many : {X Y Z : Type 0} (f : X → Z) (g : Y → Z) (xs : List X) (ys : List Y) → map f xs ≡ map g ys → length xs ≡ length ys
as_many f g xs ys e = grind (arith, common_steps, ap length e)

pub alike : (ms ns : List ModelParts) (n : ℕ) (view : View) → map states_of ms ≡ map states_of ns → is_well_formed ms n view ≡ is_well_formed ns n view
alike ms ns n view e =
    let mail : list_all (is_good_message ms view) view.mail ≡ list_all (is_good_message ns view) view.mail =
    all_alike (is_good_message ms view) (is_good_message ns view)
    (λ m. grind (arith, good_states ms ns e view m.part m.from, good_states ms ns e view m.part m.to)) view.mail in
    let rows : list_all (is_good_row ms view) view.rows ≡ list_all (is_good_row ns view) view.rows =
    all_alike (is_good_row ms view) (is_good_row ns view) (λ r. grind (arith, good_states ms ns e view r.part r.state)) view.rows in
    let many : length ms ≡ length ns = as_many states_of states_of ms ns e in
    let resources : list_all (is_good_resource ms n) view.ideals.resources ≡ list_all (is_good_resource ns n) view.ideals.resources =
    all_alike (is_good_resource ms n) (is_good_resource ns n) (λ r. grind (arith, many, good_modes ms ns e n r.model r.ideal.mode)) view.ideals.resources in
    grind (arith, mail, rows, resources)

some_states : (x y : Setting) → Some x ≡ Some y → x ≡ y
some_states x y e = grind (arith, e)

pub found : (ms : List ModelParts) (n : ℕ) (view : View) (o : Option Setting) → o ≡ Some (setting_of ms n) → is_well_formed ms n view ≡ true → IsFound o view
found ms n view o is e =
    record { holds = λ ns k other. one ns k (some_states (setting_of ms n) (setting_of ns k) (sym is ∙ other)) }
  where
    one : (ns : List ModelParts) (k : ℕ) → setting_of ms n ≡ setting_of ns k → is_well_formed ns k view ≡ true
    one ns k same =
        let many : n ≡ k = ap (λ (x : Setting). x.instances) same in
        let states : map states_of ms ≡ map states_of ns = ap (λ (x : Setting). x.states) same in
        subst (λ (j : ℕ). is_well_formed ns j view ≡ true) many (sym (alike ms ns n view states) ∙ e)

-- of another view nothing is found
pub forgotten : (o : Option Setting) (view : View) → o ≡ None → IsFound o view
forgotten o view is = record { holds = λ ms n other. absurd (cc) }
