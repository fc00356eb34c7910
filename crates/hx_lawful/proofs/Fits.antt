-- Messages, rows and resources that fit what was shown.
use Rattle.std.proofs.Common.{◌≡◌, ℕ, ◌&&◌, ◌||◌, ◌==◌, not, Bool, true, false, List, length, Option, Some, None, refl, sym, ap, ◌∙◌, arith}
use Rattle.std.specs.Prelude.{nat_lt}
use Rattle.std.specs.List.{list_all}
use Rattle.std.specs.Option.{option_map_or}
use Rattle.std.proofs.lemmas.Bool.Decides.{nat_tests}
use Rattle.hx_lists.specs.Lists.{count}
use Rattle.hx_ids.specs.declared.StateId.{StateId}
use Rattle.hx_ids.specs.declared.InstanceId.{InstanceId}
use Rattle.hx_ids.specs.declared.ResourceId.{ResourceId}
use Rattle.hx_ids.specs.declared.SessionId.{SessionId}
use Rattle.hx_ids.specs.declared.PartId.{PartId}
use Rattle.hx_model.specs.declared.ModelParts.{ModelParts}
use Rattle.hx_model.specs.Model.{is_legal, has_state, error, dropped, states_of}
use Rattle.hx_ideal.specs.Faults.{fault_of}
use Rattle.hx_cluster.specs.declared.description.Resource.{Resource}
use Rattle.hx_cluster.specs.declared.state.Row.{Row}
use Rattle.hx_cluster.specs.declared.state.Message.{Message}
use Rattle.hx_cluster.specs.declared.state.Cluster.{Cluster}
use Rattle.hx_cluster.specs.declared.planning.View.{View}
use Rattle.hx_cluster.specs.Ends.{is_row, is_message, is_live, is_shown, resource_at, model_at, model_of, no_model, parts_of}
use Rattle.hx_cluster.specs.Safe.{is_pending, is_kept, is_at_its_place}
use Rattle.hx_cluster.specs.Ranged.{is_ranged_resource}
use Rattle.hx_cluster.specs.Events.{has_part}
use Rattle.hx_cluster.specs.Valid.{has_no_fault, has_good_ideal}
use Rattle.hx_cluster.specs.Views.{is_good_part, is_good_state, is_good_row, is_good_message, is_good_mode, is_good_resource}
use Rattle.hx_safe.proofs.Counting.{and-first, and-second, and-both, and-three, and-four, and-six}
use Rattle.hx_safe.proofs.Ideals.{none_from, good_mode, mode_of_good}
use Rattle.hx_safe.proofs.Models.{IsGood, good_model}
use Rattle.hx_safe.specs.Onward.{is_front, is_same_kind}
use Rattle.hx_safe.proofs.Fronts.{front-get}
use Rattle.hx_safe.proofs.Counting.{or-swap}

-- whether a state is ERROR or of a part's model
abbrev pub may_stand : List ModelParts → List Resource → PartId → StateId → Bool
may_stand models resources p t = (t.0 == error.0) || has_state (model_of models resources p.resource) t

-- what a message or a row has but for its being the only one
pub record FitsMessage (models : List ModelParts) (live : List (SessionId × InstanceId)) (resources : List Resource) (m : Message) : Type 0 where
  pub shown : is_shown live m.session ≡ true
  pub part : nat_lt m.part.index (parts_of resources m.part.resource) ≡ true
  pub from : may_stand models resources m.part m.from ≡ true
  pub to : ((m.to.0 == dropped.0) || may_stand models resources m.part m.to) ≡ true

pub record FitsRow (models : List ModelParts) (live : List (SessionId × InstanceId)) (resources : List Resource) (r : Row) : Type 0 where
  pub shown : is_shown live r.session ≡ true
  pub part : nat_lt r.part.index (parts_of resources r.part.resource) ≡ true
  pub state : may_stand models resources r.part r.state ≡ true

-- the parts of the tests
good_parts : (models : List ModelParts) (view : View) (m : Message) → is_good_message models view m ≡ true
    → (is_good_part view m.session m.part ≡ true) × (is_good_state models view m.part m.from ≡ true)
    × (((m.to.0 == dropped.0) || is_good_state models view m.part m.to) ≡ true) × ((count (is_message m.session m.part) view.mail == 1) ≡ true)
good_parts models view m e =
    and-four (is_good_part view m.session m.part) (is_good_state models view m.part m.from)
    ((m.to.0 == dropped.0) || is_good_state models view m.part m.to) (count (is_message m.session m.part) view.mail == 1) e

row_parts : (models : List ModelParts) (view : View) (r : Row) → is_good_row models view r ≡ true
    → (is_good_part view r.session r.part ≡ true) × (is_good_state models view r.part r.state ≡ true) × ((count (is_row r.session r.part) view.rows == 1) ≡ true)
row_parts models view r e =
    and-three (is_good_part view r.session r.part) (is_good_state models view r.part r.state) (count (is_row r.session r.part) view.rows == 1) e

-- a part is good where its session is shown and it is one of its resource, and it stands with a state of the model
there_parts : (view : View) (s : SessionId) (p : PartId) → is_good_part view s p ≡ true
    → (is_shown view.live s ≡ true) × (nat_lt p.index (parts_of view.ideals.resources p.resource) ≡ true)
there_parts view s p e = (
  and-first (is_shown view.live s) (nat_lt p.index (parts_of view.ideals.resources p.resource)) e,
  and-second (is_shown view.live s) (nat_lt p.index (parts_of view.ideals.resources p.resource)) e,
)

there_good : (models : List ModelParts) (view : View) (s : SessionId) (p : PartId) (t : StateId) → is_shown view.live s ≡ true
    → nat_lt p.index (parts_of view.ideals.resources p.resource) ≡ true → is_good_state models view p t ≡ true → (is_good_part view s p && is_good_state models view p t) ≡ true
there_good models view s p t shown part state =
    and-both (is_good_part view s p) (is_good_state models view p t) (and-both (is_shown view.live s) (nat_lt p.index (parts_of view.ideals.resources p.resource)) shown part) state

pub message_fits : (models : List ModelParts) (view : View) (m : Message) → is_good_message models view m ≡ true → FitsMessage models view.live view.ideals.resources m
message_fits models view m e =
    let parts = good_parts models view m e in
    let there = there_parts view m.session m.part parts.0 in
    record { shown = there.0; part = there.1; from = parts.1; to = parts.2 }

pub message_once : (models : List ModelParts) (view : View) (m : Message) → is_good_message models view m ≡ true → (count (is_message m.session m.part) view.mail == 1) ≡ true
message_once models view m e = (good_parts models view m e).3

pub message_good : (models : List ModelParts) (view : View) (m : Message) → FitsMessage models view.live view.ideals.resources m
    → (count (is_message m.session m.part) view.mail == 1) ≡ true → is_good_message models view m ≡ true
message_good models view m fits once =
    let from = there_good models view m.session m.part m.from fits.shown fits.part fits.from in
    let to = and-both (is_good_part view m.session m.part && is_good_state models view m.part m.from) ((m.to.0 == dropped.0) || is_good_state models view m.part m.to) from fits.to in
    and-both (is_good_part view m.session m.part && is_good_state models view m.part m.from && ((m.to.0 == dropped.0) || is_good_state models view m.part m.to))
    (count (is_message m.session m.part) view.mail == 1) to once

pub row_fits : (models : List ModelParts) (view : View) (r : Row) → is_good_row models view r ≡ true → FitsRow models view.live view.ideals.resources r
row_fits models view r e =
    let parts = row_parts models view r e in
    let there = there_parts view r.session r.part parts.0 in
    record { shown = there.0; part = there.1; state = parts.1 }

pub row_once : (models : List ModelParts) (view : View) (r : Row) → is_good_row models view r ≡ true → (count (is_row r.session r.part) view.rows == 1) ≡ true
row_once models view r e = (row_parts models view r e).2

pub row_good : (models : List ModelParts) (view : View) (r : Row) → FitsRow models view.live view.ideals.resources r
    → (count (is_row r.session r.part) view.rows == 1) ≡ true → is_good_row models view r ≡ true
row_good models view r fits once =
    and-both (is_good_part view r.session r.part && is_good_state models view r.part r.state) (count (is_row r.session r.part) view.rows == 1)
    (there_good models view r.session r.part r.state fits.shown fits.part fits.state) once

-- a part that is there is the same among more resources
kind-model : (models : List ModelParts) (x y : Resource) → is_same_kind x y ≡ true → model_at models y.model ≡ model_at models x.model
kind-model models x y e =
    let same : x.model.0 ≡ y.model.0 = grind (arith, nat_tests, e) in
    ap (λ (n : ℕ). model_at models (record { 0 = n })) (sym same)

-- a part that there is is of a resource that there is
pub resource_of_part : (xs : List Resource) (r : ResourceId) (i : ℕ) → nat_lt i (parts_of xs r) ≡ true → (x : Resource) × (resource_at xs r ≡ Some x)
resource_of_part xs r i e = one (resource_at xs r) refl
  where
    one : (o : Option Resource) → resource_at xs r ≡ o → (x : Resource) × (resource_at xs r ≡ Some x)
    one None is =
        let low : nat_lt i 0 ≡ true = sym (ap (λ (o : Option Resource). nat_lt i (option_map_or (λ x. x.ideal.parts) o 0)) is) ∙ e in
        absurd (grind (arith, nat_tests, low))
    one (Some x) is = (x, is)

pub front-part : (models : List ModelParts) (xs ys : List Resource) → is_front is_same_kind xs ys ≡ true → (r : ResourceId) (i : ℕ) → nat_lt i (parts_of xs r) ≡ true
    → (parts_of ys r ≡ parts_of xs r) × (model_of models ys r ≡ model_of models xs r)
front-part models xs ys front r i e =
    let was = resource_of_part xs r i e in
    let x = was.0 in
    let is = was.1 in
    let there = front-get is_same_kind xs ys r.0 x front is in
    let y = there.0 in
    let parts : y.ideal.parts ≡ x.ideal.parts = grind (arith, nat_tests, there.2) in (
      ap (λ (o : Option Resource). option_map_or (λ z. z.ideal.parts) o 0) there.1 ∙ parts ∙ sym (ap (λ (o : Option Resource). option_map_or (λ z. z.ideal.parts) o 0) is),
      ap (λ (o : Option Resource). option_map_or (λ z. model_at models z.model) o no_model) there.1 ∙ kind-model models x y there.2
          ∙ sym (ap (λ (o : Option Resource). option_map_or (λ z. model_at models z.model) o no_model) is),
    )

-- so what fits among resources fits among more
pub message_on : (models : List ModelParts) (live : List (SessionId × InstanceId)) (xs ys : List Resource) (m : Message) → is_front is_same_kind xs ys ≡ true
    → FitsMessage models live xs m → FitsMessage models live ys m
message_on models live xs ys m front fits =
    let same = front-part models xs ys front m.part.resource m.part.index fits.part in
    record {
      shown = fits.shown;
      part = ap (nat_lt m.part.index) same.0 ∙ fits.part;
      from = ap (λ (x : ModelParts). (m.from.0 == error.0) || has_state x m.from) same.1 ∙ fits.from;
      to = ap (λ (x : ModelParts). (m.to.0 == dropped.0) || ((m.to.0 == error.0) || has_state x m.to)) same.1 ∙ fits.to;
    }

pub row_on : (models : List ModelParts) (live : List (SessionId × InstanceId)) (xs ys : List Resource) (r : Row) → is_front is_same_kind xs ys ≡ true
    → FitsRow models live xs r → FitsRow models live ys r
row_on models live xs ys r front fits =
    let same = front-part models xs ys front r.part.resource r.part.index fits.part in
    record { shown = fits.shown; part = ap (nat_lt r.part.index) same.0 ∙ fits.part; state = ap (λ (x : ModelParts). (r.state.0 == error.0) || has_state x r.state) same.1 ∙ fits.state }

-- a pending message and a row of a shown session fit
pub pending_fits : (c : Cluster) (live : List (SessionId × InstanceId)) (m : Message) → list_all has_no_fault c.models ≡ true → is_shown live m.session ≡ true
    → is_pending c m ≡ true → FitsMessage c.models live c.resources m
pending_fits c live m sound shown e =
    let model : ModelParts = model_of c.models c.resources m.part.resource in
    let good : IsGood model = good_model c.models c.resources m.part.resource sound in
    let parts = and-six (is_live c.live m.session) (has_part c m.part) (is_legal model m.from m.to) (nat_lt m.id.0 c.next_msg) (not m.written || m.taken) (is_at_its_place c m) e in
    record {
      shown = shown;
      part = parts.1;
      from = good.starts m.from m.to parts.2;
      to = either (has_state model m.to) (m.to.0 == 1) (m.to.0 == 0) (good.leads m.from m.to parts.2);
    }
  where
    either : (a b d : Bool) → (a || b) ≡ true → (b || (d || a)) ≡ true
    either true true d e = refl
    either true false true e = refl
    either true false false e = refl
    either false true d e = refl
    either false false d e = cc

pub kept_fits : (c : Cluster) (live : List (SessionId × InstanceId)) (r : Row) → is_shown live r.session ≡ true → is_kept c r ≡ true → FitsRow c.models live c.resources r
kept_fits c live r shown e =
    let stands : Bool = has_state (model_of c.models c.resources r.part.resource) r.state in
    let parts = and-three (is_live c.live r.session) (has_part c r.part) (stands || (r.state.0 == error.0)) e in
    record { shown = shown; part = parts.1; state = or-swap stands (r.state.0 == error.0) parts.2 }

-- a resource in range is good
pub resource_good : (c : Cluster) (r : Resource) → is_ranged_resource c r ≡ true → is_good_resource c.models (length c.instances) r ≡ true
resource_good c r e =
    let parts = and-three (nat_lt r.name c.resource_names) (nat_lt r.model.0 (length c.models)) (has_good_ideal (length c.instances) c.models r) e in
    let none = none_from (fault_of r.ideal.replicas r.ideal.parts r.ideal.mode (length c.instances) (states_of (model_at c.models r.model))) parts.2 in
    let modes = mode_of_good r.ideal.replicas r.ideal.parts (length c.instances) (states_of (model_at c.models r.model)) r.ideal.mode none in
    and-both (nat_lt r.model.0 (length c.models)) (is_good_mode (length c.instances) (model_at c.models r.model) r.ideal.mode) parts.1
    (good_mode (length c.instances) (model_at c.models r.model) r.ideal.mode modes)
