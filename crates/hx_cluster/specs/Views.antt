-- Views that a plan can be made of.
use Rattle.std.specs.Prelude.{ℕ, Bool, true, ◌==◌, ◌&&◌, ◌||◌, nat_lt, nat_le, List, length}
use Rattle.std.specs.List.{list_all}
use Rattle.hx_lists.specs.Lists.{count}
use Rattle.hx_ids.specs.declared.InstanceId.{InstanceId}
use Rattle.hx_ids.specs.declared.StateId.{StateId}
use Rattle.hx_ids.specs.declared.SessionId.{SessionId}
use Rattle.hx_ids.specs.declared.PartId.{PartId}
use Rattle.hx_ideal.specs.declared.Mode.{Mode}
use Rattle.hx_ideal.specs.declared.Mode.TheVariants as modes
use Rattle.hx_model.specs.declared.ModelParts.{ModelParts}
use Rattle.hx_model.specs.Model.{error, dropped, has_state}
use Rattle.hx_cluster.specs.declared.description.Resource.{Resource}
use Rattle.hx_cluster.specs.declared.state.Row.{Row}
use Rattle.hx_cluster.specs.declared.state.Message.{Message}
use Rattle.hx_cluster.specs.declared.planning.View.{View}
use Rattle.hx_cluster.specs.Ends.{is_row, is_message, is_shown, model_at, model_of, parts_of}

-- a session of an instance in range, whose number and instance no other has
abbrev pub is_good_session : ℕ → List (SessionId × InstanceId) → SessionId × InstanceId → Bool
is_good_session instances live e =
    nat_lt e.1.0 instances && (count (λ o. o.0.0 == e.0.0) live == 1) && (count (λ o. o.1.0 == e.1.0) live == 1)

-- a shown session's part of one of the resources
abbrev pub is_good_part : View → SessionId → PartId → Bool
is_good_part view s p = is_shown view.live s && nat_lt p.index (parts_of view.ideals.resources p.resource)

-- a state that a replica of a part may be in
abbrev pub is_good_state : List ModelParts → View → PartId → StateId → Bool
is_good_state models view p t = (t.0 == error.0) || has_state (model_of models view.ideals.resources p.resource) t

-- the only row of its session and part
abbrev pub is_good_row : List ModelParts → View → Row → Bool
is_good_row models view r =
    is_good_part view r.session r.part && is_good_state models view r.part r.state && (count (is_row r.session r.part) view.rows == 1)

-- the only message of its session and part
abbrev pub is_good_message : List ModelParts → View → Message → Bool
is_good_message models view m =
    is_good_part view m.session m.part
    && is_good_state models view m.part m.from
    && ((m.to.0 == dropped.0) || is_good_state models view m.part m.to)
    && (count (is_message m.session m.part) view.mail == 1)

-- instances in range, and states of the model
abbrev pub is_good_mode : ℕ → ModelParts → Mode → Bool
is_good_mode instances m modes.Full = true
is_good_mode instances m (modes.Semi lists) = list_all (list_all (λ i. nat_lt i.0 instances)) lists
is_good_mode instances m (modes.Custom maps) = list_all (list_all (λ e. nat_lt e.0.0 instances && has_state m e.1)) maps

abbrev pub is_good_resource : List ModelParts → ℕ → Resource → Bool
is_good_resource models instances r = nat_lt r.model.0 (length models) && is_good_mode instances (model_at models r.model) r.ideal.mode

-- whether a view is well formed, with the models and the number of instances of the description
abbrev pub is_well_formed : List ModelParts → ℕ → View → Bool
is_well_formed models instances view =
    list_all (is_good_session instances view.live) view.live
    && list_all (is_good_message models view) view.mail
    && list_all (is_good_row models view) view.rows
    && nat_le (length view.ideals.resources) 256
    && (length view.ideals.drained == instances)
    && list_all (is_good_resource models instances) view.ideals.resources
