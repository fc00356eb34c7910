-- What a plan looks up in a view.
use Rattle.std.specs.Prelude.{◌≡◌, ◌==◌, Bool, true, false, List, map, Option, None, slice_index_or}
use Rattle.std.specs.List.{list_any, list_all, IsDistinct}
use Rattle.std.specs.Option.{option_map_or}
use Rattle.hx_ids.specs.declared.InstanceId.{InstanceId}
use Rattle.hx_ids.specs.declared.SessionId.{SessionId}
use Rattle.hx_model.specs.Model.{error}
use Rattle.hx_cluster.specs.declared.state.Row.{Row}
use Rattle.hx_cluster.specs.declared.planning.View.{View}
use Rattle.hx_cluster.specs.Ends.{session_in}
use Rattle.hx_best.specs.Wants.{by_instance, open_instances}

-- a table's cell, of an instance or beyond its end
abbrev pub cell_of : {X : Type 0} → List (Option X) → InstanceId → Option X
cell_of table i = slice_index_or table i.0 None

-- whether a row is in ERROR
abbrev pub has_errors : List Row → Bool
has_errors rows = list_any (λ r. r.state.0 == error.0) rows

-- no session is shown twice, and none on an instance where an earlier one is
pub record IsPlain (live : List (SessionId × InstanceId)) : Type 0 where
  pub own : list_all (λ e. option_map_or (λ s. s.0 == e.0.0) (session_in live e.1) false) live ≡ true
  pub once : IsDistinct (λ a b. a == b) (map (λ e. e.0.0) live)

-- whether there are errors and sessions are plain, shown sessions and open instances in order, and the session of each instance
pub record IsIndex (view : View) (errors plain : Bool) (live : List (SessionId × InstanceId)) (instances : List InstanceId) (sessions : List (Option SessionId)) : Type 0 where
  pub in_error : errors ≡ has_errors view.rows
  pub is_plain : plain ≡ true → IsPlain view.live
  pub in_order : live ≡ by_instance view.live
  pub not_drained : instances ≡ open_instances view
  pub by_number : (i : InstanceId) → cell_of sessions i ≡ session_in view.live i
