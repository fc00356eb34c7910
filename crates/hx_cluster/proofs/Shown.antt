-- What is shown of the live sessions, read off the sessions themselves.
use Rattle.std.proofs.Common.{◌≡◌, List, [], ◌∷◌, find, refl, arith}
use Rattle.std.specs.Prelude.{option_map, unwrap_or, slice_get, Bool, false}
use Rattle.std.proofs.Common.{Option, None, Some}
use Rattle.std.proofs.lemmas.Option.{unwrap_or-slice_get}
use Rattle.hx_ids.specs.declared.InstanceId.{InstanceId}
use Rattle.hx_ids.specs.declared.SessionId.{SessionId}
use Rattle.hx_ids.specs.declared.ResourceId.{ResourceId}
use Rattle.hx_ids.specs.declared.Live.{Live}
use Rattle.hx_model.specs.declared.ModelParts.{ModelParts}
use Rattle.hx_cluster.specs.declared.description.Resource.{Resource}
use Rattle.hx_cluster.specs.Ends.{is_session, is_live, shown_of, is_shown, instance_in, resource_at, model_of, no_model}
use Rattle.hx_cluster.specs.Steps.{is_drained}
use Rattle.hx_cluster.specs.Lookups.{model_in}

pub shown_is_live : (live : List Live) (s : SessionId) → is_shown (shown_of live) s ≡ is_live live s
shown_is_live [] s = refl
shown_is_live (l ∷ live) s = grind (arith, shown_is_live live s)

pub instance_in_shown : (live : List Live) (s : SessionId) → instance_in (shown_of live) s ≡ option_map (λ l. l.instance) (find (is_session s) live)
instance_in_shown [] s = refl
instance_in_shown (l ∷ live) s = grind (arith, instance_in_shown live s)

-- an instance that isn't there isn't drained
pub drained_at : (drained : List Bool) (i : InstanceId) → unwrap_or (slice_get drained i.0) false ≡ is_drained drained i
drained_at drained i = unwrap_or-slice_get drained i.0 false

-- a resource's model, or one without states
pub model_in_or : (models : List ModelParts) (resources : List Resource) (r : ResourceId) → unwrap_or (model_in models resources r) no_model ≡ model_of models resources r
model_in_or models resources r = one (resource_at resources r) refl
  where
    one : (o : Option Resource) → resource_at resources r ≡ o → unwrap_or (model_in models resources r) no_model ≡ model_of models resources r
    one None e = grind (arith, e)
    one (Some x) e = grind (arith, e, unwrap_or-slice_get models x.model.0 no_model)
