-- The sessions that sit at places: what each holds, and how it is shown.
use Rattle.std.specs.Prelude.{◌==◌, ◌&&◌, ◌||◌, Bool, false, List, [], ◌∷◌, Option, None, Some}
use Rattle.std.specs.List.{list_any}
use Rattle.hx_ids.specs.declared.InstanceId.{InstanceId}
use Rattle.hx_ids.specs.declared.ResourceId.{ResourceId}
use Rattle.hx_ids.specs.declared.SessionId.{SessionId}
use Rattle.hx_cluster.specs.declared.state.Cluster.{Cluster}

-- whether a session has a row or a message of a resource
abbrev pub session_holds : Cluster → ResourceId → SessionId → Bool
session_holds c r s =
    list_any (λ x. (x.part.resource.0 == r.0) && (x.session.0 == s.0)) c.rows
    || list_any (λ m. (m.part.resource.0 == r.0) && (m.session.0 == s.0)) c.mail

-- whether the session at a place has
abbrev pub seat_holds : Cluster → ResourceId → Option SessionId → Bool
seat_holds c r None = false
seat_holds c r (Some s) = session_holds c r s

-- how the session at the place of an instance is shown, if there is one
abbrev pub seat_shown : InstanceId → Option SessionId → List (SessionId × InstanceId)
seat_shown i None = []
seat_shown i (Some s) = (s, i) ∷ []
