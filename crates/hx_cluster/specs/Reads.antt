-- What a controller is shown, and what a participant fetches.
use Rattle.std.specs.Prelude.{Bool, ◌==◌, List, filter, Option, None, Some, nat_lt, []}
use Rattle.std.specs.Option.{option_map_or}
use Rattle.std.specs.Prelude.{slice_get}
use Rattle.hx_lists.specs.Lists.{sort_by}
use Rattle.hx_ids.specs.declared.InstanceId.{InstanceId}
use Rattle.hx_ids.specs.declared.ControllerId.{ControllerId}
use Rattle.hx_ids.specs.declared.PassNo.{PassNo}
use Rattle.hx_ids.specs.declared.SessionId.{SessionId}
use Rattle.hx_cluster.specs.declared.planning.Ideals.{Ideals}
use Rattle.hx_cluster.specs.declared.planning.View.{View}
use Rattle.hx_cluster.specs.declared.state.Row.{Row}
use Rattle.hx_cluster.specs.declared.state.Message.{Message}
use Rattle.hx_cluster.specs.declared.state.Cluster.{Cluster}
use Rattle.hx_cluster.specs.declared.happenings.Mail.{Mail}
use Rattle.hx_cluster.specs.Ends.{shown_of}
use Rattle.hx_cluster.specs.Steps.{session_of}

-- the live sessions, by instance
abbrev pub instance_before : SessionId × InstanceId → SessionId × InstanceId → Bool
instance_before a b = nat_lt a.1.0 b.1.0

abbrev pub live_shown : Cluster → List (SessionId × InstanceId)
live_shown c = sort_by instance_before (shown_of c.live)

-- a session's pending messages by number, and its rows by part. Of an ended session there are none
abbrev pub mail_shown : Cluster → SessionId → List Message
mail_shown c s = filter (λ m. m.session.0 == s.0) c.mail

abbrev pub states_shown : Cluster → SessionId → List Row
states_shown c s = filter (λ r. r.session.0 == s.0) c.rows

-- the resources, the drained instances and the reset flags
abbrev pub ideals_shown : Cluster → Ideals
ideals_shown c = record { resources = c.resources; drained = c.instances; resets = c.resets }

-- an instance's live session, and its messages
abbrev pub messages_for : Cluster → Option SessionId → List Message
messages_for c None = []
messages_for c (Some s) = mail_shown c s

abbrev pub fetched : Cluster → InstanceId → Mail
fetched c i = record { session = session_of c i; messages = messages_for c (session_of c i) }

-- the pass number of a controller
abbrev pub pass_of : Cluster → ControllerId → PassNo
pass_of c k = option_map_or (λ d. d.1) (slice_get c.controllers k.0) (record { 0 = 0 })

-- nothing was shown
abbrev pub nothing_shown : View
nothing_shown = record { live = []; mail = []; rows = []; ideals = record { resources = []; drained = []; resets = [] } }
