-- Ids by their numbers, for worked examples and proofs.
use Rattle.std.specs.Prelude.{ℕ}
use Rattle.hx_ids.specs.declared.InstanceId.{InstanceId}
use Rattle.hx_ids.specs.declared.StateId.{StateId}
use Rattle.hx_ids.specs.declared.ModelId.{ModelId}
use Rattle.hx_ids.specs.declared.ResourceId.{ResourceId}
use Rattle.hx_ids.specs.declared.SessionId.{SessionId}
use Rattle.hx_ids.specs.declared.MsgId.{MsgId}
use Rattle.hx_ids.specs.declared.Epoch.{Epoch}
use Rattle.hx_ids.specs.declared.PassNo.{PassNo}
use Rattle.hx_ids.specs.declared.ControllerId.{ControllerId}
use Rattle.hx_ids.specs.declared.PartId.{PartId}
use Rattle.hx_ids.specs.declared.Live.{Live}

abbrev pub instance : ℕ → InstanceId
instance n = record { 0 = n }

abbrev pub state : ℕ → StateId
state n = record { 0 = n }

abbrev pub model : ℕ → ModelId
model n = record { 0 = n }

abbrev pub resource : ℕ → ResourceId
resource n = record { 0 = n }

abbrev pub session : ℕ → SessionId
session n = record { 0 = n }

abbrev pub message : ℕ → MsgId
message n = record { 0 = n }

abbrev pub epoch : ℕ → Epoch
epoch n = record { 0 = n }

abbrev pub pass : ℕ → PassNo
pass n = record { 0 = n }

abbrev pub controller : ℕ → ControllerId
controller n = record { 0 = n }

-- a partition of a resource
abbrev pub part : ℕ → ℕ → PartId
part r n = record { resource = resource r; index = n }

-- a live session of an instance, by the tick of its last beat
abbrev pub live : ℕ → ℕ → ℕ → Live
live s i beat = record { session = session s; instance = instance i; beat = beat }
