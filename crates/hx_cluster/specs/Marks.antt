-- Why a message isn't taken, its outcome not written, or its end not acknowledged: the first cause that fits.
use Rattle.std.specs.Prelude.{not, Option, None, Some, if◌then◌else◌}
use Rattle.hx_ids.specs.declared.SessionId.{SessionId}
use Rattle.hx_ids.specs.declared.MsgId.{MsgId}
use Rattle.hx_cluster.specs.declared.state.Message.{Message}
use Rattle.hx_cluster.specs.declared.state.Cluster.{Cluster}
use Rattle.hx_cluster.specs.declared.happenings.TakeFault.{TakeFault}
use Rattle.hx_cluster.specs.declared.happenings.TakeFault.TheVariants as takes
use Rattle.hx_cluster.specs.declared.happenings.WriteRefusal.{WriteRefusal}
use Rattle.hx_cluster.specs.declared.happenings.WriteRefusal.TheVariants as writes
use Rattle.hx_cluster.specs.declared.happenings.AckFault.{AckFault}
use Rattle.hx_cluster.specs.declared.happenings.AckFault.TheVariants as acks
use Rattle.hx_cluster.specs.Ends.{is_live}
use Rattle.hx_cluster.specs.Messages.{pending_of}

-- a pending message is taken once
abbrev pub take_fault : Option Message → Option TakeFault
take_fault None = Some takes.NoMessage
take_fault (Some m) = if m.taken then Some takes.AlreadyTaken else None

abbrev pub take_refusal : Cluster → SessionId → MsgId → Option TakeFault
take_refusal c s id = if is_live c.live s then take_fault (pending_of c s id) else Some takes.SessionEnded

-- one that was taken is written once
abbrev pub write_fault : Option Message → Option WriteRefusal
write_fault None = Some writes.NoMessage
write_fault (Some m) =
    if not m.taken then Some writes.NotTaken
    else if m.written then Some writes.AlreadyWritten
    else None

abbrev pub write_refusal : Cluster → SessionId → MsgId → Option WriteRefusal
write_refusal c s id = if is_live c.live s then write_fault (pending_of c s id) else Some writes.SessionEnded

-- and one that was written is acknowledged
abbrev pub ack_fault : Option Message → Option AckFault
ack_fault None = Some acks.NoMessage
ack_fault (Some m) = if m.written then None else Some acks.NotWritten

abbrev pub ack_refusal : Cluster → SessionId → MsgId → Option AckFault
ack_refusal c s id = if is_live c.live s then ack_fault (pending_of c s id) else Some acks.SessionEnded
