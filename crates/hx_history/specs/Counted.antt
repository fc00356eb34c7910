-- What is counted of a history: the events that are kept as they are, and the writes among the others.
use Rattle.std.specs.Prelude.{◌≡◌, ℕ, ◌+◌, ◌*◌, Bool, true, false, List, [], Option}
use Rattle.std.specs.List.{sum_by}
use Rattle.hx_ids.specs.declared.ControllerId.{ControllerId}
use Rattle.hx_ids.specs.declared.InstanceId.{InstanceId}
use Rattle.hx_ids.specs.declared.MsgId.{MsgId}
use Rattle.hx_ids.specs.declared.PassNo.{PassNo}
use Rattle.hx_ids.specs.declared.SessionId.{SessionId}
use Rattle.hx_cluster.specs.declared.happenings.Begun.{Begun}
use Rattle.hx_cluster.specs.declared.happenings.Admin.TheVariants as steps
use Rattle.hx_cluster.specs.declared.happenings.Did.TheVariants as dids
use Rattle.hx_cluster.specs.declared.happenings.Outcome.{Outcome}
use Rattle.hx_cluster.specs.declared.happenings.Outcome.TheVariants as outcomes
use Rattle.hx_cluster.specs.declared.happenings.Event.{Event}
use Rattle.hx_cluster.specs.declared.happenings.Event.TheVariants as events
use Rattle.hx_history.specs.declared.kinds.Kind.{Kind}
use Rattle.hx_history.specs.declared.kinds.Kind.TheVariants as kinds

-- whether a kind is that of a write of an outcome
abbrev pub is_write_of : Outcome → Kind → Bool
is_write_of outcomes.Ok kinds.WriteOk = true
is_write_of outcomes.Ok kinds.LongWriteOk = true
is_write_of outcomes.Failed kinds.WriteFailed = true
is_write_of outcomes.Failed kinds.LongWriteFailed = true
is_write_of outcome kind = false

-- a number of events, where an event that words tell counts for nothing, but a write for a number of its outcome
pub record CountsWrites (number : Event → ℕ) (ok failed : ℕ) : Type 0 where
  pub line : (n : ℕ) → number (events.Line n) ≡ 0
  pub tick : (n : ℕ) → number (events.Admin (steps.Tick n) (dids.Ended [])) ≡ 0
  pub begin : (k : ControllerId) (begun : Begun) → number (events.Begin k begun) ≡ 0
  pub live : (k : ControllerId) (pass : PassNo) → number (events.Live k pass) ≡ 0
  pub mail : (k : ControllerId) (pass : PassNo) (s : SessionId) → number (events.Mail k pass s) ≡ 0
  pub states : (k : ControllerId) (pass : PassNo) (s : SessionId) → number (events.States k pass s) ≡ 0
  pub ideals : (k : ControllerId) (pass : PassNo) → number (events.Ideals k pass) ≡ 0
  pub fetch : (i : InstanceId) (s : Option SessionId) (n : ℕ) → number (events.Fetch i s n) ≡ 0
  pub take : (s : SessionId) (id : MsgId) → number (events.Take s id) ≡ 0
  pub write_ok : (s : SessionId) (id : MsgId) → number (events.Write s id outcomes.Ok) ≡ ok
  pub write_failed : (s : SessionId) (id : MsgId) → number (events.Write s id outcomes.Failed) ≡ failed
  pub ack : (s : SessionId) (id : MsgId) → number (events.Ack s id) ≡ 0

-- so a history is counted by the events that are kept as they are, and by how many others are writes
abbrev pub IsCountedBy : List Event → List Event → ℕ → ℕ → Type 0
IsCountedBy all kept ok failed = (number : Event → ℕ) (a b : ℕ) → CountsWrites number a b
    → sum_by number all ≡ sum_by number kept + ok * a + failed * b
