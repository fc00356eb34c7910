-- Handlers and factories that fail as a list says.
use Rattle.std.specs.Prelude.{ℕ, List}
use Rattle.hx_ids.specs.declared.PartId.{PartId}
use Rattle.hx_ids.specs.declared.StateId.{StateId}
use Rattle.hx_cluster.specs.declared.description.Failure.{Failure}

-- a handler: the part and the initial state that it was made with, where it stands, how many runs failed and how many there were
pub record HandlerState : Type 0 where
  pub part : PartId
  pub initial : StateId
  pub at : StateId
  pub faults : ℕ
  pub runs : ℕ
  pub failures : List Failure

-- a factory: how many handlers it made, how many were retired, how many makings failed, and how many were tried of each part
pub record FactoryState : Type 0 where
  pub made : ℕ
  pub retired : ℕ
  pub faults : ℕ
  pub failures : List Failure
  pub tried : List (PartId × ℕ)
