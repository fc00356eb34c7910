-- The bag as its messages stand under their numbers.
use Rattle.std.specs.Prelude.{◌≡◌, ℕ, List, [], ◌∷◌}
use Rattle.hx_ids.specs.declared.MsgId.{MsgId}
use Rattle.hx_cluster.specs.declared.state.Message.{Message}

-- the messages in order of first fetch, and how many more need no memory
pub record BagState : Type 0 where
  pub items : List Message
  pub spare : ℕ

-- each message stands under its number
abbrev pub IsKeyed : List (MsgId × Message) → Type 0
IsKeyed [] = Unit {0}
IsKeyed (e ∷ es) = (e.0.0 ≡ e.1.id.0) × IsKeyed es
