-- The orders in which the lists of a cluster stand.
use Rattle.std.specs.Prelude.{◌≡◌, Bool, true, ◌&&◌, List, [], ◌∷◌, nat_lt}
use Rattle.std.specs.List.{list_all}
use Rattle.hx_cluster.specs.declared.state.Message.{Message}
use Rattle.hx_cluster.specs.declared.state.Cluster.{Cluster}
use Rattle.hx_cluster.specs.Steps.{flag_before}
use Rattle.hx_cluster.specs.Messages.{row_before}

-- each item comes before all that stand behind it
abbrev pub rises : {X : Type 0} → (X → X → Bool) → List X → Bool
rises before [] = true
rises before (x ∷ xs) = list_all (before x) xs && rises before xs

abbrev pub number_before : Message → Message → Bool
number_before a b = nat_lt a.id.0 b.id.0

-- rows and reset flags stand by session, then part, and messages by number
pub record IsOrdered (c : Cluster) : Type 0 where
  pub rows : rises row_before c.rows ≡ true
  pub resets : rises flag_before c.resets ≡ true
  pub mail : rises number_before c.mail ≡ true
