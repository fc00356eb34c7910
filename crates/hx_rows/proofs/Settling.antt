-- Three instances join and settle: one MASTER and two SLAVE are four transitions away, and none once they have settled. Each then
-- holds a handler.
use Rattle.std.specs.Prelude.{◌≡◌, ℕ, List, [], ◌∷◌, ◌++◌, map, codes}
use Rattle.std.specs.Fmt.{digits}
use Rattle.std.proofs.Common.{refl}
use Rattle.hx_pass.specs.Left.{left_of}
use Rattle.hx_replicas.specs.Ledger.{held_by}
use Rattle.hx_worlds.specs.World.{World}
use Rattle.hx_worlds.specs.Settles.{enough_rounds}
use Rattle.hx_rows.proofs.Fixtures.{one_list, world_after}

abbrev joins : List ℕ
joins = codes "join n1\njoin n2\njoin n3\nlead c1\n"

abbrev joined : World
joined = world_after one_list joins

abbrev settled : World
settled = world_after one_list (joins ++ codes "settle\n")

pub left_at_first : left_of joined.cluster ≡ 4
unfolding digits
left_at_first = refl

pub nothing_left : left_of settled.cluster ≡ 0
unfolding digits
nothing_left = refl

-- for three places and models of at most three states
pub rounds_allowed : enough_rounds joined.cluster ≡ 136
unfolding digits
rounds_allowed = refl

pub handlers_held : map held_by settled.participants ≡ 1 ∷ 1 ∷ 1 ∷ []
unfolding digits
handlers_held = refl
