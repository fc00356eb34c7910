-- The accepted messages as they are linked. No public clause cites this module.
use Rattle.std.specs.Prelude.{◌≡◌, ℕ, ◌≤◌, Bool, List, [], ◌∷◌, ◌++◌, map, drop, Option, Some, None, slice_index_or}
use Rattle.std.specs.Ordering.{ordering_then, is_lt, nat_cmp}
use Rattle.hx_links.specs.declared.Node.{Node}
use Rattle.hx_links.specs.declared.ListId.{ListId}
use Rattle.hx_lists.specs.Lists.{count}
use Rattle.hx_links.specs.Pool.{is_at, first_node}
use Rattle.hx_replicas.specs.declared.queue.Waiting.{Waiting}

-- the node of each message and what waits there, in order of delivery, and how many more need no memory
pub record QueueState : Type 0 where
  pub entries : List (Node × Waiting)
  pub spare : ℕ

-- the first list of a pool, or an empty one
abbrev pub entries_of : List (List (Node × Waiting)) → List (Node × Waiting)
entries_of lists = slice_index_or lists 0 []

-- the pool has one list, from the first reservation on
abbrev pub IsOnlyList : Option ListId → List (List (Node × Waiting)) → Type 0
IsOnlyList None lists = lists ≡ []
IsOnlyList (Some l) lists = (l.0 ≡ 0) × (lists ≡ entries_of lists ∷ [])

-- each node is in the list once at most
pub record ArePlaced (list : Option ListId) (lists : List (List (Node × Waiting))) : Type 0 where
  pub one : IsOnlyList list lists
  pub once : (n : Node) → count (is_at n) (entries_of lists) ≤ 1

-- the room in a list, if there is one
abbrev pub room_in : Option ListId → ℕ → ℕ
room_in None room = 0
room_in (Some l) room = room

-- one comes before another: by number, then by place
abbrev pub waits_before : Waiting → Waiting → Bool
waits_before a b = is_lt (ordering_then (nat_cmp a.message.id.0 b.message.id.0) (nat_cmp a.place b.place))

-- so many entries have been passed
pub record HavePassed (es : List (Node × Waiting)) (passed : ℕ) (at : Option Node) (found : List Waiting) : Type 0 where
  pub at_next : at ≡ first_node (drop passed es)
  pub so_far : found ++ map (λ e. e.1) (drop passed es) ≡ map (λ e. e.1) es
