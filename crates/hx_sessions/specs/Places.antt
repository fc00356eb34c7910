-- Where the sessions stand. No public clause cites this module.
use Rattle.std.specs.Prelude.{◌≡◌, ℕ, ◌^◌, ◌≤◌, ◌<◌, ◌==◌, List, [], ◌∷◌, ◌++◌, map, drop, Option, Some, None, slice_index_or, if◌then◌else◌}
use Rattle.std.specs.Map.{lookup}
use Rattle.hx_lists.specs.Lists.{count}
use Rattle.hx_ids.specs.declared.SessionId.{SessionId}
use Rattle.hx_ids.specs.declared.Live.{Live}
use Rattle.hx_ids.specs.Expiry.{expired}
use Rattle.hx_links.specs.declared.Node.{Node}
use Rattle.hx_links.specs.declared.ListId.{ListId}
use Rattle.hx_links.specs.Pool.{is_at, first_node}
use Rattle.hx_sessions.specs.Sessions.{AreSessions}

-- the first list of a pool, or an empty one
abbrev pub entries_of : List (List (Node × Live)) → List (Node × Live)
entries_of lists = slice_index_or lists 0 []

-- the sessions of a list's entries
abbrev pub live_of : List (Node × Live) → List Live
live_of entries = map (λ e. e.1) entries

-- the node of a session
abbrev pub node_of : ℕ → List (Node × Live) → Option Node
node_of s [] = None
node_of s (e ∷ entries) = if e.1.session.0 == s then Some e.0 else node_of s entries

-- the pool has one list, from the first session on
abbrev pub IsOnlyList : Option ListId → List (List (Node × Live)) → Type 0
IsOnlyList None lists = lists ≡ []
IsOnlyList (Some l) lists = (l.0 ≡ 0) × (lists ≡ entries_of lists ∷ [])

-- what holds of the fields: the pool has the sessions in one list, and the map names the node of each
pub record ArePlaced (order : Option ListId) (lists : List (List (Node × Live))) (nodes : List (ℕ × Node)) (next : ℕ) : Type 0 where
  pub one : IsOnlyList order lists
  pub once : (n : Node) → count (is_at n) (entries_of lists) ≤ 1
  pub placed : (s : ℕ) → lookup (λ k. s == k) nodes ≡ node_of s (entries_of lists)
  pub fits : next < 2 ^ 64
  pub sessions : AreSessions (record { live = live_of (entries_of lists); next = next })

-- so many entries have been passed, each of a session that has expired
pub record HavePassed (es : List (Node × Live)) (now timeout : ℕ) (passed : ℕ) (at : Option Node) (ended : List SessionId) : Type 0 where
  pub at_next : at ≡ first_node (drop passed es)
  pub so_far : ended ++ expired (live_of (drop passed es)) now timeout ≡ expired (live_of es) now timeout
