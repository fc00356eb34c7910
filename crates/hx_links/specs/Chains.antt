-- How the links of the slots make up lists. No public clause cites this module.
use Rattle.std.specs.Prelude.{◌≡◌, ◌≢◌, ℕ, zero, suc, ◌+◌, ◌≤◌, ◌==◌, Bool, false, List, [], ◌∷◌, map, length, Option, Some, None, is_some, option_map, slice_index_or, slice_set, if◌then◌else◌}
use Rattle.hx_links.specs.declared.Node.{Node}
use Rattle.hx_links.specs.declared.slots.Link.{Link}
use Rattle.hx_links.specs.declared.chains.Ends.{Ends}
use Rattle.hx_links.specs.declared.chains.Chains.{Chains}
use Rattle.hx_links.specs.Pool.{is_at, occurrences, node_count, first_node}
use Rattle.hx_links.specs.Slots.{link_at, held, with_next, with_prev}

-- whether this is the node
abbrev pub is_node : Option Node → Node → Bool
is_node None n = false
is_node (Some m) n = m.0 == n.0

module _ {T : Type 0} where
  abbrev pub make_link : ℕ → Option Node → Option Node → T → Link T
  make_link l before after v = record { list = record { 0 = l }; prev = before; next = after; value = v }

  -- the link that a node of the list with number l has, where `before` comes before the list
  abbrev pub link_in : ℕ → Option Node → Node → List (Node × T) → Option (Link T)
  link_in l before n [] = None
  link_in l before n (e ∷ xs) =
      if is_at n e then Some (make_link l before (first_node xs) e.1) else link_in l (Some e.0) n xs

  -- the link, if it is of the list with number l
  abbrev pub own : ℕ → Option (Link T) → Option (Link T)
  own l None = None
  own l (Some k) = if k.list.0 == l then Some k else None

  -- the last node of a list, where `before` comes before the list
  abbrev pub last_after : Option Node → List (Node × T) → Option Node
  last_after before [] = before
  last_after before (e ∷ xs) = last_after (Some e.0) xs

  -- the ends of a list
  abbrev pub ends_of : List (Node × T) → Ends
  ends_of xs = record { front = first_node xs; back = last_after None xs }

  -- the list with number l, or an empty one
  abbrev pub list_at : List (List (Node × T)) → ℕ → List (Node × T)
  list_at lists l = slice_index_or lists l []

  -- the links are those of the lists, and each node is in one list at most
  pub record AreLinks (links : List (Option (Link T))) (ends : List Ends) (lists : List (List (Node × T))) : Type 0 where
    pub ends_are : ends ≡ map ends_of lists
    pub links_are : (l : ℕ) (n : Node) → own l (link_at links n) ≡ link_in l None n (list_at lists l)
    pub once : (n : Node) → occurrences n lists ≤ 1
    pub all : node_count lists ≡ held links

  -- the same of all nodes but one, which has a link and is in no list
  pub record AreLinksBut (one : Node) (links : List (Option (Link T))) (ends : List Ends) (lists : List (List (Node × T))) : Type 0 where
    pub ends_are : ends ≡ map ends_of lists
    pub links_are : (l : ℕ) (n : Node) → n.0 ≢ one.0 → own l (link_at links n) ≡ link_in l None n (list_at lists l)
    pub once : (n : Node) → occurrences n lists ≤ 1
    pub all : node_count lists + 1 ≡ held links
    pub absent : occurrences one lists ≡ 0

  -- the entry of a node, and what comes after it
  abbrev pub entry_then : Node → Option (Link T) → (Option Node → List (Node × T)) → List (Node × T)
  entry_then n None rest = []
  entry_then n (Some k) rest = (n, k.value) ∷ rest k.next

  -- the entries from a node on, at most so many
  abbrev pub walk : List (Option (Link T)) → ℕ → Option Node → List (Node × T)
  walk links zero n = []
  walk links (suc most) None = []
  walk links (suc most) (Some n) = entry_then n (link_at links n) (walk links most)

  -- the lists that the links make up
  abbrev pub lists_of : Chains T → List (List (Node × T))
  lists_of c = map (λ e. walk c.slots.links (length c.slots.links) e.front) c.ends.items

  abbrev pub IsLinked : Chains T → Type 0
  IsLinked c = AreLinks c.slots.links c.ends.items (lists_of c)

  abbrev pub IsLinkedBut : Node → Chains T → Type 0
  IsLinkedBut one c = AreLinksBut one c.slots.links c.ends.items (lists_of c)

  -- a link once `before` and `after` are neighbours
  abbrev pub connected : Option Node → Option Node → Node → Option (Link T) → Option (Link T)
  connected before after n k = option_map (λ k. make_link k.list.0 (if is_node after n then before else k.prev) (if is_node before n then after else k.next) k.value) k

  -- the links once `after` comes next after `before`
  abbrev pub next_set : Option Node → Option Node → List (Option (Link T)) → List (Option (Link T))
  next_set None after links = links
  next_set (Some n) after links = slice_set links n.0 (option_map (with_next after) (link_at links n))

  -- the links once `before` comes right before `after`
  abbrev pub prev_set : Option Node → Option Node → List (Option (Link T)) → List (Option (Link T))
  prev_set before None links = links
  prev_set before (Some n) links = slice_set links n.0 (option_map (with_prev before) (link_at links n))

-- the ends of a list once `before` and `after` are neighbours in it: where `before` is none, it begins with `after`, and the other way round
abbrev pub ends_connected : Option Node → Option Node → Ends → Ends
ends_connected before after e = record {
  front = if is_some before then e.front else after;
  back = if is_some after then e.back else before;
}

abbrev pub no_ends : Ends
no_ends = record { front = None; back = None }

-- the ends of the lists once the list with number l begins with `after`, where `before` is none
abbrev pub front_set : ℕ → Option Node → Option Node → List Ends → List Ends
front_set l None after ends = slice_set ends l (record { front = after; back = (slice_index_or ends l no_ends).back })
front_set l (Some n) after ends = ends

-- the ends of the lists once the list with number l ends with `before`, where `after` is none
abbrev pub back_set : ℕ → Option Node → Option Node → List Ends → List Ends
back_set l before None ends = slice_set ends l (record { front = (slice_index_or ends l no_ends).front; back = before })
back_set l before (Some n) ends = ends
