-- What contracts see of a pool, and the words on its lists.
use Rattle.std.specs.Prelude.{ℕ, zero, suc, ◌+◌, ◌==◌, Bool, not, List, [], ◌∷◌, ◌++◌, length, filter, Option, Some, None, if◌then◌else◌, refl}
use Rattle.std.specs.List.{list_any}
use Rattle.std.specs.Coded.{Coded, code_by, coded×, coded_ℕ, coded_list}
use Rattle.hx_links.specs.declared.Node.{Node}

-- the lists, each with its nodes and their values in order, and how many more nodes need no memory
pub record Pool (T : Type 0) : Type 0 where
  pub lists : List (List (Node × T))
  pub spare : ℕ

-- a node is stored as its number
abbrev pub node_code : Coded Node
node_code = code_by ℕ coded_ℕ (λ n. n.0) (λ n. record { 0 = n }) (λ _. refl)

-- a pool is stored as the pair of its fields
abbrev pub pool_code : {T : Type 0} → Coded T → Coded (Pool T)
pool_code {T} code =
    code_by
    (List (List (Node × T)) × ℕ)
    (coded× (coded_list (coded_list (coded× node_code code))) coded_ℕ)
    (λ p. (p.lists, p.spare))
    (λ p. record { lists = p.0; spare = p.1 })
    (λ _. refl)

module _ {T : Type 0} where
  -- whether this is the entry of the node
  abbrev pub is_at : Node → Node × T → Bool
  is_at n e = e.0.0 == n.0

  -- whether a list has the node
  abbrev pub is_in : Node → List (Node × T) → Bool
  is_in n xs = list_any (is_at n) xs

  -- whether some list holds the node
  abbrev pub holds : List (List (Node × T)) → Node → Bool
  holds lists n = list_any (is_in n) lists

  -- how many entries of the lists are of the node
  abbrev pub occurrences : Node → List (List (Node × T)) → ℕ
  occurrences n [] = 0
  occurrences n (xs ∷ lists) = length (filter (is_at n) xs) + occurrences n lists

  -- how many nodes the lists have
  abbrev pub node_count : List (List (Node × T)) → ℕ
  node_count [] = 0
  node_count (xs ∷ lists) = length xs + node_count lists

  -- the first node of a list
  abbrev pub first_node : List (Node × T) → Option Node
  first_node [] = None
  first_node (e ∷ xs) = Some e.0

  -- the value of a node in a list
  abbrev pub value_in : Node → List (Node × T) → Option T
  value_in n [] = None
  value_in n (e ∷ xs) = if is_at n e then Some e.1 else value_in n xs

  -- the node after a node in a list
  abbrev pub next_in : Node → List (Node × T) → Option Node
  next_in n [] = None
  next_in n (e ∷ xs) = if is_at n e then first_node xs else next_in n xs

  -- the list that holds a node, or an empty one
  abbrev pub list_of : List (List (Node × T)) → Node → List (Node × T)
  list_of [] n = []
  list_of (xs ∷ lists) n = if is_in n xs then xs else list_of lists n

  -- the value of a node
  abbrev pub value_of : List (List (Node × T)) → Node → Option T
  value_of lists n = value_in n (list_of lists n)

  -- the node after a node in its list
  abbrev pub next_of : List (List (Node × T)) → Node → Option Node
  next_of lists n = next_in n (list_of lists n)

  -- the lists with one more entry at the end of the list at a place
  abbrev pub pushed : List (List (Node × T)) → ℕ → Node × T → List (List (Node × T))
  pushed [] l e = []
  pushed (xs ∷ lists) zero e = (xs ++ e ∷ []) ∷ lists
  pushed (xs ∷ lists) (suc l) e = xs ∷ pushed lists l e

  -- a list without the node
  abbrev pub without : Node → List (Node × T) → List (Node × T)
  without n xs = filter (λ e. not (is_at n e)) xs

  -- a list in which the node, if it has it, comes last
  abbrev pub moved_back : Node → List (Node × T) → List (Node × T)
  moved_back n xs = without n xs ++ filter (is_at n) xs

  -- an entry with another value, if it is the node's
  abbrev pub replaced : Node → T → Node × T → Node × T
  replaced n v e = (e.0, if is_at n e then v else e.1)
