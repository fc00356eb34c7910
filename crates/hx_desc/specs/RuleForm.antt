-- How a throttle is described.
use Rattle.std.specs.Prelude.{ℕ, ◌==◌, List, [], ◌∷◌, ◌++◌, Option, None, Some, Ok, if◌then◌else◌, codes}
use Rattle.std.specs.Str.{bytes_eq}
use Rattle.serde_json.specs.Data.{Data}
use Rattle.hx_ids.specs.declared.StateId.{StateId}
use Rattle.hx_model.specs.Model.{error, dropped}
use Rattle.hx_cluster.specs.declared.description.Rule.{Rule}
use Rattle.hx_cluster.specs.declared.description.Scope.{Scope}
use Rattle.hx_cluster.specs.declared.description.Scope.TheVariants as scopes
use Rattle.hx_forms.specs.declared.faults.DescKind.TheVariants as kinds
use Rattle.hx_forms.specs.Found.{Found, fault, ◌>>=◌, tested, text_in, number_in, place_in, array_up_to, read_all, object_in, required, optional}

abbrev pub scope_of : List ℕ → Found Scope
scope_of text =
    if bytes_eq text (codes "cluster") then Ok scopes.Cluster
    else if bytes_eq text (codes "instance") then Ok scopes.Instance
    else if bytes_eq text (codes "resource") then Ok scopes.Resource
    else fault kinds.BadScope

abbrev pub scope_in : Data → Found Scope
scope_in d = do
  text ← text_in d
  scope_of text

-- an end of a transition: any state but one, where no transition has that end
abbrev pub end_in : List (List ℕ) → StateId → Data → Found (Option StateId)
end_in states never d = do
  place ← place_in kinds.UnknownState states d
  tested ((place == never.0, kinds.UnknownState) ∷ []) (Some (record { 0 = place }))

-- the one transition that is counted, or all of them
abbrev pub transition_of : Option StateId → Option StateId → Found (Option (StateId × StateId))
transition_of None None = Ok None
transition_of (Some from) (Some to) = Ok (Some (from, to))
transition_of None (Some to) = fault kinds.HalfTransition
transition_of (Some from) None = fault kinds.HalfTransition

-- none begins at DROPPED, and none leads to ERROR
abbrev pub rule_in : List (List ℕ) → List Rule → Data → Found (List Rule)
rule_in states before d = do
  members ← object_in (codes "scope" ∷ codes "limit" ∷ codes "from" ∷ codes "to" ∷ []) d
  scope ← required (codes "scope") scope_in members
  limit ← required (codes "limit") (number_in 1 65535) members
  from ← optional (codes "from") None (end_in states dropped) members
  to ← optional (codes "to") None (end_in states error) members
  transition ← transition_of from to
  Ok (before ++ (record { scope = scope; transition = transition; limit = limit }) ∷ [])

abbrev pub rules_in : List (List ℕ) → Data → Found (List Rule)
rules_in states d = do
  ds ← array_up_to 16 d
  read_all (rule_in states) [] ds
