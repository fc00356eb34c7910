-- What takes room in the states of parts, in tables.
use Rattle.std.specs.Prelude.{◌≡◌, ℕ, ◌+◌, Bool, true, ◌==◌, ◌&&◌, List, length, is_some, unwrap_or, Option}
use Rattle.std.specs.List.{list_any}
use Rattle.std.specs.Ordering.{nat_cmp, ordering_then}
use Rattle.std.specs.declared.cmp.Ordering.{Ordering}
use Rattle.std.specs.BTreeMap.{BTreeMap, get}
use Rattle.std.specs.BTreeSet.{BTreeSet, contains}
use Rattle.hx_lists.specs.Lists.{count}
use Rattle.hx_ids.specs.declared.StateId.{StateId}
use Rattle.hx_ids.specs.declared.SessionId.{SessionId}
use Rattle.hx_ids.specs.declared.PartId.{PartId}
use Rattle.hx_model.specs.declared.ModelParts.{ModelParts}
use Rattle.hx_cluster.specs.declared.planning.View.{View}
use Rattle.hx_cluster.specs.declared.planning.Candidate.{Candidate}
use Rattle.hx_cluster.specs.Ends.{limit_over}
use Rattle.hx_parts.specs.Index.{count_in}
use Rattle.hx_select.specs.Selection.{goes_to}

-- the most that may be in a state of a part, if that is limited
abbrev pub limit_in : List ModelParts → View → PartId → StateId → Option ℕ
limit_in models view p t = limit_over models view.ideals.resources (length view.live) p t

-- how many have it among their ends or were accepted for it, and whether a session was accepted for it
abbrev pub filling_in : View → List Candidate → PartId → StateId → ℕ
filling_in view accepted p t = count_in view p t + count (goes_to p t) accepted

abbrev pub is_taken : List Candidate → PartId → StateId → SessionId → Bool
is_taken accepted p t s = list_any (λ a. goes_to p t a && (a.session.0 == s.0)) accepted

-- the orders of the tables
abbrev pub end_cmp : PartId × StateId → PartId × StateId → Ordering
end_cmp a b = ordering_then (ordering_then (nat_cmp a.0.resource.0 b.0.resource.0) (nat_cmp a.0.index b.0.index)) (nat_cmp a.1.0 b.1.0)

abbrev pub taken_cmp : PartId × StateId × SessionId → PartId × StateId × SessionId → Ordering
taken_cmp a b = ordering_then (end_cmp (a.0, a.1) (b.0, b.1)) (nat_cmp a.2.0 b.2.0)

-- the tables have the filling of each limited state that was asked for, and each session that was accepted for one
pub record AreFillings (models : List ModelParts) (view : View) (accepted : List Candidate) (counts : BTreeMap (PartId × StateId) ℕ) (taken : BTreeSet (PartId × StateId × SessionId)) : Type 0 where
  pub counted : (p : PartId) (t : StateId) → is_some (limit_in models view p t) ≡ true → unwrap_or (get end_cmp counts (p, t)) (count_in view p t) ≡ filling_in view accepted p t
  pub held : (p : PartId) (t : StateId) (s : SessionId) → is_some (limit_in models view p t) ≡ true → contains taken_cmp taken (p, t, s) ≡ is_taken accepted p t s
