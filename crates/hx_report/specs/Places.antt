-- Where what is said of a session's part stands in a list.
use Rattle.std.specs.Prelude.{◌≡◌, ℕ, Bool, ◌==◌, ◌&&◌, List}
use Rattle.std.specs.List.{position}
use Rattle.std.specs.Ordering.{nat_cmp, ordering_then}
use Rattle.std.specs.declared.cmp.Ordering.{Ordering}
use Rattle.std.specs.BTreeMap.{BTreeMap, get}
use Rattle.hx_ids.specs.declared.SessionId.{SessionId}
use Rattle.hx_ids.specs.declared.PartId.{PartId}
use Rattle.hx_cluster.specs.declared.planning.Candidate.{Candidate}
use Rattle.hx_cluster.specs.declared.planning.Selection.{Selection}
use Rattle.hx_cluster.specs.declared.planning.Throttled.{Throttled}
use Rattle.hx_cluster.specs.Ends.{part_eq}

-- whether a candidate is of a session's part
abbrev pub is_for : SessionId → PartId → Candidate → Bool
is_for s p c = (c.session.0 == s.0) && part_eq c.part p

-- the order of the table
abbrev pub replica_cmp : SessionId × PartId → SessionId × PartId → Ordering
replica_cmp a b = ordering_then (nat_cmp a.0.0 b.0.0) (ordering_then (nat_cmp a.1.resource.0 b.1.resource.0) (nat_cmp a.1.index b.1.index))

-- the table has the place of the first item of each session's part
abbrev pub ArePlaces : {X : Type 0} → (X → Candidate) → List X → BTreeMap (SessionId × PartId) ℕ → Type 0
ArePlaces candidate_of xs places = (s : SessionId) (p : PartId) → get replica_cmp places (s, p) ≡ position (λ x. is_for s p (candidate_of x)) xs

-- tables of what is said of candidates
pub record AreFates (selection : Selection) (throttled : Throttled) (sent_places held_places full_places : BTreeMap (SessionId × PartId) ℕ) : Type 0 where
  pub sent : ArePlaces (λ c. c) throttled.sent sent_places
  pub held : ArePlaces (λ h. h.candidate) throttled.held held_places
  pub full : ArePlaces (λ f. f.candidate) selection.full full_places
