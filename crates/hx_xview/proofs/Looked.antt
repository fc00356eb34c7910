-- What is looked up in rows.
use Rattle.std.proofs.Common.{◌≡◌, Bool, true, false, cond, List, [], ◌∷◌, map, filter, refl, ap, ◌∙◌, sym}
use Rattle.std.specs.Prelude.{◌==◌, ◌&&◌}
use Rattle.hx_ids.specs.declared.InstanceId.{InstanceId}
use Rattle.hx_ids.specs.declared.PartId.{PartId}
use Rattle.hx_ids.specs.declared.StateId.{StateId}
use Rattle.hx_cluster.specs.declared.happenings.Seen.{Seen}
use Rattle.hx_cluster.specs.Ends.{part_eq}
use Rattle.hx_xview.specs.Views.{rows_of, holders_of, routed, Shows}

-- two tests, one after the other
filter_both : {X : Type 0} (p q : X → Bool) (xs : List X) → filter (λ x. p x && q x) xs ≡ filter q (filter p xs)
filter_both p q [] = refl
filter_both {X = X} p q (x ∷ xs) = one (p x) (filter_both p q xs)
  where
    one : (b : Bool) → filter (λ x. p x && q x) xs ≡ filter q (filter p xs)
        → cond (b && q x) (x ∷ filter (λ x. p x && q x) xs) (filter (λ x. p x && q x) xs) ≡ filter q (cond b (x ∷ filter p xs) (filter p xs))
    one true e = ap (λ ys. cond (q x) (x ∷ ys) ys) e
    one false e = e

-- the instances in a state, among the rows of a part
pub routed_of_part : (rows : List Seen) (p : PartId) (t : StateId) → routed rows p t ≡ map (λ r. r.instance) (filter (λ r. r.state.0 == t.0) (rows_of p rows))
routed_of_part rows p t = ap (map (λ (r : Seen). r.instance)) (filter_both (λ (r : Seen). part_eq r.part p) (λ r. r.state.0 == t.0) rows)

-- what is shown of each part is all that is looked up
pub routed_shown : (shown rows : List Seen) → Shows shown rows → (p : PartId) (t : StateId) → routed shown p t ≡ routed rows p t
routed_shown shown rows shows p t =
    routed_of_part shown p t
    ∙ ap (λ (of_part : List Seen). map (λ r. r.instance) (filter (λ r. r.state.0 == t.0) of_part)) (shows p)
    ∙ sym (routed_of_part rows p t)

-- a row's instance and state
abbrev held : Seen → InstanceId × StateId
held r = (r.instance, r.state)

firsts : (t : StateId) (rows : List Seen)
    → map (λ (r : Seen). r.instance) (filter (λ (r : Seen). r.state.0 == t.0) rows)
    ≡ map (λ (h : InstanceId × StateId). h.0) (filter (λ (h : InstanceId × StateId). h.1.0 == t.0) (map held rows))
firsts t [] = refl
firsts t (r ∷ rows) = one (r.state.0 == t.0) _ _ (firsts t rows)
  where
    one : (b : Bool) (kept : List Seen) (holders : List (InstanceId × StateId)) → map (λ (r : Seen). r.instance) kept ≡ map (λ (h : InstanceId × StateId). h.0) holders
        → map (λ (r : Seen). r.instance) (cond b (r ∷ kept) kept) ≡ map (λ (h : InstanceId × StateId). h.0) (cond b (held r ∷ holders) holders)
    one true kept holders e = ap (λ instances. r.instance ∷ instances) e
    one false kept holders e = e

-- the instances in a state are the holders that have it
pub routed_held : (rows : List Seen) (p : PartId) (t : StateId)
    → routed rows p t ≡ map (λ (h : InstanceId × StateId). h.0) (filter (λ (h : InstanceId × StateId). h.1.0 == t.0) (holders_of rows p))
routed_held rows p t = routed_of_part rows p t ∙ firsts t (rows_of p rows)
