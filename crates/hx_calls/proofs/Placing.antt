-- What placing leaves as it was.
use Rattle.std.proofs.Common.{◌≡◌, ℕ, ◌+◌, ◌≤◌, List, [], ◌∷◌, ◌++◌, length, take, length-append, append_assoc, drop, get_or, ◌<◌, true, is_ok, Result, Ok, Err, OnOk, refl, sym, ap, ◌∙◌, arith, ◌&&◌}
use Rattle.std.specs.Prelude.{nat_le, if◌then◌else◌, Bool, not, ◌==◌, Option, None, Some, is_none, slice_get, slice_set}
use Rattle.std.proofs.lemmas.List.{take-append-le, at_drop_more}
use Rattle.hx_cluster.specs.declared.description.Rule.{Rule}
use Rattle.hx_cluster.specs.declared.state.Cluster.{Cluster}
use Rattle.hx_cluster.specs.declared.happenings.Proposal.{Proposal}
use Rattle.hx_cluster.specs.declared.happenings.Placed.{Placed}
use Rattle.hx_cluster.specs.declared.happenings.Placed.TheVariants as placings
use Rattle.hx_ids.specs.declared.ControllerId.{ControllerId}
use Rattle.hx_ids.specs.declared.PassNo.{PassNo}
use Rattle.hx_model.specs.Model.{is_legal}
use Rattle.hx_cluster.specs.declared.state.Message.{Message}
use Rattle.hx_cluster.specs.Ends.{matches, count_of, limit_at, state_of, message_of, model_of, is_live}
use Rattle.hx_cluster.specs.Steps.{is_dropped}
use Rattle.hx_cluster.specs.Messages.{proposal_load, throttled_from, bounded, placed_idle, placed_of, placed_all, standing_of, message_from, after_placed, after_proposal, after_proposals, raised_pass, next_pass, after_dispatch}

-- only messages were added, at most n of them
pub record IsGrown (n : ℕ) (old new : Cluster) : Type 0 where
  pub same : new ≡ record old { mail = new.mail; next_msg = new.next_msg; change = new.change }
  pub mail : take (length old.mail) new.mail ≡ old.mail
  pub longer : length old.mail ≤ length new.mail
  pub next : new.next_msg ≤ old.next_msg + n
  pub change : new.change ≤ old.change + n

kept : (n : ℕ) (old new : Cluster) → IsGrown n old new → IsGrown (n + 1) old new
kept n old new g = record { same = g.same; mail = g.mail; longer = g.longer; next = omega (arith, g.next); change = omega (arith, g.change) }

grown_placed : (n : ℕ) (old new : Cluster) (q : Proposal) (a : Placed) → IsGrown n old new → IsGrown (n + 1) old (after_placed new q a)
grown_placed n old new q (placings.Sent id) g = record {
  same = (λ i. let c = g.same i in record c { mail = (after_placed new q (placings.Sent id)).mail; next_msg = new.next_msg + 1; change = new.change + 1 });
  mail = let fits = g.longer in rw take-append-le g.mail;
  longer = omega (arith, g.longer, length-append new.mail (message_from new id q ∷ []));
  next = omega (arith, g.next);
  change = omega (arith, g.change);
}
grown_placed n old new q _ g = kept n old new g

pub grown_more : (n : ℕ) (old new : Cluster) (q : Proposal) → IsGrown n old new → IsGrown (n + 1) old (after_proposal new q)
grown_more n old new q g = grown_placed n old new q (placed_of new q) g

-- the controllers' marks and passes play no part in placing
abbrev pub with_controllers : Cluster → List (Bool × PassNo) → Cluster
with_controllers c ds = record c { controllers = ds }

throttled-passes : (c : Cluster) (ds : List (Bool × PassNo)) (q : Proposal) (k : ℕ) (rules : List Rule) → throttled_from (with_controllers c ds) q k rules ≡ throttled_from c q k rules
throttled-passes c ds q k [] = refl
throttled-passes c ds q k (r ∷ rs) =
    ap (λ (next : Placed). if matches r q.from q.to && nat_le r.limit (proposal_load c q r) then placings.OverThrottle k (proposal_load c q r) r.limit else next) (throttled-passes c ds q (k + 1) rs)

bounded-passes : (c : Cluster) (ds : List (Bool × PassNo)) (q : Proposal) (limit : Option ℕ) → bounded (with_controllers c ds) q limit ≡ bounded c q limit
bounded-passes c ds q None = throttled-passes c ds q 0 c.rules
bounded-passes c ds q (Some limit) =
    ap (λ (next : Placed). if nat_le limit (count_of c q.part q.to) then placings.OverBound (count_of c q.part q.to) limit else next) (throttled-passes c ds q 0 c.rules)

idle-passes : (c : Cluster) (ds : List (Bool × PassNo)) (q : Proposal) (pending : Option Message) → placed_idle (with_controllers c ds) q pending ≡ placed_idle c q pending
idle-passes c ds q (Some m) = refl
idle-passes c ds q None =
    ap (λ (next : Placed).
    if not ((standing_of c q.session q.part).0 == q.from.0) then placings.WrongFrom (state_of c.rows q.session q.part)
    else if not (is_legal (model_of c.models c.resources q.part.resource) q.from q.to) then placings.Illegal
    else next) (bounded-passes c ds q (limit_at c q.part q.to))

placed-passes : (c : Cluster) (ds : List (Bool × PassNo)) (q : Proposal) → placed_of (with_controllers c ds) q ≡ placed_of c q
placed-passes c ds q =
    ap (λ (next : Placed).
    if not (is_live c.live q.session) then placings.Ended
    else if is_dropped c.resources q.part.resource && is_none (state_of c.rows q.session q.part) then placings.ResourceDropped
    else next) (idle-passes c ds q (message_of c.mail q.session q.part))

answer-passes : (c : Cluster) (ds : List (Bool × PassNo)) (q : Proposal) (a : Placed) → after_placed (with_controllers c ds) q a ≡ with_controllers (after_placed c q a) ds
answer-passes c ds q (placings.Sent id) = refl
answer-passes c ds q _ = refl

proposal-passes : (c : Cluster) (ds : List (Bool × PassNo)) (q : Proposal) → after_proposal (with_controllers c ds) q ≡ with_controllers (after_proposal c q) ds
proposal-passes c ds q = ap (after_placed (with_controllers c ds) q) (placed-passes c ds q) ∙ answer-passes c ds q (placed_of c q)

all-passes : (c : Cluster) (ds : List (Bool × PassNo)) (qs : List Proposal) → placed_all (with_controllers c ds) qs ≡ placed_all c qs
all-passes c ds [] = refl
all-passes c ds (q ∷ qs) =
    ap (λ (p : Placed). p ∷ placed_all (after_proposal (with_controllers c ds) q) qs) (placed-passes c ds q)
    ∙ ap (λ (ps : List Placed). placed_of c q ∷ ps) (ap (λ (x : Cluster). placed_all x qs) (proposal-passes c ds q) ∙ all-passes (after_proposal c q) ds qs)

after-passes : (c : Cluster) (ds : List (Bool × PassNo)) (qs : List Proposal) → after_proposals (with_controllers c ds) qs ≡ with_controllers (after_proposals c qs) ds
after-passes c ds [] = refl
after-passes c ds (q ∷ qs) = ap (λ (x : Cluster). after_proposals x qs) (proposal-passes c ds q) ∙ after-passes (after_proposal c q) ds qs

same-passes : (c : Cluster) (qs : List Proposal) → (after_proposals c qs).controllers ≡ c.controllers
same-passes c qs = ap (λ (x : Cluster). x.controllers) (after-passes c c.controllers qs)

-- so a pass may be raised before the proposals are placed, or after
pub placed_raised : (c : Cluster) (k : ControllerId) (qs : List Proposal) → placed_all (next_pass c k) qs ≡ placed_all c qs
placed_raised c k qs = one (slice_get c.controllers k.0)
  where
    one : (o : Option (Bool × PassNo)) → placed_all (raised_pass c k o) qs ≡ placed_all c qs
    one None = refl
    one (Some d) = all-passes c (slice_set c.controllers k.0 (d.0, record { 0 = d.1.0 + 1 })) qs

pub after_raised : (c : Cluster) (k : ControllerId) (qs : List Proposal) → after_dispatch c k qs ≡ next_pass (after_proposals c qs) k
after_raised c k qs = rw (same-passes c qs) (one (slice_get c.controllers k.0))
  where
    one : (o : Option (Bool × PassNo)) → after_proposals (raised_pass c k o) qs ≡ raised_pass (after_proposals c qs) k o
    one None = refl
    one (Some d) = rw (same-passes c qs) (after-passes c (slice_set c.controllers k.0 (d.0, record { 0 = d.1.0 + 1 })) qs)

-- one more proposal: its answer joins those so far, and the rest is placed behind it
pub told_more : (now next : Cluster) (all : List Proposal) (i : ℕ) (d : Proposal) (told more : List Placed) → i < length all
    → next ≡ after_proposal now (get_or all i d) → more ≡ told ++ placed_of now (get_or all i d) ∷ []
    → more ++ placed_all next (drop (i + 1) all) ≡ told ++ placed_all now (drop i all)
told_more now next all i d told more h after gives =
    let rest : List Proposal = drop (i + 1) all in
    let answer : Placed = placed_of now (get_or all i d) in
    ap (λ (ps : List Placed). ps ++ placed_all next rest) gives
    ∙ append_assoc told (answer ∷ []) (placed_all next rest)
    ∙ ap (λ (x : Cluster). told ++ (answer ∷ placed_all x rest)) after
    ∙ sym (at_drop_more (λ ps. told ++ placed_all now ps) all i d h)

pub on_ok : {T E : Type 0} (r : Result T E) {P : Type 0} → is_ok r ≡ true → OnOk r P → P
on_ok (Ok x) e p = p
on_ok (Err x) e p = cc

-- each proposal gets an answer
pub placed_each : (c : Cluster) (qs : List Proposal) → length (placed_all c qs) ≡ length qs
placed_each c [] = refl
placed_each c (q ∷ qs) = grind (arith, placed_each (after_proposal c q) qs)
