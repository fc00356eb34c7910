-- A proposal that becomes a message, and the proposals of a dispatch.
use Rattle.std.proofs.Common.{◌≡◌, ℕ, ◌+◌, ◌≤◌, ◌<◌, ◌||◌, ◌&&◌, ◌==◌, not, Bool, true, false, List, [], ◌∷◌, ◌++◌, length, Option, Some, None, ◌⊎◌, inl, inr, refl, sym, ap, ◌∙◌, subst, arith}
use Rattle.std.specs.Prelude.{if◌then◌else◌, nat_lt, nat_le, slice_get, is_none, unwrap_or}
use Rattle.std.specs.List.{list_all}
use Rattle.std.proofs.lemmas.Bool.Decides.{nat_tests}
use Rattle.hx_lists.specs.Lists.{count}
use Rattle.hx_ids.specs.declared.StateId.{StateId}
use Rattle.hx_ids.specs.declared.SessionId.{SessionId}
use Rattle.hx_ids.specs.declared.MsgId.{MsgId}
use Rattle.hx_ids.specs.declared.PassNo.{PassNo}
use Rattle.hx_ids.specs.declared.ControllerId.{ControllerId}
use Rattle.hx_ids.specs.declared.PartId.{PartId}
use Rattle.hx_ids.specs.declared.Live.{Live}
use Rattle.hx_model.specs.declared.Bound.{Bound}
use Rattle.hx_model.specs.Model.{limit_of, is_legal}
use Rattle.hx_cluster.specs.declared.description.Rule.{Rule}
use Rattle.hx_cluster.specs.declared.state.Message.{Message}
use Rattle.hx_cluster.specs.declared.state.Cluster.{Cluster}
use Rattle.hx_cluster.specs.declared.happenings.Proposal.{Proposal}
use Rattle.hx_cluster.specs.declared.happenings.Placed.{Placed}
use Rattle.hx_cluster.specs.declared.happenings.Placed.TheVariants as placings
use Rattle.hx_cluster.specs.Ends.{part_eq, is_message, is_session, is_live, sessions_of, row_of, message_of, state_of, row_at, message_at, has_end, count_over, count_of, limit_at, model_of, replicas_of, matches}
use Rattle.hx_cluster.specs.Steps.{is_dropped}
use Rattle.hx_cluster.specs.Messages.{initial_of, standing_of, proposal_load, throttled_from, bounded, placed_idle, placed_of, message_from, after_placed, after_proposal, after_proposals, raised_pass, next_pass, after_dispatch}
use Rattle.hx_cluster.specs.Events.{has_part, is_proposable}
use Rattle.hx_cluster.specs.Safe.{is_pending}
use Rattle.hx_safe.proofs.Counting.{count-append, count-le, count-map, count-or, count-none, all-append, all-le, none-from-all, none-find}
use Rattle.hx_safe.proofs.Models.{state_same, good_model}
use Rattle.hx_safe.proofs.Ends.{session_same, part_same, row_at-state, stands_at, end-sent}
use Rattle.hx_safe.proofs.Kept.{IsKept, kept_raised}

-- what the gate tested of a proposal that is sent
pub record IsRoom (c : Cluster) (q : Proposal) (id : MsgId) : Type 0 where
  pub live : is_live c.live q.session ≡ true
  pub idle : message_of c.mail q.session q.part ≡ None
  pub from : ((standing_of c q.session q.part).0 == q.from.0) ≡ true
  pub legal : is_legal (model_of c.models c.resources q.part.resource) q.from q.to ≡ true
  pub room : (limit : ℕ) → limit_at c q.part q.to ≡ Some limit → count_of c q.part q.to < limit
  pub throttles : throttled_from c q 0 c.rules ≡ placings.Sent id

bounded_room : (c : Cluster) (q : Proposal) (id : MsgId) (o : Option ℕ) → bounded c q o ≡ placings.Sent id
    → ((limit : ℕ) → o ≡ Some limit → count_of c q.part q.to < limit) × (throttled_from c q 0 c.rules ≡ placings.Sent id)
bounded_room c q id None e = (λ limit w. cc, e)
bounded_room c q id (Some bound) e = one (nat_le bound (count_of c q.part q.to)) refl e
  where
    one : (b : Bool) → nat_le bound (count_of c q.part q.to) ≡ b → (if b then placings.OverBound (count_of c q.part q.to) bound else throttled_from c q 0 c.rules) ≡ placings.Sent id
        → ((limit : ℕ) → ◌≡◌ {A = Option ℕ} (Some bound) (Some limit) → count_of c q.part q.to < limit) × (throttled_from c q 0 c.rules ≡ placings.Sent id)
    one true is e = cc
    one false is e = (λ limit w. grind (arith, nat_tests, is, w), e)

pub room_from : (c : Cluster) (q : Proposal) (id : MsgId) → placed_of c q ≡ placings.Sent id → IsRoom c q id
room_from c q id e = one (is_live c.live q.session) refl (is_dropped c.resources q.part.resource && is_none (state_of c.rows q.session q.part)) (message_of c.mail q.session q.part) refl e
  where
    legal : (a : Bool) → is_legal (model_of c.models c.resources q.part.resource) q.from q.to ≡ a → is_live c.live q.session ≡ true
        → message_of c.mail q.session q.part ≡ None → ((standing_of c q.session q.part).0 == q.from.0) ≡ true
        → (if not a then placings.Illegal else bounded c q (limit_at c q.part q.to)) ≡ placings.Sent id → IsRoom c q id
    legal false is live idle from e = cc
    legal true is live idle from e =
        let rest = bounded_room c q id (limit_at c q.part q.to) e in
        record { live = live; idle = idle; from = from; legal = is; room = rest.0; throttles = rest.1 }

    from : (a : Bool) → ((standing_of c q.session q.part).0 == q.from.0) ≡ a → is_live c.live q.session ≡ true → message_of c.mail q.session q.part ≡ None
        → (if not a then placings.WrongFrom (state_of c.rows q.session q.part) else if not (is_legal (model_of c.models c.resources q.part.resource) q.from q.to) then placings.Illegal else bounded c q (limit_at c q.part q.to)) ≡ placings.Sent id → IsRoom c q id
    from false is live idle e = cc
    from true is live idle e = legal (is_legal (model_of c.models c.resources q.part.resource) q.from q.to) refl live idle is e

    one : (a : Bool) → is_live c.live q.session ≡ a → (b : Bool) (o : Option Message) → message_of c.mail q.session q.part ≡ o
        → (if not a then placings.Ended else if b then placings.ResourceDropped else placed_idle c q o) ≡ placings.Sent id → IsRoom c q id
    one false live b o idle e = cc
    one true live true o idle e = cc
    one true live false (Some m) idle e = cc
    one true live false None idle e = from ((standing_of c q.session q.part).0 == q.from.0) refl live idle e

-- it has the next number
pub sent_next : (c : Cluster) (q : Proposal) (k : ℕ) (rules : List Rule) (id : MsgId) → throttled_from c q k rules ≡ placings.Sent id → id ≡ record { 0 = c.next_msg }
sent_next c q k [] id e = cc
sent_next c q k (r ∷ rules) id e = one (matches r q.from q.to && nat_le r.limit (proposal_load c q r)) e (sent_next c q (k + 1) rules id)
  where
    one : (b : Bool) → (if b then placings.OverThrottle k (proposal_load c q r) r.limit else throttled_from c q (k + 1) rules) ≡ placings.Sent id
        → (throttled_from c q (k + 1) rules ≡ placings.Sent id → id ≡ record { 0 = c.next_msg }) → id ≡ record { 0 = c.next_msg }
    one true e more = cc
    one false e more = more e

-- an absent replica stands at a state without a limit, so a limited state that it leaves is its row's
pub from_end : (c : Cluster) (q : Proposal) (t : StateId) (limit : ℕ) → IsKept c → ((standing_of c q.session q.part).0 == q.from.0) ≡ true
    → (q.from.0 == t.0) ≡ true → limit_at c q.part t ≡ Some limit → row_at t (row_of c.rows q.session q.part) ≡ true
from_end c q t limit k from at e = row_at-state t c.rows q.session q.part ∙ one (state_of c.rows q.session q.part) refl from
  where
    one : (o : Option StateId) → state_of c.rows q.session q.part ≡ o → ((unwrap_or o (initial_of c q.part)).0 == q.from.0) ≡ true → stands_at t o ≡ true
    one (Some s) is from = grind (arith, nat_tests, from, at)
    one None is from =
        let good = good_model c.models c.resources q.part.resource k.sound in
        let same : t ≡ initial_of c q.part = state_same t (initial_of c q.part) (grind (arith, nat_tests, from, at)) in
        let free : limit_at c q.part (initial_of c q.part) ≡ None = ap (λ (b : Bound). limit_of b (replicas_of c.resources q.part.resource) (length c.live)) good.initial in
        let both = sym free ∙ ap (limit_at c q.part) (sym same) ∙ e in
        cc

-- the ends where one message more is pending
abbrev pub count_with : Cluster → Message → PartId → StateId → ℕ
count_with c m p t = count_over (sessions_of c.live) c.rows (c.mail ++ m ∷ []) p t

-- they are at most one more
pub end_more : (c : Cluster) (m : Message) (p : PartId) (t : StateId) → IsKept c → count_with c m p t ≤ count_of c p t + 1
end_more c m p t k =
    let one : SessionId → Bool = λ u. u.0 == m.session.0 in
    let more : count_with c m p t ≤ count_of c p t + count one (sessions_of c.live)
    = count-or (has_end c.rows (c.mail ++ m ∷ []) p t) (has_end c.rows c.mail p t) one
    (λ u w. grind (arith, nat_tests, w, end-sent c.mail m u p t)) (sessions_of c.live) in
    let same : count one (sessions_of c.live) ≡ count (is_session m.session) c.live = count-map one (λ (l : Live). l.session) c.live in
    omega (arith, more, same, k.numbers m.session)

-- none more in another part
pub end_elsewhere : (c : Cluster) (m : Message) (p : PartId) (t : StateId) → part_eq m.part p ≡ false → count_with c m p t ≤ count_of c p t
end_elsewhere c m p t is =
    count-le (has_end c.rows (c.mail ++ m ∷ []) p t) (has_end c.rows c.mail p t)
    (λ u w. grind (arith, w, is, end-sent c.mail m u p t)) (sessions_of c.live)

-- and none more in a limited state that a message doesn't lead to, since its replica has its from among its ends
pub end_from : (c : Cluster) (q : Proposal) (id : MsgId) (t : StateId) (limit : ℕ) → IsKept c → ((standing_of c q.session q.part).0 == q.from.0) ≡ true
    → (q.to.0 == t.0) ≡ false → limit_at c q.part t ≡ Some limit → count_with c (message_from c id q) q.part t ≤ count_of c q.part t
end_from c q id t limit k from is e =
    let m = message_from c id q in
    count-le (has_end c.rows (c.mail ++ m ∷ []) q.part t) (has_end c.rows c.mail q.part t)
    (λ u w. each u (row_at t (row_of c.rows u q.part)) refl (q.session.0 == u.0) refl (q.from.0 == t.0) refl w) (sessions_of c.live)
  where
    each : (u : SessionId) (a : Bool) → row_at t (row_of c.rows u q.part) ≡ a → (b : Bool) → (q.session.0 == u.0) ≡ b → (d : Bool) → (q.from.0 == t.0) ≡ d
        → (a || message_at t (message_of (c.mail ++ message_from c id q ∷ []) u q.part)) ≡ true → has_end c.rows c.mail q.part t u ≡ true
    each u true row b at d there w = grind (arith, row)
    each u false row true at true there w =
        let here = subst (λ (v : SessionId). row_at t (row_of c.rows v q.part) ≡ true) (session_same q.session u at) (from_end c q t limit k from there e) in
        let both = sym row ∙ here in cc
    each u false row true at false there w = let more = end-sent c.mail (message_from c id q) u q.part t w in grind (arith, more, at, there, is)
    each u false row false at d there w = let more = end-sent c.mail (message_from c id q) u q.part t w in grind (arith, more, at)

-- so what is sent leaves no more ends in a limited state, or no more than its limit
count_sent_here : (c : Cluster) (q : Proposal) (id : MsgId) (t : StateId) (limit : ℕ) → IsKept c → IsRoom c q id → limit_at c q.part t ≡ Some limit
    → (count_with c (message_from c id q) q.part t ≤ count_of c q.part t) ⊎ (count_with c (message_from c id q) q.part t ≤ limit)
count_sent_here c q id t limit k room e = one (q.to.0 == t.0) refl
  where
    one : (b : Bool) → (q.to.0 == t.0) ≡ b
        → (count_with c (message_from c id q) q.part t ≤ count_of c q.part t) ⊎ (count_with c (message_from c id q) q.part t ≤ limit)
    one false is = inl (end_from c q id t limit k room.from is e)
    one true is =
        let gate : count_of c q.part t < limit
        = subst (λ (s : StateId). limit_at c q.part s ≡ Some limit → count_of c q.part s < limit) (state_same q.to t is) (room.room limit) e in
        let more = end_more c (message_from c id q) q.part t k in
        inr (omega (arith, gate, more))

count_sent : (c : Cluster) (q : Proposal) (id : MsgId) (p : PartId) (t : StateId) (limit : ℕ) → IsKept c → IsRoom c q id → limit_at c p t ≡ Some limit
    → (count_with c (message_from c id q) p t ≤ count_of c p t) ⊎ (count_with c (message_from c id q) p t ≤ limit)
count_sent c q id p t limit k room e = one (part_eq q.part p) refl
  where
    one : (b : Bool) → part_eq q.part p ≡ b
        → (count_with c (message_from c id q) p t ≤ count_of c p t) ⊎ (count_with c (message_from c id q) p t ≤ limit)
    one false is = inl (end_elsewhere c (message_from c id q) p t is)
    one true is =
        let P : PartId → Type 0 = λ r. limit_at c r t ≡ Some limit
        → (count_with c (message_from c id q) r t ≤ count_of c r t) ⊎ (count_with c (message_from c id q) r t ≤ limit) in
        subst P (part_same q.part p is) (λ e. count_sent_here c q id t limit k room e) e

-- so a message that is sent keeps all
pub kept_sent : (c : Cluster) (q : Proposal) (id : MsgId) → IsKept c → has_part c q.part ≡ true → id ≡ record { 0 = c.next_msg } → IsRoom c q id → IsKept (after_placed c q (placings.Sent id))
kept_sent c q id k part next room =
    let m = message_from c id q in
    record {
      mail = record {
        pending = rw all-append (grind (
          arith,
          all-le (is_pending c) (is_pending (after_placed c q (placings.Sent id))) (λ x e. let low = later x (below x e) in grind (arith, e, low)) c.mail k.mail.pending,
          new_pending,
        ));
        numbers = λ n. let more = count-append (λ x. x.id.0 == n.0) c.mail (m ∷ []) in numbers n (id.0 == n.0) refl more;
        single = λ u p. let more = count-append (is_message u p) c.mail (m ∷ []) in single u p (is_message u p m) refl more;
      };
      rows = record { kept = k.rows.kept; single = k.rows.single; flags = k.rows.flags };
      numbers = k.numbers;
      below = k.below;
      sound = k.sound;
    }
  where
    number : id.0 ≡ c.next_msg
    number = ap (λ (x : MsgId). x.0) next

    new_pending : is_pending (after_placed c q (placings.Sent id)) (message_from c id q) ≡ true
    new_pending = grind (arith, nat_tests, number, part, room.live, room.legal, room.from)

    below : (x : Message) → is_pending c x ≡ true → nat_lt x.id.0 c.next_msg ≡ true
    below x e = grind (arith, e)

    later : (x : Message) → nat_lt x.id.0 c.next_msg ≡ true → nat_lt x.id.0 (c.next_msg + 1) ≡ true
    later x low = grind (arith, nat_tests, low)

    other : (x : Message) (n : MsgId) → (id.0 == n.0) ≡ true → nat_lt x.id.0 c.next_msg ≡ true → (x.id.0 == n.0) ≡ false
    other x n is low = grind (arith, nat_tests, is, low, number)

    numbers : (n : MsgId) (b : Bool) → (id.0 == n.0) ≡ b → {z : ℕ} → z ≡ count (λ x. x.id.0 == n.0) c.mail + count (λ x. x.id.0 == n.0) (message_from c id q ∷ []) → z ≤ 1
    numbers n true is more =
        let none : count (λ x. x.id.0 == n.0) c.mail ≡ 0 = count-none (λ x. x.id.0 == n.0) c.mail (none-from-all (is_pending c) (λ x. x.id.0 == n.0) (λ x e. other x n is (below x e)) c.mail k.mail.pending) in
        grind (arith, none, more, is)
    numbers n false is more = grind (arith, is, more, k.mail.numbers n)

    single : (u : SessionId) (p : PartId) (b : Bool) → is_message u p (message_from c id q) ≡ b → {z : ℕ}
        → z ≡ count (is_message u p) c.mail + count (is_message u p) (message_from c id q ∷ []) → z ≤ 1
    single u p true is more =
        let here : count (is_message q.session q.part) c.mail ≡ 0 = count-none (is_message q.session q.part) c.mail (none-find (is_message q.session q.part) c.mail room.idle) in
        let first = subst (λ (v : SessionId). count (is_message v q.part) c.mail ≡ 0) (session_same q.session u (grind (arith, is))) here in
        let none = subst (λ (r : PartId). count (is_message u r) c.mail ≡ 0) (part_same q.part p (grind (arith, is))) first in
        grind (arith, none, more, is)
    single u p false is more = grind (arith, is, more, k.mail.single u p)

pub kept_proposal : (c : Cluster) (q : Proposal) → IsKept c → has_part c q.part ≡ true → IsKept (after_proposal c q)
kept_proposal c q k part = one (placed_of c q) refl
  where
    one : (a : Placed) → placed_of c q ≡ a → IsKept (after_placed c q a)
    one (placings.Sent id) is = let room = room_from c q id is in kept_sent c q id k part (sent_next c q 0 c.rules id room.throttles) room
    one _ is = k

-- the law of counts for a proposal
pub count_proposal : (c : Cluster) (q : Proposal) (p : PartId) (t : StateId) (limit : ℕ) → IsKept c → limit_at c p t ≡ Some limit
    → (count_of (after_proposal c q) p t ≤ count_of c p t) ⊎ (count_of (after_proposal c q) p t ≤ limit)
count_proposal c q p t limit k e = one (placed_of c q) refl
  where
    one : (a : Placed) → placed_of c q ≡ a → (count_of (after_placed c q a) p t ≤ count_of c p t) ⊎ (count_of (after_placed c q a) p t ≤ limit)
    one (placings.Sent id) is = count_sent c q id p t limit k (room_from c q id is) e
    one _ is = inl (omega arith)

-- which proposals may be made stays as it was, and so do the limits
limit-placed : (c : Cluster) (q : Proposal) (p : PartId) (t : StateId) (a : Placed) → limit_at (after_placed c q a) p t ≡ limit_at c p t
limit-placed c q p t (placings.Sent id) = refl
limit-placed c q p t _ = refl

proposable-placed : (c : Cluster) (q x : Proposal) (a : Placed) → is_proposable (after_placed c q a) x ≡ is_proposable c x
proposable-placed c q x (placings.Sent id) = refl
proposable-placed c q x _ = refl

proposable-raised : (c : Cluster) (x : Proposal) (k : ControllerId) (o : Option (Bool × PassNo)) → is_proposable (raised_pass c k o) x ≡ is_proposable c x
proposable-raised c x k None = refl
proposable-raised c x k (Some d) = refl

-- what each proposal keeps beside, all keep
pub along_proposals : (P : Cluster → Type 0) → ((c : Cluster) (q : Proposal) → IsKept c → is_proposable c q ≡ true → P c → P (after_proposal c q))
    → (c : Cluster) (qs : List Proposal) → IsKept c → list_all (is_proposable c) qs ≡ true → P c → P (after_proposals c qs)
along_proposals P each c [] k e here = here
along_proposals P each c (q ∷ qs) k e here =
    let first : is_proposable c q ≡ true = grind (arith, e) in
    let others : list_all (is_proposable c) qs ≡ true = grind (arith, e) in
    let part : has_part c q.part ≡ true = grind (arith, first) in
    along_proposals P each (after_proposal c q) qs (kept_proposal c q k part)
    (all-le (is_proposable c) (is_proposable (after_proposal c q)) (λ x w. proposable-placed c q x (placed_of c q) ∙ w) qs others)
    (each c q k first here)

-- and a dispatch
pub along_dispatch : (P : Cluster → Type 0) → ((c : Cluster) (q : Proposal) → IsKept c → is_proposable c q ≡ true → P c → P (after_proposal c q))
    → (c : Cluster) (n : ControllerId) (qs : List Proposal) → IsKept c → list_all (is_proposable c) qs ≡ true → P (next_pass c n) → P (after_dispatch c n qs)
along_dispatch P each c n qs k e here =
    along_proposals P each (next_pass c n) qs (kept_raised c n k)
    (all-le (is_proposable c) (is_proposable (next_pass c n)) (λ x w. proposable-raised c x n (slice_get c.controllers n.0) ∙ w) qs e) here

pub kept_proposals : (c : Cluster) (qs : List Proposal) → IsKept c → list_all (is_proposable c) qs ≡ true → IsKept (after_proposals c qs)
kept_proposals c [] k e = k
kept_proposals c (q ∷ qs) k e =
    let first : is_proposable c q ≡ true = grind (arith, e) in
    let others : list_all (is_proposable c) qs ≡ true = grind (arith, e) in
    let part : has_part c q.part ≡ true = grind (arith, first) in
    kept_proposals (after_proposal c q) qs (kept_proposal c q k part) (all-le (is_proposable c) (is_proposable (after_proposal c q)) (λ x w. proposable-placed c q x (placed_of c q) ∙ w) qs others)

count_proposals : (c : Cluster) (qs : List Proposal) (p : PartId) (t : StateId) (limit : ℕ) → IsKept c → list_all (is_proposable c) qs ≡ true → limit_at c p t ≡ Some limit
    → (count_of (after_proposals c qs) p t ≤ count_of c p t) ⊎ (count_of (after_proposals c qs) p t ≤ limit)
count_proposals c [] p t limit k e at = inl (omega arith)
count_proposals c (q ∷ qs) p t limit k e at =
    let d = after_proposal c q in
    let first : is_proposable c q ≡ true = grind (arith, e) in
    let others : list_all (is_proposable c) qs ≡ true = grind (arith, e) in
    let part : has_part c q.part ≡ true = grind (arith, first) in
    let rest : list_all (is_proposable d) qs ≡ true
    = all-le (is_proposable c) (is_proposable d) (λ x w. proposable-placed c q x (placed_of c q) ∙ w) qs others in
    both (count_proposal c q p t limit k at)
    (count_proposals d qs p t limit (kept_proposal c q k part) rest (limit-placed c q p t (placed_of c q) ∙ at))
  where
    both : {a b z l : ℕ} → (b ≤ a) ⊎ (b ≤ l) → (z ≤ b) ⊎ (z ≤ l) → (z ≤ a) ⊎ (z ≤ l)
    both first (inr low) = inr low
    both (inl one) (inl two) = inl (omega (arith, one, two))
    both (inr one) (inl two) = inr (omega (arith, one, two))

limit-dispatch : (c : Cluster) (qs : List Proposal) (p : PartId) (t : StateId) → limit_at (after_proposals c qs) p t ≡ limit_at c p t
limit-dispatch c [] p t = refl
limit-dispatch c (q ∷ qs) p t = limit-dispatch (after_proposal c q) qs p t ∙ limit-placed c q p t (placed_of c q)

-- a pass that is raised leaves all counts and limits
count-raised : (c : Cluster) (p : PartId) (t : StateId) (k : ControllerId) (o : Option (Bool × PassNo)) → count_of (raised_pass c k o) p t ≡ count_of c p t
count-raised c p t k None = refl
count-raised c p t k (Some d) = refl

limit-raised : (c : Cluster) (p : PartId) (t : StateId) (k : ControllerId) (o : Option (Bool × PassNo)) → limit_at (raised_pass c k o) p t ≡ limit_at c p t
limit-raised c p t k None = refl
limit-raised c p t k (Some d) = refl

pub count_pass : (c : Cluster) (n : ControllerId) (p : PartId) (t : StateId) → count_of (next_pass c n) p t ≡ count_of c p t
count_pass c n p t = count-raised c p t n (slice_get c.controllers n.0)

pub limit_pass : (c : Cluster) (n : ControllerId) (p : PartId) (t : StateId) → limit_at (next_pass c n) p t ≡ limit_at c p t
limit_pass c n p t = limit-raised c p t n (slice_get c.controllers n.0)

pub limit_dispatch : (c : Cluster) (n : ControllerId) (qs : List Proposal) (p : PartId) (t : StateId) → limit_at (after_dispatch c n qs) p t ≡ limit_at c p t
limit_dispatch c n qs p t = limit-dispatch (next_pass c n) qs p t ∙ limit_pass c n p t

pub count_dispatch : (c : Cluster) (n : ControllerId) (qs : List Proposal) (p : PartId) (t : StateId) (limit : ℕ) → IsKept c → list_all (is_proposable c) qs ≡ true → limit_at c p t ≡ Some limit
    → (count_of (after_dispatch c n qs) p t ≤ count_of c p t) ⊎ (count_of (after_dispatch c n qs) p t ≤ limit)
count_dispatch c n qs p t limit k e at =
    let rest : list_all (is_proposable (next_pass c n)) qs ≡ true
    = all-le (is_proposable c) (is_proposable (next_pass c n)) (λ x w. proposable-raised c x n (slice_get c.controllers n.0) ∙ w) qs e in
    subst (λ (z : ℕ). (count_of (after_dispatch c n qs) p t ≤ z) ⊎ (count_of (after_dispatch c n qs) p t ≤ limit)) (count_pass c n p t)
    (count_proposals (next_pass c n) qs p t limit (kept_raised c n k) rest (limit_pass c n p t ∙ at))

pub kept_dispatch : (c : Cluster) (n : ControllerId) (qs : List Proposal) → IsKept c → list_all (is_proposable c) qs ≡ true → IsKept (after_dispatch c n qs)
kept_dispatch c n qs k e =
    kept_proposals (next_pass c n) qs (kept_raised c n k) (all-le (is_proposable c) (is_proposable (next_pass c n)) (λ x w. proposable-raised c x n (slice_get c.controllers n.0) ∙ w) qs e)
