-- A dispatch of a plan of one moment, where nothing is pending, begins a round that falls.
use Rattle.std.proofs.Common.{◌≡◌, ◌+◌, ◌||◌, ◌==◌, not, Bool, true, false, List, [], ◌∷◌, ◌++◌, length, map, find, Option, Some, None, ◌⊎◌, inl, inr, refl, sym, ap, ◌∙◌, subst}
use Rattle.std.specs.Prelude.{if◌then◌else◌, slice_get, slice_set}
use Rattle.std.specs.List.{All, list_any, list_all}
use Rattle.std.proofs.lemmas.List.Elements.{All-head, All-tail}
use Rattle.hx_ids.specs.declared.ControllerId.{ControllerId}
use Rattle.hx_ids.specs.declared.SessionId.{SessionId}
use Rattle.hx_ids.specs.declared.MsgId.{MsgId}
use Rattle.hx_ids.specs.declared.PartId.{PartId}
use Rattle.hx_ids.specs.declared.PassNo.{PassNo}
use Rattle.hx_model.specs.Model.{error}
use Rattle.hx_cluster.specs.declared.state.Row.{Row}
use Rattle.hx_cluster.specs.declared.state.Message.{Message}
use Rattle.hx_cluster.specs.declared.state.Cluster.{Cluster}
use Rattle.hx_cluster.specs.declared.planning.Candidate.{Candidate}
use Rattle.hx_cluster.specs.declared.happenings.Outcome.TheVariants as outcomes
use Rattle.hx_cluster.specs.declared.happenings.Placed.{Placed}
use Rattle.hx_cluster.specs.declared.happenings.Placed.TheVariants as placings
use Rattle.hx_cluster.specs.declared.happenings.Proposal.{Proposal}
use Rattle.hx_cluster.specs.Ends.{is_message, message_of, state_of}
use Rattle.hx_cluster.specs.Steps.{is_flag}
use Rattle.hx_cluster.specs.Messages.{placed_of, placed_all, message_from, after_placed, after_proposal, after_proposals, raised_pass, next_pass, after_dispatch}
use Rattle.hx_cluster.specs.Safe.{IsSafe}
use Rattle.hx_cluster.specs.Ranged.{IsRanged}
use Rattle.hx_pass.specs.Left.{left_of}
use Rattle.hx_pass.specs.Explained.{view_at}
use Rattle.hx_pass.specs.Plans.{throttled_of, proposal, plan}
use Rattle.hx_control.specs.Steps.{is_sent}
use Rattle.hx_safe.proofs.Counting.{and-first, any-append}
use Rattle.hx_settled.specs.Places.{tries_left, is_spendable}
use Rattle.hx_settled.specs.Ways.{IsOnItsWay, HasSameGoals}
use Rattle.hx_settled.specs.Resets.{LeavesErrorAsked}
use Rattle.hx_settled.proofs.Moments.{sound_of, view_formed}
use Rattle.hx_settled.proofs.Goals.{leave_error}
use Rattle.hx_settled.proofs.Sending.{all_sent, dispatch_sent}
use Rattle.hx_settled.proofs.Falling.{stays_on, plans_on_their_way}
use Rattle.hx_bounded.specs.Measure.{all_walks}
use Rattle.hx_bounded.proofs.Falls.{left_beside}
use Rattle.hx_bounded.specs.Falling.{IsUnwritten, is_to_write, IsFalling}

-- what a candidate's message is
record IsGood (c : Cluster) (m : Message) : Type 0 where
  spendable : is_spendable c m outcomes.Ok ≡ true
  way : IsOnItsWay c m

record IsGoodCandidate (c : Cluster) (x : Candidate) : Type 0 where
  asked : LeavesErrorAsked (view_at c) x
  way : (id : MsgId) → IsOnItsWay c (message_from c id (proposal x))

-- as the messages are placed, all but them stays, and each of them is good
record IsSending (c d : Cluster) : Type 0 where
  size : all_walks d ≡ all_walks c
  tries : tries_left d ≡ tries_left c
  left : left_of d ≡ left_of c
  rows : d.rows ≡ c.rows
  resets : d.resets ≡ c.resets
  goals : HasSameGoals c d
  each : (m : Message) → IsUnwritten d m → IsGood c m

good_message : (c d : Cluster) (id : MsgId) (x : Candidate) → IsGoodCandidate c x → IsGood c (message_from d id (proposal x))
good_message c d id x g = record {
  spendable = one (x.from.0 == error.0) refl;
  way =
      let w = g.way id in
      record { resource = w.resource; instance = w.instance; there = w.there; shown = w.shown; away = w.away; hop = w.hop; next = w.next; to = w.to };
}
  where
    one : (b : Bool) → (x.from.0 == error.0) ≡ b → (not b || list_any (is_flag x.session x.part) c.resets) ≡ true
    one false e = refl
    one true e = g.asked e

find_more : {X : Type 0} (p : X → Bool) (xs : List X) (x m : X) → find p (xs ++ x ∷ []) ≡ Some m → (find p xs ≡ Some m) ⊎ (x ≡ m)
find_more {X} p [] x m e = one (p x) e
  where
    one : (b : Bool) → (if b then Some x else None) ≡ Some m → (◌≡◌ {A = Option X} None (Some m)) ⊎ (x ≡ m)
    one true e = inr (let same = e in cc)
    one false e = cc
find_more {X} p (y ∷ xs) x m e = one (p y) e (λ f. find_more p xs x m f)
  where
    one : (b : Bool) → (if b then Some y else find p (xs ++ x ∷ [])) ≡ Some m → (find p (xs ++ x ∷ []) ≡ Some m → (find p xs ≡ Some m) ⊎ (x ≡ m)) → ((if b then Some y else find p xs) ≡ Some m) ⊎ (x ≡ m)
    one true e rest = inl e
    one false e rest = rest e

module _ (c : Cluster) where
  sent : (d : Cluster) (id : MsgId) (x : Candidate) → IsGoodCandidate c x → IsSending c d → IsSending c (after_placed d (proposal x) (placings.Sent id))
  sent d id x g s = record {
    size = s.size;
    tries = s.tries;
    left = left_beside d (d.mail ++ message_from d id (proposal x) ∷ []) (d.next_msg + 1) (d.change + 1) d.controllers d.posted ∙ s.left;
    rows = s.rows;
    resets = s.resets;
    goals = record { models = s.goals.models; live = s.goals.live; ideals = s.goals.ideals; errors = s.goals.errors };
    each = λ m u. one m u (find_more (is_message m.session m.part) d.mail (message_from d id (proposal x)) m u.pending);
  }
    where
      one : (m : Message) → IsUnwritten (after_placed d (proposal x) (placings.Sent id)) m → (message_of d.mail m.session m.part ≡ Some m) ⊎ (message_from d id (proposal x) ≡ m) → IsGood c m
      one m u (inl there) = s.each m (record { pending = there; unwritten = u.unwritten })
      one m u (inr same) = subst (IsGood c) same (good_message c d id x g)

  placed : (d : Cluster) (x : Candidate) (a : Placed) → IsGoodCandidate c x → IsSending c d → IsSending c (after_placed d (proposal x) a)
  placed d x (placings.Sent id) g s = sent d id x g s
  placed d x _ g s = s

  all_placed : (xs : List Candidate) (d : Cluster) → All (IsGoodCandidate c) xs → IsSending c d → IsSending c (after_proposals d (map proposal xs))
  all_placed [] d all s = s
  all_placed (x ∷ xs) d all s =
      all_placed xs (after_proposal d (proposal x)) (All-tail (IsGoodCandidate c) x xs all)
      (placed d x (placed_of d (proposal x)) (All-head (IsGoodCandidate c) x xs all) s)

  controlled : (controllers : List (Bool × PassNo)) → c.mail ≡ [] → IsSending c (record c { controllers = controllers })
  controlled controllers none = record {
    size = refl;
    tries = refl;
    left = refl;
    rows = refl;
    resets = refl;
    goals = record { models = refl; live = refl; ideals = refl; errors = λ s p. refl };
    each = λ m u. absurd (nothing m (sym (ap (λ (ms : List Message). message_of ms m.session m.part) none) ∙ u.pending));
  }
    where
      nothing : (m : Message) → ◌≡◌ {A = Option Message} None (Some m) → ⊥
      nothing m e = cc

  raised : (k : ControllerId) (o : Option (Bool × PassNo)) → c.mail ≡ [] → IsSending c (raised_pass c k o)
  raised k None none = controlled c.controllers none
  raised k (Some d) none = controlled (slice_set c.controllers k.0 (d.0, record { 0 = d.1.0 + 1 })) none

-- what is sent is to be written
or_true : (a : Bool) → (a || true) ≡ true
or_true true = refl
or_true false = refl

still_to_write : (d : Cluster) (q : Proposal) (a : Placed) → list_any is_to_write d.mail ≡ true → list_any is_to_write (after_placed d q a).mail ≡ true
still_to_write d q (placings.Sent id) some = any-append is_to_write d.mail (message_from d id q ∷ []) ∙ or_true (list_any is_to_write d.mail)
still_to_write d q _ some = some

now_to_write : (d : Cluster) (q : Proposal) (a : Placed) → is_sent a ≡ true → list_any is_to_write (after_placed d q a).mail ≡ true
now_to_write d q (placings.Sent id) is = any-append is_to_write d.mail (message_from d id q ∷ []) ∙ or_true (list_any is_to_write d.mail)
now_to_write d q _ is = cc

all_to_write : (qs : List Proposal) (d : Cluster) → list_any is_to_write d.mail ≡ true → list_any is_to_write (after_proposals d qs).mail ≡ true
all_to_write [] d some = some
all_to_write (q ∷ qs) d some = all_to_write qs (after_proposal d q) (still_to_write d q (placed_of d q) some)

-- the candidates of a plan are good
all_good : (c : Cluster) → IsSafe c → IsRanged c → All (IsGoodCandidate c) (throttled_of c.models c.rules (view_at c)).sent
all_good c safe ranged = λ n d low. record {
  asked = all_sent c.models c.rules (view_at c) (LeavesErrorAsked (view_at c)) (leave_error c.models (length c.instances) (view_at c) (sound_of c safe ranged) (view_formed c safe ranged)) n d low;
  way = λ id. plans_on_their_way c id n d low;
}

pub dispatch_falls : (c : Cluster) (k : ControllerId) (q : Proposal) (qs : List Proposal) → IsSafe c → IsRanged c → c.mail ≡ [] → (plan c.models c.rules (view_at c)).proposals ≡ q ∷ qs
    → IsFalling (all_walks c) (tries_left c) (left_of c) (after_dispatch c k (q ∷ qs))
dispatch_falls c k q qs safe ranged none proposes = falls
  where
    s : IsSending c (after_dispatch c k (q ∷ qs))
    s =
        subst (λ (ps : List Proposal). IsSending c (after_proposals (next_pass c k) ps)) proposes
        (all_placed c (throttled_of c.models c.rules (view_at c)).sent (next_pass c k) (all_good c safe ranged) (raised c k (slice_get c.controllers k.0) none))

    first : is_sent (placed_of (next_pass c k) q) ≡ true
    first =
        and-first (is_sent (placed_of (next_pass c k) q)) (list_all is_sent (placed_all (after_proposal (next_pass c k) q) qs))
        (subst (λ (ps : List Proposal). list_all is_sent (placed_all (next_pass c k) ps) ≡ true) proposes (dispatch_sent c k safe ranged))

    falls : IsFalling (all_walks c) (tries_left c) (left_of c) (after_dispatch c k (q ∷ qs))
    falls = record {
      size = s.size;
      resets = λ m u. ap (λ (flags : List (SessionId × PartId)). not (m.from.0 == error.0) || list_any (is_flag m.session m.part) flags) s.resets ∙ (s.each m u).spendable;
      falls = inr (record {
        tries_same = s.tries;
        ways = λ m u. stays_on c (after_dispatch c k (q ∷ qs)) m s.goals (ap (λ (rows : List Row). state_of rows m.session m.part) s.rows) (s.each m u).way;
        fewer = inr (s.left, all_to_write qs (after_proposal (next_pass c k) q) (now_to_write (next_pass c k) q (placed_of (next_pass c k) q) first));
      });
    }
