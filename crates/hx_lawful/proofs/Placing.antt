-- What a dispatch has sent so far is all that it has changed of the board.
use Rattle.std.proofs.Common.{◌≡◌, ℕ, ◌+◌, ◌≤◌, ◌||◌, ◌&&◌, ◌==◌, Bool, true, false, List, [], ◌∷◌, ◌++◌, length, Option, Some, None, refl, sym, ap, ◌∙◌, subst, arith}
use Rattle.std.specs.Prelude.{if◌then◌else◌}
use Rattle.std.specs.List.{list_any}
use Rattle.std.specs.Option.{option_or}
use Rattle.std.proofs.lemmas.List.Folds.{find-append}
use Rattle.hx_lists.specs.Lists.{count}
use Rattle.hx_ids.specs.declared.StateId.{StateId}
use Rattle.hx_ids.specs.declared.SessionId.{SessionId}
use Rattle.hx_ids.specs.declared.PartId.{PartId}
use Rattle.hx_ids.specs.declared.MsgId.{MsgId}
use Rattle.hx_ids.specs.declared.Live.{Live}
use Rattle.hx_model.specs.declared.ModelParts.{ModelParts}
use Rattle.hx_cluster.specs.declared.description.Resource.{Resource}
use Rattle.hx_cluster.specs.declared.description.Rule.{Rule}
use Rattle.hx_cluster.specs.declared.state.Message.{Message}
use Rattle.hx_cluster.specs.declared.state.Cluster.{Cluster}
use Rattle.hx_cluster.specs.declared.planning.View.{View}
use Rattle.hx_cluster.specs.declared.planning.Candidate.{Candidate}
use Rattle.hx_cluster.specs.declared.happenings.Placed.{Placed}
use Rattle.hx_cluster.specs.declared.happenings.Placed.TheVariants as placings
use Rattle.hx_cluster.specs.Ends.{part_eq, is_message, is_live, is_shown, shown_of, message_of, limit_over, limit_at, count_of, matches, key_of, is_counted}
use Rattle.hx_cluster.specs.Messages.{placed_of, message_from, after_placed, after_proposal}
use Rattle.hx_select.specs.Selection.{goes_to}
use Rattle.hx_throttle.specs.Throttle.{key_for, counts_too}
use Rattle.hx_pass.specs.Plans.{proposal}
use Rattle.hx_safe.proofs.Counting.{and-first, and-second, and-both, count-append, any-append}
use Rattle.hx_safe.proofs.Ends.{part_same}
use Rattle.hx_safe.proofs.Kept.{IsKept}
use Rattle.hx_safe.proofs.Sending.{IsRoom, room_from, count_with, end_more, end_elsewhere, end_from}
use Rattle.hx_safe.proofs.Throttles.{load_more}
use Rattle.hx_lawful.specs.Gate.{Shows, IsWithin, is_for}
use Rattle.hx_lawful.proofs.Loading.{key_alike}

-- before anything is sent
pub within_none : (view : View) (b : Cluster) → IsWithin view b b []
within_none view b = record {
  rows = refl;
  live = refl;
  resources = refl;
  models = refl;
  rules = refl;
  counts = λ p t limit at. omega arith;
  loads = λ r key. omega arith;
  messages = λ s p none. refl;
}

-- limits don't change
pub limit_alike : (b d : Cluster) (p : PartId) (t : StateId) → d.models ≡ b.models → d.resources ≡ b.resources → d.live ≡ b.live → limit_at d p t ≡ limit_at b p t
limit_alike b d p t models resources live =
    ap (λ (ms : List ModelParts). limit_over ms d.resources (length d.live) p t) models
    ∙ ap (λ (rs : List Resource). limit_over b.models rs (length d.live) p t) resources
    ∙ ap (λ (ls : List Live). limit_over b.models b.resources (length ls) p t) live

-- what is sent adds one end at most, in the state that it goes to
count_sent : (d : Cluster) (x : Candidate) (id : MsgId) (p : PartId) (t : StateId) (limit : ℕ) → IsKept d → IsRoom d (proposal x) id → limit_at d p t ≡ Some limit
    → count_with d (message_from d id (proposal x)) p t ≤ count_of d p t + count (goes_to p t) (x ∷ [])
count_sent d x id p t limit k room e = one (part_eq x.part p) refl
  where
    m : Message
    m = message_from d id (proposal x)

    here : part_eq x.part p ≡ true → (b : Bool) → (x.to.0 == t.0) ≡ b → count_with d m p t ≤ count_of d p t + count (goes_to p t) (x ∷ [])
    here is true at = let more = end_more d m p t k in grind (arith, is, at, more)
    here is false at =
        let P : PartId → Type 0 = λ r. limit_at d r t ≡ Some limit → count_with d m r t ≤ count_of d r t in
        let less = subst P (part_same x.part p is) (λ w. end_from d (proposal x) id t limit k room.from at w) e in
        omega (arith, less)

    one : (b : Bool) → part_eq x.part p ≡ b → count_with d m p t ≤ count_of d p t + count (goes_to p t) (x ∷ [])
    one true is = here is (x.to.0 == t.0) refl
    one false is = let less = end_elsewhere d m p t is in omega (arith, less)

-- and one message under the keys under which it counts in the view
pub key_there : (view : View) (b : Cluster) (x : Candidate) → Shows b view → is_shown view.live x.session ≡ true → is_live b.live x.session ≡ true → (r : Rule)
    → key_of r.scope (shown_of b.live) x.session x.part ≡ key_for view r x
key_there view b x shows shown live r = key_alike r.scope (shown_of b.live) view.live x.session x.part (shows.instances x.session live shown)

load_sent : (view : View) (b d : Cluster) (x : Candidate) (id : MsgId) → Shows b view → is_shown view.live x.session ≡ true → is_live d.live x.session ≡ true → d.live ≡ b.live
    → (r : Rule) (key : ℕ) → count (is_counted (shown_of d.live) r key) (message_from d id (proposal x) ∷ []) ≤ count (counts_too view r key) (x ∷ [])
load_sent view b d x id shows shown live same r key = one (is_counted (shown_of d.live) r key m) refl
  where
    m : Message
    m = message_from d id (proposal x)

    keys : key_of r.scope (shown_of d.live) x.session x.part ≡ key_for view r x
    keys = ap (λ (ls : List Live). key_of r.scope (shown_of ls) x.session x.part) same
        ∙ key_there view b x shows shown (ap (λ (ls : List Live). is_live ls x.session) (sym same) ∙ live) r

    one : (c : Bool) → is_counted (shown_of d.live) r key m ≡ c → count (is_counted (shown_of d.live) r key) (m ∷ []) ≤ count (counts_too view r key) (x ∷ [])
    one false is = grind (arith, is)
    one true is =
        let first = and-first (is_shown (shown_of d.live) x.session && matches r x.from x.to) (key_of r.scope (shown_of d.live) x.session x.part == key) is in
        let match : matches r x.from x.to ≡ true = and-second (is_shown (shown_of d.live) x.session) (matches r x.from x.to) first in
        let at : (key_of r.scope (shown_of d.live) x.session x.part == key) ≡ true
        = and-second (is_shown (shown_of d.live) x.session && matches r x.from x.to) (key_of r.scope (shown_of d.live) x.session x.part == key) is in
        let counted : counts_too view r key x ≡ true = and-both (matches r x.from x.to) (key_for view r x == key) match (ap (λ (n : ℕ). n == key) (sym keys) ∙ at) in
        grind (arith, is, counted)

-- no other replica gets a message
message_sent : (d : Cluster) (x : Candidate) (id : MsgId) (s : SessionId) (p : PartId) → is_for s p x ≡ false
    → message_of (d.mail ++ message_from d id (proposal x) ∷ []) s p ≡ message_of d.mail s p
message_sent d x id s p e =
    find-append (is_message s p) d.mail (message_from d id (proposal x) ∷ [])
    ∙ ap (λ (b : Bool). option_or (message_of d.mail s p) (if b then Some (message_from d id (proposal x)) else None)) e
    ∙ alone (message_of d.mail s p)
  where
    alone : (o : Option Message) → option_or o None ≡ o
    alone None = refl
    alone (Some y) = refl

neither : (s : SessionId) (p : PartId) (before : List Candidate) (x : Candidate) → list_any (is_for s p) (before ++ x ∷ []) ≡ false
    → (list_any (is_for s p) before ≡ false) × (is_for s p x ≡ false)
neither s p before x e = one (list_any (is_for s p) before) (is_for s p x) (sym (any-append (is_for s p) before (x ∷ [])) ∙ e)
  where
    one : (a b : Bool) → (a || (b || false)) ≡ false → (a ≡ false) × (b ≡ false)
    one true b e = cc
    one false true e = cc
    one false false e = (refl, refl)

-- one candidate more: it was sent
within_sent : (view : View) (b d : Cluster) (before : List Candidate) (x : Candidate) (id : MsgId) → Shows b view → is_shown view.live x.session ≡ true → IsKept d → IsRoom d (proposal x) id
    → IsWithin view b d before → IsWithin view b (after_placed d (proposal x) (placings.Sent id)) (before ++ x ∷ [])
within_sent view b d before x id shows shown k room w = record {
  rows = w.rows;
  live = w.live;
  resources = w.resources;
  models = w.models;
  rules = w.rules;
  counts = λ p t limit at.
      let here = count_sent d x id p t limit k room (limit_alike b d p t w.models w.resources w.live ∙ at) in
      omega (arith, here, w.counts p t limit at, count-append (goes_to p t) before (x ∷ []));
  loads = λ r key.
      let more = load_more d (message_from d id (proposal x)) r key in
      let here = load_sent view b d x id shows shown room.live w.live r key in
      omega (arith, more, here, w.loads r key, count-append (counts_too view r key) before (x ∷ []));
  messages = λ s p none.
      let parts = neither s p before x none in
      message_sent d x id s p parts.1 ∙ w.messages s p parts.0;
}

-- or it wasn't
within_kept : (view : View) (b d : Cluster) (before : List Candidate) (x : Candidate) → IsWithin view b d before → IsWithin view b d (before ++ x ∷ [])
within_kept view b d before x w = record {
  rows = w.rows;
  live = w.live;
  resources = w.resources;
  models = w.models;
  rules = w.rules;
  counts = λ p t limit at. omega (arith, w.counts p t limit at, count-append (goes_to p t) before (x ∷ []));
  loads = λ r key. omega (arith, w.loads r key, count-append (counts_too view r key) before (x ∷ []));
  messages = λ s p none. w.messages s p (neither s p before x none).0;
}

pub within_more : (view : View) (b d : Cluster) (before : List Candidate) (x : Candidate) → Shows b view → is_shown view.live x.session ≡ true → IsKept d → IsWithin view b d before
    → IsWithin view b (after_proposal d (proposal x)) (before ++ x ∷ [])
within_more view b d before x shows shown k w = one (placed_of d (proposal x)) refl
  where
    one : (a : Placed) → placed_of d (proposal x) ≡ a → IsWithin view b (after_placed d (proposal x) a) (before ++ x ∷ [])
    one (placings.Sent id) is = within_sent view b d before x id shows shown k (room_from d (proposal x) id is) w
    one _ is = within_kept view b d before x w
