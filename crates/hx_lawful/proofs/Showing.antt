-- When a controller sends in a lawful history, its view shows what the board has.
use Rattle.std.proofs.Common.{◌≡◌, ◌||◌, ◌==◌, not, Bool, true, false, List, [], ◌∷◌, ◌⊎◌, inl, inr, refl, ap, ◌∙◌, arith}
use Rattle.std.specs.List.{list_any, list_all}
use Rattle.hx_ids.specs.declared.ControllerId.{ControllerId}
use Rattle.hx_ids.specs.declared.SessionId.{SessionId}
use Rattle.hx_cluster.specs.declared.description.Spec.{Spec}
use Rattle.hx_cluster.specs.declared.state.Message.{Message}
use Rattle.hx_cluster.specs.declared.state.Cluster.{Cluster}
use Rattle.hx_cluster.specs.declared.happenings.Event.{Event}
use Rattle.hx_cluster.specs.Ends.{is_live, is_shown}
use Rattle.hx_cluster.specs.Steps.{opening}
use Rattle.hx_cluster.specs.Events.{replay}
use Rattle.hx_cluster.specs.Safe.{HasMail, is_pending}
use Rattle.hx_cluster.specs.Valid.{IsValid}
use Rattle.hx_pass.specs.Turns.{Call, Live, Mail, States, Ideals, Send, Post, Turn, same_call, is_first, turn_of, view_of}
use Rattle.hx_pass.specs.Lawful.{IsLawful}
use Rattle.hx_safe.proofs.Counting.{and-first, and-second, and-both}
use Rattle.hx_safe.proofs.Ends.{same-self}
use Rattle.hx_safe.specs.Calm.{is_among}
use Rattle.hx_lawful.specs.Reading.{is_in_order, is_read, IsTurn}
use Rattle.hx_lawful.specs.Covers.{stands, is_left, has_mail, has_nothing, is_shown_of, IsCovered}
use Rattle.hx_lawful.specs.Gate.{Shows}
use Rattle.hx_lawful.proofs.Covering.{none_if, live_of_all, shown_once}
use Rattle.hx_lawful.proofs.Covered.{covers_here}

-- what is left once the ideals were read
left_few : (left : List Call) → is_in_order left ≡ true → (is_first Send left || is_first Post left) ≡ true → (left ≡ Send ∷ Post ∷ []) ⊎ (left ≡ Post ∷ [])
left_few [] order e = cc
left_few (Live ∷ rest) order e = cc
left_few (Mail s ∷ rest) order e = cc
left_few (States s ∷ rest) order e = cc
left_few (Ideals ∷ rest) order e = cc
left_few (Send ∷ []) order e = cc
left_few (Send ∷ Live ∷ rest) order e = cc
left_few (Send ∷ Mail s ∷ rest) order e = cc
left_few (Send ∷ States s ∷ rest) order e = cc
left_few (Send ∷ Ideals ∷ rest) order e = cc
left_few (Send ∷ Send ∷ rest) order e = cc
left_few (Send ∷ Post ∷ []) order e = inl refl
left_few (Send ∷ Post ∷ Live ∷ rest) order e = cc
left_few (Send ∷ Post ∷ Mail s ∷ rest) order e = cc
left_few (Send ∷ Post ∷ States s ∷ rest) order e = cc
left_few (Send ∷ Post ∷ Ideals ∷ rest) order e = cc
left_few (Send ∷ Post ∷ Send ∷ rest) order e = cc
left_few (Send ∷ Post ∷ Post ∷ rest) order e = cc
left_few (Post ∷ []) order e = inr refl
left_few (Post ∷ Live ∷ rest) order e = cc
left_few (Post ∷ Mail s ∷ rest) order e = cc
left_few (Post ∷ States s ∷ rest) order e = cc
left_few (Post ∷ Ideals ∷ rest) order e = cc
left_few (Post ∷ Send ∷ rest) order e = cc
left_few (Post ∷ Post ∷ rest) order e = cc

nothing_left : (t : Turn) (call : Call) → (t.left ≡ Send ∷ Post ∷ []) ⊎ (t.left ≡ Post ∷ []) → (list_any (same_call call) (Send ∷ Post ∷ []) ≡ false) → (list_any (same_call call) (Post ∷ []) ≡ false)
    → is_left t call ≡ false
nothing_left t call (inl is) one two = ap (list_any (same_call call)) is ∙ one
nothing_left t call (inr is) one two = ap (list_any (same_call call)) is ∙ two

-- what holds of each item of a list, by what holds of all
pub all_each : {X : Type 0} (xs : List X) (q : X → Bool) → ((x : X) → ((p : X → Bool) → list_all p xs ≡ true → p x ≡ true) → q x ≡ true) → list_all q xs ≡ true
all_each [] q h = refl
all_each (x ∷ xs) q h =
    and-both (q x) (list_all q xs) (h x (λ p all. and-first (p x) (list_all p xs) all))
    (all_each xs q (λ y there. h y (λ p all. there p (and-second (p x) (list_all p xs) all))))

shows : (c : Cluster) (k : ControllerId) (t : Turn) (begun : List Message) (h : List Event) → HasMail c → IsTurn c t → is_read t ≡ true → IsCovered c k t begun h → Shows c t.view
shows c k t begun h mail turn read cov = record {
  mail = all_each c.mail (is_among t.view.mail) (λ m there. shown m there (is_shown t.view.live m.session) refl);
  single = λ s p. shown_once c t turn s p;
  unshown = cov.unshown (ap not (nothing_left t Live few refl refl));
  instances = turn.own;
  rows = λ s p live there. cov.rows s p (and-both (is_shown t.view.live s) (not (is_left t (States s))) there (ap not (nothing_left t (States s) few refl refl))) live;
  resources = turn.resources read;
  replicas = turn.replicas read;
}
  where
    few : (t.left ≡ Send ∷ Post ∷ []) ⊎ (t.left ≡ Post ∷ [])
    few = left_few t.left turn.order read

    second : (a b : Bool) → (not a || b) ≡ true → a ≡ true → b ≡ true
    second true b e w = e
    second false b e w = cc

    other : (a b : Bool) → (a || b) ≡ true → a ≡ false → b ≡ true
    other true b e w = cc
    other false b e w = e

    live : (m : Message) → is_pending c m ≡ true → is_live c.live m.session ≡ true
    live m e = grind (arith, e)

    clash : (b : Bool) → b ≡ true → not b ≡ true → true ≡ false
    clash true e w = cc
    clash false e w = cc

    no_mail : (xs : List Message) (s : SessionId) → list_any (λ x. x.session.0 == s.0) xs ≡ false → list_all (λ x. not (x.session.0 == s.0)) xs ≡ true
    no_mail [] s e = refl
    no_mail (x ∷ xs) s e = grind (arith, e, no_mail xs s)

    shown : (m : Message) → ((p : Message → Bool) → list_all p c.mail ≡ true → p m ≡ true) → (b : Bool) → is_shown t.view.live m.session ≡ b → is_among t.view.mail m ≡ true
    shown m there true is =
        let read_mail : has_mail t m.session ≡ true = and-both (is_shown t.view.live m.session) (not (is_left t (Mail m.session))) is (ap not (nothing_left t (Mail m.session) few refl refl)) in
        second (m.session.0 == m.session.0) (is_among t.view.mail m) (there (is_shown_of m.session t.view.mail) (cov.mail m.session read_mail)) (same-self m.session.0)
    shown m there false is =
        let all = cov.unshown (ap not (nothing_left t Live few refl refl)) in
        let bare : has_nothing c m.session ≡ true
        = other (is_shown t.view.live m.session) (has_nothing c m.session) (live_of_all (λ u. is_shown t.view.live u || has_nothing c u) c.live m.session all (live m (there (is_pending c) mail.pending))) is in
        let none = none_if (list_any (λ x. x.session.0 == m.session.0) c.mail)
        (and-second (not (list_any (λ r. r.session.0 == m.session.0) c.rows)) (not (list_any (λ x. x.session.0 == m.session.0) c.mail)) bare) in
        let gone : not (m.session.0 == m.session.0) ≡ true = there (λ x. not (x.session.0 == m.session.0)) (no_mail c.mail m.session none) in
        let both = clash (m.session.0 == m.session.0) (same-self m.session.0) gone in cc

pub lawful_shows : (spec : Spec) (h : List Event) (k : ControllerId) → IsValid spec → IsLawful spec h → is_read (turn_of spec k h) ≡ true
    → stands (replay (opening spec) h) k (turn_of spec k h) ≡ true → Shows (replay (opening spec) h) (view_of spec k h)
lawful_shows spec h k valid lawful read at =
    let here = covers_here spec valid h lawful k in
    shows (replay (opening spec) h) k (turn_of spec k h) here.begun h here.mail here.turn read (here.covered at)
