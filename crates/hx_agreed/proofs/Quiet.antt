-- Events that leave the replicas and messages of live sessions as they are keep all in step.
use Rattle.std.proofs.Common.{◌≡◌, ℕ, ◌≤◌, ◌==◌, not, Bool, true, false, List, [], ◌∷◌, filter, find, Option, Some, None, ◌⊎◌, inl, inr, refl, sym, ap, ◌∙◌, subst, arith}
use Rattle.std.specs.Prelude.{nat_lt, if◌then◌else◌}
use Rattle.std.specs.Option.{option_map, option_map_or}
use Rattle.std.proofs.lemmas.Bool.Decides.{nat_tests}
use Rattle.hx_lists.specs.Lists.{count}
use Rattle.hx_ids.specs.declared.InstanceId.{InstanceId}
use Rattle.hx_ids.specs.declared.SessionId.{SessionId}
use Rattle.hx_ids.specs.declared.PartId.{PartId}
use Rattle.hx_ids.specs.declared.Live.{Live}
use Rattle.hx_model.specs.declared.ModelParts.{ModelParts}
use Rattle.hx_cluster.specs.declared.description.Resource.{Resource}
use Rattle.hx_cluster.specs.declared.state.Row.{Row}
use Rattle.hx_cluster.specs.declared.state.Message.{Message}
use Rattle.hx_cluster.specs.declared.state.Cluster.{Cluster}
use Rattle.hx_cluster.specs.Ends.{is_message, is_live, state_of, message_of, model_of, model_at, no_model, resource_at, parts_of}
use Rattle.hx_cluster.specs.Steps.{is_of, live_of, session_of, without}
use Rattle.hx_cluster.specs.Events.{has_part}
use Rattle.hx_replicas.specs.Participants.{Participant}
use Rattle.hx_worlds.specs.World.{Job}
use Rattle.hx_safe.proofs.Ends.{find-filter_kept, find-filter}
use Rattle.hx_safe.proofs.Kept.{IsKept}
use Rattle.hx_safe.proofs.Leaving.{state-without}
use Rattle.hx_safe.specs.Onward.{is_same_kind, IsOn}
use Rattle.hx_safe.proofs.Fronts.{front-get}
use Rattle.hx_safe.proofs.On.{other-live}
use Rattle.hx_agreed.specs.InStep.{of_instance, IsPending, IsUntouched, IsHeldJob, IsOldIn, IsInBag, IsSent, AreInStep}
use Rattle.hx_agreed.proofs.Lists.{each-le}
use Rattle.hx_safe.proofs.Sessions.{session_live}
use Rattle.hx_agreed.proofs.Frames.{IsLike, HasParts, initial_like, pending_like, untouched_like, taken_like, row_gone, message_gone, found_live, found_pending, not_live_above, placed_like, job_mine, mine_below, in_bag_like}

-- parts stay where resources are added at the end alone
pub on_parts : (c d : Cluster) → IsOn c d → HasParts c d
on_parts c d on = record {
  part = λ q there. part q (resource_at c.resources q.resource) refl there;
  model = λ q there. model q (resource_at c.resources q.resource) refl there;
}
  where
    part : (q : PartId) (o : Option Resource) → resource_at c.resources q.resource ≡ o → nat_lt q.index (option_map_or (λ x. x.ideal.parts) o 0) ≡ true → has_part d q ≡ true
    part q None is there = grind (arith, nat_tests, there)
    part q (Some x) is there =
        let f = front-get is_same_kind c.resources d.resources q.resource.0 x on.resources is in
        let kind : is_same_kind x f.0 ≡ true = f.2 in
        let got : resource_at d.resources q.resource ≡ Some f.0 = f.1 in
        ap (λ (o : Option Resource). nat_lt q.index (option_map_or (λ y. y.ideal.parts) o 0)) got ∙ grind (arith, nat_tests, kind, there)

    model : (q : PartId) (o : Option Resource) → resource_at c.resources q.resource ≡ o → nat_lt q.index (option_map_or (λ x. x.ideal.parts) o 0) ≡ true
        → model_of d.models d.resources q.resource ≡ option_map_or (λ x. model_at c.models x.model) o no_model
    model q None is there = absurd (let no : true ≡ false = grind (arith, nat_tests, there) in (cc))
    model q (Some x) is there =
        let f = front-get is_same_kind c.resources d.resources q.resource.0 x on.resources is in
        let kind : is_same_kind x f.0 ≡ true = f.2 in
        let got : resource_at d.resources q.resource ≡ Some f.0 = f.1 in
        let same : x.model.0 ≡ f.0.model.0 = grind (arith, nat_tests, kind) in
        ap (λ (o : Option Resource). option_map_or (λ y. model_at d.models y.model) o no_model) got
        ∙ ap (λ (ms : List ModelParts). model_at ms f.0.model) on.models
        ∙ ap (λ (n : ℕ). model_at c.models (record { 0 = n })) (sym same)

-- what such an event leaves
pub record IsQuiet (c d : Cluster) : Type 0 where
  pub parts : HasParts c d
  pub messages : c.next_msg ≡ d.next_msg
  pub up : c.next_session ≤ d.next_session
  pub live : (s : SessionId) → nat_lt s.0 c.next_session ≡ true → is_live d.live s ≡ true → is_live c.live s ≡ true
  pub kept : (i : InstanceId) (s : SessionId) → is_live d.live s ≡ true → session_of c i ≡ Some s → session_of d i ≡ Some s
  pub back : (i : InstanceId) (s : SessionId) → session_of d i ≡ Some s → (session_of c i ≡ Some s) ⊎ (nat_lt s.0 c.next_session ≡ false)
  pub like : (s : SessionId) → is_live d.live s ≡ true → IsLike c d s

module _ (c d : Cluster) (k : IsKept c) (l : IsKept d) (q : IsQuiet c d) (ws : List Participant) (jobs : List Job) (bag : List Message) (s : AreInStep c ws jobs bag) where
  there : (t : SessionId) (p : PartId) (n : Message) → message_of d.mail t p ≡ Some n → message_of c.mail t p ≡ Some n
  there t p n is = sym ((q.like t (found_live d l t p n is)).mail p) ∙ is

  new_session : (i : InstanceId) (t : SessionId) → session_of d i ≡ Some t → nat_lt t.0 c.next_session ≡ false → IsUntouched d t
  new_session i t is high =
      let like = q.like t (session_live d i t is) in
      let gone = not_live_above c k t high in
      record { rows = λ p. like.rows p ∙ row_gone c k t p gone; mail = λ p m e. let none = message_gone c k t p gone in let some = sym (like.mail p) ∙ e in cc }

  free : (i : InstanceId) (t : SessionId) → session_of d i ≡ Some t → ((of_instance ws i).session ≡ Some t) ⊎ IsUntouched d t
  free i t is = one (q.back i t is)
    where
      two : ((of_instance ws i).session ≡ Some t) ⊎ IsUntouched c t → ((of_instance ws i).session ≡ Some t) ⊎ IsUntouched d t
      two (inl mine) = inl mine
      two (inr u) = inr (untouched_like c d t (q.like t (session_live d i t is)) u)

      one : (session_of c i ≡ Some t) ⊎ (nat_lt t.0 c.next_session ≡ false) → ((of_instance ws i).session ≡ Some t) ⊎ IsUntouched d t
      one (inl before) = two ((s.each i).free t before)
      one (inr high) = inr (new_session i t is high)

  pending : (m : Message) → IsInBag c ws m → is_live d.live m.session ≡ true → IsPending d m ⊎ IsOldIn ws m
  pending m b live = one (b.pending (q.live m.session b.session live))
    where
      one : IsPending c m ⊎ IsOldIn ws m → IsPending d m ⊎ IsOldIn ws m
      one (inl p) = inl (pending_like c d m (q.like m.session live) p)
      one (inr o) = inr o

  sent : (t : SessionId) (p : PartId) (m : Message) → message_of d.mail t p ≡ Some m → IsSent d m
  sent t p m is =
      let before = s.mail t p m (there t p m is) in
      let pending = found_pending c k t p m (there t p m is) in
      let part : has_part c m.part ≡ true = grind (arith, pending) in
      record { number = before.number; initial = before.initial ∙ sym (initial_like c d q.parts m.part part) }

  pub quiet_in_step : AreInStep d ws jobs bag
  quiet_in_step = record {
    each = λ i. placed_like c d bag bag jobs jobs i (of_instance ws i) k q.parts (let e = q.messages in omega arith) q.up (λ m is. is) (λ m h is. is)
        (λ t mine live. (q.live t (mine_below c ws jobs bag s i t mine) live, q.kept i t live, q.like t live)) (free i) (λ stale. stale.apart) (s.each i);
    held = each-le (IsHeldJob c ws jobs) (IsHeldJob d ws jobs)
        (λ j h. record {
          only = h.only;
          out = h.out;
          taken = λ live. taken_like c d j (q.like j.message.session live) (h.taken (q.live j.message.session (mine_below c ws jobs bag s j.instance j.message.session (job_mine c ws jobs bag s j h)) live));
        }) jobs s.held;
    bagged = each-le (IsInBag c ws) (IsInBag d ws)
        (λ m b. in_bag_like c d ws ws m q.parts (let e = q.messages in omega arith) q.up (pending m b) (λ t p n is. b.same t p n (there t p n is)) b) bag s.bagged;
    numbers = s.numbers;
    mail = sent;
    first = let e = q.messages in let f = s.first in omega arith;
  }

-- an event beside sessions, rows and messages
pub beside_quiet : (c d : Cluster) → IsOn c d → d.live ≡ c.live → d.rows ≡ c.rows → d.mail ≡ c.mail → d.next_session ≡ c.next_session → d.next_msg ≡ c.next_msg → IsQuiet c d
beside_quiet c d on live rows mail sessions messages = record {
  parts = on_parts c d on;
  messages = sym messages;
  up = omega arith;
  live = λ s low is. subst (λ (ls : List Live). is_live ls s ≡ true) live is;
  kept = λ i s is e. subst (λ (ls : List Live). option_map (λ l. l.session) (live_of ls i) ≡ Some s) (sym live) e;
  back = λ i s e. inl (subst (λ (ls : List Live). option_map (λ l. l.session) (live_of ls i) ≡ Some s) live e);
  like = λ s is. record { rows = λ q. ap (λ (rs : List Row). state_of rs s q) rows; mail = λ q. ap (λ (ms : List Message). message_of ms s q) mail };
}

-- a session that ends
pub same_parts : (c d : Cluster) → d.models ≡ c.models → d.resources ≡ c.resources → HasParts c d
same_parts c d models resources = record {
  part = λ q there. ap (λ (rs : List Resource). nat_lt q.index (parts_of rs q.resource)) resources ∙ there;
  model = λ q there. ap (λ (ms : List ModelParts). model_of ms d.resources q.resource) models ∙ ap (λ (rs : List Resource). model_of c.models rs q.resource) resources;
}

pub live-within : (live : List Live) (s u : SessionId) → is_live (filter (λ l. not (l.session.0 == s.0)) live) u ≡ true → is_live live u ≡ true
live-within [] s u e = e
live-within (l ∷ live) s u e = grind (arith, e, live-within live s u)

mail-without : (mail : List Message) (s u : SessionId) (q : PartId) → (u.0 == s.0) ≡ false → message_of (filter (λ m. not (m.session.0 == s.0)) mail) u q ≡ message_of mail u q
mail-without mail s u q ne = find-filter_kept (is_message u q) (λ m. not (m.session.0 == s.0)) (λ m e. grind (arith, nat_tests, e, ne)) mail

-- the session that is found among the others
pub found-without : (live : List Live) (s u : SessionId) (i : InstanceId) → (u.0 == s.0) ≡ false → option_map (λ l. l.session) (find (is_of i) live) ≡ Some u
    → option_map (λ l. l.session) (find (is_of i) (filter (λ l. not (l.session.0 == s.0)) live)) ≡ Some u
found-without [] s u i ne e = e
found-without (l ∷ live) s u i ne e = one (is_of i l) refl (l.session.0 == s.0) refl e (λ f. found-without live s u i ne f)
  where
    one : (a : Bool) → is_of i l ≡ a → (b : Bool) → (l.session.0 == s.0) ≡ b → option_map (λ l. l.session) (if a then Some l else find (is_of i) live) ≡ Some u
        → (option_map (λ l. l.session) (find (is_of i) live) ≡ Some u → option_map (λ l. l.session) (find (is_of i) (filter (λ l. not (l.session.0 == s.0)) live)) ≡ Some u)
        → option_map (λ l. l.session) (find (is_of i) (filter (λ l. not (l.session.0 == s.0)) (l ∷ live))) ≡ Some u
    one true x true y e more = let same : l.session ≡ u = cc in let n : l.session.0 ≡ u.0 = ap (λ (t : SessionId). t.0) same in absurd (let no : true ≡ false = grind (arith, nat_tests, y, ne, n) in (cc))
    one true x false y e more = rw (y, x) e
    one false x true y e more = rw y (more e)
    one false x false y e more = rw (y, x) (more e)

pub back-without : (live : List Live) (s u : SessionId) (i : InstanceId) → count (is_of i) live ≤ 1 → option_map (λ l. l.session) (find (is_of i) (filter (λ l. not (l.session.0 == s.0)) live)) ≡ Some u
    → option_map (λ l. l.session) (find (is_of i) live) ≡ Some u
back-without live s u i few e = one (find (is_of i) (filter (λ l. not (l.session.0 == s.0)) live)) refl e
  where
    one : (o : Option Live) → find (is_of i) (filter (λ l. not (l.session.0 == s.0)) live) ≡ o → option_map (λ l. l.session) o ≡ Some u → option_map (λ l. l.session) (find (is_of i) live) ≡ Some u
    one None is e = cc
    one (Some l) is e = ap (option_map (λ l. l.session)) (find-filter (is_of i) (λ l. not (l.session.0 == s.0)) live l few is) ∙ e

pub without_quiet : (c : Cluster) (s : SessionId) → ((i : InstanceId) → count (is_of i) c.live ≤ 1) → IsQuiet c (without c s)
without_quiet c s few = record {
  parts = same_parts c (without c s) refl refl;
  messages = refl;
  up = omega arith;
  live = λ u low is. live-within c.live s u is;
  kept = λ i u is e. found-without c.live s u i (other-live c.live s u is) e;
  back = λ i u e. inl (back-without c.live s u i (few i) e);
  like = λ u is. let ne = other-live c.live s u is in record { rows = λ q. state-without c.rows s u q ne; mail = λ q. mail-without c.mail s u q ne };
}
