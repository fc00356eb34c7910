-- A message is delivered: it is accepted or noted, and the scene stays one.
use Rattle.std.proofs.Common.{◌≡◌, ℕ, ◌≤◌, ◌<◌, Bool, true, false, List, [], ◌∷◌, length, Option, None, Some, refl, sym, ap, subst, ◌∙◌}
use Rattle.std.specs.Prelude.{slice_set, slice_index_or, Result, Ok, Err, IsErrAnd}
use Rattle.std.specs.List.{All}
use Rattle.std.proofs.lemmas.List.{map-set}
use Rattle.std.proofs.Math.Seq.{map-set_same}
use Rattle.std.proofs.lemmas.List.Elements.{All-set, All-get_or, All-head, All-tail}
use Rattle.hx_ids.specs.declared.InstanceId.{InstanceId}
use Rattle.hx_ids.specs.declared.PartId.{PartId}
use Rattle.hx_cluster.specs.declared.state.Message.{Message}
use Rattle.hx_cluster.specs.Ends.{part_eq}
use Rattle.hx_handler.specs.Makings.{tried_of}
use Rattle.hx_print.specs.Texts.{accept_text}
use Rattle.hx_board.specs.declared.faults.RoomFault.{RoomFault}
use Rattle.hx_board.specs.declared.faults.RoomFault.TheVariants as rooms
use Rattle.hx_replicas.specs.declared.DeliverFault.{DeliverFault}
use Rattle.hx_replicas.specs.Participants.{Participant, Slot, slot_of, slot_in, Fits, deliver_fault, accept, accepted, is_session}
use Rattle.hx_replicas.specs.Jobs.{ParticipantState}
use Rattle.hx_worlds.specs.World.{Answers, Missing, State, participant_of, with_participant}
use Rattle.hx_worlds.specs.declared.Voice.{Voice}
use Rattle.hx_worlds.specs.declared.Voice.TheVariants.{Quiet}
use Rattle.hx_worlds.specs.Runs.{Deed, note, say_if_loud}
use Rattle.hx_worlds.specs.Jobs.{deliver, delivered, note_of}
use Rattle.hx_scripted.proofs.Keeping.{Keeps as Leaves}
use Rattle.hx_scripted.proofs.Standing.{since}
use Rattle.hx_agreed.proofs.DoingTurns.{Stands}
use Rattle.hx_agreed.proofs.Operations.{fits, deliver_keeps}
use Rattle.hx_scene.specs.Scenes.{SceneState, IsBagged, at, world_of, lists_of}
use Rattle.hx_scene.specs.Doing.{IsBelow, IsRunsBelow, Keeps, Reaches, IsCut, Fails, DoesDeed}
use Rattle.hx_scene.specs.Kept.{IsScene, IsListed}
use Rattle.hx_scene.proofs.Reaching.{one_step, cut_after, cut_here}
use Rattle.hx_scene.proofs.Standing.{valid_in, stands_in, participant_is}
use Rattle.hx_scene.proofs.Ending.{all-put}

-- a participant in the place of one
abbrev pub put_staff : SceneState → InstanceId → ParticipantState → SceneState
put_staff s i q = record s { staff = slice_set s.staff i.0 q }

pub record IsIn (s : SceneState) (i : InstanceId) (p q : ParticipantState) : Type 0 where
  pub range : i.0 < length s.staff
  pub was : p ≡ slice_index_or s.staff i.0 p
  pub made : q.made ≡ p.made
  pub listed : q.listed ≡ p.listed

at_put : (s : SceneState) (i : InstanceId) (q : ParticipantState) (a : Answers) → at (put_staff s i q) a ≡ with_participant i q.plain (at s a)
at_put s i q a = ap (λ (ws : List Participant). record (at s a) { world = record (world_of s) { participants = ws } }) (map-set (λ (p : ParticipantState). p.plain) s.staff i.0 q)

at_same : (s : SceneState) (i : InstanceId) (p q : ParticipantState) → IsIn s i p q → q.plain ≡ p.plain → (a : Answers) → at (put_staff s i q) a ≡ at s a
at_same s i p q is plain a =
    ap (λ (ws : List Participant). record (at s a) { world = record (world_of s) { participants = ws } })
    (map-set_same (λ (p : ParticipantState). p.plain) s.staff i.0 q p (plain ∙ ap (λ (p : ParticipantState). p.plain) is.was))

lists_same : (s : SceneState) (i : InstanceId) (p q : ParticipantState) → IsIn s i p q → lists_of (put_staff s i q) ≡ lists_of s
lists_same s i p q is = map-set_same (λ (p : ParticipantState). p.listed) s.staff i.0 q p (is.listed ∙ ap (λ (p : ParticipantState). p.listed) is.was)

scene_put : (s : SceneState) (i : InstanceId) (p q : ParticipantState) → IsIn s i p q → IsScene s → Stands s.spec (since s.board.cluster.line) (at (put_staff s i q) Missing) → IsScene (put_staff s i q)
scene_put s i p q is scene stands = record {
  own = scene.own;
  history = scene.history;
  of_history = stands.scripted.of;
  in_step = stands.in_step;
  listed = subst (λ l. All (IsListed l) s.jobs) (sym (lists_same s i p q is)) scene.listed;
}

keeps_put : (s : SceneState) (i : InstanceId) (p q : ParticipantState) → IsIn s i p q → ((most : ℕ) → IsBelow most p → IsBelow most q) → Keeps s (put_staff s i q) []
keeps_put s i p q is below = record {
  muted = refl;
  lists = lists_same s i p q is;
  lines = refl;
  told = λ c. (
    record {
      few = c.few;
      staff = All-set (IsBelow s.handed) s.staff i.0 q (below s.handed (subst (IsBelow s.handed) (sym is.was) (All-get_or (IsBelow s.handed) s.staff i.0 p is.range c.staff))) c.staff;
      jobs = c.jobs;
    },
    tt,
  );
}

below_same : (p q : ParticipantState) → q.made ≡ p.made → q.plain ≡ p.plain → (most : ℕ) → IsBelow most p → IsBelow most q
below_same p q made plain most b = record {
  made = subst (λ n. n ≤ most) (sym made) b.made;
  tried = subst (λ (w : Participant). (r : PartId) → tried_of w.tried r ≤ most) (sym plain) b.tried;
  runs = subst (λ (w : Participant). All (λ (x : Slot). IsRunsBelow most x.handler) w.slots) (sym plain) b.runs;
}

runs_in : (most : ℕ) (q : PartId) (xs : List Slot) → All (λ (x : Slot). IsRunsBelow most x.handler) xs → IsRunsBelow most (slot_in xs q).handler
runs_in most q [] all = tt
runs_in most q (x ∷ xs) all = one (part_eq x.part q) refl (runs_in most q xs (All-tail (λ (x : Slot). IsRunsBelow most x.handler) x xs all))
  where
    one : (b : Bool) → part_eq x.part q ≡ b → IsRunsBelow most (slot_in xs q).handler → IsRunsBelow most (slot_in (x ∷ xs) q).handler
    one true e more = rw e (All-head (λ (x : Slot). IsRunsBelow most x.handler) x xs all)
    one false e more = rw e more

below_accepted : (p q : ParticipantState) (m : Message) → q.made ≡ p.made → q.plain ≡ accept p.plain m → (most : ℕ) → IsBelow most p → IsBelow most q
below_accepted p q m made plain most b = record {
  made = subst (λ n. n ≤ most) (sym made) b.made;
  tried = subst (λ (w : Participant). (r : PartId) → tried_of w.tried r ≤ most) (sym plain) b.tried;
  runs = subst (λ (w : Participant). All (λ (x : Slot). IsRunsBelow most x.handler) w.slots) (sym plain)
      (all-put (λ (x : Slot). IsRunsBelow most x.handler) (accepted (slot_of p.plain m.part) m) p.plain.slots (runs_in most m.part p.plain.slots b.runs) b.runs);
}

-- only its room changed
pub same_scene : {s : SceneState} (i : InstanceId) (p q : ParticipantState) → IsIn s i p q → q.plain ≡ p.plain → IsScene s → IsScene (put_staff s i q)
same_scene {s} i p q is plain scene =
    scene_put s i p q is scene (subst (λ (x : State). Stands s.spec (since s.board.cluster.line) x) (sym (at_same s i p q is plain Missing)) (stands_in s scene Missing))

pub same_reaches : {s : SceneState} (f : State → Deed) (i : InstanceId) (p q : ParticipantState) (page : List ℕ) → IsIn s i p q → q.plain ≡ p.plain → Reaches f s page f (put_staff s i q) page
same_reaches {s} f i p q page is plain =
    one_step f f s page (put_staff s i q) [] (λ a given. ap f (sym (at_same s i p q is plain a))) refl refl (keeps_put s i p q is (below_same p q is.made plain))

-- a message fits
pub fits_it : {s : SceneState} (i : InstanceId) (m : Message) (p : ParticipantState) → i.0 < length s.staff → p ≡ slice_index_or s.staff i.0 p → IsScene s → IsBagged s.bag m
    → is_session p.plain.session m.session ≡ true → Fits p.plain m
fits_it {s} i m p range was scene bagged mine =
    subst (λ (w : Participant). Fits w m) (participant_is s.staff i p range was)
    (fits s.spec (valid_in s scene) (since s.board.cluster.line) i m (at s Missing) (stands_in s scene Missing) bagged
    (subst (λ (w : Participant). is_session w.session m.session ≡ true) (sym (participant_is s.staff i p range was)) mine))

-- it was accepted
module _ {s : SceneState} (v : Voice) (i : InstanceId) (m : Message) (p q : ParticipantState) (is : IsIn s i p q) (plain : q.plain ≡ accept p.plain m) (free : deliver_fault p.plain m ≡ None) where
  free_there : deliver_fault (participant_of (world_of s) i) m ≡ None
  free_there = subst (λ (w : Participant). deliver_fault w m ≡ None) (sym (participant_is s.staff i p is.range is.was)) free

  at_accepted : (a : Answers) → with_participant i (accept (participant_of (world_of s) i) m) (at s a) ≡ at (put_staff s i q) a
  at_accepted a =
      ap (λ (w : Participant). with_participant i (accept w m) (at s a)) (participant_is s.staff i p is.range is.was) ∙ ap (λ (w : Participant). with_participant i w (at s a)) (sym plain) ∙ sym (at_put s i q a)

  pub accepted_reaches : (page : List ℕ) → Reaches (λ x. deliver v i m x) s page (λ x. say_if_loud v 1 (accept_text x.world.spec i m.id) x) (put_staff s i q) page
  accepted_reaches page =
      one_step (λ x. deliver v i m x) (λ x. say_if_loud v 1 (accept_text x.world.spec i m.id) x) s page (put_staff s i q) []
      (λ a given. ap (λ o. delivered v i m o (at s a)) free_there ∙ ap (λ (x : State). say_if_loud v 1 (accept_text x.world.spec i m.id) x) (at_accepted a)) refl refl
      (keeps_put s i p q is (below_accepted p q m is.made plain))

  pub accepted_scene : IsScene s → IsBagged s.bag m → IsScene (put_staff s i q)
  accepted_scene scene bagged =
      let kept : Leaves (Stands s.spec (since s.board.cluster.line)) (deliver Quiet i m (at s Missing)) = deliver_keeps s.spec (valid_in s scene) (since s.board.cluster.line) Quiet i m (at s Missing) (stands_in s scene Missing) bagged in
      let left : Leaves (Stands s.spec (since s.board.cluster.line)) (delivered Quiet i m None (at s Missing)) = subst (λ o. Leaves (Stands s.spec (since s.board.cluster.line)) (delivered Quiet i m o (at s Missing))) free_there kept in
      scene_put s i p q is scene (subst (λ (x : State). Stands s.spec (since s.board.cluster.line) x) (at_accepted Missing) left.left)

-- it was refused
pub refused_reaches : {s : SceneState} (v : Voice) (i : InstanceId) (m : Message) (p q : ParticipantState) (fault : DeliverFault) (page : List ℕ) → IsIn s i p q → q.plain ≡ p.plain → deliver_fault p.plain m ≡ Some fault
    → Reaches (λ x. deliver v i m x) s page (λ x. note v (note_of fault) x) (put_staff s i q) page
refused_reaches {s} v i m p q fault page is plain refused =
    one_step (λ x. deliver v i m x) (λ x. note v (note_of fault) x) s page (put_staff s i q) []
    (λ a given.
    ap (λ (w : Participant). delivered v i m (deliver_fault w m) (at s a)) (participant_is s.staff i p is.range is.was) ∙ ap (λ o. delivered v i m o (at s a)) refused
    ∙ ap (λ (x : State). note v (note_of fault) x) (sym (at_same s i p q is plain a))) refl refl (keeps_put s i p q is (below_same p q is.made plain))

-- memory was wanted before anything was done
pub want_memory : {R : Type 0} (f : State → Deed) (s u : SceneState) (page later : List ℕ) (result : Result R RoomFault) → IsErrAnd result (λ x. x ≡ rooms.OutOfMemory) → IsCut f s page u later → DoesDeed f s page u later result
want_memory f s u page later (Ok x) failed cut = absurd failed
want_memory f s u page later (Err x) failed cut = subst (λ y. Fails f s page y u later) (sym failed) cut

pub reserved_none : {R : Type 0} {s : SceneState} (f : State → Deed) (i : InstanceId) (p q : ParticipantState) (page : List ℕ) (result : Result R RoomFault) → IsErrAnd result (λ x. x ≡ rooms.OutOfMemory)
    → IsIn s i p q → q.plain ≡ p.plain → DoesDeed f s page (put_staff s i q) page result
reserved_none {R} {s} f i p q page result failed is plain =
    want_memory f s (put_staff s i q) page page result failed (cut_after (same_reaches f i p q page is plain) (cut_here f (put_staff s i q) page))

-- what a reservation and a delivery leave of a participant
pub is_reserved : {s : SceneState} (i : InstanceId) (p q : ParticipantState) → i.0 < length s.staff → p ≡ slice_index_or s.staff i.0 p → q ≡ record p { spare = q.spare } → IsIn s i p q
is_reserved i p q range was rest =
    record { range = range; was = was; made = ap (λ (r : ParticipantState). r.made) rest; listed = ap (λ (r : ParticipantState). r.listed) rest }

pub plain_reserved : (p q : ParticipantState) → q ≡ record p { spare = q.spare } → q.plain ≡ p.plain
plain_reserved p q rest = ap (λ (r : ParticipantState). r.plain) rest

pub is_accepted : {s : SceneState} (i : InstanceId) (p q r : ParticipantState) (m : Message) → i.0 < length s.staff → p ≡ slice_index_or s.staff i.0 p → q ≡ record p { spare = q.spare }
    → r ≡ record q { plain = accept q.plain m; spare = r.spare } → IsIn s i p r
is_accepted i p q r m range was rest ok = record {
  range = range;
  was = was;
  made = ap (λ (r : ParticipantState). r.made) ok ∙ ap (λ (r : ParticipantState). r.made) rest;
  listed = ap (λ (r : ParticipantState). r.listed) ok ∙ ap (λ (r : ParticipantState). r.listed) rest;
}

pub plain_accepted : (p q r : ParticipantState) (m : Message) → q ≡ record p { spare = q.spare } → r ≡ record q { plain = accept q.plain m; spare = r.spare } → r.plain ≡ accept p.plain m
plain_accepted p q r m rest ok = ap (λ (r : ParticipantState). r.plain) ok ∙ ap (λ (r : ParticipantState). accept r.plain m) rest

pub is_refused : {s : SceneState} (i : InstanceId) (p q r : ParticipantState) → i.0 < length s.staff → p ≡ slice_index_or s.staff i.0 p → q ≡ record p { spare = q.spare } → r ≡ q → IsIn s i p r
is_refused i p q r range was rest err = record {
  range = range;
  was = was;
  made = ap (λ (r : ParticipantState). r.made) err ∙ ap (λ (r : ParticipantState). r.made) rest;
  listed = ap (λ (r : ParticipantState). r.listed) err ∙ ap (λ (r : ParticipantState). r.listed) rest;
}

pub fault_before : (p q : ParticipantState) (m : Message) (o : Option DeliverFault) → q ≡ record p { spare = q.spare } → deliver_fault q.plain m ≡ o → deliver_fault p.plain m ≡ o
fault_before p q m o rest is = sym (ap (λ (r : ParticipantState). deliver_fault r.plain m) rest) ∙ is
