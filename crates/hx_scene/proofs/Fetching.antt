-- Messages are fetched: an event happens, its session is adopted, and the messages go into the bag.
use Rattle.std.proofs.Common.{◌≡◌, ℕ, ◌+◌, ◌⊎◌, ◌==◌, Bool, true, false, List, [], ◌∷◌, find, length, None, Some, refl, sym, ap, subst, ◌∙◌, arith}
use Rattle.std.specs.Prelude.{nat_lt, Result, Ok, Err, IsErrAnd, IfErr}
use Rattle.std.specs.List.{All}
use Rattle.std.proofs.lemmas.Bool.Decides.{nat_tests}
use Rattle.hx_ids.specs.declared.InstanceId.{InstanceId}
use Rattle.hx_cluster.specs.declared.state.Message.{Message}
use Rattle.hx_cluster.specs.declared.state.Cluster.{Cluster}
use Rattle.hx_cluster.specs.declared.happenings.Mail.{Mail}
use Rattle.hx_cluster.specs.declared.happenings.Event.{Event}
use Rattle.hx_cluster.specs.declared.happenings.Event.TheVariants as events
use Rattle.hx_cluster.specs.Ends.{message_of}
use Rattle.hx_cluster.specs.Reads.{fetched}
use Rattle.hx_cluster.specs.Steps.{has_instance, session_of}
use Rattle.hx_text.proofs.Printing.{puts_none}
use Rattle.hx_board.specs.declared.faults.RoomFault.{RoomFault}
use Rattle.hx_board.specs.declared.faults.RoomFault.TheVariants as rooms
use Rattle.hx_board.specs.Board.{Held, HasHistory, weight_at}
use Rattle.hx_board.specs.Board.{happened as on_board}
use Rattle.hx_board.specs.Refusals.{fetch_refusal}
use Rattle.hx_replicas.specs.Jobs.{ParticipantState}
use Rattle.hx_safe.proofs.Ends.{same-self}
use Rattle.hx_worlds.specs.World.{State, Answers, Answered, Missing}
use Rattle.hx_worlds.specs.Runs.{done, and_then, make, happened}
use Rattle.hx_worlds.specs.Jobs.{do_fetch, fetched_as, bagged, put_in_bag, put_all}
use Rattle.hx_scripted.proofs.Keeping.{Keeps as Leaves}
use Rattle.hx_scripted.proofs.Standing.{since}
use Rattle.hx_agreed.specs.InStep.{Each}
use Rattle.hx_agreed.proofs.Lists.{each-all}
use Rattle.hx_agreed.proofs.Frames.{one_number}
use Rattle.hx_agreed.proofs.Fetching.{mail_found}
use Rattle.hx_agreed.proofs.DoingTurns.{Stands}
use Rattle.hx_agreed.proofs.DoingLines.{kept_now}
use Rattle.hx_agreed.proofs.Operations.{fetch_stands, fetch_keeps}
use Rattle.hx_scene.specs.Scenes.{SceneState, OpenState, IsBagged, at, lists_of}
use Rattle.hx_scene.specs.Heard.{entry_heard}
use Rattle.hx_scene.specs.Doing.{Keeps, Fails, DoesDeed}
use Rattle.hx_scene.specs.Kept.{IsScene, IsListed}
use Rattle.hx_scene.specs.Ending.{KeepsParts, Follows}
use Rattle.hx_scene.proofs.Reaching.{reaches_as, cut_as, does_err, at_happened, happens_and, happens_and_cut, room_of}
use Rattle.hx_scene.proofs.Standing.{valid_in, stands_in}
use Rattle.hx_scene.specs.Made.{IsMadeBy}
use Rattle.hx_scene.proofs.Making.{Makes, IsCutHere, made_by}
use Rattle.hx_scene.proofs.Happening.{refused_as, stopped_here, made_here, room_is, scene_happened}

-- the event
abbrev pub fetch_event : SceneState → InstanceId → Event
fetch_event s i = events.Fetch i (fetched s.board.cluster i).session (length (fetched s.board.cluster i).messages)

pub fetch_refused : {R : Type 0} (i : InstanceId) (s : SceneState) (b : Held) (fault : RoomFault) (result : Result R RoomFault) → b ≡ s.board
    → (fault ≡ rooms.OutOfMemory) ⊎ (fetch_refusal s.board ≡ Some fault) → IsErrAnd result (λ x. x ≡ fault)
    → IfErr result (λ x. (p : List ℕ) → Fails (λ z. do_fetch i z) s p x (record s { board = b }) p)
fetch_refused i s b fault (Ok x) same refused failed = tt
fetch_refused i s b fault (Err x) same refused failed =
    λ p.
    subst (λ y. Fails (λ z. do_fetch i z) s p y (record s { board = b }) p) (sym failed)
    (refused_as (λ z. do_fetch i z) s b p fault 1 (λ full a. ap (λ r. and_then r (λ y. done (fetched_as i (fetched s.board.cluster i) y))) (stopped_here (fetch_event s i) (at s a) full)) same refused)

event_made : (s : SceneState) (i : InstanceId) (b : Held) (mail : Mail) → mail ≡ fetched s.board.cluster i → b ≡ on_board s.board (events.Fetch i mail.session (length mail.messages))
    → b ≡ on_board s.board (fetch_event s i)
event_made s i b mail is made = made ∙ ap (λ (m : Mail). on_board s.board (events.Fetch i m.session (length m.messages))) is

follows_mail : (s : SceneState) (i : InstanceId) (mail : Mail) (later : List OpenState) (after : List ParticipantState) → mail ≡ fetched s.board.cluster i
    → Follows i mail.session s.jobs later s.staff after → Follows i (fetched s.board.cluster i).session s.jobs later s.staff after
follows_mail s i mail later after is follows = subst (λ (m : Mail). Follows i m.session s.jobs later s.staff after) is follows

pub puts_mail : (s : SceneState) (i : InstanceId) (mail : Mail) (bag room ms : List Message) → mail ≡ fetched s.board.cluster i → bag ≡ put_all room ms → room ≡ s.bag → ms ≡ mail.messages
    → bag ≡ put_all s.bag (fetched s.board.cluster i).messages
puts_mail s i mail bag room ms is put same all = put ∙ ap (λ xs. put_all xs ms) same ∙ ap (λ xs. put_all s.bag xs) (all ∙ ap (λ (m : Mail). m.messages) is)

-- it was made, and maybe more of the operation done
module _ (s : SceneState) (i : InstanceId) (b : Held) (made : b ≡ on_board s.board (fetch_event s i)) (free : fetch_refusal s.board ≡ None) where
  room : nat_lt s.board.limit (weight_at s.board + 1) ≡ false
  room = room_of s.board 1 rooms.HistoryFull free

  scene_of_event : IsScene s → has_instance s.board.cluster i ≡ true → HasHistory b → IsScene (record s { board = b })
  scene_of_event is there history =
      scene_happened b (fetch_event s i) (since s.board.cluster.line) is history made
      (fetch_stands s.spec (valid_in s is) (since s.board.cluster.line) i (at s (Answered [])) (stands_in s is (Answered [])) there (room_is s.board.limit (weight_at s.board + 1) room))

  event_keeps : Keeps s (record s { board = b }) []
  event_keeps = record { muted = refl; lists = refl; lines = ap (λ (c : Held). c.lines) made; told = λ c. (record { few = c.few; staff = c.staff; jobs = c.jobs }, tt) }

  event_here : (bag : List Message) → bag ≡ s.bag → IsScene s → has_instance s.board.cluster i ≡ true → HasHistory b → IsCutHere (λ x. do_fetch i x) s (record s { board = b; bag = bag })
  event_here bag same is there history =
      subst (λ (ms : List Message). IsCutHere (λ x. do_fetch i x) s (record s { board = b; bag = ms })) (sym same) (record {
        cut = λ p.
            cut_as (λ a. refl)
            (happens_and_cut (fetch_event s i) (λ y. done (fetched_as i (fetched s.board.cluster i) y)) [] s (record s { board = b }) p p room made refl event_keeps (puts_none (entry_heard s (fetch_event s i)) p p refl));
        scene = scene_of_event is there history;
      })

  module _ (later : List OpenState) (after : List ParticipantState) (bag : List Message) (follows : Follows i (fetched s.board.cluster i).session s.jobs later s.staff after)
      (kept : KeepsParts s.jobs later s.staff after) (put : bag ≡ put_all s.bag (fetched s.board.cluster i).messages) where
    abbrev fetched_scene : SceneState
    fetched_scene = record s { board = b; staff = after; jobs = later; bag = bag }

    at_fetched : (a : Answers) → fetched_as i (fetched s.board.cluster i) (at (record s { board = on_board s.board (fetch_event s i) }) a) ≡ at fetched_scene a
    at_fetched a =
        ap (λ (x : State). bagged (fetched s.board.cluster i).messages x) (follows (at (record s { board = on_board s.board (fetch_event s i) }) a))
        ∙ ap (λ (ms : List Message). at (record s { board = on_board s.board (fetch_event s i); staff = after; jobs = later; bag = ms }) a) (sym put)
        ∙ ap (λ (c : Held). at (record s { board = c; staff = after; jobs = later; bag = bag }) a) (sym made)

    fetched_keeps : Keeps s fetched_scene []
    fetched_keeps = record {
      muted = refl;
      lists = kept.lists;
      lines = ap (λ (c : Held). c.lines) made;
      told = λ c. (record { few = c.few; staff = (kept.below s.handed (c.staff, c.jobs)).0; jobs = (kept.below s.handed (c.staff, c.jobs)).1 }, tt);
    }

    is_fetched_scene : IsScene s → has_instance s.board.cluster i ≡ true → HasHistory b → IsScene fetched_scene
    is_fetched_scene is there history =
        let left : Leaves (Stands s.spec (since s.board.cluster.line)) (do_fetch i (at s Missing)) = fetch_keeps s.spec (valid_in s is) (since s.board.cluster.line) i (at s Missing) (stands_in s is Missing) there in
        let made_left : Leaves (Stands s.spec (since s.board.cluster.line)) (and_then (make (fetch_event s i) (at s Missing)) (λ y. done (fetched_as i (fetched s.board.cluster i) y))) =
        subst (λ r. Leaves (Stands s.spec (since s.board.cluster.line)) (and_then r (λ y. done (fetched_as i (fetched s.board.cluster i) y)))) (made_here (fetch_event s i) (at s Missing) room) left in
        let happens : happened (fetch_event s i) (at s Missing) ≡ at (record s { board = on_board s.board (fetch_event s i) }) Missing = at_happened (fetch_event s i) s (record s { board = on_board s.board (fetch_event s i) }) Missing refl in
        let stands : Stands s.spec (since s.board.cluster.line) (at fetched_scene Missing) =
        subst (λ (x : State). Stands s.spec (since s.board.cluster.line) x) (ap (λ (x : State). fetched_as i (fetched s.board.cluster i) x) happens ∙ at_fetched Missing) made_left.left in
        record {
          own = ap (λ (c : Held). c.spec) made ∙ is.own;
          history = history;
          of_history = stands.scripted.of;
          in_step = stands.in_step;
          listed = subst (λ l. All (IsListed l) later) (sym kept.lists) (kept.listed (lists_of s) is.listed);
        }

    fetch_makes_it : IsScene s → has_instance s.board.cluster i ≡ true → Makes (λ x. do_fetch i x) (fetch_event s i) s b fetched_scene
    fetch_makes_it is there = record {
      made = made;
      line = refl;
      ends = λ p q text. reaches_as (λ a. refl) (happens_and (fetch_event s i) (λ y. fetched_as i (fetched s.board.cluster i) y) tt [] s fetched_scene p q room (λ a given. at_fetched a) made refl fetched_keeps text);
      cut = λ p q front. cut_as (λ a. refl) (happens_and_cut (fetch_event s i) (λ y. done (fetched_as i (fetched s.board.cluster i) y)) [] s fetched_scene p q room made refl fetched_keeps front);
      scene = is_fetched_scene is there;
    }

-- by what the calls told
pub fetch_here : {s : SceneState} (i : InstanceId) {b : Held} {mail : Mail} {bag : List Message} → IsScene s → has_instance s.board.cluster i ≡ true → HasHistory b → mail ≡ fetched s.board.cluster i
    → b ≡ on_board s.board (events.Fetch i mail.session (length mail.messages)) → fetch_refusal s.board ≡ None → bag ≡ s.bag → IsCutHere (λ x. do_fetch i x) s (record s { board = b; bag = bag })
fetch_here {s} i {b} {mail} {bag} is there history all made free same = event_here s i b (event_made s i b mail all made) free bag same is there history

pub fetch_makes : {s : SceneState} {i : InstanceId} {b : Held} {mail : Mail} {later : List OpenState} {after : List ParticipantState} {bag room ms : List Message} → IsScene s → has_instance s.board.cluster i ≡ true
    → mail ≡ fetched s.board.cluster i → b ≡ on_board s.board (events.Fetch i mail.session (length mail.messages)) → fetch_refusal s.board ≡ None → Follows i mail.session s.jobs later s.staff after
    → KeepsParts s.jobs later s.staff after → bag ≡ put_all room ms → room ≡ s.bag → ms ≡ mail.messages
    → Makes (λ x. do_fetch i x) (fetch_event s i) s b (record s { board = b; staff = after; jobs = later; bag = bag })
fetch_makes {s} {i} {b} {mail} {later} {after} {bag} {room} {ms} is there all made free follows kept put same put_them =
    fetch_makes_it s i b (event_made s i b mail all made) free later after bag (follows_mail s i mail later after all follows) kept (puts_mail s i mail bag room ms all put same put_them) is there

pub fetch_made : {s u : SceneState} {b : Held} (i : InstanceId) (mail : Mail) → u.spec ≡ s.spec → u.muted ≡ s.muted → mail ≡ fetched s.board.cluster i → Makes (λ x. do_fetch i x) (fetch_event s i) s b u
    → IsMadeBy (λ x. do_fetch i x) (events.Fetch i mail.session (length mail.messages)) s u
fetch_made {s} {u} {b} i mail same muted is made =
    subst (λ (m : Mail). IsMadeBy (λ x. do_fetch i x) (events.Fetch i m.session (length m.messages)) s u) (sym is) (made_by same muted made)

-- its messages are handed out
pub fetch_gives : {R : Type 0} (i : InstanceId) (s u : SceneState) (result : Result R RoomFault) (fault : RoomFault) (p : List ℕ) → ((q : List ℕ) → Fails (λ x. do_fetch i x) s q fault u q)
    → IsErrAnd result (λ x. x ≡ fault) → DoesDeed (λ x. do_fetch i x) s p u p result
fetch_gives i s u result fault p fails failed = does_err (λ x. do_fetch i x) (λ _. tt) s p u p result fault failed (fails p)

pub mail_gives : (s : SceneState) (i : InstanceId) (mail : Mail) {ms : List Message} → ms ≡ mail.messages → mail ≡ fetched s.board.cluster i → ms ≡ (fetched s.board.cluster i).messages
mail_gives s i mail same is = same ∙ ap (λ (m : Mail). m.messages) is

pub bag_gives : (bag : List Message) (mail : Mail) {ms : List Message} → ms ≡ mail.messages → All (IsBagged bag) mail.messages → All (IsBagged bag) ms
bag_gives bag mail same all = subst (λ (xs : List Message). All (IsBagged bag) xs) (sym same) all

-- each message that was put is found by its number
abbrev IsOne : List Message → Message → Type 0
IsOne bag m = find (λ n. n.id.0 == m.id.0) bag ≡ Some m

put_found : (bag : List Message) (m : Message) → IsOne (put_in_bag bag m) m
put_found [] m = rw (same-self m.id.0) refl
put_found (x ∷ bag) m = one (x.id.0 == m.id.0) refl (put_found bag m)
  where
    one : (b : Bool) → (x.id.0 == m.id.0) ≡ b → IsOne (put_in_bag bag m) m → IsOne (put_in_bag (x ∷ bag) m) m
    one true e more = rw (e, same-self m.id.0) refl
    one false e more = rw (e, e) more

put_beside : (bag : List Message) (n m : Message) → (n.id.0 == m.id.0) ≡ false → find (λ k. k.id.0 == m.id.0) (put_in_bag bag n) ≡ find (λ k. k.id.0 == m.id.0) bag
put_beside [] n m other = rw other refl
put_beside (x ∷ bag) n m other = one (x.id.0 == n.id.0) refl (x.id.0 == m.id.0) refl (put_beside bag n m other)
  where
    one : (a : Bool) → (x.id.0 == n.id.0) ≡ a → (b : Bool) → (x.id.0 == m.id.0) ≡ b → find (λ k. k.id.0 == m.id.0) (put_in_bag bag n) ≡ find (λ k. k.id.0 == m.id.0) bag
        → find (λ k. k.id.0 == m.id.0) (put_in_bag (x ∷ bag) n) ≡ find (λ k. k.id.0 == m.id.0) (x ∷ bag)
    one true e true f more = absurd (let z : true ≡ false = grind (arith, nat_tests, e, f, other) in (cc))
    one true e false f more = rw (e, other, f) refl
    one false e true f more = rw (e, f) refl
    one false e false f more = rw (e, f) more

module _ (c : Cluster) (P : Message → Type 0) (alike : (m n : Message) → P m → P n → m.id ≡ n.id → m ≡ n) where
  stays : (ms : List Message) → Each P ms → (bag : List Message) (m : Message) → P m → IsOne bag m → IsOne (put_all bag ms) m
  stays [] all bag m is one = one
  stays (n ∷ ms) all bag m is one = stays ms all.1 (put_in_bag bag n) m is (next (n.id.0 == m.id.0) refl)
    where
      next : (b : Bool) → (n.id.0 == m.id.0) ≡ b → IsOne (put_in_bag bag n) m
      next true e =
          let number : n.id.0 ≡ m.id.0 = grind (arith, nat_tests, e) in
          subst (λ (k : Message). IsOne (put_in_bag bag n) k) (alike n m all.0 is (ap (λ (x : ℕ). record { 0 = x }) number)) (put_found bag n)
      next false e = put_beside bag n m e ∙ one

  each_one : (ms : List Message) → Each P ms → (bag : List Message) → Each (IsOne (put_all bag ms)) ms
  each_one [] all bag = tt
  each_one (m ∷ ms) all bag = (stays ms all.1 (put_in_bag bag m) m all.0 (put_found bag m), each_one ms all.1 (put_in_bag bag m))

all_bagged : (s : SceneState) → IsScene s → (i : InstanceId) (bag : List Message) → bag ≡ put_all s.bag (fetched s.board.cluster i).messages → All (IsBagged bag) (fetched s.board.cluster i).messages
all_bagged s is i bag put =
    let c = s.board.cluster in
    let k = kept_now s.spec (valid_in s is) (since s.board.cluster.line) (at s Missing) (stands_in s is Missing) in
    subst (λ (xs : List Message). All (IsBagged xs) (fetched s.board.cluster i).messages) (sym put)
    (each-all (IsBagged (put_all s.bag (fetched s.board.cluster i).messages)) (fetched s.board.cluster i).messages
    (each_one c (λ m. message_of c.mail m.session m.part ≡ Some m) (λ m n a b e. one_number c k m.session n.session m.part n.part m n a b e) (fetched s.board.cluster i).messages (mail_found c k (session_of c i)) s.bag))

pub mail_bagged : (s : SceneState) → IsScene s → (i : InstanceId) (mail : Mail) (bag ms : List Message) → mail ≡ fetched s.board.cluster i → ms ≡ mail.messages
    → bag ≡ put_all s.bag (fetched s.board.cluster i).messages → All (IsBagged bag) ms
mail_bagged s is i mail bag ms same all put =
    subst (λ (xs : List Message). All (IsBagged bag) xs) (sym (all ∙ ap (λ (m : Mail). m.messages) same)) (all_bagged s is i bag put)
