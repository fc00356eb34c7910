-- What a write of an open job comes to in a scene, and that it keeps it.
use Rattle.std.proofs.Common.{◌≡◌, ℕ, zero, suc, ◌≤◌, ◌<◌, Bool, true, false, List, [], ◌∷◌, ◌++◌, map, find, length, Option, None, Some, refl, sym, ap, subst, ◌∙◌, arith}
use Rattle.std.specs.Prelude.{if◌then◌else◌, ◌==◌, is_none, position, slice_get, slice_set, slice_index_or}
use Rattle.std.specs.Option.{option_map}
use Rattle.std.proofs.lemmas.List.{map-set, get_or_read}
use Rattle.std.proofs.lemmas.List.Elements.{All-set, All-get_or}
use Rattle.std.proofs.lemmas.Option.{slice_get_read, slice_get-map}
use Rattle.hx_lists.specs.Lists.{count}
use Rattle.hx_ids.specs.declared.InstanceId.{InstanceId}
use Rattle.hx_ids.specs.declared.MsgId.{MsgId}
use Rattle.hx_ids.specs.declared.SessionId.{SessionId}
use Rattle.hx_cluster.specs.declared.happenings.Outcome.{Outcome}
use Rattle.hx_cluster.specs.declared.happenings.Event.{Event}
use Rattle.hx_cluster.specs.declared.happenings.Event.TheVariants as events
use Rattle.hx_cluster.specs.declared.happenings.WriteRefusal.{WriteRefusal}
use Rattle.hx_cluster.specs.Events.{can_write}
use Rattle.hx_cluster.specs.Marks.{write_refusal}
use Rattle.hx_print.specs.declared.Note.TheVariants as notes
use Rattle.hx_text.specs.Texts.{PutsFront}
use Rattle.hx_board.specs.Board.{Held, HasHistory, happened as on_board}
use Rattle.hx_replicas.proofs.Searching.{find-map, found-in, found-first, found-none}
use Rattle.hx_safe.proofs.Ends.{same-self}
use Rattle.hx_safe.proofs.Counting.{and-both}
use Rattle.hx_scripted.proofs.Standing.{since}
use Rattle.hx_agreed.specs.InStep.{IsHeldJob}
use Rattle.hx_agreed.proofs.Going.{each-find}
use Rattle.hx_agreed.proofs.Operations.{write_keeps}
use Rattle.hx_worlds.specs.World.{Answers, Job}
use Rattle.hx_worlds.specs.declared.Voice.{Voice}
use Rattle.hx_worlds.specs.declared.Voice.TheVariants.{Quiet}
use Rattle.hx_worlds.specs.Runs.{GoesOn, done, and_then, make, note, items_of}
use Rattle.hx_worlds.specs.Items.{Happens}
use Rattle.hx_worlds.specs.Jobs.{do_write, write_job, is_job, as_written_job, with_written, end_job}
use Rattle.hx_scene.specs.Scenes.{SceneState, OpenState, plain_job, world_of, at, lists_of}
use Rattle.hx_scene.specs.Heard.{entry_heard}
use Rattle.hx_scene.specs.Doing.{IsRunsBelow, Keeps, Reaches, Ends, IsCut}
use Rattle.hx_scene.specs.Kept.{IsScene, IsListed}
use Rattle.hx_scene.proofs.Reaching.{at_happened, event_cut, event_ends, here, reaches_as, kept_going, keeps_unasked}
use Rattle.hx_scene.proofs.Standing.{valid_in}
use Rattle.hx_scene.proofs.Making.{Makes, makes_as}

-- the only one of a list that passes a test is mapped
module _ {X : Type 0} (p : X → Bool) (f : X → X) where
  abbrev mapped : X → X
  mapped x = if p x then f x else x

  map_none : (xs : List X) → count p xs ≡ 0 → map mapped xs ≡ xs
  map_none [] e = refl
  map_none (x ∷ xs) e = one (p x) refl (map_none xs)
    where
      one : (b : Bool) → p x ≡ b → (count p xs ≡ 0 → map mapped xs ≡ xs) → map mapped (x ∷ xs) ≡ x ∷ xs
      one true is more = absurd (let z : true ≡ false = grind (arith, is, e) in (cc))
      one false is more = rw is (ap (λ (ys : List X). x ∷ ys) (more (grind (arith, is, e))))

  some_one : (xs : List X) (n : ℕ) (x : X) → slice_get xs n ≡ Some x → p x ≡ true → 1 ≤ count p xs
  some_one [] n x got here = cc
  some_one (y ∷ xs) zero x got here =
      let same : y ≡ x = cc in
      let yes : p y ≡ true = ap p same ∙ here in
      grind (arith, yes)
  some_one (y ∷ xs) (suc n) x got here = one (p y) refl (some_one xs n x got here)
    where
      one : (b : Bool) → p y ≡ b → 1 ≤ count p xs → 1 ≤ count p (y ∷ xs)
      one true is more = grind (arith, is)
      one false is more = grind (arith, is, more)

  map_one : (xs : List X) (n : ℕ) (x : X) → slice_get xs n ≡ Some x → p x ≡ true → count p xs ≡ 1 → map mapped xs ≡ slice_set xs n (f x)
  map_one [] n x got here only = cc
  map_one (y ∷ xs) zero x got here only =
      let same : y ≡ x = cc in
      let yes : p y ≡ true = ap p same ∙ here in
      let none : count p xs ≡ 0 = grind (arith, yes, only) in
      rw yes (ap (λ z. f z ∷ map mapped xs) same ∙ ap (λ ys. f x ∷ ys) (map_none xs none))
  map_one (y ∷ xs) (suc n) x got here only = one (p y) refl (some_one xs n x got here) (map_one xs n x got here)
    where
      one : (b : Bool) → p y ≡ b → 1 ≤ count p xs → (count p xs ≡ 1 → map mapped xs ≡ slice_set xs n (f x)) → map mapped (y ∷ xs) ≡ slice_set (y ∷ xs) (suc n) (f x)
      one true is many more = absurd (let z : true ≡ false = grind (arith, is, many, only) in (cc))
      one false is many more = rw is (ap (λ (ys : List X). y ∷ ys) (more (grind (arith, is, only))))

-- an open job of a scene stands at a place
pub record StandsAt (s : SceneState) (i : InstanceId) (id : MsgId) (n : ℕ) (j : OpenState) : Type 0 where
  pub scene : IsScene s
  pub place : position (λ k. is_job i id (plain_job k)) s.jobs ≡ Some n
  pub here : j ≡ slice_index_or s.jobs n j

abbrev pub is_that : OpenState → Job → Bool
is_that j k = is_job j.instance j.ran.message.id k

is_that-self : (j : OpenState) → is_that j (plain_job j) ≡ true
is_that-self j =
    and-both (j.instance.0 == j.instance.0) (j.ran.message.id.0 == j.ran.message.id.0) (same-self j.instance.0) (same-self j.ran.message.id.0)

pub not_found : (s : SceneState) (i : InstanceId) (id : MsgId) → position (λ k. is_job i id (plain_job k)) s.jobs ≡ None → find (is_job i id) (world_of s).jobs ≡ None
not_found s i id none = find-map plain_job (is_job i id) s.jobs ∙ ap (option_map plain_job) (found-none (λ k. is_job i id (plain_job k)) s.jobs none)

below_place : (p : OpenState → Bool) (jobs : List OpenState) (n : ℕ) → position p jobs ≡ Some n → n < length jobs
below_place p [] n e = cc
below_place p (j ∷ jobs) n e = found-in p (j ∷ jobs) n j e

pub place_within : (s : SceneState) (i : InstanceId) (id : MsgId) (n : ℕ) → position (λ k. is_job i id (plain_job k)) s.jobs ≡ Some n → n < length s.jobs
place_within s i id n e = below_place (λ k. is_job i id (plain_job k)) s.jobs n e

abbrev written_job : OpenState → OpenState
written_job j = record j { is_written = true }

abbrev pub written_scene : SceneState → ℕ → OpenState → Event → SceneState
written_scene s n j e = record s { board = on_board s.board e; jobs = slice_set s.jobs n (record j { is_written = true }) }

module _ {s : SceneState} {i : InstanceId} {id : MsgId} {n : ℕ} {j : OpenState} (h : StandsAt s i id n j) where
  pub within : n < length s.jobs
  within = place_within s i id n h.place

  pub got : slice_get s.jobs n ≡ Some j
  got = slice_get_read s.jobs (length s.jobs) n j refl within h.here

  pub found : find (is_job i id) (world_of s).jobs ≡ Some (plain_job j)
  found = find-map plain_job (is_job i id) s.jobs ∙ ap (option_map plain_job) (found-first (λ k. is_job i id (plain_job k)) s.jobs n j h.place h.here)

  only : count (is_that j) (world_of s).jobs ≡ 1
  only = (each-find (IsHeldJob s.board.cluster (world_of s).participants (world_of s).jobs) (is_job i id) (world_of s).jobs (plain_job j) h.scene.in_step.parts.held found).only

  jobs_written : map (as_written_job j.instance j.ran.message.id) (world_of s).jobs ≡ map plain_job (slice_set s.jobs n (written_job j))
  jobs_written =
      map_one (is_that j) (λ k. record k { is_written = true }) (world_of s).jobs n (plain_job j) (slice_get-map plain_job s.jobs n ∙ ap (option_map plain_job) got) (is_that-self j) only
      ∙ sym (map-set plain_job s.jobs n (written_job j))

  abbrev event : Event
  event = events.Write j.ran.message.session j.ran.message.id j.ran.outcome

  write_goes : (v : Voice) (a : Answers) → j.is_written ≡ false → write_refusal s.board.cluster j.ran.message.session j.ran.message.id ≡ None
      → do_write v i id (at s a) ≡ GoesOn (Happens event ∷ []) (at (written_scene s n j event) a) tt
  write_goes v a unwritten free =
      let k = plain_job j in
      let x = at s a in
      let t : SceneState = record s { board = on_board s.board event } in
      let can : can_write s.board.cluster k.message.session k.message.id ≡ true = ap (λ (z : Option WriteRefusal). is_none z) free in
      ap (λ o. write_job v o x) found
      ∙ ap (λ (b : Bool). if b then note v notes.NoJob x else if can_write s.board.cluster k.message.session k.message.id then and_then (make event x) (λ y. done (with_written k.instance k.message.id y)) else note v notes.SessionEnded (end_job k x)) unwritten
      ∙ ap (λ (b : Bool). if b then and_then (make event x) (λ y. done (with_written k.instance k.message.id y)) else note v notes.SessionEnded (end_job k x)) can
      ∙ ap (λ y. GoesOn (Happens event ∷ []) (with_written k.instance k.message.id y) tt) (at_happened event s t a refl)
      ∙ ap (λ js. GoesOn (Happens event ∷ []) (record { world = record (world_of t) { jobs = js }; answers = a }) tt) jobs_written

  keeps_written : Keeps s (written_scene s n j event) []
  keeps_written = keeps_unasked refl refl refl (λ c. record {
    few = c.few;
    staff = c.staff;
    jobs = All-set (λ k. IsRunsBelow s.handed (plain_job k).handler) s.jobs n (written_job j)
        (subst (λ (k : OpenState). IsRunsBelow s.handed (plain_job k).handler) (sym h.here) (All-get_or (λ k. IsRunsBelow s.handed (plain_job k).handler) s.jobs n j within c.jobs)) c.jobs;
  })

  write_ends : (v : Voice) → j.is_written ≡ false → write_refusal s.board.cluster j.ran.message.session j.ran.message.id ≡ None → (p q : List ℕ) → q ≡ p ++ entry_heard s event
      → Ends (λ x. do_write v i id x) s p tt (written_scene s n j event) q
  write_ends v unwritten free p q text =
      event_ends (λ x. do_write v i id x) event tt [] s (written_scene s n j event) p q (λ a _. write_goes v a unwritten free) refl refl keeps_written text

  write_cut : (v : Voice) → j.is_written ≡ false → write_refusal s.board.cluster j.ran.message.session j.ran.message.id ≡ None → (p q : List ℕ) → PutsFront (entry_heard s event) p q
      → IsCut (λ x. do_write v i id x) s p (written_scene s n j event) q
  write_cut v unwritten free p q front =
      event_cut (λ x. do_write v i id x) event [] s (written_scene s n j event) p q (λ a _. ([], ap items_of (write_goes v a unwritten free))) refl refl keeps_written front

  write_scene : j.is_written ≡ false → write_refusal s.board.cluster j.ran.message.session j.ran.message.id ≡ None → HasHistory (on_board s.board event) → IsScene (written_scene s n j event)
  write_scene unwritten free history =
      let kept = kept_going {spec = s.spec} (write_ends Quiet unwritten free [] (entry_heard s event) refl) h.scene.of_history h.scene.in_step
      (λ a st. write_keeps s.spec (valid_in s h.scene) (since s.board.cluster.line) Quiet i id (at s a) st) in
      record {
        own = h.scene.own;
        history = history;
        of_history = kept.0;
        in_step = kept.1;
        listed = All-set (IsListed (lists_of s)) s.jobs n (written_job j) (subst (IsListed (lists_of s)) (sym h.here) (All-get_or (IsListed (lists_of s)) s.jobs n j within h.scene.listed)) h.scene.listed;
      }

  -- it was written before
  pub written_before : (v : Voice) (p : List ℕ) → j.is_written ≡ true → Reaches (λ x. do_write v i id x) s p (λ x. note v notes.NoJob x) s p
  written_before v p written =
      reaches_as
      (λ a. ap (λ o. write_job v o (at s a)) found
      ∙ ap (λ (b : Bool). if b then note v notes.NoJob (at s a) else if can_write s.board.cluster j.ran.message.session j.ran.message.id then and_then (make event (at s a)) (λ y. done (with_written j.instance j.ran.message.id y)) else note v notes.SessionEnded (end_job (plain_job j) (at s a))) written)
      (here (λ x. note v notes.NoJob x) s p)

pub write_none : (s : SceneState) (i : InstanceId) (id : MsgId) → position (λ k. is_job i id (plain_job k)) s.jobs ≡ None → (v : Voice) (p : List ℕ)
    → Reaches (λ x. do_write v i id x) s p (λ x. note v notes.NoJob x) s p
write_none s i id none v p = reaches_as (λ a. ap (λ o. write_job v o (at s a)) (not_found s i id none)) (here (λ x. note v notes.NoJob x) s p)

-- by what the calls told
pub place_is : (jobs : List OpenState) (i : InstanceId) (id : MsgId) (js : List OpenState) (o r : Option ℕ) → js ≡ jobs → r ≡ position (λ k. is_job i id (plain_job k)) js → r ≡ o
    → position (λ k. is_job i id (plain_job k)) jobs ≡ o
place_is jobs i id js o r same at_r is = ap (λ ks. position (λ k. is_job i id (plain_job k)) ks) (sym same) ∙ sym at_r ∙ is

pub found_nowhere : (s : SceneState) {js : List OpenState} {r : Option ℕ} (i : InstanceId) (id : MsgId) → js ≡ s.jobs → r ≡ position (λ k. is_job i id (plain_job k)) js → r ≡ None
    → position (λ k. is_job i id (plain_job k)) s.jobs ≡ None
found_nowhere s {js} {r} i id same at_r is = place_is s.jobs i id js None r same at_r is

pub found_within : (s : SceneState) {js : List OpenState} {r : Option ℕ} (i : InstanceId) (id : MsgId) (n : ℕ) → js ≡ s.jobs → r ≡ position (λ k. is_job i id (plain_job k)) js → r ≡ Some n → n < length s.jobs
found_within s {js} {r} i id n same at_r is = place_within s i id n (place_is s.jobs i id js (Some n) r same at_r is)

pub stands_found : {s : SceneState} {js : List OpenState} {r : Option ℕ} {j : OpenState} (i : InstanceId) (id : MsgId) (n : ℕ) → IsScene s → js ≡ s.jobs
    → r ≡ position (λ k. is_job i id (plain_job k)) js → r ≡ Some n → j ≡ slice_index_or s.jobs n j → StandsAt s i id n j
stands_found {s} {js} {r} i id n scene same at_r is here = record { scene = scene; place = place_is s.jobs i id js (Some n) r same at_r is; here = here }

pub mark_is : {j k : OpenState} {b : Bool} → k ≡ j → k.is_written ≡ b → j.is_written ≡ b
mark_is same is = ap (λ (z : OpenState). z.is_written) (sym same) ∙ is

event_is : (j : OpenState) (s : SessionId) (id : MsgId) (o : Outcome) → s ≡ j.ran.message.session → id ≡ j.ran.message.id → o ≡ j.ran.outcome
    → events.Write s id o ≡ events.Write j.ran.message.session j.ran.message.id j.ran.outcome
event_is j s id o session number outcome =
    ap (λ (z : SessionId). events.Write z id o) session ∙ ap (λ (z : MsgId). events.Write j.ran.message.session z o) number
    ∙ ap (λ (z : Outcome). events.Write j.ran.message.session j.ran.message.id z) outcome

pub refusal_is : {R : Type 0} (refusal : SessionId → MsgId → R) (j : OpenState) (s : SessionId) (id : MsgId) (r : R) → s ≡ j.ran.message.session → id ≡ j.ran.message.id → refusal s id ≡ r
    → refusal j.ran.message.session j.ran.message.id ≡ r
refusal_is refusal j s id r session number is = ap (λ (z : MsgId). refusal j.ran.message.session z) (sym number) ∙ ap (λ (z : SessionId). refusal z id) (sym session) ∙ is

-- the board was changed, and the job at a place marked
abbrev pub marked_scene : SceneState → ℕ → Held → OpenState → SceneState
marked_scene s n board k = record s { board = board; jobs = slice_set s.jobs n (record k { is_written = true }) }

written_is : (s : SceneState) (n : ℕ) (j k l : OpenState) (board : Held) (e : Event) → n < length s.jobs → j ≡ slice_index_or s.jobs n j → l ≡ slice_index_or s.jobs n l → k ≡ l → board ≡ on_board s.board e
    → marked_scene s n board k ≡ written_scene s n j e
written_is s n j k l board e lt here there same is =
    ap (λ (z : Held). marked_scene s n z k) is ∙ ap (λ (z : OpenState). marked_scene s n (on_board s.board e) z) (same ∙ get_or_read s.jobs n l lt there j ∙ sym here)

pub write_makes : {s : SceneState} {i : InstanceId} {id : MsgId} {n : ℕ} {j k l : OpenState} {session : SessionId} {number : MsgId} {outcome : Outcome} {board : Held} → StandsAt s i id n j → (v : Voice)
    → j.is_written ≡ false → session ≡ j.ran.message.session → number ≡ j.ran.message.id → outcome ≡ j.ran.outcome → write_refusal s.board.cluster session number ≡ None
    → board ≡ on_board s.board (events.Write session number outcome) → l ≡ slice_index_or s.jobs n l → k ≡ l
    → Makes (λ x. do_write v i id x) (events.Write j.ran.message.session j.ran.message.id j.ran.outcome) s board (marked_scene s n board k)
write_makes {s} {i} {id} {n} {j} {k} {l} {session} {number} {outcome} {board} h v unwritten same_session same_number same_outcome free is there same =
    let made : board ≡ on_board s.board (event h) = is ∙ ap (λ (z : Event). on_board s.board z) (event_is j session number outcome same_session same_number same_outcome) in
    let refused = refusal_is (λ (z : SessionId) (m : MsgId). write_refusal s.board.cluster z m) j session number None same_session same_number free in
    makes_as (written_is s n j k l board (event h) (within h) h.here there same made) made refl (write_ends h v unwritten refused) (write_cut h v unwritten refused) (write_scene h unwritten refused)
