-- The open jobs of an instance end in order, and its participant adopts a session.
use Rattle.std.proofs.Common.{◌≡◌, ℕ, zero, suc, ◌+◌, ◌≤◌, ◌<◌, not, Bool, true, false, List, [], ◌∷◌, ◌++◌, filter, find, map, take, drop, length, get_or, Option, Some, None, refl, sym, ap, ◌∙◌, subst, add-one, arith}
use Rattle.std.specs.Prelude.{is_some, slice_get, slice_set, slice_index_or}
use Rattle.std.specs.List.{All, position}
use Rattle.std.specs.Option.{option_map, ForSome}
use Rattle.std.proofs.lemmas.List.{take_more, drop_more, map-set, get_or-map, length-map, take_all}
use Rattle.std.proofs.Math.Seq.{map-set_same}
use Rattle.std.proofs.lemmas.Option.{slice_get-map, slice_get_within, get_or_from_slice_get}
use Rattle.std.proofs.lemmas.List.Elements.{All-get_or, All-set, All-map}
use Rattle.hx_lists.specs.Lists.{sort_by}
use Rattle.hx_ids.specs.declared.InstanceId.{InstanceId}
use Rattle.hx_ids.specs.declared.SessionId.{SessionId}
use Rattle.hx_ids.specs.declared.MsgId.{MsgId}
use Rattle.hx_ids.specs.declared.PartId.{PartId}
use Rattle.hx_cluster.specs.declared.description.Failure.{Failure}
use Rattle.hx_cluster.specs.declared.happenings.Outcome.TheVariants as outcomes
use Rattle.hx_cluster.specs.Steps.{has_instance}
use Rattle.hx_handler.specs.Makings.{tried_of}
use Rattle.hx_replicas.specs.declared.slots.Work.TheVariants.{Out}
use Rattle.hx_replicas.specs.Participants.{Participant, Slot, new_participant, slot_of, any_out, finish, adopt, emptied}
use Rattle.hx_replicas.specs.Jobs.{ParticipantState, runs_of}
use Rattle.hx_replicas.proofs.Searching.{found-in, found-first, found-none, find-map}
use Rattle.hx_worlds.specs.World.{State, Job, Missing, participant_of}
use Rattle.hx_worlds.specs.Jobs.{is_job, is_job_of, job_before, end_job, end_jobs, jobs_of, adopted}
use Rattle.hx_scripted.proofs.Standing.{since}
use Rattle.hx_agreed.specs.InStep.{of_instance}
use Rattle.hx_safe.proofs.Ideals.{length-put}
use Rattle.hx_agreed.proofs.Changes.{instance_same}
use Rattle.hx_agreed.proofs.Operations.{IsOutOf, each_get, ended_none_out}
use Rattle.hx_scene.specs.Scenes.{OpenState, plain_job, new_staff, at}
use Rattle.hx_scene.specs.Doing.{IsBelow, IsRunsBelow}
use Rattle.hx_scene.specs.Kept.{IsListed}
use Rattle.hx_scene.specs.Ending.{CanEnd, AreOfScene, KeepsParts, Adopts, IsAtRest, ended_staff, plain_staff, staff_in, with_parts}
use Rattle.hx_scene.proofs.Standing.{valid_in, stands_in, participant_is, staff_has}
use Rattle.hx_scene.proofs.Outs.{AreOut, AreLeft, is_same_job, out_there, jobs_after, one_ended, none_out, left_first, left_next}

abbrev pub lists_in : List ParticipantState → List (Option (List Failure))
lists_in staff = map (λ p. p.listed) staff

-- the list around a place
map_parts : {X Y : Type 0} (f : X → Y) (xs : List X) (n : ℕ) (x : X) → slice_get xs n ≡ Some x → map f xs ≡ map f (take n xs) ++ f x ∷ map f (drop (suc n) xs)
map_parts f [] n x e = cc
map_parts f (y ∷ xs) zero x e = let same : y ≡ x = grind (arith, e) in ap (λ z. f z ∷ map f xs) same
map_parts f (y ∷ xs) (suc n) x e = ap (λ zs. f y ∷ zs) (map_parts f xs n x e)

map_around : {X Y : Type 0} (f : X → Y) (xs : List X) (n : ℕ) (x : X) → slice_get xs n ≡ Some x → map f xs ≡ map f (take n xs) ++ f x ∷ map f (drop (n + 1) xs)
map_around f xs n x e = rw add-one (map_parts f xs n x e)

map_parted : {X Y : Type 0} (f : X → Y) (xs ys : List X) → map f (xs ++ ys) ≡ map f xs ++ map f ys
map_parted f [] ys = refl
map_parted f (x ∷ xs) ys = ap (λ zs. f x ∷ zs) (map_parted f xs ys)

plain_in : (staff : List ParticipantState) (i : InstanceId) → i.0 < length staff → of_instance (plain_staff staff) i ≡ (staff_in staff i).plain
plain_in staff i lt = get_or-map (λ (p : ParticipantState). p.plain) staff i.0 new_staff new_participant lt

many_plain : (staff : List ParticipantState) → length (plain_staff staff) ≡ length staff
many_plain staff = length-map staff (λ (p : ParticipantState). p.plain)

held_some : (j : OpenState) → is_some (plain_job j).handler ≡ is_some j.ran.handler
held_some j = one j.ran.handler
  where
    one : (h : _) → is_some (runs_of h) ≡ is_some h
    one None = refl
    one (Some h) = refl

-- what holds while jobs end
pub record AreEnding (jobs : List OpenState) (staff : List ParticipantState) : Type 0 where
  pub out : AreOut (plain_staff staff) (map plain_job jobs)
  pub listed : All (IsListed (lists_in staff)) jobs

pub ending_first : (jobs : List OpenState) (staff : List ParticipantState) → AreOfScene jobs staff → AreEnding jobs staff
ending_first jobs staff of =
    let s = of.scene in
    subst (λ (js : List OpenState). AreEnding js staff) of.has_jobs (subst (λ (ps : List ParticipantState). AreEnding s.jobs ps) of.has_staff (record {
      out = out_there s.spec (valid_in s of.is) (since s.board.cluster.line) (at s Missing) (stands_in s of.is Missing);
      listed = of.is.listed;
    }))

-- any of them can end
module _ (jobs : List OpenState) (staff : List ParticipantState) (n : ℕ) (j : OpenState) (a : AreEnding jobs staff) (is : slice_get jobs n ≡ Some j) where
  is_plain : slice_get (map plain_job jobs) n ≡ Some (plain_job j)
  is_plain = slice_get-map plain_job jobs n ∙ ap (option_map plain_job) is

  here : j.instance.0 < length staff
  here = subst (λ m. j.instance.0 < m) (many_plain staff) (each_get (λ k. k.instance.0 < length (plain_staff staff)) (map plain_job jobs) n (plain_job j) a.out.range is_plain)

  pub can_end : CanEnd staff j
  can_end = record {
    instance = here;
    out = subst (λ (w : Participant). (slot_of w j.ran.message.part).work ≡ Out j.ran.message (is_some j.ran.handler)) (plain_in staff j.instance here)
        (subst (λ b. (slot_of (of_instance (plain_staff staff) j.instance) j.ran.message.part).work ≡ Out j.ran.message b) (held_some j)
        (each_get (IsOutOf (plain_staff staff)) (map plain_job jobs) n (plain_job j) a.out.out is_plain));
    listed = subst (λ l. ForSome j.ran.handler (λ h. h.listed ≡ l)) (get_or-map (λ (p : ParticipantState). p.listed) staff j.instance.0 new_staff None here)
        (subst (IsListed (lists_in staff)) (get_or_from_slice_get jobs n j j is) (All-get_or (IsListed (lists_in staff)) jobs n j (slice_get_within jobs n j is) a.listed));
  }

  module _ (later : List OpenState) (after : List ParticipantState) (left : later ≡ take n jobs ++ drop (n + 1) jobs)
      (plain : plain_staff after ≡ ended_staff j (plain_staff staff) (staff_in staff j.instance).plain) (kept : KeepsParts jobs later staff after) where
    jobs_are : map plain_job later ≡ map plain_job (take n jobs) ++ map plain_job (drop (n + 1) jobs)
    jobs_are = ap (map plain_job) left ∙ map_parted plain_job (take n jobs) (drop (n + 1) jobs)

    staff_are : (x : State) → plain_staff after ≡ (end_job (plain_job j) (with_parts jobs staff x)).world.participants
    staff_are x = plain ∙ ap (λ w. ended_staff j (plain_staff staff) w) (sym (plain_in staff j.instance here))

    pub ends_as : (x : State) → end_job (plain_job j) (with_parts jobs staff x) ≡ with_parts later after x
    ends_as x =
        ap (λ (js : List Job). record x { world = record x.world { participants = (end_job (plain_job j) (with_parts jobs staff x)).world.participants; jobs = js } })
        (jobs_after (with_parts jobs staff x) (map plain_job (take n jobs)) (map plain_job (drop (n + 1) jobs)) (plain_job j) (map_around plain_job jobs n j is) a.out ∙ sym jobs_are)
        ∙ ap (λ (ws : List Participant). record x { world = record x.world { participants = ws; jobs = map plain_job later } }) (sym (staff_are x))

    pub still_ending : State → AreEnding later after
    still_ending x = record {
      out = subst (λ (ws : List Participant). AreOut ws (map plain_job later)) (sym (staff_are x)) (subst (λ (js : List Job). AreOut (end_job (plain_job j) (with_parts jobs staff x)).world.participants js) (sym jobs_are)
          (one_ended (with_parts jobs staff x) (map plain_job (take n jobs)) (map plain_job (drop (n + 1) jobs)) (plain_job j) (map_around plain_job jobs n j is) a.out));
      listed = subst (λ l. All (IsListed l) later) (sym kept.lists) (kept.listed (lists_in staff) a.listed);
    }

    pub left_without : State → filter (λ k. not (is_same_job (plain_job j) k)) (map plain_job jobs) ≡ map plain_job later
    left_without x = ap (λ (y : State). y.world.jobs) (ends_as x)

    pub same_many : length after ≡ length staff
    same_many =
        sym (many_plain after) ∙ ap (λ (ws : List Participant). length ws) plain
        ∙ length-put (plain_staff staff) j.instance.0 (finish (staff_in staff j.instance).plain j.ran.message (Some j.ran.outcome) (runs_of j.ran.handler)) ∙ many_plain staff

-- what stands at a place
record Picked (jobs : List OpenState) (n : ℕ) : Type 0 where
  pub job : OpenState
  pub got : slice_get jobs n ≡ Some job
  pub at_n : job ≡ get_or jobs n job

pick : (jobs : List OpenState) (n : ℕ) → n < length jobs → Picked jobs n
pick [] n lt = absurd (omega arith)
pick (j ∷ jobs) zero lt = record { job = j; got = refl; at_n = refl }
pick (j ∷ jobs) (suc n) lt = let p = pick jobs n (omega arith) in record { job = p.job; got = p.got; at_n = p.at_n }

pub ending_next : (jobs : List OpenState) (staff : List ParticipantState) (n : ℕ) → AreEnding jobs staff → n < length jobs → (later : List OpenState) (after : List ParticipantState) → State
    → later ≡ take n jobs ++ drop (n + 1) jobs → ((j : OpenState) → slice_get jobs n ≡ Some j → plain_staff after ≡ ended_staff j (plain_staff staff) (staff_in staff j.instance).plain)
    → KeepsParts jobs later staff after → AreEnding later after
ending_next jobs staff n a lt later after x left plain kept =
    let p = pick jobs n lt in
    still_ending jobs staff n p.job a p.got later after left (plain p.job p.got) kept x

-- all ended
pub all_ended : (jobs : List OpenState) (staff : List ParticipantState) → AreEnding jobs staff → jobs ≡ [] → All IsAtRest staff
all_ended jobs staff a none k d lt =
    let out : AreOut (plain_staff staff) [] = subst (λ (js : List OpenState). AreOut (plain_staff staff) (map plain_job js)) none a.out in
    subst (λ (w : Participant). any_out w ≡ false) (get_or-map (λ (p : ParticipantState). p.plain) staff k d new_participant lt)
    (none_out (plain_staff staff) out (record { 0 = k }) (subst (λ n. k < n) (sym (many_plain staff)) lt))

-- what is kept, one after another
pub keeps_same : (jobs : List OpenState) (staff : List ParticipantState) → KeepsParts jobs jobs staff staff
keeps_same jobs staff = record { lists = refl; below = λ most b. b; listed = λ lists b. b }

pub keeps_then : {a b d : List OpenState} {p q r : List ParticipantState} → KeepsParts a b p q → KeepsParts b d q r → KeepsParts a d p r
keeps_then k l = record {
  lists = l.lists ∙ k.lists;
  below = λ most b. l.below most (k.below most b);
  listed = λ lists b. l.listed lists (k.listed lists b);
}

-- an instance's jobs, by number, the first of which have ended
abbrev pub those : InstanceId → List OpenState → List Job
those i jobs = sort_by job_before (filter (is_job_of i) (map plain_job jobs))

pub record IsAdopting (i : InstanceId) (first jobs : List OpenState) (before staff : List ParticipantState) (k : ℕ) : Type 0 where
  pub ended : (x : State) → end_jobs (take k (those i first)) (with_parts first before x) ≡ with_parts jobs staff x
  pub left : AreLeft i (drop k (those i first)) (map plain_job jobs)
  pub ending : AreEnding jobs staff
  pub kept : KeepsParts first jobs before staff
  pub many : length staff ≡ length before

pub adopting_first : (i : InstanceId) (jobs : List OpenState) (staff : List ParticipantState) → AreOfScene jobs staff → IsAdopting i jobs jobs staff staff 0
adopting_first i jobs staff of =
    let a = ending_first jobs staff of in
    record {
      ended = λ x. refl;
      left = left_first i (plain_staff staff) (map plain_job jobs) a.out;
      ending = a;
      kept = keeps_same jobs staff;
      many = refl;
    }

end_both : (js ks : List Job) (x : State) → end_jobs (js ++ ks) x ≡ end_jobs ks (end_jobs js x)
end_both [] ks x = refl
end_both (j ∷ js) ks x = end_both js ks (end_job j x)

place_below : (p : OpenState → Bool) (jobs : List OpenState) (n : ℕ) → position p jobs ≡ Some n → n < length jobs
place_below p [] n e = cc
place_below p (j ∷ jobs) n e = found-in p (j ∷ jobs) n j e

some_same : {X : Type 0} (x y : X) → Some x ≡ Some y → x ≡ y
some_same x y e = (cc)

module _ {i : InstanceId} {first jobs : List OpenState} {before staff : List ParticipantState} {k : ℕ} (a : IsAdopting i first jobs before staff k) (d : Job) (lt : k < length (those i first)) where
  abbrev pub coming : Job
  coming = slice_index_or (those i first) k d

  left_now : AreLeft i (coming ∷ drop (k + 1) (those i first)) (map plain_job jobs)
  left_now = subst (λ (js : List Job). AreLeft i js (map plain_job jobs)) (drop_more (those i first) k d lt) a.left

  test_is : (id : MsgId) → id ≡ coming.message.id → (λ (j : Job). is_job i id j) ≡ is_same_job coming
  test_is id e =
      ap (λ (m : MsgId). (λ (j : Job). is_job i m j)) e ∙ ap (λ (n : InstanceId). (λ (j : Job). is_job n coming.message.id j)) (sym (instance_same coming.instance i left_now.mine.0))

  found_now : (id : MsgId) → id ≡ coming.message.id → option_map plain_job (find (λ j. is_job i id (plain_job j)) jobs) ≡ Some coming
  found_now id e = sym (find-map plain_job (is_job i id) jobs) ∙ ap (λ (p : Job → Bool). find p (map plain_job jobs)) (test_is id e) ∙ left_now.found.0

  pub never_none : (id : MsgId) → id ≡ coming.message.id → position (λ j. is_job i id (plain_job j)) jobs ≡ None → true ≡ false
  never_none id e none =
      let no : ◌≡◌ {A = Option Job} None (Some coming) = ap (option_map plain_job) (sym (found-none (λ j. is_job i id (plain_job j)) jobs none)) ∙ found_now id e in (cc)

  module _ (id : MsgId) (named : id ≡ coming.message.id) (n : ℕ) (stands : position (λ j. is_job i id (plain_job j)) jobs ≡ Some n) where
    within : n < length jobs
    within = place_below (λ j. is_job i id (plain_job j)) jobs n stands

    the : Picked jobs n
    the = pick jobs n within

    is_it : plain_job the.job ≡ coming
    is_it = some_same (plain_job the.job) coming (ap (option_map plain_job) (sym (found-first (λ j. is_job i id (plain_job j)) jobs n the.job stands the.at_n)) ∙ found_now id named)

    pub next_place : n < length jobs
    next_place = within

    pub next_can : (j : OpenState) → slice_get jobs n ≡ Some j → CanEnd staff j
    next_can j e = can_end jobs staff n j a.ending e

    pub adopting_next : (later : List OpenState) (after : List ParticipantState) → State → later ≡ take n jobs ++ drop (n + 1) jobs
        → ((j : OpenState) → slice_get jobs n ≡ Some j → plain_staff after ≡ ended_staff j (plain_staff staff) (staff_in staff j.instance).plain) → KeepsParts jobs later staff after
        → IsAdopting i first later before after (k + 1)
    adopting_next later after x left plain kept = record {
      ended = λ y.
          ap (λ (js : List Job). end_jobs js (with_parts first before y)) (take_more (those i first) k d lt)
          ∙ end_both (take k (those i first)) (coming ∷ []) (with_parts first before y)
          ∙ ap (λ (z : State). end_job coming z) (a.ended y)
          ∙ ap (λ (j : Job). end_job j (with_parts jobs staff y)) (sym is_it)
          ∙ ends_as jobs staff n the.job a.ending the.got later after left (plain the.job the.got) kept y;
      left = subst (λ (js : List Job). AreLeft i (drop (k + 1) (those i first)) js)
          (ap (λ (j : Job). filter (λ k. not (is_same_job j k)) (map plain_job jobs)) (sym is_it) ∙ left_without jobs staff n the.job a.ending the.got later after left (plain the.job the.got) kept x)
          (left_next i coming (drop (k + 1) (those i first)) (map plain_job jobs) left_now);
      ending = still_ending jobs staff n the.job a.ending the.got later after left (plain the.job the.got) kept x;
      kept = keeps_then a.kept kept;
      many = same_many jobs staff n the.job a.ending the.got later after left (plain the.job the.got) kept ∙ a.many;
    }

-- the participant is at rest then, and adopts the session
module _ {i : InstanceId} {first jobs : List OpenState} {before staff : List ParticipantState} {k : ℕ} (of : AreOfScene first before) (a : IsAdopting i first jobs before staff k)
    (past : length (those i first) ≤ k) (there : i.0 < length before) (p q : ParticipantState) (was : p ≡ slice_index_or staff i.0 p) where
  all : (x : State) → end_jobs (those i first) (with_parts first before x) ≡ with_parts jobs staff x
  all x = ap (λ (js : List Job). end_jobs js (with_parts first before x)) (sym (take_all k (those i first) past)) ∙ a.ended x

  lt : i.0 < length staff
  lt = subst (λ n. i.0 < n) (sym a.many) there

  plain_is : of_instance (plain_staff staff) i ≡ p.plain
  plain_is = participant_is staff i p lt was

  scene_is : with_parts first before (at of.scene Missing) ≡ at of.scene Missing
  scene_is =
      ap (λ (js : List OpenState). with_parts js before (at of.scene Missing)) (sym of.has_jobs) ∙ ap (λ (ps : List ParticipantState). with_parts of.scene.jobs ps (at of.scene Missing)) (sym of.has_staff)

  has_it : has_instance of.scene.board.cluster i ≡ true
  has_it = staff_has of.scene of.is i (subst (λ (ps : List ParticipantState). i.0 < length ps) (sym of.has_staff) there)

  pub rests : any_out p.plain ≡ false
  rests =
      let none = ended_none_out of.scene.spec (valid_in of.scene of.is) (since of.scene.board.cluster.line) i (at of.scene Missing) (stands_in of.scene of.is Missing) has_it in
      let same : end_jobs (jobs_of i (at of.scene Missing)) (at of.scene Missing) ≡ with_parts jobs staff (at of.scene Missing) =
      ap (λ (x : State). end_jobs (jobs_of i x) x) (sym scene_is) ∙ all (at of.scene Missing) in
      subst (λ (w : Participant). any_out w ≡ false) plain_is (subst (λ (x : State). any_out (participant_of x.world i) ≡ false) same none)

  pub adopts : (session : Option SessionId) → q.plain ≡ adopt p.plain session → Adopts i session first jobs before (slice_set staff i.0 q)
  adopts session plain x =
      ap (λ (y : State). adopted i session y) (all x)
      ∙ ap (λ (ws : List Participant). record x { world = record x.world { participants = ws; jobs = map plain_job jobs } })
      (ap (λ (w : Participant). slice_set (plain_staff staff) i.0 (adopt w session)) plain_is ∙ ap (λ (w : Participant). slice_set (plain_staff staff) i.0 w) (sym plain)
      ∙ sym (map-set (λ (p : ParticipantState). p.plain) staff i.0 q))

  adopted_below : (session : Option SessionId) (most : ℕ) → q.plain ≡ adopt p.plain session → q.made ≡ p.made → IsBelow most p → IsBelow most q
  adopted_below session most plain made old = record {
    made = subst (λ n. n ≤ most) (sym made) old.made;
    tried = subst (λ (w : Participant). (r : PartId) → tried_of w.tried r ≤ most) (sym plain) old.tried;
    runs = subst (λ (w : Participant). All (λ (x : Slot). IsRunsBelow most x.handler) w.slots) (sym plain)
        (All-map (λ (x : Slot). IsRunsBelow most x.handler) emptied p.plain.slots (λ k d lt. tt));
  }

  pub adopted_keeps : (session : Option SessionId) → q.plain ≡ adopt p.plain session → q.made ≡ p.made → q.listed ≡ p.listed → KeepsParts first jobs before (slice_set staff i.0 q)
  adopted_keeps session plain made listed = keeps_then a.kept (record {
    lists = map-set_same (λ (p : ParticipantState). p.listed) staff i.0 q p (listed ∙ ap (λ (p : ParticipantState). p.listed) was);
    below = λ most all.
        (All-set (IsBelow most) staff i.0 q (adopted_below session most plain made (subst (IsBelow most) (sym was) (All-get_or (IsBelow most) staff i.0 p lt all.0))) all.0, all.1);
    listed = λ lists all. all;
  })

-- the numbers of those jobs
abbrev pub no_job : Job
no_job = record {
  instance = record { 0 = 0 };
  message = record { id = record { 0 = 0 }; session = record { 0 = 0 }; part = record { resource = record { 0 = 0 }; index = 0 }; from = record { 0 = 0 }; to = record { 0 = 0 }; initial = record { 0 = 0 }; epoch = record { 0 = 0 }; taken = false; written = false };
  handler = None;
  outcome = outcomes.Ok;
  is_written = false;
}

many_numbers : (numbers : List MsgId) (js : List Job) → numbers ≡ map (λ j. j.message.id) js → length numbers ≡ length js
many_numbers numbers js is = ap (λ (ns : List MsgId). length ns) is ∙ length-map js (λ (j : Job). j.message.id)

number_at : (numbers : List MsgId) (js : List Job) (k : ℕ) (z : MsgId) → numbers ≡ map (λ j. j.message.id) js → k < length js → get_or numbers k z ≡ (slice_index_or js k no_job).message.id
number_at numbers js k z is lt = ap (λ (ns : List MsgId). get_or ns k z) is ∙ get_or-map (λ (j : Job). j.message.id) js k no_job z lt

-- an id is the number of a place among those jobs
pub record IsNumber (i : InstanceId) (first : List OpenState) (k : ℕ) (id : MsgId) : Type 0 where
  pub within : k < length (those i first)
  pub named : id ≡ (slice_index_or (those i first) k no_job).message.id

pub number_is : {i : InstanceId} {first : List OpenState} {numbers : List MsgId} (k : ℕ) (z : MsgId) → numbers ≡ map (λ j. j.message.id) (those i first) → k < length numbers → IsNumber i first k (get_or numbers k z)
number_is {i} {first} {numbers} k z is lt =
    let same = many_numbers numbers (those i first) is in
    let within : k < length (those i first) = omega (arith, same, lt) in
    record { within = within; named = number_at numbers (those i first) k z is within }

pub all_numbers : (i : InstanceId) (first : List OpenState) {numbers : List MsgId} (k : ℕ) → numbers ≡ map (λ j. j.message.id) (those i first) → length numbers ≤ k → length (those i first) ≤ k
all_numbers i first {numbers} k is past = let same = many_numbers numbers (those i first) is in omega (arith, same, past)
