-- Open jobs are out, and end one after another.
use Rattle.std.proofs.Common.{◌≡◌, suc, ◌≤◌, ◌<◌, ◌&&◌, ◌||◌, ◌==◌, not, Bool, true, false, List, [], ◌∷◌, ◌++◌, filter, find, map, length, Some, inl, inr, refl, sym, ap, ◌∙◌, subst, append_assoc, arith}
use Rattle.std.specs.Prelude.{is_some, slice_index_or, ◌⊎◌}
use Rattle.std.specs.List.{list_any}
use Rattle.std.proofs.lemmas.Bool.Decides.{nat_tests}
use Rattle.hx_lists.specs.Lists.{count, insert_by, sort_by}
use Rattle.hx_ids.specs.declared.InstanceId.{InstanceId}
use Rattle.hx_ids.specs.declared.PartId.{PartId}
use Rattle.hx_cluster.specs.declared.description.Spec.{Spec}
use Rattle.hx_cluster.specs.Ends.{part_eq}
use Rattle.hx_cluster.specs.Valid.{IsValid}
use Rattle.hx_replicas.specs.declared.slots.Work.TheVariants.{Out}
use Rattle.hx_replicas.specs.Participants.{Participant, Slot, new_participant, slot_of, is_out, any_out, finish}
use Rattle.hx_replicas.specs.Layout.{AreDistinct}
use Rattle.hx_worlds.specs.World.{State, Job, participant_of}
use Rattle.hx_worlds.specs.Jobs.{is_job, is_job_of, job_before, end_job}
use Rattle.hx_safe.proofs.Counting.{and-first, and-second, and-both, any-append, none-from-all, count-filter}
use Rattle.hx_safe.proofs.Ends.{same-self, find-filter_kept}
use Rattle.hx_safe.proofs.Ideals.{length-put}
use Rattle.hx_lawful.proofs.Sorting.{count-sort}
use Rattle.hx_scripted.proofs.Standing.{Last}
use Rattle.hx_agreed.specs.InStep.{Each, of_instance, IsHeldJob}
use Rattle.hx_agreed.proofs.Lists.{each-le, each-filter, in_range}
use Rattle.hx_agreed.proofs.Slots.{all_slots}
use Rattle.hx_agreed.proofs.Replicas.{others_put}
use Rattle.hx_agreed.proofs.Fetching.{distinct_left}
use Rattle.hx_agreed.proofs.DoingTurns.{Stands}
use Rattle.hx_agreed.proofs.Operations.{IsOutOf, each_mid, one_out, was_out, finished_here, others_out, jobs_out, job_of_part}

abbrev pub is_same_job : Job → Job → Bool
is_same_job j k = is_job j.instance j.message.id k

pub self_same : (j : Job) → is_same_job j j ≡ true
self_same j = and-both (j.instance.0 == j.instance.0) (j.message.id.0 == j.message.id.0) (same-self j.instance.0) (same-self j.message.id.0)

-- each is the only one of its number, and out; and each part that is out has one
pub record AreOut (ws : List Participant) (jobs : List Job) : Type 0 where
  pub only : Each (λ j. count (is_same_job j) jobs ≡ 1) jobs
  pub out : Each (IsOutOf ws) jobs
  pub range : Each (λ j. j.instance.0 < length ws) jobs
  pub cover : (i : InstanceId) (q : PartId) → i.0 < length ws → is_out (slot_of (of_instance ws i) q).work ≡ true → list_any (λ j. is_job_of i j && part_eq j.message.part q) jobs ≡ true
  pub distinct : (i : InstanceId) → i.0 < length ws → AreDistinct (map (λ x. x.part) (of_instance ws i).slots)

any-filter : {X : Type 0} (p k : X → Bool) (xs : List X) → list_any p (filter k xs) ≡ list_any (λ x. k x && p x) xs
any-filter p k [] = refl
any-filter p k (x ∷ xs) = one (k x) refl (any-filter p k xs)
  where
    one : (b : Bool) → k x ≡ b → list_any p (filter k xs) ≡ list_any (λ y. k y && p y) xs → list_any p (filter k (x ∷ xs)) ≡ list_any (λ y. k y && p y) (x ∷ xs)
    one true e more = rw e (ap (λ b. p x || b) more)
    one false e more = rw e more

out_in_range : (ws : List Participant) (j : Job) → IsOutOf ws j → j.instance.0 < length ws
out_in_range ws j out = one (in_range ws j.instance.0)
  where
    one : (j.instance.0 < length ws) ⊎ (slice_index_or ws j.instance.0 new_participant ≡ new_participant) → j.instance.0 < length ws
    one (inl lt) = lt
    one (inr new) =
        let idle : (slot_of new_participant j.message.part).work ≡ Out j.message (is_some j.handler) = subst (λ (w : Participant). (slot_of w j.message.part).work ≡ Out j.message (is_some j.handler)) new out in
        absurd (let z : false ≡ true = ap is_out idle in (cc))

pub out_there : (spec : Spec) (valid : IsValid spec) (last : Last) (x : State) → Stands spec last x → AreOut x.world.participants x.world.jobs
out_there spec valid last x s =
    let out = jobs_out spec valid last x s in
    record {
      only = each-le (IsHeldJob x.world.cluster x.world.participants x.world.jobs) (λ j. count (is_same_job j) x.world.jobs ≡ 1) (λ j h. h.only) x.world.jobs s.in_step.parts.held;
      out = out;
      range = each-le (IsOutOf x.world.participants) (λ j. j.instance.0 < length x.world.participants) (λ j o. out_in_range x.world.participants j o) x.world.jobs out;
      cover = λ i q lt is. sym (any-filter (λ j. part_eq j.message.part q) (is_job_of i) x.world.jobs) ∙ job_of_part spec valid last i q x s is;
      distinct = λ i lt. (s.in_step.parts.each i).distinct;
    }

-- another one's jobs are no job's of this one
apart : (j m y : Job) → not (is_same_job j m) ≡ true → is_same_job m y ≡ true → not (is_same_job j y) ≡ true
apart j m y other same = one (is_same_job j y) refl
  where
    one : (b : Bool) → is_same_job j y ≡ b → not b ≡ true
    one false e = refl
    one true e =
        let a = and-first (y.instance.0 == j.instance.0) (y.message.id.0 == j.message.id.0) e in
        let b = and-second (y.instance.0 == j.instance.0) (y.message.id.0 == j.message.id.0) e in
        let c = and-first (y.instance.0 == m.instance.0) (y.message.id.0 == m.message.id.0) same in
        let d = and-second (y.instance.0 == m.instance.0) (y.message.id.0 == m.message.id.0) same in
        let f : (m.instance.0 == j.instance.0) ≡ true = grind (arith, nat_tests, a, c) in
        let g : (m.message.id.0 == j.message.id.0) ≡ true = grind (arith, nat_tests, b, d) in
        absurd (let z : true ≡ false = sym other ∙ ap not (and-both (m.instance.0 == j.instance.0) (m.message.id.0 == j.message.id.0) f g) in (cc))

count-kept : {X : Type 0} (p k : X → Bool) → ((x : X) → p x ≡ true → k x ≡ true) → (xs : List X) → count p (filter k xs) ≡ count p xs
count-kept p k h [] = refl
count-kept p k h (x ∷ xs) = one (k x) refl (p x) refl (count-kept p k h xs)
  where
    one : (a : Bool) → k x ≡ a → (b : Bool) → p x ≡ b → count p (filter k xs) ≡ count p xs → count p (filter k (x ∷ xs)) ≡ count p (x ∷ xs)
    one true e true f more = rw (e, f) (ap suc more)
    one true e false f more = rw (e, f) more
    one false e true f more = absurd (let z : true ≡ false = sym (h x f) ∙ e in (cc))
    one false e false f more = rw (e, f) more

any-without : {X : Type 0} (p : X → Bool) (before after : List X) (x : X) → list_any p (before ++ x ∷ after) ≡ true → p x ≡ false → list_any p (before ++ after) ≡ true
any-without p before after x e fails =
    let a = any-append p before (x ∷ after) in
    let b = any-append p before after in
    grind (arith, e, fails, a, b)

-- one of them ends
module _ (x : State) (before after : List Job) (j : Job) (e : x.world.jobs ≡ before ++ j ∷ after) (a : AreOut x.world.participants x.world.jobs) where
  at_it : (P : Job → Type 0) → Each P x.world.jobs → P j
  at_it P all = each_mid P before after j (subst (λ (js : List Job). Each P js) e all)

  pub jobs_after : (end_job j x).world.jobs ≡ before ++ after
  jobs_after =
      ap (filter (λ k. not (is_same_job j k))) e
      ∙ one_out (is_same_job j) before after j (self_same j) (subst (λ (js : List Job). count (is_same_job j) js ≡ 1) e (at_it (λ k. count (is_same_job k) x.world.jobs ≡ 1) a.only))

  many : length (end_job j x).world.participants ≡ length x.world.participants
  many = length-put x.world.participants j.instance.0 (finish (participant_of x.world j.instance) j.message (Some j.outcome) j.handler)

  keeps_only : Each (λ m. count (is_same_job m) (end_job j x).world.jobs ≡ 1) (end_job j x).world.jobs
  keeps_only =
      each-filter (λ m. count (is_same_job m) x.world.jobs ≡ 1) (λ m. count (is_same_job m) (end_job j x).world.jobs ≡ 1) (λ k. not (is_same_job j k))
      (λ m other one. count-kept (is_same_job m) (λ k. not (is_same_job j k)) (λ y same. apart j m y other same) x.world.jobs ∙ one) x.world.jobs a.only

  covers : (i : InstanceId) (q : PartId) → i.0 < length x.world.participants → is_out (slot_of (of_instance (end_job j x).world.participants i) q).work ≡ true
      → list_any (λ k. is_job_of i k && part_eq k.message.part q) (before ++ after) ≡ true
  covers i q lt out = one (j.instance.0 == i.0) refl
    where
      there : is_out (slot_of (of_instance x.world.participants i) q).work ≡ true → (is_job_of i j && part_eq j.message.part q) ≡ false → list_any (λ k. is_job_of i k && part_eq k.message.part q) (before ++ after) ≡ true
      there was fails =
          any-without (λ k. is_job_of i k && part_eq k.message.part q) before after j
          (subst (λ (js : List Job). list_any (λ k. is_job_of i k && part_eq k.message.part q) js ≡ true) e (a.cover i q lt was)) fails

      one : (b : Bool) → (j.instance.0 == i.0) ≡ b → list_any (λ k. is_job_of i k && part_eq k.message.part q) (before ++ after) ≡ true
      one true f =
          let was = was_out (of_instance x.world.participants i) j.message (Some j.outcome) j.handler q (subst (λ (w : Participant). is_out (slot_of w q).work ≡ true) (finished_here x j i f lt) out) in
          there was.out (let other = was.other in grind (arith, other))
      one false f =
          there (subst (λ (w : Participant). is_out (slot_of w q).work ≡ true) (others_put x.world.participants j.instance (finish (participant_of x.world j.instance) j.message (Some j.outcome) j.handler) i f) out)
          (grind (arith, f))

  out_after : AreOut (end_job j x).world.participants (end_job j x).world.jobs
  out_after = record {
    only = keeps_only;
    out = others_out x j (at_it (λ k. k.instance.0 < length x.world.participants) a.range) (at_it (IsOutOf x.world.participants) a.out) a.out;
    range = each-filter (λ k. k.instance.0 < length x.world.participants) (λ k. k.instance.0 < length (end_job j x).world.participants) (λ k. not (is_same_job j k))
        (λ k other lt. subst (λ n. k.instance.0 < n) (sym many) lt) x.world.jobs a.range;
    cover = λ i q lt out. subst (λ (js : List Job). list_any (λ k. is_job_of i k && part_eq k.message.part q) js ≡ true) (sym jobs_after) (covers i q (subst (λ n. i.0 < n) many lt) out);
    distinct = λ i lt. distinct_left i (j ∷ []) x (subst (λ n. i.0 < n) many lt) (a.distinct i (subst (λ n. i.0 < n) many lt));
  }

  pub one_ended : AreOut (end_job j x).world.participants (before ++ after)
  one_ended = subst (λ (js : List Job). AreOut (end_job j x).world.participants js) jobs_after out_after

-- where no job is left no part is out
pub none_out : (ws : List Participant) → AreOut ws [] → (i : InstanceId) → i.0 < length ws → any_out (of_instance ws i) ≡ false
none_out ws a i lt =
    none-from-all (λ (y : Slot). not (is_out y.work)) (λ y. is_out y.work) (λ y e. flip (is_out y.work) e) (of_instance ws i).slots
    (all_slots (λ y. not (is_out y.work)) (of_instance ws i).slots (a.distinct i lt) (λ q. ap not (quiet q (is_out (slot_of (of_instance ws i) q).work) refl)))
  where
    flip : (b : Bool) → not b ≡ true → b ≡ false
    flip true e = cc
    flip false e = refl

    quiet : (q : PartId) (b : Bool) → is_out (slot_of (of_instance ws i) q).work ≡ b → b ≡ false
    quiet q false e = refl
    quiet q true e = sym (a.cover i q lt e)

-- the jobs of an instance, which end in order
abbrev pub Apart : List Job → Type 0
Apart [] = Unit {0}
Apart (j ∷ js) = (list_any (is_same_job j) js ≡ false) × Apart js

pub record AreLeft (i : InstanceId) (js jobs : List Job) : Type 0 where
  pub mine : Each (λ j. is_job_of i j ≡ true) js
  pub found : Each (λ j. find (is_same_job j) jobs ≡ Some j) js
  pub apart : Apart js

each-insert : {X : Type 0} (P : X → Type 0) (before : X → X → Bool) (x : X) (xs : List X) → P x → Each P xs → Each P (insert_by before x xs)
each-insert P before x [] here all = (here, tt)
each-insert P before x (y ∷ xs) here all = one (before y x) refl (each-insert P before x xs here all.1)
  where
    one : (b : Bool) → before y x ≡ b → Each P (insert_by before x xs) → Each P (insert_by before x (y ∷ xs))
    one true e more = rw e (all.0, more)
    one false e more = rw e (here, all)

each-sort : {X : Type 0} (P : X → Type 0) (before : X → X → Bool) (xs : List X) → Each P xs → Each P (sort_by before xs)
each-sort P before [] all = tt
each-sort P before (x ∷ xs) all = each-insert P before x (sort_by before xs) all.0 (each-sort P before xs all.1)

find_mid : {X : Type 0} (p : X → Bool) (before after : List X) (x : X) → p x ≡ true → count p (before ++ x ∷ after) ≤ 1 → find p (before ++ x ∷ after) ≡ Some x
find_mid p [] after x here few = rw here refl
find_mid {X} p (y ∷ before) after x here few = one (p y) refl (find_mid p before after x here)
  where
    some : (before : List X) → 1 ≤ count p (before ++ x ∷ after)
    some [] = rw here (omega arith)
    some (z ∷ before) = two (p z) refl (some before)
      where
        two : (b : Bool) → p z ≡ b → 1 ≤ count p (before ++ x ∷ after) → 1 ≤ count p ((z ∷ before) ++ x ∷ after)
        two true e more = rw e (omega arith)
        two false e more = rw e more

    one : (b : Bool) → p y ≡ b → (count p (before ++ x ∷ after) ≤ 1 → find p (before ++ x ∷ after) ≡ Some x) → find p ((y ∷ before) ++ x ∷ after) ≡ Some x
    one true e more = let many = some before in absurd (let z : true ≡ false = grind (arith, e, few, many) in (cc))
    one false e more = rw e (more (grind (arith, e, few)))

found_from : (before js : List Job) → Each (λ j. count (is_same_job j) (before ++ js) ≡ 1) js → Each (λ j. find (is_same_job j) (before ++ js) ≡ Some j) js
found_from before [] all = tt
found_from before (j ∷ js) all = (
  find_mid (is_same_job j) before js j (self_same j) (let e = all.0 in omega (arith, e)),
  subst (λ (ks : List Job). Each (λ k. find (is_same_job k) ks ≡ Some k) js) (append_assoc before (j ∷ []) js)
      (found_from (before ++ j ∷ []) js (subst (λ (ks : List Job). Each (λ k. count (is_same_job k) ks ≡ 1) js) (sym (append_assoc before (j ∷ []) js)) all.1)),
)

none-counted : {X : Type 0} (p : X → Bool) (xs : List X) → count p xs ≤ 0 → list_any p xs ≡ false
none-counted p [] e = refl
none-counted p (x ∷ xs) e = grind (arith, e, none-counted p xs)

apart_from : (js : List Job) → Each (λ j. count (is_same_job j) js ≤ 1) js → Apart js
apart_from [] all = tt
apart_from (j ∷ js) all = (
  none-counted (is_same_job j) js (let e = all.0 in let here = self_same j in grind (arith, e, here)),
  apart_from js (each-le (λ m. count (is_same_job m) (j ∷ js) ≤ 1) (λ m. count (is_same_job m) js ≤ 1) (λ m few. fewer m few (is_same_job m j) refl) js all.1),
)
  where
    fewer : (m : Job) → count (is_same_job m) (j ∷ js) ≤ 1 → (b : Bool) → is_same_job m j ≡ b → count (is_same_job m) js ≤ 1
    fewer m few true e = let less : count (is_same_job m) (j ∷ js) ≡ suc (count (is_same_job m) js) = rw e refl in omega (arith, few, less)
    fewer m few false e = let same : count (is_same_job m) (j ∷ js) ≡ count (is_same_job m) js = rw e refl in omega (arith, few, same)

pub left_first : (i : InstanceId) (ws : List Participant) (jobs : List Job) → AreOut ws jobs → AreLeft i (sort_by job_before (filter (is_job_of i) jobs)) jobs
left_first i ws jobs a = record {
  mine = each-sort (λ j. is_job_of i j ≡ true) job_before (filter (is_job_of i) jobs)
      (each-filter (λ j. count (is_same_job j) jobs ≡ 1) (λ j. is_job_of i j ≡ true) (is_job_of i) (λ j e one. e) jobs a.only);
  found = each-sort (λ j. find (is_same_job j) jobs ≡ Some j) job_before (filter (is_job_of i) jobs)
      (each-filter (λ j. find (is_same_job j) jobs ≡ Some j) (λ j. find (is_same_job j) jobs ≡ Some j) (is_job_of i) (λ j e f. f) jobs (found_from [] jobs a.only));
  apart = apart_from (sort_by job_before (filter (is_job_of i) jobs))
      (each-sort (λ j. count (is_same_job j) (sort_by job_before (filter (is_job_of i) jobs)) ≤ 1) job_before (filter (is_job_of i) jobs)
      (each-filter (λ j. count (is_same_job j) jobs ≡ 1) (λ j. count (is_same_job j) (sort_by job_before (filter (is_job_of i) jobs)) ≤ 1) (is_job_of i) (λ j e one. few j one) jobs a.only));
}
  where
    few : (j : Job) → count (is_same_job j) jobs ≡ 1 → count (is_same_job j) (sort_by job_before (filter (is_job_of i) jobs)) ≤ 1
    few j one =
        let a = count-sort (is_same_job j) job_before (filter (is_job_of i) jobs) in
        let b = count-filter (is_same_job j) (is_job_of i) jobs in
        omega (arith, one, a, b)

pub left_next : (i : InstanceId) (j : Job) (js jobs : List Job) → AreLeft i (j ∷ js) jobs → AreLeft i js (filter (λ k. not (is_same_job j k)) jobs)
left_next i j js jobs l = record { mine = l.mine.1; found = keep js l.found.1 l.apart.0; apart = l.apart.1 }
  where
    first : (a b : Bool) → (a || b) ≡ false → not a ≡ true
    first true b e = cc
    first false b e = refl

    second : (a b : Bool) → (a || b) ≡ false → b ≡ false
    second true b e = cc
    second false b e = e

    keep : (ks : List Job) → Each (λ k. find (is_same_job k) jobs ≡ Some k) ks → list_any (is_same_job j) ks ≡ false → Each (λ k. find (is_same_job k) (filter (λ k. not (is_same_job j k)) jobs) ≡ Some k) ks
    keep [] all none = tt
    keep (k ∷ ks) all none = (
      find-filter_kept (is_same_job k) (λ y. not (is_same_job j y)) (λ y same. apart j k y (first (is_same_job j k) (list_any (is_same_job j) ks) none) same) jobs ∙ all.0,
      keep ks all.1 (second (is_same_job j k) (list_any (is_same_job j) ks) none),
    )
