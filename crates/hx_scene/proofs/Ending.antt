-- A job that goes back to its participant.
use Rattle.std.proofs.Common.{◌≡◌, ℕ, ◌+◌, ◌<◌, ◌≤◌, Bool, true, false, List, [], ◌∷◌, ◌++◌, take, drop, length, Option, None, Some, refl, sym, ap, subst, ◌∙◌}
use Rattle.std.specs.Prelude.{if◌then◌else◌, ◌==◌, is_some, slice_get, slice_set, slice_index_or}
use Rattle.std.specs.List.{All}
use Rattle.std.specs.Option.{ForSome}
use Rattle.std.proofs.lemmas.Option.{slice_get_read, get_or_from_slice_get}
use Rattle.std.proofs.lemmas.List.{map-set}
use Rattle.std.proofs.Math.Seq.{map-set_same}
use Rattle.std.proofs.lemmas.List.Elements.{All-append, All-take, All-drop, All-set, All-get_or, All-nil, All-cons, All-head, All-tail}
use Rattle.hx_ids.specs.declared.StateId.{StateId}
use Rattle.hx_ids.specs.declared.PartId.{PartId}
use Rattle.hx_model.specs.Model.{dropped}
use Rattle.hx_cluster.specs.Ends.{part_eq}
use Rattle.hx_handler.specs.Makings.{tried_of}
use Rattle.hx_replicas.specs.declared.slots.Work.TheVariants.{Out}
use Rattle.hx_replicas.specs.Participants.{Participant, Slot, slot_of, put_slot, brought, end_of, finish}
use Rattle.hx_replicas.specs.Jobs.{ParticipantState, Done, runs_of}
use Rattle.hx_scene.specs.declared.jobs.OpenJob.TheInside.{Inside}
use Rattle.hx_scene.specs.Scenes.{OpenState, plain_job, new_staff}
use Rattle.hx_scene.specs.Doing.{IsBelow, IsRunsBelow}
use Rattle.hx_scene.specs.Kept.{IsListed}
use Rattle.hx_scene.specs.Ending.{CanEnd, KeepsParts, ended_staff, plain_staff, staff_in}

pub all-put : (P : Slot → Type 0) (y : Slot) (xs : List Slot) → P y → All P xs → All P (put_slot xs y)
all-put P y [] here all = All-cons P y [] here (All-nil P)
all-put P y (x ∷ xs) here all = one (part_eq x.part y.part) refl (all-put P y xs here (All-tail P x xs all))
  where
    one : (b : Bool) → part_eq x.part y.part ≡ b → All P (put_slot xs y) → All P (put_slot (x ∷ xs) y)
    one true e more = rw e (All-cons P y xs here (All-tail P x xs all))
    one false e more = rw e (All-cons P x (put_slot xs y) (All-head P x xs all) more)

runs-brought : (most : ℕ) (t : StateId) (runs : Option ℕ) → IsRunsBelow most runs → IsRunsBelow most (if t.0 == dropped.0 then None else runs)
runs-brought most t runs below = one (t.0 == dropped.0)
  where
    one : (b : Bool) → IsRunsBelow most (if b then None else runs)
    one true = tt
    one false = below

-- it stood at a place, and a participant became another one
pub record GoesBack (jobs : List OpenState) (staff : List ParticipantState) (place : ℕ) (j : OpenState) (p q : ParticipantState) : Type 0 where
  pub within : place < length jobs
  pub stood : j ≡ slice_index_or jobs place j
  pub instance : j.instance.0 < length staff
  pub before : p ≡ slice_index_or staff j.instance.0 p
  pub plain : q.plain ≡ finish p.plain j.ran.message (Some j.ran.outcome) (runs_of j.ran.handler)
  pub made : q.made ≡ p.made
  pub listed : q.listed ≡ p.listed

-- the job that its fields are
abbrev pub open_of : {H : Type 0} → Inside H → OpenState
open_of a = record { instance = a.instance; ran = a.ran; is_written = a.is_written }

pub at_place : (jobs : List OpenState) (place : ℕ) (j : OpenState) → place < length jobs → j ≡ slice_index_or jobs place j → slice_get jobs place ≡ Some j
at_place jobs place j below is = slice_get_read jobs (length jobs) place j refl below is

pub can_then : (jobs : List OpenState) {staff : List ParticipantState} {place : ℕ} {j k : OpenState} → place < length jobs → j ≡ k → k ≡ slice_index_or jobs place k
    → ((l : OpenState) → slice_get jobs place ≡ Some l → CanEnd staff l) → CanEnd staff j
can_then jobs {staff} {place} {j} below same stood can = can j (at_place jobs place j below (subst (λ (k : OpenState). k ≡ slice_index_or jobs place k) (sym same) stood))

pub staff_is : (staff : List ParticipantState) (n : ℕ) (p d : ParticipantState) → n < length staff → p ≡ slice_index_or staff n p → slice_index_or staff n d ≡ p
staff_is staff n p d below is = get_or_from_slice_get staff n p d (slice_get_read staff (length staff) n p refl below is)

pub can_out : (staff : List ParticipantState) (j : OpenState) (p : ParticipantState) → p ≡ slice_index_or staff j.instance.0 p → CanEnd staff j
    → (slot_of p.plain j.ran.message.part).work ≡ Out j.ran.message (is_some j.ran.handler)
can_out staff j p is can =
    subst (λ (r : ParticipantState). (slot_of r.plain j.ran.message.part).work ≡ Out j.ran.message (is_some j.ran.handler)) (staff_is staff j.instance.0 p new_staff can.instance is) can.out

pub can_listed : (staff : List ParticipantState) (j : OpenState) (p : ParticipantState) → p ≡ slice_index_or staff j.instance.0 p → CanEnd staff j → ForSome j.ran.handler (λ h. h.listed ≡ p.listed)
can_listed staff j p is can =
    subst (λ (r : ParticipantState). ForSome j.ran.handler (λ h. h.listed ≡ r.listed)) (staff_is staff j.instance.0 p new_staff can.instance is) can.listed

pub goes_back : {jobs : List OpenState} {staff : List ParticipantState} {place : ℕ} {j k : OpenState} {p q : ParticipantState} {d : Done} → place < length jobs → j ≡ k → k ≡ slice_index_or jobs place k → CanEnd staff j
    → p ≡ slice_index_or staff j.instance.0 p → q.plain ≡ finish p.plain d.message d.outcome (runs_of d.handler) → d ≡ record { message = j.ran.message; handler = j.ran.handler; outcome = Some j.ran.outcome }
    → q.made ≡ p.made → q.listed ≡ p.listed → GoesBack jobs staff place j p q
goes_back {jobs} {staff} {place} {j} {k} {p} {q} {d} below same stood can before plain done made listed = record {
  within = below;
  stood = subst (λ (k : OpenState). k ≡ slice_index_or jobs place k) (sym same) stood;
  instance = can.instance;
  before = before;
  plain = plain ∙ ap (λ (d : Done). finish p.plain d.message d.outcome (runs_of d.handler)) done;
  made = made;
  listed = listed;
}

module _ {jobs : List OpenState} {staff : List ParticipantState} {place : ℕ} {j : OpenState} {p q : ParticipantState} (b : GoesBack jobs staff place j p q) where
  was : staff_in staff j.instance ≡ p
  was = staff_is staff j.instance.0 p new_staff b.instance b.before

  pub back_plain : (k : OpenState) → slice_get jobs place ≡ Some k → plain_staff (slice_set staff j.instance.0 q) ≡ ended_staff k (plain_staff staff) (staff_in staff k.instance).plain
  back_plain k e =
      let same : j ≡ k = b.stood ∙ get_or_from_slice_get jobs place k j e in
      subst (λ (k : OpenState). plain_staff (slice_set staff j.instance.0 q) ≡ ended_staff k (plain_staff staff) (staff_in staff k.instance).plain) same
      (map-set (λ (p : ParticipantState). p.plain) staff j.instance.0 q
      ∙ ap (λ w. slice_set (plain_staff staff) j.instance.0 w) (b.plain ∙ ap (λ (p : ParticipantState). finish p.plain j.ran.message (Some j.ran.outcome) (runs_of j.ran.handler)) (sym was)))

  back_below : (most : ℕ) → All (IsBelow most) staff → IsRunsBelow most (plain_job j).handler → IsBelow most q
  back_below most all runs =
      let old : IsBelow most p = subst (IsBelow most) was (All-get_or (IsBelow most) staff j.instance.0 new_staff b.instance all) in
      record {
        made = subst (λ n. n ≤ most) (sym b.made) old.made;
        tried = subst (λ (w : Participant). (r : PartId) → tried_of w.tried r ≤ most) (sym b.plain) old.tried;
        runs = subst (λ (w : Participant). All (λ (x : Slot). IsRunsBelow most x.handler) w.slots) (sym b.plain)
            (all-put (λ (x : Slot). IsRunsBelow most x.handler) (brought (slot_of p.plain j.ran.message.part) (end_of j.ran.message (Some j.ran.outcome)) (runs_of j.ran.handler)) p.plain.slots
            (runs-brought most (end_of j.ran.message (Some j.ran.outcome)) (runs_of j.ran.handler) runs) old.runs);
      }

  rest_all : (P : OpenState → Type 0) → All P jobs → All P (take place jobs ++ drop (place + 1) jobs)
  rest_all P all = All-append P (take place jobs) (drop (place + 1) jobs) (All-take P place jobs all) (All-drop P (place + 1) jobs all)

  keeps_back : KeepsParts jobs (take place jobs ++ drop (place + 1) jobs) staff (slice_set staff j.instance.0 q)
  keeps_back = record {
    lists = map-set_same (λ (p : ParticipantState). p.listed) staff j.instance.0 q p (b.listed ∙ ap (λ (p : ParticipantState). p.listed) b.before);
    below = λ most all. (
      All-set (IsBelow most) staff j.instance.0 q
          (back_below most all.0 (subst (λ (k : OpenState). IsRunsBelow most (plain_job k).handler) (sym b.stood) (All-get_or (λ k. IsRunsBelow most (plain_job k).handler) jobs place j b.within all.1))) all.0,
      rest_all (λ k. IsRunsBelow most (plain_job k).handler) all.1,
    );
    listed = λ lists all. rest_all (IsListed lists) all;
  }

  pub back_keeps : (later : List OpenState) → later ≡ take place jobs ++ drop (place + 1) jobs → KeepsParts jobs later staff (slice_set staff j.instance.0 q)
  back_keeps later is = subst (λ (js : List OpenState). KeepsParts jobs js staff (slice_set staff j.instance.0 q)) (sym is) keeps_back
