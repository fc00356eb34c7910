-- What callers need of jobs that are out: what `finish` and `close` ask follows from what came before.
use Rattle.std.proofs.Common.{◌≡◌, ℕ, ◌∷◌, [], List, map, arith, refl, sym, ap, ◌∙◌, Bool, true, false, Option, None, Some, is_some, is_none}
use Rattle.std.specs.List.{list_any, list_all}
use Rattle.std.specs.Option.{ForSome}
use Rattle.std.proofs.lemmas.Grind.{common_steps}
use Rattle.hx_cluster.specs.declared.state.Message.{Message}
use Rattle.hx_cluster.specs.declared.description.Failure.{Failure}
use Rattle.hx_replicas.specs.declared.slots.Work.{Work}
use Rattle.hx_replicas.specs.declared.slots.Work.TheVariants.{Idle, Accepted, Out}
use Rattle.hx_replicas.specs.Participants.{Participant, Slot, slot_in, slot_of, made_ready, emptied_for, hand_out, hand_out_all, is_out, is_idle, all_idle, any_out, leaves_error}
use Rattle.hx_replicas.specs.Jobs.{ParticipantState, Held, Job, IsHanded, RunsWith, runs_of}
use Rattle.hx_replicas.proofs.Putting.{part-slot_in, slot_in-put, slots-hand_out}

some-runs : (h : Option Held) → is_some (runs_of h) ≡ is_some h
some-runs None = refl
some-runs (Some x) = refl

-- a job that was handed out is out, with its handler
pub out-job : (a b : ParticipantState) (job : Job) → b.plain ≡ hand_out a.plain job.message (is_none job.handler) → IsHanded a b job → (slot_of b.plain job.message.part).work ≡ Out job.message (is_some job.handler)
out-job a b job plain handed =
    let m = job.message in
    let x = made_ready (slot_of a.plain m.part) m (is_none job.handler) in
    let slots = ap (λ (w : Participant). w.slots) plain ∙ slots-hand_out a.plain m (is_none job.handler) in
    let here = ap (λ ss. slot_in ss m.part) slots ∙ slot_in-put a.plain.slots (emptied_for x m) m.part (part-slot_in a.plain.slots m.part) in
    let held : is_some x.handler ≡ is_some job.handler = ap (λ (h : Option ℕ). is_some h) (sym handed.runs) ∙ some-runs job.handler in
    ap (λ (y : Slot). y.work) here ∙ ap (λ b. Out m b) held

-- a run keeps the handler, and the list that it tells
pub run-held : (m : Message) (h h' : Option Held) (f : Bool) → RunsWith m h h' f → is_some h' ≡ is_some h
run-held m None None f runs = refl
run-held m None (Some b) f runs = absurd runs
run-held m (Some a) None f runs = absurd runs
run-held m (Some a) (Some b) f runs = refl

some-same : (x y : Held) → Some x ≡ Some y → x ≡ y
some-same x y e = (cc)

pub run-listed : (m : Message) (h h' : Option Held) (f : Bool) (told : Option (List Failure)) → RunsWith m h h' f → ForSome h (λ x. x.listed ≡ told) → ForSome h' (λ x. x.listed ≡ told)
run-listed m None None f told runs was = was
run-listed m None (Some b) f told runs was = absurd runs
run-listed m (Some a) None f told runs was = absurd runs
run-listed m (Some a) (Some b) f told runs was = λ y e. one (leaves_error m) refl y e
  where
    one : (t : Bool) → leaves_error m ≡ t → (y : Held) → Some b ≡ Some y → y.listed ≡ told
    one true is y e = sym (ap (λ (x : Held). x.listed) (some-same b y e)) ∙ (runs.0 is).listed ∙ was a refl
    one false is y e = sym (ap (λ (x : Held). x.listed) (some-same b y e)) ∙ (runs.1 is).listed ∙ was a refl

idle-in : (w : Work) → is_idle w ≡ true → is_out w ≡ false
idle-in Idle e = refl
idle-in (Accepted m) e = (cc)
idle-in (Out m b) e = (cc)

quiet-idle : (xs : List Slot) → list_all (λ x. is_idle x.work) xs ≡ true → list_any (λ x. is_out x.work) xs ≡ false
quiet-idle [] e = refl
quiet-idle (x ∷ xs) e = one (is_idle x.work) refl (quiet-idle xs)
  where
    one : (b : Bool) → is_idle x.work ≡ b → (list_all (λ x. is_idle x.work) xs ≡ true → list_any (λ x. is_out x.work) xs ≡ false) → list_any (λ x. is_out x.work) (x ∷ xs) ≡ false
    one true is later = rw (idle-in x.work is) (later (grind (arith, common_steps)))
    one false is later = absurd (let no : false ≡ true = grind (arith, common_steps) in (cc))

-- a participant that is idle has no job out
pub quiet-from_idle : (w : Participant) → all_idle w ≡ true → any_out w ≡ false
quiet-from_idle w idle = quiet-idle w.slots idle

-- the only job of all that were handed out at once
pub hand_out-only : (a b : Participant) (js : List Job) (job : Job) (ms : List Message) → js ≡ job ∷ [] → map (λ j. j.message) js ≡ ms → b ≡ hand_out_all a ms (map (λ j. is_none j.handler) js) → b ≡ hand_out a job.message (is_none job.handler)
hand_out-only a b js job ms is messages plain =
    let only : ms ≡ job.message ∷ [] = sym messages ∙ ap (λ ks. map (λ (j : Job). j.message) ks) is in
    let answers : map (λ j. is_none j.handler) js ≡ is_none job.handler ∷ [] = ap (λ ks. map (λ (j : Job). is_none j.handler) ks) is in
    plain ∙ ap (λ fs. hand_out_all a ms fs) answers ∙ ap (λ ns. hand_out_all a ns (is_none job.handler ∷ [])) only
