-- What a participant does that hands out a message stays within bounds.
use Rattle.std.proofs.Common.{◌≡◌, ℕ, ◌+◌, ◌≤◌, Bool, true, false, List, [], ◌∷◌, Option, None, Some, refl, sym, ap, subst, ◌∙◌, arith}
use Rattle.std.specs.Prelude.{if◌then◌else◌, is_none, is_some, Result, Ok, Err, IfOk, IfSome}
use Rattle.std.specs.List.{All, sum_by}
use Rattle.std.proofs.lemmas.List.Sums.{sum_by-cons}
use Rattle.std.proofs.lemmas.List.Elements.{All-cons, All-head, All-tail, All-weaker}
use Rattle.hx_ids.specs.declared.PartId.{PartId}
use Rattle.hx_cluster.specs.declared.state.Message.{Message}
use Rattle.hx_cluster.specs.Ends.{part_eq}
use Rattle.hx_lists.specs.Counts.{count_up}
use Rattle.hx_handler.specs.Makings.{tried_of, tried_up}
use Rattle.hx_replicas.specs.Participants.{Participant, Slot, slot_in, slot_of, put_slot, makes, made_ready, emptied_for, hand_out}
use Rattle.hx_replicas.specs.Ledger.{held_in, held_by, IsBalanced}
use Rattle.hx_replicas.specs.Jobs.{ParticipantState, Job, KeepsRest, IsHanded}
use Rattle.hx_replicas.proofs.Parts.{part_same}
use Rattle.hx_replicas.proofs.Putting.{put-step, find-step, slots-hand_out}
use Rattle.hx_scene.specs.Doing.{IsRunsBelow, IsBelow}
use Rattle.hx_scene.specs.Taking.{HandsOut, IsStill}

-- what is held where a slot is put
held_put : (xs : List Slot) (y : Slot) → sum_by held_in (put_slot xs y) + held_in (slot_in xs y.part) ≡ sum_by held_in xs + held_in y
held_put [] y = omega (arith, sum_by-cons held_in y [])
held_put (x ∷ xs) y = one (part_eq x.part y.part) refl (held_put xs y)
  where
    one : (b : Bool) → part_eq x.part y.part ≡ b → sum_by held_in (put_slot xs y) + held_in (slot_in xs y.part) ≡ sum_by held_in xs + held_in y
        → sum_by held_in (put_slot (x ∷ xs) y) + held_in (slot_in (x ∷ xs) y.part) ≡ sum_by held_in (x ∷ xs) + held_in y
    one true e later =
        let put = ap (λ ys. sum_by held_in ys) (put-step x xs y true e) in
        let found = ap (λ z. held_in z) (find-step x xs y.part true e) in
        omega (arith, put, found, sum_by-cons held_in y xs, sum_by-cons held_in x xs)
    one false e later =
        let put = ap (λ ys. sum_by held_in ys) (put-step x xs y false e) in
        let found = ap (λ z. held_in z) (find-step x xs y.part false e) in
        omega (arith, put, found, later, sum_by-cons held_in x (put_slot xs y), sum_by-cons held_in x xs)

held_one : (b : Bool) → 0 + (if b then 1 else 0) ≤ 1
held_one true = omega arith
held_one false = omega arith

held_handed : (w : Participant) (m : Message) (f : Bool) → held_by (hand_out w m f) ≤ held_by w + 1
held_handed w m f =
    let x = made_ready (slot_of w m.part) m f in
    let slots = ap (λ ss. sum_by held_in ss) (slots-hand_out w m f) in
    let put = held_put w.slots (emptied_for x m) in
    let lent : held_in (emptied_for x m) ≤ 1 = held_one (is_some x.handler) in
    omega (arith, slots, put, lent)

-- after room for no more was asked for
pub handing : (a r b : ParticipantState) (job : Job) → r ≡ record a { spare = r.spare } → IsBalanced r.made r.retired r.plain → IsBalanced b.made b.retired b.plain → KeepsRest r b
    → b.plain ≡ hand_out r.plain job.message (is_none job.handler) → IsHanded r b job → HandsOut a b job
handing a r b job is was now rest plain handed =
    let listed : r.listed ≡ a.listed = ap (λ (z : ParticipantState). z.listed) is in
    let made : r.made ≡ a.made = ap (λ (z : ParticipantState). z.made) is in
    let h : IsHanded (record a { spare = r.spare }) b job = subst (λ (z : ParticipantState). IsHanded z b job) is handed in
    let held : held_by b.plain ≤ held_by r.plain + 1 = subst (λ (w : Participant). held_by w ≤ held_by r.plain + 1) (sym plain) (held_handed r.plain job.message (is_none job.handler)) in
    let retired : b.retired ≡ r.retired = rest.retired in
    record {
      plain = plain ∙ ap (λ (z : ParticipantState). hand_out z.plain job.message (is_none job.handler)) is;
      handed = record { runs = h.runs; listed = h.listed; answer = h.answer };
      made = omega (arith, was, now, held, retired, made);
      listed = rest.listed ∙ listed;
    }

pub all_handing : {E : Type 0} (a r b : ParticipantState) (result : Result (Option Job) E) → r ≡ record a { spare = r.spare } → IsBalanced r.made r.retired r.plain → IsBalanced b.made b.retired b.plain
    → KeepsRest r b → IfOk result (λ found. IfSome found (λ job. b.plain ≡ hand_out r.plain job.message (is_none job.handler))) → IfOk result (λ found. IfSome found (IsHanded r b))
    → IfOk result (λ found. IfSome found (HandsOut a b))
all_handing a r b (Ok None) is was now rest plain handed = tt
all_handing a r b (Ok (Some job)) is was now rest plain handed = handing a r b job is was now rest plain handed
all_handing a r b (Err e) is was now rest plain handed = tt

-- within bounds
pub runs_more : (n : ℕ) (h : Option ℕ) → IsRunsBelow n h → IsRunsBelow (n + 1) h
runs_more n None e = tt
runs_more n (Some r) e = omega arith

pub below_more : (n : ℕ) (a : ParticipantState) → IsBelow n a → IsBelow (n + 1) a
below_more n a e = record {
  made = let m = e.made in omega arith;
  tried = λ q. let t = e.tried q in omega arith;
  runs = All-weaker (λ (x : Slot). IsRunsBelow n x.handler) (λ (x : Slot). IsRunsBelow (n + 1) x.handler) (λ x r. runs_more n x.handler r) a.plain.slots e.runs;
}

-- slots of which something holds, where one is put
pub all_put : (P : Slot → Type 0) (xs : List Slot) (y : Slot) → All P xs → P y → All P (put_slot xs y)
all_put P [] y all here = All-cons P y [] here all
all_put P (x ∷ xs) y all here = one (part_eq x.part y.part) refl (all_put P xs y (All-tail P x xs all) here)
  where
    one : (b : Bool) → part_eq x.part y.part ≡ b → All P (put_slot xs y) → All P (put_slot (x ∷ xs) y)
    one true e later = subst (All P) (sym (put-step x xs y true e)) (All-cons P y xs here (All-tail P x xs all))
    one false e later = subst (All P) (sym (put-step x xs y false e)) (All-cons P x (put_slot xs y) (All-head P x xs all) later)

pub runs_slot : (n : ℕ) (xs : List Slot) (p : PartId) → All (λ (x : Slot). IsRunsBelow n x.handler) xs → IsRunsBelow n (slot_in xs p).handler
runs_slot n [] p all = tt
runs_slot n (x ∷ xs) p all = one (part_eq x.part p) refl (runs_slot n xs p (All-tail (λ (z : Slot). IsRunsBelow n z.handler) x xs all))
  where
    one : (b : Bool) → part_eq x.part p ≡ b → IsRunsBelow n (slot_in xs p).handler → IsRunsBelow n (slot_in (x ∷ xs) p).handler
    one true e later = subst (λ (z : Slot). IsRunsBelow n z.handler) (sym (find-step x xs p true e)) (All-head (λ (z : Slot). IsRunsBelow n z.handler) x xs all)
    one false e later = subst (λ (z : Slot). IsRunsBelow n z.handler) (sym (find-step x xs p false e)) later

-- one more making was tried
up_one : (n : ℕ) → count_up n ≤ n + 1
up_one n = omega arith

tried_first : (x : PartId × ℕ) (xs : List (PartId × ℕ)) (q : PartId) (b : Bool) → part_eq x.0 q ≡ b → tried_of (x ∷ xs) q ≡ (if b then x.1 else tried_of xs q)
tried_first x xs q b e = rw e refl

tried_up_first : (x : PartId × ℕ) (xs : List (PartId × ℕ)) (p : PartId) (b : Bool) → part_eq x.0 p ≡ b → tried_up (x ∷ xs) p ≡ (if b then (p, count_up x.1) ∷ xs else x ∷ tried_up xs p)
tried_up_first x xs p b e = rw e refl

tried_one : (b : Bool) → (if b then 1 else 0) ≤ 0 + 1
tried_one true = omega arith
tried_one false = omega arith

tried_more : (xs : List (PartId × ℕ)) (p q : PartId) → tried_of (tried_up xs p) q ≤ tried_of xs q + 1
tried_more [] p q = tried_one (part_eq p q)
tried_more (x ∷ xs) p q = one (part_eq x.0 p) refl (part_eq x.0 q) refl (tried_more xs p q)
  where
    one : (b : Bool) → part_eq x.0 p ≡ b → (d : Bool) → part_eq x.0 q ≡ d → tried_of (tried_up xs p) q ≤ tried_of xs q + 1 → tried_of (tried_up (x ∷ xs) p) q ≤ tried_of (x ∷ xs) q + 1
    one true e true f later =
        let here : part_eq p q ≡ true = subst (λ (r : PartId). part_eq r q ≡ true) (part_same x.0 p e) f in
        let up = ap (λ ys. tried_of ys q) (tried_up_first x xs p true e) ∙ tried_first (p, count_up x.1) xs q true here in
        let was = tried_first x xs q true f in
        let more = up_one x.1 in
        omega (arith, up, was, more)
    one true e false f later =
        let here : part_eq p q ≡ false = subst (λ (r : PartId). part_eq r q ≡ false) (part_same x.0 p e) f in
        let up = ap (λ ys. tried_of ys q) (tried_up_first x xs p true e) ∙ tried_first (p, count_up x.1) xs q false here in
        let was = tried_first x xs q false f in
        omega (arith, up, was)
    one false e true f later =
        let up = ap (λ ys. tried_of ys q) (tried_up_first x xs p false e) ∙ tried_first x (tried_up xs p) q true f in
        let was = tried_first x xs q true f in
        omega (arith, up, was)
    one false e false f later =
        let up = ap (λ ys. tried_of ys q) (tried_up_first x xs p false e) ∙ tried_first x (tried_up xs p) q false f in
        let was = tried_first x xs q false f in
        omega (arith, up, was, later)

tried_handed : (b : Bool) (xs : List (PartId × ℕ)) (p q : PartId) → tried_of (if b then tried_up xs p else xs) q ≤ tried_of xs q + 1
tried_handed true xs p q = tried_more xs p q
tried_handed false xs p q = omega arith

-- what was handed out
pub below_handed : (n : ℕ) (a b : ParticipantState) (job : Job) → HandsOut a b job → IsBelow n a → IsBelow (n + 1) b
below_handed n a b job h e =
    let m = job.message in
    let f = is_none job.handler in
    let more = below_more n a e in
    let P = λ (x : Slot). IsRunsBelow (n + 1) x.handler in
    record {
      made = let was = e.made in let now = h.made in omega (arith, was, now);
      tried = λ q. subst (λ (w : Participant). tried_of w.tried q ≤ n + 1) (sym h.plain) (let was = e.tried q in let now = tried_handed (makes (slot_of a.plain m.part) m) a.plain.tried m.part q in omega (arith, was, now));
      runs = subst (λ (w : Participant). All P w.slots) (sym h.plain)
          (subst (All P) (sym (slots-hand_out a.plain m f)) (all_put P a.plain.slots (emptied_for (made_ready (slot_of a.plain m.part) m f) m) more.runs tt));
    }

pub below_still : (n : ℕ) (a b : ParticipantState) → IsStill a b → IsBelow n a → IsBelow n b
below_still n a b h e = record {
  made = let was = e.made in let now = h.made in omega (arith, was, now);
  tried = λ q. subst (λ (w : Participant). tried_of w.tried q ≤ n) (sym h.plain) (e.tried q);
  runs = subst (λ (w : Participant). All (λ (x : Slot). IsRunsBelow n x.handler) w.slots) (sym h.plain) e.runs;
}

-- the runs of its handler
runs_if : (n : ℕ) (b f : Bool) (h : Option ℕ) → IsRunsBelow n h → IsRunsBelow n (if b then (if f then None else Some 0) else h)
runs_if n true true h e = tt
runs_if n true false h e = omega arith
runs_if n false f h e = e

pub runs_ready : (n : ℕ) (a : ParticipantState) (m : Message) (f : Bool) → IsBelow n a → IsRunsBelow n (made_ready (slot_of a.plain m.part) m f).handler
runs_ready n a m f e = runs_if n (makes (slot_of a.plain m.part) m) f (slot_of a.plain m.part).handler (runs_slot n a.plain.slots m.part e.runs)
