-- A message that is exactly another one is that one, and a slot that is lent to a job is out for its message.
use Rattle.std.proofs.Common.{◌≡◌, ℕ, ◌&&◌, Bool, true, false, Option, Some, None, refl, sym, ap, ◌∙◌, arith}
use Rattle.std.specs.Prelude.{is_some, is_none, if◌then◌else◌}
use Rattle.std.proofs.lemmas.Bool.Decides.{nat_tests}
use Rattle.hx_cluster.specs.declared.state.Message.{Message}
use Rattle.hx_cluster.specs.Messages.{is_same}
use Rattle.hx_replicas.specs.declared.slots.Work.{Work}
use Rattle.hx_replicas.specs.declared.slots.Work.TheVariants.{Idle, Accepted, Out}
use Rattle.hx_worlds.specs.World.{Job}
use Rattle.hx_worlds.specs.Agree.{same_mark, is_exactly, is_lent_to}
use Rattle.hx_safe.proofs.Counting.{and-first, and-second, and-both}
use Rattle.hx_safe.proofs.Ends.{session_same, part_same}
use Rattle.hx_safe.proofs.Calming.{same_self}

-- marks
mark_self : (b : Bool) → same_mark b b ≡ true
mark_self true = refl
mark_self false = refl

mark_is : (a b : Bool) → same_mark a b ≡ true → a ≡ b
mark_is true true e = refl
mark_is true false e = cc
mark_is false true e = cc
mark_is false false e = refl

-- a message is exactly itself, and one that is exactly another is that one
pub exactly_self : (m : Message) → is_exactly m m ≡ true
exactly_self m =
    and-both (is_same m m && same_mark m.taken m.taken) (same_mark m.written m.written)
    (and-both (is_same m m) (same_mark m.taken m.taken) (same_self m) (mark_self m.taken)) (mark_self m.written)

marks_first : (a b : Message) → is_exactly a b ≡ true → (is_same a b && same_mark a.taken b.taken) ≡ true
marks_first a b e = and-first (is_same a b && same_mark a.taken b.taken) (same_mark a.written b.written) e

pub exactly_same : (a b : Message) → is_exactly a b ≡ true → is_same a b ≡ true
exactly_same a b e = and-first (is_same a b) (same_mark a.taken b.taken) (marks_first a b e)

pub exactly_is : (a b : Message) → is_exactly a b ≡ true → a ≡ b
exactly_is a b e =
    let same = exactly_same a b e in
    let id : a.id.0 ≡ b.id.0 = grind (arith, nat_tests, same) in
    let session : a.session ≡ b.session = session_same a.session b.session (grind (arith, same)) in
    let part : a.part ≡ b.part = part_same a.part b.part (grind (arith, same)) in
    let from : a.from.0 ≡ b.from.0 = grind (arith, nat_tests, same) in
    let to : a.to.0 ≡ b.to.0 = grind (arith, nat_tests, same) in
    let initial : a.initial.0 ≡ b.initial.0 = grind (arith, nat_tests, same) in
    let epoch : a.epoch.0 ≡ b.epoch.0 = grind (arith, nat_tests, same) in
    let taken : a.taken ≡ b.taken = mark_is a.taken b.taken (and-second (is_same a b) (same_mark a.taken b.taken) (marks_first a b e)) in
    let written : a.written ≡ b.written = mark_is a.written b.written (and-second (is_same a b && same_mark a.taken b.taken) (same_mark a.written b.written) e) in
    (λ i. record {
      id = record { 0 = id i };
      session = session i;
      part = part i;
      from = record { 0 = from i };
      to = record { 0 = to i };
      initial = record { 0 = initial i };
      epoch = record { 0 = epoch i };
      taken = taken i;
      written = written i;
    })

-- the work of a slot that is lent to a job
held_is : (o : Option ℕ) (b : Bool) → (if b then is_some o else is_none o) ≡ true → b ≡ is_some o
held_is None true e = cc
held_is None false e = refl
held_is (Some n) true e = refl
held_is (Some n) false e = cc

pub lent_is : (j : Job) (w : Work) → is_lent_to j w ≡ true → w ≡ Out j.message (is_some j.handler)
lent_is j Idle e = cc
lent_is j (Accepted m) e = cc
lent_is j (Out m is_held) e =
    let same = exactly_is j.message m (and-first (is_exactly j.message m) (if is_held then is_some j.handler else is_none j.handler) e) in
    let held = held_is j.handler is_held (and-second (is_exactly j.message m) (if is_held then is_some j.handler else is_none j.handler) e) in
    ap (λ (n : Message). Out n is_held) (sym same) ∙ ap (λ (b : Bool). Out j.message b) held
