-- What a script begins with, and what lines and settles leave, agrees; and so do parts that are idle.
use Rattle.std.proofs.Common.{◌≡◌, ℕ, zero, suc, ◌+◌, ◌<◌, ◌&&◌, ◌||◌, ◌==◌, not, Bool, true, false, List, [], ◌∷◌, map, length, inr, refl, sym, subst, arith}
use Rattle.std.specs.Prelude.{slice_index_or, replicate, nat_lt, is_none}
use Rattle.std.specs.List.{All, list_all}
use Rattle.std.proofs.lemmas.List.Elements.{All-cons, All-nil, All-head, All-tail}
use Rattle.hx_lists.specs.Lists.{numbers_from}
use Rattle.hx_ids.specs.declared.SessionId.{SessionId}
use Rattle.hx_ids.specs.declared.InstanceId.{InstanceId}
use Rattle.hx_cluster.specs.declared.description.Spec.{Spec}
use Rattle.hx_cluster.specs.declared.state.Message.{Message}
use Rattle.hx_cluster.specs.Steps.{opening}
use Rattle.hx_cluster.specs.Valid.{IsValid}
use Rattle.hx_replicas.specs.declared.slots.Work.{Work}
use Rattle.hx_replicas.specs.declared.slots.Work.TheVariants.{Idle, Accepted, Out}
use Rattle.hx_replicas.specs.Participants.{Participant, Slot, new_participant, slot_of, is_idle, is_out, all_idle, accepted_of}
use Rattle.hx_control.specs.Controllers.{Controller, idle_controller}
use Rattle.hx_script.specs.declared.Line.{Line}
use Rattle.hx_worlds.specs.World.{Job, State, opening_world}
use Rattle.hx_worlds.specs.Runs.{state_of}
use Rattle.hx_worlds.specs.Settles
use Rattle.hx_worlds.specs.Scripts
use Rattle.hx_worlds.specs.Agree
use Rattle.hx_safe.proofs.Counting.{and-first, and-second, all-le, and-both}
use Rattle.hx_safe.proofs.Whole.{length-replicate}
use Rattle.hx_scripted.specs.OfHistory.{IsOfItsHistory}
use Rattle.hx_scripted.proofs.DoingLines as Scripted
use Rattle.hx_agreed.specs.InStep.{IsPlaced, IsInStep}
use Rattle.hx_agreed.proofs.Placed.{idle_slot}
use Rattle.hx_agreed.proofs.Worlds.{in_step_kept}
use Rattle.hx_agreed.proofs.DoingLines.{line_left, settle_left}

-- parts that are idle
pub all_at : {X : Type 0} (p : X → Bool) (xs : List X) → list_all p xs ≡ true → (n : ℕ) (d : X) → n < length xs → p (slice_index_or xs n d) ≡ true
all_at p [] e n d lt = absurd (omega arith)
all_at p (x ∷ xs) e zero d lt = and-first (p x) (list_all p xs) e
all_at p (x ∷ xs) e (suc n) d lt = all_at p xs (and-second (p x) (list_all p xs) e) n d (omega arith)

not_out : (w : Work) → is_idle w ≡ true → is_out w ≡ false
not_out Idle e = refl
not_out (Accepted m) e = cc
not_out (Out m is_held) e = cc

known_to_come : (m : Message) (x : Slot) (w : Work) → x.work ≡ w → is_idle w ≡ true → Agree.is_known_at x m ≡ true → (not m.taken && nat_lt x.last.0 m.id.0) ≡ true
known_to_come m x Idle is idle known = plain x.work is known
  where
    plain : (v : Work) → v ≡ Idle → ((not m.taken && (Agree.is_accepted_as m v || nat_lt x.last.0 m.id.0)) || Agree.is_out_as m v) ≡ true → (not m.taken && nat_lt x.last.0 m.id.0) ≡ true
    plain Idle e k = grind (arith, k)
    plain (Accepted n) e k = cc
    plain (Out n is_held) e k = cc
known_to_come m x (Accepted n) is idle known = cc
known_to_come m x (Out n is_held) is idle known = cc

to_come : (w : Participant) (s : SessionId) (m : Message) → all_idle w ≡ true → Agree.is_known w s m ≡ true → Agree.is_to_come w s m ≡ true
to_come w s m idle known = one (m.session.0 == s.0) refl known
  where
    one : (b : Bool) → (m.session.0 == s.0) ≡ b → (not b || Agree.is_known_at (slot_of w m.part) m) ≡ true → (not b || (not m.taken && nat_lt (slot_of w m.part).last.0 m.id.0)) ≡ true
    one true is k = known_to_come m (slot_of w m.part) (slot_of w m.part).work refl (idle_slot w m.part idle) k
    one false is k = refl

pub idle_agree : (given : Spec) (b : Agree.BoardState) (ks : List Controller) (ps : List Agree.Stationed) (jobs : List Job) (bag : List Message) → Agree.AgreeOpen given b ks ps jobs bag
    → All (λ k. k ≡ idle_controller k.id) ks → list_all (λ p. all_idle p.plain) ps ≡ true → Agree.Agree given b ks ps
idle_agree given b ks ps jobs bag a turns quiet = record {
  staffed = a.staffed;
  turns = turns;
  quiet = quiet;
  settled = λ n d lt s mine live.
      let p = slice_index_or ps n d in
      let idle = all_at (λ (x : Agree.Stationed). all_idle x.plain) ps quiet n d lt in
      let o = a.live n d lt s mine live in
      record {
        attached = o.attached;
        rows = λ q. o.rows q (not_out (slot_of p.plain q).work (idle_slot p.plain q idle));
        mail = all-le (Agree.is_known p.plain s) (Agree.is_to_come p.plain s) (λ m known. to_come p.plain s m idle known) (Agree.cluster_of b).mail o.mail;
      };
}

-- where no job is open, what isn't accepted is idle
idle_work : (i : InstanceId) (x : Slot) (w : Work) → Agree.has_job [] i x w ≡ true → is_none (accepted_of w) ≡ true → is_idle w ≡ true
idle_work i x Idle job none = refl
idle_work i x (Accepted m) job none = cc
idle_work i x (Out m is_held) job none = cc

idle_slots : (i : InstanceId) (xs : List Slot) → list_all (λ x. Agree.has_job [] i x x.work) xs ≡ true → list_all (λ x. is_none (accepted_of x.work)) xs ≡ true → list_all (λ x. is_idle x.work) xs ≡ true
idle_slots i [] jobs none = refl
idle_slots i (x ∷ xs) jobs none =
    and-both (is_idle x.work) (list_all (λ y. is_idle y.work) xs)
    (idle_work i x x.work (and-first (Agree.has_job [] i x x.work) (list_all (λ y. Agree.has_job [] i y y.work) xs) jobs) (and-first (is_none (accepted_of x.work)) (list_all (λ y. is_none (accepted_of y.work)) xs) none))
    (idle_slots i xs (and-second (Agree.has_job [] i x x.work) (list_all (λ y. Agree.has_job [] i y y.work) xs) jobs) (and-second (is_none (accepted_of x.work)) (list_all (λ y. is_none (accepted_of y.work)) xs) none))

idle_parts : (ps : List Agree.Stationed) → All (λ p. list_all (λ x. Agree.has_job [] p.instance x x.work) p.plain.slots ≡ true) ps → list_all (λ p. list_all (λ x. is_none (accepted_of x.work)) p.plain.slots) ps ≡ true
    → list_all (λ p. all_idle p.plain) ps ≡ true
idle_parts [] jobs none = refl
idle_parts (p ∷ ps) jobs none =
    let P = λ (q : Agree.Stationed). list_all (λ x. Agree.has_job [] q.instance x x.work) q.plain.slots ≡ true in
    and-both (all_idle p.plain) (list_all (λ q. all_idle q.plain) ps)
    (idle_slots p.instance p.plain.slots (All-head P p ps jobs) (and-first (list_all (λ x. is_none (accepted_of x.work)) p.plain.slots) (list_all (λ q. list_all (λ x. is_none (accepted_of x.work)) q.plain.slots) ps) none))
    (idle_parts ps (All-tail P p ps jobs) (and-second (list_all (λ x. is_none (accepted_of x.work)) p.plain.slots) (list_all (λ q. list_all (λ x. is_none (accepted_of x.work)) q.plain.slots) ps) none))

pub agree_without_work : (given : Spec) (b : Agree.BoardState) (ks : List Controller) (ps : List Agree.Stationed) (bag : List Message) → Agree.AgreeOpen given b ks ps [] bag
    → All (λ k. k ≡ idle_controller k.id) ks → list_all (λ p. list_all (λ x. is_none (accepted_of x.work)) p.plain.slots) ps ≡ true → Agree.Agree given b ks ps
agree_without_work given b ks ps bag a turns none = idle_agree given b ks ps [] bag a turns (idle_parts ps a.slots none)

-- the world that a script begins with
new_at : (n i : ℕ) → slice_index_or (replicate n new_participant) i new_participant ≡ new_participant
new_at zero i = refl
new_at (suc n) zero = refl
new_at (suc n) (suc i) = new_at n i

pub opening_in_step : (spec : Spec) (limit : ℕ) → IsInStep (opening_world spec limit)
opening_in_step spec limit = record {
  parts = record {
    each = λ i. subst (λ (w : Participant). IsPlaced (opening spec) [] [] i w) (sym (new_at (length spec.instances) i.0)) (record {
      distinct = tt;
      below = refl;
      own = λ s is. cc;
      slots = inr (λ q. record { last = refl; used = λ is. cc; initial = λ t is. cc; there = λ is. cc; work = tt });
      along = λ s is. cc;
      free = λ s is. cc;
    });
    held = tt;
    bagged = tt;
    numbers = λ id. omega arith;
    mail = λ s q m is. cc;
    first = omega arith;
  };
  participants = length-replicate (length spec.instances) new_participant;
  weight = omega arith;
}

idle_turns : (a n : ℕ) → All (λ (k : Controller). k ≡ idle_controller k.id) (map (λ i. idle_controller (record { 0 = i })) (numbers_from a n))
idle_turns a zero = All-nil (λ (k : Controller). k ≡ idle_controller k.id)
idle_turns a (suc n) =
    All-cons (λ (k : Controller). k ≡ idle_controller k.id) (idle_controller (record { 0 = a })) (map (λ i. idle_controller (record { 0 = i })) (numbers_from (a + 1) n)) refl (idle_turns (a + 1) n)

idle_listed : (a n : ℕ) → list_all (λ p. all_idle p.plain) (Agree.stationed_from a (replicate n new_participant)) ≡ true
idle_listed a zero = refl
idle_listed a (suc n) = idle_listed (a + 1) n

pub openings : (spec : Spec) (limit : ℕ) → IsValid spec
    → (let w = opening_world spec limit in IsInStep w × Agree.IsKept w × Agree.Agree spec (Agree.board_of w) w.controllers (Agree.stationed_from 0 w.participants))
openings spec limit valid =
    let w = opening_world spec limit in
    let s = opening_in_step spec limit in
    let kept = in_step_kept spec w valid (Scripted.opening_of spec limit) s in
    (s, kept, idle_agree spec (Agree.board_of w) w.controllers (Agree.stationed_from 0 w.participants) w.jobs w.bag kept.agree (idle_turns 0 spec.controllers) (idle_listed 0 (length spec.instances)))

-- lines and settles
pub lines : (spec : Spec) (l : Line) (x : State) → IsValid spec → IsOfItsHistory spec x.world → IsInStep x.world → Scripts.is_next_line spec x.world.cluster.line l ≡ true
    → (let w = (state_of (Scripts.do_line l x)).world in IsInStep w × Agree.IsKept w)
lines spec l x valid of s next =
    let after = line_left spec l x valid of s next in
    (after, in_step_kept spec (state_of (Scripts.do_line l x)).world valid (Scripted.line_left spec l x valid of next) after)

pub settles : (spec : Spec) (x : State) → IsValid spec → IsOfItsHistory spec x.world → IsInStep x.world → (let w = (state_of (Settles.settle x)).world in IsInStep w × Agree.IsKept w)
settles spec x valid of s =
    let after = settle_left spec x valid of s in
    (after, in_step_kept spec (state_of (Settles.settle x)).world valid (Scripted.settle_left spec x valid of) after)
