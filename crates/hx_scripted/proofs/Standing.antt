-- What holds of a world along a script: its history is legal, led to its cluster and to the turns of its controllers, and its participants
-- have accepted only what was fetched.
use Rattle.std.proofs.Common.{◌≡◌, ℕ, zero, suc, ◌||◌, ◌==◌, Bool, true, false, List, [], ◌∷◌, ◌++◌, append_assoc, append-nil, length, Option, refl, sym, ap, ◌∙◌, subst, inl, arith}
use Rattle.std.specs.Prelude.{slice_set, slice_index_or}
use Rattle.std.specs.List.{list_any, list_all}
use Rattle.std.proofs.lemmas.Bool.Decides.{nat_tests}
use Rattle.hx_ids.specs.declared.ControllerId.{ControllerId}
use Rattle.hx_cluster.specs.declared.description.Spec.{Spec}
use Rattle.hx_cluster.specs.declared.state.Message.{Message}
use Rattle.hx_cluster.specs.declared.state.Cluster.{Cluster}
use Rattle.hx_cluster.specs.declared.happenings.Event.{Event}
use Rattle.hx_cluster.specs.Steps.{opening}
use Rattle.hx_cluster.specs.Messages.{has_id}
use Rattle.hx_cluster.specs.Events.{next, replay, IsStep}
use Rattle.hx_cluster.specs.Valid.{IsValid}
use Rattle.hx_cluster.specs.Ranged.{IsRanged}
use Rattle.hx_pass.specs.Lawful.{shown_by, fetched_from, IsProper, IsProperAlong}
use Rattle.hx_replicas.specs.declared.slots.Work.{Work}
use Rattle.hx_replicas.specs.declared.slots.Work.TheVariants.{Idle, Accepted, Out}
use Rattle.hx_replicas.specs.Participants.{Participant, Slot}
use Rattle.hx_control.specs.Controllers.{Controller, idle_controller}
use Rattle.hx_control.specs.OfBoard.{OfBoard, is_own}
use Rattle.hx_control.proofs.KeepsTurns.{others_keep}
use Rattle.hx_worlds.specs.World.{World, controller_of}
use Rattle.hx_scripted.specs.OfHistory.{is_fetched, is_work_fetched, is_slot_fetched, has_fetched, IsTurnOf, IsOfItsHistory}
use Rattle.hx_safe.proofs.Counting.{any-append, all-le}
use Rattle.hx_safe.proofs.Fixed.{IsFixed}
use Rattle.hx_safe.proofs.Whole.{reached_ranged}
use Rattle.hx_lawful.proofs.Covered.{replay_more}
use Rattle.hx_lawful.proofs.Whole.{fixed_along}
use Rattle.hx_pass.proofs.Longer.{legal_more, proper_more}

-- the last line of a world, and whether its history was lawful from the beginning
pub record Last : Type 0 where
  pub line : Option ℕ
  pub is_lawful : Bool

abbrev pub at_line : Last → Option ℕ → Last
at_line last line = record { line = line; is_lawful = last.is_lawful }

-- where nothing is said of what came before
abbrev pub since : Option ℕ → Last
since line = record { line = line; is_lawful = false }

-- a world is of its history, and its last line has a number
pub record IsScripted (spec : Spec) (last : Last) (w : World) : Type 0 where
  pub of : IsOfItsHistory spec w
  pub line : w.cluster.line ≡ last.line
  pub proper : last.is_lawful ≡ true → IsProperAlong spec [] w.history

pub scripted_since : (spec : Spec) (w : World) → IsOfItsHistory spec w → IsScripted spec (since w.cluster.line) w
scripted_since spec w of = record { of = of; line = refl; proper = λ is. cc }

-- its cluster is in range, and has what the description has
pub ranged_there : (spec : Spec) (last : Last) (w : World) → IsValid spec → IsScripted spec last w → IsRanged w.cluster
ranged_there spec last w valid s = subst IsRanged (sym s.of.cluster) (reached_ranged spec valid w.history s.of.legal)

pub fixed_there : (spec : Spec) (last : Last) (w : World) → IsScripted spec last w → IsFixed (opening spec) w.cluster
fixed_there spec last w s = subst (λ (c : Cluster). IsFixed (opening spec) c) (sym s.of.cluster) (fixed_along (opening spec) w.history)

-- the messages that a history with one event more showed
pub fetched_more : (c : Cluster) (h : List Event) (e : Event) → fetched_from c (h ++ e ∷ []) ≡ fetched_from c h ++ shown_by (replay c h) e
fetched_more c [] e = append-nil (shown_by c e)
fetched_more c (x ∷ h) e =
    ap (λ (ms : List Message). shown_by c x ++ ms) (fetched_more (next c x) h e)
    ∙ sym (append_assoc (shown_by c x) (fetched_from (next c x) h) (shown_by (replay (next c x) h) e))

or-first : (a b : Bool) → a ≡ true → (a || b) ≡ true
or-first true b e = refl
or-first false b e = cc

pub or-second : (a b : Bool) → b ≡ true → (a || b) ≡ true
or-second true b e = refl
or-second false b e = e

pub still_fetched : (spec : Spec) (h : List Event) (e : Event) (m : Message) → is_fetched spec h m ≡ true → is_fetched spec (h ++ e ∷ []) m ≡ true
still_fetched spec h e m is =
    let now = shown_by (replay (opening spec) h) e in
    let before = fetched_from (opening spec) h in
    ap (list_any (has_id m.session m.id)) (fetched_more (opening spec) h e)
    ∙ any-append (has_id m.session m.id) before now
    ∙ or-first (list_any (has_id m.session m.id) before) (list_any (has_id m.session m.id) now) is

still_worked : (spec : Spec) (h : List Event) (e : Event) (w : Work) → is_work_fetched spec h w ≡ true → is_work_fetched spec (h ++ e ∷ []) w ≡ true
still_worked spec h e (Accepted m) is = still_fetched spec h e m is
still_worked spec h e Idle is = refl
still_worked spec h e (Out m is_held) is = refl

still_accepted : (spec : Spec) (h : List Event) (e : Event) (w : Participant) → has_fetched spec h w ≡ true → has_fetched spec (h ++ e ∷ []) w ≡ true
still_accepted spec h e w is =
    all-le (is_slot_fetched spec h) (is_slot_fetched spec (h ++ e ∷ [])) (λ (x : Slot). still_worked spec h e x.work) w.slots is

-- an item of a list in which one was put
pub put_at : {X : Type 0} (P : X → Type 0) (xs : List X) (n j : ℕ) (y d : X) → ((n == j) ≡ true → P y) → ((n == j) ≡ true → P d)
    → ((n == j) ≡ false → P (slice_index_or xs j d)) → P (slice_index_or (slice_set xs n y) j d)
put_at P [] n j y d new none old = one (n == j) refl
  where
    one : (b : Bool) → (n == j) ≡ b → P d
    one true is = none is
    one false is = old is
put_at P (x ∷ xs) zero zero y d new none old = new refl
put_at P (x ∷ xs) zero (suc j) y d new none old = old (grind (arith, nat_tests))
put_at P (x ∷ xs) (suc n) zero y d new none old = old (grind (arith, nat_tests))
put_at P (x ∷ xs) (suc n) (suc j) y d new none old =
    put_at P xs n j y d (λ is. new (grind (arith, nat_tests, is))) (λ is. none (grind (arith, nat_tests, is))) (λ is. old (grind (arith, nat_tests, is)))

pub item_at : {X : Type 0} (p : X → Bool) (xs : List X) (n : ℕ) (d : X) → list_all p xs ≡ true → p d ≡ true → p (slice_index_or xs n d) ≡ true
item_at p [] n d all none = none
item_at p (x ∷ xs) zero d all none = grind (arith, all)
item_at p (x ∷ xs) (suc n) d all none = item_at p xs n d (grind (arith, all)) none

-- an idle controller's turn is of any board
pub idle_there : (spec : Spec) (h : List Event) (k : ControllerId) → IsTurnOf spec h k (idle_controller k)
idle_there spec h k = record { id = refl; of_board = record { told = inl refl; planned = tt } }

pub id_same : (a b : ControllerId) → (a.0 == b.0) ≡ true → a ≡ b
id_same a b e = let same : a.0 ≡ b.0 = grind (arith, nat_tests, e) in ap (λ (n : ℕ). record { 0 = n }) same

-- a controller that another's place is given to, where the history is as it was
pub turn_put : (spec : Spec) (h : List Event) (xs : List Controller) (y : Controller) (k : ControllerId) → OfBoard spec h y
    → IsTurnOf spec h k (slice_index_or xs k.0 (idle_controller k)) → IsTurnOf spec h k (slice_index_or (slice_set xs y.id.0 y) k.0 (idle_controller k))
turn_put spec h xs y k board old =
    put_at (IsTurnOf spec h k) xs y.id.0 k.0 y (idle_controller k) (λ is. record { id = id_same y.id k is; of_board = board }) (λ is. idle_there spec h k) (λ is. old)

-- after an event that is not the controller's own, and after one that is
pub turn_other : (spec : Spec) (h : List Event) (e : Event) (k : ControllerId) (x : Controller) → is_own k e ≡ false → IsTurnOf spec h k x → IsTurnOf spec (h ++ e ∷ []) k x
turn_other spec h e k x other t = record {
  id = t.id;
  of_board = others_keep spec h x e (subst (λ (j : ControllerId). is_own j e ≡ false) (sym t.id) other) t.of_board;
}

pub turn_called : (spec : Spec) (h : List Event) (e : Event) (xs : List Controller) (y : Controller) (k : ControllerId)
    → ((j : ControllerId) → is_own j e ≡ (y.id.0 == j.0)) → OfBoard spec (h ++ e ∷ []) y
    → IsTurnOf spec h k (slice_index_or xs k.0 (idle_controller k)) → IsTurnOf spec (h ++ e ∷ []) k (slice_index_or (slice_set xs y.id.0 y) k.0 (idle_controller k))
turn_called spec h e xs y k own board old =
    put_at (IsTurnOf spec (h ++ e ∷ []) k) xs y.id.0 k.0 y (idle_controller k)
    (λ is. record { id = id_same y.id k is; of_board = board }) (λ is. idle_there spec (h ++ e ∷ []) k)
    (λ is. turn_other spec h e k (slice_index_or xs k.0 (idle_controller k)) (own k ∙ is) old)

-- an event that may happen and is proper, with the controllers as they then are
pub scripted_next : (spec : Spec) (last : Last) (later : Option ℕ) (w : World) (e : Event) (cs : List Controller) (weight : ℕ) → IsScripted spec last w
    → IsStep w.cluster e → IsProper spec w.history e → (next w.cluster e).line ≡ later → length cs ≡ spec.controllers
    → ((k : ControllerId) → IsTurnOf spec (w.history ++ e ∷ []) k (slice_index_or cs k.0 (idle_controller k)))
    → IsScripted spec (at_line last later) (record w { cluster = next w.cluster e; history = w.history ++ e ∷ []; weight = weight; controllers = cs })
scripted_next spec last later w e cs weight s step proper line few turns = record {
  of = record {
    given = s.of.given;
    legal = legal_more (opening spec) w.history e s.of.legal (subst (λ (c : Cluster). IsStep c e) s.of.cluster step);
    cluster = ap (λ (c : Cluster). next c e) s.of.cluster ∙ sym (replay_more (opening spec) w.history e);
    controllers = few;
    turns = turns;
    bag = all-le (is_fetched spec w.history) (is_fetched spec (w.history ++ e ∷ [])) (still_fetched spec w.history e) w.bag s.of.bag;
    accepted = all-le (has_fetched spec w.history) (has_fetched spec (w.history ++ e ∷ [])) (still_accepted spec w.history e) w.participants s.of.accepted;
  };
  line = line;
  proper = λ is. proper_more spec [] w.history e (s.proper is) proper;
}

-- one that is no controller's own
pub scripted_other : (spec : Spec) (last : Last) (later : Option ℕ) (w : World) (e : Event) (weight : ℕ) → IsScripted spec last w
    → IsStep w.cluster e → IsProper spec w.history e → (next w.cluster e).line ≡ later → ((k : ControllerId) → is_own k e ≡ false)
    → IsScripted spec (at_line last later) (record w { cluster = next w.cluster e; history = w.history ++ e ∷ []; weight = weight })
scripted_other spec last later w e weight s step proper line other =
    scripted_next spec last later w e w.controllers weight s step proper line s.of.controllers
    (λ k. turn_other spec w.history e k (controller_of w k) (other k) (s.of.turns k))
