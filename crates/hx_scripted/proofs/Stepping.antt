-- A step of a controller's turn may happen and is proper.
use Rattle.std.proofs.Common.{◌≡◌, ℕ, zero, suc, ◌==◌, not, Bool, true, false, List, [], ◌∷◌, ◌++◌, length, take, length-take, Option, Some, None, ◌⊎◌, inl, inr, refl, sym, ap, ◌∙◌, subst, arith}
use Rattle.std.specs.Prelude.{if◌then◌else◌, nat_lt, slice_set, slice_index_or}
use Rattle.std.specs.List.{list_all}
use Rattle.std.specs.Option.{option_map_or}
use Rattle.std.proofs.lemmas.Bool.Decides.{nat_tests}
use Rattle.std.proofs.lemmas.List.{append-nil}
use Rattle.hx_ids.specs.declared.ControllerId.{ControllerId}
use Rattle.hx_cluster.specs.declared.description.Spec.{Spec}
use Rattle.hx_cluster.specs.declared.state.Cluster.{Cluster}
use Rattle.hx_cluster.specs.declared.planning.Plan.{Plan}
use Rattle.hx_cluster.specs.declared.happenings.Event.{Event}
use Rattle.hx_cluster.specs.declared.happenings.Event.TheVariants as events
use Rattle.hx_cluster.specs.Steps.{opening, is_leader, has_controller}
use Rattle.hx_cluster.specs.Reads.{pass_of}
use Rattle.hx_cluster.specs.Events.{next, begun_of, dispatched_of, is_proposable, is_epoch, is_pass, IsStep}
use Rattle.hx_cluster.specs.Valid.{is_valid_model, IsValid}
use Rattle.hx_cluster.specs.Ranged.{IsRanged}
use Rattle.hx_pass.specs.Plans.{plan}
use Rattle.hx_pass.specs.Turns.{Call, Live, Mail, States, Ideals, Send, Post, Turn, idle_turn, same_call, is_first, is_due, is_of_epoch, turn_of, posted_of}
use Rattle.hx_pass.specs.Lawful.{IsProper}
use Rattle.hx_control.specs.declared.PassOutcome.{PassOutcome}
use Rattle.hx_control.specs.declared.ControlFault.{ControlFault}
use Rattle.hx_control.specs.declared.ControlFault.TheVariants as faults
use Rattle.hx_control.specs.Controllers.{Controller, idle_controller}
use Rattle.hx_control.specs.Steps.{Step, Calls, Plans, Refuses, outcome_of, is_of_cluster, begin_step, read_step, planned_step, post_step, of_cluster, step_at, step_of, after_step}
use Rattle.hx_control.specs.OfBoard.{IsPlanOf, OfBoard, calls_of, is_own}
use Rattle.hx_control.proofs.KeepsTurns.{step_keeps}
use Rattle.hx_worlds.specs.World.{World, State, controller_of, with_controller}
use Rattle.hx_worlds.specs.Runs.{happened}
use Rattle.hx_safe.proofs.Counting.{and-both}
use Rattle.hx_safe.proofs.Ends.{same-self}
use Rattle.hx_safe.proofs.Fixed.{IsFixed}
use Rattle.hx_safe.proofs.Ideals.{length-put}
use Rattle.hx_scripted.proofs.Standing.{Last, IsScripted, ranged_there, fixed_there, turn_put, turn_called, scripted_next}
use Rattle.hx_control.proofs.Proposed.{HasGiven, proposed, posted}
use Rattle.hx_scripted.proofs.Lines.{pass-line, dispatch-line}
use Rattle.hx_scripted.proofs.Asked.{controller_there}

-- what a cluster in range has of its description
given_there : (spec : Spec) (c : Cluster) → IsValid spec → IsRanged c → IsFixed (opening spec) c → HasGiven spec c
given_there spec c valid r same = record {
  models = ap (λ (n : ℕ). list_all (is_valid_model n) spec.models) same.states ∙ valid.models;
  states =
      let few : length (take 8 spec.states) ≡ 8 = ap length valid.builtin_states in
      let cut = length-take 8 spec.states in
      let named : c.states ≡ length spec.states = same.states in
      omega arith;
  instances = let some = r.instances in grind (arith, nat_tests, some);
}

-- a call of a controller, where it stands
pub record IsCall (spec : Spec) (c : Cluster) (h : List Event) (k : ControllerId) (e : Event) : Type 0 where
  pub step : IsStep c e
  pub proper : IsProper spec h e
  pub own : (j : ControllerId) → is_own j e ≡ (k.0 == j.0)
  pub line : (next c e).line ≡ c.line

abbrev pub AreCalls : Spec → Cluster → List Event → ControllerId → Step → Type 0
AreCalls spec c h k (Calls e outcome) = IsCall spec c h k e
AreCalls spec c h k _ = Unit {0}

module _ (spec : Spec) (c : Cluster) (h : List Event) (x : Controller) where
  called_if : (b : Bool) (e : Event) (outcome : Option PassOutcome) (fault : ControlFault) → (b ≡ true → IsCall spec c h x.id e)
      → AreCalls spec c h x.id (if b then Calls e outcome else Refuses fault)
  called_if true e outcome fault call = call refl
  called_if false e outcome fault call = tt

  -- the turn that is under way is the one that the history tells
  told_by : (call : Call) (rest : List Call) → (call ∷ rest) ≡ x.turn.left → (x.turn ≡ idle_turn) ⊎ (x.turn ≡ turn_of spec x.id h) → x.turn ≡ turn_of spec x.id h
  told_by call rest same (inl idle) = let none : x.turn.left ≡ [] = ap (λ (t : Turn). t.left) idle in cc
  told_by call rest same (inr told) = told

  due_now : (call : Call) (rest : List Call) → (call ∷ rest) ≡ x.turn.left → same_call call call ≡ true → x.turn ≡ turn_of spec x.id h
      → is_due (turn_of spec x.id h) call x.turn.begun.pass ≡ true
  due_now call rest same alike told =
      subst (λ (t : Turn). is_due t call x.turn.begun.pass ≡ true) told
      (and-both (is_first call x.turn.left) (x.turn.begun.pass.0 == x.turn.begun.pass.0) (ap (is_first call) (sym same) ∙ alike) (same-self x.turn.begun.pass.0))

  of_epoch_now : x.turn ≡ turn_of spec x.id h → is_of_epoch (turn_of spec x.id h) x.turn.begun.epoch ≡ true
  of_epoch_now told = subst (λ (t : Turn). is_of_epoch t x.turn.begun.epoch ≡ true) told (same-self x.turn.begun.epoch.0)

  begins : IsRanged c → AreCalls spec c h x.id (begin_step c x)
  begins r =
      called_if (is_leader x.id c.leader) (events.Begin x.id (begun_of c x.id)) None (faults.NotLeader c.leader)
      (λ leads. record { step = (led c.leader leads r.leader, leads, refl); proper = tt; own = λ j. refl; line = pass-line c x.id })
    where
      led : (l : Option ControllerId) → is_leader x.id l ≡ true → option_map_or (has_controller c) l true ≡ true → has_controller c x.id ≡ true
      led None leads there = cc
      led (Some l) leads there = grind (arith, nat_tests, leads, there)

  reads : (e : Event) → (is_pass c x.id x.turn.begun.pass ≡ true → IsCall spec c h x.id e) → AreCalls spec c h x.id (read_step c x e)
  reads e call = called_if (is_pass c x.id x.turn.begun.pass) e None (faults.OldPass (pass_of c x.id)) call

  called_if_both : (a b : Bool) (e : Event) (outcome : Option PassOutcome) (f g : ControlFault) → (a ≡ true → b ≡ true → IsCall spec c h x.id e)
      → AreCalls spec c h x.id (if not a then Refuses f else if not b then Refuses g else Calls e outcome)
  called_if_both true true e outcome f g call = call refl refl
  called_if_both true false e outcome f g call = tt
  called_if_both false b e outcome f g call = tt

  called_of_cluster : (b : Bool) (s : Step) → (b ≡ true → AreCalls spec c h x.id s) → AreCalls spec c h x.id (of_cluster b s)
  called_of_cluster true s calls = calls refl
  called_of_cluster false s calls = tt

  dispatches : (rest : List Call) → (Send ∷ rest) ≡ x.turn.left → x.turn ≡ turn_of spec x.id h → HasGiven spec c → is_of_cluster spec c x.turn.view ≡ true
      → (p : Option Plan) → IsPlanOf spec x.turn p → AreCalls spec c h x.id (planned_step spec c x p)
  dispatches rest same told g of None planned = tt
  dispatches rest same told g of (Some p) planned =
      called_if_both (is_epoch c x.turn.begun.epoch) (is_pass c x.id x.turn.begun.pass)
      (events.Dispatch x.id x.turn.begun.epoch x.turn.begun.pass p.proposals (dispatched_of c x.id p.proposals))
      (Some (outcome_of x.turn p (dispatched_of c x.id p.proposals))) (faults.Fenced c.epoch) (faults.OldPass (pass_of c x.id))
      (λ epoch pass. record {
        step = (
          subst (λ (q : Plan). list_all (is_proposable c) q.proposals ≡ true) (sym planned.1) (proposed spec c x.turn.view g of),
          epoch,
          pass,
          refl,
        );
        proper = (
          due_now Send rest same refl told,
          of_epoch_now told,
          ap (λ (q : Plan). q.proposals) planned.1 ∙ ap (λ (t : Turn). (plan spec.models spec.rules t.view).proposals) told,
        );
        own = λ j. refl;
        line = dispatch-line c x.id p.proposals;
      })

  posts : (rest : List Call) → (Post ∷ rest) ≡ x.turn.left → x.turn ≡ turn_of spec x.id h → HasGiven spec c → has_controller c x.id ≡ true
      → is_of_cluster spec c x.turn.view ≡ true → AreCalls spec c h x.id (post_step c x)
  posts rest same told g there of =
      called_if (is_epoch c x.turn.begun.epoch) (events.Post x.id x.turn.begun.epoch (posted_of x.turn.view)) None (faults.Fenced c.epoch)
      (λ epoch. record {
        step = (there, posted spec c x.turn.view g of, epoch);
        proper = (
          subst (λ (t : Turn). is_first Post t.left ≡ true) told (ap (is_first Post) (sym same)),
          of_epoch_now told,
          ap (λ (t : Turn). posted_of t.view) told,
        );
        own = λ j. refl;
        line = refl;
      })

  called : (left : List Call) → left ≡ x.turn.left → IsRanged c → HasGiven spec c → ((call : Call) (rest : List Call) → (call ∷ rest) ≡ x.turn.left → has_controller c x.id ≡ true)
      → OfBoard spec h x → AreCalls spec c h x.id (step_at spec c x left)
  called [] same r g there b = begins r
  called (Live ∷ rest) same r g there b =
      reads (events.Live x.id x.turn.begun.pass)
      (λ pass. record { step = pass; proper = due_now Live rest same refl (told_by Live rest same b.told); own = λ j. refl; line = refl })
  called (Mail s ∷ rest) same r g there b =
      reads (events.Mail x.id x.turn.begun.pass s)
      (λ pass. record { step = pass; proper = due_now (Mail s) rest same (same-self s.0) (told_by (Mail s) rest same b.told); own = λ j. refl; line = refl })
  called (States s ∷ rest) same r g there b =
      reads (events.States x.id x.turn.begun.pass s)
      (λ pass. record { step = pass; proper = due_now (States s) rest same (same-self s.0) (told_by (States s) rest same b.told); own = λ j. refl; line = refl })
  called (Ideals ∷ rest) same r g there b =
      reads (events.Ideals x.id x.turn.begun.pass)
      (λ pass. record { step = pass; proper = due_now Ideals rest same refl (told_by Ideals rest same b.told); own = λ j. refl; line = refl })
  called (Send ∷ rest) same r g there b =
      called_of_cluster (is_of_cluster spec c x.turn.view) (planned_step spec c x x.plan)
      (λ of. dispatches rest same (told_by Send rest same b.told) g of x.plan b.planned)
  called (Post ∷ rest) same r g there b =
      called_of_cluster (is_of_cluster spec c x.turn.view) (post_step c x)
      (λ of. posts rest same (told_by Post rest same b.told) g (there Post rest same) of)

-- a controller with calls left is one of the world's
listed_there : (xs : List Controller) (n : ℕ) (d : Controller) (call : Call) (rest : List Call) → d.turn.left ≡ [] → (call ∷ rest) ≡ (slice_index_or xs n d).turn.left
    → nat_lt n (length xs) ≡ true
listed_there [] n d call rest none left = cc
listed_there (y ∷ xs) zero d call rest none left = grind (arith, nat_tests)
listed_there (y ∷ xs) (suc n) d call rest none left = let less = listed_there xs n d call rest none left in grind (arith, nat_tests, less)

-- the next step of a world's controller, and the turn that it leaves
pub record IsNext (spec : Spec) (w : World) (x : Controller) (s : Step) : Type 0 where
  pub called : AreCalls spec w.cluster w.history x.id s
  pub keeps : OfBoard spec (w.history ++ calls_of s) (after_step w.cluster x s)

pub next_there : (spec : Spec) (last : Last) (w : World) (k : ControllerId) → IsValid spec → IsScripted spec last w
    → IsNext spec w (controller_of w k) (step_of w.spec w.cluster (controller_of w k))
next_there spec last w k valid s =
    let x = controller_of w k in
    let ranged = ranged_there spec last w valid s in
    let fixed = fixed_there spec last w s in
    let turn = s.of.turns k in
    let there : (call : Call) (rest : List Call) → (call ∷ rest) ≡ x.turn.left → has_controller w.cluster x.id ≡ true = λ call rest left.
    subst (λ (j : ControllerId). has_controller w.cluster j ≡ true) (sym turn.id)
    (controller_there spec w.cluster k fixed (ap (nat_lt k.0) (sym s.of.controllers) ∙ listed_there w.controllers k.0 (idle_controller k) call rest refl left)) in
    subst (λ (given : Spec). IsNext spec w x (step_of given w.cluster x)) (sym s.of.given)
    (record {
      called = called spec w.cluster w.history x x.turn.left refl ranged (given_there spec w.cluster valid ranged fixed) there turn.of_board;
      keeps = subst (λ (c : Cluster). OfBoard spec (w.history ++ calls_of (step_of spec c x)) (after_step c x (step_of spec c x))) (sym s.of.cluster) (step_keeps spec w.history x turn.of_board);
    })

-- the world with a controller put, where nothing happens, and where a call of its happens
pub put_there : (spec : Spec) (last : Last) (w : World) (y : Controller) → IsScripted spec last w → OfBoard spec w.history y
    → IsScripted spec last (record w { controllers = slice_set w.controllers y.id.0 y })
put_there spec last w y s board = record {
  of = record {
    given = s.of.given;
    legal = s.of.legal;
    cluster = s.of.cluster;
    controllers = length-put w.controllers y.id.0 y ∙ s.of.controllers;
    turns = λ k. turn_put spec w.history w.controllers y k board (s.of.turns k);
    bag = s.of.bag;
    accepted = s.of.accepted;
  };
  line = s.line;
  proper = s.proper;
}

pub call_there : (spec : Spec) (last : Last) (x : State) (k : Controller) (e : Event) (outcome : Option PassOutcome) → IsScripted spec last x.world
    → IsNext spec x.world k (Calls e outcome) → IsScripted spec last (with_controller (after_step x.world.cluster k (Calls e outcome)) (happened e x)).world
call_there spec last x k e outcome s n =
    let w = x.world in
    let y = after_step w.cluster k (Calls e outcome) in
    scripted_next spec last last.line w e (slice_set w.controllers k.id.0 y) (happened e x).world.weight s n.called.step n.called.proper (n.called.line ∙ s.line)
    (length-put w.controllers k.id.0 y ∙ s.of.controllers) (λ j. turn_called spec w.history e w.controllers y j n.called.own n.keeps (s.of.turns j))

pub plan_there : (spec : Spec) (last : Last) (x : State) (k : Controller) (p : Plan) → IsScripted spec last x.world
    → IsNext spec x.world k (Plans p) → IsScripted spec last (with_controller (after_step x.world.cluster k (Plans p)) x).world
plan_there spec last x k p s n =
    let y = after_step x.world.cluster k (Plans p) in
    put_there spec last x.world y s (subst (λ (h : List Event). OfBoard spec h y) (append-nil x.world.history) n.keeps)

pub fault_there : (spec : Spec) (last : Last) (x : State) (k : ControllerId) → IsScripted spec last x.world → IsScripted spec last (with_controller (idle_controller k) x).world
fault_there spec last x k s = put_there spec last x.world (idle_controller k) s (record { told = inl refl; planned = tt })
