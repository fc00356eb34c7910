-- A step of a turn is an advance, and then what is said of its answer.
use Rattle.std.proofs.Common.{◌≡◌, ℕ, List, [], ◌∷◌, Option, None, refl, ap, sym, subst, ◌∙◌}
use Rattle.std.specs.Prelude.{Result, Ok, Err, ◌++◌, map}
use Rattle.std.proofs.lemmas.List.{append-nil}
use Rattle.hx_ids.specs.declared.ControllerId.{ControllerId}
use Rattle.hx_ids.specs.declared.Epoch.{Epoch}
use Rattle.hx_cluster.specs.declared.planning.Full.{Full}
use Rattle.hx_cluster.specs.declared.planning.Target.{Target}
use Rattle.hx_cluster.specs.declared.planning.Entry.{Entry}
use Rattle.hx_cluster.specs.declared.planning.Finding.{Finding}
use Rattle.hx_cluster.specs.declared.planning.Finding.TheVariants as findings
use Rattle.hx_cluster.specs.Bests.{at_best}
use Rattle.hx_control.specs.declared.PassOutcome.{PassOutcome}
use Rattle.hx_control.specs.declared.ControlFault.{ControlFault}
use Rattle.hx_control.specs.declared.ControlFault.TheVariants as faults
use Rattle.hx_control.specs.Controllers.{Controller}
use Rattle.hx_control.specs.Steps.{Step, Calls, Plans, Refuses, after_step, step_of}
use Rattle.hx_board.specs.declared.faults.RoomFault.{RoomFault}
use Rattle.hx_worlds.specs.declared.Voice.{Voice}
use Rattle.hx_worlds.specs.declared.Voice.TheVariants.{Loud, Quiet}
use Rattle.hx_worlds.specs.World.{Answers, State, with_controller, controller_of}
use Rattle.hx_worlds.specs.Runs.{Run, Deed, GoesOn, Stops, gives, done, go_on, and_then, happen, after_items}
use Rattle.hx_worlds.specs.Turns.{say_finding, say_entries, tell_outcome, note_fault, stepped, step}
use Rattle.hx_scene.specs.Scenes.{SceneState, at, world_of}
use Rattle.hx_scene.specs.Kept.{IsScene}
use Rattle.hx_scene.specs.Advances.{advanced, advance}
use Rattle.hx_scene.specs.Doing.{Reaches, Ends, Fails, DoesDeed}
use Rattle.hx_scene.proofs.Reaching.{after_none, does_as, fails_as, fails_inside, fails_inside_deed, fails_after, reaches_as, there, then_on, then_do}

abbrev pub told : Voice → ControllerId → Result (Option PassOutcome) ControlFault → State → Run (Option PassOutcome)
told v k (Ok outcome) x = and_then (tell_outcome v k outcome x) (λ y. gives y outcome)
told v k (Err fault) x = and_then (note_fault v fault x) (λ y. gives y None)

-- an operation, a pure change with an answer, and what is done by that answer
pub changed_on : {A B : Type 0} (r : Deed) (change : State → State) (answer : A) (f : A → State → Run B)
    → and_then r (λ y. f answer (change y)) ≡ go_on (and_then r (λ y. gives (change y) answer)) f
changed_on (GoesOn is y a) change answer f = ap (λ l. after_items l (f answer (change y))) (sym (append-nil is))
changed_on (Stops is y) change answer f = refl

told_none : (v : Voice) (k : ControllerId) (x : State) → gives x None ≡ told v k (Ok None) x
told_none (Loud line) k x = refl
told_none Quiet k x = refl

stepped_as : (v : Voice) (k : Controller) (next : Step) (x : State) → stepped v k next x ≡ go_on (advanced k next x) (told v k.id)
stepped_as v k (Calls e outcome) x = changed_on (happen e x) (with_controller (after_step x.world.cluster k (Calls e outcome))) (Ok outcome) (told v k.id)
stepped_as v k (Plans p) x =
    let y = with_controller (after_step x.world.cluster k (Plans p)) x in
    told_none v k.id y ∙ sym (after_none (told v k.id (Ok None) y))
stepped_as v k (Refuses fault) x =
    let y = with_controller (after_step x.world.cluster k (Refuses fault)) x in
    sym (after_none (told v k.id (Err fault) y))

pub step_as : (v : Voice) (k : ControllerId) (s : SceneState) → IsScene s → (a : Answers) → step v k (at s a) ≡ go_on (advance k (at s a)) (told v k)
step_as v k s good a =
    let x = controller_of (world_of s) k in
    stepped_as v x (step_of s.spec s.board.cluster x) (at s a)
    ∙ ap (λ (i : ControllerId). go_on (advance k (at s a)) (told v i)) (good.of_history.turns k).id

-- how a step comes to its end, or fails
pub step_fails : (v : Voice) (k : ControllerId) (s : SceneState) (p : List ℕ) → IsScene s → (fault : RoomFault) (u : SceneState) (q : List ℕ) → Fails (advance k) s p fault u q
    → Fails (step v k) s p fault u q
step_fails v k s p good fault u q e = fails_as (step v k) (λ x. go_on (advance k x) (told v k)) s (step_as v k s good) p fault u q (fails_inside (advance k) s p fault u q e (told v k))

pub step_then : {answer : Result (Option PassOutcome) ControlFault} (v : Voice) (k : ControllerId) (s : SceneState) (p : List ℕ) → IsScene s → (u : SceneState) (q : List ℕ) → Ends (advance k) s p answer u q
    → Reaches (step v k) s p (told v k answer) u q
step_then v k s p good u q e = reaches_as (step_as v k s good) (then_on e (told v k))

pub step_told : (v : Voice) (k : ControllerId) (s : SceneState) (p : List ℕ) → IsScene s → (answer : Result (Option PassOutcome) ControlFault) (outcome : Option PassOutcome) → answer ≡ Ok outcome
    → (u : SceneState) (q : List ℕ) → Ends (advance k) s p answer u q → (w : SceneState) (r : List ℕ) → Ends (tell_outcome v k outcome) u q tt w r → Ends (step v k) s p outcome w r
step_told v k s p good answer outcome is u q e w r f =
    there (step_then v k s p good u q (subst (λ o. Ends (advance k) s p o u q) is e)) (then_do f (λ y. gives y outcome))

pub step_tell_fails : (v : Voice) (k : ControllerId) (s : SceneState) (p : List ℕ) → IsScene s → (answer : Result (Option PassOutcome) ControlFault) (outcome : Option PassOutcome) → answer ≡ Ok outcome
    → (u : SceneState) (q : List ℕ) → Ends (advance k) s p answer u q → (fault : RoomFault) (w : SceneState) (r : List ℕ) → Fails (tell_outcome v k outcome) u q fault w r → Fails (step v k) s p fault w r
step_tell_fails v k s p good answer outcome is u q e fault w r f =
    fails_after (step_then v k s p good u q (subst (λ o. Ends (advance k) s p o u q) is e)) fault w r (fails_inside_deed (tell_outcome v k outcome) u q fault w r f (λ y. gives y outcome))

pub step_noted : (v : Voice) (k : ControllerId) (s : SceneState) (p : List ℕ) → IsScene s → (answer : Result (Option PassOutcome) ControlFault) (why : ControlFault) → answer ≡ Err why
    → (u : SceneState) (q : List ℕ) → Ends (advance k) s p answer u q → (w : SceneState) (r : List ℕ) → Ends (note_fault v why) u q tt w r → Ends (step v k) s p None w r
step_noted v k s p good answer why is u q e w r f =
    there (step_then v k s p good u q (subst (λ o. Ends (advance k) s p o u q) is e)) (then_do f (λ y. gives y None))

pub step_note_fails : (v : Voice) (k : ControllerId) (s : SceneState) (p : List ℕ) → IsScene s → (answer : Result (Option PassOutcome) ControlFault) (why : ControlFault) → answer ≡ Err why
    → (u : SceneState) (q : List ℕ) → Ends (advance k) s p answer u q → (fault : RoomFault) (w : SceneState) (r : List ℕ) → Fails (note_fault v why) u q fault w r → Fails (step v k) s p fault w r
step_note_fails v k s p good answer why is u q e fault w r f =
    fails_after (step_then v k s p good u q (subst (λ o. Ends (advance k) s p o u q) is e)) fault w r (fails_inside_deed (note_fault v why) u q fault w r f (λ y. gives y None))

-- nothing is said of replicas at their best
said_of_rest : (ts : List Target) (es : List Entry) (x : State) → say_entries (map at_best ts ++ es) x ≡ say_entries es x
said_of_rest [] es x = refl
said_of_rest (t ∷ ts) es x = after_none (say_entries (map at_best ts ++ es) x) ∙ said_of_rest ts es x

pub said_behind : (all : List Entry) (ts : List Target) (es : List Entry) → all ≡ map at_best ts ++ es → (s : SceneState) (p : List ℕ) (u : SceneState) (q : List ℕ) (result : Result (Unit {0}) RoomFault)
    → DoesDeed (say_entries es) s p u q result → DoesDeed (say_entries all) s p u q result
said_behind all ts es is s p u q result e =
    does_as (say_entries all) (say_entries es) s (λ a. ap (λ l. say_entries l (at s a)) is ∙ said_of_rest ts es (at s a)) (λ r. tt) p u q result e

-- findings and refusals of which nothing is said
pub nothing_found : (t : Target) (f : Finding) (x : State) → (f ≡ findings.Failed → ⊥) → ((full : Full) → f ≡ findings.Full full → ⊥) → say_finding t f x ≡ done x
nothing_found t findings.Failed x one two = absurd (one refl)
nothing_found t (findings.Full full) x one two = absurd (two full refl)
nothing_found t (findings.Pending id) x one two = refl
nothing_found t findings.AtBest x one two = refl
nothing_found t findings.Sent x one two = refl
nothing_found t (findings.Held held) x one two = refl

pub nothing_noted : (v : Voice) (f : ControlFault) (x : State) → ((led : Option ControllerId) → f ≡ faults.NotLeader led → ⊥) → ((now : Epoch) → f ≡ faults.Fenced now → ⊥) → note_fault v f x ≡ done x
nothing_noted v (faults.NotLeader led) x one two = absurd (one led refl)
nothing_noted v (faults.Fenced now) x one two = absurd (two now refl)
nothing_noted v (faults.OldPass now) x one two = refl
nothing_noted v (faults.HistoryFull weight) x one two = refl
nothing_noted v faults.OtherBoard x one two = refl
nothing_noted v faults.OutOfMemory x one two = refl
