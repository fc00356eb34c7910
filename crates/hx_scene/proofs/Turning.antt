-- A controller takes a step of its turn in a scene: the scene stays one, and what is done is the operation.
use Rattle.std.proofs.Common.{◌≡◌, ℕ, ◌⊎◌, inl, inr, not, Bool, true, false, List, [], ◌∷◌, ◌++◌, length, Option, None, Some, refl, sym, ap, subst, ◌∙◌}
use Rattle.std.specs.Prelude.{if◌then◌else◌, slice_index_or, slice_set, Result, Ok, Err, IfNone, IsErrAnd}
use Rattle.std.proofs.lemmas.List.{append-nil, set-get_or, get_or_read}
use Rattle.std.proofs.Math.Seq.{take-nil}
use Rattle.hx_ids.specs.declared.ControllerId.{ControllerId}
use Rattle.hx_cluster.specs.declared.description.Spec.{Spec}
use Rattle.hx_cluster.specs.declared.state.Cluster.{Cluster}
use Rattle.hx_cluster.specs.declared.happenings.Event.{Event}
use Rattle.hx_cluster.specs.declared.happenings.Event.TheVariants as events
use Rattle.hx_cluster.specs.Steps.{has_controller, is_leader}
use Rattle.hx_cluster.specs.Reads.{pass_of}
use Rattle.hx_cluster.specs.Events.{begun_of, dispatched_of, is_epoch, is_pass}
use Rattle.hx_pass.specs.Plans.{plan}
use Rattle.hx_cluster.specs.Weight.{weight_of}
use Rattle.hx_text.specs.Texts.{Prints, PutsFront}
use Rattle.hx_print.specs.declared.roll.Roll.{Roll}
use Rattle.hx_print.specs.Texts.{event_text, entry_text}
use Rattle.hx_board.specs.declared.faults.RoomFault.{RoomFault}
use Rattle.hx_board.specs.declared.faults.RoomFault.TheVariants as rooms
use Rattle.hx_board.specs.Board.{Held, HasHistory, weight_at}
use Rattle.hx_board.specs.Board.{happened as on_board}
use Rattle.hx_pass.specs.Turns.{Call, Live, Mail, States, Ideals, Send, Post, posted_of}
use Rattle.hx_cluster.specs.declared.planning.Plan.{Plan}
use Rattle.hx_control.specs.declared.PassOutcome.{PassOutcome}
use Rattle.hx_control.specs.declared.ControlFault.{ControlFault}
use Rattle.hx_control.specs.declared.ControlFault.TheVariants as faults
use Rattle.hx_control.specs.Controllers.{Controller, idle_controller}
use Rattle.hx_control.specs.OfBoard.{IsPlanOf}
use Rattle.hx_control.specs.Steps.{Step, Calls, Plans, Refuses, outcome_of, is_of_cluster, read_step, planned_step, post_step, of_cluster, step_at, step_of, after_step}
use Rattle.hx_control.specs.Made.{step_fault, ends_turn, IsMade, Takes}
use Rattle.hx_worlds.specs.World.{State, Missing, controller_of, with_controller}
use Rattle.hx_worlds.specs.Runs.{Run, gives, and_then}
use Rattle.hx_scripted.proofs.Standing.{since}
use Rattle.hx_agreed.proofs.Operations.{controller_is, turn_planned, restart_stands}
use Rattle.hx_scene.specs.Scenes.{SceneState, at, world_of}
use Rattle.hx_scene.specs.Heard.{heard, event_heard, entry_heard}
use Rattle.hx_scene.specs.Kept.{IsScene}
use Rattle.hx_scene.specs.Doing.{Keeps, Ends, IsCut, Fails, Does}
use Rattle.hx_scene.specs.Advances.{advanced, advance, with_turn, IsStepped, IsRollFor}
use Rattle.hx_scene.proofs.Fronts.{heard_as}
use Rattle.hx_scene.proofs.Reaching.{reaches_as, cut_as, cut_here, cut_at_end, happens_and, happens_and_cut, changed_gives, room_of, no_room_of, kept_going}
use Rattle.hx_scene.proofs.Standing.{valid_in, stands_in, has_turn}
use Rattle.hx_scene.proofs.Advancing.{keeps_advance}
use Rattle.hx_scene.proofs.Happening.{stopped_here, no_room}

abbrev turn_in : SceneState → ControllerId → Controller
turn_in s k = controller_of (world_of s) k

abbrev next_in : SceneState → ControllerId → Step
next_in s k = step_of s.spec s.board.cluster (turn_in s k)

-- the controller of a number
pub turn_read : {s : SceneState} (k : ControllerId) (x : Controller) → IsScene s → has_controller s.board.cluster k ≡ true → x ≡ slice_index_or s.controllers k.0 x → x ≡ turn_in s k
turn_read {s} k x is there e = get_or_read s.controllers k.0 x (has_turn s is k there) e (idle_controller k)

turn_id : {s : SceneState} (k : ControllerId) → IsScene s → (turn_in s k).id ≡ k
turn_id {s} k is = controller_is s.spec (valid_in s is) (since s.board.cluster.line) k (at s Missing) (stands_in s is Missing)

pub turn_has : {s : SceneState} (k : ControllerId) (x : Controller) → IsScene s → has_controller s.board.cluster k ≡ true → x ≡ slice_index_or s.controllers k.0 x → has_controller s.board.cluster x.id ≡ true
turn_has {s} k x is there e = subst (λ j. has_controller s.board.cluster j ≡ true) (sym (ap (λ z. z.id) (turn_read k x is there e) ∙ turn_id k is)) there

pub turn_plans : {s : SceneState} (k : ControllerId) (x : Controller) → IsScene s → has_controller s.board.cluster k ≡ true → x ≡ slice_index_or s.controllers k.0 x → IsPlanOf s.spec x.turn x.plan
turn_plans {s} k x is there e =
    subst (λ z. IsPlanOf s.spec z.turn z.plan) (sym (turn_read k x is there e)) (turn_planned s.spec (valid_in s is) (since s.board.cluster.line) k (at s Missing) (stands_in s is Missing))

-- a turn is given up
scene_idle : {s : SceneState} (k : ControllerId) → IsScene s → IsScene (record s { controllers = slice_set s.controllers k.0 (idle_controller k) })
scene_idle {s} k is =
    let there = restart_stands s.spec (valid_in s is) (since s.board.cluster.line) k (at s Missing) (stands_in s is Missing) in
    record { own = is.own; history = is.history; of_history = there.scripted.of; in_step = there.in_step; listed = is.listed }

pub idle_is : {s : SceneState} (k : ControllerId) (x y : Controller) → IsScene s → has_controller s.board.cluster k ≡ true → x ≡ slice_index_or s.controllers k.0 x → y ≡ idle_controller x.id
    → record s { controllers = slice_set s.controllers k.0 y } ≡ record s { controllers = slice_set s.controllers k.0 (idle_controller k) }
idle_is {s} k x y is there e idle =
    ap (λ z. record s { controllers = slice_set s.controllers k.0 z }) (idle ∙ ap (λ z. idle_controller z.id) (turn_read k x is there e) ∙ ap idle_controller (turn_id k is))

pub scene_restarted : {s : SceneState} (k : ControllerId) (x y : Controller) → IsScene s → has_controller s.board.cluster k ≡ true → x ≡ slice_index_or s.controllers k.0 x → y ≡ idle_controller x.id
    → IsScene (record s { controllers = slice_set s.controllers k.0 y })
scene_restarted k x y is there e idle = subst IsScene (sym (idle_is k x y is there e idle)) (scene_idle k is)

-- what is known where none is found
pub none_found : {X P : Type 0} (found : Option X) → ((x : X) → found ≡ Some x → ⊥) → IfNone found P → P
none_found None none is = is
none_found (Some x) none is = absurd (none x refl)

-- what a step prints
abbrev printed_of : SceneState → Step → List ℕ
printed_of s (Calls e o) = entry_heard s e
printed_of s _ = []

-- the scene after a step, by what is known of its parts
turn_same : (s : SceneState) (j k : ControllerId) (b c : Held) (x y : Controller) → j ≡ k → b ≡ c → x ≡ y → with_turn s j b x ≡ with_turn s k c y
turn_same s j k b c x y ej eb ex = ap (λ i. with_turn s i b x) ej ∙ ap (λ d. with_turn s k d x) eb ∙ ap (λ z. with_turn s k c z) ex

turn_kept : (s : SceneState) (k : ControllerId) → with_turn s k s.board (turn_in s k) ≡ s
turn_kept s k = ap (λ l. record s { controllers = l }) (set-get_or s.controllers k.0 (idle_controller k))

keeps_turn : (s : SceneState) (k : ControllerId) (e : Event) (y : Controller) → Keeps s (with_turn s k (on_board s.board e) y) []
keeps_turn s k e y = record { muted = refl; lists = refl; lines = refl; told = λ c. (record { few = c.few; staff = c.staff; jobs = c.jobs }, tt) }

keeps_same : (s : SceneState) (k : ControllerId) (y : Controller) → Keeps s (with_turn s k s.board y) []
keeps_same s k y = record { muted = refl; lists = refl; lines = refl; told = λ c. (record { few = c.few; staff = c.staff; jobs = c.jobs }, tt) }

-- a step that is made, as if nothing had been printed before
made_ends : {s : SceneState} (k : ControllerId) (b : Held) (y : Controller) (outcome : Option PassOutcome) (step : Step) → IsScene s → next_in s k ≡ step → step_fault s.board step ≡ None
    → IsMade step s.board b (turn_in s k) y outcome → Ends (λ x. advance k x) s [] (Ok outcome) (with_turn s k b y) (printed_of s step)
made_ends {s} k b y outcome (Calls e o) is next free made =
    let c = turn_in s k in
    let z = after_step s.board.cluster c (Calls e o) in
    let u = with_turn s c.id (on_board s.board e) z in
    subst (λ v. Ends (λ x. advance k x) s [] (Ok outcome) v (entry_heard s e)) (turn_same s c.id k (on_board s.board e) b z y (turn_id k is) (sym made.board) (sym made.controller))
    (subst (λ r. Ends (λ x. advance k x) s [] (Ok r) u (entry_heard s e)) (sym made.answer)
    (reaches_as (λ a. ap (λ t. advanced c t (at s a)) next)
    (happens_and e (λ x. with_controller z x) (Ok o) [] s u [] (entry_heard s e) (room_of s.board (weight_of e) faults.HistoryFull free) (λ a _. refl) refl refl (keeps_turn s c.id e z) refl)))
made_ends {s} k b y outcome (Plans p) is next free made =
    let c = turn_in s k in
    let z = after_step s.board.cluster c (Plans p) in
    let u = with_turn s c.id s.board z in
    subst (λ v. Ends (λ x. advance k x) s [] (Ok outcome) v []) (turn_same s c.id k s.board b z y (turn_id k is) (sym made.board) (sym made.controller))
    (subst (λ r. Ends (λ x. advance k x) s [] (Ok r) u []) (sym made.answer)
    (reaches_as (λ a. ap (λ t. advanced c t (at s a)) next) (changed_gives (λ x. with_controller z x) (Ok None) s [] u (λ a. refl) refl refl (keeps_same s c.id z))))
made_ends k b y outcome (Refuses f) is next free made = cc

-- one that its own fault ends
fault_ends : {s : SceneState} (k : ControllerId) (fault : ControlFault) (p : List ℕ) → IsScene s → next_in s k ≡ Refuses fault
    → Ends (λ x. advance k x) s p (Err fault) (with_turn s k s.board (idle_controller (turn_in s k).id)) p
fault_ends {s} k fault p is next =
    let c = turn_in s k in
    let z = idle_controller c.id in
    subst (λ v. Ends (λ x. advance k x) s p (Err fault) v p) (turn_same s c.id k s.board s.board z z (turn_id k is) refl refl)
    (reaches_as (λ a. ap (λ t. advanced c t (at s a)) next)
    (changed_gives (λ x. with_controller z x) (Err fault) s p (with_turn s c.id s.board z) (λ a. refl) refl refl (keeps_same s c.id z)))

-- after what was printed before
pub printed_after : {A : Type 0} {f : State → Run A} {s u : SceneState} {answer : A} {text : List ℕ} (p q : List ℕ) → Ends f s [] answer u text → q ≡ p ++ text → Ends f s p answer u q
printed_after p q e printed = record { asked = e.asked; items = e.items; goes = e.goes; brings = e.brings; text = printed ∙ ap (λ t. p ++ t) e.text; keeps = e.keeps }

-- a step that is made, printed by a front
made_cut : {s : SceneState} (k : ControllerId) (b : Held) (y : Controller) (outcome : Option PassOutcome) (step : Step) (p q : List ℕ) → IsScene s → next_in s k ≡ step → step_fault s.board step ≡ None
    → IsMade step s.board b (turn_in s k) y outcome → PutsFront (printed_of s step) p q → IsCut (λ x. advance k x) s p (with_turn s k b y) q
made_cut {s} k b y outcome (Calls e o) p q is next free made front =
    let c = turn_in s k in
    let z = after_step s.board.cluster c (Calls e o) in
    let u = with_turn s c.id (on_board s.board e) z in
    subst (λ v. IsCut (λ x. advance k x) s p v q) (turn_same s c.id k (on_board s.board e) b z y (turn_id k is) (sym made.board) (sym made.controller))
    (cut_as (λ a. ap (λ t. advanced c t (at s a)) next)
    (happens_and_cut e (λ x. gives (with_controller z x) (Ok o)) [] s u p q (room_of s.board (weight_of e) faults.HistoryFull free) refl refl (keeps_turn s c.id e z) front))
made_cut k b y outcome (Plans x) p q is next free made front =
    cut_at_end (printed_after p q (made_ends k b y outcome (Plans x) is next free made) (front.1 ∙ ap (λ t. p ++ t) (take-nil front.0)))
made_cut k b y outcome (Refuses f) p q is next free made front = cc

-- the scene after a step is one
scene_made : {s : SceneState} (k : ControllerId) (b : Held) (y : Controller) (outcome : Option PassOutcome) → IsScene s → HasHistory b → Takes (next_in s k) s.board b (turn_in s k) y (Ok outcome)
    → IsScene (with_turn s k b y)
scene_made {s} k b y outcome is history takes =
    let there = kept_going (made_ends k b y outcome (next_in s k) is refl takes.refused takes.made) is.of_history is.in_step (λ a going. keeps_advance s.spec (valid_in s is) (since s.board.cluster.line) k (at s a) going) in
    record { own = spec_of (next_in s k) takes.made ∙ is.own; history = history; of_history = there.0; in_step = there.1; listed = is.listed }
  where
    spec_of : (step : Step) → IsMade step s.board b (turn_in s k) y outcome → b.spec ≡ s.board.spec
    spec_of (Calls e o) made = ap (λ d. d.spec) made.board
    spec_of (Plans p) made = ap (λ d. d.spec) made.board
    spec_of (Refuses f) made = ap (λ d. d.spec) made.board

scene_kept : {s : SceneState} (k : ControllerId) (b : Held) (y : Controller) (t : Bool) → IsScene s → b ≡ s.board → y ≡ (if t then idle_controller (turn_in s k).id else turn_in s k) → IsScene (with_turn s k b y)
scene_kept {s} k b y true is same idle = subst IsScene (sym (turn_same s k k b s.board y (idle_controller k) refl same (idle ∙ ap idle_controller (turn_id k is)))) (scene_idle k is)
scene_kept {s} k b y false is same kept = subst IsScene (sym (turn_same s k k b s.board y (turn_in s k) refl same kept ∙ turn_kept s k)) is

scene_taken : {s : SceneState} (k : ControllerId) (b : Held) (y : Controller) (result : Result (Option PassOutcome) ControlFault) → IsScene s → HasHistory b
    → Takes (next_in s k) s.board b (turn_in s k) y result → IsScene (with_turn s k b y)
scene_taken k b y (Ok outcome) is history takes = scene_made k b y outcome is history takes
scene_taken k b y (Err fault) is history takes = scene_kept k b y (ends_turn fault) is takes.kept.0 takes.kept.1

pub takes_read : {s : SceneState} (k : ControllerId) (x : Controller) (b : Held) (y : Controller) (result : Result (Option PassOutcome) ControlFault) → IsScene s → has_controller s.board.cluster k ≡ true
    → x ≡ slice_index_or s.controllers k.0 x → Takes (step_of s.spec s.board.cluster x) s.board b x y result → Takes (next_in s k) s.board b (turn_in s k) y result
takes_read {s} k x b y result is there e takes = subst (λ z. Takes (step_of s.spec s.board.cluster z) s.board b z y result) (turn_read k x is there e) takes

pub scene_stepped : {s : SceneState} (k : ControllerId) (x : Controller) (b : Held) (y : Controller) (result : Result (Option PassOutcome) ControlFault) → IsScene s → has_controller s.board.cluster k ≡ true
    → x ≡ slice_index_or s.controllers k.0 x → HasHistory b → Takes (step_of s.spec s.board.cluster x) s.board b x y result → IsScene (with_turn s k b y)
scene_stepped k x b y result is there e history takes = scene_taken k b y result is history (takes_read k x b y result is there e takes)

pub stepped_is : {s : SceneState} (k : ControllerId) (x : Controller) (b : Held) (y : Controller) (result : Result (Option PassOutcome) ControlFault) → IsScene s → has_controller s.board.cluster k ≡ true
    → x ≡ slice_index_or s.controllers k.0 x → Takes (step_of s.spec s.board.cluster x) s.board b x y result → IsStepped s (with_turn s k b y) k result
stepped_is k x b y result is there e takes = record { board = b; turn = y; takes = takes_read k x b y result is there e takes; left = refl }

ends_of : {s u : SceneState} {k : ControllerId} {outcome : Option PassOutcome} → IsScene s → (stepped : IsStepped s u k (Ok outcome))
    → Ends (λ x. advance k x) s [] (Ok outcome) u (printed_of s (next_in s k))
ends_of {s} {u} {k} {outcome} is stepped =
    subst (λ v. Ends (λ x. advance k x) s [] (Ok outcome) v (printed_of s (next_in s k))) (sym stepped.left)
    (made_ends k stepped.board stepped.turn outcome (next_in s k) is refl stepped.takes.refused stepped.takes.made)

-- in a muted scene nothing of it is
silent_step : (s : SceneState) (step : Step) → s.muted ≡ true → printed_of s step ≡ []
silent_step s (Calls e o) muted = ap (λ (b : Bool). heard b (entry_text s.spec s.board.cluster e)) muted
silent_step s (Plans p) muted = refl
silent_step s (Refuses f) muted = refl

pub advance_silent : {s u : SceneState} {k : ControllerId} {outcome : Option PassOutcome} (p : List ℕ) → IsScene s → IsStepped s u k (Ok outcome) → s.muted ≡ true → Ends (λ x. advance k x) s p (Ok outcome) u p
advance_silent {s} {u} {k} {outcome} p is stepped muted =
    printed_after p p (ends_of is stepped) (sym (append-nil p) ∙ ap (λ (t : List ℕ). p ++ t) (sym (silent_step s (next_in s k) muted)))

-- a step that was made is printed
printed_step : {T E : Type 0} {s u : SceneState} {k : ControllerId} {outcome : Option PassOutcome} (roll : Roll) (p q : List ℕ) (printed : Result T E) (before : ℕ) (step : Step) → next_in s k ≡ step
    → (made : IsStepped s u k (Ok outcome)) → step_fault s.board step ≡ None → IsMade step s.board made.board (turn_in s k) made.turn outcome → (s.muted ≡ false → IsRollFor s k roll) → before ≡ length s.board.history
    → ((h : List Event) (e : Event) → u.board.history ≡ h ++ e ∷ [] → length h ≡ before → Prints (event_heard u roll e) p printed q)
    → (length u.board.history ≡ before → Prints [] p printed q) → Prints (printed_of s step) p printed q
printed_step {T} {E} {s} {u} {k} {outcome} roll p q printed before (Calls e o) next stepped free made serves count more same =
    subst (λ t. Prints t p printed q) (ap (λ v. event_heard v roll e) stepped.left ∙ heard_as s.muted (event_text s.spec roll e) (entry_text s.spec s.board.cluster e) (λ prints. serves prints e o next))
    (more s.board.history e (ap (λ v. v.board.history) stepped.left ∙ ap (λ d. d.history) made.board) (sym count))
printed_step {T} {E} {s} {u} {k} {outcome} roll p q printed before (Plans x) next stepped free made serves count more same =
    same (ap (λ v. length v.board.history) stepped.left ∙ ap (λ d. length d.history) made.board ∙ sym count)
printed_step {T} {E} {s} {u} {k} {outcome} roll p q printed before (Refuses f) next stepped free made serves count more same = absurd (none f free)
  where
    none : (fault : ControlFault) → Some fault ≡ None → ⊥
    none fault e = cc

pub advance_printed : {T E : Type 0} {s u : SceneState} {k : ControllerId} {outcome : Option PassOutcome} (roll : Roll) (p q : List ℕ) (t : T) (before : ℕ) → IsScene s → IsStepped s u k (Ok outcome)
    → (s.muted ≡ false → IsRollFor s k roll) → before ≡ length s.board.history
    → ((h : List Event) (e : Event) → u.board.history ≡ h ++ e ∷ [] → length h ≡ before → Prints {E = E} (event_heard u roll e) p (Ok t) q)
    → (length u.board.history ≡ before → Prints {E = E} [] p (Ok t) q) → Ends (λ x. advance k x) s p (Ok outcome) u q
advance_printed {T} {E} {s} {u} {k} {outcome} roll p q t before is stepped serves count more same =
    printed_after p q (ends_of is stepped)
    (printed_step {T = T} {E = E} roll p q (Ok t) before (next_in s k) refl stepped stepped.takes.refused stepped.takes.made serves count more same).ok

pub advance_front : {R T E : Type 0} {s u : SceneState} {k : ControllerId} {outcome : Option PassOutcome} (answer : R → Result (Option PassOutcome) ControlFault) (roll : Roll) (p q : List ℕ) (fault : E)
    (before : ℕ) (result : Result R RoomFault) → IsScene s → IsStepped s u k (Ok outcome) → (s.muted ≡ false → IsRollFor s k roll) → before ≡ length s.board.history
    → ((h : List Event) (e : Event) → u.board.history ≡ h ++ e ∷ [] → length h ≡ before → Prints {T = T} (event_heard u roll e) p (Err fault) q)
    → (length u.board.history ≡ before → Prints {T = T} [] p (Err fault) q) → IsErrAnd result (λ x. x ≡ rooms.OutOfMemory) → Does (λ x. advance k x) answer s p u q result
advance_front answer roll p q fault before (Ok x) is stepped serves count more same failed = absurd failed
advance_front {R} {T} {E} {s} {u} {k} {outcome} answer roll p q fault before (Err x) is stepped serves count more same failed =
    subst (λ y. Fails (λ z. advance k z) s p y u q) (sym failed)
    (subst (λ v. IsCut (λ z. advance k z) s p v q) (sym stepped.left)
    (made_cut k stepped.board stepped.turn outcome (next_in s k) p q is refl stepped.takes.refused stepped.takes.made
    (printed_step {T = T} {E = E} roll p q (Err fault) before (next_in s k) refl stepped stepped.takes.refused stepped.takes.made serves count more same).err))

pub advance_wanted : {R : Type 0} (k : ControllerId) (answer : R → Result (Option PassOutcome) ControlFault) (s : SceneState) (p : List ℕ) (result : Result R RoomFault)
    → IsErrAnd result (λ x. x ≡ rooms.OutOfMemory) → Does (λ x. advance k x) answer s p s p result
advance_wanted k answer s p (Ok x) failed = absurd failed
advance_wanted k answer s p (Err x) failed = subst (λ y. Fails (λ z. advance k z) s p y s p) (sym failed) (cut_here (λ z. advance k z) s p)

-- a step's own fault ends the turn
record IsOwn (step : Step) : Type 0 where
  pub own : (f : ControlFault) → step ≡ Refuses f → ends_turn f ≡ true

own_call : (e : Event) (o : Option PassOutcome) → IsOwn (Calls e o)
own_call e o = record { own = λ f is. cc }

own_plan : (p : Plan) → IsOwn (Plans p)
own_plan p = record { own = λ f is. cc }

own_refusal : (fault : ControlFault) → ends_turn fault ≡ true → IsOwn (Refuses fault)
own_refusal fault ends = record { own = λ f is. subst (λ g. ends_turn g ≡ true) (same f is) ends }
  where
    same : (f : ControlFault) → Refuses fault ≡ Refuses f → fault ≡ f
    same f is = cc

own_if : (t : Bool) (a b : Step) → IsOwn a → IsOwn b → IsOwn (if t then a else b)
own_if true a b x y = x
own_if false a b x y = y

own_cluster : (t : Bool) (a : Step) → IsOwn a → IsOwn (of_cluster t a)
own_cluster true a x = x
own_cluster false a x = own_refusal faults.OtherBoard refl

own_or : (t : Bool) (e : Event) (fault : ControlFault) → ends_turn fault ≡ true → IsOwn (if t then Calls e None else Refuses fault)
own_or t e fault ends = own_if t (Calls e None) (Refuses fault) (own_call e None) (own_refusal fault ends)

own_dispatch : (a b : Bool) (e : Event) (o : Option PassOutcome) (fenced old : ControlFault) → ends_turn fenced ≡ true → ends_turn old ≡ true → IsOwn (if a then Refuses fenced else if b then Refuses old else Calls e o)
own_dispatch a b e o fenced old x y = own_if a (Refuses fenced) (if b then Refuses old else Calls e o) (own_refusal fenced x) (own_if b (Refuses old) (Calls e o) (own_refusal old y) (own_call e o))

own_planned : (spec : Spec) (c : Cluster) (x : Controller) (o : Option Plan) → IsOwn (planned_step spec c x o)
own_planned spec c x None = own_plan (plan spec.models spec.rules x.turn.view)
own_planned spec c x (Some p) =
    let d = dispatched_of c x.id p.proposals in
    own_dispatch (not (is_epoch c x.turn.begun.epoch)) (not (is_pass c x.id x.turn.begun.pass)) (events.Dispatch x.id x.turn.begun.epoch x.turn.begun.pass p.proposals d) (Some (outcome_of x.turn p d))
    (faults.Fenced c.epoch) (faults.OldPass (pass_of c x.id)) refl refl

own_read : (c : Cluster) (x : Controller) (e : Event) → IsOwn (read_step c x e)
own_read c x e = own_or (is_pass c x.id x.turn.begun.pass) e (faults.OldPass (pass_of c x.id)) refl

own_post : (c : Cluster) (x : Controller) → IsOwn (post_step c x)
own_post c x = own_or (is_epoch c x.turn.begun.epoch) (events.Post x.id x.turn.begun.epoch (posted_of x.turn.view)) (faults.Fenced c.epoch) refl

own_step : (spec : Spec) (c : Cluster) (x : Controller) (calls : List Call) → IsOwn (step_at spec c x calls)
own_step spec c x [] = own_or (is_leader x.id c.leader) (events.Begin x.id (begun_of c x.id)) (faults.NotLeader c.leader) refl
own_step spec c x (Live ∷ rest) = own_read c x (events.Live x.id x.turn.begun.pass)
own_step spec c x (Mail s ∷ rest) = own_read c x (events.Mail x.id x.turn.begun.pass s)
own_step spec c x (States s ∷ rest) = own_read c x (events.States x.id x.turn.begun.pass s)
own_step spec c x (Ideals ∷ rest) = own_read c x (events.Ideals x.id x.turn.begun.pass)
own_step spec c x (Send ∷ rest) = own_cluster (is_of_cluster spec c x.turn.view) (planned_step spec c x x.plan) (own_planned spec c x x.plan)
own_step spec c x (Post ∷ rest) = own_cluster (is_of_cluster spec c x.turn.view) (post_step c x) (own_post c x)

own_fault : (s : SceneState) (k : ControllerId) (f : ControlFault) → next_in s k ≡ Refuses f → ends_turn f ≡ true
own_fault s k f next = (own_step s.spec s.board.cluster (turn_in s k) (turn_in s k).turn.left).own f next

-- the history has no room, or memory is wanted: nothing changed
stayed : {s u : SceneState} {k : ControllerId} {fault : ControlFault} → (stepped : IsStepped s u k (Err fault)) → ends_turn fault ≡ false → u ≡ s
stayed {s} {u} {k} {fault} stepped stays =
    stepped.left
    ∙ turn_same s k k stepped.board s.board stepped.turn (turn_in s k) refl stepped.takes.kept.0
    (stepped.takes.kept.1 ∙ ap (λ (t : Bool). if t then idle_controller (turn_in s k).id else turn_in s k) stays)
    ∙ turn_kept s k

full_at : {s : SceneState} (k : ControllerId) (weight : ℕ) (p : List ℕ) (step : Step) → next_in s k ≡ step → step_fault s.board step ≡ Some (faults.HistoryFull weight)
    → Fails (λ x. advance k x) s p (rooms.HistoryFull weight) s p
full_at {s} k weight p (Calls e o) next refused =
    let no = no_room_of s.board (weight_of e) faults.HistoryFull (faults.HistoryFull weight) refused in
    no_room (λ x. advance k x) s s.board p weight
    (λ a. ap (λ t. advanced (turn_in s k) t (at s a)) next
    ∙ ap (λ r. and_then r (λ y. gives (with_controller (after_step s.board.cluster (turn_in s k) (Calls e o)) y) (Ok o))) (stopped_here e (at s a) no.0)) refl (weighs weight (weight_at s.board) no.1)
  where
    weighs : (m n : ℕ) → faults.HistoryFull m ≡ faults.HistoryFull n → m ≡ n
    weighs m n e = cc
full_at k weight p (Plans x) next refused = cc
full_at {s} k weight p (Refuses f) next refused = absurd (let z : true ≡ false = sym (own_fault s k f next) ∙ ap ends_turn (fault_is f (faults.HistoryFull weight) refused) in (cc))
  where
    fault_is : (a b : ControlFault) → Some a ≡ Some b → a ≡ b
    fault_is a b e = cc

pub advance_full : {s u : SceneState} {k : ControllerId} {weight : ℕ} (p : List ℕ) → IsStepped s u k (Err (faults.HistoryFull weight)) → Fails (λ x. advance k x) s p (rooms.HistoryFull weight) u p
advance_full {s} {u} {k} {weight} p stepped =
    subst (λ v. Fails (λ x. advance k x) s p (rooms.HistoryFull weight) v p) (sym (stayed stepped refl)) (one stepped.takes.refused)
  where
    one : (faults.HistoryFull weight ≡ faults.OutOfMemory) ⊎ (step_fault s.board (next_in s k) ≡ Some (faults.HistoryFull weight)) → Fails (λ x. advance k x) s p (rooms.HistoryFull weight) s p
    one (inl memory) = cc
    one (inr refused) = full_at k weight p (next_in s k) refl refused

pub advance_memory : {s u : SceneState} {k : ControllerId} (p : List ℕ) → IsStepped s u k (Err faults.OutOfMemory) → Fails (λ x. advance k x) s p rooms.OutOfMemory u p
advance_memory {s} {u} {k} p stepped = subst (λ v. Fails (λ x. advance k x) s p rooms.OutOfMemory v p) (sym (stayed stepped refl)) (cut_here (λ x. advance k x) s p)

-- another fault is the step's own
ends_for : (fault : ControlFault) → ((weight : ℕ) → fault ≡ faults.HistoryFull weight → ⊥) → (fault ≡ faults.OutOfMemory → ⊥) → ends_turn fault ≡ true
ends_for (faults.HistoryFull weight) full memory = absurd (full weight refl)
ends_for faults.OutOfMemory full memory = absurd (memory refl)
ends_for (faults.NotLeader led) full memory = refl
ends_for (faults.Fenced now) full memory = refl
ends_for (faults.OldPass now) full memory = refl
ends_for faults.OtherBoard full memory = refl

refuses_for : (s : SceneState) (k : ControllerId) (fault : ControlFault) (step : Step) → ((weight : ℕ) → fault ≡ faults.HistoryFull weight → ⊥) → next_in s k ≡ step → step_fault s.board step ≡ Some fault
    → next_in s k ≡ Refuses fault
refuses_for s k fault (Calls e o) full next refused = absurd (full (weight_at s.board) (no_room_of s.board (weight_of e) faults.HistoryFull fault refused).1)
refuses_for s k fault (Plans p) full next refused = cc
refuses_for s k fault (Refuses f) full next refused = next ∙ ap Refuses (fault_is f fault refused)
  where
    fault_is : (a b : ControlFault) → Some a ≡ Some b → a ≡ b
    fault_is a b e = cc

pub advance_fault : {s u : SceneState} {k : ControllerId} {fault : ControlFault} (p : List ℕ) → IsScene s → IsStepped s u k (Err fault) → ((weight : ℕ) → fault ≡ faults.HistoryFull weight → ⊥)
    → (fault ≡ faults.OutOfMemory → ⊥) → Ends (λ x. advance k x) s p (Err fault) u p
advance_fault {s} {u} {k} {fault} p is stepped full memory =
    subst (λ v. Ends (λ x. advance k x) s p (Err fault) v p)
    (sym
    (stepped.left
    ∙ turn_same s k k stepped.board s.board stepped.turn (idle_controller (turn_in s k).id) refl stepped.takes.kept.0
    (stepped.takes.kept.1 ∙ ap (λ (t : Bool). if t then idle_controller (turn_in s k).id else turn_in s k) (ends_for fault full memory)))) (fault_ends k fault p is (one stepped.takes.refused))
  where
    one : (fault ≡ faults.OutOfMemory) ⊎ (step_fault s.board (next_in s k) ≡ Some fault) → next_in s k ≡ Refuses fault
    one (inl out) = absurd (memory out)
    one (inr refused) = refuses_for s k fault (next_in s k) full refl refused
