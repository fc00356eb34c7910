-- An event happens on the board of a scene and is printed, or it is refused, or memory is wanted; and the scene stays one.
use Rattle.std.proofs.Common.{◌≡◌, ℕ, ◌+◌, ◌-◌, ◌≤◌, ◌⊎◌, inl, inr, Bool, true, false, List, [], ◌∷◌, ◌++◌, length, get_or, length-append, Option, None, Some, refl, sym, ap, subst, ◌∙◌, arith}
use Rattle.std.specs.Prelude.{if◌then◌else◌, nat_lt, slice_get, Result, Ok, Err, IsErrAnd, IfErr}
use Rattle.std.specs.Option.{option_or, option_map}
use Rattle.std.proofs.lemmas.Bool.Decides.{nat_tests}
use Rattle.std.proofs.lemmas.Option.{get_or_from_slice_get}
use Rattle.std.proofs.Math.Seq.{get_or-append_seam}
use Rattle.hx_cluster.specs.declared.description.Spec.{Spec}
use Rattle.hx_cluster.specs.declared.state.Cluster.{Cluster}
use Rattle.hx_cluster.specs.declared.happenings.Admin.{Admin}
use Rattle.hx_cluster.specs.declared.happenings.Admin.TheVariants as steps
use Rattle.hx_cluster.specs.declared.happenings.Did.{Did}
use Rattle.hx_cluster.specs.declared.happenings.StepFault.{StepFault}
use Rattle.hx_cluster.specs.declared.happenings.Event.{Event}
use Rattle.hx_cluster.specs.declared.happenings.Event.TheVariants as events
use Rattle.hx_cluster.specs.Steps.{did_of, refusal_of, is_in_range}
use Rattle.hx_cluster.specs.Events.{is_later}
use Rattle.hx_cluster.specs.Weight.{weight_of, step_weight}
use Rattle.hx_cluster.specs.Valid.{IsValid}
use Rattle.hx_text.specs.Texts.{Prints, PutsFront}
use Rattle.hx_print.specs.declared.roll.Roll.{Roll}
use Rattle.hx_print.specs.declared.Note.TheVariants as notes
use Rattle.hx_print.specs.Texts.{event_text, entry_text, roll_of}
use Rattle.hx_board.specs.declared.faults.RoomFault.{RoomFault}
use Rattle.hx_board.specs.declared.faults.RoomFault.TheVariants as rooms
use Rattle.hx_board.specs.declared.faults.BoardFault.TheVariants as boards
use Rattle.hx_board.specs.Board.{Held, HasHistory, weight_at, next_line_of, line_taken}
use Rattle.hx_board.specs.Board.{happened as on_board}
use Rattle.hx_board.specs.Refusals.{full, line_fault, line_refusal, step_refusal}
use Rattle.hx_worlds.specs.World.{State, Answers, Answered}
use Rattle.hx_worlds.specs.declared.Voice.{Voice}
use Rattle.hx_worlds.specs.Runs.{Run, Deed, Stops, state_of, happened, make, happen, note}
use Rattle.hx_worlds.specs.Scripts.{stepped, do_step}
use Rattle.hx_scripted.proofs.Standing.{Last, since}
use Rattle.hx_agreed.proofs.DoingTurns.{Stands}
use Rattle.hx_agreed.proofs.Operations.{stands_there, line_stands, step_keeps}
use Rattle.hx_scene.specs.Scenes.{SceneState, at}
use Rattle.hx_scene.specs.Heard.{heard, event_heard, entry_heard}
use Rattle.hx_scene.specs.Kept.{IsScene}
use Rattle.hx_scene.specs.Advances.{no_roll}
use Rattle.hx_scene.specs.Rolls.{step_roll}
use Rattle.hx_scene.specs.Doing.{Ends, Fails, DoesDeed}
use Rattle.hx_scene.proofs.Fronts.{heard_all, heard_as}
use Rattle.hx_scene.proofs.Reaching.{here, reaches_as, cut_here, cut_as, does_as, makes, makes_cut, at_happened, room_of, no_room_of}

-- what was printed of an event, with the description that stands there
pub prints_with : {T E : Type 0} {p q : List ℕ} {result : Result T E} {z spec : Spec} {muted : Bool} (roll : Roll) (e : Event) → muted ≡ false → z ≡ spec → Prints (event_text z roll e) p result q
    → Prints (heard muted (event_text spec roll e)) p result q
prints_with {T} {E} {p} {q} {result} {z} {spec} {muted} roll e prints same printed =
    subst (λ t. Prints t p result q) (sym (heard_all (event_text spec roll e) prints)) (subst (λ y. Prints (event_text y roll e) p result q) same printed)

-- the last of a history
last_place : (h : List Event) (e : Event) → length (h ++ e ∷ []) - 1 ≡ length h
last_place h e = let many = length-append h (e ∷ []) in omega (arith, many)

last_is : (es h : List Event) (e x : Event) → es ≡ h ++ e ∷ [] → Some x ≡ slice_get es (length es - 1) → x ≡ e
last_is es h e x is found =
    sym (get_or_from_slice_get es (length es - 1) x x (sym found))
    ∙ ap (λ (ys : List Event). get_or ys (length ys - 1) x) is
    ∙ ap (λ (n : ℕ). get_or (h ++ e ∷ []) n x) (last_place h e)
    ∙ get_or-append_seam h e [] x

pub prints_last : {T E : Type 0} {p q : List ℕ} {result : Result T E} {muted : Bool} (roll : Roll) (z : Spec) (x : Event) (es h : List Event) (e : Event) (spec : Spec) → muted ≡ false → es ≡ h ++ e ∷ []
    → Some x ≡ slice_get es (length es - 1) → z ≡ spec → Prints (event_text z roll x) p result q → Prints (heard muted (event_text spec roll e)) p result q
prints_last {T} {E} {p} {q} {result} roll z x es h e spec prints is found same printed =
    prints_with {z = spec} roll e prints refl (subst (λ y. Prints (event_text spec roll y) p result q) (last_is es h e x is found) (subst (λ y. Prints (event_text y roll x) p result q) same printed))

-- what was printed, by an answer of another type: memory alone can be wanting
pub prints_failed : {R T E : Type 0} {text p q : List ℕ} {fault : E} (result : Result R RoomFault) → Prints {T = T} text p (Err fault) q → IsErrAnd result (λ x. x ≡ rooms.OutOfMemory) → Prints text p result q
prints_failed (Ok x) printed failed = absurd failed
prints_failed (Err x) printed failed = record { ok = tt; err = printed.err }

pub prints_done : {R T E F : Type 0} {text p q : List ℕ} {x : R} {y : T} → Prints {E = E} text p (Ok x) q → Prints {E = F} text p (Ok y) q
prints_done printed = record { ok = printed.ok; err = tt }

pub wants_it : {R : Type 0} (result : Result R RoomFault) → IsErrAnd result (λ x. x ≡ rooms.OutOfMemory) → IfErr result (λ x. x ≡ rooms.OutOfMemory)
wants_it (Ok x) failed = tt
wants_it (Err x) failed = failed

-- a scene stands, and is one after an event after which it stands
pub scene_stands : {s : SceneState} (a : Answers) → IsScene s → Stands s.spec (since s.board.cluster.line) (at s a)
scene_stands {s} a is = stands_there s.spec (at s a) is.of_history is.in_step

pub scene_valid : {s : SceneState} → IsScene s → IsValid s.spec
scene_valid is = subst IsValid is.own is.history.valid

pub scene_happened : {s : SceneState} (b : Held) (e : Event) (last : Last) → IsScene s → HasHistory b → b ≡ on_board s.board e → Stands s.spec last (happened e (at s (Answered [])))
    → IsScene (record s { board = b })
scene_happened {s} b e last is history made stands =
    let there : Stands s.spec last (at (record s { board = b }) (Answered [])) =
    subst (Stands s.spec last) (at_happened e s (record s { board = b }) (Answered []) (ap (λ c. record s { board = c }) made)) stands in
    record { own = ap (λ c. c.spec) made ∙ is.own; history = history; of_history = there.scripted.of; in_step = there.in_step; listed = is.listed }

-- room as a number
pub room_is : (limit n : ℕ) → nat_lt limit n ≡ false → n ≤ limit
room_is limit n e = grind (arith, nat_tests, e)

-- memory is wanted before anything is done
pub memory_wanted : {R : Type 0} (f : State → Deed) (s : SceneState) (p : List ℕ) (result : Result R RoomFault) → IsErrAnd result (λ x. x ≡ rooms.OutOfMemory) → DoesDeed f s p s p result
memory_wanted f s p (Ok x) failed = absurd failed
memory_wanted f s p (Err x) failed = subst (λ y. Fails f s p y s p) (sym failed) (cut_here f s p)

-- the history has no room, or memory is wanted
pub no_room : {A : Type 0} (f : State → Run A) (s : SceneState) (b : Held) (p : List ℕ) (weight : ℕ) → ((a : Answers) → f (at s a) ≡ Stops [] (at s a)) → b ≡ s.board → weight ≡ weight_at s.board
    → Fails f s p (rooms.HistoryFull weight) (record s { board = b }) p
no_room f s b p weight is same known =
    subst (λ c. Fails f s p (rooms.HistoryFull weight) (record s { board = c }) p) (sym same) (reaches_as is (here (λ x. Stops [] x) s p), known)

pub no_memory : {A : Type 0} (f : State → Run A) (s : SceneState) (b : Held) (p : List ℕ) → b ≡ s.board → Fails f s p rooms.OutOfMemory (record s { board = b }) p
no_memory f s b p same = subst (λ c. Fails f s p rooms.OutOfMemory (record s { board = c }) p) (sym same) (cut_here f s p)

pub refused_as : {A : Type 0} (f : State → Run A) (s : SceneState) (b : Held) (p : List ℕ) (fault : RoomFault) (more : ℕ)
    → (nat_lt s.board.limit (weight_at s.board + more) ≡ true → (a : Answers) → f (at s a) ≡ Stops [] (at s a)) → b ≡ s.board → (fault ≡ rooms.OutOfMemory) ⊎ (full s.board more rooms.HistoryFull ≡ Some fault)
    → Fails f s p fault (record s { board = b }) p
refused_as f s b p fault more stops same (inl memory) = subst (λ y. Fails f s p y (record s { board = b }) p) (sym memory) (no_memory f s b p same)
refused_as f s b p fault more stops same (inr refused) =
    let no = no_room_of s.board more rooms.HistoryFull fault refused in
    subst (λ y. Fails f s p y (record s { board = b }) p) (sym no.1) (no_room f s b p (weight_at s.board) (stops no.0) same refl)

-- an event was made, and printed whole or by a front
pub printed_event : {T E : Type 0} (f : State → Deed) (e : Event) (s : SceneState) (b : Held) (roll : Roll) (p q : List ℕ) (t : T) → ((a : Answers) → f (at s a) ≡ make e (at s a))
    → b ≡ on_board s.board e → event_heard s roll e ≡ entry_heard s e → Prints {E = E} (event_heard s roll e) p (Ok t) q → Ends f s p tt (record s { board = b }) q
printed_event f e s b roll p q t is made same printed =
    reaches_as is (makes e s (record s { board = b }) p q (ap (λ c. record s { board = c }) made) (printed.ok ∙ ap (λ text. p ++ text) same))

pub printed_front : {R T E : Type 0} (f : State → Deed) (e : Event) (s : SceneState) (b : Held) (roll : Roll) (p q : List ℕ) (fault : E) (result : Result R RoomFault)
    → ((a : Answers) → f (at s a) ≡ make e (at s a)) → b ≡ on_board s.board e → event_heard s roll e ≡ entry_heard s e
    → Prints {T = T} (event_heard s roll e) p (Err fault) q → IsErrAnd result (λ x. x ≡ rooms.OutOfMemory) → DoesDeed f s p (record s { board = b }) q result
printed_front f e s b roll p q fault (Ok x) is made same printed failed = absurd failed
printed_front f e s b roll p q fault (Err x) is made same printed failed =
    subst (λ y. Fails f s p y (record s { board = b }) q) (sym failed)
    (cut_as is
    (makes_cut e s (record s { board = b }) p q (ap (λ c. record s { board = c }) made) (subst (λ text. PutsFront text p q) same printed.err)))

-- where there is room an event is made
pub made_here : (e : Event) (x : State) → nat_lt x.world.limit (x.world.weight + weight_of e) ≡ false → happen e x ≡ make e x
made_here e x room = ap (λ (t : Bool). if t then Stops [] x else make e x) room

pub stopped_here : (e : Event) (x : State) → nat_lt x.world.limit (x.world.weight + weight_of e) ≡ true → happen e x ≡ Stops [] x
stopped_here e x full = ap (λ (t : Bool). if t then Stops [] x else make e x) full

-- a line is taken
line_room : (b : Held) (n : ℕ) → next_line_of b ≡ Some n → line_refusal b ≡ full b 1 rooms.HistoryFull
line_room b n next = ap (line_fault b) next

line_is : (b c : Held) (n : ℕ) → next_line_of b ≡ Some n → c ≡ line_taken b (next_line_of b) → c ≡ on_board b (events.Line n)
line_is b c n next taken = taken ∙ ap (line_taken b) next

line_made : (s : SceneState) (n : ℕ) (a : Answers) → next_line_of s.board ≡ Some n → line_refusal s.board ≡ None → happen (events.Line n) (at s a) ≡ make (events.Line n) (at s a)
line_made s n a next free = made_here (events.Line n) (at s a) (room_of s.board 1 rooms.HistoryFull (sym (line_room s.board n next) ∙ free))

line_printed : {T E : Type 0} (n : ℕ) (s : SceneState) (b : Held) (p q : List ℕ) (t : T) → next_line_of s.board ≡ Some n → line_refusal s.board ≡ None → b ≡ line_taken s.board (next_line_of s.board)
    → Prints {E = E} (event_heard s no_roll (events.Line n)) p (Ok t) q → Ends (λ x. happen (events.Line n) x) s p tt (record s { board = b }) q
line_printed n s b p q t next free taken printed =
    printed_event (λ x. happen (events.Line n) x) (events.Line n) s b no_roll p q t (λ a. line_made s n a next free) (line_is s.board b n next taken) refl printed

line_front : {R T E : Type 0} (n : ℕ) (s : SceneState) (b : Held) (p q : List ℕ) (fault : E) (result : Result R RoomFault) → next_line_of s.board ≡ Some n → line_refusal s.board ≡ None
    → b ≡ line_taken s.board (next_line_of s.board) → Prints {T = T} (event_heard s no_roll (events.Line n)) p (Err fault) q
    → IsErrAnd result (λ x. x ≡ rooms.OutOfMemory) → DoesDeed (λ x. happen (events.Line n) x) s p (record s { board = b }) q result
line_front n s b p q fault result next free taken printed failed =
    printed_front (λ x. happen (events.Line n) x) (events.Line n) s b no_roll p q fault result (λ a. line_made s n a next free) (line_is s.board b n next taken) refl printed failed

pub line_done : {R : Type 0} (n : ℕ) (s : SceneState) (b : Held) (p q : List ℕ) (result : Result R RoomFault) → next_line_of s.board ≡ Some n → line_refusal s.board ≡ None
    → b ≡ line_taken s.board (next_line_of s.board) → Prints (event_heard s no_roll (events.Line n)) p result q → IfErr result (λ x. x ≡ rooms.OutOfMemory)
    → DoesDeed (λ x. happen (events.Line n) x) s p (record s { board = b }) q result
line_done n s b p q (Ok t) next free taken printed memory = line_printed n s b p q t next free taken printed
line_done {R} n s b p q (Err fault) next free taken printed memory = line_front {R = R} n s b p q fault (Err fault) next free taken printed memory

pub line_refused : {R : Type 0} (n : ℕ) (s : SceneState) (b : Held) (p : List ℕ) (fault : RoomFault) (result : Result R RoomFault) → next_line_of s.board ≡ Some n → b ≡ s.board
    → (fault ≡ rooms.OutOfMemory) ⊎ (line_refusal s.board ≡ Some fault) → IsErrAnd result (λ x. x ≡ fault) → DoesDeed (λ x. happen (events.Line n) x) s p (record s { board = b }) p result
line_refused n s b p fault (Ok x) next same refused failed = absurd failed
line_refused n s b p fault (Err x) next same refused failed =
    subst (λ y. Fails (λ z. happen (events.Line n) z) s p y (record s { board = b }) p) (sym failed)
    (refused_as (λ z. happen (events.Line n) z) s b p fault 1 (λ full a. stopped_here (events.Line n) (at s a) full) same
    (subst (λ o. (fault ≡ rooms.OutOfMemory) ⊎ (o ≡ Some fault)) (line_room s.board n next) refused))

pub scene_of_line : {s : SceneState} (b : Held) (n : ℕ) → IsScene s → HasHistory b → next_line_of s.board ≡ Some n → is_later s.board.cluster.line n ≡ true → line_refusal s.board ≡ None
    → b ≡ line_taken s.board (next_line_of s.board) → IsScene (record s { board = b })
scene_of_line {s} b n is history next later free taken =
    let e = events.Line n in
    scene_happened b e (since (Some n)) is history (line_is s.board b n next taken)
    (line_stands s.spec (scene_valid is) (since s.board.cluster.line) n (at s (Answered [])) (scene_stands (Answered []) is) later
    (room_is s.board.limit (weight_at s.board + 1) (room_of s.board 1 rooms.HistoryFull (sym (line_room s.board n next) ∙ free))))

-- a step of the cluster
pub record IsFree (b : Held) (step : Admin) : Type 0 where
  pub none : refusal_of b.cluster step ≡ None
  pub room : nat_lt b.limit (weight_at b + step_weight step) ≡ false

pub step_free : (b : Held) (step : Admin) → step_refusal b step ≡ None → IsFree b step
step_free b step free = one (refusal_of b.cluster step) refl free
  where
    one : (o : Option StepFault) → refusal_of b.cluster step ≡ o → option_or (option_map boards.Step o) (full b (step_weight step) boards.HistoryFull) ≡ None → IsFree b step
    one None is e = record { none = is; room = room_of b (step_weight step) boards.HistoryFull e }
    one (Some f) is e = cc

pub step_fault : (b : Held) (step : Admin) (fault : StepFault) → step_refusal b step ≡ Some (boards.Step fault) → refusal_of b.cluster step ≡ Some fault
step_fault b step fault refused = one (refusal_of b.cluster step) refl refused
  where
    none : (t : Bool) → (if t then Some (boards.HistoryFull (weight_at b)) else None) ≡ Some (boards.Step fault) → refusal_of b.cluster step ≡ Some fault
    none true e = cc
    none false e = cc

    one : (o : Option StepFault) → refusal_of b.cluster step ≡ o → option_or (option_map boards.Step o) (full b (step_weight step) boards.HistoryFull) ≡ Some (boards.Step fault)
        → refusal_of b.cluster step ≡ Some fault
    one None is e = none (nat_lt b.limit (weight_at b + step_weight step)) e
    one (Some f) is e = is ∙ (cc)

pub record IsFull (b : Held) (step : Admin) (told : ℕ) : Type 0 where
  pub none : refusal_of b.cluster step ≡ None
  pub full : nat_lt b.limit (weight_at b + step_weight step) ≡ true
  pub weight : told ≡ weight_at b

pub step_full : (b : Held) (step : Admin) (weight : ℕ) → step_refusal b step ≡ Some (boards.HistoryFull weight) → IsFull b step weight
step_full b step weight refused = one (refusal_of b.cluster step) refl refused
  where
    weighs : (m n : ℕ) → boards.HistoryFull m ≡ boards.HistoryFull n → m ≡ n
    weighs m n e = cc

    one : (o : Option StepFault) → refusal_of b.cluster step ≡ o → option_or (option_map boards.Step o) (full b (step_weight step) boards.HistoryFull) ≡ Some (boards.HistoryFull weight) → IsFull b step weight
    one None is e =
        let no = no_room_of b (step_weight step) boards.HistoryFull (boards.HistoryFull weight) e in
        record { none = is; full = no.0; weight = weighs weight (weight_at b) no.1 }
    one (Some f) is e = cc

step_made : (s : SceneState) (v : Voice) (step : Admin) (a : Answers) → step_refusal s.board step ≡ None
    → do_step v step (at s a) ≡ make (events.Admin step (did_of s.board.cluster step)) (at s a)
step_made s v step a free =
    let f = step_free s.board step free in
    ap (λ (o : Option StepFault). stepped v step o (at s a)) f.none ∙ made_here (events.Admin step (did_of s.board.cluster step)) (at s a) f.room

-- a step's roll serves its log line
serves : (spec : Spec) (c : Cluster) (step : Admin) (did : Did) → event_text spec (step_roll c step) (events.Admin step did) ≡ event_text spec (roll_of c) (events.Admin step did)
serves spec c (steps.Join i) did = refl
serves spec c (steps.End i) did = refl
serves spec c (steps.Beat i) did = refl
serves spec c (steps.Tick n) did = refl
serves spec c (steps.Drain i) did = refl
serves spec c (steps.Undrain i) did = refl
serves spec c (steps.Add name model ideal) did = refl
serves spec c (steps.Drop r) did = refl
serves spec c (steps.SetList p list) did = refl
serves spec c (steps.SetMap p entries) did = refl
serves spec c (steps.Reset i p) did = refl
serves spec c (steps.Lead k) did = refl
serves spec c (steps.Stop k) did = refl
serves spec c (steps.Start k) did = refl

pub same_roll : {roll : Roll} (s : SceneState) (step : Admin) (did : Did) → (s.muted ≡ false → roll ≡ step_roll s.board.cluster step)
    → event_heard s roll (events.Admin step did) ≡ entry_heard s (events.Admin step did)
same_roll {roll} s step did is =
    heard_as s.muted (event_text s.spec roll (events.Admin step did)) (entry_text s.spec s.board.cluster (events.Admin step did))
    (λ prints. ap (λ r. event_text s.spec r (events.Admin step did)) (is prints) ∙ serves s.spec s.board.cluster step did)

-- it is printed, or memory is wanted for that
pub step_given : {R : Type 0} {roll : Roll} (v : Voice) (step : Admin) (did : Did) (s : SceneState) (b : Held) (p q : List ℕ) (result : Result R RoomFault) → step_refusal s.board step ≡ None
    → b ≡ on_board s.board (events.Admin step (did_of s.board.cluster step)) → did ≡ did_of s.board.cluster step → (s.muted ≡ false → roll ≡ step_roll s.board.cluster step)
    → Prints (event_heard s roll (events.Admin step did)) p result q → IfErr result (λ x. x ≡ rooms.OutOfMemory) → DoesDeed (λ x. do_step v step x) s p (record s { board = b }) q result
step_given {R} {roll} v step did s b p q (Ok t) free made answer is printed memory =
    let e = events.Admin step (did_of s.board.cluster step) in
    printed_event (λ x. do_step v step x) e s b roll p q t (λ a. step_made s v step a free) made (same_roll s step (did_of s.board.cluster step) is)
    (subst (λ d. Prints {T = R} {E = RoomFault} (event_heard s roll (events.Admin step d)) p (Ok t) q) answer printed)
step_given {R} {roll} v step did s b p q (Err fault) free made answer is printed memory =
    let e = events.Admin step (did_of s.board.cluster step) in
    printed_front {R = R} (λ x. do_step v step x) e s b roll p q fault (Err fault) (λ a. step_made s v step a free) made (same_roll s step (did_of s.board.cluster step) is)
    (subst (λ d. Prints {T = R} {E = RoomFault} (event_heard s roll (events.Admin step d)) p (Err fault) q) answer printed) memory

pub scene_of_step : {s : SceneState} (b : Held) (v : Voice) (step : Admin) → IsScene s → HasHistory b → is_in_range s.board.cluster step ≡ true → step_refusal s.board step ≡ None
    → b ≡ on_board s.board (events.Admin step (did_of s.board.cluster step)) → IsScene (record s { board = b })
scene_of_step {s} b v step is history well free made =
    scene_happened b (events.Admin step (did_of s.board.cluster step)) (since s.board.cluster.line) is history made
    (subst (Stands s.spec (since s.board.cluster.line)) (ap state_of (step_made s v step (Answered []) free))
    (step_keeps s.spec (scene_valid is) (since s.board.cluster.line) v step (at s (Answered [])) (scene_stands (Answered []) is) well).left)

pub step_noted : {R : Type 0} (v : Voice) (step : Admin) (fault : StepFault) (s u : SceneState) (b : Held) (p q : List ℕ) (result : Result R RoomFault)
    → (boards.Step fault ≡ boards.OutOfMemory) ⊎ (step_refusal s.board step ≡ Some (boards.Step fault)) → b ≡ s.board
    → DoesDeed (λ x. note v (notes.Step fault) x) (record s { board = b }) p u q result → DoesDeed (λ x. do_step v step x) s p u q result
step_noted v step fault s u b p q result (inl memory) same done = cc
step_noted v step fault s u b p q result (inr refused) same done =
    does_as (λ x. do_step v step x) (λ x. note v (notes.Step fault) x) s (λ a. ap (λ (o : Option StepFault). stepped v step o (at s a)) (step_fault s.board step fault refused)) (λ _. tt) p u q result
    (subst (λ c. DoesDeed (λ x. note v (notes.Step fault) x) (record s { board = c }) p u q result) same done)

pub step_none : (v : Voice) (step : Admin) (s : SceneState) (b : Held) (p : List ℕ) (weight : ℕ)
    → (boards.HistoryFull weight ≡ boards.OutOfMemory) ⊎ (step_refusal s.board step ≡ Some (boards.HistoryFull weight)) → b ≡ s.board
    → Fails (λ x. do_step v step x) s p (rooms.HistoryFull weight) (record s { board = b }) p
step_none v step s b p weight (inl memory) same = cc
step_none v step s b p weight (inr refused) same =
    let f = step_full s.board step weight refused in
    no_room (λ x. do_step v step x) s b p weight
    (λ a. ap (λ (o : Option StepFault). stepped v step o (at s a)) f.none ∙ stopped_here (events.Admin step (did_of s.board.cluster step)) (at s a) f.full) same f.weight
