-- An instance's session dies in a scene, and its participant stops: the scene stays one, and what is done is the operation.
use Rattle.std.proofs.Common.{◌≡◌, ℕ, ◌⊎◌, inl, inr, true, false, List, [], ◌++◌, None, Some, refl, sym, ap, subst, ◌∙◌}
use Rattle.std.specs.Prelude.{Option, Result, Ok, Err, IfErr}
use Rattle.std.specs.List.{All}
use Rattle.hx_ids.specs.declared.InstanceId.{InstanceId}
use Rattle.hx_cluster.specs.declared.happenings.Admin.TheVariants as steps
use Rattle.hx_cluster.specs.declared.happenings.Did.TheVariants as dids
use Rattle.hx_cluster.specs.declared.happenings.StepFault.{StepFault}
use Rattle.hx_cluster.specs.Steps.{has_instance}
use Rattle.hx_text.specs.Texts.{Prints, PutsFront}
use Rattle.hx_print.specs.declared.roll.Roll.{Roll}
use Rattle.hx_print.specs.declared.Note.TheVariants as notes
use Rattle.hx_board.specs.declared.faults.RoomFault.{RoomFault}
use Rattle.hx_board.specs.declared.faults.RoomFault.TheVariants as rooms
use Rattle.hx_board.specs.declared.faults.BoardFault.TheVariants as boards
use Rattle.hx_board.specs.Board.{Held, HasHistory}
use Rattle.hx_board.specs.Board.{happened as on_board}
use Rattle.hx_board.specs.Refusals.{step_refusal}
use Rattle.hx_replicas.specs.Jobs.{ParticipantState}
use Rattle.hx_worlds.specs.declared.Voice.{Voice}
use Rattle.hx_worlds.specs.declared.Voice.TheVariants.{Quiet}
use Rattle.hx_worlds.specs.Jobs.{adopt_in}
use Rattle.hx_worlds.specs.Runs.{and_then, done, note}
use Rattle.hx_worlds.specs.Scripts.{died, do_die}
use Rattle.hx_scripted.proofs.Standing.{since}
use Rattle.hx_agreed.proofs.Operations.{die_keeps}
use Rattle.hx_scene.specs.Scenes.{SceneState, OpenState, at, lists_of}
use Rattle.hx_scene.specs.Heard.{event_heard, entry_heard}
use Rattle.hx_scene.specs.Kept.{IsScene, IsListed}
use Rattle.hx_scene.specs.Doing.{Keeps, Ends, IsCut, Fails, DoesDeed}
use Rattle.hx_scene.specs.Rolls.{step_roll}
use Rattle.hx_scene.specs.Ending.{Adopts, KeepsParts, HasEnded, end_event}
use Rattle.hx_scene.proofs.Reaching.{reaches_as, cut_as, cut_here, does_as, happens_and, happens_and_cut, kept_going}
use Rattle.hx_scene.proofs.Standing.{valid_in}
use Rattle.hx_scene.proofs.Happening.{same_roll, step_free, step_fault, step_full, stopped_here, no_room}
use Rattle.hx_scene.proofs.Turning.{printed_after}

-- it ends, and its participant stops, as if nothing had been printed before
parts_kept : (s : SceneState) (b : Held) (later : List OpenState) (after : List ParticipantState) → b.lines ≡ s.board.lines → KeepsParts s.jobs later s.staff after
    → Keeps s (record s { board = b; jobs = later; staff = after }) []
parts_kept s b later after lines kept = record {
  muted = refl;
  lists = kept.lists;
  lines = lines;
  told = λ c. let below = kept.below s.handed (c.staff, c.jobs) in (record { few = c.few; staff = below.0; jobs = below.1 }, tt);
}

died_ends : (v : Voice) (i : InstanceId) (s : SceneState) (b : Held) (later : List OpenState) (after : List ParticipantState) → step_refusal s.board (steps.End i) ≡ None
    → b ≡ on_board s.board (end_event i) → Adopts i None s.jobs later s.staff after → KeepsParts s.jobs later s.staff after
    → Ends (λ x. do_die v i x) s [] tt (record s { board = b; jobs = later; staff = after }) (entry_heard s (end_event i))
died_ends v i s b later after free made adopts kept =
    let f = step_free s.board (steps.End i) free in
    let c = on_board s.board (end_event i) in
    let w : SceneState = record s { board = c; jobs = later; staff = after } in
    let text = entry_heard s (end_event i) in
    subst (λ d. Ends (λ x. do_die v i x) s [] tt (record s { board = d; jobs = later; staff = after }) text) (sym made)
    (reaches_as (λ a. ap (λ (o : Option StepFault). died v i o (at s a)) f.none)
    (happens_and (end_event i) (λ x. adopt_in i None x) tt [] s w [] text f.room (λ a _. adopts (at (record s { board = c }) a)) refl refl (parts_kept s c later after refl kept) refl))

pub scene_died : {s : SceneState} (i : InstanceId) (b : Held) (later : List OpenState) (after : List ParticipantState) → IsScene s → HasHistory b → has_instance s.board.cluster i ≡ true
    → step_refusal s.board (steps.End i) ≡ None → b ≡ on_board s.board (end_event i) → Adopts i None s.jobs later s.staff after → KeepsParts s.jobs later s.staff after
    → IsScene (record s { board = b; jobs = later; staff = after })
scene_died {s} i b later after is history has free made adopts kept =
    let there = kept_going (died_ends Quiet i s b later after free made adopts kept) is.of_history is.in_step (λ a going. die_keeps s.spec (valid_in s is) (since s.board.cluster.line) Quiet i (at s a) going has) in
    record {
      own = ap (λ d. d.spec) made ∙ is.own;
      history = history;
      of_history = there.0;
      in_step = there.1;
      listed = subst (λ l. All (IsListed l) later) (sym kept.lists) (kept.listed (lists_of s) is.listed);
    }

died_cut : (v : Voice) (i : InstanceId) (s : SceneState) (b : Held) (later : List OpenState) (after : List ParticipantState) (p q : List ℕ) → step_refusal s.board (steps.End i) ≡ None
    → b ≡ on_board s.board (end_event i) → KeepsParts s.jobs later s.staff after → PutsFront (entry_heard s (end_event i)) p q
    → IsCut (λ x. do_die v i x) s p (record s { board = b; jobs = later; staff = after }) q
died_cut v i s b later after p q free made kept front =
    let f = step_free s.board (steps.End i) free in
    let c = on_board s.board (end_event i) in
    let w : SceneState = record s { board = c; jobs = later; staff = after } in
    subst (λ d. IsCut (λ x. do_die v i x) s p (record s { board = d; jobs = later; staff = after }) q) (sym made)
    (cut_as (λ a. ap (λ (o : Option StepFault). died v i o (at s a)) f.none)
    (happens_and_cut (end_event i) (λ x. done (adopt_in i None x)) [] s w p q f.room refl refl (parts_kept s c later after refl kept) front))

-- by what the calls told
pub ended_of : {s : SceneState} (i : InstanceId) (b : Held) (later : List OpenState) (after : List ParticipantState) → b ≡ on_board s.board (end_event i) → Adopts i None s.jobs later s.staff after
    → KeepsParts s.jobs later s.staff after → HasEnded s (record s { board = b; jobs = later; staff = after }) i
ended_of {s} i b later after made adopts kept = record {
  jobs = later;
  staff = after;
  adopts = adopts;
  kept = kept;
  left = ap (λ (c : Held). record s { board = c; jobs = later; staff = after }) made;
}

-- its end is printed, or memory is wanted for that
abbrev there : InstanceId → SceneState → List OpenState → List ParticipantState → SceneState
there i s later after = record s { board = on_board s.board (end_event i); jobs = later; staff = after }

printed_end : {R : Type 0} {roll : Roll} (v : Voice) (i : InstanceId) (s : SceneState) (later : List OpenState) (after : List ParticipantState) (p q : List ℕ) (result : Result R RoomFault)
    → step_refusal s.board (steps.End i) ≡ None → Adopts i None s.jobs later s.staff after → KeepsParts s.jobs later s.staff after → (s.muted ≡ false → roll ≡ step_roll s.board.cluster (steps.End i))
    → Prints (event_heard s roll (end_event i)) p result q → IfErr result (λ x. x ≡ rooms.OutOfMemory) → DoesDeed (λ x. do_die v i x) s p (there i s later after) q result
printed_end v i s later after p q (Ok t) free adopts kept same printed memory =
    printed_after p q (died_ends v i s (on_board s.board (end_event i)) later after free refl adopts kept) (printed.ok ∙ ap (λ text. p ++ text) (same_roll s (steps.End i) dids.Done same))
printed_end v i s later after p q (Err fault) free adopts kept same printed memory =
    subst (λ y. Fails (λ z. do_die v i z) s p y (there i s later after) q) (sym memory)
    (died_cut v i s (on_board s.board (end_event i)) later after p q free refl kept (subst (λ text. PutsFront text p q) (same_roll s (steps.End i) dids.Done same) printed.err))

pub died_given : {R : Type 0} {roll : Roll} {s u : SceneState} (v : Voice) (i : InstanceId) (p q : List ℕ) (result : Result R RoomFault) → step_refusal s.board (steps.End i) ≡ None → HasEnded s u i
    → (s.muted ≡ false → roll ≡ step_roll s.board.cluster (steps.End i)) → Prints (event_heard u roll (end_event i)) p result q → IfErr result (λ x. x ≡ rooms.OutOfMemory) → DoesDeed (λ x. do_die v i x) s p u q result
died_given {R} {roll} {s} {u} v i p q result free ended same printed memory =
    subst (λ (w : SceneState). DoesDeed (λ x. do_die v i x) s p w q result) (sym ended.left)
    (printed_end v i s ended.jobs ended.staff p q result free ended.adopts ended.kept same (subst (λ (w : SceneState). Prints (event_heard w roll (end_event i)) p result q) ended.left printed) memory)

-- it is refused
pub die_noted : {R : Type 0} {s t : SceneState} (v : Voice) (i : InstanceId) (fault : StepFault) (u : SceneState) (p q : List ℕ) (result : Result R RoomFault)
    → (boards.Step fault ≡ boards.OutOfMemory) ⊎ (step_refusal s.board (steps.End i) ≡ Some (boards.Step fault)) → t ≡ s
    → DoesDeed (λ x. note v (notes.Step fault) x) t p u q result → DoesDeed (λ x. do_die v i x) s p u q result
die_noted v i fault u p q result (inl memory) same noted = cc
die_noted {R} {s} {t} v i fault u p q result (inr refused) same noted =
    does_as (λ x. do_die v i x) (λ x. note v (notes.Step fault) x) s (λ a. ap (λ (o : Option StepFault). died v i o (at s a)) (step_fault s.board (steps.End i) fault refused)) (λ _. tt) p u q result
    (subst (λ w. DoesDeed (λ x. note v (notes.Step fault) x) w p u q result) same noted)

pub die_none : {s t : SceneState} (v : Voice) (i : InstanceId) (p : List ℕ) (weight : ℕ)
    → (boards.HistoryFull weight ≡ boards.OutOfMemory) ⊎ (step_refusal s.board (steps.End i) ≡ Some (boards.HistoryFull weight)) → t ≡ s → Fails (λ x. do_die v i x) s p (rooms.HistoryFull weight) t p
die_none v i p weight (inl memory) same = cc
die_none {s} {t} v i p weight (inr refused) same =
    let f = step_full s.board (steps.End i) weight refused in
    subst (λ w. Fails (λ x. do_die v i x) s p (rooms.HistoryFull weight) w p) (sym same)
    (no_room (λ x. do_die v i x) s s.board p weight
    (λ a. ap (λ (o : Option StepFault). died v i o (at s a)) f.none ∙ ap (λ r. and_then r (λ y. done (adopt_in i None y))) (stopped_here (end_event i) (at s a) f.full)) refl f.weight)

pub die_wanted : {s t : SceneState} (v : Voice) (i : InstanceId) (p : List ℕ) → t ≡ s → Fails (λ x. do_die v i x) s p rooms.OutOfMemory t p
die_wanted {s} {t} v i p same = subst (λ w. Fails (λ x. do_die v i x) s p rooms.OutOfMemory w p) (sym same) (cut_here (λ x. do_die v i x) s p)

-- with the board as it was, so is the scene
pub board_same : {s : SceneState} (b : Held) → b ≡ s.board → record s { board = b } ≡ s
board_same {s} b same = ap (λ c. record s { board = c }) same
