-- An operation makes one event, which is printed, and with it is done; or it comes to a note of why not.
use Rattle.std.proofs.Common.{◌≡◌, ℕ, List, ◌++◌, sym, ap, subst, ◌∙◌}
use Rattle.std.specs.Prelude.{Result, Ok, Err, IsErrAnd, IfErr, OnErr}
use Rattle.hx_cluster.specs.declared.happenings.Event.{Event}
use Rattle.hx_text.specs.Texts.{Prints, PutsFront}
use Rattle.hx_print.specs.Texts.{event_text}
use Rattle.hx_board.specs.Board.{Held, HasHistory, happened}
use Rattle.hx_board.specs.declared.faults.RoomFault.{RoomFault}
use Rattle.hx_board.specs.declared.faults.RoomFault.TheVariants as rooms
use Rattle.hx_worlds.specs.World.{State}
use Rattle.hx_worlds.specs.Runs.{Run, Deed}
use Rattle.hx_scene.specs.Scenes.{SceneState}
use Rattle.hx_scene.specs.Heard.{heard, event_heard, entry_heard}
use Rattle.hx_scene.specs.Advances.{no_roll}
use Rattle.hx_scene.specs.Doing.{Reaches, Ends, IsCut, Fails, Does, DoesDeed}
use Rattle.hx_scene.specs.Kept.{IsScene}
use Rattle.hx_scene.specs.Made.{IsMadeBy}
use Rattle.hx_scene.proofs.Reaching.{does_after}

-- with the event made, an operation is done at a scene
pub record Makes (f : State → Deed) (e : Event) (s : SceneState) (board : Held) (u : SceneState) : Type 0 where
  pub made : board ≡ happened s.board e
  pub line : event_heard s no_roll e ≡ entry_heard s e
  pub ends : (p q : List ℕ) → q ≡ p ++ entry_heard s e → Ends f s p tt u q
  pub cut : (p q : List ℕ) → PutsFront (entry_heard s e) p q → IsCut f s p u q
  pub scene : HasHistory board → IsScene u

-- from the scene that the event gives, for the one that the calls left
pub makes_as : {f : State → Deed} {e : Event} {s u w : SceneState} {board : Held} → u ≡ w → board ≡ happened s.board e → event_heard s no_roll e ≡ entry_heard s e
    → ((p q : List ℕ) → q ≡ p ++ entry_heard s e → Ends f s p tt w q) → ((p q : List ℕ) → PutsFront (entry_heard s e) p q → IsCut f s p w q)
    → (HasHistory (happened s.board e) → IsScene w) → Makes f e s board u
makes_as {f} {e} {s} {u} {w} {board} is made line ends cut scene =
    subst (λ (z : SceneState). Makes f e s board z) (sym is) (record {
      made = made;
      line = line;
      ends = ends;
      cut = cut;
      scene = λ history. scene (subst HasHistory made history);
    })

-- the event is printed, or memory is wanted for that
pub makes_given : {R : Type 0} {f : State → Deed} {e : Event} {s u : SceneState} {board : Held} → Makes f e s board u → (p q : List ℕ) (result : Result R RoomFault)
    → Prints (event_heard s no_roll e) p result q → IfErr result (λ x. x ≡ rooms.OutOfMemory) → DoesDeed f s p u q result
makes_given m p q (Ok x) printed memory = m.ends p q (printed.ok ∙ ap (λ t. p ++ t) m.line)
makes_given {R} {f} {e} {s} {u} {board} m p q (Err x) printed memory =
    subst (λ y. Fails f s p y u q) (sym memory) (m.cut p q (subst (λ t. PutsFront t p q) m.line printed.err))

-- so too where the scene with the event made comes first, and the printing after it
pub made_by : {f : State → Deed} {e : Event} {s u : SceneState} {board : Held} → u.spec ≡ s.spec → u.muted ≡ s.muted → Makes f e s board u → IsMadeBy f e s u
made_by {f} {e} {s} {u} {board} same muted m = record { line = ap (λ spec. heard u.muted (event_text spec no_roll e)) same ∙ ap (λ t. heard t (event_text s.spec no_roll e)) muted ∙ m.line; ends = m.ends; cut = m.cut }

pub made_given : {R : Type 0} {f : State → Deed} {e : Event} {s u : SceneState} → IsMadeBy f e s u → (p q : List ℕ) (result : Result R RoomFault) → Prints (event_heard u no_roll e) p result q
    → IfErr result (λ x. x ≡ rooms.OutOfMemory) → DoesDeed f s p u q result
made_given m p q (Ok x) printed memory = m.ends p q (printed.ok ∙ ap (λ t. p ++ t) m.line)
made_given {R} {f} {e} {s} {u} m p q (Err x) printed memory =
    subst (λ y. Fails f s p y u q) (sym memory) (m.cut p q (subst (λ t. PutsFront t p q) m.line printed.err))

-- an operation comes to another one at a scene, without an item
pub record ComesTo (f g : State → Deed) (s u : SceneState) : Type 0 where
  pub reaches : (p : List ℕ) → Reaches f s p g u p
  pub scene : IsScene u

-- where nothing is changed
pub comes_to : {R : Type 0} {f g : State → Deed} {s u : SceneState} → s ≡ u → ((p : List ℕ) → Reaches f s p g s p) → (p : List ℕ) (v : SceneState) (q : List ℕ) (result : Result R RoomFault)
    → DoesDeed g u p v q result → DoesDeed f u p v q result
comes_to {R} {f} {g} {s} {u} is reaches p v q result does = does_after (subst (λ (z : SceneState). Reaches f z p g z p) is (reaches p)) _ v q result does

-- or it came no further than to a scene, for want of memory
pub record IsCutHere (f : State → Deed) (s u : SceneState) : Type 0 where
  pub cut : (p : List ℕ) → IsCut f s p u p
  pub scene : IsScene u

pub cut_for : {T E : Type 0} {X : Type 0} (result : Result T E) → X → OnErr result X
cut_for (Ok x) cut = tt
cut_for (Err x) cut = cut

pub fails_for : {A R : Type 0} (f : State → Run A) {s u : SceneState} (result : Result R RoomFault) → IsErrAnd result (λ e. e ≡ rooms.OutOfMemory) → ((p : List ℕ) → IsCut f s p u p)
    → IfErr result (λ e. (p : List ℕ) → Fails f s p e u p)
fails_for f (Ok x) e cut = tt
fails_for {A} {R} f {s} {u} (Err x) e cut = λ p. subst (λ y. Fails f s p y u p) (sym e) (cut p)

pub wants_memory : {A R : Type 0} (f : State → Run A) (answer : R → A) (s : SceneState) (p : List ℕ) (u : SceneState) (q : List ℕ) (result : Result R RoomFault)
    → IsErrAnd result (λ e. e ≡ rooms.OutOfMemory) → IsCut f s p u q → Does f answer s p u q result
wants_memory f answer s p u q (Ok x) e cut = absurd e
wants_memory f answer s p u q (Err (rooms.HistoryFull weight)) e cut = cc
wants_memory f answer s p u q (Err rooms.OutOfMemory) e cut = cut
