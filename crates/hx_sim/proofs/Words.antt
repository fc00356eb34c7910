-- Words for the calls of a turn, which are done only in their turn.
use Rattle.std.proofs.Common.{◌≡◌, ℕ, Bool, true, false, List, Option, sym, ap, ◌∙◌}
use Rattle.std.specs.Prelude.{Result}
use Rattle.hx_lists.specs.Lists.{count}
use Rattle.hx_ids.specs.declared.ControllerId.{ControllerId}
use Rattle.hx_pass.specs.Turns.{Call}
use Rattle.hx_control.specs.declared.PassOutcome.{PassOutcome}
use Rattle.hx_board.specs.declared.faults.RoomFault.{RoomFault}
use Rattle.hx_worlds.specs.declared.Voice.{Voice}
use Rattle.hx_worlds.specs.World.{Answers, State, controller_of}
use Rattle.hx_worlds.specs.Runs.{Run, Deed, done}
use Rattle.hx_worlds.specs.Turns.{left_of, do_call, do_calls, do_word, do_words, out_of_turn, without_outcome}
use Rattle.hx_scene.specs.Scenes.{SceneState, at, world_of}
use Rattle.hx_scene.specs.Doing.{Ends, Fails, Does}
use Rattle.hx_scene.proofs.Reaching.{does_as, fails_as, fails_inside, reaches_as, then_on}
use Rattle.hx_control.specs.Controllers.{Controller}
use Rattle.hx_sim.specs.Words.{is_first_of}
use Rattle.hx_sim.proofs.Stages.{first_is, first_is_not}

abbrev pub IsFirst : (Call → Bool) → SceneState → ControllerId → Bool → Type 0
IsFirst is_of s k b = is_first_of is_of (controller_of (world_of s) k).turn.left ≡ b

word_as : (v : Voice) (k : ControllerId) (is_of : Call → Bool) (s : SceneState) → IsFirst is_of s k true → (a : Answers) → do_word v k is_of (at s a) ≡ without_outcome (do_call v k (at s a))
word_as v k is_of s first a = first_is is_of (left_of (at s a) k) (λ y. without_outcome (do_call v k y)) (λ y. out_of_turn v k y) (at s a) first

pub word_fails : (v : Voice) (k : ControllerId) (is_of : Call → Bool) (s : SceneState) (p : List ℕ) → IsFirst is_of s k true → (fault : RoomFault) (u : SceneState) (q : List ℕ)
    → Fails (do_call v k) s p fault u q → Fails (do_word v k is_of) s p fault u q
word_fails v k is_of s p first fault u q e =
    fails_as (do_word v k is_of) (λ x. without_outcome (do_call v k x)) s (word_as v k is_of s first) p fault u q (fails_inside (do_call v k) s p fault u q e (λ _ x. done x))

pub word_ends : (v : Voice) (k : ControllerId) (is_of : Call → Bool) (s : SceneState) (p : List ℕ) → IsFirst is_of s k true → {outcome : Option PassOutcome} {u : SceneState} {q : List ℕ}
    → Ends (do_call v k) s p outcome u q → Ends (do_word v k is_of) s p tt u q
word_ends v k is_of s p first e = reaches_as (word_as v k is_of s first) (then_on e (λ _ x. done x))

pub word_else : {R : Type 0} (v : Voice) (k : ControllerId) (is_of : Call → Bool) (s : SceneState) (p : List ℕ) → IsFirst is_of s k false → (u : SceneState) (q : List ℕ) (result : Result R RoomFault)
    → Does (out_of_turn v k) (λ r. tt) s p u q result → Does (do_word v k is_of) (λ r. tt) s p u q result
word_else v k is_of s p first u q result e =
    does_as (do_word v k is_of) (out_of_turn v k) s
    (λ a. first_is_not is_of (left_of (at s a) k) (λ y. without_outcome (do_call v k y)) (λ y. out_of_turn v k y) (at s a) first) (λ r. tt) p u q result e

-- words for all calls of a kind
words_as : (v : Voice) (k : ControllerId) (is_of : Call → Bool) (otherwise : State → Deed) (n : ℕ) (s : SceneState) → IsFirst is_of s k true → n ≡ count is_of (controller_of (world_of s) k).turn.left
    → (a : Answers) → do_words v k is_of otherwise (at s a) ≡ without_outcome (do_calls v k n (at s a))
words_as v k is_of otherwise n s first is a =
    first_is is_of (left_of (at s a) k) (λ y. without_outcome (do_calls v k (count is_of (left_of y k)) y)) otherwise (at s a) first
    ∙ ap (λ (m : ℕ). without_outcome (do_calls v k m (at s a))) (sym is)

pub words_fail : (v : Voice) (k : ControllerId) (is_of : Call → Bool) (otherwise : State → Deed) (n : ℕ) (s : SceneState) (p : List ℕ) → IsFirst is_of s k true
    → n ≡ count is_of (controller_of (world_of s) k).turn.left → (fault : RoomFault) (u : SceneState) (q : List ℕ) → Fails (do_calls v k n) s p fault u q → Fails (do_words v k is_of otherwise) s p fault u q
words_fail v k is_of otherwise n s p first is fault u q e =
    fails_as (do_words v k is_of otherwise) (λ x. without_outcome (do_calls v k n x)) s (words_as v k is_of otherwise n s first is) p fault u q (fails_inside (do_calls v k n) s p fault u q e (λ _ x. done x))

pub words_end : (v : Voice) (k : ControllerId) (is_of : Call → Bool) (otherwise : State → Deed) (n : ℕ) (s : SceneState) (p : List ℕ) → IsFirst is_of s k true
    → n ≡ count is_of (controller_of (world_of s) k).turn.left → {outcome : Option PassOutcome} {u : SceneState} {q : List ℕ} → Ends (do_calls v k n) s p outcome u q
    → Ends (do_words v k is_of otherwise) s p tt u q
words_end v k is_of otherwise n s p first is e = reaches_as (words_as v k is_of otherwise n s first is) (then_on e (λ _ x. done x))

pub words_else : {R : Type 0} (v : Voice) (k : ControllerId) (is_of : Call → Bool) (otherwise : State → Deed) (s : SceneState) (p : List ℕ) → IsFirst is_of s k false
    → (u : SceneState) (q : List ℕ) (result : Result R RoomFault) → Does otherwise (λ r. tt) s p u q result → Does (do_words v k is_of otherwise) (λ r. tt) s p u q result
words_else v k is_of otherwise s p first u q result e =
    does_as (do_words v k is_of otherwise) otherwise s
    (λ a. first_is_not is_of (left_of (at s a) k) (λ y. without_outcome (do_calls v k (count is_of (left_of y k)) y)) otherwise (at s a) first) (λ r. tt) p u q result e

-- by the turn that a call showed
pub turn_is : {s u : SceneState} {x : Controller} (k : ControllerId) → x ≡ controller_of (world_of s) k → s ≡ u → x ≡ controller_of (world_of u) k
turn_is k is same = is ∙ ap (λ (s : SceneState). controller_of (world_of s) k) same

-- an operation of a word, by another word that it is
pub does_same : {X A R : Type 0} {x y : X} (f : X → State → Run A) → x ≡ y → (answer : R → A) (s : SceneState) (p : List ℕ) (u : SceneState) (q : List ℕ) (result : Result R RoomFault)
    → Does (f y) answer s p u q result → Does (f x) answer s p u q result
does_same {X} {A} {R} {x} {y} f is answer s p u q result does = does_as (f x) (f y) s (λ a. ap (λ (w : X). f w (at s a)) is) answer p u q result does
