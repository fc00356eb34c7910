-- A line is said: the board is charged for it, and then it is printed.
use Rattle.std.proofs.Common.{◌≡◌, ℕ, true, false, List, ◌++◌, sym, ap, subst, ◌∙◌}
use Rattle.std.specs.Prelude.{Result, Ok, Err, IsErrAnd}
use Rattle.hx_ids.specs.declared.ResourceId.{ResourceId}
use Rattle.hx_cluster.specs.declared.description.Spec.{Spec}
use Rattle.hx_cluster.specs.declared.description.Resource.{Resource}
use Rattle.std.proofs.lemmas.List.{append-nil}
use Rattle.hx_text.specs.Texts.{PutsFront, Prints}
use Rattle.hx_print.specs.Texts.{resource_name}
use Rattle.hx_board.specs.declared.faults.RoomFault.{RoomFault}
use Rattle.hx_board.specs.declared.faults.RoomFault.TheVariants as rooms
use Rattle.hx_worlds.specs.World.{Answers, State}
use Rattle.hx_worlds.specs.Runs.{Deed, done, say}
use Rattle.hx_scene.specs.Scenes.{SceneState, at}
use Rattle.hx_scene.specs.Telling.{IsCharged}
use Rattle.hx_scene.specs.Doing.{Ends, Fails, DoesDeed}
use Rattle.hx_scene.proofs.Fronts.{heard_all, heard_nothing}
use Rattle.hx_scene.proofs.Reaching.{reaches_as, here, said, said_cut, said_full}

-- a charge leaves the scene muted or not, as it was
was_muted : {R : Type 0} {n : ℕ} {s u : SceneState} {r : R} → IsCharged n s u (Ok r) → s.muted ≡ u.muted
was_muted charge = sym (ap (λ (v : SceneState). v.muted) charge.ok)

-- the history has no room for it
pub say_full : {R S : Type 0} {n : ℕ} {s u : SceneState} {fault : RoomFault} (f : State → Deed) (text p : List ℕ) (result : Result S RoomFault) → IsCharged {R = R} n s u (Err fault)
    → ((a : Answers) → f (at s a) ≡ say n text (at s a)) → IsErrAnd result (λ x. x ≡ fault) → DoesDeed f s p u p result
say_full f text p (Ok x) charge is failed = absurd failed
say_full {R} {S} {n} {s} {u} {fault} f text p (Err x) charge is failed = subst (λ y. Fails f s p y u p) (sym failed) (said_full f n text s u p fault is charge)

-- a front of it is printed
pub say_cut : {R S T E : Type 0} {n : ℕ} {s u : SceneState} {r : R} {text p q : List ℕ} {e : E} (f : State → Deed) (result : Result S RoomFault) → IsCharged n s u (Ok r) → u.muted ≡ false
    → Prints {T = T} text p (Err e) q → ((a : Answers) → f (at s a) ≡ say n text (at s a)) → IsErrAnd result (λ x. x ≡ rooms.OutOfMemory) → DoesDeed f s p u q result
say_cut f (Ok x) charge prints printed is failed = absurd failed
say_cut {R} {S} {T} {E} {n} {s} {u} {r} {text} {p} {q} f (Err x) charge prints printed is failed =
    said_cut f n text s u p q r x is charge (subst (λ t. PutsFront t p q) (sym (heard_all text (was_muted charge ∙ prints))) printed.err) failed

-- it is printed whole
pub say_whole : {R T E : Type 0} {n : ℕ} {s u : SceneState} {r : R} {text p q : List ℕ} {t : T} (f : State → Deed) → IsCharged n s u (Ok r) → u.muted ≡ false
    → Prints {E = E} text p (Ok t) q → ((a : Answers) → f (at s a) ≡ say n text (at s a)) → Ends f s p tt u q
say_whole {R} {T} {E} {n} {s} {u} {r} {text} {p} {q} f charge prints printed is =
    said f n text s u p q r is charge (printed.ok ∙ ap (λ t. p ++ t) (sym (heard_all text (was_muted charge ∙ prints))))

-- it is charged for, and not printed, since the scene is muted
pub say_muted : {R : Type 0} {n : ℕ} {s u : SceneState} {r : R} (f : State → Deed) (text p : List ℕ) → IsCharged n s u (Ok r) → u.muted ≡ true
    → ((a : Answers) → f (at s a) ≡ say n text (at s a)) → Ends f s p tt u p
say_muted {R} {n} {s} {u} {r} f text p charge muted is =
    said f n text s u p p r is charge (sym (append-nil p) ∙ ap (λ t. p ++ t) (sym (heard_nothing text (was_muted charge ∙ muted))))

-- nothing is said
pub say_nothing : (f : State → Deed) (s : SceneState) (p : List ℕ) → ((a : Answers) → f (at s a) ≡ done (at s a)) → Ends f s p tt s p
say_nothing f s p is = reaches_as is (here (λ x. done x) s p)

-- what is printed after the charge is what was to be said before it
same_after : {R : Type 0} {n : ℕ} {s u : SceneState} {r : R} (w : SceneState) (text : Spec → List Resource → List ℕ) → IsCharged n s u (Ok r) → w ≡ u
    → text s.spec s.board.cluster.resources ≡ text w.spec w.board.cluster.resources
same_after {R} {n} {s} {u} w text charge is = ap (λ (v : SceneState). text v.spec v.board.cluster.resources) (sym (is ∙ charge.ok))

pub same_text : {R : Type 0} {n : ℕ} {s u w : SceneState} {r : R} (text : Spec → List ℕ) → IsCharged n s u (Ok r) → w ≡ u → (a : Answers) → say n (text s.spec) (at s a) ≡ say n (text w.spec) (at s a)
same_text {R} {n} {s} {u} {w} text charge is a = ap (λ t. say n t (at s a)) (same_after w (λ spec _. text spec) charge is)

-- with the name of a resource
pub same_line : {R : Type 0} {n : ℕ} {s u w : SceneState} {r : R} (line : Spec → List ℕ → List ℕ) (resource : ResourceId) (name : List ℕ) → IsCharged n s u (Ok r) → w ≡ u
    → name ≡ resource_name w.spec w.board.cluster.resources resource → (a : Answers)
    → say n (line s.spec (resource_name s.spec s.board.cluster.resources resource)) (at s a) ≡ say n (line w.spec name) (at s a)
same_line {R} {n} {s} {u} {w} line resource name charge is named a =
    ap (λ t. say n t (at s a)) (same_after w (λ spec all. line spec (resource_name spec all resource)) charge is ∙ ap (λ m. line w.spec m) (sym named))
