-- The text of items, one after the other, as a scene prints it: whole, and where memory is wanted up to a front of the last item's.
use Rattle.std.proofs.Common.{◌≡◌, ℕ, ◌+◌, ◌-◌, ◌≤◌, Bool, true, false, List, [], ◌∷◌, ◌++◌, length, take, drop, refl, sym, ap, ◌∙◌, append_assoc, length-append, arith}
use Rattle.std.proofs.lemmas.List.{append-nil, take-append-drop}
use Rattle.std.proofs.Math.Seq.{take-append-add, take-length, take-nil}
use Rattle.hx_cluster.specs.declared.description.Spec.{Spec}
use Rattle.hx_cluster.specs.declared.state.Cluster.{Cluster}
use Rattle.hx_cluster.specs.declared.happenings.Event.{Event}
use Rattle.hx_cluster.specs.Events.{next, replay}
use Rattle.hx_text.specs.Texts.{PutsFront}
use Rattle.hx_text.proofs.Printing.{puts_first}
use Rattle.hx_print.specs.Texts.{entry_text}
use Rattle.hx_worlds.specs.Items.{Item, Happens, Says, events_in, items_text}
use Rattle.hx_scene.specs.Scenes.{SceneState}
use Rattle.hx_scene.specs.Heard.{heard, entry_heard, items_heard}
use Rattle.hx_scene.specs.Doing.{but_last, PrintsToLast}

-- what is heard of no text, of one after another, and of one where the scene isn't muted
pub heard_none : (muted : Bool) → heard muted [] ≡ []
heard_none true = refl
heard_none false = refl

heard_both : (muted : Bool) (text more : List ℕ) → heard muted (text ++ more) ≡ heard muted text ++ heard muted more
heard_both true text more = refl
heard_both false text more = refl

pub heard_all : {muted : Bool} (text : List ℕ) → muted ≡ false → heard muted text ≡ text
heard_all text prints = ap (λ m. heard m text) prints

pub heard_nothing : {muted : Bool} (text : List ℕ) → muted ≡ true → heard muted text ≡ []
heard_nothing text is = ap (λ m. heard m text) is

-- a scene that another one is
pub muted_as : {s u : SceneState} {muted : Bool} → s ≡ u → s.muted ≡ muted → u.muted ≡ muted
muted_as is e = ap (λ v. v.muted) (sym is) ∙ e

-- two texts that are one where the scene isn't muted
pub heard_as : (muted : Bool) (text other : List ℕ) → (muted ≡ false → text ≡ other) → heard muted text ≡ heard muted other
heard_as true text other same = refl
heard_as false text other same = same refl

-- a page on which nothing more is heard
pub still : (muted : Bool) (p : List ℕ) → p ≡ p ++ heard muted []
still muted p = sym (ap (λ t. p ++ t) (heard_none muted) ∙ append-nil p)

-- the text of items that follow others
text_both : (spec : Spec) (c : Cluster) (is js : List Item) → items_text spec c (is ++ js) ≡ items_text spec c is ++ items_text spec (replay c (events_in is)) js
text_both spec c [] js = refl
text_both spec c (Happens e ∷ is) js =
    ap (λ t. entry_text spec c e ++ t) (text_both spec (next c e) is js)
    ∙ sym (append_assoc (entry_text spec c e) (items_text spec (next c e) is) (items_text spec (replay (next c e) (events_in is)) js))
text_both spec c (Says charge text ∷ is) js =
    ap (λ t. text ++ t) (text_both spec c is js)
    ∙ sym (append_assoc text (items_text spec c is) (items_text spec (replay c (events_in is)) js))

-- a scene that follows another one by items
pub record IsAfter (s u : SceneState) (items : List Item) : Type 0 where
  pub muted : u.muted ≡ s.muted
  pub spec : u.spec ≡ s.spec
  pub cluster : u.board.cluster ≡ replay s.board.cluster (events_in items)

later_text : (s u : SceneState) (is js : List Item) → IsAfter s u is → items_text u.spec u.board.cluster js ≡ items_text s.spec (replay s.board.cluster (events_in is)) js
later_text s u is js f = ap (λ z. items_text z u.board.cluster js) f.spec ∙ ap (λ z. items_text s.spec z js) f.cluster

pub texts_both : (s u : SceneState) (is js : List Item) (p q r : List ℕ) → IsAfter s u is → q ≡ p ++ items_heard s is → r ≡ q ++ items_heard u js → r ≡ p ++ items_heard s (is ++ js)
texts_both s u is js p q r f eq er =
    let first = items_text s.spec s.board.cluster is in
    let rest = items_text s.spec (replay s.board.cluster (events_in is)) js in
    er
    ∙ ap (λ w. w ++ items_heard u js) eq
    ∙ append_assoc p (items_heard s is) (items_heard u js)
    ∙ ap (λ t. p ++ (items_heard s is ++ t)) (ap (λ m. heard m (items_text u.spec u.board.cluster js)) f.muted ∙ ap (heard s.muted) (later_text s u is js f))
    ∙ ap (λ t. p ++ t) (sym (heard_both s.muted first rest) ∙ ap (heard s.muted) (sym (text_both s.spec s.board.cluster is js)))

-- no item, and one that is printed by a front
pub prints_none : (s : SceneState) (p : List ℕ) → PrintsToLast s [] p p
prints_none s p = (0, omega arith, still s.muted p)

-- what is heard of a front is a front of what is heard
front_heard : (muted : Bool) (text more p q : List ℕ) → PutsFront (heard muted text) p q → (n : ℕ) × (q ≡ p ++ heard muted (take n (text ++ more)))
front_heard true text more p q front = (0, front.1 ∙ ap (λ t. p ++ t) (take-nil front.0))
front_heard false text more p q front = puts_first p q text more front

prints_one : (s : SceneState) (x : Item) (text more p q : List ℕ) → items_text s.spec s.board.cluster (x ∷ []) ≡ text ++ more → PutsFront (heard s.muted text) p q → PrintsToLast s (x ∷ []) p q
prints_one s x text more p q is front =
    let all = front_heard s.muted text more p q front in (all.0, omega arith, all.1 ∙ ap (λ t. p ++ heard s.muted (take all.0 t)) (sym is))

pub prints_event : (s : SceneState) (e : Event) (p q : List ℕ) → PutsFront (entry_heard s e) p q → PrintsToLast s (Happens e ∷ []) p q
prints_event s e p q front = prints_one s (Happens e) (entry_text s.spec s.board.cluster e) [] p q refl front

pub prints_said : (s : SceneState) (charge : ℕ) (text p q : List ℕ) → PutsFront (heard s.muted text) p q → PrintsToLast s (Says charge text ∷ []) p q
prints_said s charge text p q front = prints_one s (Says charge text) text [] p q refl front

-- all items whole
front_shorter : (spec : Spec) (c : Cluster) (items : List Item) (n : ℕ) → length (items_text spec c (take n items)) ≤ length (items_text spec c items)
front_shorter spec c items n =
    let first = items_text spec c (take n items) in
    let rest = items_text spec (replay c (events_in (take n items))) (drop n items) in
    let both : items_text spec c items ≡ first ++ rest = ap (items_text spec c) (sym (take-append-drop n items)) ∙ text_both spec c (take n items) (drop n items) in
    omega (arith, ap length both, length-append first rest)

pub prints_all : (s : SceneState) (items : List Item) (p q : List ℕ) → q ≡ p ++ items_heard s items → PrintsToLast s items p q
prints_all s items p q e =
    let text = items_text s.spec s.board.cluster items in
    (length text, front_shorter s.spec s.board.cluster items (length items - 1), e ∙ ap (λ t. p ++ heard s.muted t) (sym (take-length text)))

-- items that are printed whole, and then others
but_last-both : (is : List Item) (x : Item) (js : List Item) → but_last (is ++ x ∷ js) ≡ is ++ but_last (x ∷ js)
but_last-both is x js =
    let all : length (is ++ x ∷ js) - 1 ≡ length is + length js = omega (arith, length-append is (x ∷ js)) in
    let others : length js ≡ length (x ∷ js) - 1 = omega arith in
    ap (λ k. take k (is ++ x ∷ js)) all ∙ take-append-add is (x ∷ js) (length js) ∙ ap (λ k. is ++ take k (x ∷ js)) others

pub prints_both : (s u : SceneState) (is js : List Item) (p q r : List ℕ) → IsAfter s u is → q ≡ p ++ items_heard s is → PrintsToLast u js q r → PrintsToLast s (is ++ js) p r
prints_both s u is [] p q r f eq put =
    prints_all s (is ++ []) p r
    (put.2 ∙ ap (λ t. q ++ heard u.muted t) (take-nil put.0) ∙ sym (still u.muted q) ∙ eq ∙ ap (λ l. p ++ items_heard s l) (sym (append-nil is)))
prints_both s u is (x ∷ js) p q r f eq put =
    let c = s.board.cluster in
    let first = items_text s.spec c is in
    let rest = items_text s.spec (replay c (events_in is)) (x ∷ js) in
    let whole = ap (items_text s.spec c) (but_last-both is x js) ∙ text_both s.spec c is (but_last (x ∷ js)) in (
      length first + put.0,
      omega (arith, ap length whole, length-append first (items_text s.spec (replay c (events_in is)) (but_last (x ∷ js))), ap length (later_text s u is (but_last (x ∷ js)) f), put.1),
      put.2
          ∙ ap (λ m. q ++ heard m (take put.0 (items_text u.spec u.board.cluster (x ∷ js)))) f.muted
          ∙ ap (λ t. q ++ heard s.muted (take put.0 t)) (later_text s u is (x ∷ js) f)
          ∙ ap (λ t. t ++ heard s.muted (take put.0 rest)) eq
          ∙ append_assoc p (heard s.muted first) (heard s.muted (take put.0 rest))
          ∙ ap (λ t. p ++ t)
          (sym (heard_both s.muted first (take put.0 rest)) ∙ ap (heard s.muted) (sym (take-append-add first rest put.0) ∙ ap (take (length first + put.0)) (sym (text_both s.spec c is (x ∷ js))))),
    )
