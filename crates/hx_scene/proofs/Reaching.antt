-- How operations on a scene come further, step by step: laws of what is done, also where the history has no room or memory is wanted.
use Rattle.std.proofs.Common.{◌≡◌, ℕ, ◌+◌, ◌≤◌, ◌<◌, Bool, true, false, List, [], ◌∷◌, ◌++◌, suc, zero, inl, inr, map, drop, length, Option, None, Some, refl, sym, ap, subst, ◌∙◌, append_assoc, arith}
use Rattle.std.specs.Prelude.{if◌then◌else◌, nat_lt, slice_index_or, Result, Ok, Err, IsErrAnd, ◌⊎◌}
use Rattle.std.proofs.lemmas.List.{append-nil, drop_more, drop_all}
use Rattle.hx_cluster.specs.declared.description.Spec.{Spec}
use Rattle.hx_cluster.specs.declared.description.Failure.{Failure}
use Rattle.hx_cluster.specs.declared.happenings.Event.{Event}
use Rattle.hx_cluster.specs.declared.happenings.Outcome.{Outcome}
use Rattle.hx_cluster.specs.Weight.{weight_of, weight_of_all}
use Rattle.hx_text.specs.Texts.{PutsFront}
use Rattle.hx_print.specs.Texts.{entry_text}
use Rattle.hx_board.specs.Board.{Held, weight_at}
use Rattle.hx_board.specs.Board.{happened as on_board, charged as charged_board}
use Rattle.hx_board.specs.Refusals.{full}
use Rattle.hx_board.specs.declared.faults.RoomFault.{RoomFault}
use Rattle.hx_board.specs.declared.faults.RoomFault.TheVariants as rooms
use Rattle.hx_worlds.specs.World.{Answers, Told, Answered, Missing, State, rest_of}
use Rattle.hx_worlds.specs.Items.{Item, Happens, Says}
use Rattle.hx_worlds.specs.Runs.{Run, Deed, GoesOn, Stops, gives, done, items_of, state_of, after_items, go_on, and_then, happened, make, happen, charged, say, for_each}
use Rattle.hx_worlds.specs.Brings.{Past, past_of, Brings}
use Rattle.hx_worlds.proofs.Brought.{brings_nothing, brings_both, brings_event}
use Rattle.hx_scripted.specs.OfHistory.{IsOfItsHistory}
use Rattle.hx_scripted.proofs.Keeping.{Keeps as Leaves}
use Rattle.hx_scripted.proofs.Standing.{since, scripted_since}
use Rattle.hx_agreed.specs.InStep.{IsInStep}
use Rattle.hx_agreed.proofs.Going.{IsGoing}
use Rattle.hx_scene.specs.Scenes.{SceneState, at, world_of, lists_of}
use Rattle.hx_scene.specs.Heard.{heard, entry_heard}
use Rattle.hx_scene.specs.Telling.{IsCharged}
use Rattle.hx_scene.specs.Doing.{Asked, Gives, left, IsToldBy, AreTold, IsCounted, Keeps, Reaches, Ends, StopsHere, IsCut, Fails, Does}
use Rattle.hx_scene.proofs.Fronts.{IsAfter, still, texts_both, prints_none, prints_event, prints_said, prints_all, prints_both}

-- answers to one list of questions and then to another
pub gives_first : (xs ys : List Asked) (a : Answers) → Gives (xs ++ ys) a → Gives xs a
gives_first [] ys a g = tt
gives_first (x ∷ xs) ys a g = (g.0, gives_first xs ys (rest_of a) g.1)

pub gives_rest : (xs ys : List Asked) (a : Answers) → Gives (xs ++ ys) a → Gives ys (left xs a)
gives_rest [] ys a g = g
gives_rest (x ∷ xs) ys a g = gives_rest xs ys (rest_of a) g.1

pub left_both : (xs ys : List Asked) (a : Answers) → left (xs ++ ys) a ≡ left ys (left xs a)
left_both [] ys a = refl
left_both (x ∷ xs) ys a = left_both xs ys (rest_of a)

pub told_both : (lists : List (Option (List Failure))) (xs ys : List Asked) → AreTold lists xs → AreTold lists ys → AreTold lists (xs ++ ys)
told_both lists [] ys t v = v
told_both lists (x ∷ xs) ys t v = (t.0, told_both lists xs ys t.1 v)

-- what comes after items
pub after_none : {A : Type 0} (r : Run A) → after_items [] r ≡ r
after_none (GoesOn more x answer) = refl
after_none (Stops more x) = refl

pub after_both : {A : Type 0} (is js : List Item) (r : Run A) → after_items (is ++ js) r ≡ after_items is (after_items js r)
after_both is js (GoesOn more x answer) = ap (λ h. GoesOn h x answer) (append_assoc is js more)
after_both is js (Stops more x) = ap (λ h. Stops h x) (append_assoc is js more)

pub items_after : {A : Type 0} (is : List Item) (r : Run A) → items_of (after_items is r) ≡ is ++ items_of r
items_after is (GoesOn more x answer) = refl
items_after is (Stops more x) = refl

pub on_after : {A B : Type 0} (is : List Item) (r : Run A) (k : A → State → Run B) → go_on (after_items is r) k ≡ after_items is (go_on r k)
on_after is (GoesOn more x answer) k = after_both is more (k answer x)
on_after is (Stops more x) k = refl

-- what is kept
pub counted_same : (s : SceneState) (b : Held) → IsCounted s → IsCounted (record s { board = b })
counted_same s b c = record { few = c.few; staff = c.staff; jobs = c.jobs }

pub keeps_nothing : (s : SceneState) → Keeps s s []
keeps_nothing s = record { muted = refl; lists = refl; lines = refl; told = λ c. (c, tt) }

-- where no handler was asked
pub keeps_unasked : {s u : SceneState} → u.muted ≡ s.muted → lists_of u ≡ lists_of s → u.board.lines ≡ s.board.lines → (IsCounted s → IsCounted u) → Keeps s u []
keeps_unasked muted lists lines counted = record { muted = muted; lists = lists; lines = lines; told = λ c. (counted c, tt) }

pub keeps_board : (s u : SceneState) (b : Held) → u ≡ record s { board = b } → b.lines ≡ s.board.lines → Keeps s u []
keeps_board s u b e lines =
    subst (λ v. Keeps s v []) (sym e) (record { muted = refl; lists = refl; lines = lines; told = λ c. (counted_same s b c, tt) })

pub keeps_both : {s u v : SceneState} {xs ys : List Asked} → Keeps s u xs → Keeps u v ys → Keeps s v (xs ++ ys)
keeps_both {s} {u} {v} {xs} {ys} a b = record {
  muted = b.muted ∙ a.muted;
  lists = b.lists ∙ a.lists;
  lines = b.lines ∙ a.lines;
  told = λ c.
      let first = a.told c in
      let second = b.told first.0 in
      (second.0, told_both (lists_of s) xs ys first.1 (subst (λ l. AreTold l ys) a.lists second.1));
}

-- where it is, and further
pub here : {A : Type 0} (f : State → Run A) (s : SceneState) (p : List ℕ) → Reaches f s p f s p
here f s p = record {
  asked = [];
  items = [];
  goes = λ a _. sym (after_none (f (at s a)));
  brings = λ a. brings_nothing (past_of (at s a));
  text = still s.muted p;
  keeps = keeps_nothing s;
}

after_reaching : {A : Type 0} {f g : State → Run A} {s u : SceneState} {p q : List ℕ} (a : Reaches f s p g u q) → IsAfter s u a.items
after_reaching a = record { muted = a.keeps.muted; spec = (a.brings Missing).spec; cluster = (a.brings Missing).cluster }

pub there : {A : Type 0} {f g h : State → Run A} {s u v : SceneState} {p q r : List ℕ} → Reaches f s p g u q → Reaches g u q h v r → Reaches f s p h v r
there {A} {f} {g} {h} {s} {u} {v} {p} {q} {r} a b = record {
  asked = a.asked ++ b.asked;
  items = a.items ++ b.items;
  goes = λ o given.
      a.goes o (gives_first a.asked b.asked o given)
      ∙ ap (λ y. after_items a.items y) (b.goes (left a.asked o) (gives_rest a.asked b.asked o given))
      ∙ sym (after_both a.items b.items (h (at v (left b.asked (left a.asked o)))))
      ∙ ap (λ z. after_items (a.items ++ b.items) (h (at v z))) (sym (left_both a.asked b.asked o));
  brings = λ o. brings_both (past_of (at s o)) (past_of (at u o)) (past_of (at v o)) a.items b.items (a.brings o) (b.brings o);
  text = texts_both s u a.items b.items p q r (after_reaching a) a.text b.text;
  keeps = keeps_both a.keeps b.keeps;
}

-- inside a longer operation
pub inside : {A B : Type 0} {f g : State → Run A} {s u : SceneState} {p q : List ℕ} → Reaches f s p g u q → (k : A → State → Run B)
    → Reaches (λ x. go_on (f x) k) s p (λ x. go_on (g x) k) u q
inside {A} {B} {f} {g} {s} {u} e k = record {
  asked = e.asked;
  items = e.items;
  goes = λ a given. ap (λ r. go_on r k) (e.goes a given) ∙ on_after e.items (g (at u (left e.asked a))) k;
  brings = e.brings;
  text = e.text;
  keeps = e.keeps;
}

-- at its end, what follows
pub then_on : {A B : Type 0} {f : State → Run A} {s u : SceneState} {p q : List ℕ} {answer : A} → Ends f s p answer u q → (k : A → State → Run B)
    → Reaches (λ x. go_on (f x) k) s p (k answer) u q
then_on {A} {B} {f} {s} {u} {p} {q} {answer} e k = record {
  asked = e.asked;
  items = e.items;
  goes = λ a given. ap (λ r. go_on r k) (e.goes a given) ∙ ap (λ h. after_items h (k answer (at u (left e.asked a)))) (append-nil e.items);
  brings = e.brings;
  text = e.text;
  keeps = e.keeps;
}

pub then_do : {B : Type 0} {f : State → Deed} {s u : SceneState} {p q : List ℕ} → Ends f s p tt u q → (g : State → Run B)
    → Reaches (λ x. and_then (f x) g) s p g u q
then_do e g = then_on e (λ _ x. g x)

-- where the history has no room, and where memory is wanted
pub stops_inside : {A B : Type 0} {f : State → Run A} {s u : SceneState} {p q : List ℕ} → StopsHere f s p u q → (k : A → State → Run B)
    → StopsHere (λ x. go_on (f x) k) s p u q
stops_inside e k = record {
  asked = e.asked;
  items = e.items;
  goes = λ a given. ap (λ r. go_on r k) (e.goes a given);
  brings = e.brings;
  text = e.text;
  keeps = e.keeps;
}

front_on : {A B : Type 0} (r : Run A) (k : A → State → Run B) (items more : List Item) → items_of r ≡ items ++ more → (rest : List Item) × (items_of (go_on r k) ≡ items ++ rest)
front_on (GoesOn is x answer) k items more e =
    let next = items_of (k answer x) in
    (more ++ next, items_after is (k answer x) ∙ ap (λ h. h ++ next) e ∙ append_assoc items more next)
front_on (Stops is x) k items more e = (more, e)

pub cut_inside : {A B : Type 0} {f : State → Run A} {s u : SceneState} {p q : List ℕ} → IsCut f s p u q → (k : A → State → Run B)
    → IsCut (λ x. go_on (f x) k) s p u q
cut_inside {A} {B} {f} {s} e k = record {
  asked = e.asked;
  items = e.items;
  front = λ a given. let all = e.front a given in front_on (f (at s a)) k e.items all.0 all.1;
  brings = e.brings;
  text = e.text;
  keeps = e.keeps;
}

pub fails_inside : {A B : Type 0} (f : State → Run A) (s : SceneState) (p : List ℕ) (fault : RoomFault) (u : SceneState) (q : List ℕ) → Fails f s p fault u q → (k : A → State → Run B)
    → Fails (λ x. go_on (f x) k) s p fault u q
fails_inside f s p (rooms.HistoryFull weight) u q e k = (stops_inside e.0 k, e.1)
fails_inside f s p rooms.OutOfMemory u q e k = cut_inside e k

pub fails_inside_deed : {B : Type 0} (f : State → Deed) (s : SceneState) (p : List ℕ) (fault : RoomFault) (u : SceneState) (q : List ℕ) → Fails f s p fault u q → (k : State → Run B)
    → Fails (λ x. and_then (f x) k) s p fault u q
fails_inside_deed f s p fault u q e k = fails_inside f s p fault u q e (λ _ x. k x)

-- after what was done
pub cut_after : {A : Type 0} {f g : State → Run A} {s u v : SceneState} {p q r : List ℕ} → Reaches f s p g u q → IsCut g u q v r → IsCut f s p v r
cut_after {A} {f} {g} {s} {u} {v} {p} {q} {r} a b = record {
  asked = a.asked ++ b.asked;
  items = a.items ++ b.items;
  front = λ o given.
      let rest = b.front (left a.asked o) (gives_rest a.asked b.asked o given) in (
        rest.0,
        ap items_of (a.goes o (gives_first a.asked b.asked o given))
            ∙ items_after a.items (g (at u (left a.asked o)))
            ∙ ap (λ h. a.items ++ h) rest.1
            ∙ sym (append_assoc a.items b.items rest.0),
      );
  brings = λ o. brings_both (past_of (at s o)) (past_of (at u o)) (past_of (at v o)) a.items b.items (a.brings o) (b.brings o);
  text = prints_both s u a.items b.items p q r (after_reaching a) a.text b.text;
  keeps = keeps_both a.keeps b.keeps;
}

pub fails_after : {A : Type 0} {f g : State → Run A} {s u : SceneState} {p q : List ℕ} → Reaches f s p g u q → (fault : RoomFault) (v : SceneState) (r : List ℕ) → Fails g u q fault v r
    → Fails f s p fault v r
fails_after a (rooms.HistoryFull weight) v r b = (there a b.0, b.1)
fails_after a rooms.OutOfMemory v r b = cut_after a b

pub does_after : {A R : Type 0} {f g : State → Run A} {s u : SceneState} {p q : List ℕ} → Reaches f s p g u q → (answer : R → A) (v : SceneState) (r : List ℕ) (result : Result R RoomFault)
    → Does g answer u q v r result → Does f answer s p v r result
does_after a answer v r (Ok x) b = there a b
does_after a answer v r (Err fault) b = fails_after a fault v r b

-- an operation that is done, and then the one that follows it; or it fails
pub does_then : {A B R : Type 0} {f : State → Run A} {s u : SceneState} {p q : List ℕ} {given : A} → Ends f s p given u q → (k : A → State → Run B)
    → (answer : R → B) (v : SceneState) (r : List ℕ) (result : Result R RoomFault) → Does (k given) answer u q v r result → Does (λ x. go_on (f x) k) answer s p v r result
does_then a k answer v r result b = does_after (then_on a k) answer v r result b

pub does_then_deed : {B R : Type 0} {f : State → Deed} {s u : SceneState} {p q : List ℕ} → Ends f s p tt u q → (k : State → Run B)
    → (answer : R → B) (v : SceneState) (r : List ℕ) (result : Result R RoomFault) → Does k answer u q v r result → Does (λ x. and_then (f x) k) answer s p v r result
does_then_deed a k answer v r result b = does_after (then_do a k) answer v r result b

-- by a result that is this fault
pub does_err : {A R : Type 0} (f : State → Run A) (answer : R → A) (s : SceneState) (p : List ℕ) (u : SceneState) (q : List ℕ) (result : Result R RoomFault) (fault : RoomFault)
    → IsErrAnd result (λ e. e ≡ fault) → Fails f s p fault u q → Does f answer s p u q result
does_err f answer s p u q (Ok x) fault is e = absurd is
does_err f answer s p u q (Err other) fault is e = subst (λ x. Fails f s p x u q) (sym is) e

-- the whole of two operations, where both results are known: of the second only where the first was done
pub ends_then : {B : Type 0} {f : State → Deed} {s u v : SceneState} {p q r : List ℕ} {answer : B} → Ends f s p tt u q → (k : State → Run B)
    → Ends k u q answer v r → Ends (λ x. and_then (f x) k) s p answer v r
ends_then a k b = there (then_do a k) b

-- an operation that is another one on this scene
pub reaches_as : {A : Type 0} {f g h : State → Run A} {s u : SceneState} {p q : List ℕ} → ((a : Answers) → f (at s a) ≡ g (at s a)) → Reaches g s p h u q → Reaches f s p h u q
reaches_as same e = record {
  asked = e.asked;
  items = e.items;
  goes = λ a given. same a ∙ e.goes a given;
  brings = e.brings;
  text = e.text;
  keeps = e.keeps;
}

pub reaches_to : {A : Type 0} {f g h : State → Run A} {s u : SceneState} {p q : List ℕ} → Reaches f s p g u q → ((a : Answers) → g (at u a) ≡ h (at u a)) → Reaches f s p h u q
reaches_to e same = record {
  asked = e.asked;
  items = e.items;
  goes = λ a given. e.goes a given ∙ ap (λ r. after_items e.items r) (same (left e.asked a));
  brings = e.brings;
  text = e.text;
  keeps = e.keeps;
}

pub cut_as : {A : Type 0} {f g : State → Run A} {s u : SceneState} {p q : List ℕ} → ((a : Answers) → f (at s a) ≡ g (at s a)) → IsCut g s p u q → IsCut f s p u q
cut_as same e = record {
  asked = e.asked;
  items = e.items;
  front = λ a given. let all = e.front a given in (all.0, ap items_of (same a) ∙ all.1);
  brings = e.brings;
  text = e.text;
  keeps = e.keeps;
}

pub fails_as : {A : Type 0} (f g : State → Run A) (s : SceneState) → ((a : Answers) → f (at s a) ≡ g (at s a)) → (p : List ℕ) (fault : RoomFault) (u : SceneState) (q : List ℕ)
    → Fails g s p fault u q → Fails f s p fault u q
fails_as f g s same p (rooms.HistoryFull weight) u q e = (reaches_as same e.0, e.1)
fails_as f g s same p rooms.OutOfMemory u q e = cut_as same e

pub does_as : {A R : Type 0} (f g : State → Run A) (s : SceneState) → ((a : Answers) → f (at s a) ≡ g (at s a)) → (answer : R → A) (p : List ℕ) (u : SceneState) (q : List ℕ) (result : Result R RoomFault)
    → Does g answer s p u q result → Does f answer s p u q result
does_as f g s same answer p u q (Ok x) e = reaches_as same e
does_as f g s same answer p u q (Err fault) e = fails_as f g s same p fault u q e

-- nothing is done
pub nothing_done : {A : Type 0} (f : State → Run A) (answer : A) (s : SceneState) (p : List ℕ) → ((a : Answers) → f (at s a) ≡ gives (at s a) answer) → Ends f s p answer s p
nothing_done f answer s p same = reaches_as same (here (λ x. GoesOn [] x answer) s p)

-- memory is wanted before anything is done
pub cut_here : {A : Type 0} (f : State → Run A) (s : SceneState) (p : List ℕ) → IsCut f s p s p
cut_here f s p = record {
  asked = [];
  items = [];
  front = λ a _. (items_of (f (at s a)), refl);
  brings = λ a. brings_nothing (past_of (at s a));
  text = prints_none s p;
  keeps = keeps_nothing s;
}

-- a step that brings nothing
abbrev past_at : Spec → Held → Past
past_at spec b = record { spec = spec; limit = b.limit; history = b.history; cluster = b.cluster; weight = weight_at b }

brings_same : (s u : SceneState) (a : Answers) → u.board ≡ s.board → u.spec ≡ s.spec → Brings (past_of (at s a)) [] (past_of (at u a))
brings_same s u a board spec =
    subst (λ past. Brings (past_of (at s a)) [] past) (ap (λ z. past_at z s.board) (sym spec) ∙ ap (λ b. past_at u.spec b) (sym board)) (brings_nothing (past_of (at s a)))

-- or where all is done and printed
pub cut_at_end : {A : Type 0} {f : State → Run A} {s u : SceneState} {p q : List ℕ} {answer : A} → Ends f s p answer u q → IsCut f s p u q
cut_at_end {A} {f} {s} {u} {p} {q} e = record {
  asked = e.asked;
  items = e.items;
  front = λ a given. ([], ap items_of (e.goes a given));
  brings = e.brings;
  text = prints_all s e.items p q e.text;
  keeps = e.keeps;
}

-- memory is wanted where nothing that counts was done
pub nothing_yet : {A : Type 0} (f : State → Run A) (s : SceneState) (p : List ℕ) (u : SceneState) → u.board ≡ s.board → u.spec ≡ s.spec → Keeps s u [] → IsCut f s p u p
nothing_yet f s p u board spec keeps = record {
  asked = [];
  items = [];
  front = λ a _. (items_of (f (at s a)), refl);
  brings = λ a. brings_same s u a board spec;
  text = prints_none s p;
  keeps = keeps;
}

pub one_step : {A : Type 0} (f g : State → Run A) (s : SceneState) (p : List ℕ) (u : SceneState) (asked : List Asked) → ((a : Answers) → Gives asked a → f (at s a) ≡ g (at u (left asked a)))
    → u.board ≡ s.board → u.spec ≡ s.spec → Keeps s u asked → Reaches f s p g u p
one_step f g s p u asked same board spec keeps = record {
  asked = asked;
  items = [];
  goes = λ a given. same a given ∙ sym (after_none (g (at u (left asked a))));
  brings = λ a. brings_same s u a board spec;
  text = still s.muted p;
  keeps = keeps;
}

-- a pure change
pub changed : (change : State → State) (s : SceneState) (p : List ℕ) (u : SceneState) → ((a : Answers) → change (at s a) ≡ at u a) → u.board ≡ s.board → u.spec ≡ s.spec → Keeps s u []
    → Ends (λ x. done (change x)) s p tt u p
changed change s p u same board spec keeps =
    one_step (λ x. done (change x)) (λ x. GoesOn [] x tt) s p u [] (λ a _. ap (λ x. GoesOn [] x tt) (same a)) board spec keeps

pub changed_gives : {A : Type 0} (change : State → State) (answer : A) (s : SceneState) (p : List ℕ) (u : SceneState) → ((a : Answers) → change (at s a) ≡ at u a) → u.board ≡ s.board → u.spec ≡ s.spec
    → Keeps s u [] → Ends (λ x. gives (change x) answer) s p answer u p
changed_gives change answer s p u same board spec keeps =
    one_step (λ x. gives (change x) answer) (λ x. GoesOn [] x answer) s p u [] (λ a _. ap (λ x. GoesOn [] x answer) (same a)) board spec keeps

-- room in the history, as a test, and as a refusal tells it
pub room_of : {E : Type 0} (b : Held) (more : ℕ) (fault : ℕ → E) → full b more fault ≡ None → nat_lt b.limit (weight_at b + more) ≡ false
room_of {E} b more fault is = one (nat_lt b.limit (weight_at b + more)) is
  where
    one : (t : Bool) → (if t then Some (fault (weight_at b)) else None) ≡ None → t ≡ false
    one true e = cc
    one false e = refl

pub no_room_of : {E : Type 0} (b : Held) (more : ℕ) (fault : ℕ → E) (x : E) → full b more fault ≡ Some x → (nat_lt b.limit (weight_at b + more) ≡ true) × (x ≡ fault (weight_at b))
no_room_of {E} b more fault x is = one (nat_lt b.limit (weight_at b + more)) is
  where
    one : (t : Bool) → (if t then Some (fault (weight_at b)) else None) ≡ Some x → (t ≡ true) × (x ≡ fault (weight_at b))
    one true e = (refl, cc)
    one false e = cc

-- what a board weighs after an event, or a charge
weight_later : (h : List Event) (e : Event) → weight_of_all (h ++ e ∷ []) ≡ weight_of_all h + weight_of e
weight_later [] e = omega arith
weight_later (d ∷ h) e = let more = weight_later h e in omega arith

pub weighs_happened : (b : Held) (e : Event) → weight_at (on_board b e) ≡ weight_at b + weight_of e
weighs_happened b e = let more = weight_later b.history e in omega arith

pub weighs_charged : (b : Held) (n : ℕ) → weight_at (charged_board b n) ≡ weight_at b + n
weighs_charged b n = omega arith

-- the scene after an event, or a charge, as the plain world has it
pub at_happened : (e : Event) (s u : SceneState) (a : Answers) → u ≡ record s { board = on_board s.board e } → happened e (at s a) ≡ at u a
at_happened e s u a is =
    ap (λ (w : ℕ). record (happened e (at s a)) { world = record (happened e (at s a)).world { weight = w } }) (sym (weighs_happened s.board e))
    ∙ ap (λ v. at v a) (sym is)

pub at_charged : (n : ℕ) (s u : SceneState) (a : Answers) → u ≡ record s { board = charged_board s.board n } → charged n (at s a) ≡ at u a
at_charged n s u a is =
    ap (λ (w : ℕ). record (charged n (at s a)) { world = record (charged n (at s a)).world { weight = w } }) (sym (weighs_charged s.board n))
    ∙ ap (λ v. at v a) (sym is)

brings_happened : (e : Event) (s u : SceneState) (a : Answers) → u ≡ record s { board = on_board s.board e } → Brings (past_of (at s a)) (Happens e ∷ []) (past_of (at u a))
brings_happened e s u a is = subst (λ x. Brings (past_of (at s a)) (Happens e ∷ []) (past_of x)) (at_happened e s u a is) (brings_event e (at s a)).all

brings_charged : (n : ℕ) (text : List ℕ) (s u : SceneState) (a : Answers) → u ≡ record s { board = charged_board s.board n } → Brings (past_of (at s a)) (Says n text ∷ []) (past_of (at u a))
brings_charged n text s u a is =
    subst (λ x. Brings (past_of (at s a)) (Says n text ∷ []) (past_of x)) (at_charged n s u a is)
    (record { spec = refl; limit = refl; history = sym (append-nil s.board.history); cluster = refl; weight = omega arith })

-- an event is made, and printed whole or by a front
pub makes : (e : Event) (s u : SceneState) (p q : List ℕ) → u ≡ record s { board = on_board s.board e } → q ≡ p ++ entry_heard s e → Ends (make e) s p tt u q
makes e s u p q is text = record {
  asked = [];
  items = Happens e ∷ [];
  goes = λ a _. ap (λ x. GoesOn (Happens e ∷ []) x tt) (at_happened e s u a is);
  brings = λ a. brings_happened e s u a is;
  text = text ∙ ap (λ t. p ++ heard s.muted t) (sym (append-nil (entry_text s.spec s.board.cluster e)));
  keeps = keeps_board s u (on_board s.board e) is refl;
}

pub makes_cut : (e : Event) (s u : SceneState) (p q : List ℕ) → u ≡ record s { board = on_board s.board e } → PutsFront (entry_heard s e) p q → IsCut (make e) s p u q
makes_cut e s u p q is front = record {
  asked = [];
  items = Happens e ∷ [];
  front = λ a _. ([], refl);
  brings = λ a. brings_happened e s u a is;
  text = prints_event s e p q front;
  keeps = keeps_board s u (on_board s.board e) is refl;
}

-- one that needs room: it has some
happen_made : (e : Event) (s : SceneState) (a : Answers) → nat_lt s.board.limit (weight_at s.board + weight_of e) ≡ false → happen e (at s a) ≡ make e (at s a)
happen_made e s a room = ap (λ (t : Bool). if t then Stops [] (at s a) else make e (at s a)) room

pub happens : (e : Event) (s u : SceneState) (p q : List ℕ) → nat_lt s.board.limit (weight_at s.board + weight_of e) ≡ false → u ≡ record s { board = on_board s.board e }
    → q ≡ p ++ entry_heard s e → Ends (happen e) s p tt u q
happens e s u p q room is text = reaches_as (λ a. happen_made e s a room) (makes e s u p q is text)

-- it has none
stops_at : {A : Type 0} (f : State → Run A) (s : SceneState) (p : List ℕ) → ((a : Answers) → f (at s a) ≡ Stops [] (at s a)) → StopsHere f s p s p
stops_at f s p same = reaches_as same (here (λ x. Stops [] x) s p)

-- the board refused it: for want of memory, or of room
refused_at : {A : Type 0} (f : State → Run A) (n : ℕ) (s u : SceneState) (p : List ℕ) (fault : RoomFault)
    → (nat_lt s.board.limit (weight_at s.board + n) ≡ true → (a : Answers) → f (at s a) ≡ Stops [] (at s a)) → u ≡ s
    → (fault ≡ rooms.OutOfMemory) ⊎ (full s.board n rooms.HistoryFull ≡ Some fault) → Fails f s p fault u p
refused_at f n s u p fault stops same why =
    subst (λ v. Fails f s p fault v p) (sym same)
    (elim why [
      | inl memory ↦ subst (λ x. Fails f s p x s p) (sym memory) (cut_here f s p)
      | inr room ↦
          let full = no_room_of s.board n rooms.HistoryFull fault room in
          subst (λ x. Fails f s p x s p) (sym full.1) (stops_at f s p (stops full.0), refl)
    ])

-- an event, and a pure change after it
keeps_from : (s u : SceneState) (b : Held) (asked : List Asked) → b.lines ≡ s.board.lines → Keeps s u asked → Keeps (record s { board = b }) u asked
keeps_from s u b asked lines k = record {
  muted = k.muted;
  lists = k.lists;
  lines = k.lines ∙ sym lines;
  told = λ c. k.told (record { few = c.few; staff = c.staff; jobs = c.jobs });
}

pub makes_and : {A : Type 0} (e : Event) (change : State → State) (answer : A) (asked : List Asked) (s u : SceneState) (p q : List ℕ)
    → ((a : Answers) → Gives asked a → change (at (record s { board = on_board s.board e }) a) ≡ at u (left asked a))
    → u.board ≡ on_board s.board e → u.spec ≡ s.spec → Keeps s u asked → q ≡ p ++ entry_heard s e
    → Ends (λ x. and_then (make e x) (λ y. gives (change y) answer)) s p answer u q
makes_and e change answer asked s u p q same board spec keeps text =
    let w : SceneState = record s { board = on_board s.board e } in
    there (then_do (makes e s w p q refl text) (λ y. gives (change y) answer))
    (one_step (λ y. gives (change y) answer) (λ x. GoesOn [] x answer) w q u asked (λ a given. ap (λ x. GoesOn [] x answer) (same a given)) board spec
    (keeps_from s u (on_board s.board e) asked refl keeps))

pub happens_and : {A : Type 0} (e : Event) (change : State → State) (answer : A) (asked : List Asked) (s u : SceneState) (p q : List ℕ)
    → nat_lt s.board.limit (weight_at s.board + weight_of e) ≡ false
    → ((a : Answers) → Gives asked a → change (at (record s { board = on_board s.board e }) a) ≡ at u (left asked a))
    → u.board ≡ on_board s.board e → u.spec ≡ s.spec → Keeps s u asked → q ≡ p ++ entry_heard s e
    → Ends (λ x. and_then (happen e x) (λ y. gives (change y) answer)) s p answer u q
happens_and e change answer asked s u p q room same board spec keeps text =
    reaches_as (λ a. ap (λ r. and_then r (λ y. gives (change y) answer)) (happen_made e s a room)) (makes_and e change answer asked s u p q same board spec keeps text)

-- an event, and what is done besides without an item
brings_first : (e : Event) (s u : SceneState) (a : Answers) → u.board ≡ on_board s.board e → u.spec ≡ s.spec → Brings (past_of (at s a)) (Happens e ∷ []) (past_of (at u a))
brings_first e s u a board spec =
    let w : SceneState = record s { board = on_board s.board e } in
    brings_both (past_of (at s a)) (past_of (at w a)) (past_of (at u a)) (Happens e ∷ []) [] (brings_happened e s w a refl) (brings_same w u a board spec)

-- an operation whose first item is an event, which was made, and maybe more of it done, but printed by a front
pub event_cut : {A : Type 0} (f : State → Run A) (e : Event) (asked : List Asked) (s u : SceneState) (p q : List ℕ)
    → ((a : Answers) → Gives asked a → (more : List Item) × (items_of (f (at s a)) ≡ Happens e ∷ more))
    → u.board ≡ on_board s.board e → u.spec ≡ s.spec → Keeps s u asked → PutsFront (entry_heard s e) p q → IsCut f s p u q
event_cut f e asked s u p q is board spec keeps front = record {
  asked = asked;
  items = Happens e ∷ [];
  front = is;
  brings = λ a. brings_first e s u a board spec;
  text = prints_event s e p q front;
  keeps = keeps;
}

-- one that is that event, and with it is done
pub event_ends : {A : Type 0} (f : State → Run A) (e : Event) (answer : A) (asked : List Asked) (s u : SceneState) (p q : List ℕ)
    → ((a : Answers) → Gives asked a → f (at s a) ≡ GoesOn (Happens e ∷ []) (at u (left asked a)) answer)
    → u.board ≡ on_board s.board e → u.spec ≡ s.spec → Keeps s u asked → q ≡ p ++ entry_heard s e → Ends f s p answer u q
event_ends f e answer asked s u p q is board spec keeps text = record {
  asked = asked;
  items = Happens e ∷ [];
  goes = is;
  brings = λ a. brings_first e s u a board spec;
  text = text ∙ ap (λ t. p ++ heard s.muted t) (sym (append-nil (entry_text s.spec s.board.cluster e)));
  keeps = keeps;
}

pub makes_and_cut : {B : Type 0} (e : Event) (g : State → Run B) (asked : List Asked) (s u : SceneState) (p q : List ℕ) → u.board ≡ on_board s.board e → u.spec ≡ s.spec → Keeps s u asked
    → PutsFront (entry_heard s e) p q → IsCut (λ x. and_then (make e x) g) s p u q
makes_and_cut e g asked s u p q board spec keeps front =
    event_cut (λ x. and_then (make e x) g) e asked s u p q (λ a _. (items_of (g (happened e (at s a))), items_after (Happens e ∷ []) (g (happened e (at s a))))) board spec keeps front

pub happens_and_cut : {B : Type 0} (e : Event) (g : State → Run B) (asked : List Asked) (s u : SceneState) (p q : List ℕ) → nat_lt s.board.limit (weight_at s.board + weight_of e) ≡ false
    → u.board ≡ on_board s.board e → u.spec ≡ s.spec → Keeps s u asked → PutsFront (entry_heard s e) p q → IsCut (λ x. and_then (happen e x) g) s p u q
happens_and_cut e g asked s u p q room board spec keeps front =
    cut_as (λ a. ap (λ r. and_then r g) (happen_made e s a room)) (makes_and_cut e g asked s u p q board spec keeps front)

-- a line is said, and printed whole or by a front
say_said : (n : ℕ) (text : List ℕ) (s : SceneState) (a : Answers) → nat_lt s.board.limit (weight_at s.board + n) ≡ false → say n text (at s a) ≡ GoesOn (Says n text ∷ []) (charged n (at s a)) tt
say_said n text s a room = ap (λ (t : Bool). if t then Stops [] (at s a) else GoesOn (Says n text ∷ []) (charged n (at s a)) tt) room

pub says : (f : State → Deed) (n : ℕ) (text : List ℕ) (s u : SceneState) (p q : List ℕ) → ((a : Answers) → f (at s a) ≡ say n text (at s a))
    → nat_lt s.board.limit (weight_at s.board + n) ≡ false → u ≡ record s { board = charged_board s.board n } → q ≡ p ++ heard s.muted text → Ends f s p tt u q
says f n text s u p q is room after printed = record {
  asked = [];
  items = Says n text ∷ [];
  goes = λ a _. is a ∙ say_said n text s a room ∙ ap (λ x. GoesOn (Says n text ∷ []) x tt) (at_charged n s u a after);
  brings = λ a. brings_charged n text s u a after;
  text = printed ∙ ap (λ t. p ++ heard s.muted t) (sym (append-nil text));
  keeps = keeps_board s u (charged_board s.board n) after refl;
}

pub says_cut : (f : State → Deed) (n : ℕ) (text : List ℕ) (s u : SceneState) (p q : List ℕ) → ((a : Answers) → f (at s a) ≡ say n text (at s a))
    → nat_lt s.board.limit (weight_at s.board + n) ≡ false → u ≡ record s { board = charged_board s.board n } → PutsFront (heard s.muted text) p q → IsCut f s p u q
says_cut f n text s u p q is room after front = record {
  asked = [];
  items = Says n text ∷ [];
  front = λ a _. ([], ap items_of (is a ∙ say_said n text s a room));
  brings = λ a. brings_charged n text s u a after;
  text = prints_said s n text p q front;
  keeps = keeps_board s u (charged_board s.board n) after refl;
}

-- the history has no room for it
pub says_none : (f : State → Deed) (n : ℕ) (text : List ℕ) (s : SceneState) (p : List ℕ) → ((a : Answers) → f (at s a) ≡ say n text (at s a))
    → nat_lt s.board.limit (weight_at s.board + n) ≡ true → StopsHere f s p s p
says_none f n text s p is full =
    stops_at f s p (λ a. is a ∙ ap (λ (t : Bool). if t then Stops [] (at s a) else GoesOn (Says n text ∷ []) (charged n (at s a)) tt) full)

-- by what the board's charge came to: it was made and the text printed; a front of the text was printed; the charge was refused
pub said : {R : Type 0} (f : State → Deed) (n : ℕ) (text : List ℕ) (s u : SceneState) (p q : List ℕ) (r : R) → ((a : Answers) → f (at s a) ≡ say n text (at s a))
    → IsCharged n s u (Ok r) → q ≡ p ++ heard s.muted text → Ends f s p tt u q
said f n text s u p q r is charge printed = says f n text s u p q is (room_of s.board n rooms.HistoryFull charge.refused) charge.ok printed

pub said_cut : {R : Type 0} (f : State → Deed) (n : ℕ) (text : List ℕ) (s u : SceneState) (p q : List ℕ) (r : R) (fault : RoomFault) → ((a : Answers) → f (at s a) ≡ say n text (at s a))
    → IsCharged n s u (Ok r) → PutsFront (heard s.muted text) p q → fault ≡ rooms.OutOfMemory → Fails f s p fault u q
said_cut f n text s u p q r fault is charge front memory =
    subst (λ x. Fails f s p x u q) (sym memory) (says_cut f n text s u p q is (room_of s.board n rooms.HistoryFull charge.refused) charge.ok front)

pub said_full : {R : Type 0} (f : State → Deed) (n : ℕ) (text : List ℕ) (s u : SceneState) (p : List ℕ) (fault : RoomFault) → ((a : Answers) → f (at s a) ≡ say n text (at s a))
    → IsCharged {R = R} n s u (Err fault) → Fails f s p fault u p
said_full f n text s u p fault is charge =
    let full = no_room_of s.board n rooms.HistoryFull fault charge.refused in
    subst (λ v. Fails f s p fault v p) (sym charge.err) (subst (λ x. Fails f s p x s p) (sym full.1) (says_none f n text s p is full.0, refl))

-- an operation for each item of a list
-- the first of them is done, or fails
pub each_step : {X : Type 0} (f : X → State → Deed) (xs : List X) (x : X) (rest : List X) {s u : SceneState} {p q : List ℕ} → xs ≡ x ∷ rest → Ends (f x) s p tt u q
    → Reaches (for_each f xs) s p (for_each f rest) u q
each_step f xs x rest {s} is e = reaches_as (λ a. ap (λ l. for_each f l (at s a)) is) (then_do e (λ y. for_each f rest y))

pub each_step_fails : {X : Type 0} (f : X → State → Deed) (xs : List X) (x : X) (rest : List X) (s : SceneState) (p : List ℕ) (fault : RoomFault) (u : SceneState) (q : List ℕ) → xs ≡ x ∷ rest
    → Fails (f x) s p fault u q → Fails (for_each f xs) s p fault u q
each_step_fails f xs x rest s p fault u q is e =
    subst (λ l. Fails (for_each f l) s p fault u q) (sym is) (fails_inside_deed (f x) s p fault u q e (λ y. for_each f rest y))

-- of a list from its i-th item on: that one is done, or fails, or there is none
pub each_more : {X : Type 0} {g : State → Deed} (f : X → State → Deed) (xs : List X) (i : ℕ) (d : X) {s u v : SceneState} {p q r : List ℕ} → i < length xs
    → Reaches g s p (for_each f (drop i xs)) u q → Ends (f (slice_index_or xs i d)) u q tt v r → Reaches g s p (for_each f (drop (i + 1) xs)) v r
each_more f xs i d below a b = there a (each_step f (drop i xs) (slice_index_or xs i d) (drop (i + 1) xs) (drop_more xs i d below) b)

pub each_fails : {X : Type 0} {g : State → Deed} (f : X → State → Deed) (xs : List X) (i : ℕ) (d : X) {s u : SceneState} {p q : List ℕ} (fault : RoomFault) (v : SceneState) (r : List ℕ) → i < length xs
    → Reaches g s p (for_each f (drop i xs)) u q → Fails (f (slice_index_or xs i d)) u q fault v r → Fails g s p fault v r
each_fails f xs i d {s} {u} {p} {q} fault v r below a b =
    fails_after a fault v r (each_step_fails f (drop i xs) (slice_index_or xs i d) (drop (i + 1) xs) u q fault v r (drop_more xs i d below) b)

pub each_end : {X : Type 0} {g : State → Deed} (f : X → State → Deed) (xs : List X) (i : ℕ) {s u : SceneState} {p q : List ℕ} → length xs ≤ i → Reaches g s p (for_each f (drop i xs)) u q → Ends g s p tt u q
each_end f xs i {s} {u} past a = reaches_to a (λ o. ap (λ l. for_each f l (at u o)) (drop_all i xs past))

some_there : (lists : List (List Failure)) (i : ℕ) → slice_index_or (map Some lists) i (Some []) ≡ Some (slice_index_or lists i [])
some_there [] i = refl
some_there (x ∷ xs) zero = refl
some_there (x ∷ xs) (suc i) = some_there xs i

get_or_any : {A : Type 0} (xs : List A) (i : ℕ) (d e : A) → i < length xs → slice_index_or xs i d ≡ slice_index_or xs i e
get_or_any [] i d e here = absurd (omega arith)
get_or_any (x ∷ xs) zero d e here = refl
get_or_any (x ∷ xs) (suc i) d e here = get_or_any xs i d e (omega arith)

-- answers that are told. A list of an instance that there is
pub listed_there : (lists : List (Option (List Failure))) (i : ℕ) (d : Option (List Failure)) → i < length lists → slice_index_or lists i d ≡ slice_index_or lists i None
listed_there lists i d here = get_or_any lists i d None here

pub told_gives : (lists : List (List Failure)) (told : List (Option (List Failure))) → told ≡ map Some lists → (xs : List Asked) → AreTold told xs → Gives xs (Told lists)
told_gives lists told is [] t = tt
told_gives lists told is (x ∷ xs) t =
    let known : slice_index_or told x.instance.0 (Some []) ≡ Some (slice_index_or lists x.instance.0 []) =
    ap (λ l. slice_index_or l x.instance.0 (Some [])) is ∙ some_there lists x.instance.0 in
    (sym (subst (λ o. IsToldBy o x) known t.0), told_gives lists told is xs t.1)

-- answers in order
pub answered_gives : (xs : List Asked) (rest : List Outcome) → Gives xs (Answered (map (λ x. x.outcome) xs ++ rest))
answered_gives [] rest = tt
answered_gives (x ∷ xs) rest = (refl, answered_gives xs rest)

pub answered_left : (xs : List Asked) (rest : List Outcome) → left xs (Answered (map (λ x. x.outcome) xs ++ rest)) ≡ Answered rest
answered_left [] rest = refl
answered_left (x ∷ xs) rest = answered_left xs rest

-- what an operation keeps of the plain world holds of the scene that it comes to, whether it goes on or stops
left_on : {A : Type 0} (I : State → Type 0) (is : List Item) (x : State) (answer : A) (r : Run A) → r ≡ after_items is (GoesOn [] x answer) → Leaves I r → I x
left_on I is x answer r e k = subst I (ap state_of e) k.left

pub kept : {A : Type 0} {f : State → Run A} {s u : SceneState} {p q : List ℕ} {answer : A} → Ends f s p answer u q → (I : State → Type 0) → ((a : Answers) → Leaves I (f (at s a)))
    → (rest : List Outcome) → I (at u (Answered rest))
kept {A} {f} {s} {u} {p} {q} {answer} e I keep rest =
    let a : Answers = Answered (map (λ x. x.outcome) e.asked ++ rest) in
    subst (λ o. I (at u o)) (answered_left e.asked rest)
    (left_on I e.items (at u (left e.asked a)) answer (f (at s a)) (e.goes a (answered_gives e.asked rest)) (keep a))

-- so a world stays of its history, and in step
pub going_at : {spec : Spec} (s : SceneState) → IsOfItsHistory spec (world_of s) → IsInStep (world_of s) → (a : Answers) → IsGoing spec (since s.board.cluster.line) (at s a)
going_at {spec = spec} s of in_step a = record { scripted = scripted_since spec (world_of s) of; in_step = in_step }

pub kept_going : {A : Type 0} {f : State → Run A} {s u : SceneState} {p q : List ℕ} {answer : A} {spec : Spec} → Ends f s p answer u q → IsOfItsHistory spec (world_of s) → IsInStep (world_of s)
    → ((a : Answers) → IsGoing spec (since s.board.cluster.line) (at s a) → Leaves (IsGoing spec (since s.board.cluster.line)) (f (at s a))) → IsOfItsHistory spec (world_of u) × IsInStep (world_of u)
kept_going {A} {f} {s} {u} {p} {q} {answer} {spec} e of in_step keep =
    let going : IsGoing spec (since s.board.cluster.line) (at u (Answered [])) = kept e (IsGoing spec (since s.board.cluster.line)) (λ a. keep a (going_at s of in_step a)) [] in
    (going.scripted.of, going.in_step)

-- what stays, whatever an operation comes to
pub does_bring : {A R : Type 0} (f : State → Run A) (answer : R → A) (s : SceneState) (p : List ℕ) (u : SceneState) (q : List ℕ) (result : Result R RoomFault) → Does f answer s p u q result
    → (items : List Item) × Brings (past_of (at s Missing)) items (past_of (at u Missing))
does_bring f answer s p u q (Ok x) e = (e.items, e.brings Missing)
does_bring f answer s p u q (Err (rooms.HistoryFull weight)) e = (e.0.items, e.0.brings Missing)
does_bring f answer s p u q (Err rooms.OutOfMemory) e = (e.items, e.brings Missing)
