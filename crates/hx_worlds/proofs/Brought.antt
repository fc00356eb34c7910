-- Every operation of a world brings what it adds.
use Rattle.std.proofs.Common.{◌≡◌, ℕ, ◌+◌, Bool, true, false, List, [], ◌∷◌, ◌++◌, refl, sym, ap, ◌∙◌, append_assoc, arith}
use Rattle.std.specs.Prelude.{if◌then◌else◌}
use Rattle.std.proofs.lemmas.List.{append-nil}
use Rattle.hx_cluster.specs.declared.state.Cluster.{Cluster}
use Rattle.hx_cluster.specs.declared.happenings.Event.{Event}
use Rattle.hx_cluster.specs.Events.{next, replay}
use Rattle.hx_worlds.specs.World.{State}
use Rattle.hx_worlds.specs.Items.{Item, Happens, Says, events_in, items_weight}
use Rattle.hx_worlds.specs.Runs.{Run, Deed, GoesOn, Stops, gives, after_items, go_on, and_then, make, happen, charged, say, for_each}
use Rattle.hx_worlds.specs.Brings.{Past, past_of, Brings, BringsIts}

events_in-append : (is js : List Item) → events_in (is ++ js) ≡ events_in is ++ events_in js
events_in-append [] js = refl
events_in-append (Happens e ∷ is) js = ap (λ es. e ∷ es) (events_in-append is js)
events_in-append (Says charge text ∷ is) js = events_in-append is js

replay-append : (c : Cluster) (es fs : List Event) → replay c (es ++ fs) ≡ replay (replay c es) fs
replay-append c [] fs = refl
replay-append c (e ∷ es) fs = replay-append (next c e) es fs

items_weight-append : (is js : List Item) → items_weight (is ++ js) ≡ items_weight is + items_weight js
items_weight-append [] js = omega arith
items_weight-append (Happens e ∷ is) js = let more = items_weight-append is js in omega arith
items_weight-append (Says charge text ∷ is) js = let more = items_weight-append is js in omega arith

-- nothing, and one after the other
pub brings_nothing : (p : Past) → Brings p [] p
brings_nothing p = record { spec = refl; limit = refl; history = sym (append-nil p.history); cluster = refl; weight = omega arith }

pub brings_both : (p q r : Past) (is js : List Item) → Brings p is q → Brings q js r → Brings p (is ++ js) r
brings_both p q r is js a b = record {
  spec = b.spec ∙ a.spec;
  limit = b.limit ∙ a.limit;
  history =
      b.history
      ∙ ap (λ h. h ++ events_in js) a.history
      ∙ append_assoc p.history (events_in is) (events_in js)
      ∙ ap (λ es. p.history ++ es) (sym (events_in-append is js));
  cluster =
      b.cluster
      ∙ ap (λ c. replay c (events_in js)) a.cluster
      ∙ sym (replay-append p.cluster (events_in is) (events_in js))
      ∙ ap (λ es. replay p.cluster es) (sym (events_in-append is js));
  weight = let first = a.weight in let second = b.weight in let all = items_weight-append is js in omega arith;
}

brings_after : {A : Type 0} → (p q : Past) (is : List Item) (r : Run A) → Brings p is q → BringsIts q r → BringsIts p (after_items is r)
brings_after p q is (GoesOn js x answer) a b = record { all = brings_both p q (past_of x) is js a b.all }
brings_after p q is (Stops js x) a b = record { all = brings_both p q (past_of x) is js a b.all }

pub brings_gives : {A : Type 0} → (x : State) (answer : A) → BringsIts (past_of x) (gives x answer)
brings_gives x answer = record { all = brings_nothing (past_of x) }

brings_stop : {A : Type 0} → (x : State) → BringsIts {A = A} (past_of x) (Stops [] x)
brings_stop x = record { all = brings_nothing (past_of x) }

pub brings_on : {A B : Type 0} → (p : Past) (r : Run A) (f : A → State → Run B) → BringsIts p r → ((answer : A) (x : State) → BringsIts (past_of x) (f answer x)) → BringsIts p (go_on r f)
brings_on p (GoesOn is x answer) f a b = brings_after p (past_of x) is (f answer x) a.all (b answer x)
brings_on p (Stops is x) f a b = record { all = a.all }

pub brings_then : {B : Type 0} → (p : Past) (r : Deed) (f : State → Run B) → BringsIts p r → ((x : State) → BringsIts (past_of x) (f x)) → BringsIts p (and_then r f)
brings_then p r f a b = brings_on p r (λ _ x. f x) a (λ _ x. b x)

pub brings_each : {X : Type 0} → (f : X → State → Deed) → ((i : X) (x : State) → BringsIts (past_of x) (f i x)) → (is : List X) (x : State) → BringsIts (past_of x) (for_each f is x)
brings_each f b [] x = brings_gives x tt
brings_each f b (i ∷ is) x = brings_then (past_of x) (f i x) (λ y. for_each f is y) (b i x) (λ y. brings_each f b is y)

-- events, and lines
pub brings_event : (e : Event) (x : State) → BringsIts (past_of x) (make e x)
brings_event e x = record { all = record { spec = refl; limit = refl; history = refl; cluster = refl; weight = omega arith } }

happen_on : (stops : Bool) (e : Event) (x : State) → BringsIts (past_of x) (if stops then Stops [] x else make e x)
happen_on true e x = brings_stop x
happen_on false e x = brings_event e x

pub brings_happening : (e : Event) (x : State) → BringsIts (past_of x) (happen e x)
brings_happening e x = happen_on _ e x

say_on : (stops : Bool) (charge : ℕ) (text : List ℕ) (x : State) → BringsIts {A = Unit {0}} (past_of x) (if stops then Stops [] x else GoesOn (Says charge text ∷ []) (charged charge x) tt)
say_on true charge text x = brings_stop x
say_on false charge text x = record {
  all = record {
    spec = refl;
    limit = refl;
    history = sym (append-nil x.world.history);
    cluster = refl;
    weight = omega arith;
  };
}

pub brings_line : (charge : ℕ) (text : List ℕ) (x : State) → BringsIts (past_of x) (say charge text x)
brings_line charge text x = say_on _ charge text x
