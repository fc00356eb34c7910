-- What holds of the answers and the states of operations that go on.
use Rattle.std.proofs.Common.{◌≡◌, ℕ, ◌+◌, ◌≤◌, Bool, true, false, List, [], ◌∷◌, ◌++◌, refl, subst, arith}
use Rattle.std.proofs.lemmas.Bool.Decides.{nat_tests}
use Rattle.std.specs.Prelude.{if◌then◌else◌, nat_lt}
use Rattle.hx_cluster.specs.declared.happenings.Event.{Event}
use Rattle.hx_cluster.specs.Weight.{weight_of}
use Rattle.hx_worlds.specs.World.{State}
use Rattle.hx_worlds.specs.Items.{Item, Happens}
use Rattle.hx_worlds.specs.Runs.{Run, Deed, GoesOn, Stops, gives, done, after_items, go_on, and_then, happened, make, happen, for_each}
use Rattle.hx_scripted.proofs.Keeping.{Keeps}
use Rattle.hx_bounded.specs.Ending.{IfGoesOn}

pub goes_after : {A : Type 0} (P : A → State → Type 0) (is : List Item) (r : Run A) → IfGoesOn P r → IfGoesOn P (after_items is r)
goes_after P is (GoesOn more x answer) g = record { to = g.to }
goes_after P is (Stops more x) g = record { to = tt }

pub goes_on : {A B : Type 0} (P : A → State → Type 0) (Q : B → State → Type 0) (r : Run A) (f : A → State → Run B) → IfGoesOn P r
    → ((answer : A) (x : State) → P answer x → IfGoesOn Q (f answer x)) → IfGoesOn Q (go_on r f)
goes_on P Q (GoesOn is x answer) f g more = goes_after Q is (f answer x) (more answer x g.to)
goes_on P Q (Stops is x) f g more = record { to = tt }

pub goes_then : {B : Type 0} (P : State → Type 0) (Q : B → State → Type 0) (r : Deed) (f : State → Run B) → IfGoesOn (λ _ x. P x) r
    → ((x : State) → P x → IfGoesOn Q (f x)) → IfGoesOn Q (and_then r f)
goes_then P Q r f g more = goes_on (λ _ x. P x) Q r (λ _ x. f x) g (λ _ x here. more x here)

pub goes_gives : {A : Type 0} (P : A → State → Type 0) (x : State) (answer : A) → P answer x → IfGoesOn P (gives x answer)
goes_gives P x answer here = record { to = here }

-- beside what is kept whether it goes on or stops
pub goes_too : {A : Type 0} (I : State → Type 0) (P : A → State → Type 0) (r : Run A) → Keeps I r → IfGoesOn P r → IfGoesOn (λ answer x. I x × P answer x) r
goes_too I P (GoesOn is x answer) k g = record { to = (k.left, g.to) }
goes_too I P (Stops is x) k g = record { to = tt }

pub goes_so : {A : Type 0} (P Q : A → State → Type 0) (r : Run A) → IfGoesOn P r → ((answer : A) (x : State) → P answer x → Q answer x) → IfGoesOn Q r
goes_so P Q (GoesOn is x answer) g so = record { to = so answer x g.to }
goes_so P Q (Stops is x) g so = record { to = tt }

-- for each item of a list, by what holds before those that are left
pub goes_each : {X : Type 0} (P : List X → State → Type 0) (f : X → State → Deed)
    → ((i : X) (is : List X) (x : State) → P (i ∷ is) x → IfGoesOn (λ _ y. P is y) (f i x)) → (is : List X) (x : State) → P is x → IfGoesOn (λ _ y. P [] y) (for_each f is x)
goes_each P f each [] x here = record { to = here }
goes_each {X} P f each (i ∷ is) x here =
    goes_then (P is) (λ _ y. P [] y) (f i x) (λ y. for_each f is y) (each i is x here) (λ y there. goes_each P f each is y there)

-- an event happens, and what follows it is done
pub goes_made : {B : Type 0} (Q : B → State → Type 0) (e : Event) (x : State) (f : State → Run B) → IfGoesOn Q (f (happened e x)) → IfGoesOn Q (and_then (make e x) f)
goes_made Q e x f more = goes_after Q (Happens e ∷ []) (f (happened e x)) more

happens_or : {B : Type 0} (Q : B → State → Type 0) (stops : Bool) (e : Event) (x : State) (f : State → Run B) → IfGoesOn Q (f (happened e x))
    → IfGoesOn Q (and_then (if stops then Stops [] x else make e x) f)
happens_or Q true e x f more = record { to = tt }
happens_or Q false e x f more = goes_made Q e x f more

pub goes_happened : {B : Type 0} (Q : B → State → Type 0) (e : Event) (x : State) (f : State → Run B) → IfGoesOn Q (f (happened e x)) → IfGoesOn Q (and_then (happen e x) f)
goes_happened Q e x f more = happens_or Q (nat_lt x.world.limit (x.world.weight + weight_of e)) e x f more

-- one of two operations, whose test may be used
pub goes_chosen : {A : Type 0} (P : A → State → Type 0) (b : Bool) (r s : Run A) → (b ≡ true → IfGoesOn P r) → (b ≡ false → IfGoesOn P s) → IfGoesOn P (if b then r else s)
goes_chosen P true r s f g = f refl
goes_chosen P false r s f g = g refl

-- an event happens where there is room, then something at once, and then what follows
room_is : (limit n : ℕ) → nat_lt limit n ≡ false → n ≤ limit
room_is limit n e = grind (arith, nat_tests, e)

fetched_or : {B : Type 0} (Q : B → State → Type 0) (stops : Bool) (e : Event) (x : State) (f : State → State) (g : State → Run B) → nat_lt x.world.limit (x.world.weight + weight_of e) ≡ stops
    → (x.world.weight + weight_of e ≤ x.world.limit → IfGoesOn Q (g (f (happened e x)))) → IfGoesOn Q (and_then (and_then (if stops then Stops [] x else make e x) (λ y. done (f y))) g)
fetched_or Q true e x f g is more = record { to = tt }
fetched_or Q false e x f g is more = goes_after Q (Happens e ∷ [] ++ []) (g (f (happened e x))) (more (room_is x.world.limit (x.world.weight + weight_of e) is))

pub goes_fetched : {B : Type 0} (Q : B → State → Type 0) (e : Event) (x : State) (f : State → State) (g : State → Run B)
    → (x.world.weight + weight_of e ≤ x.world.limit → IfGoesOn Q (g (f (happened e x)))) → IfGoesOn Q (and_then (and_then (happen e x) (λ y. done (f y))) g)
goes_fetched Q e x f g more = fetched_or Q (nat_lt x.world.limit (x.world.weight + weight_of e)) e x f g refl more

-- two facts of one run
pub goes_both : {A : Type 0} (P Q : A → State → Type 0) (r : Run A) → IfGoesOn P r → IfGoesOn Q r → IfGoesOn (λ answer x. P answer x × Q answer x) r
goes_both P Q (GoesOn is x answer) f g = record { to = (f.to, g.to) }
goes_both P Q (Stops is x) f g = record { to = tt }

-- a run that went on
pub went_on : {A : Type 0} (P : A → State → Type 0) (r : Run A) (is : List Item) (x : State) (answer : A) → r ≡ GoesOn is x answer → IfGoesOn P r → P answer x
went_on P r is x answer same g = (subst (IfGoesOn P) same g).to
