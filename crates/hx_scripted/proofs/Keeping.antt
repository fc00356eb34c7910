-- Operations that keep what holds of a state.
use Rattle.std.proofs.Common.{◌≡◌, ℕ, ◌+◌, ◌≤◌, Bool, true, false, List, [], ◌∷◌, ◌++◌, refl, arith}
use Rattle.std.specs.Prelude.{if◌then◌else◌, nat_lt}
use Rattle.std.specs.List.{list_all}
use Rattle.std.proofs.lemmas.Bool.Decides.{nat_tests}
use Rattle.hx_cluster.specs.declared.happenings.Event.{Event}
use Rattle.hx_cluster.specs.Weight.{weight_of}
use Rattle.hx_safe.proofs.Counting.{and-first, and-second}
use Rattle.hx_worlds.specs.World.{State}
use Rattle.hx_worlds.specs.Items.{Item, Happens, Says}
use Rattle.hx_worlds.specs.Runs.{Run, Deed, GoesOn, Stops, state_of, gives, done, after_items, go_on, and_then, happened, make, happen, charged, say, for_each}

-- it holds of the state that a run leaves, whether it goes on or stops
pub record Keeps {A : Type 0} (I : State → Type 0) (r : Run A) : Type 0 where
  pub left : I (state_of r)

pub keeps_after : {A : Type 0} (I : State → Type 0) (is : List Item) (r : Run A) → Keeps I r → Keeps I (after_items is r)
keeps_after I is (GoesOn more x answer) k = record { left = k.left }
keeps_after I is (Stops more x) k = record { left = k.left }

pub keeps_on : {A B : Type 0} (I : State → Type 0) (r : Run A) (f : A → State → Run B) → Keeps I r → ((answer : A) (x : State) → I x → Keeps I (f answer x)) → Keeps I (go_on r f)
keeps_on I (GoesOn is x answer) f k more = keeps_after I is (f answer x) (more answer x k.left)
keeps_on I (Stops is x) f k more = record { left = k.left }

pub keeps_then : {B : Type 0} (I : State → Type 0) (r : Deed) (f : State → Run B) → Keeps I r → ((x : State) → I x → Keeps I (f x)) → Keeps I (and_then r f)
keeps_then I r f k more = keeps_on I r (λ _ x. f x) k (λ _ x here. more x here)

pub keeps_each : {X : Type 0} (I : State → Type 0) (f : X → State → Deed) → ((i : X) (x : State) → I x → Keeps I (f i x)) → (is : List X) (x : State) → I x → Keeps I (for_each f is x)
keeps_each I f keep [] x here = record { left = here }
keeps_each I f keep (i ∷ is) x here = keeps_then I (f i x) (λ y. for_each f is y) (keep i x here) (λ y there. keeps_each I f keep is y there)

-- where each item passes a test
pub keeps_those : {X : Type 0} (I : State → Type 0) (p : X → Bool) (f : X → State → Deed) → ((i : X) (x : State) → p i ≡ true → I x → Keeps I (f i x)) → (is : List X) (x : State)
    → list_all p is ≡ true → I x → Keeps I (for_each f is x)
keeps_those I p f keep [] x all here = record { left = here }
keeps_those I p f keep (i ∷ is) x all here =
    keeps_then I (f i x) (λ y. for_each f is y) (keep i x (and-first (p i) (list_all p is) all) here)
    (λ y there. keeps_those I p f keep is y (and-second (p i) (list_all p is) all) there)

-- nothing is done
pub keeps_gives : {A : Type 0} (I : State → Type 0) (x : State) (answer : A) → I x → Keeps I (gives x answer)
keeps_gives I x answer here = record { left = here }

-- where there is room
room_is : (limit n : ℕ) → nat_lt limit n ≡ false → n ≤ limit
room_is limit n e = grind (arith, nat_tests, e)

-- an event happens, and what follows it is done, or the history has no room
happens_on : {B : Type 0} (I : State → Type 0) (stops : Bool) (e : Event) (x : State) (f : State → Run B) → nat_lt x.world.limit (x.world.weight + weight_of e) ≡ stops → I x
    → (x.world.weight + weight_of e ≤ x.world.limit → Keeps I (f (happened e x))) → Keeps I (and_then (if stops then Stops [] x else make e x) f)
happens_on I true e x f is here more = record { left = here }
happens_on I false e x f is here more = keeps_after I (Happens e ∷ []) (f (happened e x)) (more (room_is x.world.limit (x.world.weight + weight_of e) is))

pub happens_then : {B : Type 0} (I : State → Type 0) (e : Event) (x : State) (f : State → Run B) → I x → (x.world.weight + weight_of e ≤ x.world.limit → Keeps I (f (happened e x)))
    → Keeps I (and_then (happen e x) f)
happens_then I e x f here more = happens_on I (nat_lt x.world.limit (x.world.weight + weight_of e)) e x f refl here more

happens_or : (I : State → Type 0) (stops : Bool) (e : Event) (x : State) → nat_lt x.world.limit (x.world.weight + weight_of e) ≡ stops → I x → (x.world.weight + weight_of e ≤ x.world.limit → I (happened e x))
    → Keeps I (if stops then Stops [] x else make e x)
happens_or I true e x is here there = record { left = here }
happens_or I false e x is here there = record { left = there (room_is x.world.limit (x.world.weight + weight_of e) is) }

pub happens : (I : State → Type 0) (e : Event) (x : State) → I x → (x.world.weight + weight_of e ≤ x.world.limit → I (happened e x)) → Keeps I (happen e x)
happens I e x here there = happens_or I (nat_lt x.world.limit (x.world.weight + weight_of e)) e x refl here there

-- an event that is made without asking for room
pub makes_then : {B : Type 0} (I : State → Type 0) (e : Event) (x : State) (f : State → Run B) → Keeps I (f (happened e x)) → Keeps I (and_then (make e x) f)
makes_then I e x f more = keeps_after I (Happens e ∷ []) (f (happened e x)) more

-- a line is said, or the history has no room
says_or : (I : State → Type 0) (stops : Bool) (charge : ℕ) (text : List ℕ) (x : State) → nat_lt x.world.limit (x.world.weight + charge) ≡ stops → I x → (x.world.weight + charge ≤ x.world.limit → I (charged charge x))
    → Keeps {A = Unit {0}} I (if stops then Stops [] x else GoesOn (Says charge text ∷ []) (charged charge x) tt)
says_or I true charge text x is here there = record { left = here }
says_or I false charge text x is here there = record { left = there (room_is x.world.limit (x.world.weight + charge) is) }

pub says : (I : State → Type 0) (charge : ℕ) (text : List ℕ) (x : State) → I x → (x.world.weight + charge ≤ x.world.limit → I (charged charge x)) → Keeps I (say charge text x)
says I charge text x here there = says_or I (nat_lt x.world.limit (x.world.weight + charge)) charge text x refl here there

-- one of two operations, whose test may be used
pub choice : {A : Type 0} (I : State → Type 0) (b : Bool) (r s : Run A) → (b ≡ true → Keeps I r) → (b ≡ false → Keeps I s) → Keeps I (if b then r else s)
choice I true r s kr ks = kr refl
choice I false r s kr ks = ks refl

-- a run that keeps one fact, and then another one
pub keeps_more : {A : Type 0} (I J : State → Type 0) (r : Run A) → Keeps I r → ((x : State) → I x → J x) → Keeps J r
keeps_more I J r k more = record { left = more (state_of r) k.left }

pub keeps_by : (I J : State → Type 0) (r : Deed) (f : State → Deed) → Keeps I r → ((x : State) → I x → J x) → ((x : State) → I x → Keeps J (f x)) → Keeps J (and_then r f)
keeps_by I J (GoesOn is x answer) f k more next = keeps_after J is (f x) (next x k.left)
keeps_by I J (Stops is x) f k more next = record { left = more x k.left }

-- a line is taken and done, and the lines after it
line_on : (I J : State → Type 0) (stops : Bool) (e : Event) (x : State) (f g : State → Deed) → J x → Keeps I (f (happened e x)) → ((y : State) → I y → J y) → ((y : State) → I y → Keeps J (g y))
    → Keeps J (and_then (and_then (if stops then Stops [] x else make e x) f) g)
line_on I J true e x f g here k more next = record { left = here }
line_on I J false e x f g here k more next = keeps_by I J (and_then (make e x) f) g (keeps_after I (Happens e ∷ []) (f (happened e x)) k) more next

pub line_then : (I J : State → Type 0) (e : Event) (x : State) (f g : State → Deed) → J x → Keeps I (f (happened e x)) → ((y : State) → I y → J y) → ((y : State) → I y → Keeps J (g y))
    → Keeps J (and_then (and_then (happen e x) f) g)
line_then I J e x f g here k more next = line_on I J (nat_lt x.world.limit (x.world.weight + weight_of e)) e x f g here k more next

-- what is done at once after an event, and what comes then
done_on : (I : State → Type 0) (stops : Bool) (e : Event) (x : State) (f : State → State) (g : State → Deed) → nat_lt x.world.limit (x.world.weight + weight_of e) ≡ stops → I x
    → (x.world.weight + weight_of e ≤ x.world.limit → Keeps I (g (f (happened e x)))) → Keeps I (and_then (and_then (if stops then Stops [] x else make e x) (λ y. done (f y))) g)
done_on I true e x f g is here k = record { left = here }
done_on I false e x f g is here k = keeps_after I (Happens e ∷ [] ++ []) (g (f (happened e x))) (k (room_is x.world.limit (x.world.weight + weight_of e) is))

pub done_then : (I : State → Type 0) (e : Event) (x : State) (f : State → State) (g : State → Deed) → I x → (x.world.weight + weight_of e ≤ x.world.limit → Keeps I (g (f (happened e x))))
    → Keeps I (and_then (and_then (happen e x) (λ y. done (f y))) g)
done_then I e x f g here k = done_on I (nat_lt x.world.limit (x.world.weight + weight_of e)) e x f g refl here k
