-- What a reader answers, beside what the definition finds.
use Rattle.std.specs.Prelude.{◌≡◌, ◌⊎◌, ℕ, List, ◌++◌, Result, Ok, Err}
use Rattle.hx_forms.specs.declared.faults.DescRefusal.{DescRefusal}
use Rattle.hx_forms.specs.declared.faults.DescRefusal.TheVariants.{Fault, OutOfMemory}
use Rattle.hx_forms.specs.Found.{Found}

-- the definition finds this fault. Want of memory may come anywhere
abbrev pub Refuses : {A : Type 0} → DescRefusal → Found A → Type 0
Refuses (Fault f) found = found ≡ Err f
Refuses OutOfMemory found = Unit {0}

-- the reader's value is the definition's, and so is its fault
abbrev pub Reads : {A : Type 0} → Result A DescRefusal → Found A → Type 0
Reads (Ok x) found = found ≡ Ok x
Reads (Err e) found = Refuses e found

-- the same fault, at a path that begins with a part
abbrev pub IsWithin : List ℕ → DescRefusal → DescRefusal → Type 0
IsWithin part (Fault f) new = (new ≡ OutOfMemory) ⊎ (new ≡ Fault (record { kind = f.kind; path = part ++ f.path }))
IsWithin part OutOfMemory new = new ≡ OutOfMemory

-- what a function makes of the value
abbrev pub at_ok : {A B E : Type 0} → (A → B) → Result A E → Result B E
at_ok f (Ok x) = Ok (f x)
at_ok f (Err e) = Err e
