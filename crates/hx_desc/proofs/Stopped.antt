-- Steps whose value is a part of what is read, and what is read behind steps.
use Rattle.std.proofs.Common.{◌≡◌, Ok, Err, Result}
use Rattle.std.specs.Prelude.{IsErrAnd}
use Rattle.hx_forms.specs.declared.faults.DescRefusal.{DescRefusal}
use Rattle.hx_forms.specs.Found.{Found, ◌>>=◌}
use Rattle.hx_forms.specs.Reading.{Reads, Refuses, at_ok}
use Rattle.hx_forms.proofs.Chains.{reads_stopped}

-- what refuses a step refuses all behind it, whatever is made of their value
pub part_stopped : {A B C : Type 0} (f : A → C) (m : Found B) (k : B → Found C) (e : DescRefusal) (r : Result A DescRefusal) → IsErrAnd r (λ given. given ≡ e) → Refuses e m → Reads (at_ok f r) (m >>= k)
part_stopped f m k e (Ok x) is refuses = absurd is
part_stopped f m k e (Err given) is refuses = reads_stopped m k e (Err given) is refuses

-- what refuses a part refuses the whole
pub refused : {A : Type 0} (m : Found A) (e : DescRefusal) (r : Result A DescRefusal) → IsErrAnd r (λ given. given ≡ e) → Refuses e m → Reads r m
refused m e (Ok x) is refuses = absurd is
refused m e (Err given) is refuses = rw is refuses

pub part_refused : {A C : Type 0} (f : A → C) (m : Found C) (e : DescRefusal) (r : Result A DescRefusal) → IsErrAnd r (λ given. given ≡ e) → Refuses e m → Reads (at_ok f r) m
part_refused f m e (Ok x) is refuses = absurd is
part_refused f m e (Err given) is refuses = rw is refuses

-- what is read behind a step that found no fault
pub found_behind : {A B : Type 0} (m : Found A) (k : A → Found B) (x : A) (y : Found B) → m ≡ Ok x → k x ≡ y → (m >>= k) ≡ y
found_behind m k x y is same = rw is same
