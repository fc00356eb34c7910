-- Steps that are done one after another.
use Rattle.std.proofs.Common.{◌≡◌, ℕ, ◌+◌, ◌*◌, ◌≤◌, ◌<◌, Bool, true, false, List, [], ◌∷◌, ◌++◌, length, Option, Some, None, Result, Ok, Err, ◌⊎◌, inl, inr, refl, ap, subst, arith}
use Rattle.std.specs.Prelude.{codes, decimal, IsErrAnd, if◌then◌else◌, nat_lt, ◌||◌}
use Rattle.std.proofs.lemmas.Bool.Decides.{nat_tests}
use Rattle.std.specs.List.{position_or_len}
use Rattle.std.specs.Str.{bytes_eq}
use Rattle.serde_json.specs.Data.{Data, Members}
use Rattle.serde_json.specs.Find.{get_member}
use Rattle.hx_ids.specs.Names.{place_of}
use Rattle.hx_forms.specs.declared.faults.DescKind.{DescKind}
use Rattle.hx_forms.specs.declared.faults.DescKind.TheVariants as kinds
use Rattle.hx_forms.specs.declared.faults.DescRefusal.{DescRefusal}
use Rattle.hx_forms.specs.declared.faults.DescRefusal.TheVariants.{Fault, OutOfMemory}
use Rattle.hx_forms.specs.Found.{Found, fault, ◌>>=◌, within, in_item, there_or, text_in, whole_in, number_in, place_in, array_in, array_up_to, read_from, read_there, read_or, required, optional}
use Rattle.hx_forms.specs.Reading.{Reads, Refuses}

-- what is read behind a step is read of both
pub reads_behind : {A B : Type 0} (m : Found A) (k : A → Found B) (x : A) (r : Result B DescRefusal) → m ≡ Ok x → Reads r (k x) → Reads r (m >>= k)
reads_behind m k x r is reads = rw is reads

stopped : {A B : Type 0} (m : Found A) (k : A → Found B) (e : DescRefusal) → Refuses e m → Refuses e (m >>= k)
stopped m k (Fault f) refuses = rw refuses refl
stopped m k OutOfMemory refuses = tt

-- what refuses a step refuses all behind it
pub reads_stopped : {A B : Type 0} (m : Found A) (k : A → Found B) (e : DescRefusal) (r : Result B DescRefusal) → IsErrAnd r (λ given. given ≡ e) → Refuses e m → Reads r (m >>= k)
reads_stopped m k e (Ok x) is refuses = absurd is
reads_stopped m k e (Err given) is refuses = rw is (stopped m k e refuses)

-- where both find no fault, the first finds none
pub then_ok : {A B : Type 0} (m : Found A) (k : A → Found B) (y : B) → (m >>= k) ≡ Ok y → (x : A) × (m ≡ Ok x) × (k x ≡ Ok y)
then_ok (Ok x) k y is = (x, refl, is)
then_ok (Err f) k y is = cc

pub ok_same : {A : Type 0} (x y : A) → (let m : Found A = Ok x in m ≡ Ok y) → x ≡ y
ok_same x y is = cc

pub within_ok : {A : Type 0} (part : List ℕ) (m : Found A) (y : A) → within part m ≡ Ok y → m ≡ Ok y
within_ok part (Ok x) y is = is
within_ok part (Err f) y is = cc

-- what is there was there
pub there_or_ok : {A : Type 0} (kind : DescKind) (o : Option A) (y : A) → there_or kind o ≡ Ok y → o ≡ Some y
there_or_ok kind None y is = cc
there_or_ok kind (Some x) y is = ap Some (ok_same x y is)

-- a value that passed a test, which then finds nothing
pub passed : {A : Type 0} (kind : DescKind) (b : Bool) (m : Found A) (y : A) → (if b then fault kind else m) ≡ Ok y → (b ≡ false) × (m ≡ Ok y)
passed kind true m y is = cc
passed kind false m y is = (refl, is)

there_ok : {A : Type 0} (read : Data → Found A) (o : Option Data) (y : A) → read_there read o ≡ Ok y → (d : Data) × (read d ≡ Ok y)
there_ok read None y is = cc
there_ok read (Some d) y is = (d, is)

-- a member that was read
pub required_ok : {A : Type 0} (name : List ℕ) (read : Data → Found A) (ms : Members) (y : A) → required name read ms ≡ Ok y → (d : Data) × (read d ≡ Ok y)
required_ok name read ms y is = there_ok read (get_member name ms) y (within_ok (codes "." ++ name) _ y is)

-- a member that may be there
pub optional_ok : {A : Type 0} (name : List ℕ) (default : A) (read : Data → Found A) (ms : Members) (y : A) → optional name default read ms ≡ Ok y → (default ≡ y) ⊎ ((d : Data) × (read d ≡ Ok y))
optional_ok name default read ms y is = one (get_member name ms) (within_ok (codes "." ++ name) _ y is)
  where
    one : (o : Option Data) → read_or default read o ≡ Ok y → (default ≡ y) ⊎ ((d : Data) × (read d ≡ Ok y))
    one None is = inl (ok_same default y is)
    one (Some d) is = inr (d, is)

-- an item that was read
pub item_ok : {A : Type 0} (place : ℕ) (m : Found A) (y : A) → in_item place m ≡ Ok y → m ≡ Ok y
item_ok place m y is = within_ok (codes "[" ++ decimal place ++ codes "]") m y is

-- an array of few items
pub array_few : (most : ℕ) (d : Data) (ds : List Data) → array_up_to most d ≡ Ok ds → length ds ≤ most
array_few most d ds is =
    let t = then_ok (array_in d) _ ds is in
    few t.0 (nat_lt most (length t.0)) refl t.2
  where
    few : (xs : List Data) (b : Bool) → nat_lt most (length xs) ≡ b → (if b then fault kinds.TooMany else Ok xs) ≡ Ok ds → length ds ≤ most
    few xs true long is = cc
    few xs false long is = let same : xs ≡ ds = ok_same xs ds is in grind (arith, nat_tests, long, ap length same)

-- a number that was read is in its range
pub number_range : (low high : ℕ) (d : Data) (n : ℕ) → number_in low high d ≡ Ok n → (low ≤ n) × (n ≤ high)
number_range low high d n is =
    let t = then_ok (whole_in d) _ n is in
    let test = passed kinds.OutOfRange (nat_lt t.0 low || nat_lt high t.0) (Ok t.0) n t.2 in
    let same : t.0 ≡ n = ok_same t.0 n test.1 in
    in_range t.0 same test.0
  where
    in_range : (m : ℕ) → m ≡ n → (nat_lt m low || nat_lt high m) ≡ false → (low ≤ n) × (n ≤ high)
    in_range m same inside = (grind (arith, nat_tests, same, inside), grind (arith, nat_tests, same, inside))

-- a place that was read is one of a name
pub place_range : (unknown : DescKind) (names : List (List ℕ)) (d : Data) (place : ℕ) → place_in unknown names d ≡ Ok place → place < length names
place_range unknown names d place is =
    let name = then_ok (text_in d) _ place is in
    found (position_or_len (bytes_eq name.0) names) (there_or_ok unknown (place_of names name.0) place name.2)
  where
    found : (n : ℕ) → (if nat_lt n (length names) then Some n else None) ≡ Some place → place < length names
    found n is = one (nat_lt n (length names)) refl is
      where
        one : (b : Bool) → nat_lt n (length names) ≡ b → (if b then Some n else None) ≡ Some place → place < length names
        one true within is = let same : n ≡ place = cc in grind (arith, nat_tests, within, same)
        one false within is = cc

-- what holds at first and is kept by each item holds at the end
pub keeps : {A : Type 0} (P : A → Type 0) (read : A → Data → Found A) → ((a b : A) (d : Data) → P a → read a d ≡ Ok b → P b) → (ds : List Data) (place : ℕ) (a b : A)
    → P a → read_from place read a ds ≡ Ok b → P b
keeps P read step [] place a b holds is = subst P (ok_same a b is) holds
keeps P read step (d ∷ ds) place a b holds is =
    let s = then_ok (in_item place (read a d)) (λ after. read_from (place + 1) read after ds) b is in
    keeps P read step ds (place + 1) s.0 b (step a s.0 d holds (item_ok place (read a d) s.0 s.1)) s.2

-- what grows by so much with each item
pub grows : {A : Type 0} (size : A → ℕ) (k : ℕ) (read : A → Data → Found A) → ((a b : A) (d : Data) → read a d ≡ Ok b → size b ≤ size a + k) → (ds : List Data) (place : ℕ) (a b : A)
    → read_from place read a ds ≡ Ok b → size b ≤ size a + k * length ds
grows size k read step [] place a b is = omega (arith, ap size (ok_same a b is))
grows size k read step (d ∷ ds) place a b is =
    let s = then_ok (in_item place (read a d)) (λ after. read_from (place + 1) read after ds) b is in
    omega (arith, grows size k read step ds (place + 1) s.0 b s.2, step a s.0 d (item_ok place (read a d) s.0 s.1))

-- what grows by exactly so much
pub counts : {A : Type 0} (size : A → ℕ) (read : A → Data → Found A) → ((a b : A) (d : Data) → read a d ≡ Ok b → size b ≡ size a + 1) → (ds : List Data) (place : ℕ) (a b : A)
    → read_from place read a ds ≡ Ok b → size b ≡ size a + length ds
counts size read step [] place a b is = omega (arith, ap size (ok_same a b is))
counts size read step (d ∷ ds) place a b is =
    let s = then_ok (in_item place (read a d)) (λ after. read_from (place + 1) read after ds) b is in
    omega (arith, counts size read step ds (place + 1) s.0 b s.2, step a s.0 d (item_ok place (read a d) s.0 s.1))
