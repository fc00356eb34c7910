-- What a JSON value is read as, or the first fault in it.
use Rattle.std.specs.Prelude.{ℕ, ◌+◌, Bool, not, ◌||◌, List, [], ◌∷◌, ◌++◌, length, Option, None, Some, option_map, option_and_then, Result, Ok, Err, nat_lt, if◌then◌else◌, codes, decimal}
use Rattle.std.specs.List.{list_any, list_all}
use Rattle.std.specs.Str.{bytes_eq}
use Rattle.serde_json.specs.Data.{Data, Items, no_items, item, Members, no_members, member}
use Rattle.serde_json.specs.Find.{get_member, as_str, as_number, as_u64, as_array, as_object}
use Rattle.hx_ids.specs.Names.{place_of}
use Rattle.hx_text.specs.Spellings.{is_name}
use Rattle.hx_forms.specs.declared.faults.DescKind.{DescKind}
use Rattle.hx_forms.specs.declared.faults.DescKind.TheVariants as kinds
use Rattle.hx_forms.specs.declared.faults.DescFault.{DescFault}

abbrev pub Found : Type 0 → Type 0
Found A = Result A DescFault

-- a fault of the value itself
abbrev pub fault : {A : Type 0} → DescKind → Found A
fault kind = Err (record { kind = kind; path = [] })

-- the next step, where the first found no fault
infixl 10 ◌>>=◌
abbrev pub ◌>>=◌ : {A B : Type 0} → Found A → (A → Found B) → Found B
Ok x >>= f = f x
Err e >>= f = Err e

-- what is found in a part of a value: a fault's path begins with the part
abbrev pub within : {A : Type 0} → List ℕ → Found A → Found A
within part (Ok x) = Ok x
within part (Err f) = Err (record { kind = f.kind; path = part ++ f.path })

abbrev pub in_member : {A : Type 0} → List ℕ → Found A → Found A
in_member name found = within (codes "." ++ name) found

abbrev pub in_item : {A : Type 0} → ℕ → Found A → Found A
in_item place found = within (codes "[" ++ decimal place ++ codes "]") found

-- the tests of a value in order, each with its fault, and what is read where none finds one
abbrev pub tested : {A : Type 0} → List (Bool × DescKind) → A → Found A
tested [] x = Ok x
tested (test ∷ tests) x = if test.0 then fault test.1 else tested tests x

-- what is there, or else a fault
abbrev pub there_or : {A : Type 0} → DescKind → Option A → Found A
there_or kind None = fault kind
there_or kind (Some x) = Ok x

-- texts and whole numbers
abbrev pub text_in : Data → Found (List ℕ)
text_in d = there_or kinds.WrongType (as_str d)

abbrev pub whole_in : Data → Found ℕ
whole_in d = there_or kinds.WrongType (option_and_then as_u64 (as_number d))

abbrev pub number_in : ℕ → ℕ → Data → Found ℕ
number_in low high d = do
  n ← whole_in d
  tested ((nat_lt n low || nat_lt high n, kinds.OutOfRange) ∷ []) n

-- a name that is declared, beside those that were
abbrev pub new_name_in : List (List ℕ) → Data → Found (List ℕ)
new_name_in names d = do
  name ← text_in d
  tested ((not (is_name name), kinds.BadName) ∷ (list_any (bytes_eq name) names, kinds.Twice) ∷ []) name

-- the place of a name that is declared
abbrev pub place_in : DescKind → List (List ℕ) → Data → Found ℕ
place_in kind names d = do
  name ← text_in d
  there_or kind (place_of names name)

-- arrays
abbrev pub data_of : Items → List Data
data_of no_items = []
data_of (item d ds) = d ∷ data_of ds

abbrev pub array_in : Data → Found (List Data)
array_in d = there_or kinds.WrongType (option_map data_of (as_array d))

abbrev pub array_up_to : ℕ → Data → Found (List Data)
array_up_to most d = do
  ds ← array_in d
  tested ((nat_lt most (length ds), kinds.TooMany) ∷ []) ds

-- the items in order, from a place on, each read beside what was read before it
abbrev pub read_from : {A : Type 0} → ℕ → (A → Data → Found A) → A → List Data → Found A
read_from place read before [] = Ok before
read_from place read before (d ∷ ds) = do
  after ← in_item place (read before d)
  read_from (place + 1) read after ds

abbrev pub read_all : {A : Type 0} → (A → Data → Found A) → A → List Data → Found A
read_all read before ds = read_from 0 read before ds

-- objects, which have no members but some
abbrev pub keys_of : Members → List (List ℕ)
keys_of no_members = []
keys_of (member key d ms) = key ∷ keys_of ms

abbrev pub is_among : List (List ℕ) → List ℕ → Bool
is_among keys key = list_any (bytes_eq key) keys

abbrev pub object_in : List (List ℕ) → Data → Found Members
object_in keys d = do
  ms ← there_or kinds.WrongType (as_object d)
  tested ((not (list_all (is_among keys) (keys_of ms)), kinds.UnknownKey) ∷ []) ms

abbrev pub read_there : {A : Type 0} → (Data → Found A) → Option Data → Found A
read_there read None = fault kinds.Missing
read_there read (Some d) = read d

abbrev pub read_or : {A : Type 0} → A → (Data → Found A) → Option Data → Found A
read_or default read None = Ok default
read_or default read (Some d) = read d

-- a member that must be there, and one that may be
abbrev pub required : {A : Type 0} → List ℕ → (Data → Found A) → Members → Found A
required name read ms = in_member name (read_there read (get_member name ms))

abbrev pub optional : {A : Type 0} → List ℕ → A → (Data → Found A) → Members → Found A
optional name default read ms = in_member name (read_or default read (get_member name ms))
