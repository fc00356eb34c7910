-- Words that a log prints are read as what they tell, and no blank stands in them.
use Rattle.std.proofs.Common.{◌≡◌, ℕ, ◌+◌, ◌-◌, ◌^◌, ◌<◌, ◌≤◌, Bool, true, false, ◌&&◌, ◌==◌, nat_lt, nat_le, List, [], ◌∷◌, ◌++◌, length, map, Option, Some, None, Result, Ok, Err, if◌then◌else◌, codes, refl, sym, ap, ◌∙◌, append_assoc, arith}
use Rattle.std.specs.Prelude.{is_some}
use Rattle.std.proofs.lemmas.Bool.{and_parts, and_from, eqb-true, ltb-true}
use Rattle.std.proofs.lemmas.Bool.Decides.{nat_tests}
use Rattle.std.proofs.lemmas.Fmt.{digits_decimal}
use Rattle.std.proofs.lemmas.List.Folds.{list_all-append}
use Rattle.std.proofs.lemmas.List.Sums.{AllPass-from_list_all}
use Rattle.std.proofs.lemmas.Option.{unwrap_or-slice_get}
use Rattle.std.proofs.lemmas.Slice.Eq.{bytes_eq-Decides}
use Rattle.std.proofs.lemmas.Str.Parse.{IsNumeralModel, numerals_by_value, tells_all_ascii_digits}
use Rattle.std.specs.Char.{is_ascii_digit}
use Rattle.std.specs.Fmt.{decimal}
use Rattle.std.specs.List.{list_all, before_first, after_first}
use Rattle.std.specs.Option.{option_map, option_map_or}
use Rattle.std.specs.Str.{bytes_eq, all_ascii_digits}
use Rattle.std.specs.Str.Parse.{digits_value}
use Rattle.hx_ids.specs.Names.{place_of, place_after}
use Rattle.hx_ids.specs.declared.InstanceId.{InstanceId}
use Rattle.hx_ids.specs.declared.StateId.{StateId}
use Rattle.hx_ids.specs.declared.ModelId.{ModelId}
use Rattle.hx_ids.specs.declared.ResourceId.{ResourceId}
use Rattle.hx_ids.specs.declared.SessionId.{SessionId}
use Rattle.hx_ids.specs.declared.MsgId.{MsgId}
use Rattle.hx_ids.specs.declared.Epoch.{Epoch}
use Rattle.hx_ids.specs.declared.PassNo.{PassNo}
use Rattle.hx_ids.specs.declared.ControllerId.{ControllerId}
use Rattle.hx_ideal.specs.ModeKinds.{kind_name}
use Rattle.hx_ideal.specs.declared.kinds.ModeKind.{ModeKind}
use Rattle.hx_ideal.specs.declared.kinds.ModeKind.TheVariants as modes
use Rattle.hx_text.specs.Spellings.{is_name_byte, is_name}
use Rattle.hx_text.proofs.Names.{name_bytes, name_without}
use Rattle.hx_text.proofs.Numbers.{number_of-decimal, decimal-without}
use Rattle.hx_cluster.specs.declared.description.Spec.{Spec}
use Rattle.hx_cluster.specs.declared.happenings.Outcome.{Outcome}
use Rattle.hx_cluster.specs.declared.happenings.Outcome.TheVariants as outcomes
use Rattle.hx_cluster.specs.Valid.{is_within, are_names, are_distinct, IsValid}
use Rattle.hx_print.specs.Texts.{name_at, instance_name, state_name, model_name, controller_name, session_name, message_name, epoch_name, pass_name, outcome_name, numbered, mapped_name, move_text, or_dash}
use Rattle.hx_script.specs.declared.faults.ScriptKind.{ScriptKind}
use Rattle.hx_script.specs.declared.faults.ScriptKind.TheVariants as kinds
use Rattle.hx_script.specs.declared.log.LogPart.{LogPart}
use Rattle.hx_script.specs.Grammar.{map_ok, then_ok, or_fault, in_range, number_word, instance_word, state_word, model_word, controller_word, mode_word, is_equals, pair_word, all_words}
use Rattle.hx_script.specs.LineTexts.{mode_text}
use Rattle.hx_script.specs.Logs.{short_number, long_number, session_word, message_id_word, epoch_word, pass_word, unless_dash, is_dash, is_hash, is_slash, is_arrow, name_before, resource_number, resource_named, part_at, part_numbers, part_named, move_word, outcome_word}
use Rattle.hx_script.specs.Modes.{mode_numbered}
use Rattle.hx_script.specs.Ranges.{has_instance, has_state, has_entry, has_model, has_controller, has_resource_name}
use Rattle.hx_logs.specs.Printed.{is_short, is_long, is_named, is_part}
use Rattle.hx_logs.proofs.Cuts.{cut_here, place_again, place_after_again}

-- what two words tell, and three
pub two_read : {A B C : Type 0} (a : Result A ScriptKind) (b : Result B ScriptKind) (f : A → B → C) (x : A) (y : B) → a ≡ Ok x → b ≡ Ok y → then_ok a (λ u. map_ok (f u) b) ≡ Ok (f x y)
two_read a b f x y is also = ap (λ r. then_ok r (λ u. map_ok (f u) b)) is ∙ ap (map_ok (f x)) also

pub three_read : {A B C D : Type 0} (a : Result A ScriptKind) (b : Result B ScriptKind) (c : Result C ScriptKind) (f : A → B → C → D) (x : A) (y : B) (z : C) → a ≡ Ok x → b ≡ Ok y → c ≡ Ok z
    → then_ok a (λ u. then_ok b (λ v. map_ok (f u v) c)) ≡ Ok (f x y z)
three_read a b c f x y z is also last = ap (λ r. then_ok r (λ u. then_ok b (λ v. map_ok (f u v) c))) is ∙ two_read b c (f x) y z also last

-- any number of words
pub all_read : {A : Type 0} (word : List ℕ → Result A ScriptKind) (text : A → List ℕ) (test : A → Bool) → ((x : A) → test x ≡ true → word (text x) ≡ Ok x)
    → (xs : List A) → list_all test xs ≡ true → all_words word (map text xs) ≡ Ok xs
all_read word text test reads [] e = refl
all_read word text test reads (x ∷ xs) e =
    let both = and_parts (test x) (list_all test xs) e in
    ap (λ r. then_ok r (λ x. map_ok (λ xs. x ∷ xs) (all_words word (map text xs)))) (reads x both.0)
    ∙ ap (map_ok (λ xs. x ∷ xs)) (all_read word text test reads xs both.1)

-- bytes above the space
abbrev pub is_dark_byte : ℕ → Bool
is_dark_byte b = nat_lt 32 b

abbrev pub is_dark : List ℕ → Bool
is_dark w = list_all is_dark_byte w

pub all_so : {A : Type 0} (p q : A → Bool) → ((b : A) → p b ≡ true → q b ≡ true) → (bs : List A) → list_all p bs ≡ true → list_all q bs ≡ true
all_so p q so [] e = refl
all_so p q so (b ∷ bs) e = let both = and_parts (p b) (list_all p bs) e in and_from _ _ (so b both.0) (all_so p q so bs both.1)

dark_name_byte : (b : ℕ) → is_name_byte b ≡ true → is_dark_byte b ≡ true
dark_name_byte b e = grind (arith, nat_tests)

pub dark_name : (w : List ℕ) → is_name w ≡ true → is_dark w ≡ true
dark_name w e = all_so is_name_byte is_dark_byte dark_name_byte w (name_bytes w e)

dark_digits : (w : List ℕ) → all_ascii_digits w ≡ true → is_dark w ≡ true
dark_digits [] e = refl
dark_digits (b ∷ bs) e = let both = and_parts (is_ascii_digit b) (all_ascii_digits bs) e in and_from _ _ (dark_digit b both.0) (dark_digits bs both.1)
  where
    dark_digit : (b : ℕ) → is_ascii_digit b ≡ true → is_dark_byte b ≡ true
    dark_digit b e = grind (arith, nat_tests)

own : IsNumeralModel (λ ds. all_ascii_digits ds ≡ true) (digits_value 10)
own = numerals_by_value _ tells_all_ascii_digits

digits_of_decimal : (n : ℕ) → n < 2 ^ 64 → all_ascii_digits (decimal n) ≡ true
digits_of_decimal n small = digits_decimal own n small

-- numbers
pub within : (least most n : ℕ) → is_within least most n ≡ true → (least ≤ n) × (n ≤ most)
within least most n e = let both = and_parts (nat_le least n) (nat_le n most) e in (grind (arith, nat_tests, both), grind (arith, nat_tests, both))

long_short : (n : ℕ) → is_short n ≡ true → n < 2 ^ 64
long_short n e = omega (arith, (within 0 (2 ^ 32 - 1) n e).1)

long_long : (n : ℕ) → is_long n ≡ true → n < 2 ^ 64
long_long n e = omega (arith, (within 0 (2 ^ 64 - 1) n e).1)

number_read : (least most n : ℕ) → is_within least most n ≡ true → n < 2 ^ 64 → number_word least most (decimal n) ≡ Ok n
number_read least most n is small =
    ap (λ o. or_fault kinds.BadNumber (in_range least most o)) (number_of-decimal n small)
    ∙ ap (λ b. or_fault kinds.BadNumber (if b then Some n else None)) is

pub short_read : (n : ℕ) → is_short n ≡ true → short_number (decimal n) ≡ Ok n
short_read n is = number_read 0 (2 ^ 32 - 1) n is (long_short n is)

pub long_read : (n : ℕ) → is_long n ≡ true → long_number (decimal n) ≡ Ok n
long_read n is = number_read 0 (2 ^ 64 - 1) n is (long_long n is)

pub session_read : (s : SessionId) → is_long s.0 ≡ true → session_word (session_name s) ≡ Ok s
session_read s is = ap (λ o. or_fault kinds.BadNumber (option_map (λ n. let t : SessionId = record { 0 = n } in t) o)) (number_of-decimal s.0 (long_long s.0 is))

pub message_read : (m : MsgId) → is_long m.0 ≡ true → message_id_word (message_name m) ≡ Ok m
message_read m is = ap (λ o. or_fault kinds.BadMessage (option_map (λ n. let t : MsgId = record { 0 = n } in t) o)) (number_of-decimal m.0 (long_long m.0 is))

pub epoch_read : (e : Epoch) → is_long e.0 ≡ true → epoch_word (epoch_name e) ≡ Ok e
epoch_read e is = ap (λ o. or_fault kinds.BadNumber (option_map (λ n. let t : Epoch = record { 0 = n } in t) o)) (number_of-decimal e.0 (long_long e.0 is))

pub pass_read : (p : PassNo) → is_long p.0 ≡ true → pass_word (pass_name p) ≡ Ok p
pass_read p is = ap (λ o. or_fault kinds.BadNumber (option_map (λ n. let t : PassNo = record { 0 = n } in t) o)) (number_of-decimal p.0 (long_long p.0 is))

pub resource_read : (r : ResourceId) → is_short r.0 ≡ true → resource_number (decimal r.0) ≡ Ok r
resource_read r is = ap (map_ok (λ n. let t : ResourceId = record { 0 = n } in t)) (short_read r.0 is)

pub dark_short : (n : ℕ) → is_short n ≡ true → is_dark (decimal n) ≡ true
dark_short n is = dark_digits (decimal n) (digits_of_decimal n (long_short n is))

pub dark_long : (n : ℕ) → is_long n ≡ true → is_dark (decimal n) ≡ true
dark_long n is = dark_digits (decimal n) (digits_of_decimal n (long_long n is))

-- a mode, and an outcome
pub mode_read : (mode : ℕ) → is_some (mode_numbered mode) ≡ true → mode_word (mode_text mode) ≡ Ok mode
mode_read mode is = one (mode == 0) (mode == 1) (mode == 2) refl refl refl is
  where
    one : (a b c : Bool) → (mode == 0) ≡ a → (mode == 1) ≡ b → (mode == 2) ≡ c → is_some (if a then Some modes.FullAuto else if b then Some modes.SemiAuto else if c then Some modes.Customized else None) ≡ true
        → mode_word (mode_text mode) ≡ Ok mode
    one true b c ea eb ec is = let m = eqb-true mode 0 ea in rw m refl
    one false true c ea eb ec is = let m = eqb-true mode 1 eb in rw m refl
    one false false true ea eb ec is = let m = eqb-true mode 2 ec in rw m refl
    one false false false ea eb ec is = cc

pub dark_mode : (kind : Option ModeKind) → is_dark (option_map_or kind_name kind []) ≡ true
dark_mode None = refl
dark_mode (Some modes.FullAuto) = refl
dark_mode (Some modes.SemiAuto) = refl
dark_mode (Some modes.Customized) = refl

pub outcome_read : (outcome : Outcome) → outcome_word (outcome_name outcome) ≡ Ok outcome
outcome_read outcomes.Ok = refl
outcome_read outcomes.Failed = refl

pub dark_outcome : (outcome : Outcome) → is_dark (outcome_name outcome) ≡ true
dark_outcome outcomes.Ok = refl
dark_outcome outcomes.Failed = refl

-- a session, or a dash
pub session_or_read : (s : Option SessionId) → option_map_or (λ s. is_long s.0) s true ≡ true → unless_dash session_word (or_dash session_name s) ≡ Ok s
session_or_read None is = refl
session_or_read (Some s) is = ap (map_ok Some) (session_read s is)

pub dark_or : (s : Option SessionId) → option_map_or (λ s. is_long s.0) s true ≡ true → is_dark (or_dash session_name s) ≡ true
dark_or None is = refl
dark_or (Some s) is = dark_long s.0 is

-- names
pub name_there : (names : List (List ℕ)) (n : ℕ) → are_names names ≡ true → nat_lt n (length names) ≡ true → is_name (name_at names n) ≡ true
name_there names n named is =
    ap is_name (unwrap_or-slice_get names n []) ∙ AllPass-from_list_all is_name names (and_parts (list_all is_name names) (are_distinct bytes_eq names) named).0 n [] (ltb-true n (length names) is)

place_there : (names : List (List ℕ)) (n : ℕ) → are_names names ≡ true → nat_lt n (length names) ≡ true → place_of names (name_at names n) ≡ Some n
place_there names n named is = place_again names n (and_parts (list_all is_name names) (are_distinct bytes_eq names) named).1 (ltb-true n (length names) is)

-- what a name of each list is read as
pub instance_read : (spec : Spec) → IsValid spec → (i : InstanceId) → has_instance spec i ≡ true → instance_word spec (instance_name spec i) ≡ Ok i
instance_read spec valid i is = ap (λ o. or_fault kinds.UnknownInstance (option_map (λ n. let t : InstanceId = record { 0 = n } in t) o)) (place_there spec.instances i.0 valid.instances is)

pub state_read : (spec : Spec) → IsValid spec → (t : StateId) → has_state spec t ≡ true → state_word spec (state_name spec t) ≡ Ok t
state_read spec valid t is = ap (λ o. or_fault kinds.UnknownState (option_map (λ n. let t : StateId = record { 0 = n } in t) o)) (place_there spec.states t.0 valid.states is)

pub model_read : (spec : Spec) → IsValid spec → (m : ModelId) → has_model spec m ≡ true → model_word spec (model_name spec m) ≡ Ok m
model_read spec valid m is = ap (λ o. or_fault kinds.UnknownModel (option_map (λ n. let t : ModelId = record { 0 = n } in t) o)) (place_there spec.model_names m.0 valid.model_names is)

pub dark_instance : (spec : Spec) → IsValid spec → (i : InstanceId) → has_instance spec i ≡ true → is_dark (instance_name spec i) ≡ true
dark_instance spec valid i is = dark_name (instance_name spec i) (name_there spec.instances i.0 valid.instances is)

pub dark_state : (spec : Spec) → IsValid spec → (t : StateId) → has_state spec t ≡ true → is_dark (state_name spec t) ≡ true
dark_state spec valid t is = dark_name (state_name spec t) (name_there spec.states t.0 valid.states is)

pub dark_model : (spec : Spec) → IsValid spec → (m : ModelId) → has_model spec m ≡ true → is_dark (model_name spec m) ≡ true
dark_model spec valid m is = dark_name (model_name spec m) (name_there spec.model_names m.0 valid.model_names is)

-- a controller
controllers_few : (spec : Spec) → IsValid spec → (k : ControllerId) → has_controller spec k ≡ true → k.0 + 1 < 2 ^ 64
controllers_few spec valid k is = omega (arith, (within 1 16 spec.controllers valid.controllers).1, ltb-true k.0 spec.controllers is)

pub controller_read : (spec : Spec) → IsValid spec → (k : ControllerId) → has_controller spec k ≡ true → controller_word spec (controller_name k) ≡ Ok k
controller_read spec valid k is =
    let below = ltb-true k.0 spec.controllers is in
    let inside : (nat_le 1 (k.0 + 1) && nat_le (k.0 + 1) spec.controllers) ≡ true = grind (arith, nat_tests, below) in
    let number : k.0 + 1 - 1 ≡ k.0 = omega arith in
    ap (λ o. or_fault kinds.UnknownController (option_map (λ n. let t : ControllerId = record { 0 = n - 1 } in t) (in_range 1 spec.controllers o))) (number_of-decimal (k.0 + 1) (controllers_few spec valid k is))
    ∙ ap (λ b. or_fault kinds.UnknownController (option_map (λ n. let t : ControllerId = record { 0 = n - 1 } in t) (if b then Some (k.0 + 1) else None))) inside
    ∙ ap (λ n. let t : ControllerId = record { 0 = n } in Ok t) number

pub dark_controller : (spec : Spec) → IsValid spec → (k : ControllerId) → has_controller spec k ≡ true → is_dark (controller_name k) ≡ true
dark_controller spec valid k is = dark_digits (decimal (k.0 + 1)) (digits_of_decimal (k.0 + 1) (controllers_few spec valid k is))

-- a name with what stands behind a sign
dark_both : (v w : List ℕ) → is_dark v ≡ true → is_dark w ≡ true → is_dark (v ++ w) ≡ true
dark_both v w left right = list_all-append is_dark_byte v w ∙ and_from (is_dark v) (is_dark w) left right

-- a resource; a name that it has
abbrev pub name_told : Spec → Option ℕ → List ℕ
name_told spec name = option_map_or (name_at spec.resource_names) name []

pub told_is_name : (spec : Spec) → IsValid spec → (name : Option ℕ) → is_named spec name ≡ true → is_name (name_told spec name) ≡ true
told_is_name spec valid None is = cc
told_is_name spec valid (Some n) is = name_there spec.resource_names n valid.resource_names is

pub told_place : (spec : Spec) → IsValid spec → (name : Option ℕ) → is_named spec name ≡ true → place_of spec.resource_names (name_told spec name) ≡ name
told_place spec valid None is = cc
told_place spec valid (Some n) is = place_there spec.resource_names n valid.resource_names is

name_cut : (name rest : List ℕ) → is_name name ≡ true → (name_before (name ++ 35 ∷ rest) ≡ Ok name) × (after_first is_hash (name ++ 35 ∷ rest) ≡ rest)
name_cut name rest is =
    let cut = cut_here is_hash name 35 rest (name_without name 35 is refl) refl in
    let good : is_name (before_first is_hash (name ++ 35 ∷ rest)) ≡ true = ap is_name cut.0 ∙ is in
    (ap (λ b. if b then Ok (before_first is_hash (name ++ 35 ∷ rest)) else Err kinds.BadName) good ∙ ap Ok cut.0, cut.1)

pub numbered_is : (name : List ℕ) (r : ResourceId) → numbered name r ≡ name ++ 35 ∷ decimal r.0
numbered_is name r = append_assoc name (35 ∷ []) (decimal r.0)

pub numbered_cut : (name : List ℕ) (r : ResourceId) → is_name name ≡ true → before_first is_hash (numbered name r) ≡ name
numbered_cut name r is = ap (before_first is_hash) (numbered_is name r) ∙ (cut_here is_hash name 35 (decimal r.0) (name_without name 35 is refl) refl).0

pub resource_named_read : (spec : Spec) → IsValid spec → (name : Option ℕ) (r : ResourceId) → is_named spec name ≡ true → is_short r.0 ≡ true → resource_named spec (numbered (name_told spec name) r) ≡ Ok (name, r)
resource_named_read spec valid name r named short =
    let cut = name_cut (name_told spec name) (decimal r.0) (told_is_name spec valid name named) in
    ap (resource_named spec) (numbered_is (name_told spec name) r)
    ∙ two_read (name_before (name_told spec name ++ 35 ∷ decimal r.0)) (resource_number (after_first is_hash (name_told spec name ++ 35 ∷ decimal r.0))) (λ n q. (place_of spec.resource_names n, q)) (name_told spec name) r
    cut.0 (ap resource_number cut.1 ∙ resource_read r short)
    ∙ ap (λ n. Ok (n, r)) (told_place spec valid name named)

pub dark_numbered : (name : List ℕ) (r : ResourceId) → is_name name ≡ true → is_short r.0 ≡ true → is_dark (numbered name r) ≡ true
dark_numbered name r is short = dark_both (name ++ 35 ∷ []) (decimal r.0) (dark_both name (35 ∷ []) (dark_name name is) refl) (dark_short r.0 short)

-- the two words of an added resource
pub added_name_read : (name : List ℕ) (r : ResourceId) → is_name name ≡ true → is_short r.0 ≡ true → (name_before (numbered name r) ≡ Ok name) × (resource_number (after_first is_hash (numbered name r)) ≡ Ok r)
added_name_read name r is short =
    let cut = name_cut name (decimal r.0) is in
    let same = numbered_is name r in
    (ap name_before same ∙ cut.0, ap (λ w. resource_number (after_first is_hash w)) same ∙ ap resource_number cut.1 ∙ resource_read r short)

pub added_place : (spec : Spec) → IsValid spec → (name : ℕ) → has_resource_name spec name ≡ true → place_after spec.resource_names (name_at spec.resource_names name) ≡ name
added_place spec valid name is =
    place_after_again spec.resource_names name (and_parts (list_all is_name spec.resource_names) (are_distinct bytes_eq spec.resource_names) valid.resource_names).1 (ltb-true name (length spec.resource_names) is)

-- a part
abbrev pub part_text : Spec → LogPart → List ℕ
part_text spec p = numbered (name_told spec p.name) p.resource ++ codes "/" ++ decimal p.index

slash_cut : (r : ResourceId) (index : ℕ) → is_short r.0 ≡ true → is_short index ≡ true → part_numbers (decimal r.0 ++ 47 ∷ decimal index) ≡ Ok (r, index)
slash_cut r index short also =
    let cut = cut_here is_slash (decimal r.0) 47 (decimal index) (decimal-without r.0 47 (long_short r.0 short) (omega arith)) refl in
    two_read (resource_number (before_first is_slash (decimal r.0 ++ 47 ∷ decimal index))) (short_number (after_first is_slash (decimal r.0 ++ 47 ∷ decimal index))) (λ q i. (q, i)) r index
    (ap resource_number cut.0 ∙ resource_read r short) (ap short_number cut.1 ∙ short_read index also)

pub part_is : (spec : Spec) (p : LogPart) → part_text spec p ≡ name_told spec p.name ++ 35 ∷ (decimal p.resource.0 ++ 47 ∷ decimal p.index)
part_is spec p =
    append_assoc (numbered (name_told spec p.name) p.resource) (47 ∷ []) (decimal p.index)
    ∙ ap (λ w. w ++ 47 ∷ decimal p.index) (numbered_is (name_told spec p.name) p.resource)
    ∙ append_assoc (name_told spec p.name) (35 ∷ decimal p.resource.0) (47 ∷ decimal p.index)

pub part_read : (spec : Spec) → IsValid spec → (p : LogPart) → is_part spec p ≡ true → part_named spec (part_text spec p) ≡ Ok p
part_read spec valid p is =
    let named = and_parts (is_named spec p.name) (is_short p.resource.0 && is_short p.index) is in
    let numbers = and_parts (is_short p.resource.0) (is_short p.index) named.1 in
    let name = name_told spec p.name in
    let rest = decimal p.resource.0 ++ 47 ∷ decimal p.index in
    let cut = name_cut name rest (told_is_name spec valid p.name named.0) in
    ap (part_named spec) (part_is spec p)
    ∙ two_read (name_before (name ++ 35 ∷ rest)) (part_numbers (after_first is_hash (name ++ 35 ∷ rest))) (λ n q. part_at spec n q.0 q.1) name (p.resource, p.index)
    cut.0 (ap part_numbers cut.1 ∙ slash_cut p.resource p.index numbers.0 numbers.1)
    ∙ ap (λ n. let q : LogPart = record { name = n; resource = p.resource; index = p.index } in Ok q) (told_place spec valid p.name named.0)

pub dark_part : (spec : Spec) → IsValid spec → (p : LogPart) → is_part spec p ≡ true → is_dark (part_text spec p) ≡ true
dark_part spec valid p is =
    let named = and_parts (is_named spec p.name) (is_short p.resource.0 && is_short p.index) is in
    let numbers = and_parts (is_short p.resource.0) (is_short p.index) named.1 in
    dark_both (numbered (name_told spec p.name) p.resource ++ 47 ∷ []) (decimal p.index)
    (dark_both (numbered (name_told spec p.name) p.resource) (47 ∷ []) (dark_numbered (name_told spec p.name) p.resource (told_is_name spec valid p.name named.0) numbers.0) refl)
    (dark_short p.index numbers.1)

-- two states with an arrow between
pub move_read : (spec : Spec) → IsValid spec → (from to : StateId) → has_state spec from ≡ true → has_state spec to ≡ true → move_word spec (move_text spec from to) ≡ Ok (from, to)
move_read spec valid from to is also =
    let v = state_name spec from in
    let w = state_name spec to in
    let cut = cut_here is_arrow v 62 w (name_without v 62 (name_there spec.states from.0 valid.states is) refl) refl in
    ap (move_word spec) (append_assoc v (62 ∷ []) w)
    ∙ two_read (state_word spec (before_first is_arrow (v ++ 62 ∷ w))) (state_word spec (after_first is_arrow (v ++ 62 ∷ w))) (λ f t. (f, t)) from to
    (ap (state_word spec) cut.0 ∙ state_read spec valid from is) (ap (state_word spec) cut.1 ∙ state_read spec valid to also)

pub dark_move : (spec : Spec) → IsValid spec → (from to : StateId) → has_state spec from ≡ true → has_state spec to ≡ true → is_dark (move_text spec from to) ≡ true
dark_move spec valid from to is also =
    dark_both (state_name spec from ++ 62 ∷ []) (state_name spec to) (dark_both (state_name spec from) (62 ∷ []) (dark_state spec valid from is) refl) (dark_state spec valid to also)

-- a state, or a dash
pub state_or_read : (spec : Spec) → IsValid spec → (t : Option StateId) → option_map_or (has_state spec) t true ≡ true → unless_dash (state_word spec) (or_dash (state_name spec) t) ≡ Ok t
state_or_read spec valid None is = refl
state_or_read spec valid (Some t) is =
    ap (λ b. if b then Ok None else map_ok Some (state_word spec (state_name spec t))) (no_dash (state_name spec t) (name_there spec.states t.0 valid.states is))
    ∙ ap (map_ok Some) (state_read spec valid t is)
  where
    no_dash : (w : List ℕ) → is_name w ≡ true → is_dash w ≡ false
    no_dash w named = one (is_dash w) refl
      where
        one : (b : Bool) → is_dash w ≡ b → b ≡ false
        one false e = refl
        one true e = let same : is_name w ≡ false = ap is_name ((bytes_eq-Decides w (codes "-")).0 e) in let no : true ≡ false = sym named ∙ same in cc

pub dark_state_or : (spec : Spec) → IsValid spec → (t : Option StateId) → option_map_or (has_state spec) t true ≡ true → is_dark (or_dash (state_name spec) t) ≡ true
dark_state_or spec valid None is = refl
dark_state_or spec valid (Some t) is = dark_state spec valid t is

-- an instance and a state with a sign between
pub pair_read : (spec : Spec) → IsValid spec → (e : InstanceId × StateId) → has_entry spec e ≡ true → pair_word spec (mapped_name spec e) ≡ Ok e
pair_read spec valid e is =
    let both = and_parts (has_instance spec e.0) (has_state spec e.1) is in
    let v = instance_name spec e.0 in
    let w = state_name spec e.1 in
    let cut = cut_here is_equals v 61 w (name_without v 61 (name_there spec.instances e.0.0 valid.instances both.0) refl) refl in
    ap (pair_word spec) (append_assoc v (61 ∷ []) w)
    ∙ ap (λ b. if b then then_ok (instance_word spec (before_first is_equals (v ++ 61 ∷ w))) (λ i. map_ok (λ s. (i, s)) (state_word spec (after_first is_equals (v ++ 61 ∷ w)))) else Err kinds.BadPair) cut.2
    ∙ two_read (instance_word spec (before_first is_equals (v ++ 61 ∷ w))) (state_word spec (after_first is_equals (v ++ 61 ∷ w))) (λ i s. (i, s)) e.0 e.1
    (ap (instance_word spec) cut.0 ∙ instance_read spec valid e.0 both.0) (ap (state_word spec) cut.1 ∙ state_read spec valid e.1 both.1)

pub dark_pair : (spec : Spec) → IsValid spec → (e : InstanceId × StateId) → has_entry spec e ≡ true → is_dark (mapped_name spec e) ≡ true
dark_pair spec valid e is =
    let both = and_parts (has_instance spec e.0) (has_state spec e.1) is in
    dark_both (instance_name spec e.0 ++ 61 ∷ []) (state_name spec e.1) (dark_both (instance_name spec e.0) (61 ∷ []) (dark_instance spec valid e.0 both.0) refl) (dark_state spec valid e.1 both.1)
