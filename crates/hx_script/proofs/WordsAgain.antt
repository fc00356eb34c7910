-- What a word names, written again, is the word.
use Rattle.std.proofs.Common.{◌≡◌, ℕ, ◌+◌, ◌-◌, ◌<◌, ◌≤◌, ◌^◌, Bool, true, false, List, [], ◌∷◌, ◌++◌, length, map, get_or, Option, Some, None, Result, Ok, Err, if◌then◌else◌, cond, not, ◌||◌, nat_lt, nat_le, eqb, ◌&&◌, codes, refl, sym, ap, ◌∙◌, append_assoc, arith}
use Rattle.std.proofs.lemmas.Bool.{eqb-true, ltb-true}
use Rattle.std.proofs.lemmas.Bool.Decides.{nat_tests}
use Rattle.std.proofs.lemmas.List.Quantifiers.{position-Some}
use Rattle.std.proofs.lemmas.List.Sums.{passes_at_first, split_at_first}
use Rattle.std.proofs.lemmas.Option.{unwrap_or-slice_get}
use Rattle.std.proofs.lemmas.Slice.Eq.{bytes_eq-Decides}
use Rattle.std.specs.Fmt.{decimal}
use Rattle.std.specs.List.{list_any, prefix_len, position_or_len, before_first, after_first}
use Rattle.std.specs.Option.{option_map}
use Rattle.std.specs.Str.{bytes_eq}
use Rattle.hx_ids.proofs.Places.{found_place}
use Rattle.hx_ids.specs.Names.{place_of}
use Rattle.hx_ids.specs.declared.InstanceId.{InstanceId}
use Rattle.hx_ids.specs.declared.StateId.{StateId}
use Rattle.hx_ids.specs.declared.ModelId.{ModelId}
use Rattle.hx_ids.specs.declared.MsgId.{MsgId}
use Rattle.hx_ids.specs.declared.ControllerId.{ControllerId}
use Rattle.hx_ideal.specs.ModeKinds.{kind_name, kind_named}
use Rattle.hx_ideal.specs.declared.kinds.ModeKind.{ModeKind}
use Rattle.hx_ideal.specs.declared.kinds.ModeKind.TheVariants as modes
use Rattle.hx_text.specs.Spellings.{number_of}
use Rattle.hx_text.proofs.Numbers.{decimal-number_of}
use Rattle.hx_cluster.specs.declared.description.Spec.{Spec}
use Rattle.hx_print.specs.Texts.{name_at, instance_name, state_name, model_name, controller_name, message_name, mapped_name}
use Rattle.hx_script.specs.declared.ReadKind.{ReadKind}
use Rattle.hx_script.specs.declared.ReadKind.TheVariants as reads
use Rattle.hx_script.specs.declared.faults.ScriptKind.{ScriptKind}
use Rattle.hx_script.specs.declared.faults.ScriptKind.TheVariants as kinds
use Rattle.hx_script.specs.Grammar.{map_ok, then_ok, or_fault, instance_word, resource_word, model_word, state_word, in_range, number_word, numbered_by, controller_word, message_word, mode_word, read_kind_word, is_equals, pair_word, all_words}
use Rattle.hx_script.specs.LineTexts.{mode_text, read_kind_text}
use Rattle.hx_script.specs.Modes.{mode_number}

-- where a value comes from
pub map_ok_from : {A B E : Type 0} (f : A → B) (r : Result A E) (y : B) → map_ok f r ≡ Ok y → (x : A) × (r ≡ Ok x) × (f x ≡ y)
map_ok_from f (Ok x) y e = (x, refl, cc)
map_ok_from f (Err k) y e = cc

pub then_ok_from : {A B E : Type 0} (r : Result A E) (f : A → Result B E) (y : B) → then_ok r f ≡ Ok y → (x : A) × (r ≡ Ok x) × (f x ≡ Ok y)
then_ok_from (Ok x) f y e = (x, refl, e)
then_ok_from (Err k) f y e = cc

pub or_fault_from : {A : Type 0} (kind : ScriptKind) (o : Option A) (x : A) → or_fault kind o ≡ Ok x → o ≡ Some x
or_fault_from kind None x e = cc
or_fault_from kind (Some y) x e = cc

pub option_map_from : {A B : Type 0} (f : A → B) (o : Option A) (y : B) → option_map f o ≡ Some y → (x : A) × (o ≡ Some x) × (f x ≡ y)
option_map_from f (Some x) y e = (x, refl, cc)
option_map_from f None y e = cc

pub same_bytes : (a b : List ℕ) → bytes_eq a b ≡ true → a ≡ b
same_bytes a b e = (bytes_eq-Decides a b).0 e

-- where a test passes somewhere, and where nowhere
pub any_within : (p : List ℕ → Bool) (names : List (List ℕ)) → list_any p names ≡ true → position_or_len p names < length names
any_within p [] e = cc
any_within p (n ∷ names) e = one (p n) (any_within p names) e
  where
    one : (b : Bool) → (list_any p names ≡ true → position_or_len p names < length names) → (b || list_any p names) ≡ true → cond (not b) (1 + prefix_len (λ x. not (p x)) names) 0 < length (n ∷ names)
    one true rest e = omega arith
    one false rest e = let more = rest e in omega arith

pub none_first : (p : List ℕ → Bool) (names : List (List ℕ)) → list_any p names ≡ false → position_or_len p names ≡ length names
none_first p [] e = refl
none_first p (n ∷ names) e = one (p n) (none_first p names) e
  where
    one : (b : Bool) → (list_any p names ≡ false → position_or_len p names ≡ length names) → (b || list_any p names) ≡ false → cond (not b) (1 + prefix_len (λ x. not (p x)) names) 0 ≡ length (n ∷ names)
    one true rest e = cc
    one false rest e = let more = rest e in omega arith

-- a name that is found stands at its place
pub first_at : (names : List (List ℕ)) (w : List ℕ) → position_or_len (bytes_eq w) names < length names → name_at names (position_or_len (bytes_eq w) names) ≡ w
first_at names w within =
    unwrap_or-slice_get names (position_or_len (bytes_eq w) names) []
    ∙ sym (same_bytes w (get_or names (position_or_len (bytes_eq w) names) []) (passes_at_first (bytes_eq w) names [] within))

pub name_again : (names : List (List ℕ)) (w : List ℕ) (n : ℕ) → place_of names w ≡ Some n → name_at names n ≡ w
name_again names w n e = let at = found_place (bytes_eq w) names n e in ap (name_at names) at ∙ first_at names w (omega (arith, at, (position-Some (bytes_eq w) names n [] e).0))

pub instance_again : (spec : Spec) (w : List ℕ) (i : InstanceId) → instance_word spec w ≡ Ok i → instance_name spec i ≡ w
instance_again spec w i e =
    let from = option_map_from (λ (n : ℕ). let i : InstanceId = record { 0 = n } in i) (place_of spec.instances w) i (or_fault_from _ _ i e) in
    ap (instance_name spec) (sym from.2) ∙ name_again spec.instances w from.0 from.1

pub state_again : (spec : Spec) (w : List ℕ) (t : StateId) → state_word spec w ≡ Ok t → state_name spec t ≡ w
state_again spec w t e =
    let from = option_map_from (λ (n : ℕ). let t : StateId = record { 0 = n } in t) (place_of spec.states w) t (or_fault_from _ _ t e) in
    ap (state_name spec) (sym from.2) ∙ name_again spec.states w from.0 from.1

pub model_again : (spec : Spec) (w : List ℕ) (m : ModelId) → model_word spec w ≡ Ok m → model_name spec m ≡ w
model_again spec w m e =
    let from = option_map_from (λ (n : ℕ). let m : ModelId = record { 0 = n } in m) (place_of spec.model_names w) m (or_fault_from _ _ m e) in
    ap (model_name spec) (sym from.2) ∙ name_again spec.model_names w from.0 from.1

pub resource_again : (spec : Spec) (w : List ℕ) (n : ℕ) → resource_word spec w ≡ Ok n → name_at spec.resource_names n ≡ w
resource_again spec w n e = name_again spec.resource_names w n (or_fault_from _ _ n e)

-- numbers
pub in_range_from : (least most : ℕ) (o : Option ℕ) (n : ℕ) → in_range least most o ≡ Some n → (o ≡ Some n) × (least ≤ n)
in_range_from least most None n e = cc
in_range_from least most (Some m) n e = one (nat_le least m && nat_le m most) refl e
  where
    one : (b : Bool) → (nat_le least m && nat_le m most) ≡ b → (if b then Some m else None) ≡ Some n → (Some m ≡ Some n) × (least ≤ n)
    one true is e = (e, grind (arith, nat_tests, is, e))
    one false is e = cc

pub number_again : (least most : ℕ) (w : List ℕ) (n : ℕ) → number_word least most w ≡ Ok n → decimal n ≡ w
number_again least most w n e = (decimal-number_of w n (in_range_from least most (number_of w) n (or_fault_from _ _ n e)).0).1

pub numbered_again : (letter : ℕ) (w : List ℕ) (n : ℕ) → numbered_by letter w ≡ Some n → letter ∷ decimal n ≡ w
numbered_again letter [] n e = cc
numbered_again letter (b ∷ bs) n e = one (eqb b letter) refl e
  where
    one : (t : Bool) → eqb b letter ≡ t → (if t then number_of bs else None) ≡ Some n → letter ∷ decimal n ≡ b ∷ bs
    one true is e = ap (λ ds. letter ∷ ds) (decimal-number_of bs n e).1 ∙ ap (λ c. c ∷ bs) (sym (eqb-true b letter is))
    one false is e = cc

pub controller_again : (spec : Spec) (w : List ℕ) (k : ControllerId) → controller_word spec w ≡ Ok k → controller_name k ≡ w
controller_again spec w k e =
    let from = option_map_from (λ (n : ℕ). let k : ControllerId = record { 0 = n - 1 } in k) (in_range 1 spec.controllers (numbered_by 99 w)) k (or_fault_from _ _ k e) in
    let inside = in_range_from 1 spec.controllers (numbered_by 99 w) from.0 from.1 in
    let number : from.0 - 1 + 1 ≡ from.0 = omega (arith, inside.1) in
    ap controller_name (sym from.2) ∙ ap (λ n. 99 ∷ decimal n) number ∙ numbered_again 99 w from.0 inside.0

pub message_again : (w : List ℕ) (m : MsgId) → message_word w ≡ Ok m → message_name m ≡ w
message_again w m e =
    let from = option_map_from (λ (n : ℕ). let m : MsgId = record { 0 = n } in m) (in_range 1 (2 ^ 64 - 1) (numbered_by 109 w)) m (or_fault_from _ _ m e) in
    ap message_name (sym from.2) ∙ numbered_again 109 w from.0 (in_range_from 1 (2 ^ 64 - 1) (numbered_by 109 w) from.0 from.1).0

-- the words that are one of a few
kind_again : (w : List ℕ) (kind : ModeKind) → kind_named w ≡ Some kind → kind_name kind ≡ w
kind_again w kind e = one (bytes_eq w (codes "FULL_AUTO")) (bytes_eq w (codes "SEMI_AUTO")) (bytes_eq w (codes "CUSTOMIZED")) refl refl refl e
  where
    one : (a b c : Bool) → bytes_eq w (codes "FULL_AUTO") ≡ a → bytes_eq w (codes "SEMI_AUTO") ≡ b → bytes_eq w (codes "CUSTOMIZED") ≡ c
        → (if a then Some modes.FullAuto else if b then Some modes.SemiAuto else if c then Some modes.Customized else None) ≡ Some kind → kind_name kind ≡ w
    one true b c ea eb ec e = let k : modes.FullAuto ≡ kind = cc in ap kind_name (sym k) ∙ sym (same_bytes w (codes "FULL_AUTO") ea)
    one false true c ea eb ec e = let k : modes.SemiAuto ≡ kind = cc in ap kind_name (sym k) ∙ sym (same_bytes w (codes "SEMI_AUTO") eb)
    one false false true ea eb ec e = let k : modes.Customized ≡ kind = cc in ap kind_name (sym k) ∙ sym (same_bytes w (codes "CUSTOMIZED") ec)
    one false false false ea eb ec e = cc

number_text : (kind : ModeKind) → mode_text (mode_number kind) ≡ kind_name kind
number_text modes.FullAuto = refl
number_text modes.SemiAuto = refl
number_text modes.Customized = refl

pub mode_again : (w : List ℕ) (mode : ℕ) → mode_word w ≡ Ok mode → mode_text mode ≡ w
mode_again w mode e =
    let from = option_map_from mode_number (kind_named w) mode (or_fault_from _ _ mode e) in
    ap mode_text (sym from.2) ∙ number_text from.0 ∙ kind_again w from.0 from.1

pub read_kind_again : (w : List ℕ) (kind : ReadKind) → read_kind_word w ≡ Ok kind → read_kind_text kind ≡ w
read_kind_again w kind e =
    one (bytes_eq w (codes "live")) (bytes_eq w (codes "mail")) (bytes_eq w (codes "states")) (bytes_eq w (codes "ideals")) refl refl refl refl (or_fault_from _ _ kind e)
  where
    one : (a b c d : Bool) → bytes_eq w (codes "live") ≡ a → bytes_eq w (codes "mail") ≡ b → bytes_eq w (codes "states") ≡ c → bytes_eq w (codes "ideals") ≡ d
        → (if a then Some reads.Live else if b then Some reads.Mail else if c then Some reads.States else if d then Some reads.Ideals else None) ≡ Some kind → read_kind_text kind ≡ w
    one true b c d ea eb ec ed e = let k : reads.Live ≡ kind = cc in ap read_kind_text (sym k) ∙ sym (same_bytes w (codes "live") ea)
    one false true c d ea eb ec ed e = let k : reads.Mail ≡ kind = cc in ap read_kind_text (sym k) ∙ sym (same_bytes w (codes "mail") eb)
    one false false true d ea eb ec ed e = let k : reads.States ≡ kind = cc in ap read_kind_text (sym k) ∙ sym (same_bytes w (codes "states") ec)
    one false false false true ea eb ec ed e = let k : reads.Ideals ≡ kind = cc in ap read_kind_text (sym k) ∙ sym (same_bytes w (codes "ideals") ed)
    one false false false false ea eb ec ed e = cc

-- an instance with a state, and the sign between
pub record IsPair (spec : Spec) (w : List ℕ) (p : InstanceId × StateId) : Type 0 where
  pub instance : InstanceId
  pub state : StateId
  pub names : instance_word spec (before_first is_equals w) ≡ Ok instance
  pub has : state_word spec (after_first is_equals w) ≡ Ok state
  pub both : (instance, state) ≡ p
  pub whole : w ≡ before_first is_equals w ++ 61 ∷ after_first is_equals w

pub pair_split : (spec : Spec) (w : List ℕ) (p : InstanceId × StateId) → pair_word spec w ≡ Ok p → IsPair spec w p
pair_split spec w p e = one (nat_lt (position_or_len is_equals w) (length w)) refl e
  where
    one : (b : Bool) → nat_lt (position_or_len is_equals w) (length w) ≡ b
        → (if b then then_ok (instance_word spec (before_first is_equals w)) (λ i. map_ok (λ s. (i, s)) (state_word spec (after_first is_equals w))) else Err kinds.BadPair) ≡ Ok p
        → IsPair spec w p
    one false is e = cc
    one true is e =
        let within = ltb-true (position_or_len is_equals w) (length w) is in
        let i = then_ok_from (instance_word spec (before_first is_equals w)) _ p e in
        let t = map_ok_from (λ (s : StateId). (i.0, s)) (state_word spec (after_first is_equals w)) p i.2 in
        let sign = eqb-true (get_or w (position_or_len is_equals w) 0) 61 (passes_at_first is_equals w 0 within) in
        record {
          instance = i.0;
          state = t.0;
          names = i.1;
          has = t.1;
          both = t.2;
          whole = split_at_first is_equals w 0 within ∙ ap (λ b. before_first is_equals w ++ b ∷ after_first is_equals w) sign;
        }

pub pair_again : (spec : Spec) (w : List ℕ) (p : InstanceId × StateId) → pair_word spec w ≡ Ok p → mapped_name spec p ≡ w
pair_again spec w p e =
    let parts = pair_split spec w p e in
    ap (mapped_name spec) (sym parts.both)
    ∙ append_assoc (instance_name spec parts.instance) (61 ∷ []) (state_name spec parts.state)
    ∙ ap (λ x. x ++ 61 ∷ state_name spec parts.state) (instance_again spec (before_first is_equals w) parts.instance parts.names)
    ∙ ap (λ x. before_first is_equals w ++ 61 ∷ x) (state_again spec (after_first is_equals w) parts.state parts.has)
    ∙ sym parts.whole

-- any number of words
pub all_again : {A : Type 0} (word : List ℕ → Result A ScriptKind) (text : A → List ℕ) → ((w : List ℕ) (x : A) → word w ≡ Ok x → text x ≡ w)
    → (ws : List (List ℕ)) (xs : List A) → all_words word ws ≡ Ok xs → map text xs ≡ ws
all_again word text again [] xs e = let none : [] ≡ xs = cc in ap (map text) (sym none)
all_again word text again (w ∷ ws) xs e =
    let x = then_ok_from (word w) _ xs e in
    let more = map_ok_from (λ ys. x.0 ∷ ys) (all_words word ws) xs x.2 in
    ap (map text) (sym more.2) ∙ ap (λ t. t ∷ map text more.0) (again w x.0 x.1) ∙ ap (λ ts. w ∷ ts) (all_again word text again ws more.0 more.1)
