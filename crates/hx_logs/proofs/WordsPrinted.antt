-- What a word of a log tells, written again, is the word.
use Rattle.std.proofs.Common.{◌≡◌, ◌≢◌, ℕ, ◌+◌, ◌-◌, ◌^◌, Bool, true, false, ◌==◌, nat_lt, List, [], ◌∷◌, ◌++◌, length, get_or, Option, Some, None, Result, Ok, Err, if◌then◌else◌, codes, refl, sym, ap, ◌∙◌, append_assoc, arith}
use Rattle.std.specs.Prelude.{is_some}
use Rattle.std.proofs.lemmas.Bool.{ltb-true, eqb-true, lt-ltb}
use Rattle.std.proofs.lemmas.Bool.Decides.{nat_tests}
use Rattle.std.proofs.lemmas.List.{drop_all, get_or_append_left}
use Rattle.std.proofs.lemmas.List.Quantifiers.{position-Some}
use Rattle.std.proofs.lemmas.List.Sums.{passes_at_first, split_at_first}
use Rattle.std.proofs.lemmas.Option.{unwrap_or-slice_get}
use Rattle.std.proofs.Math.Seq.{get_or-append_seam}
use Rattle.std.specs.Fmt.{decimal}
use Rattle.std.specs.Option.{option_map}
use Rattle.std.specs.List.{list_any, position_or_len, before_first, after_first}
use Rattle.std.specs.Str.{bytes_eq}
use Rattle.hx_ids.specs.Names.{place_of, place_after, interned}
use Rattle.hx_ids.specs.declared.StateId.{StateId}
use Rattle.hx_ids.specs.declared.ResourceId.{ResourceId}
use Rattle.hx_ids.specs.declared.SessionId.{SessionId}
use Rattle.hx_ids.specs.declared.MsgId.{MsgId}
use Rattle.hx_ids.specs.declared.Epoch.{Epoch}
use Rattle.hx_ids.specs.declared.PassNo.{PassNo}
use Rattle.hx_text.specs.Spellings.{is_name}
use Rattle.hx_cluster.specs.declared.description.Spec.{Spec}
use Rattle.hx_cluster.specs.declared.happenings.Outcome.{Outcome}
use Rattle.hx_cluster.specs.declared.happenings.Outcome.TheVariants as outcomes
use Rattle.hx_cluster.specs.Valid.{are_names}
use Rattle.hx_print.specs.Texts.{name_at, state_name, session_name, message_name, epoch_name, pass_name, outcome_name, or_dash, numbered, move_text}
use Rattle.hx_script.specs.declared.faults.ScriptKind.{ScriptKind}
use Rattle.hx_script.specs.declared.faults.ScriptKind.TheVariants as kinds
use Rattle.hx_script.specs.declared.log.LogPart.{LogPart}
use Rattle.hx_script.specs.Grammar.{map_ok, or_fault, state_word, numbered_by}
use Rattle.hx_script.specs.Logs.{short_number, long_number, session_word, message_id_word, epoch_word, pass_word, is_dash, unless_dash, is_hash, is_slash, is_arrow, name_before, resource_number, resource_named, part_at, part_numbers, part_named, move_word, outcome_word}
use Rattle.hx_script.proofs.Later.{with_names}
use Rattle.hx_script.proofs.WordsAgain.{map_ok_from, then_ok_from, or_fault_from, option_map_from, same_bytes, any_within, none_first, first_at, name_again, state_again, number_again, numbered_again}
use Rattle.hx_logs.proofs.WordsRead.{name_told, name_there, numbered_is, part_text, part_is}

-- numbers
pub short_again : (w : List ℕ) (n : ℕ) → short_number w ≡ Ok n → decimal n ≡ w
short_again w n e = number_again 0 (2 ^ 32 - 1) w n e

pub long_again : (w : List ℕ) (n : ℕ) → long_number w ≡ Ok n → decimal n ≡ w
long_again w n e = number_again 0 (2 ^ 64 - 1) w n e

-- a letter and a number
lettered_again : {A : Type 0} (made : ℕ → A) (text : A → List ℕ) (letter : ℕ) → ((n : ℕ) → text (made n) ≡ letter ∷ decimal n) → (kind : ScriptKind) (w : List ℕ) (x : A)
    → or_fault kind (option_map made (numbered_by letter w)) ≡ Ok x → text x ≡ w
lettered_again made text letter is kind w x e =
    let from = option_map_from made (numbered_by letter w) x (or_fault_from kind _ x e) in
    ap text (sym from.2) ∙ is from.0 ∙ numbered_again letter w from.0 from.1

pub session_again : (w : List ℕ) (s : SessionId) → session_word w ≡ Ok s → session_name s ≡ w
session_again w s e = lettered_again (λ (n : ℕ). let s : SessionId = record { 0 = n } in s) session_name 115 (λ n. refl) _ w s e

pub message_again : (w : List ℕ) (m : MsgId) → message_id_word w ≡ Ok m → message_name m ≡ w
message_again w m e = lettered_again (λ (n : ℕ). let m : MsgId = record { 0 = n } in m) message_name 109 (λ n. refl) _ w m e

pub epoch_again : (w : List ℕ) (k : Epoch) → epoch_word w ≡ Ok k → epoch_name k ≡ w
epoch_again w k e = lettered_again (λ (n : ℕ). let k : Epoch = record { 0 = n } in k) epoch_name 101 (λ n. refl) _ w k e

pub pass_again : (w : List ℕ) (p : PassNo) → pass_word w ≡ Ok p → pass_name p ≡ w
pass_again w p e = lettered_again (λ (n : ℕ). let p : PassNo = record { 0 = n } in p) pass_name 112 (λ n. refl) _ w p e

resource_again : (w : List ℕ) (r : ResourceId) → resource_number w ≡ Ok r → decimal r.0 ≡ w
resource_again w r e =
    let from = map_ok_from (λ (n : ℕ). let r : ResourceId = record { 0 = n } in r) (short_number w) r e in
    ap (λ (q : ResourceId). decimal q.0) (sym from.2) ∙ short_again w from.0 from.1

-- a word, or a dash
pub or_dash_again : {A : Type 0} (word : List ℕ → Result A ScriptKind) (text : A → List ℕ) → ((w : List ℕ) (x : A) → word w ≡ Ok x → text x ≡ w) → (w : List ℕ) (o : Option A) → unless_dash word w ≡ Ok o → or_dash text o ≡ w
or_dash_again word text again w o e = one (is_dash w) refl e
  where
    one : (b : Bool) → is_dash w ≡ b → (if b then Ok None else map_ok Some (word w)) ≡ Ok o → or_dash text o ≡ w
    one true is e = let none : None ≡ o = cc in ap (or_dash text) (sym none) ∙ sym (same_bytes w (codes "-") is)
    one false is e = let from = map_ok_from (λ x. Some x) (word w) o e in ap (or_dash text) (sym from.2) ∙ again w from.0 from.1

pub outcome_again : (w : List ℕ) (outcome : Outcome) → outcome_word w ≡ Ok outcome → outcome_name outcome ≡ w
outcome_again w outcome e = one (bytes_eq w (codes "ok")) (bytes_eq w (codes "failed")) refl refl e
  where
    one : (a b : Bool) → bytes_eq w (codes "ok") ≡ a → bytes_eq w (codes "failed") ≡ b → (if a then Ok outcomes.Ok else if b then Ok outcomes.Failed else Err kinds.BadKind) ≡ Ok outcome → outcome_name outcome ≡ w
    one true b ea eb e = let k : outcomes.Ok ≡ outcome = cc in ap outcome_name (sym k) ∙ sym (same_bytes w (codes "ok") ea)
    one false true ea eb e = let k : outcomes.Failed ≡ outcome = cc in ap outcome_name (sym k) ∙ sym (same_bytes w (codes "failed") eb)
    one false false ea eb e = cc

-- a word is cut at a sign where something stands behind it
sign_whole : (sign : ℕ) (w : List ℕ) → after_first (λ b. b == sign) w ≢ [] → w ≡ before_first (λ b. b == sign) w ++ sign ∷ after_first (λ b. b == sign) w
sign_whole sign w some = one (nat_lt (position_or_len (λ b. b == sign) w) (length w)) refl
  where
    one : (b : Bool) → nat_lt (position_or_len (λ b. b == sign) w) (length w) ≡ b → w ≡ before_first (λ b. b == sign) w ++ sign ∷ after_first (λ b. b == sign) w
    one true is =
        let within = ltb-true (position_or_len (λ b. b == sign) w) (length w) is in
        let at = eqb-true (get_or w (position_or_len (λ b. b == sign) w) 0) sign (passes_at_first (λ b. b == sign) w 0 within) in
        split_at_first (λ b. b == sign) w 0 within ∙ ap (λ b. before_first (λ b. b == sign) w ++ b ∷ after_first (λ b. b == sign) w) at
    one false is = absurd (some (drop_all (position_or_len (λ b. b == sign) w + 1) w (grind (arith, nat_tests, is))))

some_number : (w : List ℕ) (n : ℕ) → short_number w ≡ Ok n → w ≢ []
some_number w n e none = let no = sym (ap short_number none) ∙ e in cc

some_resource : (w : List ℕ) (r : ResourceId) → resource_number w ≡ Ok r → w ≢ []
some_resource w r e none = let no = sym (ap resource_number none) ∙ e in cc

some_part : (w : List ℕ) (t : ResourceId × ℕ) → part_numbers w ≡ Ok t → w ≢ []
some_part w t e none = let no = sym (ap part_numbers none) ∙ e in cc

some_state : (spec : Spec) → are_names spec.states ≡ true → (w : List ℕ) (t : StateId) → state_word spec w ≡ Ok t → w ≢ []
some_state spec named w t e none =
    let from = option_map_from (λ (n : ℕ). let t : StateId = record { 0 = n } in t) (place_of spec.states w) t (or_fault_from _ _ t e) in
    let within = (position-Some (bytes_eq w) spec.states from.0 [] from.1).0 in
    let good : is_name (name_at spec.states from.0) ≡ true = name_there spec.states from.0 named (lt-ltb _ _ within) in
    let no = sym (ap is_name (name_again spec.states w from.0 from.1 ∙ none)) ∙ good in
    cc

-- a name before a number
pub name_from : (w name : List ℕ) → name_before w ≡ Ok name → before_first is_hash w ≡ name
name_from w name e = one (is_name (before_first is_hash w)) e
  where
    one : (b : Bool) → (if b then Ok (before_first is_hash w) else Err kinds.BadName) ≡ Ok name → before_first is_hash w ≡ name
    one true e = cc
    one false e = cc

pub numbered_printed : (w name : List ℕ) (r : ResourceId) → name_before w ≡ Ok name → resource_number (after_first is_hash w) ≡ Ok r → numbered name r ≡ w
numbered_printed w name r named e =
    numbered_is name r
    ∙ ap (λ v. v ++ 35 ∷ decimal r.0) (sym (name_from w name named))
    ∙ ap (λ d. before_first is_hash w ++ 35 ∷ d) (resource_again (after_first is_hash w) r e)
    ∙ sym (sign_whole 35 w (some_resource (after_first is_hash w) r e))

numbers_printed : (w : List ℕ) (t : ResourceId × ℕ) → part_numbers w ≡ Ok t → decimal t.0.0 ++ 47 ∷ decimal t.1 ≡ w
numbers_printed w t e =
    let r = then_ok_from (resource_number (before_first is_slash w)) _ t e in
    let i = map_ok_from (λ (n : ℕ). (r.0, n)) (short_number (after_first is_slash w)) t r.2 in
    ap (λ (u : ResourceId × ℕ). decimal u.0.0 ++ 47 ∷ decimal u.1) (sym i.2)
    ∙ ap (λ d. d ++ 47 ∷ decimal i.0) (resource_again (before_first is_slash w) r.0 r.1)
    ∙ ap (λ d. before_first is_slash w ++ 47 ∷ d) (short_again (after_first is_slash w) i.0 i.1)
    ∙ sym (sign_whole 47 w (some_number (after_first is_slash w) i.0 i.1))

-- a transition
pub move_printed : (spec : Spec) → are_names spec.states ≡ true → (w : List ℕ) (t : StateId × StateId) → move_word spec w ≡ Ok t → move_text spec t.0 t.1 ≡ w
move_printed spec named w t e =
    let from = then_ok_from (state_word spec (before_first is_arrow w)) _ t e in
    let to = map_ok_from (λ (s : StateId). (from.0, s)) (state_word spec (after_first is_arrow w)) t from.2 in
    ap (λ (u : StateId × StateId). move_text spec u.0 u.1) (sym to.2)
    ∙ append_assoc (state_name spec from.0) (62 ∷ []) (state_name spec to.0)
    ∙ ap (λ v. v ++ 62 ∷ state_name spec to.0) (state_again spec (before_first is_arrow w) from.0 from.1)
    ∙ ap (λ v. before_first is_arrow w ++ 62 ∷ v) (state_again spec (after_first is_arrow w) to.0 to.1)
    ∙ sym (sign_whole 62 w (some_state spec named (after_first is_arrow w) to.0 to.1))

-- names that stand in a list stand in a longer one
pub name_longer : (names more : List (List ℕ)) (w : List ℕ) (n : ℕ) → place_of names w ≡ Some n → name_at (names ++ more) n ≡ w
name_longer names more w n e =
    unwrap_or-slice_get (names ++ more) n []
    ∙ get_or_append_left names more [] n (position-Some (bytes_eq w) names n [] e).0
    ∙ sym (unwrap_or-slice_get names n [])
    ∙ name_again names w n e

pub name_added : (names more : List (List ℕ)) (w : List ℕ) → name_at (interned names w ++ more) (place_after names w) ≡ w
name_added names more w = one (list_any (bytes_eq w) names) refl
  where
    one : (b : Bool) → list_any (bytes_eq w) names ≡ b → name_at ((if b then names else names ++ w ∷ []) ++ more) (place_after names w) ≡ w
    one true is =
        let within = any_within (bytes_eq w) names is in
        unwrap_or-slice_get (names ++ more) (place_after names w) []
        ∙ get_or_append_left names more [] (place_after names w) within
        ∙ sym (unwrap_or-slice_get names (place_after names w) [])
        ∙ first_at names w within
    one false is =
        ap (name_at ((names ++ w ∷ []) ++ more)) (none_first (bytes_eq w) names is)
        ∙ unwrap_or-slice_get ((names ++ w ∷ []) ++ more) (length names) []
        ∙ ap (λ ns. get_or ns (length names) []) (append_assoc names (w ∷ []) more)
        ∙ get_or-append_seam names w more []

-- a resource and a part, by the names of a description that has more of them
abbrev pub HasMore : Spec → List (List ℕ) → Type 0
HasMore spec names = (w : List ℕ) (n : ℕ) → place_of spec.resource_names w ≡ Some n → name_at names n ≡ w

module _ (spec : Spec) (names : List (List ℕ)) (more : HasMore spec names) where
  known_name : (name : List ℕ) (o : Option ℕ) → place_of spec.resource_names name ≡ o → is_some o ≡ true → name_told (with_names spec names) o ≡ name
  known_name name None is some = cc
  known_name name (Some n) is some = more name n is

  pub resource_printed : (w : List ℕ) (t : Option ℕ × ResourceId) → resource_named spec w ≡ Ok t → is_some t.0 ≡ true → numbered (name_told (with_names spec names) t.0) t.1 ≡ w
  resource_printed w t e some =
      let name = then_ok_from (name_before w) _ t e in
      let r = map_ok_from (λ (r : ResourceId). (place_of spec.resource_names name.0, r)) (resource_number (after_first is_hash w)) t name.2 in
      let place : place_of spec.resource_names name.0 ≡ t.0 = ap (λ (u : Option ℕ × ResourceId). u.0) r.2 in
      ap (λ v. numbered v t.1) (known_name name.0 t.0 place some)
      ∙ ap (λ (u : Option ℕ × ResourceId). numbered name.0 u.1) (sym r.2)
      ∙ numbered_printed w name.0 r.0 name.1 r.1

  pub part_printed : (w : List ℕ) (p : LogPart) → part_named spec w ≡ Ok p → is_some p.name ≡ true → part_text (with_names spec names) p ≡ w
  part_printed w p e some =
      let name = then_ok_from (name_before w) _ p e in
      let nums = map_ok_from (λ (q : ResourceId × ℕ). part_at spec name.0 q.0 q.1) (part_numbers (after_first is_hash w)) p name.2 in
      let place : place_of spec.resource_names name.0 ≡ p.name = ap (λ (q : LogPart). q.name) nums.2 in
      let numbers = decimal nums.0.0.0 ++ 47 ∷ decimal nums.0.1 in
      part_is (with_names spec names) p
      ∙ ap (λ v. v ++ 35 ∷ (decimal p.resource.0 ++ 47 ∷ decimal p.index)) (known_name name.0 p.name place some)
      ∙ ap (λ (q : LogPart). name.0 ++ 35 ∷ (decimal q.resource.0 ++ 47 ∷ decimal q.index)) (sym nums.2)
      ∙ ap (λ v. v ++ 35 ∷ numbers) (sym (name_from w name.0 name.1))
      ∙ ap (λ d. before_first is_hash w ++ 35 ∷ d) (numbers_printed (after_first is_hash w) nums.0 nums.1)
      ∙ sym (sign_whole 35 w (some_part (after_first is_hash w) nums.0 nums.1))
