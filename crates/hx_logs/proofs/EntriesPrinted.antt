-- What the words of an entry tell, written again, is the words.
use Rattle.std.proofs.Common.{◌≡◌, ℕ, Bool, true, false, List, [], ◌∷◌, ◌++◌, map, Option, Some, Result, Ok, Err, if◌then◌else◌, codes, refl, sym, ap, ◌∙◌, append-nil}
use Rattle.std.specs.Prelude.{is_some}
use Rattle.std.proofs.lemmas.Bool.{and_parts}
use Rattle.std.specs.Fmt.{decimal}
use Rattle.std.proofs.lemmas.List.Splits.{join_with_byte-slice_split}
use Rattle.std.specs.List.{list_all, after_first, before_first, join_with_byte}
use Rattle.std.specs.Str.{bytes_eq}
use Rattle.hx_ids.specs.Names.{place_after}
use Rattle.hx_ids.specs.declared.InstanceId.{InstanceId}
use Rattle.hx_ids.specs.declared.StateId.{StateId}
use Rattle.hx_ids.specs.declared.ModelId.{ModelId}
use Rattle.hx_ids.specs.declared.ResourceId.{ResourceId}
use Rattle.hx_ids.specs.declared.SessionId.{SessionId}
use Rattle.hx_ids.specs.declared.MsgId.{MsgId}
use Rattle.hx_ids.specs.declared.Epoch.{Epoch}
use Rattle.hx_ids.specs.declared.PassNo.{PassNo}
use Rattle.hx_ids.specs.declared.ControllerId.{ControllerId}
use Rattle.hx_cluster.specs.declared.description.Spec.{Spec}
use Rattle.hx_cluster.specs.declared.happenings.Placed.{Placed}
use Rattle.hx_cluster.specs.declared.happenings.Placed.TheVariants as placings
use Rattle.hx_cluster.specs.Valid.{are_names}
use Rattle.hx_print.specs.Texts.{name_at, instance_name, state_name, model_name, controller_name, session_name, message_name, epoch_name, pass_name, outcome_name, or_dash, numbered, mapped_name, move_text}
use Rattle.hx_script.specs.declared.faults.ScriptKind.{ScriptKind}
use Rattle.hx_script.specs.declared.faults.ScriptKind.TheVariants as kinds
use Rattle.hx_script.specs.declared.log.LogMove.{LogMove}
use Rattle.hx_script.specs.declared.log.LogPart.{LogPart}
use Rattle.hx_script.specs.declared.log.LogEntry.{LogEntry}
use Rattle.hx_script.specs.declared.log.LogEntry.TheVariants as logs
use Rattle.hx_script.specs.declared.log.LogVerb.{LogVerb}
use Rattle.hx_script.specs.declared.log.LogVerb.TheVariants as verbs
use Rattle.hx_script.specs.Grammar.{map_ok, then_ok, one_word, two_words, three_words, five_words, instance_word, state_word, model_word, controller_word, mode_word, pair_word, all_words, instance_alone, controller_alone}
use Rattle.hx_script.specs.LineTexts.{mode_text}
use Rattle.hx_script.specs.Logs.{exact_words, short_number, long_number, session_word, message_id_word, epoch_word, pass_word, unless_dash, is_hash, name_before, resource_number, resource_named, part_named, move_word, outcome_word, one_and_more, instance_and_session, controller_and_epoch, controller_and_pass, pass_and_session, epoch_and_pass, session_and_message, add_entry, drop_entry, reset_entry, fetch_entry, write_entry, ended_words, tick_entry, move_of, then_move, is_of, bare_answer, answer_with, bound_answer, throttle_answer, move_words, dispatch_entry, alone, told_by, log_verb_name, all_log_verbs, log_verb_of, told_words, second_word}
use Rattle.hx_script.proofs.LineParts.{one_from, two_from, three_from, five_from}
use Rattle.hx_script.proofs.Joined.{joined}
use Rattle.hx_script.proofs.Later.{with_names}
use Rattle.hx_script.proofs.FormsAgain.{named_so}
use Rattle.hx_script.proofs.WordsAgain.{map_ok_from, then_ok_from, or_fault_from, same_bytes, instance_again, state_again, model_again, controller_again, mode_again, pair_again, all_again}
use Rattle.hx_logs.proofs.OnRoll.{has_names}
use Rattle.hx_logs.proofs.WordsRead.{name_told, part_text}
use Rattle.hx_logs.proofs.WordsPrinted as printed
use Rattle.hx_logs.proofs.EntriesRead.{words_told, indented_told, ended_told, answer_told, proposal_told, move_told}

-- the words of a line, with a space between them, are the line
joined_is : (ws : List (List ℕ)) → joined ws ≡ join_with_byte 32 ws
joined_is [] = refl
joined_is (w ∷ []) = append-nil w
joined_is (w ∷ v ∷ ws) = ap (λ t. w ++ 32 ∷ t) (joined_is (v ∷ ws))

pub joined_exact : (line : List ℕ) → joined (exact_words line) ≡ line
joined_exact line = joined_is (exact_words line) ∙ join_with_byte-slice_split 32 line

-- words that are the same one by one
one_same : (a x : List ℕ) (ws : List (List ℕ)) → ws ≡ x ∷ [] → a ≡ x → a ∷ [] ≡ ws
one_same a x ws are p = ap (λ v. v ∷ []) p ∙ sym are

two_same : (a b x y : List ℕ) (ws : List (List ℕ)) → ws ≡ x ∷ y ∷ [] → a ≡ x → b ≡ y → a ∷ b ∷ [] ≡ ws
two_same a b x y ws are p q = ap (λ v. v ∷ b ∷ []) p ∙ ap (λ v. x ∷ v ∷ []) q ∙ sym are

three_same : (a b c x y z : List ℕ) (ws : List (List ℕ)) → ws ≡ x ∷ y ∷ z ∷ [] → a ≡ x → b ≡ y → c ≡ z → a ∷ b ∷ c ∷ [] ≡ ws
three_same a b c x y z ws are p q r = ap (λ v. v ∷ b ∷ c ∷ []) p ∙ ap (λ v. x ∷ v ∷ c ∷ []) q ∙ ap (λ v. x ∷ y ∷ v ∷ []) r ∙ sym are

five_same : (a b c d e x y z u v : List ℕ) (ws : List (List ℕ)) → ws ≡ x ∷ y ∷ z ∷ u ∷ v ∷ [] → a ≡ x → b ≡ y → c ≡ z → d ≡ u → e ≡ v → a ∷ b ∷ c ∷ d ∷ e ∷ [] ≡ ws
five_same a b c d e x y z u v ws are p q r s t =
    ap (λ w. w ∷ b ∷ c ∷ d ∷ e ∷ []) p ∙ ap (λ w. x ∷ w ∷ c ∷ d ∷ e ∷ []) q ∙ ap (λ ws. x ∷ y ∷ ws) (three_same c d e z u v (z ∷ u ∷ v ∷ []) refl r s t) ∙ sym are

-- a word and others
some_from : (ws : List (List ℕ)) (t : List ℕ × List (List ℕ)) → one_and_more ws ≡ Ok t → ws ≡ t.0 ∷ t.1
some_from [] t e = cc
some_from (w ∷ ws) t e = let same : (w, ws) ≡ t = cc in ap (λ (u : List ℕ × List (List ℕ)). u.0 ∷ u.1) same

-- two words and three that are each read
record Two (A B C : Type 0) (one : List ℕ → Result A ScriptKind) (two : List ℕ → Result B ScriptKind) (f : A → B → C) (ws : List (List ℕ)) (y : C) : Type 0 where
  v : List ℕ
  w : List ℕ
  a : A
  b : B
  are : ws ≡ v ∷ w ∷ []
  first : one v ≡ Ok a
  second : two w ≡ Ok b
  made : f a b ≡ y

two_read : {A B C : Type 0} (one : List ℕ → Result A ScriptKind) (two : List ℕ → Result B ScriptKind) (f : A → B → C) (ws : List (List ℕ)) (y : C)
    → then_ok (two_words ws) (λ t. then_ok (one t.0) (λ a. map_ok (f a) (two t.1))) ≡ Ok y → Two A B C one two f ws y
two_read one two f ws y e =
    let t = then_ok_from (two_words ws) _ y e in
    let a = then_ok_from (one t.0.0) _ y t.2 in
    let b = map_ok_from (f a.0) (two t.0.1) y a.2 in
    record { v = t.0.0; w = t.0.1; a = a.0; b = b.0; are = two_from ws t.0 t.1; first = a.1; second = b.1; made = b.2 }

record Three (A B C D : Type 0) (one : List ℕ → Result A ScriptKind) (two : List ℕ → Result B ScriptKind) (three : List ℕ → Result C ScriptKind) (f : A → B → C → D) (ws : List (List ℕ)) (y : D) : Type 0 where
  u : List ℕ
  v : List ℕ
  w : List ℕ
  a : A
  b : B
  c : C
  are : ws ≡ u ∷ v ∷ w ∷ []
  first : one u ≡ Ok a
  second : two v ≡ Ok b
  third : three w ≡ Ok c
  made : f a b c ≡ y

three_read : {A B C D : Type 0} (one : List ℕ → Result A ScriptKind) (two : List ℕ → Result B ScriptKind) (three : List ℕ → Result C ScriptKind) (f : A → B → C → D) (ws : List (List ℕ)) (y : D)
    → then_ok (three_words ws) (λ t. then_ok (one t.0) (λ a. then_ok (two t.1) (λ b. map_ok (f a b) (three t.2)))) ≡ Ok y → Three A B C D one two three f ws y
three_read one two three f ws y e =
    let t = then_ok_from (three_words ws) _ y e in
    let a = then_ok_from (one t.0.0) _ y t.2 in
    let b = then_ok_from (two t.0.1) _ y a.2 in
    let c = map_ok_from (f a.0 b.0) (three t.0.2) y b.2 in
    record { u = t.0.0; v = t.0.1; w = t.0.2; a = a.0; b = b.0; c = c.0; are = three_from ws t.0 t.1; first = a.1; second = b.1; third = c.1; made = c.2 }

-- which, written again, are the words
two_again : {A B : Type 0} (one : List ℕ → Result A ScriptKind) (two : List ℕ → Result B ScriptKind) (text : A → List ℕ) (other : B → List ℕ)
    → ((w : List ℕ) (a : A) → one w ≡ Ok a → text a ≡ w) → ((w : List ℕ) (b : B) → two w ≡ Ok b → other b ≡ w)
    → (ws : List (List ℕ)) (t : A × B) → then_ok (two_words ws) (λ t. then_ok (one t.0) (λ a. map_ok (λ b. (a, b)) (two t.1))) ≡ Ok t → text t.0 ∷ other t.1 ∷ [] ≡ ws
two_again {A} {B} one two text other first second ws t e =
    let r = two_read one two (λ a b. (a, b)) ws t e in
    ap (λ (t : A × B). text t.0 ∷ other t.1 ∷ []) (sym r.made) ∙ two_same (text r.a) (other r.b) r.v r.w ws r.are (first r.v r.a r.first) (second r.w r.b r.second)

three_again : {A B C : Type 0} (one : List ℕ → Result A ScriptKind) (two : List ℕ → Result B ScriptKind) (three : List ℕ → Result C ScriptKind) (text : A → List ℕ) (other : B → List ℕ) (last : C → List ℕ)
    → ((w : List ℕ) (a : A) → one w ≡ Ok a → text a ≡ w) → ((w : List ℕ) (b : B) → two w ≡ Ok b → other b ≡ w) → ((w : List ℕ) (c : C) → three w ≡ Ok c → last c ≡ w)
    → (ws : List (List ℕ)) (t : A × B × C) → then_ok (three_words ws) (λ t. then_ok (one t.0) (λ a. then_ok (two t.1) (λ b. map_ok (λ c. (a, b, c)) (three t.2)))) ≡ Ok t
    → text t.0 ∷ other t.1 ∷ last t.2 ∷ [] ≡ ws
three_again {A} {B} {C} one two three text other last first second third ws t e =
    let r = three_read one two three (λ a b c. (a, b, c)) ws t e in
    ap (λ (t : A × B × C). text t.0 ∷ other t.1 ∷ last t.2 ∷ []) (sym r.made)
    ∙ three_same (text r.a) (other r.b) (last r.c) r.u r.v r.w ws r.are (first r.u r.a r.first) (second r.v r.b r.second) (third r.w r.c r.third)

-- any number of lines
lines_printed : {A : Type 0} (word : List (List ℕ) → Result A ScriptKind) (text : A → List (List ℕ)) (test : A → Bool) → ((ws : List (List ℕ)) (x : A) → word ws ≡ Ok x → test x ≡ true → text x ≡ ws)
    → (ls : List (List ℕ)) (xs : List A) → all_words (λ l. word (exact_words l)) ls ≡ Ok xs → list_all test xs ≡ true → map joined (map text xs) ≡ ls
lines_printed word text test again [] xs e is = let none : [] ≡ xs = cc in ap (λ ys. map joined (map text ys)) (sym none)
lines_printed word text test again (l ∷ ls) xs e is =
    let x = then_ok_from (word (exact_words l)) _ xs e in
    let more = map_ok_from (λ ys. x.0 ∷ ys) (all_words (λ l. word (exact_words l)) ls) xs x.2 in
    let both = and_parts (test x.0) (list_all test more.0) (ap (list_all test) more.2 ∙ is) in
    ap (λ ys. map joined (map text ys)) (sym more.2)
    ∙ ap (λ t. t ∷ map joined (map text more.0)) (ap joined (again (exact_words l) x.0 x.1 both.0) ∙ joined_exact l)
    ∙ ap (λ ts. l ∷ ts) (lines_printed word text test again ls more.0 more.1 both.1)

all_pass : {A : Type 0} (xs : List A) → list_all (λ x. true) xs ≡ true
all_pass [] = refl
all_pass (x ∷ xs) = all_pass xs

-- an entry that is written as its line, and one that has no indented lines
pub record IsWritten (after : Spec) (entry : LogEntry) (ws ls : List (List ℕ)) : Type 0 where
  pub words : words_told after entry ≡ ws
  pub lines : map joined (indented_told after entry) ≡ ls

record IsBare (after : Spec) (entry : LogEntry) (ws : List (List ℕ)) : Type 0 where
  words : words_told after entry ≡ ws
  none : indented_told after entry ≡ []

alone_from : (ls : List (List ℕ)) (r : Result LogEntry ScriptKind) (entry : LogEntry) → alone ls r ≡ Ok entry → (ls ≡ []) × (r ≡ Ok entry)
alone_from [] r entry e = (refl, e)
alone_from (l ∷ ls) r entry e = cc

-- only an `add` entry brings a name
abbrev pub is_added : LogEntry → Bool
is_added (logs.Add name r model replicas parts mode) = true
is_added _ = false

abbrev pub HasAdded : Spec → List (List ℕ) → List (List ℕ) → LogEntry → Type 0
HasAdded spec names words entry =
    is_added entry ≡ true → name_at names (place_after spec.resource_names (before_first is_hash (second_word words))) ≡ before_first is_hash (second_word words)

-- an added resource, word by word
record Added (spec : Spec) (ws : List (List ℕ)) (entry : LogEntry) : Type 0 where
  texts : List ℕ × List ℕ × List ℕ × List ℕ × List ℕ
  are : ws ≡ texts.0 ∷ texts.1 ∷ texts.2 ∷ texts.3 ∷ texts.4 ∷ []
  name : (t : List ℕ) × (name_before texts.0 ≡ Ok t)
  resource : (r : ResourceId) × (resource_number (after_first is_hash texts.0) ≡ Ok r)
  model : (m : ModelId) × (model_word spec texts.1 ≡ Ok m)
  replicas : (n : ℕ) × (short_number texts.2 ≡ Ok n)
  parts : (n : ℕ) × (short_number texts.3 ≡ Ok n)
  mode : (n : ℕ) × (mode_word texts.4 ≡ Ok n)
  made : logs.Add (place_after spec.resource_names name.0) resource.0 model.0 replicas.0 parts.0 mode.0 ≡ entry

module _ (spec : Spec) (names : List (List ℕ)) (more : printed.HasMore spec names) (named : are_names spec.states ≡ true) where
  abbrev after : Spec
  after = with_names spec names

  bare : (x entry : LogEntry) (verb : LogVerb) (vs ws : List (List ℕ)) → x ≡ entry → words_told after x ≡ log_verb_name verb ∷ vs → indented_told after x ≡ [] → vs ≡ ws → IsBare after entry (log_verb_name verb ∷ ws)
  bare x entry verb vs ws is words none same =
      record { words = ap (words_told after) (sym is) ∙ words ∙ ap (λ us. log_verb_name verb ∷ us) same; none = ap (indented_told after) (sym is) ∙ none }

  -- an entry of one thing that the words tell
  form : {A : Type 0} (f : A → LogEntry) (text : A → List (List ℕ)) (verb : LogVerb) (r : Result A ScriptKind) (ws : List (List ℕ)) (entry : LogEntry)
      → ((x : A) → words_told after (f x) ≡ log_verb_name verb ∷ text x) → ((x : A) → indented_told after (f x) ≡ []) → ((x : A) → r ≡ Ok x → text x ≡ ws)
      → map_ok f r ≡ Ok entry → IsBare after entry (log_verb_name verb ∷ ws)
  form f text verb r ws entry words none again e =
      let x = map_ok_from f r entry e in
      bare (f x.0) entry verb (text x.0) ws x.2 (words x.0) (none x.0) (again x.0 x.1)

  written : (verb : LogVerb) (ws ls : List (List ℕ)) (r : Result LogEntry ScriptKind) (entry : LogEntry) → (r ≡ Ok entry → IsBare after entry (log_verb_name verb ∷ ws)) → alone ls r ≡ Ok entry
      → IsWritten after entry (log_verb_name verb ∷ ws) ls
  written verb ws ls r entry is e =
      let both = alone_from ls r entry e in
      let b = is both.1 in
      record { words = b.words; lines = ap (map joined) b.none ∙ sym both.0 }

  -- the forms that several entries share
  instance_words : (ws : List (List ℕ)) (i : InstanceId) → instance_alone spec ws ≡ Ok i → instance_name spec i ∷ [] ≡ ws
  instance_words ws i e =
      let w = then_ok_from (one_word ws) (instance_word spec) i e in
      one_same (instance_name spec i) w.0 ws (one_from ws w.0 w.1) (instance_again spec w.0 i w.2)

  controller_words : (ws : List (List ℕ)) (k : ControllerId) → controller_alone spec ws ≡ Ok k → controller_name k ∷ [] ≡ ws
  controller_words ws k e =
      let w = then_ok_from (one_word ws) (controller_word spec) k e in
      one_same (controller_name k) w.0 ws (one_from ws w.0 w.1) (controller_again spec w.0 k w.2)

  abbrev session_text : InstanceId × SessionId → List (List ℕ)
  session_text t = instance_name spec t.0 ∷ session_name t.1 ∷ []

  session_words : (ws : List (List ℕ)) (t : InstanceId × SessionId) → instance_and_session spec ws ≡ Ok t → session_text t ≡ ws
  session_words ws t e = two_again (instance_word spec) session_word (instance_name spec) session_name (instance_again spec) printed.session_again ws t e

  abbrev epoch_text : ControllerId × Epoch → List (List ℕ)
  epoch_text t = controller_name t.0 ∷ epoch_name t.1 ∷ []

  epoch_words : (ws : List (List ℕ)) (t : ControllerId × Epoch) → controller_and_epoch spec ws ≡ Ok t → epoch_text t ≡ ws
  epoch_words ws t e = two_again (controller_word spec) epoch_word controller_name epoch_name (controller_again spec) printed.epoch_again ws t e

  abbrev pass_text : ControllerId × PassNo → List (List ℕ)
  pass_text t = controller_name t.0 ∷ pass_name t.1 ∷ []

  pass_words : (ws : List (List ℕ)) (t : ControllerId × PassNo) → controller_and_pass spec ws ≡ Ok t → pass_text t ≡ ws
  pass_words ws t e = two_again (controller_word spec) pass_word controller_name pass_name (controller_again spec) printed.pass_again ws t e

  abbrev read_text : ControllerId × PassNo × SessionId → List (List ℕ)
  read_text t = controller_name t.0 ∷ pass_name t.1 ∷ session_name t.2 ∷ []

  read_words : (ws : List (List ℕ)) (t : ControllerId × PassNo × SessionId) → pass_and_session spec ws ≡ Ok t → read_text t ≡ ws
  read_words ws t e = three_again (controller_word spec) pass_word session_word controller_name pass_name session_name (controller_again spec) printed.pass_again printed.session_again ws t e

  abbrev turn_text : ControllerId × Epoch × PassNo → List (List ℕ)
  turn_text t = controller_name t.0 ∷ epoch_name t.1 ∷ pass_name t.2 ∷ []

  turn_words : (ws : List (List ℕ)) (t : ControllerId × Epoch × PassNo) → epoch_and_pass spec ws ≡ Ok t → turn_text t ≡ ws
  turn_words ws t e = three_again (controller_word spec) epoch_word pass_word controller_name epoch_name pass_name (controller_again spec) printed.epoch_again printed.pass_again ws t e

  abbrev mark_text : SessionId × MsgId → List (List ℕ)
  mark_text t = session_name t.0 ∷ message_name t.1 ∷ []

  mark_words : (ws : List (List ℕ)) (t : SessionId × MsgId) → session_and_message ws ≡ Ok t → mark_text t ≡ ws
  mark_words ws t e = two_again session_word message_id_word session_name message_name printed.session_again printed.message_again ws t e

  -- the other forms
  line_form : (ws : List (List ℕ)) (entry : LogEntry) → then_ok (one_word ws) (λ w. map_ok logs.Line (short_number w)) ≡ Ok entry → IsBare after entry (log_verb_name verbs.Line ∷ ws)
  line_form ws entry e =
      let w = then_ok_from (one_word ws) _ entry e in
      let n = map_ok_from logs.Line (short_number w.0) entry w.2 in
      bare (logs.Line n.0) entry verbs.Line (decimal n.0 ∷ []) ws n.2 refl refl (one_same (decimal n.0) w.0 ws (one_from ws w.0 w.1) (printed.short_again w.0 n.0 n.1))

  add_read : (ws : List (List ℕ)) (entry : LogEntry) → add_entry spec ws ≡ Ok entry → Added spec ws entry
  add_read ws entry e =
      let t = then_ok_from (five_words ws) _ entry e in
      let name = then_ok_from (name_before t.0.0) _ entry t.2 in
      let r = then_ok_from (resource_number (after_first is_hash t.0.0)) _ entry name.2 in
      let model = then_ok_from (model_word spec t.0.1) _ entry r.2 in
      let replicas = then_ok_from (short_number t.0.2) _ entry model.2 in
      let parts = then_ok_from (short_number t.0.3) _ entry replicas.2 in
      let mode = map_ok_from (logs.Add (place_after spec.resource_names name.0) r.0 model.0 replicas.0 parts.0) (mode_word t.0.4) entry parts.2 in
      record {
        texts = t.0;
        are = five_from ws t.0 t.1;
        name = (name.0, name.1);
        resource = (r.0, r.1);
        model = (model.0, model.1);
        replicas = (replicas.0, replicas.1);
        parts = (parts.0, parts.1);
        mode = (mode.0, mode.1);
        made = mode.2;
      }

  add_form : (first : List ℕ) (ws : List (List ℕ)) (entry : LogEntry) → HasAdded spec names (first ∷ ws) entry → Added spec ws entry → IsBare after entry (log_verb_name verbs.Add ∷ ws)
  add_form first ws entry added a =
      let t = a.texts in
      let second : before_first is_hash (second_word (first ∷ ws)) ≡ a.name.0 = ap (λ us. before_first is_hash (second_word (first ∷ us))) a.are ∙ printed.name_from t.0 a.name.0 a.name.1 in
      let stands : name_at names (place_after spec.resource_names a.name.0) ≡ a.name.0 =
      ap (λ v. name_at names (place_after spec.resource_names v)) (sym second) ∙ added (ap is_added (sym a.made)) ∙ second in
      let text = numbered (name_at names (place_after spec.resource_names a.name.0)) a.resource.0 in
      bare (logs.Add (place_after spec.resource_names a.name.0) a.resource.0 a.model.0 a.replicas.0 a.parts.0 a.mode.0) entry verbs.Add
      (text ∷ model_name spec a.model.0 ∷ decimal a.replicas.0 ∷ decimal a.parts.0 ∷ mode_text a.mode.0 ∷ []) ws a.made refl refl
      (five_same text (model_name spec a.model.0) (decimal a.replicas.0) (decimal a.parts.0) (mode_text a.mode.0) t.0 t.1 t.2 t.3 t.4 ws a.are
      (ap (λ v. numbered v a.resource.0) stands ∙ printed.numbered_printed t.0 a.name.0 a.resource.0 a.name.1 a.resource.1) (model_again spec t.1 a.model.0 a.model.1)
      (printed.short_again t.2 a.replicas.0 a.replicas.1) (printed.short_again t.3 a.parts.0 a.parts.1) (mode_again t.4 a.mode.0 a.mode.1))

  drop_form : (ws : List (List ℕ)) (entry : LogEntry) → has_names entry ≡ true → drop_entry spec ws ≡ Ok entry → IsBare after entry (log_verb_name verbs.Drop ∷ ws)
  drop_form ws entry known e =
      let w = then_ok_from (one_word ws) _ entry e in
      let r = map_ok_from (λ (r : Option ℕ × ResourceId). logs.Drop r.0 r.1) (resource_named spec w.0) entry w.2 in
      let text = numbered (name_told after r.0.0) r.0.1 in
      bare (logs.Drop r.0.0 r.0.1) entry verbs.Drop (text ∷ []) ws r.2 refl refl
      (one_same text w.0 ws (one_from ws w.0 w.1) (printed.resource_printed spec names more w.0 r.0 r.1 (ap has_names r.2 ∙ known)))

  rest_form : {A : Type 0} (f : LogPart → List A → LogEntry) (verb : LogVerb) (word : List ℕ → Result A ScriptKind) (text : A → List ℕ) (ws : List (List ℕ)) (entry : LogEntry)
      → ((p : LogPart) (xs : List A) → words_told after (f p xs) ≡ log_verb_name verb ∷ part_text after p ∷ map text xs) → ((p : LogPart) (xs : List A) → indented_told after (f p xs) ≡ [])
      → ((p : LogPart) (xs : List A) → f p xs ≡ entry → is_some p.name ≡ true) → ((w : List ℕ) (x : A) → word w ≡ Ok x → text x ≡ w)
      → then_ok (one_and_more ws) (λ t. then_ok (part_named spec t.0) (λ p. map_ok (f p) (all_words word t.1))) ≡ Ok entry → IsBare after entry (log_verb_name verb ∷ ws)
  rest_form f verb word text ws entry words none some again e =
      let t = then_ok_from (one_and_more ws) _ entry e in
      let p = then_ok_from (part_named spec t.0.0) _ entry t.2 in
      let xs = map_ok_from (f p.0) (all_words word t.0.1) entry p.2 in
      bare (f p.0 xs.0) entry verb (part_text after p.0 ∷ map text xs.0) ws xs.2 (words p.0 xs.0) (none p.0 xs.0)
      (ap (λ v. v ∷ map text xs.0) (printed.part_printed spec names more t.0.0 p.0 p.1 (some p.0 xs.0 xs.2))
      ∙ ap (λ vs. t.0.0 ∷ vs) (all_again word text again t.0.1 xs.0 xs.1)
      ∙ sym (some_from ws t.0 t.1))

  three_form : {A B C : Type 0} (one : List ℕ → Result A ScriptKind) (two : List ℕ → Result B ScriptKind) (three : List ℕ → Result C ScriptKind) (f : A → B → C → LogEntry) (verb : LogVerb)
      (text : A → List ℕ) (other : B → List ℕ) (last : C → List ℕ) (ws : List (List ℕ)) (entry : LogEntry)
      → ((a : A) (b : B) (c : C) → words_told after (f a b c) ≡ log_verb_name verb ∷ text a ∷ other b ∷ last c ∷ []) → ((a : A) (b : B) (c : C) → indented_told after (f a b c) ≡ [])
      → ((w : List ℕ) (a : A) → one w ≡ Ok a → text a ≡ w) → ((w : List ℕ) (b : B) → two w ≡ Ok b → other b ≡ w)
      → ((w : List ℕ) (a : A) (b : B) (c : C) → f a b c ≡ entry → three w ≡ Ok c → last c ≡ w)
      → then_ok (three_words ws) (λ t. then_ok (one t.0) (λ a. then_ok (two t.1) (λ b. map_ok (f a b) (three t.2)))) ≡ Ok entry → IsBare after entry (log_verb_name verb ∷ ws)
  three_form one two three f verb text other last ws entry words none first second third e =
      let r = three_read one two three f ws entry e in
      bare (f r.a r.b r.c) entry verb (text r.a ∷ other r.b ∷ last r.c ∷ []) ws r.made (words r.a r.b r.c) (none r.a r.b r.c)
      (three_same (text r.a) (other r.b) (last r.c) r.u r.v r.w ws r.are (first r.u r.a r.first) (second r.v r.b r.second) (third r.w r.a r.b r.c r.made r.third))

  reset_form : (ws : List (List ℕ)) (entry : LogEntry) → has_names entry ≡ true → reset_entry spec ws ≡ Ok entry → IsBare after entry (log_verb_name verbs.Reset ∷ ws)
  reset_form ws entry known e =
      three_form (instance_word spec) session_word (part_named spec) logs.Reset verbs.Reset (instance_name spec) session_name (part_text after) ws entry (λ a b c. refl) (λ a b c. refl) (instance_again spec) printed.session_again
      (λ w a b p made is. printed.part_printed spec names more w p is (ap has_names made ∙ known)) e

  post_form : (ws : List (List ℕ)) (entry : LogEntry) → then_ok (three_words ws) (λ t. then_ok (controller_word spec t.0) (λ k. then_ok (epoch_word t.1) (λ e. map_ok (logs.Post k e) (short_number t.2)))) ≡ Ok entry
      → IsBare after entry (log_verb_name verbs.Post ∷ ws)
  post_form ws entry e =
      three_form (controller_word spec) epoch_word short_number logs.Post verbs.Post controller_name epoch_name decimal ws entry (λ a b c. refl) (λ a b c. refl) (controller_again spec) printed.epoch_again
      (λ w a b n made is. printed.short_again w n is) e

  fetch_form : (ws : List (List ℕ)) (entry : LogEntry) → fetch_entry spec ws ≡ Ok entry → IsBare after entry (log_verb_name verbs.Fetch ∷ ws)
  fetch_form ws entry e =
      three_form (instance_word spec) (unless_dash session_word) short_number logs.Fetch verbs.Fetch (instance_name spec) (or_dash session_name) decimal ws entry (λ a b c. refl) (λ a b c. refl) (instance_again spec)
      (printed.or_dash_again session_word session_name printed.session_again) (λ w a b n made is. printed.short_again w n is) e

  write_form : (ws : List (List ℕ)) (entry : LogEntry) → write_entry ws ≡ Ok entry → IsBare after entry (log_verb_name verbs.Write ∷ ws)
  write_form ws entry e =
      three_form session_word message_id_word outcome_word logs.Write verbs.Write session_name message_name outcome_name ws entry (λ a b c. refl) (λ a b c. refl) printed.session_again printed.message_again
      (λ w a b o made is. printed.outcome_again w o is) e

  -- a tick with the sessions that it ended
  ended_printed : (ws : List (List ℕ)) (t : InstanceId × SessionId) → ended_words spec ws ≡ Ok t → ended_told after t ≡ ws
  ended_printed [] t e = cc
  ended_printed (w ∷ ws) t e = one (bytes_eq w (codes "end")) refl e
    where
      one : (b : Bool) → bytes_eq w (codes "end") ≡ b → (if b then instance_and_session spec ws else Err kinds.UnknownWord) ≡ Ok t → ended_told after t ≡ w ∷ ws
      one true is e = ap (λ vs. codes "end" ∷ vs) (session_words ws t e) ∙ ap (λ v. v ∷ ws) (sym (same_bytes w (codes "end") is))
      one false is e = cc

  tick_form : (ws ls : List (List ℕ)) (entry : LogEntry) → tick_entry spec ws ls ≡ Ok entry → IsWritten after entry (log_verb_name verbs.Tick ∷ ws) ls
  tick_form ws ls entry e =
      let w = then_ok_from (one_word ws) _ entry e in
      let n = then_ok_from (long_number w.0) _ entry w.2 in
      let ended = map_ok_from (logs.Tick n.0) (all_words (λ l. ended_words spec (exact_words l)) ls) entry n.2 in
      record {
        words = ap (words_told after) (sym ended.2) ∙ ap (λ vs. log_verb_name verbs.Tick ∷ vs) (one_same (decimal n.0) w.0 ws (one_from ws w.0 w.1) (printed.long_again w.0 n.0 n.1));
        lines = ap (λ x. map joined (indented_told after x)) (sym ended.2)
            ∙ lines_printed (ended_words spec) (ended_told after) (λ t. true) (λ ws t e is. ended_printed ws t e) ls ended.0 ended.1 (all_pass ended.0);
      }

  -- the words of an answer
  bare_printed : (w : List ℕ) (a : Placed) → bare_answer w ≡ Ok a → answer_told after a ≡ w ∷ []
  bare_printed w a e = one (bytes_eq w (codes "ended")) (bytes_eq w (codes "dropped")) (bytes_eq w (codes "illegal")) refl refl refl e
    where
      one : (x y z : Bool) → bytes_eq w (codes "ended") ≡ x → bytes_eq w (codes "dropped") ≡ y → bytes_eq w (codes "illegal") ≡ z
          → (if x then Ok placings.Ended else if y then Ok placings.ResourceDropped else if z then Ok placings.Illegal else Err kinds.UnknownWord) ≡ Ok a → answer_told after a ≡ w ∷ []
      one true y z ex ey ez e = let k : placings.Ended ≡ a = cc in ap (answer_told after) (sym k) ∙ ap (λ v. v ∷ []) (sym (same_bytes w (codes "ended") ex))
      one false true z ex ey ez e = let k : placings.ResourceDropped ≡ a = cc in ap (answer_told after) (sym k) ∙ ap (λ v. v ∷ []) (sym (same_bytes w (codes "dropped") ey))
      one false false true ex ey ez e = let k : placings.Illegal ≡ a = cc in ap (answer_told after) (sym k) ∙ ap (λ v. v ∷ []) (sym (same_bytes w (codes "illegal") ez))
      one false false false ex ey ez e = cc

  sent_printed : (f : MsgId → Placed) (word : List ℕ) (w v : List ℕ) (a : Placed) → ((m : MsgId) → answer_told after (f m) ≡ word ∷ message_name m ∷ []) → bytes_eq w word ≡ true → map_ok f (message_id_word v) ≡ Ok a
      → answer_told after a ≡ w ∷ v ∷ []
  sent_printed f word w v a told is e =
      let m = map_ok_from f (message_id_word v) a e in
      ap (answer_told after) (sym m.2) ∙ told m.0 ∙ ap (λ x. x ∷ message_name m.0 ∷ []) (sym (same_bytes w word is)) ∙ ap (λ x. w ∷ x ∷ []) (printed.message_again v m.0 m.1)

  with_printed : (w v : List ℕ) (a : Placed) → answer_with spec w v ≡ Ok a → answer_told after a ≡ w ∷ v ∷ []
  with_printed w v a e = one (bytes_eq w (codes "sent")) (bytes_eq w (codes "busy")) (bytes_eq w (codes "from")) refl refl refl e
    where
      one : (x y z : Bool) → bytes_eq w (codes "sent") ≡ x → bytes_eq w (codes "busy") ≡ y → bytes_eq w (codes "from") ≡ z
          → (if x then map_ok placings.Sent (message_id_word v) else if y then map_ok placings.Busy (message_id_word v) else if z then map_ok placings.WrongFrom (unless_dash (state_word spec) v) else Err kinds.UnknownWord) ≡ Ok a
          → answer_told after a ≡ w ∷ v ∷ []
      one true y z ex ey ez e = sent_printed placings.Sent (codes "sent") w v a (λ m. refl) ex e
      one false true z ex ey ez e = sent_printed placings.Busy (codes "busy") w v a (λ m. refl) ey e
      one false false true ex ey ez e =
          let s = map_ok_from placings.WrongFrom (unless_dash (state_word spec) v) a e in
          ap (answer_told after) (sym s.2)
          ∙ ap (λ x. x ∷ or_dash (state_name spec) s.0 ∷ []) (sym (same_bytes w (codes "from") ez))
          ∙ ap (λ x. w ∷ x ∷ []) (printed.or_dash_again (state_word spec) (state_name spec) (state_again spec) v s.0 s.1)
      one false false false ex ey ez e = cc

  bound_printed : (w count of bound : List ℕ) (a : Placed) → bound_answer w count of bound ≡ Ok a → answer_told after a ≡ w ∷ count ∷ of ∷ bound ∷ []
  bound_printed w count of bound a e = one (bytes_eq w (codes "bound")) (is_of of) refl refl e
    where
      one : (x y : Bool) → bytes_eq w (codes "bound") ≡ x → is_of of ≡ y
          → (if x then if y then then_ok (short_number count) (λ n. map_ok (placings.OverBound n) (short_number bound)) else Err kinds.UnknownWord else Err kinds.UnknownWord) ≡ Ok a
          → answer_told after a ≡ w ∷ count ∷ of ∷ bound ∷ []
      one true true ex ey e =
          let n = then_ok_from (short_number count) _ a e in
          let m = map_ok_from (placings.OverBound n.0) (short_number bound) a n.2 in
          ap (answer_told after) (sym m.2)
          ∙ ap (λ v. v ∷ decimal n.0 ∷ codes "of" ∷ decimal m.0 ∷ []) (sym (same_bytes w (codes "bound") ex))
          ∙ ap (λ vs. w ∷ vs) (three_same (decimal n.0) (codes "of") (decimal m.0) count of bound (count ∷ of ∷ bound ∷ []) refl
          (printed.short_again count n.0 n.1) (sym (same_bytes of (codes "of") ey)) (printed.short_again bound m.0 m.1))
      one true false ex ey e = cc
      one false y ex ey e = cc

  throttle_printed : (w rule load of limit : List ℕ) (a : Placed) → throttle_answer w rule load of limit ≡ Ok a → answer_told after a ≡ w ∷ rule ∷ load ∷ of ∷ limit ∷ []
  throttle_printed w rule load of limit a e = one (bytes_eq w (codes "throttle")) (is_of of) refl refl e
    where
      one : (x y : Bool) → bytes_eq w (codes "throttle") ≡ x → is_of of ≡ y
          → (if x then if y then then_ok (short_number rule) (λ k. then_ok (short_number load) (λ n. map_ok (placings.OverThrottle k n) (short_number limit))) else Err kinds.UnknownWord else Err kinds.UnknownWord) ≡ Ok a
          → answer_told after a ≡ w ∷ rule ∷ load ∷ of ∷ limit ∷ []
      one true true ex ey e =
          let k = then_ok_from (short_number rule) _ a e in
          let n = then_ok_from (short_number load) _ a k.2 in
          let m = map_ok_from (placings.OverThrottle k.0 n.0) (short_number limit) a n.2 in
          ap (answer_told after) (sym m.2)
          ∙ ap (λ v. v ∷ decimal k.0 ∷ decimal n.0 ∷ codes "of" ∷ decimal m.0 ∷ []) (sym (same_bytes w (codes "throttle") ex))
          ∙ ap (λ v. w ∷ v ∷ decimal n.0 ∷ codes "of" ∷ decimal m.0 ∷ []) (printed.short_again rule k.0 k.1)
          ∙ ap (λ vs. w ∷ rule ∷ vs) (three_same (decimal n.0) (codes "of") (decimal m.0) load of limit (load ∷ of ∷ limit ∷ []) refl
          (printed.short_again load n.0 n.1) (sym (same_bytes of (codes "of") ey)) (printed.short_again limit m.0 m.1))
      one true false ex ey e = cc
      one false y ex ey e = cc

  -- a proposal behind its answer
  moved : (a : Placed) (s p m : List ℕ) (q : LogMove) → move_of spec a (s ∷ p ∷ m ∷ []) ≡ Ok q → is_some q.part.name ≡ true → (q.answer ≡ a) × (proposal_told after q ≡ s ∷ p ∷ m ∷ [])
  moved a s p m q e some =
      let r = three_read session_word (part_named spec) (move_word spec) (λ s p (m : StateId × StateId). let q : LogMove = record { session = s; part = p; from = m.0; to = m.1; answer = a } in q) (s ∷ p ∷ m ∷ []) q e in (
        ap (λ (q : LogMove). q.answer) (sym r.made),
        ap (proposal_told after) (sym r.made)
            ∙ three_same (session_name r.a) (part_text after r.b) (move_text spec r.c.0 r.c.1) r.u r.v r.w (s ∷ p ∷ m ∷ []) r.are
            (printed.session_again r.u r.a r.first) (printed.part_printed spec names more r.v r.b r.second (ap (λ (q : LogMove). is_some q.part.name) r.made ∙ some)) (printed.move_printed spec named r.w r.c r.third),
      )

  behind_answer : (front : List (List ℕ)) (answer : Result Placed ScriptKind) (s p m : List ℕ) (q : LogMove) → ((a : Placed) → answer ≡ Ok a → answer_told after a ≡ front) → is_some q.part.name ≡ true
      → then_move spec (s ∷ p ∷ m ∷ []) answer ≡ Ok q → move_told after q ≡ front ++ s ∷ p ∷ m ∷ []
  behind_answer front answer s p m q again some e =
      let a = then_ok_from answer _ q e in
      let both = moved a.0 s p m q a.2 some in
      ap (λ x. answer_told after x ++ proposal_told after q) both.0 ∙ ap (λ x. x ++ proposal_told after q) (again a.0 a.1) ∙ ap (λ x. front ++ x) both.1

  moves_printed : (ws : List (List ℕ)) (q : LogMove) → move_words spec ws ≡ Ok q → is_some q.part.name ≡ true → move_told after q ≡ ws
  moves_printed [] q e some = cc
  moves_printed (a ∷ []) q e some = cc
  moves_printed (a ∷ b ∷ []) q e some = cc
  moves_printed (a ∷ b ∷ c ∷ []) q e some = cc
  moves_printed (w ∷ s ∷ p ∷ m ∷ []) q e some = behind_answer (w ∷ []) (bare_answer w) s p m q (bare_printed w) some e
  moves_printed (w ∷ a ∷ s ∷ p ∷ m ∷ []) q e some = behind_answer (w ∷ a ∷ []) (answer_with spec w a) s p m q (with_printed w a) some e
  moves_printed (w ∷ a ∷ b ∷ c ∷ s ∷ p ∷ []) q e some = cc
  moves_printed (w ∷ a ∷ b ∷ c ∷ s ∷ p ∷ m ∷ []) q e some = behind_answer (w ∷ a ∷ b ∷ c ∷ []) (bound_answer w a b c) s p m q (bound_printed w a b c) some e
  moves_printed (w ∷ a ∷ b ∷ c ∷ d ∷ s ∷ p ∷ m ∷ []) q e some = behind_answer (w ∷ a ∷ b ∷ c ∷ d ∷ []) (throttle_answer w a b c d) s p m q (throttle_printed w a b c d) some e
  moves_printed (w ∷ a ∷ b ∷ c ∷ d ∷ s ∷ p ∷ m ∷ n ∷ ws) q e some = cc

  dispatch_form : (ws ls : List (List ℕ)) (entry : LogEntry) → has_names entry ≡ true → dispatch_entry spec ws ls ≡ Ok entry → IsWritten after entry (log_verb_name verbs.Send ∷ ws) ls
  dispatch_form ws ls entry known e =
      let t = then_ok_from (epoch_and_pass spec ws) _ entry e in
      let moves = map_ok_from (logs.Dispatch t.0.0 t.0.1 t.0.2) (all_words (λ l. move_words spec (exact_words l)) ls) entry t.2 in
      record {
        words = ap (words_told after) (sym moves.2) ∙ ap (λ vs. log_verb_name verbs.Send ∷ vs) (turn_words ws t.0 t.1);
        lines = ap (λ x. map joined (indented_told after x)) (sym moves.2)
            ∙ lines_printed (move_words spec) (move_told after) (λ m. is_some m.part.name) moves_printed ls moves.0 moves.1 (ap has_names moves.2 ∙ known);
      }

  -- each verb
  verb_printed : (verb : LogVerb) (first : List ℕ) (ws ls : List (List ℕ)) (entry : LogEntry) → has_names entry ≡ true → HasAdded spec names (first ∷ ws) entry → told_by spec verb ws ls ≡ Ok entry
      → IsWritten after entry (log_verb_name verb ∷ ws) ls
  verb_printed verbs.Line first ws ls entry known added e = written verbs.Line ws ls _ entry (line_form ws entry) e
  verb_printed verbs.Join first ws ls entry known added e =
      written verbs.Join ws ls _ entry (form (λ (t : InstanceId × SessionId). logs.Join t.0 t.1) session_text verbs.Join (instance_and_session spec ws) ws entry (λ t. refl) (λ t. refl) (session_words ws)) e
  verb_printed verbs.End first ws ls entry known added e =
      written verbs.End ws ls _ entry (form (λ (t : InstanceId × SessionId). logs.End t.0 t.1) session_text verbs.End (instance_and_session spec ws) ws entry (λ t. refl) (λ t. refl) (session_words ws)) e
  verb_printed verbs.Beat first ws ls entry known added e =
      written verbs.Beat ws ls _ entry (form (λ (t : InstanceId × SessionId). logs.Beat t.0 t.1) session_text verbs.Beat (instance_and_session spec ws) ws entry (λ t. refl) (λ t. refl) (session_words ws)) e
  verb_printed verbs.Tick first ws ls entry known added e = tick_form ws ls entry e
  verb_printed verbs.Drain first ws ls entry known added e = written verbs.Drain ws ls _ entry (form logs.Drain (λ i. instance_name spec i ∷ []) verbs.Drain (instance_alone spec ws) ws entry (λ i. refl) (λ i. refl) (instance_words ws)) e
  verb_printed verbs.Undrain first ws ls entry known added e = written verbs.Undrain ws ls _ entry (form logs.Undrain (λ i. instance_name spec i ∷ []) verbs.Undrain (instance_alone spec ws) ws entry (λ i. refl) (λ i. refl) (instance_words ws)) e
  verb_printed verbs.Add first ws ls entry known added e = written verbs.Add ws ls _ entry (λ e. add_form first ws entry added (add_read ws entry e)) e
  verb_printed verbs.Drop first ws ls entry known added e = written verbs.Drop ws ls _ entry (drop_form ws entry known) e
  verb_printed verbs.List first ws ls entry known added e = written verbs.List ws ls _ entry (rest_form logs.List verbs.List (instance_word spec) (instance_name spec) ws entry (λ p xs. refl) (λ p xs. refl) (λ p xs made. ap has_names made ∙ known) (instance_again spec)) e
  verb_printed verbs.Map first ws ls entry known added e = written verbs.Map ws ls _ entry (rest_form logs.Map verbs.Map (pair_word spec) (mapped_name spec) ws entry (λ p xs. refl) (λ p xs. refl) (λ p xs made. ap has_names made ∙ known) (pair_again spec)) e
  verb_printed verbs.Reset first ws ls entry known added e = written verbs.Reset ws ls _ entry (reset_form ws entry known) e
  verb_printed verbs.Lead first ws ls entry known added e =
      written verbs.Lead ws ls _ entry (form (λ (t : ControllerId × Epoch). logs.Lead t.0 t.1) epoch_text verbs.Lead (controller_and_epoch spec ws) ws entry (λ t. refl) (λ t. refl) (epoch_words ws)) e
  verb_printed verbs.Stop first ws ls entry known added e = written verbs.Stop ws ls _ entry (form logs.Stop (λ k. controller_name k ∷ []) verbs.Stop (controller_alone spec ws) ws entry (λ k. refl) (λ k. refl) (controller_words ws)) e
  verb_printed verbs.Start first ws ls entry known added e = written verbs.Start ws ls _ entry (form logs.Start (λ k. controller_name k ∷ []) verbs.Start (controller_alone spec ws) ws entry (λ k. refl) (λ k. refl) (controller_words ws)) e
  verb_printed verbs.Begin first ws ls entry known added e =
      written verbs.Begin ws ls _ entry (form (λ (t : ControllerId × Epoch × PassNo). logs.Begin t.0 t.1 t.2) turn_text verbs.Begin (epoch_and_pass spec ws) ws entry (λ t. refl) (λ t. refl) (turn_words ws)) e
  verb_printed verbs.Live first ws ls entry known added e =
      written verbs.Live ws ls _ entry (form (λ (t : ControllerId × PassNo). logs.Live t.0 t.1) pass_text verbs.Live (controller_and_pass spec ws) ws entry (λ t. refl) (λ t. refl) (pass_words ws)) e
  verb_printed verbs.Mail first ws ls entry known added e =
      written verbs.Mail ws ls _ entry (form (λ (t : ControllerId × PassNo × SessionId). logs.Mail t.0 t.1 t.2) read_text verbs.Mail (pass_and_session spec ws) ws entry (λ t. refl) (λ t. refl) (read_words ws)) e
  verb_printed verbs.States first ws ls entry known added e =
      written verbs.States ws ls _ entry (form (λ (t : ControllerId × PassNo × SessionId). logs.States t.0 t.1 t.2) read_text verbs.States (pass_and_session spec ws) ws entry (λ t. refl) (λ t. refl) (read_words ws)) e
  verb_printed verbs.Ideals first ws ls entry known added e =
      written verbs.Ideals ws ls _ entry (form (λ (t : ControllerId × PassNo). logs.Ideals t.0 t.1) pass_text verbs.Ideals (controller_and_pass spec ws) ws entry (λ t. refl) (λ t. refl) (pass_words ws)) e
  verb_printed verbs.Send first ws ls entry known added e = dispatch_form ws ls entry known e
  verb_printed verbs.Post first ws ls entry known added e = written verbs.Post ws ls _ entry (post_form ws entry) e
  verb_printed verbs.Fetch first ws ls entry known added e = written verbs.Fetch ws ls _ entry (fetch_form ws entry) e
  verb_printed verbs.Take first ws ls entry known added e =
      written verbs.Take ws ls _ entry (form (λ (t : SessionId × MsgId). logs.Take t.0 t.1) mark_text verbs.Take (session_and_message ws) ws entry (λ t. refl) (λ t. refl) (mark_words ws)) e
  verb_printed verbs.Write first ws ls entry known added e = written verbs.Write ws ls _ entry (write_form ws entry) e
  verb_printed verbs.Ack first ws ls entry known added e =
      written verbs.Ack ws ls _ entry (form (λ (t : SessionId × MsgId). logs.Ack t.0 t.1) mark_text verbs.Ack (session_and_message ws) ws entry (λ t. refl) (λ t. refl) (mark_words ws)) e

  pub entry_printed : (words ls : List (List ℕ)) (entry : LogEntry) → has_names entry ≡ true → HasAdded spec names words entry → told_words spec words ls ≡ Ok entry → IsWritten after entry words ls
  entry_printed [] ls entry known added e = cc
  entry_printed (w ∷ ws) ls entry known added e =
      let verb = then_ok_from (log_verb_of w) _ entry e in
      let is = verb_printed verb.0 w ws ls entry known added verb.2 in
      let same = named_so log_verb_name w all_log_verbs verb.0 (or_fault_from _ _ verb.0 verb.1) in
      record { words = is.words ∙ ap (λ v. v ∷ ws) same; lines = is.lines }
