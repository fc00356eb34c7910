-- The words of a good line have no line feed and no carriage return, where the names of the description are names.
use Rattle.std.proofs.Common.{◌≡◌, ℕ, ◌-◌, ◌^◌, ◌<◌, Bool, true, false, not, ◌&&◌, ◌==◌, List, [], ◌∷◌, get_or, Option, Some, None, Result, Ok, Err, if◌then◌else◌, refl, sym, ap, ◌∙◌, subst, arith}
use Rattle.std.proofs.lemmas.Bool.{and_parts, and_from}
use Rattle.std.proofs.lemmas.Bool.Decides.{nat_tests}
use Rattle.std.proofs.lemmas.List.Folds.{list_all-append}
use Rattle.std.proofs.lemmas.List.Quantifiers.{position-Some}
use Rattle.std.proofs.lemmas.List.Sums.{AllPass-from_list_all, list_all-from_AllPass}
use Rattle.std.proofs.lemmas.Option.{unwrap_or-slice_get}
use Rattle.std.specs.Fmt.{decimal}
use Rattle.std.specs.Option.{option_map_or}
use Rattle.std.specs.List.{list_all, before_first, after_first}
use Rattle.hx_ids.specs.Names.{place_of, place_after}
use Rattle.hx_ids.specs.declared.InstanceId.{InstanceId}
use Rattle.hx_ids.specs.declared.StateId.{StateId}
use Rattle.hx_ids.specs.declared.ModelId.{ModelId}
use Rattle.hx_ids.specs.declared.MsgId.{MsgId}
use Rattle.hx_ids.specs.declared.ControllerId.{ControllerId}
use Rattle.hx_ideal.specs.ModeKinds.{kind_name}
use Rattle.hx_ideal.specs.declared.kinds.ModeKind.{ModeKind}
use Rattle.hx_ideal.specs.declared.kinds.ModeKind.TheVariants as modes
use Rattle.hx_text.specs.Spellings.{is_name_byte, is_name, number_of}
use Rattle.hx_text.proofs.Names.{name_bytes}
use Rattle.hx_text.proofs.Numbers.{decimal-number_of, decimal-without}
use Rattle.hx_cluster.specs.declared.description.Spec.{Spec}
use Rattle.hx_script.specs.declared.ReadKind.{ReadKind}
use Rattle.hx_script.specs.declared.ReadKind.TheVariants as reads
use Rattle.hx_script.specs.declared.What.{What}
use Rattle.hx_script.specs.declared.What.TheVariants as asks
use Rattle.hx_script.specs.declared.verbs.Verb.{Verb}
use Rattle.hx_script.specs.declared.verbs.Verb.TheVariants as verbs
use Rattle.hx_script.specs.declared.faults.ScriptKind.{ScriptKind}
use Rattle.hx_script.specs.declared.faults.ScriptKind.TheVariants as kinds
use Rattle.hx_script.specs.Grammar.{map_ok, then_ok, one_word, two_words, three_words, two_and_more, instance_word, resource_word, model_word, state_word, name_word, in_range, number_word, part_words, numbered_by, controller_word, message_word, mode_word, read_kind_word, is_equals, pair_word, all_words, instance_alone, controller_alone, instance_and_message, tick_line, add_line, drop_line, reset_line, route_line, bare_line, what_of, verb_name}
use Rattle.hx_script.specs.LineTexts.{read_kind_text, has_names}
use Rattle.hx_script.specs.Modes.{mode_numbered}
use Rattle.hx_script.proofs.WordsAgain.{map_ok_from, then_ok_from, or_fault_from, option_map_from, in_range_from, name_again, mode_again, read_kind_again, pair_split}
use Rattle.hx_script.proofs.LineParts.IsLine.{OfInstance, OfController, OfMessage, OfNone, OfTick, OfAdd, OfDrop, OfList, OfMap, OfReset, OfRead, OfRoute}
use Rattle.hx_script.proofs.LineParts.{IsLine, line_form, one_from, two_from, three_from, more_from, part_split, part_line, add_split}

abbrev pub is_plain_byte : ℕ → Bool
is_plain_byte b = not (b == 10) && not (b == 13)

abbrev pub is_plain : List ℕ → Bool
is_plain w = list_all is_plain_byte w

abbrev pub are_plain : List (List ℕ) → Bool
are_plain ws = list_all is_plain ws

-- names
plain_name_byte : (b : ℕ) → is_name_byte b ≡ true → is_plain_byte b ≡ true
plain_name_byte b e = grind (arith, nat_tests)

plain_bytes : (bs : List ℕ) → list_all is_name_byte bs ≡ true → is_plain bs ≡ true
plain_bytes [] e = refl
plain_bytes (b ∷ bs) e = let parts = and_parts (is_name_byte b) (list_all is_name_byte bs) e in and_from _ _ (plain_name_byte b parts.0) (plain_bytes bs parts.1)

plain_name : (w : List ℕ) → is_name w ≡ true → is_plain w ≡ true
plain_name w e = plain_bytes w (name_bytes w e)

plain_place : (names : List (List ℕ)) (w : List ℕ) (n : ℕ) → list_all is_name names ≡ true → place_of names w ≡ Some n → is_plain w ≡ true
plain_place names w n named e =
    let name : is_name (get_or names n []) ≡ true = AllPass-from_list_all is_name names named n [] (position-Some _ names n [] e).0 in
    plain_name w (ap is_name (sym (sym (unwrap_or-slice_get names n []) ∙ name_again names w n e)) ∙ name)

-- numbers
plain_decimal : (n : ℕ) → n < 2 ^ 64 → is_plain (decimal n) ≡ true
plain_decimal n small =
    list_all-from_AllPass is_plain_byte (decimal n) (λ k d lt. and_from _ _ (ap not (decimal-without n 10 small (omega arith) k d lt)) (ap not (decimal-without n 13 small (omega arith) k d lt)))

plain_number_of : (w : List ℕ) (n : ℕ) → number_of w ≡ Some n → is_plain w ≡ true
plain_number_of w n e = let d = decimal-number_of w n e in subst (λ t. is_plain t ≡ true) d.1 (plain_decimal n d.0)

plain_number : (least most : ℕ) (w : List ℕ) (n : ℕ) → number_word least most w ≡ Ok n → is_plain w ≡ true
plain_number least most w n e = plain_number_of w n (in_range_from least most (number_of w) n (or_fault_from _ _ n e)).0

plain_numbered : (letter : ℕ) (w : List ℕ) (n : ℕ) → is_plain_byte letter ≡ true → numbered_by letter w ≡ Some n → is_plain w ≡ true
plain_numbered letter [] n good e = refl
plain_numbered letter (b ∷ bs) n good e = one (b == letter) refl e
  where
    one : (t : Bool) → (b == letter) ≡ t → (if t then number_of bs else None) ≡ Some n → is_plain (b ∷ bs) ≡ true
    one true is e = and_from _ _ (ap is_plain_byte (let same : b ≡ letter = grind (arith, nat_tests, is) in same) ∙ good) (plain_number_of bs n e)
    one false is e = cc

plain_message : (w : List ℕ) (m : MsgId) → message_word w ≡ Ok m → is_plain w ≡ true
plain_message w m e =
    let from = option_map_from (λ (n : ℕ). let m : MsgId = record { 0 = n } in m) (in_range 1 (2 ^ 64 - 1) (numbered_by 109 w)) m (or_fault_from _ _ m e) in
    plain_numbered 109 w from.0 refl (in_range_from 1 (2 ^ 64 - 1) (numbered_by 109 w) from.0 from.1).0

-- words of a few
plain_mode_name : (kind : Option ModeKind) → is_plain (option_map_or kind_name kind []) ≡ true
plain_mode_name None = refl
plain_mode_name (Some modes.FullAuto) = refl
plain_mode_name (Some modes.SemiAuto) = refl
plain_mode_name (Some modes.Customized) = refl

plain_mode : (w : List ℕ) (mode : ℕ) → mode_word w ≡ Ok mode → is_plain w ≡ true
plain_mode w mode e = subst (λ t. is_plain t ≡ true) (mode_again w mode e) (plain_mode_name (mode_numbered mode))

plain_kind_text : (kind : ReadKind) → is_plain (read_kind_text kind) ≡ true
plain_kind_text reads.Live = refl
plain_kind_text reads.Mail = refl
plain_kind_text reads.States = refl
plain_kind_text reads.Ideals = refl

plain_kind : (w : List ℕ) (kind : ReadKind) → read_kind_word w ≡ Ok kind → is_plain w ≡ true
plain_kind w kind e = subst (λ t. is_plain t ≡ true) (read_kind_again w kind e) (plain_kind_text kind)

-- lines of one word, of two, of a list
one_plain : {A : Type 0} (word : List ℕ → Result A ScriptKind) → ((w : List ℕ) (x : A) → word w ≡ Ok x → is_plain w ≡ true) → (ws : List (List ℕ)) (x : A) → then_ok (one_word ws) word ≡ Ok x → are_plain ws ≡ true
one_plain word plain ws x e =
    let w = then_ok_from (one_word ws) word x e in
    subst (λ l. are_plain l ≡ true) (sym (one_from ws w.0 w.1)) (and_from _ _ (plain w.0 x w.2) refl)

two_plain : {A B C : Type 0} (f : List ℕ → Result A ScriptKind) (h : List ℕ → Result B ScriptKind) (g : A → B → C) → ((w : List ℕ) (x : A) → f w ≡ Ok x → is_plain w ≡ true) → ((w : List ℕ) (x : B) → h w ≡ Ok x → is_plain w ≡ true)
    → (ws : List (List ℕ)) (y : C) → then_ok (two_words ws) (λ t. then_ok (f t.0) (λ a. map_ok (g a) (h t.1))) ≡ Ok y → are_plain ws ≡ true
two_plain f h g plain_f plain_h ws y e =
    let t = then_ok_from (two_words ws) _ y e in
    let a = then_ok_from (f t.0.0) _ y t.2 in
    let b = map_ok_from (g a.0) (h t.0.1) y a.2 in
    subst (λ l. are_plain l ≡ true) (sym (two_from ws t.0 t.1)) (and_from _ _ (plain_f t.0.0 a.0 a.1) (and_from _ _ (plain_h t.0.1 b.0 b.1) refl))

all_plain : {A : Type 0} (word : List ℕ → Result A ScriptKind) → ((w : List ℕ) (x : A) → word w ≡ Ok x → is_plain w ≡ true) → (ws : List (List ℕ)) (xs : List A) → all_words word ws ≡ Ok xs → are_plain ws ≡ true
all_plain word plain [] xs e = refl
all_plain word plain (w ∷ ws) xs e =
    let x = then_ok_from (word w) _ xs e in
    let more = map_ok_from (λ ys. x.0 ∷ ys) (all_words word ws) xs x.2 in
    and_from _ _ (plain w x.0 x.1) (all_plain word plain ws more.0 more.1)

none_plain : (what : What) (ws : List (List ℕ)) (y : What) → bare_line what ws ≡ Ok y → are_plain ws ≡ true
none_plain what [] y e = refl
none_plain what (w ∷ ws) y e = cc

module _ (spec : Spec) (named : has_names spec ≡ true) where
  instances_named : list_all is_name spec.instances ≡ true
  instances_named = (and_parts _ _ named).0

  states_named : list_all is_name spec.states ≡ true
  states_named = (and_parts _ _ (and_parts (list_all is_name spec.instances) _ named).1).0

  resources_named : list_all is_name spec.resource_names ≡ true
  resources_named = (and_parts _ _ (and_parts (list_all is_name spec.states) _ (and_parts (list_all is_name spec.instances) _ named).1).1).0

  models_named : list_all is_name spec.model_names ≡ true
  models_named = (and_parts (list_all is_name spec.resource_names) _ (and_parts (list_all is_name spec.states) _ (and_parts (list_all is_name spec.instances) _ named).1).1).1

  plain_instance : (w : List ℕ) (i : InstanceId) → instance_word spec w ≡ Ok i → is_plain w ≡ true
  plain_instance w i e =
      let from = option_map_from (λ (n : ℕ). let i : InstanceId = record { 0 = n } in i) (place_of spec.instances w) i (or_fault_from _ _ i e) in
      plain_place spec.instances w from.0 instances_named from.1

  plain_state : (w : List ℕ) (t : StateId) → state_word spec w ≡ Ok t → is_plain w ≡ true
  plain_state w t e =
      let from = option_map_from (λ (n : ℕ). let t : StateId = record { 0 = n } in t) (place_of spec.states w) t (or_fault_from _ _ t e) in
      plain_place spec.states w from.0 states_named from.1

  plain_model : (w : List ℕ) (m : ModelId) → model_word spec w ≡ Ok m → is_plain w ≡ true
  plain_model w m e =
      let from = option_map_from (λ (n : ℕ). let m : ModelId = record { 0 = n } in m) (place_of spec.model_names w) m (or_fault_from _ _ m e) in
      plain_place spec.model_names w from.0 models_named from.1

  plain_resource : (w : List ℕ) (n : ℕ) → resource_word spec w ≡ Ok n → is_plain w ≡ true
  plain_resource w n e = plain_place spec.resource_names w n resources_named (or_fault_from _ _ n e)

  plain_new_name : (w : List ℕ) (n : ℕ) → name_word spec w ≡ Ok n → is_plain w ≡ true
  plain_new_name w n e = one (is_name w) refl e
    where
      one : (b : Bool) → is_name w ≡ b → (if b then Ok (place_after spec.resource_names w) else Err kinds.BadName) ≡ Ok n → is_plain w ≡ true
      one true is e = plain_name w is
      one false is e = cc

  plain_controller : (w : List ℕ) (k : ControllerId) → controller_word spec w ≡ Ok k → is_plain w ≡ true
  plain_controller w k e =
      let from = option_map_from (λ (n : ℕ). let k : ControllerId = record { 0 = n - 1 } in k) (in_range 1 spec.controllers (numbered_by 99 w)) k (or_fault_from _ _ k e) in
      plain_numbered 99 w from.0 refl (in_range_from 1 spec.controllers (numbered_by 99 w) from.0 from.1).0

  plain_pair : (w : List ℕ) (p : InstanceId × StateId) → pair_word spec w ≡ Ok p → is_plain w ≡ true
  plain_pair w p e =
      let parts = pair_split spec w p e in
      ap is_plain parts.whole ∙ list_all-append is_plain_byte (before_first is_equals w) (61 ∷ after_first is_equals w)
      ∙ and_from _ _ (plain_instance (before_first is_equals w) parts.instance parts.names) (plain_state (after_first is_equals w) parts.state parts.has)

  plain_part : (r p : List ℕ) (part : ℕ × ℕ) → part_words spec r p ≡ Ok part → (is_plain r ≡ true) × (is_plain p ≡ true)
  plain_part r p part e = let split = part_split spec r p part e in (plain_resource r split.name split.names, plain_number 0 (2 ^ 32 - 1) p split.index split.numbers)

  more_plain : {A : Type 0} (ask : ℕ → ℕ → List A → What) (word : List ℕ → Result A ScriptKind) → ((w : List ℕ) (x : A) → word w ≡ Ok x → is_plain w ≡ true) → (ws : List (List ℕ)) (y : What)
      → then_ok (two_and_more ws) (λ t. then_ok (part_words spec t.0 t.1) (λ p. map_ok (ask p.0 p.1) (all_words word t.2))) ≡ Ok y → are_plain ws ≡ true
  more_plain ask word plain ws y e =
      let line = part_line two_and_more spec ask (all_words word) ws y e in
      let part = plain_part line.texts.0 line.texts.1 line.part line.parts in
      subst (λ l. are_plain l ≡ true) (sym (more_from ws line.texts line.taken)) (and_from _ _ part.0 (and_from _ _ part.1 (all_plain word plain line.texts.2 line.rest line.rests)))

  plain_tick : (ws : List (List ℕ)) (y : What) → tick_line ws ≡ Ok y → are_plain ws ≡ true
  plain_tick ws y e = one_plain _ (λ w x read. let n = map_ok_from asks.Tick (number_word 0 (2 ^ 64 - 1) w) x read in plain_number 0 (2 ^ 64 - 1) w n.0 n.1) ws y e

  plain_drop : (ws : List (List ℕ)) (y : What) → drop_line spec ws ≡ Ok y → are_plain ws ≡ true
  plain_drop ws y e = one_plain _ (λ w x read. let n = map_ok_from asks.Drop (resource_word spec w) x read in plain_resource w n.0 n.1) ws y e

  plain_reset : (ws : List (List ℕ)) (y : What) → reset_line spec ws ≡ Ok y → are_plain ws ≡ true
  plain_reset ws y e =
      let t = then_ok_from (three_words ws) _ y e in
      let i = then_ok_from (instance_word spec t.0.0) _ y t.2 in
      let p = map_ok_from (λ (p : ℕ × ℕ). asks.Reset i.0 p.0 p.1) (part_words spec t.0.1 t.0.2) y i.2 in
      let part = plain_part t.0.1 t.0.2 p.0 p.1 in
      subst (λ l. are_plain l ≡ true) (sym (three_from ws t.0 t.1)) (and_from _ _ (plain_instance t.0.0 i.0 i.1) (and_from _ _ part.0 (and_from _ _ part.1 refl)))

  plain_route : (ws : List (List ℕ)) (y : What) → route_line spec ws ≡ Ok y → are_plain ws ≡ true
  plain_route ws y e =
      let line = part_line three_words spec asks.Route (state_word spec) ws y e in
      let part = plain_part line.texts.0 line.texts.1 line.part line.parts in
      subst (λ l. are_plain l ≡ true) (sym (three_from ws line.texts line.taken)) (and_from _ _ part.0 (and_from _ _ part.1 (and_from _ _ (plain_state line.texts.2 line.rest line.rests) refl)))

  plain_add : (ws : List (List ℕ)) (y : What) → add_line spec ws ≡ Ok y → are_plain ws ≡ true
  plain_add ws y e =
      let add = add_split spec ws y e in
      let t = add.texts in
      subst (λ l. are_plain l ≡ true) (sym add.whole)
      (and_from _ _ (plain_new_name t.0 add.name.0 add.name.1) (and_from _ _ (plain_model t.1 add.model.0 add.model.1) (and_from _ _ (plain_number 1 64 t.2 add.replicas.0 add.replicas.1)
      (and_from _ _ (plain_number 1 1024 t.3 add.parts.0 add.parts.1) (and_from _ _ (plain_mode t.4 add.mode.0 add.mode.1) refl)))))

  of_instance : (ask : InstanceId → What) (ws : List (List ℕ)) (y : What) → map_ok ask (instance_alone spec ws) ≡ Ok y → are_plain ws ≡ true
  of_instance ask ws y e = let i = map_ok_from ask (instance_alone spec ws) y e in one_plain (instance_word spec) plain_instance ws i.0 i.1

  of_controller : (ask : ControllerId → What) (ws : List (List ℕ)) (y : What) → map_ok ask (controller_alone spec ws) ≡ Ok y → are_plain ws ≡ true
  of_controller ask ws y e = let k = map_ok_from ask (controller_alone spec ws) y e in one_plain (controller_word spec) plain_controller ws k.0 k.1

  of_message : (ask : InstanceId × MsgId → What) (ws : List (List ℕ)) (y : What) → map_ok ask (instance_and_message spec ws) ≡ Ok y → are_plain ws ≡ true
  of_message ask ws y e =
      let both = map_ok_from ask (instance_and_message spec ws) y e in
      two_plain (instance_word spec) message_word (λ (i : InstanceId) (m : MsgId). (i, m)) plain_instance plain_message ws both.0 both.1

  plain_form : (verb : Verb) (ws : List (List ℕ)) (y : What) → IsLine spec verb ws y → are_plain ws ≡ true
  plain_form verb ws y (OfInstance ask words range e) = of_instance ask ws y e
  plain_form verb ws y (OfController ask words range e) = of_controller ask ws y e
  plain_form verb ws y (OfMessage ask words range e) = of_message ask ws y e
  plain_form verb ws y (OfNone bare words range e) = none_plain bare ws y e
  plain_form verb ws y (OfTick is e) = plain_tick ws y e
  plain_form verb ws y (OfAdd is e) = plain_add ws y e
  plain_form verb ws y (OfDrop is e) = plain_drop ws y e
  plain_form verb ws y (OfList is e) = more_plain asks.List (instance_word spec) plain_instance ws y e
  plain_form verb ws y (OfMap is e) = more_plain asks.Map (pair_word spec) plain_pair ws y e
  plain_form verb ws y (OfReset is e) = plain_reset ws y e
  plain_form verb ws y (OfRead is e) = two_plain (controller_word spec) read_kind_word asks.Read plain_controller plain_kind ws y e
  plain_form verb ws y (OfRoute is e) = plain_route ws y e

  pub plain_words : (verb : Verb) (ws : List (List ℕ)) (y : What) → what_of spec verb ws ≡ Ok y → are_plain ws ≡ true
  plain_words verb ws y e = plain_form verb ws y (line_form spec verb ws y e)

pub plain_verb : (verb : Verb) → is_plain (verb_name verb) ≡ true
plain_verb verbs.Join = refl
plain_verb verbs.Beat = refl
plain_verb verbs.Drain = refl
plain_verb verbs.Undrain = refl
plain_verb verbs.Tick = refl
plain_verb verbs.Expire = refl
plain_verb verbs.Die = refl
plain_verb verbs.Add = refl
plain_verb verbs.Drop = refl
plain_verb verbs.List = refl
plain_verb verbs.Map = refl
plain_verb verbs.Reset = refl
plain_verb verbs.Lead = refl
plain_verb verbs.Stop = refl
plain_verb verbs.Start = refl
plain_verb verbs.Begin = refl
plain_verb verbs.Read = refl
plain_verb verbs.Send = refl
plain_verb verbs.Post = refl
plain_verb verbs.Pass = refl
plain_verb verbs.Fetch = refl
plain_verb verbs.Deliver = refl
plain_verb verbs.Take = refl
plain_verb verbs.Write = refl
plain_verb verbs.Ack = refl
plain_verb verbs.Work = refl
plain_verb verbs.Settle = refl
plain_verb verbs.View = refl
plain_verb verbs.Route = refl
plain_verb verbs.Summary = refl
