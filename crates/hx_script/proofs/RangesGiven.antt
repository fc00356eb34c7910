-- The lines that are read are in range.
use Rattle.std.proofs.Common.{◌≡◌, ℕ, ◌-◌, ◌^◌, Bool, true, false, ◌&&◌, nat_lt, nat_le, List, [], ◌∷◌, length, Option, Some, None, Result, Ok, Err, if◌then◌else◌, refl, sym, ap, ◌∙◌, arith}
use Rattle.std.proofs.lemmas.Bool.{lt-ltb, and_from}
use Rattle.std.proofs.lemmas.Bool.Decides.{nat_tests}
use Rattle.std.proofs.lemmas.List.Quantifiers.{position-Some}
use Rattle.std.specs.Prelude.{is_some}
use Rattle.std.specs.List.{list_all, AllByRecursion}
use Rattle.std.specs.Str.{bytes_eq}
use Rattle.hx_ids.specs.Names.{interned, place_of, place_after}
use Rattle.hx_ids.specs.declared.InstanceId.{InstanceId}
use Rattle.hx_ids.specs.declared.StateId.{StateId}
use Rattle.hx_ids.specs.declared.ModelId.{ModelId}
use Rattle.hx_ids.specs.declared.MsgId.{MsgId}
use Rattle.hx_ids.specs.declared.ControllerId.{ControllerId}
use Rattle.hx_ideal.specs.ModeKinds.{kind_named}
use Rattle.hx_ideal.specs.declared.kinds.ModeKind.{ModeKind}
use Rattle.hx_ideal.specs.declared.kinds.ModeKind.TheVariants as modes
use Rattle.hx_text.specs.Spellings.{is_name, number_of}
use Rattle.hx_text.specs.Lines.{words_of}
use Rattle.hx_cluster.specs.declared.description.Spec.{Spec}
use Rattle.hx_cluster.specs.Valid.{is_within}
use Rattle.hx_script.specs.declared.What.{What}
use Rattle.hx_script.specs.declared.What.TheVariants as asks
use Rattle.hx_script.specs.declared.Line.{Line}
use Rattle.hx_script.specs.declared.verbs.Verb.{Verb}
use Rattle.hx_script.specs.declared.faults.ScriptKind.{ScriptKind}
use Rattle.hx_script.specs.declared.faults.ScriptKind.TheVariants as kinds
use Rattle.hx_script.specs.Modes.{mode_number, mode_numbered}
use Rattle.hx_script.specs.Grammar.{map_ok, then_ok, one_word, two_words, three_words, two_and_more, instance_word, resource_word, model_word, state_word, name_word, in_range, number_word, part_words, numbered_by, controller_word, message_word, mode_word, read_kind_word, pair_word, all_words, instance_and_message, tick_line, add_line, drop_line, reset_line, read_line, route_line, bare_line, spec_with}
use Rattle.hx_script.specs.LineTexts.{IsAsked}
use Rattle.hx_script.specs.Ranges.{has_instance, has_state, has_entry, has_model, has_controller, has_resource_name, is_part, is_message, is_in_range, is_line_in_range}
use Rattle.hx_script.proofs.WordsAgain.{map_ok_from, then_ok_from, or_fault_from, option_map_from, pair_split}
use Rattle.hx_script.proofs.LineParts.IsLine.{OfInstance, OfController, OfMessage, OfNone, OfTick, OfAdd, OfDrop, OfList, OfMap, OfReset, OfRead, OfRoute}
use Rattle.hx_script.proofs.LineParts.{IsLine, line_form, part_split, part_line, message_line, add_split, add_known}
use Rattle.hx_script.proofs.FormsAgain.{interned_within}
use Rattle.hx_script.proofs.LinesAgain.{verb_line}

-- names that are found
place_in : (names : List (List ℕ)) (w : List ℕ) (n : ℕ) → place_of names w ≡ Some n → nat_lt n (length names) ≡ true
place_in names w n e = lt-ltb n (length names) (position-Some (bytes_eq w) names n [] e).0

instance_in : (spec : Spec) (w : List ℕ) (i : InstanceId) → instance_word spec w ≡ Ok i → has_instance spec i ≡ true
instance_in spec w i e =
    let from = option_map_from (λ (n : ℕ). let i : InstanceId = record { 0 = n } in i) (place_of spec.instances w) i (or_fault_from _ _ i e) in
    ap (has_instance spec) (sym from.2) ∙ place_in spec.instances w from.0 from.1

state_in : (spec : Spec) (w : List ℕ) (t : StateId) → state_word spec w ≡ Ok t → has_state spec t ≡ true
state_in spec w t e =
    let from = option_map_from (λ (n : ℕ). let t : StateId = record { 0 = n } in t) (place_of spec.states w) t (or_fault_from _ _ t e) in
    ap (has_state spec) (sym from.2) ∙ place_in spec.states w from.0 from.1

model_in : (spec : Spec) (w : List ℕ) (m : ModelId) → model_word spec w ≡ Ok m → has_model spec m ≡ true
model_in spec w m e =
    let from = option_map_from (λ (n : ℕ). let m : ModelId = record { 0 = n } in m) (place_of spec.model_names w) m (or_fault_from _ _ m e) in
    ap (has_model spec) (sym from.2) ∙ place_in spec.model_names w from.0 from.1

resource_in : (spec : Spec) (w : List ℕ) (n : ℕ) → resource_word spec w ≡ Ok n → has_resource_name spec n ≡ true
resource_in spec w n e = place_in spec.resource_names w n (or_fault_from _ _ n e)

-- a new name that the description has
name_in : (spec : Spec) (w : List ℕ) (n : ℕ) → interned spec.resource_names w ≡ spec.resource_names → name_word spec w ≡ Ok n → has_resource_name spec n ≡ true
name_in spec w n known e = one (is_name w) e
  where
    one : (b : Bool) → (if b then Ok (place_after spec.resource_names w) else Err kinds.BadName) ≡ Ok n → has_resource_name spec n ≡ true
    one true e =
        let at : place_after spec.resource_names w ≡ n = cc in
        ap (has_resource_name spec) (sym at) ∙ lt-ltb (place_after spec.resource_names w) (length spec.resource_names) (interned_within spec.resource_names w known)
    one false e = cc

-- numbers
within_from : (least most : ℕ) (o : Option ℕ) (n : ℕ) → in_range least most o ≡ Some n → is_within least most n ≡ true
within_from least most None n e = cc
within_from least most (Some m) n e = one (nat_le least m && nat_le m most) refl e
  where
    one : (b : Bool) → (nat_le least m && nat_le m most) ≡ b → (if b then Some m else None) ≡ Some n → is_within least most n ≡ true
    one true is e = let same : m ≡ n = cc in ap (is_within least most) (sym same) ∙ is
    one false is e = cc

number_in : (least most : ℕ) (w : List ℕ) (n : ℕ) → number_word least most w ≡ Ok n → is_within least most n ≡ true
number_in least most w n e = within_from least most (number_of w) n (or_fault_from _ _ n e)

before_in : (n most : ℕ) → is_within 1 most n ≡ true → nat_lt (n - 1) most ≡ true
before_in n most e = grind (arith, nat_tests, e)

controller_in : (spec : Spec) (w : List ℕ) (k : ControllerId) → controller_word spec w ≡ Ok k → has_controller spec k ≡ true
controller_in spec w k e =
    let from = option_map_from (λ (n : ℕ). let k : ControllerId = record { 0 = n - 1 } in k) (in_range 1 spec.controllers (numbered_by 99 w)) k (or_fault_from _ _ k e) in
    ap (has_controller spec) (sym from.2) ∙ before_in from.0 spec.controllers (within_from 1 spec.controllers (numbered_by 99 w) from.0 from.1)

message_in : (w : List ℕ) (m : MsgId) → message_word w ≡ Ok m → is_message m ≡ true
message_in w m e =
    let from = option_map_from (λ (n : ℕ). let m : MsgId = record { 0 = n } in m) (in_range 1 (2 ^ 64 - 1) (numbered_by 109 w)) m (or_fault_from _ _ m e) in
    ap is_message (sym from.2) ∙ within_from 1 (2 ^ 64 - 1) (numbered_by 109 w) from.0 from.1

kind_in : (kind : ModeKind) → is_some (mode_numbered (mode_number kind)) ≡ true
kind_in modes.FullAuto = refl
kind_in modes.SemiAuto = refl
kind_in modes.Customized = refl

mode_in : (w : List ℕ) (mode : ℕ) → mode_word w ≡ Ok mode → is_some (mode_numbered mode) ≡ true
mode_in w mode e =
    let from = option_map_from mode_number (kind_named w) mode (or_fault_from _ _ mode e) in
    ap (λ n. is_some (mode_numbered n)) (sym from.2) ∙ kind_in from.0

-- entries of lists and maps
entry_in : (spec : Spec) (w : List ℕ) (p : InstanceId × StateId) → pair_word spec w ≡ Ok p → has_entry spec p ≡ true
entry_in spec w p e =
    let parts = pair_split spec w p e in
    ap (has_entry spec) (sym parts.both) ∙ and_from _ _ (instance_in spec _ parts.instance parts.names) (state_in spec _ parts.state parts.has)

all_in : {A : Type 0} (word : List ℕ → Result A ScriptKind) (test : A → Bool) → ((w : List ℕ) (x : A) → word w ≡ Ok x → test x ≡ true)
    → (ws : List (List ℕ)) (xs : List A) → all_words word ws ≡ Ok xs → list_all test xs ≡ true
all_in word test each [] xs e = let none : [] ≡ xs = cc in ap (list_all test) (sym none)
all_in word test each (w ∷ ws) xs e =
    let x = then_ok_from (word w) _ xs e in
    let more = map_ok_from (λ ys. x.0 ∷ ys) (all_words word ws) xs x.2 in
    ap (list_all test) (sym more.2) ∙ and_from _ _ (each w x.0 x.1) (all_in word test each ws more.0 more.1)

part_in : (spec : Spec) (r p : List ℕ) (part : ℕ × ℕ) → part_words spec r p ≡ Ok part → is_part spec part.0 part.1 ≡ true
part_in spec r p part e =
    let split = part_split spec r p part e in
    ap (λ (both : ℕ × ℕ). is_part spec both.0 both.1) (sym split.both) ∙ and_from _ _ (resource_in spec r split.name split.names) (number_in 0 (2 ^ 32 - 1) p split.index split.numbers)

-- a verb with one word; with an instance and a message; alone
of_one : {A : Type 0} (spec : Spec) (word : List ℕ → Result A ScriptKind) (test : A → Bool) → ((w : List ℕ) (x : A) → word w ≡ Ok x → test x ≡ true) → (ask : A → What) → ((x : A) → is_in_range spec (ask x) ≡ test x)
    → (ws : List (List ℕ)) (what : What) → map_ok ask (then_ok (one_word ws) word) ≡ Ok what → is_in_range spec what ≡ true
of_one spec word test each ask form ws what e =
    let x = map_ok_from ask (then_ok (one_word ws) word) what e in
    let w = then_ok_from (one_word ws) word x.0 x.1 in
    ap (is_in_range spec) (sym x.2) ∙ form x.0 ∙ each w.0 x.0 w.2

of_message : (spec : Spec) (ask : InstanceId × MsgId → What) (ws : List (List ℕ)) (what : What)
    → ((p : InstanceId × MsgId) → is_in_range spec (ask p) ≡ (has_instance spec p.0 && is_message p.1)) → map_ok ask (instance_and_message spec ws) ≡ Ok what → is_in_range spec what ≡ true
of_message spec ask ws what form e =
    let line = message_line spec ask ws what e in
    ap (is_in_range spec) (sym line.asked) ∙ form (line.instance, line.message)
    ∙ and_from _ _ (instance_in spec line.texts.0 line.instance line.names) (message_in line.texts.1 line.message line.numbers)

of_none : (spec : Spec) (bare : What) (ws : List (List ℕ)) (what : What) → is_in_range spec bare ≡ true → bare_line bare ws ≡ Ok what → is_in_range spec what ≡ true
of_none spec bare [] what form e = let same : bare ≡ what = cc in ap (is_in_range spec) (sym same) ∙ form
of_none spec bare (w ∷ ws) what form e = cc

-- the other forms
tick_in : (spec : Spec) (ws : List (List ℕ)) (what : What) → tick_line ws ≡ Ok what → is_in_range spec what ≡ true
tick_in spec ws what e =
    let w = then_ok_from (one_word ws) _ what e in
    let n = map_ok_from asks.Tick (number_word 0 (2 ^ 64 - 1) w.0) what w.2 in
    ap (is_in_range spec) (sym n.2) ∙ number_in 0 (2 ^ 64 - 1) w.0 n.0 n.1

drop_in : (spec : Spec) (ws : List (List ℕ)) (what : What) → drop_line spec ws ≡ Ok what → is_in_range spec what ≡ true
drop_in spec ws what e =
    let w = then_ok_from (one_word ws) _ what e in
    let n = map_ok_from asks.Drop (resource_word spec w.0) what w.2 in
    ap (is_in_range spec) (sym n.2) ∙ resource_in spec w.0 n.0 n.1

of_list : {A : Type 0} (spec : Spec) (ask : ℕ → ℕ → List A → What) (word : List ℕ → Result A ScriptKind) (test : A → Bool) (ws : List (List ℕ)) (what : What)
    → ((w : List ℕ) (x : A) → word w ≡ Ok x → test x ≡ true) → ((name index : ℕ) (xs : List A) → is_in_range spec (ask name index xs) ≡ (is_part spec name index && list_all test xs))
    → then_ok (two_and_more ws) (λ t. then_ok (part_words spec t.0 t.1) (λ p. map_ok (ask p.0 p.1) (all_words word t.2))) ≡ Ok what → is_in_range spec what ≡ true
of_list spec ask word test ws what each form e =
    let line = part_line two_and_more spec ask (all_words word) ws what e in
    ap (is_in_range spec) (sym line.asked) ∙ form line.part.0 line.part.1 line.rest
    ∙ and_from _ _ (part_in spec line.texts.0 line.texts.1 line.part line.parts) (all_in word test each line.texts.2 line.rest line.rests)

reset_in : (spec : Spec) (ws : List (List ℕ)) (what : What) → reset_line spec ws ≡ Ok what → is_in_range spec what ≡ true
reset_in spec ws what e =
    let t = then_ok_from (three_words ws) _ what e in
    let i = then_ok_from (instance_word spec t.0.0) _ what t.2 in
    let p = map_ok_from (λ (p : ℕ × ℕ). asks.Reset i.0 p.0 p.1) (part_words spec t.0.1 t.0.2) what i.2 in
    ap (is_in_range spec) (sym p.2) ∙ and_from _ _ (instance_in spec t.0.0 i.0 i.1) (part_in spec t.0.1 t.0.2 p.0 p.1)

read_in : (spec : Spec) (ws : List (List ℕ)) (what : What) → read_line spec ws ≡ Ok what → is_in_range spec what ≡ true
read_in spec ws what e =
    let t = then_ok_from (two_words ws) _ what e in
    let k = then_ok_from (controller_word spec t.0.0) _ what t.2 in
    let kind = map_ok_from (asks.Read k.0) (read_kind_word t.0.1) what k.2 in
    ap (is_in_range spec) (sym kind.2) ∙ controller_in spec t.0.0 k.0 k.1

route_in : (spec : Spec) (ws : List (List ℕ)) (what : What) → route_line spec ws ≡ Ok what → is_in_range spec what ≡ true
route_in spec ws what e =
    let line = part_line three_words spec asks.Route (state_word spec) ws what e in
    ap (is_in_range spec) (sym line.asked) ∙ and_from _ _ (part_in spec line.texts.0 line.texts.1 line.part line.parts) (state_in spec line.texts.2 line.rest line.rests)

add_in : (spec : Spec) (first : List ℕ) (ws : List (List ℕ)) (what : What) → spec_with spec (first ∷ ws) (Ok (Some what)) ≡ spec → add_line spec ws ≡ Ok what → is_in_range spec what ≡ true
add_in spec first ws what known e =
    let add = add_split spec ws what e in
    let t = add.texts in
    ap (is_in_range spec) (sym add.asked)
    ∙ and_from _ _ (name_in spec t.0 add.name.0 (add_known spec first ws what add known) add.name.1) (and_from _ _ (model_in spec t.1 add.model.0 add.model.1) (and_from _ _ (number_in 1 64 t.2 add.replicas.0 add.replicas.1)
    (and_from _ _ (number_in 1 1024 t.3 add.parts.0 add.parts.1) (mode_in t.4 add.mode.0 add.mode.1))))

-- each form
form_in : (spec : Spec) (verb : Verb) (first : List ℕ) (ws : List (List ℕ)) (what : What) → spec_with spec (first ∷ ws) (Ok (Some what)) ≡ spec → IsLine spec verb ws what → is_in_range spec what ≡ true
form_in spec verb first ws what known (OfInstance ask words range e) = of_one spec (instance_word spec) (has_instance spec) (instance_in spec) ask range ws what e
form_in spec verb first ws what known (OfController ask words range e) = of_one spec (controller_word spec) (has_controller spec) (controller_in spec) ask range ws what e
form_in spec verb first ws what known (OfMessage ask words range e) = of_message spec ask ws what range e
form_in spec verb first ws what known (OfNone bare words range e) = of_none spec bare ws what range e
form_in spec verb first ws what known (OfTick is e) = tick_in spec ws what e
form_in spec verb first ws what known (OfAdd is e) = add_in spec first ws what known e
form_in spec verb first ws what known (OfDrop is e) = drop_in spec ws what e
form_in spec verb first ws what known (OfList is e) = of_list spec asks.List (instance_word spec) (has_instance spec) ws what (instance_in spec) (λ name index list. refl) e
form_in spec verb first ws what known (OfMap is e) = of_list spec asks.Map (pair_word spec) (has_entry spec) ws what (entry_in spec) (λ name index entries. refl) e
form_in spec verb first ws what known (OfReset is e) = reset_in spec ws what e
form_in spec verb first ws what known (OfRead is e) = read_in spec ws what e
form_in spec verb first ws what known (OfRoute is e) = route_in spec ws what e

-- what some line asks for that brings no new name
pub asked_in_range : (spec : Spec) (what : What) → IsAsked spec what → is_in_range spec what ≡ true
asked_in_range spec what asked =
    let line = verb_line spec (words_of asked.text) what asked.asks in
    let known = ap (spec_with spec (words_of asked.text)) (sym asked.asks) ∙ asked.known in
    form_in spec line.verb line.first line.rest what (ap (λ ws. spec_with spec ws (Ok (Some what))) (sym line.are) ∙ known) (line_form spec line.verb line.rest what line.asks)

pub all_asked_in_range : (spec : Spec) (script : List Line) → AllByRecursion (λ line. IsAsked spec line.what) script → list_all (is_line_in_range spec) script ≡ true
all_asked_in_range spec [] all = refl
all_asked_in_range spec (line ∷ script) all = and_from _ _ (asked_in_range spec line.what all.0) (all_asked_in_range spec script all.1)
