-- The words of a line that was read, with what each of them gave.
use Rattle.std.proofs.Common.{◌≡◌, ℕ, List, [], ◌∷◌, Result, Ok, Some, sym, ap, ◌∙◌, true, ◌&&◌, refl}
use Rattle.hx_ids.specs.Names.{interned}
use Rattle.hx_ids.specs.declared.InstanceId.{InstanceId}
use Rattle.hx_ids.specs.declared.ModelId.{ModelId}
use Rattle.hx_ids.specs.declared.MsgId.{MsgId}
use Rattle.hx_cluster.specs.declared.description.Spec.{Spec}
use Rattle.hx_ids.specs.declared.ControllerId.{ControllerId}
use Rattle.hx_print.specs.Texts.{instance_name, controller_name, message_name}
use Rattle.hx_script.specs.declared.verbs.Verb.{Verb}
use Rattle.hx_script.specs.declared.verbs.Verb.TheVariants as verbs
use Rattle.hx_script.specs.declared.What.{What}
use Rattle.hx_script.specs.declared.What.TheVariants as asks
use Rattle.hx_script.specs.declared.faults.ScriptKind.{ScriptKind}
use Rattle.hx_script.specs.Grammar.{add_line, bare_line, controller_alone, drop_line, five_words, instance_alone, instance_and_message, instance_word, list_line, map_line, map_ok, message_word, mode_word, model_word, name_word, number_word, one_word, part_word, part_words, read_line, reset_line, resource_word, route_line, spec_with, then_ok, three_words, tick_line, two_and_more, two_words, verb_name, what_of}
use Rattle.hx_script.specs.LineTexts.{what_words}
use Rattle.hx_script.specs.Ranges.{has_instance, has_controller, is_message, is_in_range}
use Rattle.hx_script.proofs.WordsAgain.{map_ok_from, then_ok_from}

-- so many words
pub one_from : (ws : List (List ℕ)) (a : List ℕ) → one_word ws ≡ Ok a → ws ≡ a ∷ []
one_from [] a e = cc
one_from (x ∷ []) a e = cc
one_from (x ∷ y ∷ ws) a e = cc

pub two_from : (ws : List (List ℕ)) (t : List ℕ × List ℕ) → two_words ws ≡ Ok t → ws ≡ t.0 ∷ t.1 ∷ []
two_from [] t e = cc
two_from (x ∷ []) t e = cc
two_from (x ∷ y ∷ []) t e = let same : (x, y) ≡ t = cc in ap (λ (u : List ℕ × List ℕ). u.0 ∷ u.1 ∷ []) same
two_from (x ∷ y ∷ z ∷ ws) t e = cc

pub three_from : (ws : List (List ℕ)) (t : List ℕ × List ℕ × List ℕ) → three_words ws ≡ Ok t → ws ≡ t.0 ∷ t.1 ∷ t.2 ∷ []
three_from [] t e = cc
three_from (x ∷ []) t e = cc
three_from (x ∷ y ∷ []) t e = cc
three_from (x ∷ y ∷ z ∷ []) t e = let same : (x, y, z) ≡ t = cc in ap (λ (u : List ℕ × List ℕ × List ℕ). u.0 ∷ u.1 ∷ u.2 ∷ []) same
three_from (x ∷ y ∷ z ∷ u ∷ ws) t e = cc

pub five_from : (ws : List (List ℕ)) (t : List ℕ × List ℕ × List ℕ × List ℕ × List ℕ) → five_words ws ≡ Ok t → ws ≡ t.0 ∷ t.1 ∷ t.2 ∷ t.3 ∷ t.4 ∷ []
five_from [] t e = cc
five_from (x ∷ []) t e = cc
five_from (x ∷ y ∷ []) t e = cc
five_from (x ∷ y ∷ z ∷ []) t e = cc
five_from (x ∷ y ∷ z ∷ u ∷ []) t e = cc
five_from (x ∷ y ∷ z ∷ u ∷ v ∷ []) t e = let same : (x, y, z, u, v) ≡ t = cc in ap (λ (u : List ℕ × List ℕ × List ℕ × List ℕ × List ℕ). u.0 ∷ u.1 ∷ u.2 ∷ u.3 ∷ u.4 ∷ []) same
five_from (x ∷ y ∷ z ∷ u ∷ v ∷ w ∷ ws) t e = cc

pub more_from : (ws : List (List ℕ)) (t : List ℕ × List ℕ × List (List ℕ)) → two_and_more ws ≡ Ok t → ws ≡ t.0 ∷ t.1 ∷ t.2
more_from [] t e = cc
more_from (x ∷ []) t e = cc
more_from (x ∷ y ∷ ws) t e = let same : (x, y, ws) ≡ t = cc in ap (λ (u : List ℕ × List ℕ × List (List ℕ)). u.0 ∷ u.1 ∷ u.2) same

-- a resource's name and a partition's number
pub record IsPart (spec : Spec) (r p : List ℕ) (part : ℕ × ℕ) : Type 0 where
  pub name : ℕ
  pub index : ℕ
  pub names : resource_word spec r ≡ Ok name
  pub numbers : part_word p ≡ Ok index
  pub both : (name, index) ≡ part

pub part_split : (spec : Spec) (r p : List ℕ) (part : ℕ × ℕ) → part_words spec r p ≡ Ok part → IsPart spec r p part
part_split spec r p part e =
    let name = then_ok_from (resource_word spec r) _ part e in
    let index = map_ok_from (λ (n : ℕ). (name.0, n)) (part_word p) part name.2 in
    record { name = name.0; index = index.0; names = name.1; numbers = index.1; both = index.2 }

-- a part, and words behind it
pub record IsPartLine {W A : Type 0} (words : List (List ℕ) → Result (List ℕ × List ℕ × W) ScriptKind) (spec : Spec) (ask : ℕ → ℕ → A → What) (word : W → Result A ScriptKind) (ws : List (List ℕ)) (what : What) : Type 0 where
  pub texts : List ℕ × List ℕ × W
  pub part : ℕ × ℕ
  pub rest : A
  pub taken : words ws ≡ Ok texts
  pub parts : part_words spec texts.0 texts.1 ≡ Ok part
  pub rests : word texts.2 ≡ Ok rest
  pub asked : ask part.0 part.1 rest ≡ what

pub part_line : {W A : Type 0} (words : List (List ℕ) → Result (List ℕ × List ℕ × W) ScriptKind) (spec : Spec) (ask : ℕ → ℕ → A → What) (word : W → Result A ScriptKind) (ws : List (List ℕ)) (what : What)
    → then_ok (words ws) (λ t. then_ok (part_words spec t.0 t.1) (λ p. map_ok (ask p.0 p.1) (word t.2))) ≡ Ok what → IsPartLine words spec ask word ws what
part_line words spec ask word ws what e =
    let t = then_ok_from (words ws) _ what e in
    let p = then_ok_from (part_words spec t.0.0 t.0.1) _ what t.2 in
    let rest = map_ok_from (ask p.0.0 p.0.1) (word t.0.2) what p.2 in
    record { texts = t.0; part = p.0; rest = rest.0; taken = t.1; parts = p.1; rests = rest.1; asked = rest.2 }

-- an instance and a message
pub record IsMessageLine (spec : Spec) (ask : InstanceId × MsgId → What) (ws : List (List ℕ)) (what : What) : Type 0 where
  pub texts : List ℕ × List ℕ
  pub instance : InstanceId
  pub message : MsgId
  pub taken : two_words ws ≡ Ok texts
  pub names : instance_word spec texts.0 ≡ Ok instance
  pub numbers : message_word texts.1 ≡ Ok message
  pub asked : ask (instance, message) ≡ what

pub message_line : (spec : Spec) (ask : InstanceId × MsgId → What) (ws : List (List ℕ)) (what : What) → map_ok ask (instance_and_message spec ws) ≡ Ok what → IsMessageLine spec ask ws what
message_line spec ask ws what e =
    let both = map_ok_from ask (instance_and_message spec ws) what e in
    let t = then_ok_from (two_words ws) _ both.0 both.1 in
    let i = then_ok_from (instance_word spec t.0.0) _ both.0 t.2 in
    let m = map_ok_from (λ (m : MsgId). (i.0, m)) (message_word t.0.1) both.0 i.2 in
    record { texts = t.0; instance = i.0; message = m.0; taken = t.1; names = i.1; numbers = m.1; asked = ap ask m.2 ∙ both.2 }

-- a new resource
pub record IsAddLine (spec : Spec) (ws : List (List ℕ)) (what : What) : Type 0 where
  pub texts : List ℕ × List ℕ × List ℕ × List ℕ × List ℕ
  pub whole : ws ≡ texts.0 ∷ texts.1 ∷ texts.2 ∷ texts.3 ∷ texts.4 ∷ []
  pub name : (n : ℕ) × (name_word spec texts.0 ≡ Ok n)
  pub model : (m : ModelId) × (model_word spec texts.1 ≡ Ok m)
  pub replicas : (n : ℕ) × (number_word 1 64 texts.2 ≡ Ok n)
  pub parts : (n : ℕ) × (number_word 1 1024 texts.3 ≡ Ok n)
  pub mode : (n : ℕ) × (mode_word texts.4 ≡ Ok n)
  pub asked : asks.Add name.0 model.0 replicas.0 parts.0 mode.0 ≡ what

pub add_split : (spec : Spec) (ws : List (List ℕ)) (what : What) → add_line spec ws ≡ Ok what → IsAddLine spec ws what
add_split spec ws what e =
    let t = then_ok_from (five_words ws) _ what e in
    let name = then_ok_from (name_word spec t.0.0) _ what t.2 in
    let model = then_ok_from (model_word spec t.0.1) _ what name.2 in
    let replicas = then_ok_from (number_word 1 64 t.0.2) _ what model.2 in
    let parts = then_ok_from (number_word 1 1024 t.0.3) _ what replicas.2 in
    let mode = map_ok_from (asks.Add name.0 model.0 replicas.0 parts.0) (mode_word t.0.4) what parts.2 in
    record { texts = t.0; whole = five_from ws t.0 t.1; name = (name.0, name.1); model = (model.0, model.1); replicas = (replicas.0, replicas.1); parts = (parts.0, parts.1); mode = (mode.0, mode.1); asked = mode.2 }

-- whose name the description has, where the line brings none
pub add_known : (spec : Spec) (first : List ℕ) (ws : List (List ℕ)) (what : What) (add : IsAddLine spec ws what) → spec_with spec (first ∷ ws) (Ok (Some what)) ≡ spec
    → interned spec.resource_names add.texts.0 ≡ spec.resource_names
add_known spec first ws what add known =
    ap (λ (s : Spec). s.resource_names)
    (ap (λ l. spec_with spec (first ∷ l) (Ok (Some (asks.Add add.name.0 add.model.0 add.replicas.0 add.parts.0 add.mode.0)))) (sym add.whole) ∙ ap (λ x. spec_with spec (first ∷ ws) (Ok (Some x))) add.asked ∙ known)

-- the forms of lines: a verb with an instance, with a controller, with an instance and a message, alone, or of its own form
pub data IsLine (spec : Spec) (verb : Verb) (ws : List (List ℕ)) (what : What) : Type 0 where
  OfInstance : (ask : InstanceId → What) → ((i : InstanceId) → what_words spec (ask i) ≡ verb_name verb ∷ instance_name spec i ∷ []) → ((i : InstanceId) → is_in_range spec (ask i) ≡ has_instance spec i)
      → map_ok ask (instance_alone spec ws) ≡ Ok what → IsLine spec verb ws what
  OfController : (ask : ControllerId → What) → ((k : ControllerId) → what_words spec (ask k) ≡ verb_name verb ∷ controller_name k ∷ []) → ((k : ControllerId) → is_in_range spec (ask k) ≡ has_controller spec k)
      → map_ok ask (controller_alone spec ws) ≡ Ok what → IsLine spec verb ws what
  OfMessage : (ask : InstanceId × MsgId → What) → ((p : InstanceId × MsgId) → what_words spec (ask p) ≡ verb_name verb ∷ instance_name spec p.0 ∷ message_name p.1 ∷ [])
      → ((p : InstanceId × MsgId) → is_in_range spec (ask p) ≡ (has_instance spec p.0 && is_message p.1)) → map_ok ask (instance_and_message spec ws) ≡ Ok what → IsLine spec verb ws what
  OfNone : (bare : What) → what_words spec bare ≡ verb_name verb ∷ [] → is_in_range spec bare ≡ true → bare_line bare ws ≡ Ok what → IsLine spec verb ws what
  OfTick : verb ≡ verbs.Tick → tick_line ws ≡ Ok what → IsLine spec verb ws what
  OfAdd : verb ≡ verbs.Add → add_line spec ws ≡ Ok what → IsLine spec verb ws what
  OfDrop : verb ≡ verbs.Drop → drop_line spec ws ≡ Ok what → IsLine spec verb ws what
  OfList : verb ≡ verbs.List → list_line spec ws ≡ Ok what → IsLine spec verb ws what
  OfMap : verb ≡ verbs.Map → map_line spec ws ≡ Ok what → IsLine spec verb ws what
  OfReset : verb ≡ verbs.Reset → reset_line spec ws ≡ Ok what → IsLine spec verb ws what
  OfRead : verb ≡ verbs.Read → read_line spec ws ≡ Ok what → IsLine spec verb ws what
  OfRoute : verb ≡ verbs.Route → route_line spec ws ≡ Ok what → IsLine spec verb ws what

pub line_form : (spec : Spec) (verb : Verb) (ws : List (List ℕ)) (what : What) → what_of spec verb ws ≡ Ok what → IsLine spec verb ws what
line_form spec verbs.Join ws what e = OfInstance asks.Join (λ i. refl) (λ i. refl) e
line_form spec verbs.Beat ws what e = OfInstance asks.Beat (λ i. refl) (λ i. refl) e
line_form spec verbs.Drain ws what e = OfInstance asks.Drain (λ i. refl) (λ i. refl) e
line_form spec verbs.Undrain ws what e = OfInstance asks.Undrain (λ i. refl) (λ i. refl) e
line_form spec verbs.Expire ws what e = OfInstance asks.Expire (λ i. refl) (λ i. refl) e
line_form spec verbs.Die ws what e = OfInstance asks.Die (λ i. refl) (λ i. refl) e
line_form spec verbs.Fetch ws what e = OfInstance asks.Fetch (λ i. refl) (λ i. refl) e
line_form spec verbs.Work ws what e = OfInstance asks.Work (λ i. refl) (λ i. refl) e
line_form spec verbs.Lead ws what e = OfController asks.Lead (λ k. refl) (λ k. refl) e
line_form spec verbs.Stop ws what e = OfController asks.Stop (λ k. refl) (λ k. refl) e
line_form spec verbs.Start ws what e = OfController asks.Start (λ k. refl) (λ k. refl) e
line_form spec verbs.Begin ws what e = OfController asks.Begin (λ k. refl) (λ k. refl) e
line_form spec verbs.Send ws what e = OfController asks.Send (λ k. refl) (λ k. refl) e
line_form spec verbs.Post ws what e = OfController asks.Post (λ k. refl) (λ k. refl) e
line_form spec verbs.Pass ws what e = OfController asks.Pass (λ k. refl) (λ k. refl) e
line_form spec verbs.Deliver ws what e = OfMessage (λ (p : InstanceId × MsgId). asks.Deliver p.0 p.1) (λ p. refl) (λ p. refl) e
line_form spec verbs.Take ws what e = OfMessage (λ (p : InstanceId × MsgId). asks.Take p.0 p.1) (λ p. refl) (λ p. refl) e
line_form spec verbs.Write ws what e = OfMessage (λ (p : InstanceId × MsgId). asks.Write p.0 p.1) (λ p. refl) (λ p. refl) e
line_form spec verbs.Ack ws what e = OfMessage (λ (p : InstanceId × MsgId). asks.Ack p.0 p.1) (λ p. refl) (λ p. refl) e
line_form spec verbs.Settle ws what e = OfNone asks.Settle refl refl e
line_form spec verbs.View ws what e = OfNone asks.View refl refl e
line_form spec verbs.Summary ws what e = OfNone asks.Summary refl refl e
line_form spec verbs.Tick ws what e = OfTick refl e
line_form spec verbs.Add ws what e = OfAdd refl e
line_form spec verbs.Drop ws what e = OfDrop refl e
line_form spec verbs.List ws what e = OfList refl e
line_form spec verbs.Map ws what e = OfMap refl e
line_form spec verbs.Reset ws what e = OfReset refl e
line_form spec verbs.Read ws what e = OfRead refl e
line_form spec verbs.Route ws what e = OfRoute refl e
