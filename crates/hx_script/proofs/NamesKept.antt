-- The names that `add` lines bring are spelt as names are.
use Rattle.std.proofs.Common.{◌≡◌, ℕ, ◌+◌, Bool, true, false, List, [], ◌∷◌, ◌++◌, Option, Some, None, Result, Ok, Err, if◌then◌else◌, refl, sym, ap, ◌∙◌, subst}
use Rattle.std.proofs.lemmas.Bool.{and_parts, and_from}
use Rattle.std.proofs.lemmas.List.Folds.{list_all-append}
use Rattle.std.specs.List.{list_all, list_any}
use Rattle.std.specs.Str.{bytes_eq}
use Rattle.hx_ids.specs.Names.{interned, place_after}
use Rattle.hx_ids.specs.declared.InstanceId.{InstanceId}
use Rattle.hx_ids.specs.declared.MsgId.{MsgId}
use Rattle.hx_text.specs.Spellings.{is_name}
use Rattle.hx_text.specs.Lines.{words_of}
use Rattle.hx_cluster.specs.declared.description.Spec.{Spec}
use Rattle.hx_script.specs.declared.What.{What}
use Rattle.hx_script.specs.declared.What.TheVariants as asks
use Rattle.hx_script.specs.declared.Line.{Line}
use Rattle.hx_script.specs.declared.verbs.Verb.{Verb}
use Rattle.hx_script.specs.declared.verbs.Verb.TheVariants as verbs
use Rattle.hx_script.specs.declared.faults.ScriptKind.{ScriptKind}
use Rattle.hx_script.specs.declared.faults.ScriptKind.TheVariants as kinds
use Rattle.hx_script.specs.Grammar.{map_ok, one_word, two_words, three_words, two_and_more, instance_word, controller_word, part_words, name_word, add_line, what_of, is_add, asked_by, spec_with, spec_after, script_from}
use Rattle.hx_script.specs.LineTexts.{has_names}
use Rattle.hx_script.proofs.WordsAgain.{map_ok_from, then_ok_from}
use Rattle.hx_script.proofs.Later.{add_is_add}
use Rattle.hx_script.proofs.LinesAgain.{verb_line, begun, after_is}

-- a line that adds nothing
kept_by : {A : Type 0} (spec : Spec) (first : List ℕ) (ws : List (List ℕ)) (ask : A → What) (r : Result A ScriptKind) (what : What) → has_names spec ≡ true → ((x : A) → is_add (Some (ask x)) ≡ false) → map_ok ask r ≡ Ok what
    → has_names (spec_with spec (first ∷ ws) (Ok (Some what))) ≡ true
kept_by spec first ws ask r what named other e =
    let x = map_ok_from ask r what e in
    let none : is_add (Some what) ≡ false = ap (λ w. is_add (Some w)) (sym x.2) ∙ other x.0 in
    rw none named

-- a line that adds a name
interned_named : (names : List (List ℕ)) (w : List ℕ) → list_all is_name names ≡ true → is_name w ≡ true → list_all is_name (interned names w) ≡ true
interned_named names w named name = one (list_any (bytes_eq w) names)
  where
    one : (b : Bool) → list_all is_name (if b then names else names ++ w ∷ []) ≡ true
    one true = named
    one false = list_all-append is_name names (w ∷ []) ∙ and_from _ _ named (and_from _ _ name refl)

name_is : (spec : Spec) (w : List ℕ) (n : ℕ) → name_word spec w ≡ Ok n → is_name w ≡ true
name_is spec w n e = one (is_name w) refl e
  where
    one : (b : Bool) → is_name w ≡ b → (if b then Ok (place_after spec.resource_names w) else Err kinds.BadName) ≡ Ok n → is_name w ≡ true
    one true is e = is
    one false is e = cc

with_named : (spec : Spec) (w : List ℕ) → has_names spec ≡ true → is_name w ≡ true → has_names (record spec { resource_names = interned spec.resource_names w }) ≡ true
with_named spec w named name =
    let instances = and_parts (list_all is_name spec.instances) _ named in
    let states = and_parts (list_all is_name spec.states) _ instances.1 in
    let resources = and_parts (list_all is_name spec.resource_names) (list_all is_name spec.model_names) states.1 in
    and_from _ _ instances.0 (and_from _ _ states.0 (and_from _ _ (interned_named spec.resource_names w resources.0 name) resources.1))

kept_add : (spec : Spec) (first : List ℕ) (ws : List (List ℕ)) (what : What) → has_names spec ≡ true → add_line spec ws ≡ Ok what → has_names (spec_with spec (first ∷ ws) (Ok (Some what))) ≡ true
kept_add spec first [] what named e = cc
kept_add spec first (x ∷ []) what named e = cc
kept_add spec first (x ∷ y ∷ []) what named e = cc
kept_add spec first (x ∷ y ∷ z ∷ []) what named e = cc
kept_add spec first (x ∷ y ∷ z ∷ u ∷ []) what named e = cc
kept_add spec first (x ∷ y ∷ z ∷ u ∷ v ∷ []) what named e =
    let name = then_ok_from (name_word spec x) _ what e in
    rw (add_is_add spec (x ∷ y ∷ z ∷ u ∷ v ∷ []) what e) (with_named spec x named (name_is spec x name.0 name.1))
kept_add spec first (x ∷ y ∷ z ∷ u ∷ v ∷ w ∷ ws) what named e = cc

kept_verb : (spec : Spec) (verb : Verb) (first : List ℕ) (ws : List (List ℕ)) (what : What) → has_names spec ≡ true → what_of spec verb ws ≡ Ok what → has_names (spec_with spec (first ∷ ws) (Ok (Some what))) ≡ true
kept_verb spec verbs.Join first ws what named e = kept_by spec first ws asks.Join _ what named (λ x. refl) e
kept_verb spec verbs.Beat first ws what named e = kept_by spec first ws asks.Beat _ what named (λ x. refl) e
kept_verb spec verbs.Drain first ws what named e = kept_by spec first ws asks.Drain _ what named (λ x. refl) e
kept_verb spec verbs.Undrain first ws what named e = kept_by spec first ws asks.Undrain _ what named (λ x. refl) e
kept_verb spec verbs.Tick first ws what named e = kept_by spec first ws asks.Tick _ what named (λ x. refl) (then_ok_from (one_word ws) _ what e).2
kept_verb spec verbs.Expire first ws what named e = kept_by spec first ws asks.Expire _ what named (λ x. refl) e
kept_verb spec verbs.Die first ws what named e = kept_by spec first ws asks.Die _ what named (λ x. refl) e
kept_verb spec verbs.Add first ws what named e = kept_add spec first ws what named e
kept_verb spec verbs.Drop first ws what named e = kept_by spec first ws asks.Drop _ what named (λ x. refl) (then_ok_from (one_word ws) _ what e).2
kept_verb spec verbs.List first ws what named e =
    let t = then_ok_from (two_and_more ws) _ what e in
    let p = then_ok_from (part_words spec t.0.0 t.0.1) _ what t.2 in
    kept_by spec first ws (asks.List p.0.0 p.0.1) _ what named (λ x. refl) p.2
kept_verb spec verbs.Map first ws what named e =
    let t = then_ok_from (two_and_more ws) _ what e in
    let p = then_ok_from (part_words spec t.0.0 t.0.1) _ what t.2 in
    kept_by spec first ws (asks.Map p.0.0 p.0.1) _ what named (λ x. refl) p.2
kept_verb spec verbs.Reset first ws what named e =
    let t = then_ok_from (three_words ws) _ what e in
    let i = then_ok_from (instance_word spec t.0.0) _ what t.2 in
    kept_by spec first ws (λ (p : ℕ × ℕ). asks.Reset i.0 p.0 p.1) _ what named (λ x. refl) i.2
kept_verb spec verbs.Lead first ws what named e = kept_by spec first ws asks.Lead _ what named (λ x. refl) e
kept_verb spec verbs.Stop first ws what named e = kept_by spec first ws asks.Stop _ what named (λ x. refl) e
kept_verb spec verbs.Start first ws what named e = kept_by spec first ws asks.Start _ what named (λ x. refl) e
kept_verb spec verbs.Begin first ws what named e = kept_by spec first ws asks.Begin _ what named (λ x. refl) e
kept_verb spec verbs.Read first ws what named e =
    let t = then_ok_from (two_words ws) _ what e in
    let k = then_ok_from (controller_word spec t.0.0) _ what t.2 in
    kept_by spec first ws (asks.Read k.0) _ what named (λ x. refl) k.2
kept_verb spec verbs.Send first ws what named e = kept_by spec first ws asks.Send _ what named (λ x. refl) e
kept_verb spec verbs.Post first ws what named e = kept_by spec first ws asks.Post _ what named (λ x. refl) e
kept_verb spec verbs.Pass first ws what named e = kept_by spec first ws asks.Pass _ what named (λ x. refl) e
kept_verb spec verbs.Fetch first ws what named e = kept_by spec first ws asks.Fetch _ what named (λ x. refl) e
kept_verb spec verbs.Deliver first ws what named e = kept_by spec first ws (λ (p : InstanceId × MsgId). asks.Deliver p.0 p.1) _ what named (λ x. refl) e
kept_verb spec verbs.Take first ws what named e = kept_by spec first ws (λ (p : InstanceId × MsgId). asks.Take p.0 p.1) _ what named (λ x. refl) e
kept_verb spec verbs.Write first ws what named e = kept_by spec first ws (λ (p : InstanceId × MsgId). asks.Write p.0 p.1) _ what named (λ x. refl) e
kept_verb spec verbs.Ack first ws what named e = kept_by spec first ws (λ (p : InstanceId × MsgId). asks.Ack p.0 p.1) _ what named (λ x. refl) e
kept_verb spec verbs.Work first ws what named e = kept_by spec first ws asks.Work _ what named (λ x. refl) e
kept_verb spec verbs.Settle first ws what named e = kept_by spec first ws (λ (u : Unit {0}). asks.Settle) _ what named (λ x. refl) e
kept_verb spec verbs.View first ws what named e = kept_by spec first ws (λ (u : Unit {0}). asks.View) _ what named (λ x. refl) e
kept_verb spec verbs.Route first ws what named e =
    let t = then_ok_from (three_words ws) _ what e in
    let p = then_ok_from (part_words spec t.0.0 t.0.1) _ what t.2 in
    kept_by spec first ws (asks.Route p.0.0 p.0.1) _ what named (λ x. refl) p.2
kept_verb spec verbs.Summary first ws what named e = kept_by spec first ws (λ (u : Unit {0}). asks.Summary) _ what named (λ x. refl) e

-- a line, and a script
kept_line : (spec : Spec) (line : List ℕ) (what : Option What) → has_names spec ≡ true → asked_by spec line ≡ Ok what → has_names (spec_after spec line) ≡ true
kept_line spec line None named e = ap has_names (after_is spec line None e) ∙ named
kept_line spec line (Some what) named e =
    let v = verb_line spec (words_of line) what e in
    ap has_names (after_is spec line (Some what) e ∙ ap (λ ws. spec_with spec ws (Ok (Some what))) v.are) ∙ kept_verb spec v.verb v.first v.rest what named v.asks

pub names_kept : (lines : List (List ℕ)) (n : ℕ) (spec : Spec) (script : List Line) (after : Spec) → script_from n lines spec ≡ Ok (script, after) → has_names spec ≡ true → has_names after ≡ true
names_kept [] n spec script after e named =
    let same : ([], spec) ≡ (script, after) = cc in
    subst (λ s. has_names s ≡ true) (ap (λ (r : List Line × Spec). r.1) same) named
names_kept (line ∷ lines) n spec script after e named =
    let b = begun n line lines spec script after e in
    names_kept lines (n + 1) (spec_after spec line) b.rest after b.more (kept_line spec line b.what named b.asks)
