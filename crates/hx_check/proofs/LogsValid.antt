-- A log that is read leaves its description valid.
use Rattle.std.proofs.Common.{◌≡◌, ℕ, ◌≤◌, Bool, true, false, List, [], ◌∷◌, ◌++◌, length, length-append, Some, Result, Ok, Err, if◌then◌else◌, refl, sym, ap, ◌∙◌, subst, arith}
use Rattle.std.specs.List.{list_any, list_all, before_first}
use Rattle.std.specs.Str.{bytes_eq}
use Rattle.hx_ids.specs.Names.{interned}
use Rattle.hx_text.specs.Spellings.{is_name}
use Rattle.hx_cluster.specs.declared.description.Spec.{Spec}
use Rattle.hx_cluster.specs.Valid.{are_distinct, IsValid}
use Rattle.hx_script.specs.declared.faults.ScriptKind.{ScriptKind}
use Rattle.hx_script.specs.declared.faults.ScriptKind.TheVariants as kinds
use Rattle.hx_script.specs.declared.log.LogEntry.{LogEntry}
use Rattle.hx_script.specs.declared.log.LogEntry.TheVariants as logs
use Rattle.hx_script.specs.declared.log.LogVerb.{LogVerb}
use Rattle.hx_script.specs.declared.log.LogVerb.TheVariants as verbs
use Rattle.hx_script.specs.Grammar.{map_ok, then_ok, one_word, three_words, five_words, all_words, instance_word, pair_word, instance_alone, controller_alone, controller_word}
use Rattle.hx_script.specs.Logs.{exact_words, short_number, long_number, session_word, message_id_word, epoch_word, outcome_word, is_hash, name_before, resource_named, part_named, one_and_more, instance_and_session, controller_and_epoch, controller_and_pass, pass_and_session, epoch_and_pass, session_and_message, unless_dash, add_entry, ended_words, move_words, alone, told_by, log_verb_of, told_words, entry_of, entry_told, second_word, with_added, Block, told_entries, blocks_from, log_of}
use Rattle.hx_script.proofs.WordsAgain.{map_ok_from, then_ok_from}
use Rattle.hx_script.proofs.LineParts.{five_from}
use Rattle.hx_safe.proofs.Counting.{and-first, and-second, and-both, all-append}
use Rattle.hx_safe.proofs.Naming.{distinct_interned, valid_with}

-- a name more, unless it is there, leaves them names
named_interned : (names : List (List ℕ)) (w : List ℕ) → list_all is_name names ≡ true → is_name w ≡ true → (list_all is_name (interned names w) ≡ true) × (length names ≤ length (interned names w))
named_interned names w named is = one (list_any (bytes_eq w) names)
  where
    one : (b : Bool) → (list_all is_name (if b then names else names ++ w ∷ []) ≡ true) × (length names ≤ length (if b then names else names ++ w ∷ []))
    one true = (named, omega arith)
    one false = (
      all-append is_name names (w ∷ []) ∙ and-both (list_all is_name names) (list_all is_name (w ∷ [])) named (and-both (is_name w) true is refl),
      omega (arith, length-append names (w ∷ [])),
    )

-- with one more name a description stays valid
valid_named : (spec : Spec) (w : List ℕ) → IsValid spec → is_name w ≡ true → IsValid (record spec { resource_names = interned spec.resource_names w })
valid_named spec w valid is =
    let named = and-first (list_all is_name spec.resource_names) (are_distinct bytes_eq spec.resource_names) valid.resource_names in
    let distinct = and-second (list_all is_name spec.resource_names) (are_distinct bytes_eq spec.resource_names) valid.resource_names in
    let names = named_interned spec.resource_names w named is in
    valid_with spec (interned spec.resource_names w) valid
    (and-both (list_all is_name (interned spec.resource_names w)) (are_distinct bytes_eq (interned spec.resource_names w)) names.0 (distinct_interned spec.resource_names w distinct)) names.1

-- only the words behind `add` tell an added resource
abbrev pub is_added : LogEntry → Bool
is_added (logs.Add name r model replicas parts mode) = true
is_added _ = false

alone_from : (ls : List (List ℕ)) (r : Result LogEntry ScriptKind) (e : LogEntry) → alone ls r ≡ Ok e → r ≡ Ok e
alone_from [] r e is = is
alone_from (l ∷ ls) r e is = cc

made : {A : Type 0} (f : A → LogEntry) → ((x : A) → is_added (f x) ≡ false) → (r : Result A ScriptKind) (e : LogEntry) → map_ok f r ≡ Ok e → is_added e ≡ false
made f other r e is = let from = map_ok_from f r e is in ap is_added (sym from.2) ∙ other from.0

behind : {A : Type 0} (r : Result A ScriptKind) (f : A → Result LogEntry ScriptKind) (e : LogEntry) → then_ok r f ≡ Ok e → ((x : A) → f x ≡ Ok e → is_added e ≡ false) → is_added e ≡ false
behind r f e is other = let from = then_ok_from r f e is in other from.0 from.2

abbrev pub is_add_verb : LogVerb → Bool
is_add_verb verbs.Add = true
is_add_verb _ = false

pub others_add_nothing : (spec : Spec) (verb : LogVerb) (ws ls : List (List ℕ)) (e : LogEntry) → is_add_verb verb ≡ false → told_by spec verb ws ls ≡ Ok e → is_added e ≡ false
others_add_nothing spec verbs.Line ws ls e other is = behind (one_word ws) _ e (alone_from ls _ e is) (λ w is. made logs.Line (λ x. refl) (short_number w) e is)
others_add_nothing spec verbs.Join ws ls e other is = made (λ (t : _). logs.Join t.0 t.1) (λ x. refl) (instance_and_session spec ws) e (alone_from ls _ e is)
others_add_nothing spec verbs.End ws ls e other is = made (λ (t : _). logs.End t.0 t.1) (λ x. refl) (instance_and_session spec ws) e (alone_from ls _ e is)
others_add_nothing spec verbs.Beat ws ls e other is = made (λ (t : _). logs.Beat t.0 t.1) (λ x. refl) (instance_and_session spec ws) e (alone_from ls _ e is)
others_add_nothing spec verbs.Tick ws ls e other is =
    behind (one_word ws) _ e is (λ w is. behind (long_number w) _ e is (λ n is. made (logs.Tick n) (λ x. refl) (all_words (λ l. ended_words spec (exact_words l)) ls) e is))
others_add_nothing spec verbs.Drain ws ls e other is = made logs.Drain (λ x. refl) (instance_alone spec ws) e (alone_from ls _ e is)
others_add_nothing spec verbs.Undrain ws ls e other is = made logs.Undrain (λ x. refl) (instance_alone spec ws) e (alone_from ls _ e is)
others_add_nothing spec verbs.Add ws ls e other is = cc
others_add_nothing spec verbs.Drop ws ls e other is = behind (one_word ws) _ e (alone_from ls _ e is) (λ w is. made (λ (r : _). logs.Drop r.0 r.1) (λ x. refl) (resource_named spec w) e is)
others_add_nothing spec verbs.List ws ls e other is =
    behind (one_and_more ws) _ e (alone_from ls _ e is) (λ t is. behind (part_named spec t.0) _ e is (λ p is. made (logs.List p) (λ x. refl) (all_words (instance_word spec) t.1) e is))
others_add_nothing spec verbs.Map ws ls e other is =
    behind (one_and_more ws) _ e (alone_from ls _ e is) (λ t is. behind (part_named spec t.0) _ e is (λ p is. made (logs.Map p) (λ x. refl) (all_words (pair_word spec) t.1) e is))
others_add_nothing spec verbs.Reset ws ls e other is =
    behind (three_words ws) _ e (alone_from ls _ e is)
    (λ t is. behind (instance_word spec t.0) _ e is (λ i is. behind (session_word t.1) _ e is (λ s is. made (logs.Reset i s) (λ x. refl) (part_named spec t.2) e is)))
others_add_nothing spec verbs.Lead ws ls e other is = made (λ (t : _). logs.Lead t.0 t.1) (λ x. refl) (controller_and_epoch spec ws) e (alone_from ls _ e is)
others_add_nothing spec verbs.Stop ws ls e other is = made logs.Stop (λ x. refl) (controller_alone spec ws) e (alone_from ls _ e is)
others_add_nothing spec verbs.Start ws ls e other is = made logs.Start (λ x. refl) (controller_alone spec ws) e (alone_from ls _ e is)
others_add_nothing spec verbs.Begin ws ls e other is = made (λ (t : _). logs.Begin t.0 t.1 t.2) (λ x. refl) (epoch_and_pass spec ws) e (alone_from ls _ e is)
others_add_nothing spec verbs.Live ws ls e other is = made (λ (t : _). logs.Live t.0 t.1) (λ x. refl) (controller_and_pass spec ws) e (alone_from ls _ e is)
others_add_nothing spec verbs.Mail ws ls e other is = made (λ (t : _). logs.Mail t.0 t.1 t.2) (λ x. refl) (pass_and_session spec ws) e (alone_from ls _ e is)
others_add_nothing spec verbs.States ws ls e other is = made (λ (t : _). logs.States t.0 t.1 t.2) (λ x. refl) (pass_and_session spec ws) e (alone_from ls _ e is)
others_add_nothing spec verbs.Ideals ws ls e other is = made (λ (t : _). logs.Ideals t.0 t.1) (λ x. refl) (controller_and_pass spec ws) e (alone_from ls _ e is)
others_add_nothing spec verbs.Send ws ls e other is =
    behind (epoch_and_pass spec ws) _ e is (λ t is. made (logs.Dispatch t.0 t.1 t.2) (λ x. refl) (all_words (λ l. move_words spec (exact_words l)) ls) e is)
others_add_nothing spec verbs.Post ws ls e other is =
    behind (three_words ws) _ e (alone_from ls _ e is)
    (λ t is. behind (controller_word spec t.0) _ e is (λ k is. behind (epoch_word t.1) _ e is (λ epoch is. made (logs.Post k epoch) (λ x. refl) (short_number t.2) e is)))
others_add_nothing spec verbs.Fetch ws ls e other is =
    behind (three_words ws) _ e (alone_from ls _ e is)
    (λ t is. behind (instance_word spec t.0) _ e is (λ i is. behind (unless_dash session_word t.1) _ e is (λ s is. made (logs.Fetch i s) (λ x. refl) (short_number t.2) e is)))
others_add_nothing spec verbs.Take ws ls e other is = made (λ (t : _). logs.Take t.0 t.1) (λ x. refl) (session_and_message ws) e (alone_from ls _ e is)
others_add_nothing spec verbs.Write ws ls e other is =
    behind (three_words ws) _ e (alone_from ls _ e is)
    (λ t is. behind (session_word t.0) _ e is (λ s is. behind (message_id_word t.1) _ e is (λ m is. made (logs.Write s m) (λ x. refl) (outcome_word t.2) e is)))
others_add_nothing spec verbs.Ack ws ls e other is = made (λ (t : _). logs.Ack t.0 t.1) (λ x. refl) (session_and_message ws) e (alone_from ls _ e is)

-- the name of an added resource is spelt as names are
name_is : (w : List ℕ) (name : List ℕ) → name_before w ≡ Ok name → is_name (before_first is_hash w) ≡ true
name_is w name e = one (is_name (before_first is_hash w)) refl e
  where
    one : (b : Bool) → is_name (before_first is_hash w) ≡ b → (if b then Ok (before_first is_hash w) else Err kinds.BadName) ≡ Ok name → b ≡ true
    one true is e = refl
    one false is e = cc

added_named : (spec : Spec) (w : List ℕ) (ws : List (List ℕ)) (e : LogEntry) → add_entry spec ws ≡ Ok e → is_name (before_first is_hash (second_word (w ∷ ws))) ≡ true
added_named spec w ws e is =
    let t = then_ok_from (five_words ws) _ e is in
    let name = then_ok_from (name_before t.0.0) _ e t.2 in
    ap (λ l. is_name (before_first is_hash (second_word (w ∷ l)))) (five_from ws t.0 t.1) ∙ name_is t.0.0 name.0 name.1

pub adds_nothing : (spec : Spec) (words : List (List ℕ)) (e : LogEntry) → is_added e ≡ false → with_added spec words (Some e) ≡ spec
adds_nothing spec words (logs.Add name r model replicas parts mode) other = cc
adds_nothing spec words _ other = refl

added_valid : (spec : Spec) (words : List (List ℕ)) (e : LogEntry) → IsValid spec → is_name (before_first is_hash (second_word words)) ≡ true → IsValid (with_added spec words (Some e))
added_valid spec words (logs.Add name r model replicas parts mode) valid is = valid_named spec (before_first is_hash (second_word words)) valid is
added_valid spec words _ valid is = valid

verb_valid : (spec : Spec) (w : List ℕ) (ws ls : List (List ℕ)) (verb : LogVerb) (e : LogEntry) → IsValid spec → told_by spec verb ws ls ≡ Ok e → IsValid (with_added spec (w ∷ ws) (Some e))
verb_valid spec w ws ls verbs.Add e valid is = added_valid spec (w ∷ ws) e valid (added_named spec w ws e (alone_from ls _ e is))
verb_valid spec w ws ls verb e valid is = subst IsValid (sym (adds_nothing spec (w ∷ ws) e (others_add_nothing spec verb ws ls e refl is))) valid

words_valid : (spec : Spec) (words ls : List (List ℕ)) → IsValid spec → IsValid (with_added spec words (entry_of (told_words spec words ls)))
words_valid spec [] ls valid = valid
words_valid spec (w ∷ ws) ls valid = one (log_verb_of w)
  where
    told : (verb : LogVerb) (r : Result LogEntry ScriptKind) → told_by spec verb ws ls ≡ r → IsValid (with_added spec (w ∷ ws) (entry_of r))
    told verb (Ok e) is = verb_valid spec w ws ls verb e valid is
    told verb (Err kind) is = valid

    one : (r : Result LogVerb ScriptKind) → IsValid (with_added spec (w ∷ ws) (entry_of (then_ok r (λ verb. told_by spec verb ws ls))))
    one (Ok verb) = told verb (told_by spec verb ws ls) refl
    one (Err kind) = valid

entries_valid : (spec : Spec) (bs : List Block) → IsValid spec → IsValid (told_entries spec bs).1
entries_valid spec [] valid = valid
entries_valid spec (b ∷ bs) valid = entries_valid (with_added spec (exact_words b.line) (entry_told spec b.line b.indented)) bs (words_valid spec (exact_words b.line) b.indented valid)

pub log_valid : (spec : Spec) (lines : List (List ℕ)) → IsValid spec → IsValid (log_of spec lines).1
log_valid spec lines valid = entries_valid spec (blocks_from 1 lines).entries valid
