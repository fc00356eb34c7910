-- The walk over the accepted candidates.
use Rattle.std.proofs.Common.{◌≡◌, ℕ, ◌+◌, ◌<◌, Bool, true, false, List, [], ◌∷◌, ◌++◌, length, drop, get_or, append_assoc, refl, sym, ap, ◌∙◌, arith}
use Rattle.std.specs.Prelude.{◌==◌, slice_get, Option, None, Some, Result, Ok, Err, IfOk, is_some, option_map, not, if◌then◌else◌}
use Rattle.std.specs.List.{fold}
use Rattle.std.specs.Option.{option_to_list}
use Rattle.std.proofs.lemmas.Bool.{false≢true}
use Rattle.std.proofs.lemmas.Bool.Decides.{nat_tests}
use Rattle.std.proofs.lemmas.List.{at_drop_more, append-nil}
use Rattle.hx_lists.specs.Choices.{with_chosen, left_after}
use Rattle.hx_ids.specs.declared.InstanceId.{InstanceId}
use Rattle.hx_ids.specs.declared.SessionId.{SessionId}
use Rattle.hx_throttle.specs.Table.{Table, load_at}
use Rattle.hx_cluster.specs.declared.description.Rule.{Rule}
use Rattle.hx_cluster.specs.declared.description.Scope.TheVariants as scopes
use Rattle.hx_cluster.specs.declared.happenings.Proposal.{Proposal}
use Rattle.hx_cluster.specs.declared.state.Message.{Message}
use Rattle.hx_cluster.specs.declared.planning.View.{View}
use Rattle.hx_cluster.specs.declared.planning.Candidate.{Candidate}
use Rattle.hx_cluster.specs.declared.planning.Held.{Held}
use Rattle.hx_cluster.specs.Ends.{matches, load_over}
use Rattle.hx_throttle.specs.declared.shown.Keyed.{Keyed}
use Rattle.hx_throttle.specs.Throttle.{key_for, counts_too, loading, holds_back, is_sent, held_by, sent_of, held_of}
use Rattle.hx_throttle.specs.Loads.{AreLoads, keyed_of, key_in, counts_under, transition_of}
use Rattle.hx_throttle.proofs.Counting.{count-push, key_found, counted_found}

-- what the table says is a rule's load under a candidate's key
pub load_found : (rules : List Rule) (view : View) (sent : List Candidate) (table : Table) (k : Keyed) (c : Candidate) (place m key load : ℕ) (rule : Rule)
    → k ≡ keyed_of view.live (transition_of c) → AreLoads rules (loading view sent) table → slice_get rules place ≡ Some rule
    → m ≡ place → key ≡ key_in rule.scope k → load ≡ load_at table m key → load ≡ loading view sent rule (key_for view rule c)
load_found rules view sent table k c place m key load rule k_is loads here m_is key_is is =
    let at : slice_get rules m ≡ Some rule = ap (slice_get rules) m_is ∙ here in
    let for : key ≡ key_for view rule c = key_is ∙ ap (key_in rule.scope) k_is ∙ key_found rule.scope view.live (transition_of c) in
    is ∙ loads m rule key at ∙ ap (loading view sent rule) for

-- what is found of a candidate's transition
pub keyed_is : (view : View) (live : List (SessionId × InstanceId)) (q : Proposal) (c : Candidate) (k : Keyed)
    → live ≡ view.live → q ≡ transition_of c → k ≡ keyed_of live q → k ≡ keyed_of view.live (transition_of c)
keyed_is view live q c k shown is_its is = is ∙ ap (λ (l : List (SessionId × InstanceId)). keyed_of l q) shown ∙ ap (keyed_of view.live) is_its

pub matches_found : (view : View) (k : Keyed) (c : Candidate) (rule : Rule) (b : Bool)
    → k ≡ keyed_of view.live (transition_of c) → b ≡ matches rule k.from k.to → matches rule c.from c.to ≡ b
matches_found view k c rule b k_is is = sym (is ∙ ap (λ (x : Keyed). matches rule x.from x.to) k_is)

-- a rule that doesn't hold the candidate back is passed, and the first that does answers
pub rule_passed : (rules : List Rule) (view : View) (sent : List Candidate) (c : Candidate) (place : ℕ) (d : Rule) → place < length rules
    → holds_back view sent c (get_or rules place d) ≡ false
    → held_by (drop (place + 1) rules) (place + 1) view sent c ≡ held_by (drop place rules) place view sent c
rule_passed rules view sent c place d lt passes = sym (at_drop_more (λ rs. held_by rs place view sent c) rules place d lt ∙ rw passes refl)

pub rule_holds : (rules : List Rule) (view : View) (sent : List Candidate) (c : Candidate) (place : ℕ) (d : Rule) → place < length rules
    → holds_back view sent c (get_or rules place d) ≡ true
    → Some (record { candidate = c; rule = place; load = loading view sent (get_or rules place d) (key_for view (get_or rules place d) c); limit = (get_or rules place d).limit }) ≡ held_by (drop place rules) place view sent c
rule_holds rules view sent c place d lt holds = sym (at_drop_more (λ rs. held_by rs place view sent c) rules place d lt ∙ rw holds refl)

-- a candidate is sent where no rule answers
pub sent_where_free : (rules : List Rule) (n : ℕ) (view : View) (sent : List Candidate) (c : Candidate) → held_by rules n view sent c ≡ None → is_sent rules view sent c ≡ true
sent_where_free [] n view sent c none = refl
sent_where_free (r ∷ rules) n view sent c none = one (holds_back view sent c r) refl none (sent_where_free rules (n + 1) view sent c)
  where
    one : (b : Bool) → holds_back view sent c r ≡ b
        → (if b then Some (record { candidate = c; rule = n; load = loading view sent r (key_for view r c); limit = r.limit }) else held_by rules (n + 1) view sent c) ≡ None
        → (held_by rules (n + 1) view sent c ≡ None → is_sent rules view sent c ≡ true)
        → is_sent (r ∷ rules) view sent c ≡ true
    one true e h rest = cc
    one false e h rest = grind (arith, e, rest h)

pub held_where_not : (rules : List Rule) (n : ℕ) (view : View) (sent : List Candidate) (c : Candidate) (h : Held) → held_by rules n view sent c ≡ Some h → is_sent rules view sent c ≡ false
held_where_not [] n view sent c h some = cc
held_where_not (r ∷ rules) n view sent c h some = one (holds_back view sent c r) refl some (held_where_not rules (n + 1) view sent c h)
  where
    one : (b : Bool) → holds_back view sent c r ≡ b
        → (if b then Some (record { candidate = c; rule = n; load = loading view sent r (key_for view r c); limit = r.limit }) else held_by rules (n + 1) view sent c) ≡ Some h
        → (held_by rules (n + 1) view sent c ≡ Some h → is_sent rules view sent c ≡ false)
        → is_sent (r ∷ rules) view sent c ≡ false
    one true e i rest = grind (arith, e)
    one false e i rest = grind (arith, e, rest i)

pub sent_where_none : (rules : List Rule) (view : View) (sent : List Candidate) (c : Candidate) (b : Bool) → is_some (held_by rules 0 view sent c) ≡ not b → is_sent rules view sent c ≡ b
sent_where_none rules view sent c b is = one (held_by rules 0 view sent c) refl b is
  where
    one : (o : Option Held) → held_by rules 0 view sent c ≡ o → (b : Bool) → is_some o ≡ not b → is_sent rules view sent c ≡ b
    one None e true h = sent_where_free rules 0 view sent c e
    one None e false h = cc
    one (Some x) e true h = cc
    one (Some x) e false h = held_where_not rules 0 view sent c x e

-- a candidate is held back by a rule that is found
pub found_some : {X Y : Type 0} (f : X → Y) (o : Option X) → is_some (option_map f o) ≡ is_some o
found_some f None = refl
found_some f (Some x) = refl

-- what is said of a candidate that is held back
abbrev pub said : List Rule → View → List Candidate → Candidate → List Held
said rules view sent c = option_to_list (held_by rules 0 view sent c)

-- so many of the accepted are sent or not
pub record IsSifted (rules : List Rule) (view : View) (accepted : List Candidate) (i : ℕ) (sent : List Candidate) (table : Table) : Type 0 where
  pub sending : fold (with_chosen (is_sent rules view)) sent (drop i accepted) ≡ sent_of rules view accepted
  pub loaded : AreLoads rules (loading view sent) table

-- and those that are held are listed
pub record IsWalked (rules : List Rule) (view : View) (accepted : List Candidate) (i : ℕ) (sent : List Candidate) (held : List Held) (table : Table) : Type 0 where
  pub sifted : IsSifted rules view accepted i sent table
  pub holding : held ++ left_after (is_sent rules view) (said rules view) sent (drop i accepted) ≡ held_of rules view accepted

-- at first the loads are those of the messages that are shown
pub loads_first : (rules : List Rule) (view : View) (live : List (SessionId × InstanceId)) (mail : List Message) (table : Table)
    → live ≡ view.live → mail ≡ view.mail → AreLoads rules (load_over live mail) table → AreLoads rules (loading view []) table
loads_first rules view live mail table live_is mail_is loads = λ n r key at.
    let over : load_over live mail r key ≡ load_over view.live view.mail r key =
    ap (λ (l : List (SessionId × InstanceId)). load_over l mail r key) live_is ∙ ap (λ (m : List Message). load_over view.live m r key) mail_is in
    loads n r key at ∙ over ∙ omega arith

-- a candidate that no rule holds back is sent, and then it is counted
pub chosen_sent : (rules : List Rule) (view : View) (sent : List Candidate) (c : Candidate) → is_sent rules view sent c ≡ true
    → sent ++ c ∷ [] ≡ with_chosen (is_sent rules view) sent c
chosen_sent rules view sent c is = ap (λ (b : Bool). sent ++ (if b then c ∷ [] else [])) (sym is)

pub loads_sent : (rules : List Rule) (view : View) (sent : List Candidate) (old new : Table) (c : Candidate) (k : Keyed)
    → k ≡ keyed_of view.live (transition_of c)
    → ((n : ℕ) (r : Rule) (key : ℕ) → slice_get rules n ≡ Some r → load_at new n key ≡ load_at old n key + (if counts_under r key k then 1 else 0))
    → AreLoads rules (loading view sent) old → AreLoads rules (loading view (sent ++ c ∷ [])) new
loads_sent rules view sent old new c k is_its more loads = λ n r key at.
    more n r key at
    ∙ ap (λ (m : ℕ). m + (if counts_under r key k then 1 else 0)) (loads n r key at)
    ∙ ap (λ (x : Keyed). loading view sent r key + (if counts_under r key x then 1 else 0)) is_its
    ∙ ap (λ (b : Bool). loading view sent r key + (if b then 1 else 0)) (counted_found view.live r key (transition_of c))
    ∙ omega (arith, count-push (counts_too view r key) sent c)

-- one that a rule holds back isn't
pub chosen_held : (rules : List Rule) (view : View) (sent : List Candidate) (c : Candidate) → is_sent rules view sent c ≡ false
    → sent ≡ with_chosen (is_sent rules view) sent c
chosen_held rules view sent c is = sym (ap (λ (b : Bool). sent ++ (if b then c ∷ [] else [])) is ∙ append-nil sent)

-- one candidate more is judged
pub sifted_next : (rules : List Rule) (view : View) (accepted : List Candidate) (i : ℕ) (sent new_sent : List Candidate) (table new_table : Table) (d : Candidate)
    → i < length accepted → new_sent ≡ with_chosen (is_sent rules view) sent (get_or accepted i d) → AreLoads rules (loading view new_sent) new_table
    → IsSifted rules view accepted i sent table → IsSifted rules view accepted (i + 1) new_sent new_table
sifted_next rules view accepted i sent new_sent table new_table d lt sent_is loads w =
    let rest = drop (i + 1) accepted in
    record {
      sending =
          ap (λ (xs : List Candidate). fold (with_chosen (is_sent rules view)) xs rest) sent_is
          ∙ sym (at_drop_more (fold (with_chosen (is_sent rules view)) sent) accepted i d lt)
          ∙ w.sending;
      loaded = loads;
    }

-- of a candidate that is sent nothing is said
said_left : (rules : List Rule) (view : View) (sent : List Candidate) (c : Candidate)
    → (if is_sent rules view sent c then [] else said rules view sent c) ≡ said rules view sent c
said_left rules view sent c = one (held_by rules 0 view sent c) refl
  where
    one : (o : Option Held) → held_by rules 0 view sent c ≡ o → (if is_sent rules view sent c then [] else said rules view sent c) ≡ said rules view sent c
    one None e =
        ap (λ (b : Bool). if b then [] else said rules view sent c) (sent_where_free rules 0 view sent c e)
        ∙ sym (ap option_to_list e)
    one (Some h) e = ap (λ (b : Bool). if b then [] else said rules view sent c) (held_where_not rules 0 view sent c h e)

-- and listed where a rule holds it back
pub walked_next : (rules : List Rule) (view : View) (accepted : List Candidate) (i : ℕ) (sent new_sent : List Candidate) (held new_held : List Held) (table new_table : Table) (d : Candidate)
    → i < length accepted → new_sent ≡ with_chosen (is_sent rules view) sent (get_or accepted i d) → new_held ≡ held ++ said rules view sent (get_or accepted i d)
    → AreLoads rules (loading view new_sent) new_table
    → IsWalked rules view accepted i sent held table → IsWalked rules view accepted (i + 1) new_sent new_held new_table
walked_next rules view accepted i sent new_sent held new_held table new_table d lt sent_is held_is loads w =
    let c = get_or accepted i d in
    let rest = drop (i + 1) accepted in
    let left : List Candidate → List Candidate → List Held = left_after (is_sent rules view) (said rules view) in
    record {
      sifted = sifted_next rules view accepted i sent new_sent table new_table d lt sent_is loads w.sifted;
      holding =
          ap (λ (xs : List Held). xs ++ left new_sent rest) held_is
          ∙ append_assoc held (said rules view sent c) (left new_sent rest)
          ∙ ap (λ (xs : List Candidate). held ++ (said rules view sent c ++ left xs rest)) sent_is
          ∙ ap (λ (xs : List Held). held ++ (xs ++ left (with_chosen (is_sent rules view) sent c) rest)) (sym (said_left rules view sent c))
          ∙ sym (ap (λ (xs : List Held). held ++ xs) (at_drop_more (left sent) accepted i d lt))
          ∙ w.holding;
    }

-- where there are no rules all are sent
all_chosen : (view : View) (sent accepted : List Candidate) → fold (with_chosen (is_sent [] view)) sent accepted ≡ sent ++ accepted
all_chosen view sent [] = sym (append-nil sent)
all_chosen view sent (c ∷ accepted) = all_chosen view (sent ++ c ∷ []) accepted ∙ append_assoc sent (c ∷ []) accepted

pub all_sent : {E : Type 0} (rules : List Rule) (view : View) (accepted : List Candidate) (result : Result (List Candidate) E) → (length rules == 0) ≡ true
    → IfOk result (λ list. list ≡ accepted) → IfOk result (λ sent. sent ≡ sent_of rules view accepted)
all_sent [] view accepted (Ok sent) none is = is ∙ sym (all_chosen view [] accepted)
all_sent [] view accepted (Err e) none is = is
all_sent (r ∷ rules) view accepted result none is =
    let some : (length (r ∷ rules) == 0) ≡ false = grind (arith, nat_tests) in absurd (false≢true (sym some ∙ none))

-- what a look-up past the end of a list gives
abbrev pub no_rule : Rule
no_rule = record { scope = scopes.Cluster; transition = None; limit = 0 }
