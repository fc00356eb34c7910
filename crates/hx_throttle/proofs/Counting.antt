-- How the loads of rules grow.
use Rattle.std.proofs.Common.{◌≡◌, ℕ, ◌+◌, ◌≤◌, Bool, true, false, List, [], ◌∷◌, ◌++◌, length, refl, sym, ap, ◌∙◌, arith, ⊎_elim}
use Rattle.std.specs.Prelude.{◌==◌, ◌&&◌, nat_lt, slice_get, Some, if◌then◌else◌}
use Rattle.std.proofs.lemmas.Bool.Decides.{nat_tests}
use Rattle.std.proofs.lemmas.Bool.{cases_eq, ne_eqb}
use Rattle.std.proofs.lemmas.Option.{slice_get_within}
use Rattle.hx_lists.specs.Lists.{count}
use Rattle.hx_ids.specs.declared.InstanceId.{InstanceId}
use Rattle.hx_ids.specs.declared.SessionId.{SessionId}
use Rattle.hx_counts.specs.Tally.{is_load}
use Rattle.hx_cluster.specs.declared.description.Rule.{Rule}
use Rattle.hx_cluster.specs.declared.description.Scope.{Scope}
use Rattle.hx_cluster.specs.declared.description.Scope.TheVariants as scopes
use Rattle.hx_cluster.specs.declared.happenings.Proposal.{Proposal}
use Rattle.hx_cluster.specs.declared.state.Message.{Message}
use Rattle.hx_cluster.specs.Ends.{matches, key_of, is_counted, is_shown, load_over}
use Rattle.hx_throttle.specs.declared.shown.Keyed.{Keyed}
use Rattle.hx_throttle.specs.Loads.{keyed_of, key_in, counts_under}

-- the key under which a scope counts a transition is found once its session is looked up
pub key_found : (s : Scope) (live : List (SessionId × InstanceId)) (q : Proposal) → key_in s (keyed_of live q) ≡ key_of s live q.session q.part
key_found scopes.Cluster live q = refl
key_found scopes.Instance live q = refl
key_found scopes.Resource live q = refl

pub counted_found : (live : List (SessionId × InstanceId)) (r : Rule) (key : ℕ) (q : Proposal)
    → counts_under r key (keyed_of live q) ≡ (matches r q.from q.to && (key_of r.scope live q.session q.part == key))
counted_found live r key q = ap (λ (k : ℕ). matches r q.from q.to && (k == key)) (key_found r.scope live q)

-- the part of a transition's counting that the rules before a place have done
abbrev pub counted_before : Keyed → ℕ → ℕ → Rule → ℕ → ℕ
counted_before q place n r key = if nat_lt n place && counts_under r key q then 1 else 0

-- a rule that matches counts it under its key
pub counted_more : (rules : List Rule) (q : Keyed) (place m : ℕ) (rule : Rule) (k n : ℕ) (r : Rule) (key old mid new : ℕ)
    → m ≡ place → slice_get rules place ≡ Some rule → slice_get rules n ≡ Some r
    → matches rule q.from q.to ≡ true → k ≡ key_in rule.scope q
    → mid ≡ old + counted_before q place n r key
    → new ≡ mid + (if is_load n key (m, k) then 1 else 0)
    → new ≡ old + counted_before q (place + 1) n r key
counted_more rules q place m rule k n r key old mid new m_is here at matched is before more = ⊎_elim same apart (cases_eq n place)
  where
    same : n ≡ place → new ≡ old + counted_before q (place + 1) n r key
    same e =
        let one : Some rule ≡ Some r = sym here ∙ ap (slice_get rules) (sym e) ∙ at in
        let rule_is : rule ≡ r = cc in
        let k_is : k ≡ key_in r.scope q = is ∙ ap (λ (x : Rule). key_in x.scope q) rule_is in
        let counted : matches r q.from q.to ≡ true = ap (λ (x : Rule). matches x q.from q.to) (sym rule_is) ∙ matched in
        grind (arith, nat_tests, before, more, k_is, counted, e)

    apart : (n ≡ place → ⊥) → new ≡ old + counted_before q (place + 1) n r key
    apart ne = let off = ne_eqb n place ne in grind (arith, nat_tests, before, more, m_is, off)

-- one that doesn't match counts nothing
pub counted_same : (rules : List Rule) (q : Keyed) (place : ℕ) (rule : Rule) (n : ℕ) (r : Rule) (key old mid : ℕ)
    → slice_get rules place ≡ Some rule → slice_get rules n ≡ Some r
    → matches rule q.from q.to ≡ false
    → mid ≡ old + counted_before q place n r key
    → mid ≡ old + counted_before q (place + 1) n r key
counted_same rules q place rule n r key old mid here at unmatched before = ⊎_elim same apart (cases_eq n place)
  where
    same : n ≡ place → mid ≡ old + counted_before q (place + 1) n r key
    same e =
        let one : Some rule ≡ Some r = sym here ∙ ap (slice_get rules) (sym e) ∙ at in
        let rule_is : rule ≡ r = cc in
        let counted : matches r q.from q.to ≡ false = ap (λ (x : Rule). matches x q.from q.to) (sym rule_is) ∙ unmatched in
        grind (arith, nat_tests, before, counted, e)

    apart : (n ≡ place → ⊥) → mid ≡ old + counted_before q (place + 1) n r key
    apart ne = let off = ne_eqb n place ne in grind (arith, nat_tests, before, off)

-- in the end all rules have
pub counted_all : (rules : List Rule) (q : Keyed) (place n : ℕ) (r : Rule) (key old new : ℕ)
    → length rules ≤ place → slice_get rules n ≡ Some r
    → new ≡ old + counted_before q place n r key → new ≡ old + (if counts_under r key q then 1 else 0)
counted_all rules q place n r key old new all at is = let within = slice_get_within rules n r at in grind (arith, nat_tests, is, within, all)

-- one item more in a count
pub count-push : {X : Type 0} (p : X → Bool) (xs : List X) (x : X) → count p (xs ++ x ∷ []) ≡ count p xs + (if p x then 1 else 0)
count-push p [] x = grind arith
count-push p (y ∷ xs) x = grind (arith, count-push p xs x)

-- one message more: of a session that is shown it is counted, of another it isn't
pub load-push : (live : List (SessionId × InstanceId)) (mail : List Message) (m : Message) (r : Rule) (key : ℕ)
    → load_over live (mail ++ m ∷ []) r key ≡ load_over live mail r key + (if is_counted live r key m then 1 else 0)
load-push live mail m r key = count-push (is_counted live r key) mail m

-- what a rule's load is after a message more, whether its session is shown or not
pub message_loaded : (live : List (SessionId × InstanceId)) (m : Message) (r : Rule) (key : ℕ) (counts : Bool) (before all old new : ℕ)
    → all ≡ before + (if is_counted live r key m then 1 else 0) → old ≡ before → is_shown live m.session ≡ true
    → new ≡ old + (if counts then 1 else 0) → counts ≡ (matches r m.from m.to && (key_of r.scope live m.session m.part == key)) → new ≡ all
message_loaded live m r key counts before all old new more is shown gives are = grind (arith, nat_tests, more, is, shown, gives, are)

pub message_passed : (live : List (SessionId × InstanceId)) (m : Message) (r : Rule) (key before all old : ℕ)
    → all ≡ before + (if is_counted live r key m then 1 else 0) → old ≡ before → is_shown live m.session ≡ false → old ≡ all
message_passed live m r key before all old more is unshown = grind (arith, nat_tests, more, is, unshown)
