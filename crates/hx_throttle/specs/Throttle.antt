-- The candidates that the throttles allow, walked in order.
use Rattle.std.specs.Prelude.{ℕ, ◌+◌, Bool, not, ◌==◌, ◌&&◌, nat_le, List, [], ◌∷◌, Option, None, Some, if◌then◌else◌}
use Rattle.std.specs.List.{list_any}
use Rattle.std.specs.Option.{option_to_list}
use Rattle.hx_lists.specs.Lists.{count}
use Rattle.hx_lists.specs.Choices.{chosen_of, left_after, IsChoice}
use Rattle.hx_cluster.specs.declared.description.Rule.{Rule}
use Rattle.hx_cluster.specs.declared.planning.View.{View}
use Rattle.hx_cluster.specs.declared.planning.Candidate.{Candidate}
use Rattle.hx_cluster.specs.declared.planning.Held.{Held}
use Rattle.hx_cluster.specs.declared.planning.Throttled.{Throttled}
use Rattle.hx_cluster.specs.Ends.{matches, key_of, load_over}

-- the key under which a rule counts a candidate
abbrev pub key_for : View → Rule → Candidate → ℕ
key_for view r c = key_of r.scope view.live c.session c.part

-- a rule's load under a key, with those sent before
abbrev pub counts_too : View → Rule → ℕ → Candidate → Bool
counts_too view r key c = matches r c.from c.to && (key_for view r c == key)

abbrev pub loading : View → List Candidate → Rule → ℕ → ℕ
loading view sent r key = load_over view.live view.mail r key + count (counts_too view r key) sent

-- whether a rule holds a candidate back
abbrev pub holds_back : View → List Candidate → Candidate → Rule → Bool
holds_back view sent c r = matches r c.from c.to && nat_le r.limit (loading view sent r (key_for view r c))

abbrev pub is_sent : List Rule → View → List Candidate → Candidate → Bool
is_sent rules view sent c = not (list_any (holds_back view sent c) rules)

-- the candidates that are sent: those that no rule holds back
abbrev pub sent_of : List Rule → View → List Candidate → List Candidate
sent_of rules view accepted = chosen_of (is_sent rules view) accepted

-- marks of the candidates, where the marked ones are sent
abbrev pub IsSending : List Rule → View → List Candidate → List Bool → Type 0
IsSending rules view accepted marks = IsChoice (is_sent rules view) accepted marks

-- the first rule that holds a candidate back, by its place from a place on
abbrev pub held_by : List Rule → ℕ → View → List Candidate → Candidate → Option Held
held_by [] n view sent c = None
held_by (r ∷ rules) n view sent c =
    if holds_back view sent c r
    then Some (record { candidate = c; rule = n; load = loading view sent r (key_for view r c); limit = r.limit })
    else held_by rules (n + 1) view sent c

-- those that are held
abbrev pub held_of : List Rule → View → List Candidate → List Held
held_of rules view accepted = left_after (is_sent rules view) (λ sent c. option_to_list (held_by rules 0 view sent c)) [] accepted

abbrev pub throttled : List Rule → View → List Candidate → Throttled
throttled rules view accepted = record { sent = sent_of rules view accepted; held = held_of rules view accepted }
