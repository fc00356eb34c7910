-- How a walk from the first session on finds those that have expired.
use Rattle.std.proofs.Common.{◌≡◌, ℕ, ◌+◌, ◌-◌, ◌≤◌, ◌<◌, Bool, true, false, List, [], ◌∷◌, ◌++◌, drop, Option, Some, None, refl, sym, ap, ◌∙◌, subst, arith}
use Rattle.std.specs.Prelude.{if◌then◌else◌}
use Rattle.std.proofs.lemmas.List.{append-nil, append_assoc, drop-map}
use Rattle.std.proofs.lemmas.Bool.Decides.{nat_tests}
use Rattle.hx_ids.specs.declared.SessionId.{SessionId}
use Rattle.hx_ids.specs.declared.Live.{Live}
use Rattle.hx_ids.specs.Expiry.{is_expired, expired}
use Rattle.hx_links.specs.declared.Node.{Node}
use Rattle.hx_links.specs.Pool.{is_at, is_in, value_in, next_in, first_node}
use Rattle.hx_ids.specs.Sessions.{beats_rise, is_session, is_live}
use Rattle.hx_sessions.specs.Sessions.{first_live, live_after}
use Rattle.hx_sessions.specs.Places.{live_of, node_of, HavePassed}
use Rattle.hx_sessions.proofs.Placing.{Entries, node_of-in}
use Rattle.hx_sessions.proofs.Living.{none_later, rise-drop}
use Rattle.hx_links.proofs.Walking.{NodesOnce, nodes_rest, other_node, ComesTo, comes_to, first_held, no_first}

module _ (es : Entries) (now timeout passed : ℕ) (at : Option Node) (ended : List SessionId) (n : Node) (once : NodesOnce es) (have : HavePassed es now timeout passed at ended) (is : at ≡ Some n) where
  pub here : ComesTo es passed n
  here = comes_to es passed n once (sym have.at_next ∙ is)

  pub one_passed : (l : Live) → value_in n es ≡ Some l → timeout ≤ now - l.beat → HavePassed es now timeout (passed + 1) (next_in n es) (ended ++ l.session ∷ [])
  one_passed l found old =
      let same : here.entry.1 ≡ l = let v = here.value in cc in
      let has : is_expired now timeout l ≡ true = grind (arith, nat_tests) in
      let more : l.session ∷ expired (live_of here.rest) now timeout ≡ expired (l ∷ live_of here.rest) now timeout = rw has refl in
      record {
        at_next = here.next ∙ ap first_node (sym here.after);
        so_far =
            append_assoc ended (l.session ∷ []) (expired (live_of (drop (passed + 1) es)) now timeout)
            ∙ ap (λ (ys : Entries). ended ++ l.session ∷ expired (live_of ys) now timeout) here.after
            ∙ ap (λ (ss : List SessionId). ended ++ ss) more
            ∙ ap (λ (k : Live). ended ++ expired (k ∷ live_of here.rest) now timeout) (sym same)
            ∙ ap (λ (ys : Entries). ended ++ expired (live_of ys) now timeout) (sym here.is)
            ∙ have.so_far;
      }

  pub all_passed : (l : Live) → beats_rise (live_of es) ≡ true → value_in n es ≡ Some l → now - l.beat < timeout → ended ≡ expired (live_of es) now timeout
  all_passed l rise found young =
      let same : here.entry.1 ≡ l = let v = here.value in cc in
      let fresh : is_expired now timeout here.entry.1 ≡ false = rw same (grind (arith, nat_tests)) in
      let rest : beats_rise (live_of (drop passed es)) ≡ true =
      ap beats_rise (sym (drop-map (λ (e : Node × Live). e.1) passed es)) ∙ rise-drop passed (live_of es) rise in
      let none = none_later here.entry.1 (live_of here.rest) now timeout (subst (λ (ys : Entries). beats_rise (live_of ys) ≡ true) here.is rest) fresh in
      sym (append-nil ended) ∙ ap (λ (ss : List SessionId). ended ++ ss) (sym none)
      ∙ ap (λ (ys : Entries). ended ++ expired (live_of ys) now timeout) (sym here.is) ∙ have.so_far

pub at_end : (es : Entries) (now timeout passed : ℕ) (at : Option Node) (ended : List SessionId) → HavePassed es now timeout passed at ended → at ≡ None → ended ≡ expired (live_of es) now timeout
at_end es now timeout passed at ended have is =
    let none : drop passed es ≡ [] = no_first (drop passed es) (sym have.at_next ∙ is) in
    sym (append-nil ended) ∙ ap (λ (ys : Entries). ended ++ expired (live_of ys) now timeout) (sym none) ∙ have.so_far

-- the first session is the value at the first node
pub first_none : (es : Entries) → first_node es ≡ None → first_live (live_of es) ≡ None
first_none [] e = refl
first_none (x ∷ es) e = absurd (cc)

pub first_value : (es : Entries) (n : Node) (l : Live) → first_node es ≡ Some n → value_in n es ≡ Some l → first_live (live_of es) ≡ Some l
first_value [] n l e found = absurd (cc)
first_value (x ∷ es) n l e found =
    let same : x.0 ≡ n = cc in
    let here : is_at n x ≡ true = grind (arith, nat_tests) in
    let value : Some x.1 ≡ Some l = rw here at found in
    value

-- the session after a session is the value at the node after its node
pub next_held : (es : Entries) (n m : Node) → next_in n es ≡ Some m → is_in m es ≡ true
next_held [] n m e = absurd (cc)
next_held (x ∷ es) n m e = by_test (is_at n x) refl e (next_held es n m)
  where
    by_test : (b : Bool) → is_at n x ≡ b → (if b then first_node es else next_in n es) ≡ Some m → (next_in n es ≡ Some m → is_in m es ≡ true) → is_in m (x ∷ es) ≡ true
    by_test true at e rest = let there = first_held es m e in grind arith
    by_test false at e rest = let there = rest e in grind arith

pub after_absent : (s : SessionId) (live : List Live) → is_live live s ≡ false → live_after s live ≡ None
after_absent s [] e = refl
after_absent s (l ∷ live) e = grind (arith, after_absent s live)

pub after_none : (s : SessionId) (n : Node) (es : Entries) → NodesOnce es → node_of s.0 es ≡ Some n → next_in n es ≡ None → live_after s (live_of es) ≡ None
after_none s n [] once node e = refl
after_none s n (x ∷ es) once node e = by_test (is_session s x.1) refl node (after_none s n es (nodes_rest x es once))
  where
    by_test : (b : Bool) → is_session s x.1 ≡ b → (if b then Some x.0 else node_of s.0 es) ≡ Some n → (node_of s.0 es ≡ Some n → next_in n es ≡ None → live_after s (live_of es) ≡ None)
        → (if b then first_live (live_of es) else live_after s (live_of es)) ≡ None
    by_test true at node rest =
        let same : x.0 ≡ n = cc in
        let here : is_at n x ≡ true = grind (arith, nat_tests) in
        first_none es (rw here at e)
    by_test false at node rest = rest node (rw (other_node x es n once (node_of-in s.0 n es node)) at e)

pub after_value : (s : SessionId) (n m : Node) (l : Live) (es : Entries) → NodesOnce es → node_of s.0 es ≡ Some n → next_in n es ≡ Some m → value_in m es ≡ Some l → live_after s (live_of es) ≡ Some l
after_value s n m l [] once node e found = absurd (cc)
after_value s n m l (x ∷ es) once node e found = by_test (is_session s x.1) refl node (after_value s n m l es (nodes_rest x es once))
  where
    by_test : (b : Bool) → is_session s x.1 ≡ b → (if b then Some x.0 else node_of s.0 es) ≡ Some n → (node_of s.0 es ≡ Some n → next_in n es ≡ Some m → value_in m es ≡ Some l → live_after s (live_of es) ≡ Some l)
        → (if b then first_live (live_of es) else live_after s (live_of es)) ≡ Some l
    by_test true at node rest =
        let same : x.0 ≡ n = cc in
        let here : is_at n x ≡ true = grind (arith, nat_tests) in
        let first : first_node es ≡ Some m = rw here at e in
        let other : is_at m x ≡ false = other_node x es m once (first_held es m first) in
        first_value es m l first (rw other at found)
    by_test false at node rest =
        let there : is_at n x ≡ false = other_node x es n once (node_of-in s.0 n es node) in
        let next : next_in n es ≡ Some m = rw there at e in
        let other : is_at m x ≡ false = other_node x es m once (next_held es n m next) in
        rest node next (rw other at found)
