-- How a session more, a session less and a beat change the sessions and their nodes.
use Rattle.std.proofs.Common.{◌≡◌, ℕ, ◌≤◌, ◌==◌, ◌||◌, Bool, true, false, List, [], ◌∷◌, ◌++◌, map, Some, None, refl, sym, ap, ◌∙◌, subst, arith}
use Rattle.std.specs.Prelude.{if◌then◌else◌}
use Rattle.std.specs.List.{list_any}
use Rattle.std.proofs.lemmas.Bool.Decides.{nat_tests}
use Rattle.hx_lists.specs.Lists.{count}
use Rattle.hx_ids.specs.declared.SessionId.{SessionId}
use Rattle.hx_ids.specs.declared.Live.{Live}
use Rattle.hx_links.specs.declared.Node.{Node}
use Rattle.hx_links.specs.Pool.{is_at, is_in, value_in, replaced, moved_back}
use Rattle.hx_links.specs.Pool as links
use Rattle.std.proofs.lemmas.List.{map-append}
use Rattle.hx_links.proofs.Reading.{only_entry}
use Rattle.hx_ids.specs.Sessions.{is_session, is_live, session_at, without}
use Rattle.hx_sessions.specs.Places.{live_of, node_of}
use Rattle.hx_links.proofs.Walking.{NodesOnce, nodes_rest, other_node}

abbrev pub Entries : Type 0
Entries = List (Node × Live)

-- distinct sessions
abbrev pub SessionsOnce : List Live → Type 0
SessionsOnce live = (s : SessionId) → count (is_session s) live ≤ 1

pub count-none : {X : Type 0} (p : X → Bool) (xs : List X) → count p xs ≡ 0 → list_any p xs ≡ false
count-none p [] e = refl
count-none p (x ∷ xs) e = grind (arith, count-none p xs)

pub sessions_rest : (l : Live) (live : List Live) → SessionsOnce (l ∷ live) → SessionsOnce live
sessions_rest l live once s = let o = once s in grind arith

node_alone : (e : Node × Live) (es : Entries) → NodesOnce (e ∷ es) → is_in e.0 es ≡ false
node_alone e es once = count-none (is_at e.0) es (let o = once e.0 in grind (arith, nat_tests))

pub session_alone : (l : Live) (live : List Live) → SessionsOnce (l ∷ live) → is_live live l.session ≡ false
session_alone l live once = count-none (is_session l.session) live (let o = once l.session in grind (arith, nat_tests))

-- the node of a session is one of its entries
pub node_of-in : (s : ℕ) (n : Node) (es : Entries) → node_of s es ≡ Some n → is_in n es ≡ true
node_of-in s n [] e = absurd (cc)
node_of-in s n (x ∷ es) e = by_test (x.1.session.0 == s) refl e (node_of-in s n es)
  where
    by_test : (b : Bool) → (x.1.session.0 == s) ≡ b → (if b then Some x.0 else node_of s es) ≡ Some n → (node_of s es ≡ Some n → is_in n es ≡ true) → is_in n (x ∷ es) ≡ true
    by_test true at e rest = let is : x.0 ≡ n = cc in let here : is_at n x ≡ true = grind (arith, nat_tests) in rw here refl
    by_test false at e rest = let there = rest e in grind arith

-- where no session has the number, none is live
pub node_of-none : (s : SessionId) (es : Entries) → node_of s.0 es ≡ None → is_live (live_of es) s ≡ false
node_of-none s [] e = refl
node_of-none s (x ∷ es) e = by_test (is_session s x.1) refl e (node_of-none s es)
  where
    by_test : (b : Bool) → is_session s x.1 ≡ b → (if b then Some x.0 else node_of s.0 es) ≡ None → (node_of s.0 es ≡ None → is_live (live_of es) s ≡ false) → (b || is_live (live_of es) s) ≡ false
    by_test true at e rest = absurd (cc)
    by_test false at e rest = rest e

pub session_at-none : (s : SessionId) (live : List Live) → is_live live s ≡ false → session_at live s ≡ None
session_at-none s [] e = refl
session_at-none s (l ∷ live) e = grind (arith, session_at-none s live)

-- the value at the node of a session is that session
pub value_at-node : (s : SessionId) (n : Node) (es : Entries) → NodesOnce es → node_of s.0 es ≡ Some n → value_in n es ≡ session_at (live_of es) s
value_at-node s n [] once e = refl
value_at-node s n (x ∷ es) once e = by_test (is_session s x.1) refl e (value_at-node s n es (nodes_rest x es once))
  where
    by_test : (b : Bool) → is_session s x.1 ≡ b → (if b then Some x.0 else node_of s.0 es) ≡ Some n → (node_of s.0 es ≡ Some n → value_in n es ≡ session_at (live_of es) s) → value_in n (x ∷ es) ≡ session_at (live_of (x ∷ es)) s
    by_test true at e rest = let is : x.0 ≡ n = cc in let here : is_at n x ≡ true = grind (arith, nat_tests) in rw (here, at) refl
    by_test false at e rest = rw (at, other_node x es n once (node_of-in s.0 n es e)) (rest e)

-- a node and a session mark the same entries, those with this value
abbrev pub Marks : Node → Live → Entries → Type 0
Marks n l [] = Unit {0}
Marks n l (e ∷ es) = (is_at n e ≡ is_session l.session e.1) × (is_at n e ≡ true → e ≡ (n, l)) × Marks n l es

marks_none : (n : Node) (l : Live) (es : Entries) → is_in n es ≡ false → is_live (live_of es) l.session ≡ false → Marks n l es
marks_none n l [] a b = tt
marks_none n l (e ∷ es) a b = (grind arith, (λ at. absurd (let x = a in let y = at in grind arith)), marks_none n l es (grind arith) (grind arith))

pub marks : (n : Node) (l : Live) (es : Entries) → NodesOnce es → SessionsOnce (live_of es) → node_of l.session.0 es ≡ Some n → value_in n es ≡ Some l → Marks n l es
marks n l [] once alone e v = tt
marks n l (x ∷ es) once alone e v = by_test (is_session l.session x.1) refl e (marks n l es (nodes_rest x es once) (sessions_rest x.1 (live_of es) alone))
  where
    by_test : (b : Bool) → is_session l.session x.1 ≡ b → (if b then Some x.0 else node_of l.session.0 es) ≡ Some n → (node_of l.session.0 es ≡ Some n → value_in n es ≡ Some l → Marks n l es) → Marks n l (x ∷ es)
    by_test true at e rest =
        let node : x.0 ≡ n = cc in
        let here : is_at n x ≡ true = grind (arith, nat_tests) in
        let found : Some x.1 ≡ Some l = rw here at v in
        let value : x.1 ≡ l = cc in
        let off : is_in n es ≡ false = subst (λ i. is_in i es ≡ false) node (node_alone x es once) in
        let gone : is_live (live_of es) l.session ≡ false = subst (λ k. is_live (live_of es) k.session ≡ false) value (session_alone x.1 (live_of es) alone) in
        let test : is_at n x ≡ is_session l.session x.1 = cc in
        let moved : x ≡ (n, x.1) = ap (λ (i : Node). (i, x.1)) node in
        let entry : x ≡ (n, l) = moved ∙ ap (λ (k : Live). (n, k)) value in
        (test, (λ _. entry), marks_none n l es off gone)
    by_test false at e rest =
        let there : is_at n x ≡ false = other_node x es n once (node_of-in l.session.0 n es e) in
        let found : value_in n es ≡ Some l = rw there at v in
        (there ∙ sym at, (λ h. absurd (cc)), rest e found)

-- the entries without a node are the sessions without its session
pub live-without : (n : Node) (l : Live) (es : Entries) → Marks n l es → live_of (links.without n es) ≡ without l.session (live_of es)
live-without n l [] m = refl
live-without n l (x ∷ es) m = by_test (is_at n x) refl (live-without n l es m.2)
  where
    by_test : (b : Bool) → is_at n x ≡ b → live_of (links.without n es) ≡ without l.session (live_of es) → live_of (links.without n (x ∷ es)) ≡ without l.session (live_of (x ∷ es))
    by_test true at rest = let same : is_session l.session x.1 ≡ true = sym m.0 ∙ at in rw (at, same) rest
    by_test false at rest = let same : is_session l.session x.1 ≡ false = sym m.0 ∙ at in rw (at, same) (ap (λ ls. x.1 ∷ ls) rest)

pub node_of-without : (q : ℕ) (n : Node) (l : Live) (es : Entries) → Marks n l es → node_of q (links.without n es) ≡ (if l.session.0 == q then None else node_of q es)
node_of-without q n l [] m = by_test (l.session.0 == q)
  where
    by_test : (b : Bool) → node_of q [] ≡ (if b then None else node_of q [])
    by_test true = refl
    by_test false = refl
node_of-without q n l (x ∷ es) m = by_test (is_at n x) refl (l.session.0 == q) refl (node_of-without q n l es m.2)
  where
    by_test : (b : Bool) → is_at n x ≡ b → (d : Bool) → (l.session.0 == q) ≡ d → node_of q (links.without n es) ≡ (if d then None else node_of q es) → node_of q (links.without n (x ∷ es)) ≡ (if d then None else node_of q (x ∷ es))
    by_test true at true same rest = rw at rest
    by_test true at false other rest =
        let is : is_session l.session x.1 ≡ true = sym m.0 ∙ at in
        let there : (x.1.session.0 == q) ≡ false = grind (arith, nat_tests) in
        rw (at, there) rest
    by_test false at true same rest =
        let is : is_session l.session x.1 ≡ false = sym m.0 ∙ at in
        let there : (x.1.session.0 == q) ≡ false = grind (arith, nat_tests) in
        rw (at, there) rest
    by_test false at false other rest = rw at (ap (λ o. if x.1.session.0 == q then Some x.0 else o) rest)

pub node_of-push : (q : ℕ) (n : Node) (l : Live) (es : Entries) → node_of l.session.0 es ≡ None → node_of q (es ++ (n, l) ∷ []) ≡ (if l.session.0 == q then Some n else node_of q es)
node_of-push q n l [] none = refl
node_of-push q n l (x ∷ es) none = by_test (is_session l.session x.1) refl none (node_of-push q n l es)
  where
    by_test : (b : Bool) → is_session l.session x.1 ≡ b → (if b then Some x.0 else node_of l.session.0 es) ≡ None
        → (node_of l.session.0 es ≡ None → node_of q (es ++ (n, l) ∷ []) ≡ (if l.session.0 == q then Some n else node_of q es))
        → node_of q (x ∷ es ++ (n, l) ∷ []) ≡ (if l.session.0 == q then Some n else node_of q (x ∷ es))
    by_test true at none rest = absurd (cc)
    by_test false at none rest = split (l.session.0 == q) refl (rest none)
      where
        split : (d : Bool) → (l.session.0 == q) ≡ d → node_of q (es ++ (n, l) ∷ []) ≡ (if d then Some n else node_of q es) → node_of q (x ∷ es ++ (n, l) ∷ []) ≡ (if d then Some n else node_of q (x ∷ es))
        split true same rest = let there : (x.1.session.0 == q) ≡ false = grind (arith, nat_tests) in rw there rest
        split false other rest = ap (λ o. if x.1.session.0 == q then Some x.0 else o) rest

-- a node that is moved back and given another value
replaced-other : (n : Node) (v : Live) (es : Entries) → map (replaced n v) (links.without n es) ≡ links.without n es
replaced-other n v [] = refl
replaced-other n v (x ∷ es) = by_test (is_at n x) refl (replaced-other n v es)
  where
    by_test : (b : Bool) → is_at n x ≡ b → map (replaced n v) (links.without n es) ≡ links.without n es → map (replaced n v) (links.without n (x ∷ es)) ≡ links.without n (x ∷ es)
    by_test true at rest = rw at rest
    by_test false at rest = rw at (rw at (ap (λ ys. x ∷ ys) rest))

pub moved_replaced : (n : Node) (v w : Live) (es : Entries) → count (is_at n) es ≤ 1 → value_in n es ≡ Some v → map (replaced n w) (moved_back n es) ≡ links.without n es ++ (n, w) ∷ []
moved_replaced n v w es once found =
    let self : is_at n (n, v) ≡ true = grind (arith, nat_tests) in
    rw (only_entry n es v once found, map-append, replaced-other n w es, self) refl
