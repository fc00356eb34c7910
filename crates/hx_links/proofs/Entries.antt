-- What becomes of the links of a plain list when a node leaves it, and when one comes last.
use Rattle.std.proofs.Common.{◌≡◌, ℕ, ◌≤◌, ◌<◌, ◌==◌, ◌||◌, Bool, true, false, List, [], ◌∷◌, ◌++◌, length, filter, Option, Some, None, is_some, refl, sym, ap, ◌∙◌, subst, arith}
use Rattle.std.specs.Prelude.{if◌then◌else◌}
use Rattle.std.proofs.lemmas.Bool.Decides.{nat_tests}
use Rattle.std.proofs.lemmas.Bool.{eqb-true}
use Rattle.hx_links.proofs.Vacancy.{same_node}
use Rattle.hx_links.specs.declared.Node.{Node}
use Rattle.hx_links.specs.declared.slots.Link.{Link}
use Rattle.hx_links.specs.Pool.{is_at, is_in, without, first_node}
use Rattle.hx_links.specs.declared.chains.Ends.{Ends}
use Rattle.std.proofs.Common.{get_or, set}
use Rattle.std.proofs.lemmas.List.{get_or-set_same, set-set, set-get_or}
use Rattle.hx_links.specs.Chains.{is_node, make_link, link_in, last_after, connected, ends_connected, no_ends, front_set, back_set}

module _ {T : Type 0} where
  -- how often a list has a node
  abbrev pub times : Node → List (Node × T) → ℕ
  times n xs = length (filter (is_at n) xs)

  pub is_in-none : (n : Node) (xs : List (Node × T)) → times n xs ≡ 0 → is_in n xs ≡ false
  is_in-none n [] e = refl
  is_in-none n (x ∷ xs) e = grind (arith, is_in-none n xs)

  pub times-absent : (n : Node) (xs : List (Node × T)) → is_in n xs ≡ false → times n xs ≡ 0
  times-absent n [] e = refl
  times-absent n (x ∷ xs) e = grind (arith, times-absent n xs)

  pub times-present : (n : Node) (xs : List (Node × T)) → is_in n xs ≡ true → 1 ≤ times n xs
  times-present n [] e = cc
  times-present n (x ∷ xs) e = grind (arith, times-present n xs)

  pub link_in-absent : (l : ℕ) (p : Option Node) (n : Node) (xs : List (Node × T)) → is_in n xs ≡ false → link_in l p n xs ≡ None
  link_in-absent l p n [] e = refl
  link_in-absent l p n (x ∷ xs) e = grind (arith, link_in-absent l (Some x.0) n xs)

  pub link_in-some : (l : ℕ) (p : Option Node) (n : Node) (xs : List (Node × T)) → is_some (link_in l p n xs) ≡ is_in n xs
  link_in-some l p n [] = refl
  link_in-some l p n (x ∷ xs) = grind (arith, link_in-some l (Some x.0) n xs)

  pub without-absent : (n : Node) (xs : List (Node × T)) → is_in n xs ≡ false → without n xs ≡ xs
  without-absent n [] e = refl
  without-absent n (x ∷ xs) e = grind (arith, without-absent n xs)

  -- a node's neighbours are in the list
  pub prev_in-list : (l : ℕ) (p : Option Node) (n m : Node) (xs : List (Node × T)) (k : Link T) → link_in l p n xs ≡ Some k → is_node k.prev m ≡ true → (is_node p m || is_in m xs) ≡ true
  prev_in-list l p n m [] k e h = cc
  prev_in-list l p n m (x ∷ xs) k e h = grind (arith, prev_in-list l (Some x.0) n m xs k)

  pub next_in-list : (l : ℕ) (p : Option Node) (n m : Node) (xs : List (Node × T)) (k : Link T) → link_in l p n xs ≡ Some k → is_node k.next m ≡ true → is_in m xs ≡ true
  next_in-list l p n m [] k e h = cc
  next_in-list l p n m (x ∷ []) k e h = grind (arith)
  next_in-list l p n m (x ∷ y ∷ xs) k e h = grind (arith, next_in-list l (Some x.0) n m (y ∷ xs) k)

  pub last_in-list : (p : Option Node) (m : Node) (xs : List (Node × T)) → is_node (last_after p xs) m ≡ true → (is_node p m || is_in m xs) ≡ true
  last_in-list p m [] h = grind arith
  last_in-list p m (x ∷ xs) h = grind (arith, last_in-list (Some x.0) m xs)

  -- a link that has neither as a neighbour stays
  pub connected-other : (before after : Option Node) (m : Node) (k : Option (Link T)) → (is_some k ≡ true → is_node before m ≡ false) → (is_some k ≡ true → is_node after m ≡ false) → connected before after m k ≡ k
  connected-other before after m None hb ha = refl
  connected-other before after m (Some k) hb ha = rw (hb refl, ha refl) refl

  -- a node that is in no list is not the one whose link was found
  not_there : (l : ℕ) (p : Option Node) (m : Node) (xs : List (Node × T)) (d : Bool) → (d ≡ true → is_in m xs ≡ false) → is_some (link_in l p m xs) ≡ true → d ≡ false
  not_there l p m xs true off some = let there = link_in-some l p m xs in let gone = off refl in cc
  not_there l p m xs false off some = refl

  -- what comes before a list is told to its first node alone
  link_in-from : (l : ℕ) (p q : Option Node) (m : Node) (xs : List (Node × T)) → (is_node p m ≡ true → is_in m xs ≡ false) → link_in l p m xs ≡ connected p (first_node xs) m (link_in l q m xs)
  link_in-from l p q m [] off = refl
  link_in-from l p q m (y ∷ ys) off = by_test (is_at m y) refl (is_node p m) refl
    where
      by_test : (b : Bool) → is_at m y ≡ b → (d : Bool) → is_node p m ≡ d → link_in l p m (y ∷ ys) ≡ connected p (Some y.0) m (link_in l q m (y ∷ ys))
      by_test true at true before = let no = off before in grind (arith, nat_tests)
      by_test true at false before = rw (at, before) refl
      by_test false at d before =
          let off_rest : is_node p m ≡ true → is_in m ys ≡ false = λ h. (let no = off h in grind (arith)) in
          let one : link_in l p m (y ∷ ys) ≡ link_in l (Some y.0) m ys = rw at refl in
          let two : link_in l q m (y ∷ ys) ≡ link_in l (Some y.0) m ys = rw at refl in
          one
          ∙ sym (connected-other p (Some y.0) m (link_in l (Some y.0) m ys) (not_there l (Some y.0) m ys (is_node p m) off_rest) (λ _. at))
          ∙ ap (connected p (Some y.0) m) (sym two)

  -- the first node of a list without n
  first_node-without : (l : ℕ) (a n : Node) (xs : List (Node × T)) (k : Link T) → ((m : Node) → times m xs ≤ 1) → is_in a xs ≡ false → link_in l (Some a) n xs ≡ Some k → first_node (without n xs) ≡ (if is_node k.prev a then k.next else first_node xs)
  first_node-without l a n [] k once off e = absurd (cc)
  first_node-without l a n (y ∷ ys) k once off e = by_test (is_at n y) refl
    where
      by_test : (b : Bool) → is_at n y ≡ b → first_node (without n (y ∷ ys)) ≡ (if is_node k.prev a then k.next else Some y.0)
      by_test true at =
          let is : Some (make_link l (Some a) (first_node ys) y.1) ≡ Some k = rw at at e in
          let prev : k.prev ≡ Some a = cc in
          let next : k.next ≡ first_node ys = cc in
          let same : (a.0 == a.0) ≡ true = grind (arith, nat_tests) in
          let gone : without n ys ≡ ys = without-absent n ys (is_in-none n ys (let o = once n in grind (arith))) in
          rw (at, prev, next, gone, same) refl
      by_test false at =
          let is : link_in l (Some y.0) n ys ≡ Some k = rw at at e in
          let other : is_node k.prev a ≡ false = grind (arith, prev_in-list l (Some y.0) n a ys k) in
          rw (at, other) refl

  -- distinct nodes of a list
  abbrev pub AreDistinct : List (Node × T) → Type 0
  AreDistinct xs = (m : Node) → times m xs ≤ 1

  pub distinct_rest : (x : Node × T) (xs : List (Node × T)) → AreDistinct (x ∷ xs) → AreDistinct xs
  distinct_rest x xs once m = let o = once m in grind (arith)

  pub first_alone : (x : Node × T) (xs : List (Node × T)) → AreDistinct (x ∷ xs) → is_in x.0 xs ≡ false
  first_alone x xs once = is_in-none x.0 xs (let o = once x.0 in grind (arith, nat_tests))

  -- what comes before a list is not in it
  abbrev IsBefore : Option Node → List (Node × T) → Type 0
  IsBefore p xs = (m : Node) → is_node p m ≡ true → is_in m xs ≡ false

  first_before : (x : Node × T) (xs : List (Node × T)) → AreDistinct (x ∷ xs) → IsBefore (Some x.0) xs
  first_before x xs once m h =
      let P : Node → Type 0 = λ j. is_in j xs ≡ false in
      subst P (same_node x.0 m (eqb-true x.0.0 m.0 h)) (first_alone x xs once)

  -- the links without the first node
  without_first : (l : ℕ) (p : Option Node) (n m : Node) (x : Node × T) (xs : List (Node × T)) → is_at n x ≡ true → AreDistinct (x ∷ xs) → IsBefore p (x ∷ xs) → link_in l p m (without n (x ∷ xs)) ≡ (if m.0 == n.0 then None else connected p (first_node xs) m (link_in l p m (x ∷ xs)))
  without_first l p n m x xs at once off = by_test (m.0 == n.0) refl
    where
      gone : without n (x ∷ xs) ≡ xs
      gone = rw at (without-absent n xs (first_before x xs once n at))

      by_test : (b : Bool) → (m.0 == n.0) ≡ b → link_in l p m (without n (x ∷ xs)) ≡ (if b then None else connected p (first_node xs) m (link_in l p m (x ∷ xs)))
      by_test true same =
          let here : is_at m x ≡ true = grind (arith, nat_tests) in
          ap (link_in l p m) gone ∙ link_in-absent l p m xs (first_before x xs once m here)
      by_test false other =
          let there : is_at m x ≡ false = grind (arith, nat_tests) in
          let off_rest : is_node p m ≡ true → is_in m xs ≡ false = λ h. (let no = off m h in grind (arith)) in
          let link : link_in l p m (x ∷ xs) ≡ link_in l (Some x.0) m xs = rw there refl in
          ap (link_in l p m) gone ∙ link_in-from l p (Some x.0) m xs off_rest ∙ ap (connected p (first_node xs) m) (sym link)

  -- the link of the node before n
  without_before : (l : ℕ) (p : Option Node) (n m : Node) (x : Node × T) (xs : List (Node × T)) (k : Link T) → is_at n x ≡ false → is_at m x ≡ true → AreDistinct (x ∷ xs) → link_in l (Some x.0) n xs ≡ Some k → link_in l p m (without n (x ∷ xs)) ≡ (if m.0 == n.0 then None else connected k.prev k.next m (link_in l p m (x ∷ xs)))
  without_before l p n m x xs k at here once e =
      let same : x.0 ≡ m = same_node x.0 m (eqb-true x.0.0 m.0 here) in
      let other : (m.0 == n.0) ≡ false = grind (arith, nat_tests) in
      let absent = first_before x xs once m here in
      let link : link_in l (Some m) n xs ≡ Some k = subst (λ a. link_in l (Some a) n xs ≡ Some k) same e in
      let first = first_node-without l m n xs k (distinct_rest x xs once) absent link in
      let next : is_node k.next m ≡ false = grind (arith, next_in-list l (Some x.0) n m xs k) in
      let old : link_in l p m (x ∷ xs) ≡ Some (make_link l p (first_node xs) x.1) = rw here refl in
      let new : link_in l p m (without n (x ∷ xs)) ≡ Some (make_link l p (first_node (without n xs)) x.1) = rw (at, here) refl in
      rw (other, new, old, next, first) refl

  -- each node's link without n: the neighbours of n are neighbours then
  pub link_in-without : (l : ℕ) (p : Option Node) (n m : Node) (xs : List (Node × T)) (k : Link T) → AreDistinct xs → IsBefore p xs → link_in l p n xs ≡ Some k → link_in l p m (without n xs) ≡ (if m.0 == n.0 then None else connected k.prev k.next m (link_in l p m xs))
  link_in-without l p n m [] k once off e = absurd (cc)
  link_in-without l p n m (x ∷ xs) k once off e = by_test (is_at n x) refl (is_at m x) refl (link_in-without l (Some x.0) n m xs k (distinct_rest x xs once) (first_before x xs once))
    where
      by_test : (b : Bool) → is_at n x ≡ b → (d : Bool) → is_at m x ≡ d
          → (link_in l (Some x.0) n xs ≡ Some k → link_in l (Some x.0) m (without n xs) ≡ (if m.0 == n.0 then None else connected k.prev k.next m (link_in l (Some x.0) m xs)))
          → link_in l p m (without n (x ∷ xs)) ≡ (if m.0 == n.0 then None else connected k.prev k.next m (link_in l p m (x ∷ xs)))
      by_test true at d here rest =
          let is : Some (make_link l p (first_node xs) x.1) ≡ Some k = rw at at e in
          let prev : k.prev ≡ p = cc in
          let next : k.next ≡ first_node xs = cc in
          rw (prev, next) (without_first l p n m x xs at once off)
      by_test false at true here rest =
          let is : link_in l (Some x.0) n xs ≡ Some k = rw at at e in
          without_before l p n m x xs k at here once is
      by_test false at false here rest =
          let is : link_in l (Some x.0) n xs ≡ Some k = rw at at e in
          rw (at, here) (rest is)

  -- the ends of a list without n
  prev_is_some : (l : ℕ) (a n : Node) (xs : List (Node × T)) (k : Link T) → link_in l (Some a) n xs ≡ Some k → is_some k.prev ≡ true
  prev_is_some l a n [] k e = absurd (cc)
  prev_is_some l a n (x ∷ xs) k e = by_test (is_at n x) refl (prev_is_some l x.0 n xs k)
    where
      by_test : (b : Bool) → is_at n x ≡ b → (link_in l (Some x.0) n xs ≡ Some k → is_some k.prev ≡ true) → is_some k.prev ≡ true
      by_test true at rest =
          let is : Some (make_link l (Some a) (first_node xs) x.1) ≡ Some k = rw at at e in
          let prev : k.prev ≡ Some a = cc in
          rw prev refl
      by_test false at rest = rest (rw at at e)

  pub front-without : (l : ℕ) (n : Node) (xs : List (Node × T)) (k : Link T) → AreDistinct xs → link_in l None n xs ≡ Some k → first_node (without n xs) ≡ (if is_some k.prev then first_node xs else k.next)
  front-without l n [] k once e = absurd (cc)
  front-without l n (x ∷ xs) k once e = by_test (is_at n x) refl
    where
      by_test : (b : Bool) → is_at n x ≡ b → first_node (without n (x ∷ xs)) ≡ (if is_some k.prev then Some x.0 else k.next)
      by_test true at =
          let is : Some (make_link l None (first_node xs) x.1) ≡ Some k = rw at at e in
          let prev : k.prev ≡ None = cc in
          let next : k.next ≡ first_node xs = cc in
          let gone : without n xs ≡ xs = without-absent n xs (first_before x xs once n at) in
          rw (at, prev, next, gone) refl
      by_test false at = rw (at, prev_is_some l x.0 n xs k (rw at at e)) refl

  last_is_some : (p : Option Node) (x : Node × T) (xs : List (Node × T)) → is_some (last_after p (x ∷ xs)) ≡ true
  last_is_some p x [] = refl
  last_is_some p x (y ∷ xs) = last_is_some (Some x.0) y xs

  pub back-without : (l : ℕ) (p : Option Node) (n : Node) (xs : List (Node × T)) (k : Link T) → AreDistinct xs → link_in l p n xs ≡ Some k → last_after p (without n xs) ≡ (if is_some k.next then last_after p xs else k.prev)
  back-without l p n [] k once e = absurd (cc)
  back-without l p n (x ∷ xs) k once e = by_test (is_at n x) refl xs refl (back-without l (Some x.0) n xs k (distinct_rest x xs once))
    where
      by_test : (b : Bool) → is_at n x ≡ b → (ys : List (Node × T)) → ys ≡ xs
          → (link_in l (Some x.0) n xs ≡ Some k → last_after (Some x.0) (without n xs) ≡ (if is_some k.next then last_after (Some x.0) xs else k.prev))
          → last_after p (without n (x ∷ xs)) ≡ (if is_some k.next then last_after (Some x.0) xs else k.prev)
      by_test true at [] whole rest =
          let is : Some (make_link l p (first_node xs) x.1) ≡ Some k = rw at at e in
          let prev : k.prev ≡ p = cc in
          let next : k.next ≡ first_node xs = cc in
          rw (at, prev, next, ← whole) refl
      by_test true at (y ∷ ys) whole rest =
          let is : Some (make_link l p (first_node xs) x.1) ≡ Some k = rw at at e in
          let next : k.next ≡ first_node xs = cc in
          let gone : without n xs ≡ xs = without-absent n xs (first_before x xs once n at) in
          rw (at, next, gone, ← whole) refl
      by_test false at ys whole rest = rw at (rest (rw at at e))

  -- a list with one more entry, whose node it doesn't have, at its end
  pub link_in-last : (l : ℕ) (p : Option Node) (e : Node × T) (xs : List (Node × T)) → is_in e.0 xs ≡ false → link_in l p e.0 (xs ++ e ∷ []) ≡ Some (make_link l (last_after p xs) None e.1)
  link_in-last l p e [] off = let same : is_at e.0 e ≡ true = grind (arith, nat_tests) in rw same refl
  link_in-last l p e (x ∷ xs) off =
      let other : is_at e.0 x ≡ false = grind arith in
      rw other (link_in-last l (Some x.0) e xs (let o = off in grind arith))

  pub link_in-push : (l : ℕ) (p : Option Node) (m : Node) (e : Node × T) (xs : List (Node × T)) → AreDistinct xs → is_at m e ≡ false → link_in l p m (xs ++ e ∷ []) ≡ connected (last_after p xs) (Some e.0) m (link_in l p m xs)
  link_in-push l p m e [] once other = rw other refl
  link_in-push l p m e (x ∷ xs) once other = by_test (is_at m x) refl xs refl (link_in-push l (Some x.0) m e xs (distinct_rest x xs once) other)
    where
      by_test : (b : Bool) → is_at m x ≡ b → (ys : List (Node × T)) → ys ≡ xs
          → link_in l (Some x.0) m (xs ++ e ∷ []) ≡ connected (last_after (Some x.0) xs) (Some e.0) m (link_in l (Some x.0) m xs)
          → link_in l p m (x ∷ xs ++ e ∷ []) ≡ connected (last_after (Some x.0) xs) (Some e.0) m (link_in l p m (x ∷ xs))
      by_test true at [] whole rest = rw (at, ← whole, other, at) refl
      by_test true at (y ∷ ys) whole rest =
          let P : List (Node × T) → Type 0 = λ zs. is_in m zs ≡ false in
          let absent : is_in m (y ∷ ys) ≡ false = subst P (sym whole) (first_before x xs once m at) in
          let last : is_node (last_after (Some y.0) ys) m ≡ false = grind (arith, last_in-list (Some y.0) m ys) in
          rw (at, ← whole, last, other) refl
      by_test false at ys whole rest = rw at rest

  pub last_after-push : (p : Option Node) (e : Node × T) (xs : List (Node × T)) → last_after p (xs ++ e ∷ []) ≡ Some e.0
  last_after-push p e [] = refl
  last_after-push p e (x ∷ xs) = last_after-push (Some x.0) e xs

  pub first_node-push : (e : Node × T) (xs : List (Node × T)) → first_node (xs ++ e ∷ []) ≡ (if is_some (last_after None xs) then first_node xs else Some e.0)
  first_node-push e [] = refl
  first_node-push e (x ∷ xs) = rw (last_is_some None x xs) refl

-- the ends after both sides of a pair of neighbours are set
pub ends_set : (l : ℕ) (before after : Option Node) (ends : List Ends) → l < length ends → back_set l before after (front_set l before after ends) ≡ set ends l (ends_connected before after (get_or ends l no_ends))
ends_set l None None ends within = rw (get_or-set_same ends l (record { front = None; back = (get_or ends l no_ends).back }) no_ends within, set-set) refl
ends_set l None (Some n) ends within = refl
ends_set l (Some m) None ends within = refl
ends_set l (Some m) (Some n) ends within = sym (set-get_or ends l no_ends)
