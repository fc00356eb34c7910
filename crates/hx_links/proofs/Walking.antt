-- A walk along a list whose nodes are distinct: the entry at a place, and what comes next.
use Rattle.std.proofs.Common.{◌≡◌, ℕ, zero, suc, ◌+◌, ◌≤◌, ◌<◌, Bool, true, false, List, [], ◌∷◌, length, drop, Some, None, refl, sym, ap, ◌∙◌, subst, arith}
use Rattle.std.specs.List.{list_any}
use Rattle.std.proofs.lemmas.Bool.Decides.{nat_tests}
use Rattle.hx_lists.specs.Lists.{count}
use Rattle.hx_links.specs.declared.Node.{Node}
use Rattle.hx_links.specs.Pool.{is_at, is_in, value_in, next_in, value_of, next_of, first_node}

pub count-some : {X : Type 0} (p : X → Bool) (xs : List X) → list_any p xs ≡ true → 1 ≤ count p xs
count-some p [] e = cc
count-some p (x ∷ xs) e = grind (arith, count-some p xs)

module _ {T : Type 0} where
  -- distinct nodes
  abbrev pub NodesOnce : List (Node × T) → Type 0
  NodesOnce es = (n : Node) → count (is_at n) es ≤ 1

  pub nodes_rest : (e : Node × T) (es : List (Node × T)) → NodesOnce (e ∷ es) → NodesOnce es
  nodes_rest e es once n = let o = once n in grind arith

  pub other_node : (x : Node × T) (es : List (Node × T)) (n : Node) → NodesOnce (x ∷ es) → is_in n es ≡ true → is_at n x ≡ false
  other_node x es n once h = let o = once n in let some = count-some (is_at n) es h in grind arith

  -- the first node
  pub first_held : (es : List (Node × T)) (n : Node) → first_node es ≡ Some n → is_in n es ≡ true
  first_held [] n e = absurd (cc)
  first_held (x ∷ es) n e = let same : x.0 ≡ n = cc in let here : is_at n x ≡ true = grind (arith, nat_tests) in rw here refl

  pub no_first : (es : List (Node × T)) → first_node es ≡ None → es ≡ []
  no_first [] e = refl
  no_first (x ∷ es) e = absurd (cc)

  -- a pool of one list
  pub value_of_one : (lists : List (List (Node × T))) (es : List (Node × T)) (n : Node) → lists ≡ es ∷ [] → is_in n es ≡ true → value_of lists n ≡ value_in n es
  value_of_one lists es n is there = let one : value_of (es ∷ []) n ≡ value_in n es = rw there refl in ap (λ (ls : List (List (Node × T))). value_of ls n) is ∙ one

  pub next_of_one : (lists : List (List (Node × T))) (es : List (Node × T)) (n : Node) → lists ≡ es ∷ [] → is_in n es ≡ true → next_of lists n ≡ next_in n es
  next_of_one lists es n is there = let one : next_of (es ∷ []) n ≡ next_in n es = rw there refl in ap (λ (ls : List (List (Node × T))). next_of ls n) is ∙ one

  -- the entry at a place, and what comes next
  record StandsAt (es : List (Node × T)) (k : ℕ) (e : Node × T) (rest : List (Node × T)) : Type 0 where
    value : value_in e.0 es ≡ Some e.1
    next : next_in e.0 es ≡ first_node rest
    held : is_in e.0 es ≡ true
    after : drop (k + 1) es ≡ rest
    within : k < length es

  stands_at : (es : List (Node × T)) (k : ℕ) (e : Node × T) (rest : List (Node × T)) → NodesOnce es → drop k es ≡ e ∷ rest → StandsAt es k e rest
  stands_at [] zero e rest once is = absurd (cc)
  stands_at [] (suc k) e rest once is = absurd (cc)
  stands_at (x ∷ es) zero e rest once is =
      let self : is_at e.0 e ≡ true = grind (arith, nat_tests) in
      let first : StandsAt (e ∷ rest) 0 e rest = record { value = rw self refl; next = rw self refl; held = rw self refl; after = refl; within = omega arith } in
      subst (λ (ys : List (Node × T)). StandsAt ys 0 e rest) (sym is) first
  stands_at (x ∷ es) (suc k) e rest once is =
      let there = stands_at es k e rest (nodes_rest x es once) is in
      let held = there.held in
      let other : is_at e.0 x ≡ false = other_node x es e.0 once held in
      record {
        value = rw other there.value;
        next = rw other there.next;
        held = rw other held;
        after = let more : suc k + 1 ≡ suc (k + 1) = omega arith in rw more there.after;
        within = omega (arith, there.within);
      }

  -- a node that a walk comes to once some were passed, with its entry
  pub record ComesTo (es : List (Node × T)) (passed : ℕ) (n : Node) : Type 0 where
    pub entry : Node × T
    pub rest : List (Node × T)
    pub is : drop passed es ≡ entry ∷ rest
    pub value : value_in n es ≡ Some entry.1
    pub next : next_in n es ≡ first_node rest
    pub held : is_in n es ≡ true
    pub after : drop (passed + 1) es ≡ rest
    pub within : passed < length es

  pub comes_to : (es : List (Node × T)) (passed : ℕ) (n : Node) → NodesOnce es → first_node (drop passed es) ≡ Some n → ComesTo es passed n
  comes_to es passed n once first = one (drop passed es) refl first
    where
      one : (ys : List (Node × T)) → drop passed es ≡ ys → first_node ys ≡ Some n → ComesTo es passed n
      one [] is e = absurd (cc)
      one (y ∷ ys) is e =
          let there = stands_at es passed y ys once is in
          let same : y.0 ≡ n = cc in
          record {
            entry = y;
            rest = ys;
            is = is;
            value = subst (λ (i : Node). value_in i es ≡ Some y.1) same there.value;
            next = subst (λ (i : Node). next_in i es ≡ first_node ys) same there.next;
            held = subst (λ (i : Node). is_in i es ≡ true) same there.held;
            after = there.after;
            within = there.within;
          }
