-- The lists are what a walk over the links finds, and a link tells of its node what the lists do.
use Rattle.std.proofs.Common.{◌≡◌, ◌≢◌, ℕ, zero, suc, ◌≤◌, ◌<◌, ◌==◌, Bool, true, false, List, [], ◌∷◌, ◌++◌, map, length, get_or, filter, Option, Some, None, is_some, option_map, refl, sym, ap, ◌∙◌, subst, arith}
use Rattle.std.specs.Prelude.{if◌then◌else◌}
use Rattle.std.specs.Option.{IfSome}
use Rattle.std.proofs.lemmas.Bool.Decides.{nat_tests}
use Rattle.std.proofs.lemmas.List.{append-nil, nil_from_length, get_or_past, map_push}
use Rattle.std.proofs.lemmas.Bool.{cases_lt, eqb-true}
use Rattle.std.proofs.Common.{inl, inr}
use Rattle.hx_links.proofs.Vacancy.{same_node}
use Rattle.hx_links.specs.declared.Node.{Node}
use Rattle.hx_links.specs.declared.slots.Link.{Link}
use Rattle.hx_links.specs.declared.chains.Ends.{Ends}
use Rattle.hx_links.specs.Pool.{is_at, is_in, holds, without, moved_back, occurrences, node_count, first_node, value_in, next_in, list_of, value_of, next_of, pushed}
use Rattle.hx_links.specs.Slots.{link_at}
use Rattle.hx_links.specs.Chains.{is_node, make_link, link_in, own, ends_of, no_ends, last_after, list_at, walk, entry_then, AreLinks, AreLinksBut}
use Rattle.hx_links.proofs.Entries.{AreDistinct, times, is_in-none, times-absent, times-present, link_in-some, without-absent, first_alone, distinct_rest, prev_in-list, next_in-list, last_in-list}
use Rattle.hx_links.proofs.Linked.{times-le-occurrences, absent_from, all_without-absent, listed, not_true, distinct_at, ends_at}

module _ {T : Type 0} where
  own_is : (l : ℕ) (s : Option (Link T)) (k : Link T) → own l s ≡ Some k → s ≡ Some k
  own_is l None k e = e
  own_is l (Some j) k e = by_test (j.list.0 == l) refl e
    where
      by_test : (b : Bool) → (j.list.0 == l) ≡ b → (if b then Some j else None) ≡ Some k → Some j ≡ Some k
      by_test true is e = e
      by_test false is e = absurd (cc)

  own_some : (l : ℕ) (s : Option (Link T)) → is_some (own l s) ≡ true → is_some s ≡ true
  own_some l None e = e
  own_some l (Some k) e = refl

  rest_are : (links : List (Option (Link T))) (l : ℕ) (p : Option Node) (x : Node × T) (xs : List (Node × T)) → AreDistinct (x ∷ xs)
      → ((m : Node) → is_in m (x ∷ xs) ≡ true → own l (link_at links m) ≡ link_in l p m (x ∷ xs)) → (m : Node) → is_in m xs ≡ true → own l (link_at links m) ≡ link_in l (Some x.0) m xs
  rest_are links l p x xs once are m h =
      let P : Node → Type 0 = λ i. is_in i xs ≡ false in
      let off : is_at m x ≡ false = not_true (is_at m x) (λ at. (let gone : is_in m xs ≡ false = subst P (same_node x.0 m (eqb-true x.0.0 m.0 at)) (first_alone x xs once) in absurd (cc))) in
      let there : is_in m (x ∷ xs) ≡ true = grind arith in
      are m there ∙ (rw off refl)

  -- a walk from the first node of a list finds that list
  walk_finds : (links : List (Option (Link T))) (l : ℕ) (p : Option Node) (xs : List (Node × T)) (most : ℕ) → length xs ≤ most → AreDistinct xs
      → ((m : Node) → is_in m xs ≡ true → own l (link_at links m) ≡ link_in l p m xs) → walk links most (first_node xs) ≡ xs
  walk_finds links l p [] zero enough once are = refl
  walk_finds links l p [] (suc most) enough once are = refl
  walk_finds links l p (x ∷ xs) zero enough once are = absurd (omega arith)
  walk_finds links l p (x ∷ xs) (suc most) enough once are =
      let self : is_at x.0 x ≡ true = grind (arith, nat_tests) in
      let here : own l (link_at links x.0) ≡ Some (make_link l p (first_node xs) x.1) = are x.0 (rw self refl) ∙ (rw self refl) in
      let found : link_at links x.0 ≡ Some (make_link l p (first_node xs) x.1) = own_is l (link_at links x.0) (make_link l p (first_node xs) x.1) here in
      ap (λ s. entry_then x.0 s (walk links most)) found
      ∙ ap (λ ys. x ∷ ys) (walk_finds links l (Some x.0) xs most (omega arith) (distinct_rest x xs once) (rest_are links l p x xs once are))

  length-le-count : (lists : List (List (Node × T))) (l : ℕ) → length (list_at lists l) ≤ node_count lists
  length-le-count [] l = omega arith
  length-le-count (xs ∷ lists) zero = omega arith
  length-le-count (xs ∷ lists) (suc l) = omega (arith, length-le-count lists l)

  walk_finds_all : (links : List (Option (Link T))) (most : ℕ) (lists : List (List (Node × T))) → ((l : ℕ) → walk links most (first_node (list_at lists l)) ≡ list_at lists l)
      → map (λ e. walk links most e.front) (map ends_of lists) ≡ lists
  walk_finds_all links most [] h = refl
  walk_finds_all links most (xs ∷ lists) h = rw (h 0, walk_finds_all links most lists (λ l. h (suc l))) refl

  -- the value and the next node of a link are those of the list
  value_from_link : (l : ℕ) (p : Option Node) (n : Node) (xs : List (Node × T)) (k : Link T) → link_in l p n xs ≡ Some k → value_in n xs ≡ Some k.value
  value_from_link l p n [] k e = absurd (cc)
  value_from_link l p n (x ∷ xs) k e = by_test (is_at n x) refl (value_from_link l (Some x.0) n xs k)
    where
      by_test : (b : Bool) → is_at n x ≡ b → (link_in l (Some x.0) n xs ≡ Some k → value_in n xs ≡ Some k.value) → (if b then Some x.1 else value_in n xs) ≡ Some k.value
      by_test true at rest = let is : Some (make_link l p (first_node xs) x.1) ≡ Some k = rw at at e in cc
      by_test false at rest = rest (rw at at e)

  next_from_link : (l : ℕ) (p : Option Node) (n : Node) (xs : List (Node × T)) (k : Link T) → link_in l p n xs ≡ Some k → next_in n xs ≡ k.next
  next_from_link l p n [] k e = absurd (cc)
  next_from_link l p n (x ∷ xs) k e = by_test (is_at n x) refl (next_from_link l (Some x.0) n xs k)
    where
      by_test : (b : Bool) → is_at n x ≡ b → (link_in l (Some x.0) n xs ≡ Some k → next_in n xs ≡ k.next) → (if b then first_node xs else next_in n xs) ≡ k.next
      by_test true at rest = let is : Some (make_link l p (first_node xs) x.1) ≡ Some k = rw at at e in cc
      by_test false at rest = rest (rw at at e)

  -- the list that holds a node
  pub list_of-at : (lists : List (List (Node × T))) (n : Node) (l : ℕ) → occurrences n lists ≤ 1 → is_in n (list_at lists l) ≡ true → list_of lists n ≡ list_at lists l
  list_of-at [] n l once h = refl
  list_of-at (xs ∷ lists) n zero once h = rw h refl
  list_of-at (xs ∷ lists) n (suc l) once h =
      let off : is_in n xs ≡ false = is_in-none n xs (omega (arith, times-present n (list_at lists l) h, times-le-occurrences n lists l)) in
      rw off (list_of-at lists n l (omega arith) h)

  holds_at : (lists : List (List (Node × T))) (n : Node) (l : ℕ) → is_in n (list_at lists l) ≡ true → holds lists n ≡ true
  holds_at [] n l h = cc
  holds_at (xs ∷ lists) n zero h = rw h refl
  holds_at (xs ∷ lists) n (suc l) h = grind (arith, holds_at lists n l h)

  holds_none : (lists : List (List (Node × T))) (n : Node) → ((l : ℕ) → is_in n (list_at lists l) ≡ false) → holds lists n ≡ false
  holds_none [] n h = refl
  holds_none (xs ∷ lists) n h = rw (h 0) (holds_none lists n (λ l. h (suc l)))

  pub holds-absent : (lists : List (List (Node × T))) (n : Node) → occurrences n lists ≡ 0 → holds lists n ≡ false
  holds-absent lists n e = holds_none lists n (λ l. absent_from n lists l e)

  -- a node that is last in its list again
  moved_back-absent : (n : Node) (xs : List (Node × T)) → is_in n xs ≡ false → moved_back n xs ≡ xs
  moved_back-absent n xs off =
      let none : filter (is_at n) xs ≡ [] = nil_from_length (filter (is_at n) xs) (times-absent n xs off) in
      rw (without-absent n xs off, none) (append-nil xs)

  all_moved_back-absent : (n : Node) (lists : List (List (Node × T))) → occurrences n lists ≡ 0 → map (moved_back n) lists ≡ lists
  all_moved_back-absent n [] e = refl
  all_moved_back-absent n (xs ∷ lists) e =
      let here : moved_back n xs ≡ xs = moved_back-absent n xs (is_in-none n xs (omega arith)) in
      let there : map (moved_back n) lists ≡ lists = all_moved_back-absent n lists (omega arith) in
      rw (here, there) refl

  pub value_some : (n : Node) (xs : List (Node × T)) → is_some (value_in n xs) ≡ is_in n xs
  value_some n [] = refl
  value_some n (x ∷ xs) = grind (arith, value_some n xs)

  pub only_entry : (n : Node) (xs : List (Node × T)) (v : T) → times n xs ≤ 1 → value_in n xs ≡ Some v → filter (is_at n) xs ≡ (n, v) ∷ []
  only_entry n [] v once e = absurd (cc)
  only_entry n (x ∷ xs) v once e = by_test (is_at n x) refl (only_entry n xs v (let o = once in grind arith))
    where
      by_test : (b : Bool) → is_at n x ≡ b → (value_in n xs ≡ Some v → filter (is_at n) xs ≡ (n, v) ∷ []) → filter (is_at n) (x ∷ xs) ≡ (n, v) ∷ []
      by_test true at rest =
          let node : x.0 ≡ n = same_node x.0 n (eqb-true x.0.0 n.0 at) in
          let is : Some x.1 ≡ Some v = rw at at e in
          let value : x.1 ≡ v = cc in
          let none : filter (is_at n) xs ≡ [] = nil_from_length (filter (is_at n) xs) (let o = once in grind arith) in
          rw (at, none) (ap (λ a. (a, x.1) ∷ []) node ∙ ap (λ w. (n, w) ∷ []) value)
      by_test false at rest = rw at (rest (rw at at e))

  moved_lists : (lists : List (List (Node × T))) (n : Node) (l : ℕ) (v : T) → occurrences n lists ≤ 1 → value_in n (list_at lists l) ≡ Some v → pushed (map (without n) lists) l (n, v) ≡ map (moved_back n) lists
  moved_lists [] n l v once e = refl
  moved_lists (xs ∷ lists) n zero v once e =
      let there : 1 ≤ times n xs = times-present n xs (sym (value_some n xs) ∙ ap is_some e) in
      let same : map (without n) lists ≡ map (moved_back n) lists = all_without-absent n lists (omega arith) ∙ sym (all_moved_back-absent n lists (omega arith)) in
      rw (only_entry n xs v (omega arith) e, same) refl
  moved_lists (xs ∷ lists) n (suc l) v once e =
      let there : 1 ≤ occurrences n lists = omega (arith, times-present n (list_at lists l) (sym (value_some n (list_at lists l)) ∙ ap is_some e), times-le-occurrences n lists l) in
      let off : is_in n xs ≡ false = is_in-none n xs (omega arith) in
      let same : without n xs ≡ moved_back n xs = without-absent n xs off ∙ sym (moved_back-absent n xs off) in
      ap (λ ys. ys ∷ pushed (map (without n) lists) l (n, v)) same ∙ ap (λ ls. moved_back n xs ∷ ls) (moved_lists lists n l v (omega arith) e)

  -- an empty list more
  list_at-empty : (lists : List (List (Node × T))) (l : ℕ) → list_at (lists ++ [] ∷ []) l ≡ list_at lists l
  list_at-empty [] zero = refl
  list_at-empty [] (suc l) = refl
  list_at-empty (xs ∷ lists) zero = refl
  list_at-empty (xs ∷ lists) (suc l) = list_at-empty lists l

  occurrences-empty : (n : Node) (lists : List (List (Node × T))) → occurrences n (lists ++ [] ∷ []) ≡ occurrences n lists
  occurrences-empty n [] = refl
  occurrences-empty n (xs ∷ lists) = omega (arith, occurrences-empty n lists)

  count-empty : (lists : List (List (Node × T))) → node_count (lists ++ [] ∷ []) ≡ node_count lists
  count-empty [] = refl
  count-empty (xs ∷ lists) = omega (arith, count-empty lists)

  pub with_empty : (links : List (Option (Link T))) (ends : List Ends) (lists : List (List (Node × T))) → AreLinks links ends lists → AreLinks links (ends ++ no_ends ∷ []) (lists ++ [] ∷ [])
  with_empty links ends lists are =
      record {
        ends_are = rw map_push (ap (λ es. es ++ no_ends ∷ []) are.ends_are);
        links_are = λ l n. are.links_are l n ∙ ap (link_in l None n) (sym (list_at-empty lists l));
        once = λ n. omega (arith, are.once n, occurrences-empty n lists);
        all = omega (arith, are.all, count-empty lists);
      }

  pub the_link : (o : Option (Link T)) → is_some o ≡ true → (k : Link T) × (o ≡ Some k)
  the_link None e = absurd (cc)
  the_link (Some k) e = (k, refl)

  pub link_within : (links : List (Option (Link T))) (n : Node) → is_some (link_at links n) ≡ true → n.0 < length links
  link_within links n e = grind (arith, get_or_past)

  -- a link that keeps its list and its value
  pub same_some : (o p : Option (Link T)) → option_map (λ k. k.value) o ≡ option_map (λ k. k.value) p → is_some p ≡ true → is_some o ≡ true
  same_some None None e h = h
  same_some None (Some k) e h = absurd (cc)
  same_some (Some j) p e h = refl

  pub same_list : (o : Option (Link T)) (k : Link T) (m : ℕ) → option_map (λ j. j.list) o ≡ Some k.list → k.list.0 < m → IfSome o (λ j. j.list.0 < m)
  same_list None k m e h = tt
  same_list (Some j) k m e h = let is : j.list ≡ k.list = cc in rw is h

  pub same_entry : (o : Option (Link T)) (k : Link T) (n : Node) (new old : List (List (Node × T))) → option_map (λ j. j.list) o ≡ Some k.list → option_map (λ j. j.value) o ≡ Some k.value
      → IfSome o (λ j. new ≡ pushed old j.list.0 (n, j.value)) → new ≡ pushed old k.list.0 (n, k.value)
  same_entry None k n new old e f h = absurd (cc)
  same_entry (Some j) k n new old e f h = let list : j.list ≡ k.list = cc in let value : j.value ≡ k.value = cc in rw (list, value) at h

module _ {T : Type 0} (links : List (Option (Link T))) (ends : List Ends) (lists : List (List (Node × T))) where
  -- the lists are what the walks find
  pub walked : AreLinks links ends lists → node_count lists ≤ length links → map (λ e. walk links (length links) e.front) ends ≡ lists
  walked are enough =
      ap (λ (es : List Ends). map (λ e. walk links (length links) e.front) es) are.ends_are
      ∙ walk_finds_all links (length links) lists (λ l. walk_finds links l None (list_at lists l) (length links) (omega (arith, length-le-count lists l)) (distinct_at lists l are.once) (λ m h. are.links_are l m))

  pub walked_but : (n : Node) → AreLinksBut n links ends lists → node_count lists ≤ length links → map (λ e. walk links (length links) e.front) ends ≡ lists
  walked_but n but enough =
      ap (λ (es : List Ends). map (λ e. walk links (length links) e.front) es) but.ends_are
      ∙ walk_finds_all links (length links) lists (λ l. walk_finds links l None (list_at lists l) (length links) (omega (arith, length-le-count lists l)) (distinct_at lists l but.once)
      (λ m h. but.links_are l m (λ same. (
      let P : Node → Type 0 = λ i. is_in i (list_at lists l) ≡ true in
      let there : is_in n (list_at lists l) ≡ true = subst P (same_node m n same) h in
      let gone = absent_from n lists l but.absent in
      absurd (cc)))))

  -- what a link tells
  pub holds_link : (n : Node) → AreLinks links ends lists → holds lists n ≡ is_some (link_at links n)
  holds_link n are = by_link (link_at links n) refl
    where
      by_link : (s : Option (Link T)) → link_at links n ≡ s → holds lists n ≡ is_some s
      by_link None e = holds_none lists n (λ l. sym (link_in-some l None n (list_at lists l)) ∙ ap is_some (sym (are.links_are l n) ∙ ap (own l) e))
      by_link (Some k) e = holds_at lists n k.list.0 (sym (link_in-some k.list.0 None n (list_at lists k.list.0)) ∙ ap is_some (listed links ends lists n k are e))

  pub value_link : (n : Node) (k : Link T) → AreLinks links ends lists → link_at links n ≡ Some k → value_of lists n ≡ Some k.value
  value_link n k are e =
      let here = listed links ends lists n k are e in
      let present = sym (link_in-some k.list.0 None n (list_at lists k.list.0)) ∙ ap is_some here in
      ap (value_in n) (list_of-at lists n k.list.0 (are.once n) present) ∙ value_from_link k.list.0 None n (list_at lists k.list.0) k here

  pub next_link : (n : Node) (k : Link T) → AreLinks links ends lists → link_at links n ≡ Some k → next_of lists n ≡ k.next
  next_link n k are e =
      let here = listed links ends lists n k are e in
      let present = sym (link_in-some k.list.0 None n (list_at lists k.list.0)) ∙ ap is_some here in
      ap (next_in n) (list_of-at lists n k.list.0 (are.once n) present) ∙ next_from_link k.list.0 None n (list_at lists k.list.0) k here

  -- a link is of one of the lists
  pub list_within : (n : Node) (k : Link T) → AreLinks links ends lists → link_at links n ≡ Some k → k.list.0 < length lists
  list_within n k are e =
      elim (cases_lt k.list.0 (length lists)) [
        | inl within ↦ within
        | inr past ↦
            let here = listed links ends lists n k are e in
            let empty : list_at lists k.list.0 ≡ [] = get_or_past lists k.list.0 [] past in
            let none : None ≡ Some k = ap (link_in k.list.0 None n) (sym empty) ∙ here in
            absurd (cc)
      ]

  -- the neighbours of a node have links too
  pub prev_held : (n : Node) (k : Link T) (m : Node) → AreLinks links ends lists → link_at links n ≡ Some k → k.prev ≡ Some m → is_some (link_at links m) ≡ true
  prev_held n k m are e is =
      let self : is_node (Some m) m ≡ true = grind (arith, nat_tests) in
      let there : is_in m (list_at lists k.list.0) ≡ true = prev_in-list k.list.0 None n m (list_at lists k.list.0) k (listed links ends lists n k are e) (ap (λ (o : Option Node). is_node o m) is ∙ self) in
      own_some k.list.0 (link_at links m) (ap is_some (are.links_are k.list.0 m) ∙ link_in-some k.list.0 None m (list_at lists k.list.0) ∙ there)

  pub next_held : (n : Node) (k : Link T) (m : Node) → AreLinks links ends lists → link_at links n ≡ Some k → k.next ≡ Some m → is_some (link_at links m) ≡ true
  next_held n k m are e is =
      let self : is_node (Some m) m ≡ true = grind (arith, nat_tests) in
      let there : is_in m (list_at lists k.list.0) ≡ true = next_in-list k.list.0 None n m (list_at lists k.list.0) k (listed links ends lists n k are e) (ap (λ (o : Option Node). is_node o m) is ∙ self) in
      own_some k.list.0 (link_at links m) (ap is_some (are.links_are k.list.0 m) ∙ link_in-some k.list.0 None m (list_at lists k.list.0) ∙ there)

  -- a node that leaves its list and comes last in it has been moved back
  pub moved : (n : Node) (k : Link T) → AreLinks links ends lists → link_at links n ≡ Some k → pushed (map (without n) lists) k.list.0 (n, k.value) ≡ map (moved_back n) lists
  moved n k are e = moved_lists lists n k.list.0 k.value (are.once n) (value_from_link k.list.0 None n (list_at lists k.list.0) k (listed links ends lists n k are e))

  -- the last node of a list has a link too, also where one node is in no list
  pub back_held : (n : Node) (l : ℕ) (m : Node) → AreLinksBut n links ends lists → (get_or ends l no_ends).back ≡ Some m → is_some (link_at links m) ≡ true
  back_held n l m but is =
      let self : is_node (Some m) m ≡ true = grind (arith, nat_tests) in
      let last : last_after None (list_at lists l) ≡ Some m =
      sym (ap (λ (es : List Ends). (get_or es l no_ends).back) but.ends_are ∙ ap (λ (f : Ends). f.back) (ends_at lists l)) ∙ is in
      let there : is_in m (list_at lists l) ≡ true = last_in-list None m (list_at lists l) (ap (λ (o : Option Node). is_node o m) last ∙ self) in
      let P : Node → Type 0 = λ i. is_in i (list_at lists l) ≡ true in
      let other : m.0 ≢ n.0 = λ same. (
      let again : is_in n (list_at lists l) ≡ true = subst P (same_node m n same) there in
      let gone = absent_from n lists l but.absent in
      absurd (cc)
      ) in
      own_some l (link_at links m) (ap is_some (but.links_are l m other) ∙ link_in-some l None m (list_at lists l) ∙ there)
