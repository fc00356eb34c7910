-- What becomes of the links of all lists when a node leaves its list, and when one comes last.
use Rattle.std.proofs.Common.{◌≡◌, ◌≢◌, inl, inr, ℕ, zero, suc, ◌+◌, ◌≤◌, ◌<◌, ◌==◌, Bool, true, false, List, [], ◌∷◌, ◌++◌, map, length, get_or, set, Option, Some, None, is_some, option_map, refl, sym, ap, ◌∙◌, subst, arith}
use Rattle.std.specs.Prelude.{if◌then◌else◌}
use Rattle.std.proofs.lemmas.Bool.{cases_eq, eq-eqb, ne_eqb, eqb-true, eqb-false}
use Rattle.std.proofs.lemmas.Bool.Decides.{nat_tests}
use Rattle.std.proofs.lemmas.List.{length-append, length-map, get_or-set_same, set-set}
use Rattle.hx_links.specs.declared.Node.{Node}
use Rattle.hx_links.specs.declared.slots.Link.{Link}
use Rattle.hx_links.specs.declared.chains.Ends.{Ends}
use Rattle.hx_links.specs.Pool.{is_at, is_in, without, occurrences, node_count, first_node, pushed, replaced}
use Rattle.hx_links.specs.Slots.{link_at, held, with_value}
use Rattle.hx_links.specs.Chains.{is_node, make_link, link_in, own, ends_of, list_at, last_after, connected, ends_connected, no_ends, AreLinks, AreLinksBut}
use Rattle.hx_links.proofs.Vacancy.{same_node, get_or-set_test}
use Rattle.hx_links.proofs.Entries.{AreDistinct, times, is_in-none, times-absent, times-present, link_in-absent, link_in-some, without-absent, prev_in-list, next_in-list, last_in-list, connected-other, link_in-without, front-without, back-without, link_in-last, link_in-push, last_after-push, first_node-push}

pub not_true : (b : Bool) → (b ≡ true → ⊥) → b ≡ false
not_true true h = absurd (h refl)
not_true false h = refl

module _ {T : Type 0} where
  pub times-le-occurrences : (n : Node) (lists : List (List (Node × T))) (l : ℕ) → times n (list_at lists l) ≤ occurrences n lists
  times-le-occurrences n [] l = omega arith
  times-le-occurrences n (xs ∷ lists) zero = omega arith
  times-le-occurrences n (xs ∷ lists) (suc l) = omega (arith, times-le-occurrences n lists l)

  -- two lists have the node no more often than all
  times-two : (n : Node) (lists : List (List (Node × T))) (j l : ℕ) → j ≢ l → times n (list_at lists j) + times n (list_at lists l) ≤ occurrences n lists
  times-two n [] j l ne = omega arith
  times-two n (xs ∷ lists) zero zero ne = absurd (ne refl)
  times-two n (xs ∷ lists) zero (suc l) ne = omega (arith, times-le-occurrences n lists l)
  times-two n (xs ∷ lists) (suc j) zero ne = omega (arith, times-le-occurrences n lists j)
  times-two n (xs ∷ lists) (suc j) (suc l) ne = omega (arith, times-two n lists j l (λ e. ne (ap suc e)))

  -- a node that no list has
  pub none_occurs : (n : Node) (lists : List (List (Node × T))) → ((l : ℕ) → is_in n (list_at lists l) ≡ false) → occurrences n lists ≡ 0
  none_occurs n [] h = refl
  none_occurs n (xs ∷ lists) h = omega (arith, times-absent n xs (h 0), none_occurs n lists (λ l. h (suc l)))

  pub absent_from : (n : Node) (lists : List (List (Node × T))) (l : ℕ) → occurrences n lists ≡ 0 → is_in n (list_at lists l) ≡ false
  absent_from n lists l e = is_in-none n (list_at lists l) (omega (arith, times-le-occurrences n lists l))

  -- the lists without a node
  pub list_at-without : (n : Node) (lists : List (List (Node × T))) (l : ℕ) → list_at (map (without n) lists) l ≡ without n (list_at lists l)
  list_at-without n [] l = refl
  list_at-without n (xs ∷ lists) zero = refl
  list_at-without n (xs ∷ lists) (suc l) = list_at-without n lists l

  pub all_without-absent : (n : Node) (lists : List (List (Node × T))) → occurrences n lists ≡ 0 → map (without n) lists ≡ lists
  all_without-absent n [] e = refl
  all_without-absent n (xs ∷ lists) e =
      let here : without n xs ≡ xs = without-absent n xs (is_in-none n xs (omega arith)) in
      let there : map (without n) lists ≡ lists = all_without-absent n lists (omega arith) in
      rw (here, there) refl

  ends-without : (n : Node) (lists : List (List (Node × T))) (l : ℕ) → occurrences n lists ≤ 1 → 1 ≤ times n (list_at lists l) → map ends_of (map (without n) lists) ≡ set (map ends_of lists) l (ends_of (without n (list_at lists l)))
  ends-without n [] l once here = refl
  ends-without n (xs ∷ lists) zero once here =
      let rest : map (without n) lists ≡ lists = all_without-absent n lists (omega arith) in
      ap (λ ys. ends_of (without n xs) ∷ map ends_of ys) rest
  ends-without n (xs ∷ lists) (suc l) once here =
      let below = times-le-occurrences n lists l in
      let first : without n xs ≡ xs = without-absent n xs (is_in-none n xs (omega arith)) in
      let rest = ends-without n lists l (omega arith) here in
      ap (λ ys. ends_of ys ∷ map ends_of (map (without n) lists)) first ∙ ap (λ es. ends_of xs ∷ es) rest

  length-without : (n : Node) (xs : List (Node × T)) → length (without n xs) + times n xs ≡ length xs
  length-without n [] = refl
  length-without n (x ∷ xs) = grind (arith, length-without n xs)

  pub count-without : (n : Node) (lists : List (List (Node × T))) → node_count (map (without n) lists) + occurrences n lists ≡ node_count lists
  count-without n [] = refl
  count-without n (xs ∷ lists) = omega (arith, count-without n lists, length-without n xs)

  times-without : (n m : Node) (xs : List (Node × T)) → times m (without n xs) ≤ times m xs
  times-without n m [] = omega arith
  times-without n m (x ∷ xs) = grind (arith, times-without n m xs)

  times-without_same : (n : Node) (xs : List (Node × T)) → times n (without n xs) ≡ 0
  times-without_same n [] = refl
  times-without_same n (x ∷ xs) = grind (arith, times-without_same n xs)

  pub occurrences-without : (n m : Node) (lists : List (List (Node × T))) → occurrences m (map (without n) lists) ≤ occurrences m lists
  occurrences-without n m [] = omega arith
  occurrences-without n m (xs ∷ lists) = omega (arith, occurrences-without n m lists, times-without n m xs)

  pub occurrences-without_same : (n : Node) (lists : List (List (Node × T))) → occurrences n (map (without n) lists) ≡ 0
  occurrences-without_same n [] = refl
  occurrences-without_same n (xs ∷ lists) = omega (arith, occurrences-without_same n lists, times-without_same n xs)

  -- the lists with one more entry
  pub list_at-pushed : (lists : List (List (Node × T))) (l : ℕ) (e : Node × T) → l < length lists → list_at (pushed lists l e) l ≡ list_at lists l ++ e ∷ []
  list_at-pushed [] l e within = absurd (omega arith)
  list_at-pushed (xs ∷ lists) zero e within = refl
  list_at-pushed (xs ∷ lists) (suc l) e within = list_at-pushed lists l e (omega arith)

  pub list_at-pushed_other : (lists : List (List (Node × T))) (l j : ℕ) (e : Node × T) → j ≢ l → list_at (pushed lists l e) j ≡ list_at lists j
  list_at-pushed_other [] l j e ne = refl
  list_at-pushed_other (xs ∷ lists) zero zero e ne = absurd (ne refl)
  list_at-pushed_other (xs ∷ lists) zero (suc j) e ne = refl
  list_at-pushed_other (xs ∷ lists) (suc l) zero e ne = refl
  list_at-pushed_other (xs ∷ lists) (suc l) (suc j) e ne = list_at-pushed_other lists l j e (λ h. ne (ap suc h))

  ends-pushed : (lists : List (List (Node × T))) (l : ℕ) (e : Node × T) → map ends_of (pushed lists l e) ≡ set (map ends_of lists) l (ends_of (list_at lists l ++ e ∷ []))
  ends-pushed [] l e = refl
  ends-pushed (xs ∷ lists) zero e = refl
  ends-pushed (xs ∷ lists) (suc l) e = ap (λ es. ends_of xs ∷ es) (ends-pushed lists l e)

  pub count-pushed : (lists : List (List (Node × T))) (l : ℕ) (e : Node × T) → l < length lists → node_count (pushed lists l e) ≡ node_count lists + 1
  count-pushed [] l e within = absurd (omega arith)
  count-pushed (xs ∷ lists) zero e within = omega (arith, length-append xs (e ∷ []))
  count-pushed (xs ∷ lists) (suc l) e within = omega (arith, count-pushed lists l e (omega arith))

  times-push : (m : Node) (e : Node × T) (xs : List (Node × T)) → times m (xs ++ e ∷ []) ≡ times m xs + (if is_at m e then 1 else 0)
  times-push m e [] = grind arith
  times-push m e (x ∷ xs) = grind (arith, times-push m e xs)

  pub occurrences-pushed : (m : Node) (lists : List (List (Node × T))) (l : ℕ) (e : Node × T) → occurrences m (pushed lists l e) ≤ occurrences m lists + (if is_at m e then 1 else 0)
  occurrences-pushed m [] l e = omega arith
  occurrences-pushed m (xs ∷ lists) zero e = omega (arith, times-push m e xs)
  occurrences-pushed m (xs ∷ lists) (suc l) e = omega (arith, occurrences-pushed m lists l e)

  -- the list that a link is of
  own-some : (l : ℕ) (k : Link T) → k.list.0 ≡ l → own l (Some k) ≡ Some k
  own-some l k is = rw (eq-eqb k.list.0 l is) refl

  own-other : (l : ℕ) (k : Link T) → k.list.0 ≢ l → own l (Some k) ≡ None
  own-other l k ne = rw (ne_eqb k.list.0 l ne) refl

  own-connected : (l : ℕ) (before after : Option Node) (m : Node) (k : Option (Link T)) → own l (connected before after m k) ≡ connected before after m (own l k)
  own-connected l before after m None = refl
  own-connected l before after m (Some k) = by_test (k.list.0 == l) refl
    where
      by_test : (b : Bool) → (k.list.0 == l) ≡ b → own l (connected before after m (Some k)) ≡ connected before after m (own l (Some k))
      by_test true is = rw is refl
      by_test false is = rw is refl

  -- a link's list holds its node
  pub listed : (links : List (Option (Link T))) (ends : List Ends) (lists : List (List (Node × T))) (n : Node) (k : Link T) → AreLinks links ends lists → link_at links n ≡ Some k → link_in k.list.0 None n (list_at lists k.list.0) ≡ Some k
  listed links ends lists n k are e = sym (are.links_are k.list.0 n) ∙ ap (own k.list.0) e ∙ own-some k.list.0 k refl

  pub distinct_at : (lists : List (List (Node × T))) (l : ℕ) → ((m : Node) → occurrences m lists ≤ 1) → AreDistinct (list_at lists l)
  distinct_at lists l once m = omega (arith, once m, times-le-occurrences m lists l)

  -- no node is in two lists
  apart : (lists : List (List (Node × T))) (j l : ℕ) (m : Node) → j ≢ l → occurrences m lists ≤ 1 → is_in m (list_at lists j) ≡ true → is_in m (list_at lists l) ≡ true → ⊥
  apart lists j l m ne once one two =
      omega (arith, times-two m lists j l ne, times-present m (list_at lists j) one, times-present m (list_at lists l) two)

  pub ends_at : (lists : List (List (Node × T))) (l : ℕ) → get_or (map ends_of lists) l no_ends ≡ ends_of (list_at lists l)
  ends_at [] l = refl
  ends_at (xs ∷ lists) zero = refl
  ends_at (xs ∷ lists) (suc l) = ends_at lists l

  -- a change that touches nodes of one list alone leaves the links of another
  other_list : (lists : List (List (Node × T))) (j l : ℕ) (before after : Option Node) (m : Node) → j ≢ l → occurrences m lists ≤ 1
      → (is_node before m ≡ true → is_in m (list_at lists l) ≡ true) → (is_node after m ≡ true → is_in m (list_at lists l) ≡ true)
      → connected before after m (link_in j None m (list_at lists j)) ≡ link_in j None m (list_at lists j)
  other_list lists j l before after m ne once hb ha =
      connected-other before after m (link_in j None m (list_at lists j))
      (λ some. not_true (is_node before m) (λ h. apart lists j l m ne once (sym (link_in-some j None m (list_at lists j)) ∙ some) (hb h)))
      (λ some. not_true (is_node after m) (λ h. apart lists j l m ne once (sym (link_in-some j None m (list_at lists j)) ∙ some) (ha h)))

  -- a node that leaves its list, whose neighbours are neighbours then
  pub detached : (links links' : List (Option (Link T))) (ends ends' : List Ends) (lists : List (List (Node × T))) (n : Node) (k : Link T)
      → AreLinks links ends lists → link_at links n ≡ Some k
      → ((m : Node) → link_at links' m ≡ connected k.prev k.next m (link_at links m))
      → ends' ≡ set ends k.list.0 (ends_connected k.prev k.next (get_or ends k.list.0 no_ends))
      → held links' ≡ held links
      → AreLinksBut n links' ends' (map (without n) lists)
  detached links links' ends ends' lists n k are e links_are ends_are held_is =
      record {
        ends_are = rw (ends_are, are.ends_are, ends_at lists l, ends-without n lists l (are.once n) (times-present n xs present), front, back) refl;
        links_are = λ j m ne. elim (cases_eq j l) [ inl same ↦ subst (λ i. own i (link_at links' m) ≡ link_in i None m (list_at (map (without n) lists) i)) (sym same) (in_list m ne) | inr other ↦ elsewhere j m other ];
        once = λ m. omega (arith, are.once m, occurrences-without n m lists);
        all = omega (arith, are.all, held_is, count-without n lists, are.once n, times-present n xs present, times-le-occurrences n lists l);
        absent = occurrences-without_same n lists;
      }
    where
      l : ℕ
      l = k.list.0

      xs : List (Node × T)
      xs = list_at lists l

      here : link_in l None n xs ≡ Some k
      here = listed links ends lists n k are e

      present : is_in n xs ≡ true
      present = sym (link_in-some l None n xs) ∙ ap is_some here

      distinct : AreDistinct xs
      distinct = distinct_at lists l are.once

      front : first_node (without n xs) ≡ (if is_some k.prev then first_node xs else k.next)
      front = front-without l n xs k distinct here

      back : last_after None (without n xs) ≡ (if is_some k.next then last_after None xs else k.prev)
      back = back-without l None n xs k distinct here

      in_list : (m : Node) → m.0 ≢ n.0 → own l (link_at links' m) ≡ link_in l None m (list_at (map (without n) lists) l)
      in_list m ne =
          let new = link_in-without l None n m xs k distinct (λ i h. absurd (cc)) here in
          let kept : link_in l None m (without n xs) ≡ connected k.prev k.next m (link_in l None m xs) = rw (ne_eqb m.0 n.0 ne) at new in
          ap (own l) (links_are m) ∙ own-connected l k.prev k.next m (link_at links m) ∙ ap (connected k.prev k.next m) (are.links_are l m)
          ∙ sym kept ∙ ap (link_in l None m) (sym (list_at-without n lists l))

      elsewhere : (j : ℕ) (m : Node) → j ≢ l → own j (link_at links' m) ≡ link_in j None m (list_at (map (without n) lists) j)
      elsewhere j m ne =
          let absent : is_in n (list_at lists j) ≡ false = not_true (is_in n (list_at lists j)) (λ h. apart lists j l n ne (are.once n) h present) in
          ap (own j) (links_are m) ∙ own-connected j k.prev k.next m (link_at links m) ∙ ap (connected k.prev k.next m) (are.links_are j m)
          ∙ other_list lists j l k.prev k.next m ne (are.once m) (λ h. prev_in-list l None n m xs k here h) (λ h. next_in-list l None n m xs k here h)
          ∙ ap (link_in j None m) (sym (without-absent n (list_at lists j) absent) ∙ sym (list_at-without n lists j))

  -- a node that is in no list loses its link
  pub removed : (links links' : List (Option (Link T))) (ends : List Ends) (lists : List (List (Node × T))) (n : Node)
      → AreLinksBut n links ends lists → n.0 < length links → links' ≡ set links n.0 None → held links' + 1 ≡ held links → AreLinks links' ends lists
  removed links links' ends lists n but within is held_is =
      record {
        ends_are = but.ends_are;
        links_are = λ l m. ap (λ (ls : List (Option (Link T))). own l (link_at ls m)) is ∙ by_test l m (m.0 == n.0) refl;
        once = but.once;
        all = omega (arith, but.all, held_is);
      }
    where
      by_test : (l : ℕ) (m : Node) (b : Bool) → (m.0 == n.0) ≡ b → own l (link_at (set links n.0 None) m) ≡ link_in l None m (list_at lists l)
      by_test l m true same =
          let one : n ≡ m = sym (same_node m n (eqb-true m.0 n.0 same)) in
          let P : Node → Type 0 = λ i. link_in l None i (list_at lists l) ≡ None in
          let gone : link_in l None m (list_at lists l) ≡ None = subst P one (link_in-absent l None n (list_at lists l) (absent_from n lists l but.absent)) in
          rw (get_or-set_test links n.0 m.0 None None within, same) (sym gone)
      by_test l m false other = rw (get_or-set_test links n.0 m.0 None None within, other) (but.links_are l m (eqb-false m.0 n.0 other))

  -- a new node with a link that is in no list
  pub inserted : (links links' : List (Option (Link T))) (ends : List Ends) (lists : List (List (Node × T))) (n : Node) (k : Link T)
      → AreLinks links ends lists → link_at links n ≡ None → ((m : Node) → link_at links' m ≡ (if m.0 == n.0 then Some k else link_at links m)) → held links' ≡ held links + 1
      → AreLinksBut n links' ends lists
  inserted links links' ends lists n k are vacant links_are held_is =
      record {
        ends_are = are.ends_are;
        links_are = λ l m ne. ap (own l) (links_are m ∙ (rw (ne_eqb m.0 n.0 ne) refl)) ∙ are.links_are l m;
        once = are.once;
        all = omega (arith, are.all, held_is);
        absent = none_occurs n lists nowhere;
      }
    where
      nowhere : (l : ℕ) → is_in n (list_at lists l) ≡ false
      nowhere l = sym (link_in-some l None n (list_at lists l)) ∙ ap is_some (sym (are.links_are l n) ∙ ap (own l) vacant)

  -- a node that is in no list comes last in one
  pub appended : (links links1 links2 : List (Option (Link T))) (ends ends1 ends2 : List Ends) (lists : List (List (Node × T))) (n : Node) (k : Link T) (back : Option Node)
      → AreLinksBut n links ends lists → link_at links n ≡ Some k → k.list.0 < length lists
      → (get_or ends k.list.0 no_ends).back ≡ back
      → ((m : Node) → link_at links1 m ≡ connected back (Some n) m (link_at links m))
      → ends1 ≡ set ends k.list.0 (ends_connected back (Some n) (get_or ends k.list.0 no_ends))
      → ((m : Node) → link_at links2 m ≡ connected (Some n) None m (link_at links1 m))
      → ends2 ≡ set ends1 k.list.0 (ends_connected (Some n) None (get_or ends1 k.list.0 no_ends))
      → held links2 ≡ held links
      → AreLinks links2 ends2 (pushed lists k.list.0 (n, k.value))
  appended links links1 links2 ends ends1 ends2 lists n k back but e within back_is one ends1_are two ends2_are held_is =
      record {
        ends_are = rw (ends2_are, ends1_are, get_or-set_same ends l (ends_connected back (Some n) (get_or ends l no_ends)) no_ends within_ends, set-set, last_is, but.ends_are, ends_at lists l, ends-pushed lists l (n, k.value), first_node-push (n, k.value) xs, last_after-push None (n, k.value) xs) refl;
        links_are = λ j m. by_test j m (m.0 == n.0) refl;
        once = λ m. grind (arith, nat_tests, occurrences-pushed m lists l (n, k.value), but.once m, but.absent, same_node m n);
        all = omega (arith, but.all, held_is, count-pushed lists l (n, k.value) within);
      }
    where
      l : ℕ
      l = k.list.0

      xs : List (Node × T)
      xs = list_at lists l

      last : Option Node
      last = last_after None xs

      last_is : back ≡ last
      last_is = sym back_is ∙ ap (λ (es : List Ends). (get_or es l no_ends).back) but.ends_are ∙ ap (λ (f : Ends). f.back) (ends_at lists l)

      within_ends : l < length ends
      within_ends = omega (arith, within, ap length but.ends_are, length-map lists ends_of)

      last_in : (m : Node) → is_node last m ≡ true → is_in m xs ≡ true
      last_in m h = last_in-list None m xs h

      distinct : AreDistinct xs
      distinct = distinct_at lists l but.once

      self : (n.0 == n.0) ≡ true
      self = grind (arith, nat_tests)

      both : (m : Node) → link_at links2 m ≡ connected (Some n) None m (connected last (Some n) m (link_at links m))
      both m = two m ∙ ap (connected (Some n) None m) (one m ∙ ap (λ b. connected b (Some n) m (link_at links m)) last_is)

      -- the node itself
      here : link_at links2 n ≡ Some (make_link l last None k.value)
      here =
          let is : connected (Some n) None n (connected last (Some n) n (Some k)) ≡ Some (make_link l last None k.value) = rw self refl in
          both n ∙ ap (λ s. connected (Some n) None n (connected last (Some n) n s)) e ∙ is

      -- any other
      there : (m : Node) → (m.0 == n.0) ≡ false → link_at links2 m ≡ connected last (Some n) m (link_at links m)
      there m other =
          let off : (n.0 == m.0) ≡ false = grind (arith, nat_tests) in
          both m ∙ connected-other (Some n) None m (connected last (Some n) m (link_at links m)) (λ _. off) (λ _. refl)

      by_test : (j : ℕ) (m : Node) (b : Bool) → (m.0 == n.0) ≡ b → own j (link_at links2 m) ≡ link_in j None m (list_at (pushed lists l (n, k.value)) j)
      by_test j m true same =
          let P : Node → Type 0 = λ i. own j (link_at links2 i) ≡ link_in j None i (list_at (pushed lists l (n, k.value)) j) in
          subst P (sym (same_node m n (eqb-true m.0 n.0 same))) (elim (cases_eq j l) [
            | inl is ↦ let Q : ℕ → Type 0 = λ i. own i (link_at links2 n) ≡ link_in i None n (list_at (pushed lists l (n, k.value)) i) in subst Q (sym is)
                (ap (own l) here ∙ own-some l (make_link l last None k.value) refl
                ∙ sym (ap (link_in l None n) (list_at-pushed lists l (n, k.value) within) ∙ link_in-last l None (n, k.value) xs (absent_from n lists l but.absent)))
            | inr ne ↦ ap (own j) here ∙ own-other j (make_link l last None k.value) (λ h. ne (sym h))
                ∙ sym (ap (link_in j None n) (list_at-pushed_other lists l j (n, k.value) ne) ∙ link_in-absent j None n (list_at lists j) (absent_from n lists j but.absent))
          ])
      by_test j m false other =
          let off : (n.0 == m.0) ≡ false = grind (arith, nat_tests) in
          ap (own j) (there m other) ∙ own-connected j last (Some n) m (link_at links m) ∙ ap (connected last (Some n) m) (but.links_are j m (eqb-false m.0 n.0 other))
          ∙ (elim (cases_eq j l) [
            | inl is ↦ let Q : ℕ → Type 0 = λ i. connected last (Some n) m (link_in i None m (list_at lists i)) ≡ link_in i None m (list_at (pushed lists l (n, k.value)) i) in subst Q (sym is)
                (sym (ap (link_in l None m) (list_at-pushed lists l (n, k.value) within) ∙ link_in-push l None m (n, k.value) xs distinct off))
            | inr ne ↦ other_list lists j l last (Some n) m ne (but.once m) (last_in m) (λ h. absurd (cc)) ∙ ap (link_in j None m) (sym (list_at-pushed_other lists l j (n, k.value) ne))
          ])

  -- a node with another value
  first_node-replaced : (n : Node) (v : T) (xs : List (Node × T)) → first_node (map (replaced n v) xs) ≡ first_node xs
  first_node-replaced n v [] = refl
  first_node-replaced n v (x ∷ xs) = refl

  last_after-replaced : (p : Option Node) (n : Node) (v : T) (xs : List (Node × T)) → last_after p (map (replaced n v) xs) ≡ last_after p xs
  last_after-replaced p n v [] = refl
  last_after-replaced p n v (x ∷ xs) = last_after-replaced (Some x.0) n v xs

  times-replaced : (n m : Node) (v : T) (xs : List (Node × T)) → times m (map (replaced n v) xs) ≡ times m xs
  times-replaced n m v [] = refl
  times-replaced n m v (x ∷ xs) = grind (arith, times-replaced n m v xs)

  link_in-replaced : (l : ℕ) (p : Option Node) (n m : Node) (v : T) (xs : List (Node × T)) → link_in l p m (map (replaced n v) xs) ≡ (if m.0 == n.0 then option_map (with_value v) (link_in l p m xs) else link_in l p m xs)
  link_in-replaced l p n m v [] = by_test (m.0 == n.0)
    where
      by_test : (b : Bool) → None ≡ (if b then option_map (with_value v) None else None)
      by_test true = refl
      by_test false = refl
  link_in-replaced l p n m v (x ∷ xs) = by_test (is_at m x) refl (m.0 == n.0) refl (link_in-replaced l (Some x.0) n m v xs)
    where
      by_test : (b : Bool) → is_at m x ≡ b → (d : Bool) → (m.0 == n.0) ≡ d
          → link_in l (Some x.0) m (map (replaced n v) xs) ≡ (if d then option_map (with_value v) (link_in l (Some x.0) m xs) else link_in l (Some x.0) m xs)
          → link_in l p m (map (replaced n v) (x ∷ xs)) ≡ (if d then option_map (with_value v) (link_in l p m (x ∷ xs)) else link_in l p m (x ∷ xs))
      by_test true at true same rest = let here : is_at n x ≡ true = grind (arith, nat_tests) in rw (at, here, first_node-replaced n v xs) refl
      by_test true at false other rest = let there : is_at n x ≡ false = grind (arith, nat_tests) in rw (at, there, first_node-replaced n v xs) refl
      by_test false at true same rest = rw at rest
      by_test false at false other rest = rw at rest

  list_at-replaced : (n : Node) (v : T) (lists : List (List (Node × T))) (l : ℕ) → list_at (map (map (replaced n v)) lists) l ≡ map (replaced n v) (list_at lists l)
  list_at-replaced n v [] l = refl
  list_at-replaced n v (xs ∷ lists) zero = refl
  list_at-replaced n v (xs ∷ lists) (suc l) = list_at-replaced n v lists l

  ends-replaced : (n : Node) (v : T) (lists : List (List (Node × T))) → map ends_of (map (map (replaced n v)) lists) ≡ map ends_of lists
  ends-replaced n v [] = refl
  ends-replaced n v (xs ∷ lists) = rw (first_node-replaced n v xs, last_after-replaced None n v xs, ends-replaced n v lists) refl

  occurrences-replaced : (n m : Node) (v : T) (lists : List (List (Node × T))) → occurrences m (map (map (replaced n v)) lists) ≡ occurrences m lists
  occurrences-replaced n m v [] = refl
  occurrences-replaced n m v (xs ∷ lists) = omega (arith, occurrences-replaced n m v lists, times-replaced n m v xs)

  count-replaced : (n : Node) (v : T) (lists : List (List (Node × T))) → node_count (map (map (replaced n v)) lists) ≡ node_count lists
  count-replaced n v [] = refl
  count-replaced n v (xs ∷ lists) = omega (arith, count-replaced n v lists, length-map xs (replaced n v))

  own-value : (l : ℕ) (v : T) (k : Option (Link T)) → own l (option_map (with_value v) k) ≡ option_map (with_value v) (own l k)
  own-value l v None = refl
  own-value l v (Some k) = by_test (k.list.0 == l)
    where
      by_test : (b : Bool) → (if b then Some (with_value v k) else None) ≡ option_map (with_value v) (if b then Some k else None)
      by_test true = refl
      by_test false = refl

  pub with_replaced : (links links' : List (Option (Link T))) (ends : List Ends) (lists : List (List (Node × T))) (n : Node) (v : T)
      → AreLinks links ends lists → n.0 < length links → links' ≡ set links n.0 (option_map (with_value v) (link_at links n)) → held links' ≡ held links
      → AreLinks links' ends (map (map (replaced n v)) lists)
  with_replaced links links' ends lists n v are within is held_is =
      record {
        ends_are = are.ends_are ∙ sym (ends-replaced n v lists);
        links_are = λ l m. (
            ap (λ (ls : List (Option (Link T))). own l (link_at ls m)) is ∙ by_test l m (m.0 == n.0) refl
            ∙ sym (ap (link_in l None m) (list_at-replaced n v lists l) ∙ link_in-replaced l None n m v (list_at lists l))
            );
        once = λ m. omega (arith, are.once m, occurrences-replaced n m v lists);
        all = omega (arith, are.all, held_is, count-replaced n v lists);
      }
    where
      by_test : (l : ℕ) (m : Node) (b : Bool) → (m.0 == n.0) ≡ b
          → own l (link_at (set links n.0 (option_map (with_value v) (link_at links n))) m) ≡ (if b then option_map (with_value v) (link_in l None m (list_at lists l)) else link_in l None m (list_at lists l))
      by_test l m true same =
          let one : n ≡ m = sym (same_node m n (eqb-true m.0 n.0 same)) in
          rw (get_or-set_test links n.0 m.0 (option_map (with_value v) (link_at links n)) None within, same)
          (own-value l v (link_at links n) ∙ ap (option_map (with_value v)) (are.links_are l n ∙ ap (λ (i : Node). link_in l None i (list_at lists l)) one))
      by_test l m false other = rw (get_or-set_test links n.0 m.0 (option_map (with_value v) (link_at links n)) None within, other) (are.links_are l m)
