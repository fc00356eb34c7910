-- How the linked messages change, and how a walk from the first one on finds them all.
use Rattle.std.proofs.Common.{◌≡◌, ℕ, zero, ◌+◌, ◌≤◌, ◌<◌, Bool, true, false, not, List, [], ◌∷◌, ◌++◌, map, length, filter, drop, Option, Some, None, refl, sym, ap, ◌∙◌, subst, arith}
use Rattle.std.specs.Prelude.{if◌then◌else◌}
use Rattle.std.specs.List.{list_any}
use Rattle.std.proofs.lemmas.List.{append-nil, append_assoc}
use Rattle.std.proofs.lemmas.Bool.{eqb-true}
use Rattle.hx_lists.specs.Lists.{count}
use Rattle.hx_links.specs.declared.Node.{Node}
use Rattle.hx_links.specs.declared.ListId.{ListId}
use Rattle.hx_links.specs.Pool.{is_at, is_in, holds, value_in, next_in, first_node, pushed, without}
use Rattle.hx_links.proofs.Vacancy.{same_node}
use Rattle.hx_replicas.specs.declared.queue.Waiting.{Waiting}
use Rattle.hx_replicas.specs.Queues.{entries_of, IsOnlyList, ArePlaced, HavePassed}
use Rattle.hx_links.proofs.Walking.{NodesOnce, ComesTo, comes_to, no_first}

abbrev pub Entries : Type 0
Entries = List (Node × Waiting)

abbrev pub Lists : Type 0
Lists = List Entries

pub count-none : {X : Type 0} (p : X → Bool) (xs : List X) → list_any p xs ≡ false → count p xs ≡ 0
count-none p [] e = refl
count-none p (x ∷ xs) e = grind (arith, count-none p xs)

pub count-push : {X : Type 0} (p : X → Bool) (xs : List X) (x : X) → count p (xs ++ x ∷ []) ≡ count p xs + (if p x then 1 else 0)
count-push p [] x = grind arith
count-push p (y ∷ xs) x = grind (arith, count-push p xs x)

count-filter : {X : Type 0} (p k : X → Bool) (xs : List X) → count p (filter k xs) ≤ count p xs
count-filter p k [] = omega arith
count-filter p k (x ∷ xs) = grind (arith, count-filter p k xs)

pub once_push : (n : Node) (w : Waiting) (es : Entries) → NodesOnce es → is_in n es ≡ false → NodesOnce (es ++ (n, w) ∷ [])
once_push n w es once off m = by_test (is_at m (n, w)) refl
  where
    by_test : (b : Bool) → is_at m (n, w) ≡ b → count (is_at m) (es ++ (n, w) ∷ []) ≤ 1
    by_test true at =
        let zero : count (is_at m) es ≡ 0 = subst (λ (i : Node). count (is_at i) es ≡ 0) (same_node n m (eqb-true n.0 m.0 at)) (count-none (is_at n) es off) in
        grind (arith, count-push (is_at m) es (n, w))
    by_test false at = grind (arith, count-push (is_at m) es (n, w), once m)

pub once_without : (n : Node) (es : Entries) → NodesOnce es → NodesOnce (without n es)
once_without n es once m = omega (arith, once m, count-filter (is_at m) (λ e. not (is_at n e)) es)

-- a node that is taken out leaves fewer
pub fewer : (n : Node) (es : Entries) → is_in n es ≡ true → length (without n es) < length es
fewer n [] there = cc
fewer n (x ∷ es) there = by_test (is_at n x) refl (fewer n es)
  where
    most : (ys : Entries) → length (without n ys) ≤ length ys
    most [] = omega arith
    most (y ∷ ys) = grind (arith, most ys)

    by_test : (b : Bool) → is_at n x ≡ b → (is_in n es ≡ true → length (without n es) < length es) → length (without n (x ∷ es)) < length (x ∷ es)
    by_test true at rest = grind (arith, most es)
    by_test false at rest = let less = rest (grind arith) in grind arith

-- a pool of one list
pub one_held : (n : Node) (es : Entries) → is_in n es ≡ true → holds (es ∷ []) n ≡ true
one_held n es there = rw there refl

pub only_entries : (list : Option ListId) (lists : Lists) (n : Node) → IsOnlyList list lists → is_in n (entries_of lists) ≡ true → lists ≡ entries_of lists ∷ []
only_entries None lists n one there = let gone : false ≡ true = subst (λ (ls : Lists). is_in n (entries_of ls) ≡ true) one there in absurd (cc)
only_entries (Some l) lists n one there = one.1

pub only_held : (list : Option ListId) (lists : Lists) (n : Node) → IsOnlyList list lists → is_in n (entries_of lists) ≡ true → holds lists n ≡ true
only_held list lists n one there = subst (λ (ls : Lists). holds ls n ≡ true) (sym (only_entries list lists n one there)) (one_held n (entries_of lists) there)

pub only_kept : (list : Option ListId) (lists lists' : Lists) (es' : Entries) → IsOnlyList list lists → lists ≡ entries_of lists ∷ [] → lists' ≡ es' ∷ [] → IsOnlyList list lists'
only_kept None lists lists' es' one is is' = let both : [] ≡ entries_of lists ∷ [] = sym one ∙ is in absurd (cc)
only_kept (Some l) lists lists' es' one is is' = (one.0, is' ∙ ap (λ (ls : Lists). entries_of ls ∷ []) (sym is'))

pub without_lists : (list : Option ListId) (lists lists' : Lists) (n : Node) → IsOnlyList list lists → is_in n (entries_of lists) ≡ true → lists' ≡ map (without n) lists → lists' ≡ without n (entries_of lists) ∷ []
without_lists list lists lists' n one there is = is ∙ ap (λ (ls : Lists). map (without n) ls) (only_entries list lists n one there)

pub placed_without : (list : Option ListId) (lists lists' : Lists) (n : Node) → ArePlaced list lists → is_in n (entries_of lists) ≡ true → lists' ≡ map (without n) lists → ArePlaced list lists'
placed_without list lists lists' n placed there is =
    let only = without_lists list lists lists' n placed.one there is in
    record {
      one = only_kept list lists lists' (without n (entries_of lists)) placed.one (only_entries list lists n placed.one there) only;
      once = subst NodesOnce (sym (ap entries_of only)) (once_without n (entries_of lists) placed.once);
    }

pub pushed_lists : (l : ListId) (lists lists' : Lists) (n : Node) (w : Waiting) → IsOnlyList (Some l) lists → lists' ≡ pushed lists l.0 (n, w) → lists' ≡ (entries_of lists ++ (n, w) ∷ []) ∷ []
pushed_lists l lists lists' n w one is =
    is ∙ ap (λ (k : ℕ). pushed lists k (n, w)) one.0 ∙ ap (λ (ls : Lists). pushed ls 0 (n, w)) one.1

not_held : (l : ListId) (lists : Lists) (n : Node) → IsOnlyList (Some l) lists → holds lists n ≡ false → is_in n (entries_of lists) ≡ false
not_held l lists n one off =
    let here : holds (entries_of lists ∷ []) n ≡ false = subst (λ (ls : Lists). holds ls n ≡ false) one.1 off in
    grind arith

pub placed_push : (l : ListId) (lists lists' : Lists) (n : Node) (w : Waiting) → ArePlaced (Some l) lists → holds lists n ≡ false → lists' ≡ pushed lists l.0 (n, w) → ArePlaced (Some l) lists'
placed_push l lists lists' n w placed off is =
    let only = pushed_lists l lists lists' n w placed.one is in
    record {
      one = only_kept (Some l) lists lists' (entries_of lists ++ (n, w) ∷ []) placed.one placed.one.1 only;
      once = subst NodesOnce (sym (ap entries_of only)) (once_push n w (entries_of lists) placed.once (not_held l lists n placed.one off));
    }

module _ (es : Entries) (passed : ℕ) (at : Option Node) (found : List Waiting) (n : Node) (once : NodesOnce es) (have : HavePassed es passed at found) (is : at ≡ Some n) where
  pub here : ComesTo es passed n
  here = comes_to es passed n once (sym have.at_next ∙ is)

  pub one_passed : (w : Waiting) → value_in n es ≡ Some w → HavePassed es (passed + 1) (next_in n es) (found ++ w ∷ [])
  one_passed w is_value =
      let same : here.entry.1 ≡ w = let v = here.value in cc in
      record {
        at_next = here.next ∙ ap first_node (sym here.after);
        so_far =
            append_assoc found (w ∷ []) (map (λ e. e.1) (drop (passed + 1) es))
            ∙ ap (λ (ys : Entries). found ++ w ∷ map (λ e. e.1) ys) here.after
            ∙ ap (λ (k : Waiting). found ++ k ∷ map (λ e. e.1) here.rest) (sym same)
            ∙ ap (λ (ys : Entries). found ++ map (λ e. e.1) ys) (sym here.is)
            ∙ have.so_far;
      }

pub at_end : (es : Entries) (passed : ℕ) (at : Option Node) (found : List Waiting) → HavePassed es passed at found → at ≡ None → found ≡ map (λ e. e.1) es
at_end es passed at found have is =
    let none : drop passed es ≡ [] = no_first (drop passed es) (sym have.at_next ∙ is) in
    sym (append-nil found) ∙ ap (λ (ys : Entries). found ++ map (λ e. e.1) ys) (sym none) ∙ have.so_far
