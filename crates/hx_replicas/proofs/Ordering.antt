-- What waits, put in order, are the accepted messages of the slots in order.
use Rattle.std.proofs.Common.{◌≡◌, ℕ, zero, suc, ◌+◌, ◌<◌, ◌==◌, Bool, true, false, List, [], ◌∷◌, map, filter, Option, Some, None, refl, sym, ap, ◌∙◌, arith}
use Rattle.std.specs.Prelude.{if◌then◌else◌, slice_get}
use Rattle.std.specs.Cmp.{IsStrictWeakOrder}
use Rattle.std.specs.List.{filter_map}
use Rattle.std.specs.List.Sorted.{IsSortedBy, IsStableBy, ties}
use Rattle.std.proofs.lemmas.Bool.Decides.{nat_tests}
use Rattle.hx_lists.specs.Lists.{sort_by, insert_by}
use Rattle.hx_cluster.specs.declared.state.Message.{Message}
use Rattle.hx_links.specs.declared.Node.{Node}
use Rattle.hx_parts.proofs.Sorting.{sort_is}
use Rattle.hx_replicas.specs.declared.queue.Waiting.{Waiting}
use Rattle.hx_replicas.specs.declared.slots.Slot.{Slot}
use Rattle.hx_replicas.specs.Participants.{accepted_of, number_before}
use Rattle.hx_replicas.specs.Queues.{waits_before}
use Rattle.hx_replicas.specs.Indexes.{waits_in, waits_of, is_of, AreWaiting}
use Rattle.hx_replicas.proofs.Queues.{Entries}

order : IsStrictWeakOrder waits_before
order = record {
  one_way = λ x y e. grind (arith, nat_tests, e);
  chain = λ x y z e h. grind (arith, nat_tests, e, h);
}

-- those that tie are of one place
ties_apart : (z w : Waiting) → (w.place == z.place) ≡ false → ties waits_before z w ≡ false
ties_apart z w e = grind (arith, nat_tests, e)

-- the slots' accepted messages, each with its place
abbrev waits_then : ℕ → Option Message → List Waiting → List Waiting
waits_then i None ws = ws
waits_then i (Some m) ws = record { place = i; message = m } ∷ ws

abbrev values : Entries → List Waiting
values es = map (λ e. e.1) es

of_more : (p : ℕ) (e : Node × Waiting) (es : Entries) → is_of p e ≡ true → filter (is_of p) (e ∷ es) ≡ e ∷ filter (is_of p) es
of_more p e es of = rw of refl

of_same : (p : ℕ) (e : Node × Waiting) (es : Entries) → is_of p e ≡ false → filter (is_of p) (e ∷ es) ≡ filter (is_of p) es
of_same p e es of = rw of refl

ties-of : (z : Waiting) (es : Entries) → filter (ties waits_before z) (values es) ≡ filter (ties waits_before z) (values (filter (is_of z.place) es))
ties-of z [] = refl
ties-of z (e ∷ es) = by_test (is_of z.place e) refl (ties-of z es)
  where
    by_test : (b : Bool) → is_of z.place e ≡ b → filter (ties waits_before z) (values es) ≡ filter (ties waits_before z) (values (filter (is_of z.place) es)) → filter (ties waits_before z) (values (e ∷ es)) ≡ filter (ties waits_before z) (values (filter (is_of z.place) (e ∷ es)))
    by_test true of rest = front (ties waits_before z e.1) ∙ sym (ap (λ (ys : Entries). filter (ties waits_before z) (values ys)) (of_more z.place e es of))
      where
        front : (d : Bool) → (if d then e.1 ∷ filter (ties waits_before z) (values es) else filter (ties waits_before z) (values es)) ≡ (if d then e.1 ∷ filter (ties waits_before z) (values (filter (is_of z.place) es)) else filter (ties waits_before z) (values (filter (is_of z.place) es)))
        front true = ap (λ ws. e.1 ∷ ws) rest
        front false = rest
    by_test false of rest =
        let off : filter (ties waits_before z) (e.1 ∷ values es) ≡ filter (ties waits_before z) (values es) = rw (ties_apart z e.1 of) refl in
        off ∙ rest ∙ sym (ap (λ (ys : Entries). filter (ties waits_before z) (values ys)) (of_same z.place e es of))

module _ {H : Type 0} where
  abbrev waiting_from : ℕ → List (Slot H) → List Waiting
  waiting_from i [] = []
  waiting_from i (x ∷ xs) = waits_then i (accepted_of x.work) (waiting_from (suc i) xs)

  -- none of a place before all
  ties_none : (z : Waiting) (i : ℕ) (xs : List (Slot H)) → z.place < i → filter (ties waits_before z) (waiting_from i xs) ≡ []
  ties_none z i [] lt = refl
  ties_none z i (x ∷ xs) lt = by_case (accepted_of x.work) (ties_none z (suc i) xs (omega arith))
    where
      by_case : (o : Option Message) → filter (ties waits_before z) (waiting_from (suc i) xs) ≡ [] → filter (ties waits_before z) (waits_then i o (waiting_from (suc i) xs)) ≡ []
      by_case None rest = rest
      by_case (Some m) rest =
          let apart : (i == z.place) ≡ false = grind (arith, nat_tests, lt) in
          rw (ties_apart z (record { place = i; message = m }) apart) rest

  ties_from : (z : Waiting) (i j : ℕ) (xs : List (Slot H)) → z.place ≡ i + j → filter (ties waits_before z) (waiting_from i xs) ≡ filter (ties waits_before z) (values (waits_of z.place (slice_get xs j)))
  ties_from z i j [] is = refl
  ties_from z i zero (x ∷ xs) is = by_case (accepted_of x.work) (ties_none z (suc i) xs (omega arith))
    where
      here : i ≡ z.place
      here = omega (arith, is)

      by_case : (o : Option Message) → filter (ties waits_before z) (waiting_from (suc i) xs) ≡ [] → filter (ties waits_before z) (waits_then i o (waiting_from (suc i) xs)) ≡ filter (ties waits_before z) (values (waits_in x.node z.place o))
      by_case None rest = rest
      by_case (Some m) rest =
          ap (λ (k : ℕ). filter (ties waits_before z) (record { place = k; message = m } ∷ waiting_from (suc i) xs)) here
          ∙ front (ties waits_before z (record { place = z.place; message = m }))
        where
          front : (d : Bool) → (if d then record { place = z.place; message = m } ∷ filter (ties waits_before z) (waiting_from (suc i) xs) else filter (ties waits_before z) (waiting_from (suc i) xs)) ≡ (if d then record { place = z.place; message = m } ∷ [] else [])
          front true = ap (λ (ws : List Waiting). record { place = z.place; message = m } ∷ ws) rest
          front false = rest
  ties_from z i (suc j) (x ∷ xs) is = by_case (accepted_of x.work) (ties_from z (suc i) j xs (omega (arith, is)))
    where
      by_case : (o : Option Message) → filter (ties waits_before z) (waiting_from (suc i) xs) ≡ filter (ties waits_before z) (values (waits_of z.place (slice_get xs j))) → filter (ties waits_before z) (waits_then i o (waiting_from (suc i) xs)) ≡ filter (ties waits_before z) (values (waits_of z.place (slice_get xs j)))
      by_case None rest = rest
      by_case (Some m) rest =
          let apart : (i == z.place) ≡ false = grind (arith, nat_tests, is) in
          rw (ties_apart z (record { place = i; message = m }) apart) rest

  same_waits : (es : Entries) (xs : List (Slot H)) (ws : List Waiting) → AreWaiting es xs → IsStableBy waits_before (values es) ws → IsStableBy waits_before (waiting_from 0 xs) ws
  same_waits es xs ws was stable z =
      stable z ∙ ties-of z es ∙ ap (λ ys. filter (ties waits_before z) (values ys)) (was.waits z.place)
      ∙ sym (ties_from z 0 z.place xs (omega arith))

-- all are behind a place
Above : ℕ → List Waiting → Type 0
Above i [] = Unit {0}
Above i (w ∷ ws) = (i < w.place) × Above i ws

above-insert : (i : ℕ) (w : Waiting) (ws : List Waiting) → i < w.place → Above i ws → Above i (insert_by waits_before w ws)
unfolding Above
above-insert i w [] lt above = (lt, tt)
above-insert i w (y ∷ ws) lt above = by_test (waits_before y w) (above-insert i w ws lt above.1)
  where
    by_test : (b : Bool) → Above i (insert_by waits_before w ws) → Above i (if b then y ∷ insert_by waits_before w ws else w ∷ y ∷ ws)
    by_test true rest = (above.0, rest)
    by_test false rest = (lt, above)

above-sort : (i : ℕ) (ws : List Waiting) → Above i ws → Above i (sort_by waits_before ws)
unfolding Above
above-sort i [] above = tt
above-sort i (w ∷ ws) above = above-insert i w (sort_by waits_before ws) above.0 (above-sort i ws above.1)

-- one that is of a place before all goes in by its number
insert_first : (i : ℕ) (m : Message) (ws : List Waiting) → Above i ws → map (λ w. w.message) (insert_by waits_before (record { place = i; message = m }) ws) ≡ insert_by number_before m (map (λ w. w.message) ws)
unfolding Above
insert_first i m [] above = refl
insert_first i m (y ∷ ws) above = by_test (number_before y.message m) refl (insert_first i m ws above.1)
  where
    by_test : (b : Bool) → number_before y.message m ≡ b → map (λ w. w.message) (insert_by waits_before (record { place = i; message = m }) ws) ≡ insert_by number_before m (map (λ w. w.message) ws)
        → map (λ w. w.message) (insert_by waits_before (record { place = i; message = m }) (y ∷ ws)) ≡ insert_by number_before m (map (λ w. w.message) (y ∷ ws))
    by_test true e rest =
        let same : waits_before y (record { place = i; message = m }) ≡ true = grind (arith, nat_tests, e) in
        rw (same, e) (ap (λ ms. y.message ∷ ms) rest)
    by_test false e rest =
        let same : waits_before y (record { place = i; message = m }) ≡ false = grind (arith, nat_tests, e, above.0) in
        rw (same, e) refl

module _ {H : Type 0} where
  above-from : (i k : ℕ) (xs : List (Slot H)) → i < k → Above i (waiting_from k xs)
  unfolding Above
  above-from i k [] lt = tt
  above-from i k (x ∷ xs) lt = by_case (accepted_of x.work) (above-from i (suc k) xs (omega arith))
    where
      by_case : (o : Option Message) → Above i (waiting_from (suc k) xs) → Above i (waits_then k o (waiting_from (suc k) xs))
      by_case None rest = rest
      by_case (Some m) rest = (lt, rest)

  messages-from : (i : ℕ) (xs : List (Slot H)) → map (λ w. w.message) (sort_by waits_before (waiting_from i xs)) ≡ sort_by number_before (filter_map (λ x. accepted_of x.work) xs)
  messages-from i [] = refl
  messages-from i (x ∷ xs) = by_case (accepted_of x.work) refl (messages-from (suc i) xs)
    where
      by_case : (o : Option Message) → accepted_of x.work ≡ o → map (λ w. w.message) (sort_by waits_before (waiting_from (suc i) xs)) ≡ sort_by number_before (filter_map (λ x. accepted_of x.work) xs)
          → map (λ w. w.message) (sort_by waits_before (waiting_from i (x ∷ xs))) ≡ sort_by number_before (filter_map (λ x. accepted_of x.work) (x ∷ xs))
      by_case None e rest = rw e rest
      by_case (Some m) e rest =
          rw e (insert_first i m (sort_by waits_before (waiting_from (suc i) xs)) (above-sort i (waiting_from (suc i) xs) (above-from i (suc i) xs (omega arith))) ∙ ap (insert_by number_before m) rest)

  -- the messages of what waits, in order
  pub messages-ordered : (es : Entries) (xs : List (Slot H)) (ws : List Waiting) → AreWaiting es xs → IsSortedBy waits_before ws → IsStableBy waits_before (map (λ e. e.1) es) ws → map (λ w. w.message) ws ≡ sort_by number_before (filter_map (λ x. accepted_of x.work) xs)
  messages-ordered es xs ws was sorted stable =
      ap (λ vs. map (λ w. w.message) vs) (sort_is waits_before order (waiting_from 0 xs) ws sorted (same_waits es xs ws was stable)) ∙ messages-from 0 xs
