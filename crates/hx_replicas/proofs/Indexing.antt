-- Slots stay indexed when one accepts a message, sends it out, or comes back, and when all are emptied.
use Rattle.std.proofs.Common.{◌≡◌, ℕ, ◌+◌, ◌-◌, ◌≤◌, ◌<◌, ◌==◌, Bool, true, false, List, [], ◌∷◌, ◌++◌, map, length, filter, Option, Some, None, is_some, refl, sym, ap, ◌∙◌, subst, arith}
use Rattle.std.specs.Prelude.{if◌then◌else◌, slice_get, position, cond}
use Rattle.std.specs.Option.{option_map}
use Rattle.std.specs.HashMap.{get}
use Rattle.std.proofs.lemmas.Bool.{eqb-true}
use Rattle.std.proofs.lemmas.Bool.Decides.{nat_tests}
use Rattle.std.proofs.lemmas.List.Elements.{filter-append}
use Rattle.hx_lists.specs.Lists.{count}
use Rattle.hx_ids.specs.declared.PartId.{PartId}
use Rattle.hx_ids.specs.declared.MsgId.{MsgId}
use Rattle.hx_cluster.specs.declared.state.Message.{Message}
use Rattle.hx_cluster.specs.Ends.{part_eq}
use Rattle.hx_links.specs.declared.Node.{Node}
use Rattle.hx_links.specs.Pool.{is_at, is_in, without}
use Rattle.hx_replicas.specs.declared.queue.Waiting.{Waiting}
use Rattle.hx_replicas.specs.declared.slots.Slot.{Slot}
use Rattle.hx_replicas.specs.declared.slots.Work.{Work}
use Rattle.hx_replicas.specs.declared.slots.Work.TheVariants.{Idle, Accepted, Out}
use Rattle.hx_replicas.specs.declared.indexed.Indexed.{Indexed}
use Rattle.hx_replicas.specs.Participants.{accepted_of, has_accepted}
use Rattle.hx_replicas.specs.Layout.{has_part, has_number, taken, fresh, sent_out, wiped}
use Rattle.hx_replicas.specs.Indexes.{alter, waits_in, waits_of, is_of, is_waiting, number_eq, Tells, AreWaiting, IsIndexed, HasRoom}
use Rattle.hx_replicas.proofs.Parts.{part_same}
use Rattle.hx_replicas.proofs.Queues.{Entries, count-none}
use Rattle.hx_replicas.proofs.Altering.{only-one, stands-some, past, length-alter, get-alter, count-alter, get-push, get-map, count-push, count-le, position-none, position-only, position-alter, position-map, position-push_other, position-push}
use Rattle.hx_links.proofs.Walking.{NodesOnce}

length-snoc : (es : Entries) (e : Node × Waiting) → length (es ++ e ∷ []) ≡ length es + 1
length-snoc [] e = refl
length-snoc (x ∷ es) e = omega (arith, length-snoc es e)

split-of : (i j : ℕ) (n : Node) (m : Message) → filter (is_of j) ((n, record { place = i; message = m }) ∷ []) ≡ (if i == j then (n, record { place = j; message = m }) ∷ [] else [])
split-of i j n m = by_test (i == j) refl
  where
    by_test : (b : Bool) → (i == j) ≡ b → filter (is_of j) ((n, record { place = i; message = m }) ∷ []) ≡ (if b then (n, record { place = j; message = m }) ∷ [] else [])
    by_test true e = let same : i ≡ j = eqb-true i j e in rw e (ap (λ (k : ℕ). (n, record { place = k; message = m }) ∷ []) same)
    by_test false e = rw e refl

append-none : (es : Entries) → es ++ [] ≡ es
append-none [] = refl
append-none (e ∷ es) = ap (λ ys. e ∷ ys) (append-none es)

-- a place that waits for nothing gets a message
waits-more : (b : Bool) (es : Entries) (j : ℕ) (n : Node) (m : Message) (old : Entries) → es ≡ old → (b ≡ true → old ≡ []) → es ++ (if b then (n, record { place = j; message = m }) ∷ [] else []) ≡ (if b then (n, record { place = j; message = m }) ∷ [] else old)
waits-more true es j n m old is none = ap (λ ys. ys ++ (n, record { place = j; message = m }) ∷ []) (is ∙ none refl)
waits-more false es j n m old is none = append-none es ∙ is

module _ {H : Type 0} where
  idle_waits : (j : ℕ) (o : Option (Slot H)) → ((x : Slot H) → o ≡ Some x → x.work ≡ Idle) → waits_of j o ≡ []
  idle_waits j None idle = refl
  idle_waits j (Some x) idle = rw (idle x refl) refl

  taken_waits : (j : ℕ) (m : Message) (n : Node) (o : Option (Slot H)) (x : Slot H) → o ≡ Some x → waits_of j (option_map (taken m n) o) ≡ (n, record { place = j; message = m }) ∷ []
  taken_waits j m n None x e = absurd (cc)
  taken_waits j m n (Some y) x e = refl

  waiting_idle : (x : Slot H) → x.work ≡ Idle → is_waiting x ≡ false
  waiting_idle x e = rw e refl

  -- a slot accepts a message
  pub waits-accept : (es : Entries) (xs : List (Slot H)) (i : ℕ) (m : Message) (n : Node) → i < length xs → ((x : Slot H) → slice_get xs i ≡ Some x → x.work ≡ Idle) → AreWaiting es xs → AreWaiting (es ++ (n, record { place = i; message = m }) ∷ []) (alter (taken m n) i xs)
  waits-accept es xs i m n lt idle was =
      let here = stands-some xs i lt in
      let counted = count-alter (taken m n) is_waiting xs i here.0 here.1 in
      let off : is_waiting here.0 ≡ false = waiting_idle here.0 (idle here.0 here.1) in
      record {
        waits = λ j. at j (i == j) refl here.0 here.1;
        long = length-snoc es (n, record { place = i; message = m }) ∙ more here.0 off counted;
      }
    where
      more : (x : Slot H) → is_waiting x ≡ false → count is_waiting (alter (taken m n) i xs) + (if is_waiting x then 1 else 0) ≡ count is_waiting xs + 1 → length es + 1 ≡ count is_waiting (alter (taken m n) i xs)
      more x off counted = let same : count is_waiting (alter (taken m n) i xs) + 0 ≡ count is_waiting xs + 1 = rw off at counted in omega (arith, same, was.long)

      at : (j : ℕ) (b : Bool) → (i == j) ≡ b → (x : Slot H) → slice_get xs i ≡ Some x → filter (is_of j) (es ++ (n, record { place = i; message = m }) ∷ []) ≡ waits_of j (slice_get (alter (taken m n) i xs) j)
      at j true e x is =
          let same : i ≡ j = eqb-true i j e in
          let there : slice_get xs j ≡ Some x = subst (λ (k : ℕ). slice_get xs k ≡ Some x) same is in
          let none : waits_of j (slice_get xs j) ≡ [] = subst (λ (k : ℕ). waits_of j (slice_get xs k) ≡ []) same (idle_waits j (slice_get xs i) idle) in
          filter-append (is_of j) es ((n, record { place = i; message = m }) ∷ [])
          ∙ ap (λ ys. filter (is_of j) es ++ ys) (split-of i j n m ∙ rw e refl)
          ∙ ap (λ ys. ys ++ (n, record { place = j; message = m }) ∷ []) (was.waits j ∙ none)
          ∙ sym (ap (waits_of j) (get-alter (taken m n) i j xs) ∙ rw e (taken_waits j m n (slice_get xs j) x there))
      at j false e x is =
          filter-append (is_of j) es ((n, record { place = i; message = m }) ∷ [])
          ∙ ap (λ ys. filter (is_of j) es ++ ys) (split-of i j n m ∙ rw e refl)
          ∙ append-none (filter (is_of j) es) ∙ was.waits j
          ∙ sym (ap (waits_of j) (get-alter (taken m n) i j xs) ∙ rw e refl)

  -- a new slot accepts one
  pub waits-fresh : (es : Entries) (xs : List (Slot H)) (m : Message) (n : Node) → AreWaiting es xs → AreWaiting (es ++ (n, record { place = length xs; message = m }) ∷ []) (xs ++ fresh m n ∷ [])
  waits-fresh es xs m n was = record {
    waits = λ j. at j (length xs == j) refl;
    long = length-snoc es (n, record { place = length xs; message = m }) ∙ omega (arith, was.long, count-push is_waiting xs (fresh m n));
  }
    where
      at : (j : ℕ) (b : Bool) → (length xs == j) ≡ b → filter (is_of j) (es ++ (n, record { place = length xs; message = m }) ∷ []) ≡ waits_of j (slice_get (xs ++ fresh m n ∷ []) j)
      at j true e =
          let same : length xs ≡ j = eqb-true (length xs) j e in
          let none : waits_of j (slice_get xs j) ≡ [] = subst (λ (k : ℕ). waits_of j (slice_get xs k) ≡ []) same (ap (waits_of j) (past xs)) in
          filter-append (is_of j) es ((n, record { place = length xs; message = m }) ∷ [])
          ∙ ap (λ ys. filter (is_of j) es ++ ys) (split-of (length xs) j n m ∙ rw e refl)
          ∙ ap (λ ys. ys ++ (n, record { place = j; message = m }) ∷ []) (was.waits j ∙ none)
          ∙ sym (ap (waits_of j) (get-push xs (fresh m n) j) ∙ rw e refl)
      at j false e =
          filter-append (is_of j) es ((n, record { place = length xs; message = m }) ∷ [])
          ∙ ap (λ ys. filter (is_of j) es ++ ys) (split-of (length xs) j n m ∙ rw e refl)
          ∙ append-none (filter (is_of j) es) ∙ was.waits j
          ∙ sym (ap (waits_of j) (get-push xs (fresh m n) j) ∙ rw e refl)

-- a node that is taken out
without-of : (n : Node) (j : ℕ) (es : Entries) → filter (is_of j) (without n es) ≡ without n (filter (is_of j) es)
without-of n j [] = refl
without-of n j (e ∷ es) = by_test (is_at n e) refl (is_of j e) refl (without-of n j es)
  where
    by_test : (b : Bool) → is_at n e ≡ b → (d : Bool) → is_of j e ≡ d → filter (is_of j) (without n es) ≡ without n (filter (is_of j) es) → filter (is_of j) (without n (e ∷ es)) ≡ without n (filter (is_of j) (e ∷ es))
    by_test true at true of rest = rw (at, of) (rest ∙ sym (rw at refl))
    by_test true at false of rest = rw (at, of) rest
    by_test false at true of rest = rw at (rw of (ap (λ ys. e ∷ ys) rest ∙ sym (rw at refl)))
    by_test false at false of rest = rw at (rw of rest)

without-none : (n : Node) (es : Entries) → count (is_at n) es ≡ 0 → without n es ≡ es
without-none n [] none = refl
without-none n (e ∷ es) none = by_test (is_at n e) refl (without-none n es)
  where
    by_test : (b : Bool) → is_at n e ≡ b → (count (is_at n) es ≡ 0 → without n es ≡ es) → without n (e ∷ es) ≡ e ∷ es
    by_test true at rest = absurd (grind (arith, none))
    by_test false at rest = rw at (ap (λ ys. e ∷ ys) (rest (grind arith)))

count-apart : (n : Node) (i j : ℕ) (es : Entries) → (i == j) ≡ false → count (is_at n) (filter (is_of i) es) + count (is_at n) (filter (is_of j) es) ≤ count (is_at n) es
count-apart n i j [] apart = omega arith
count-apart n i j (e ∷ es) apart = grind (arith, nat_tests, count-apart n i j es apart)

count-of : (n : Node) (i : ℕ) (es : Entries) → count (is_at n) (filter (is_of i) es) ≤ count (is_at n) es
count-of n i [] = omega arith
count-of n i (e ∷ es) = grind (arith, count-of n i es)

count-in : (n : Node) (es : Entries) → 1 ≤ count (is_at n) es → is_in n es ≡ true
count-in n es some = by_test (is_in n es) refl
  where
    by_test : (b : Bool) → is_in n es ≡ b → is_in n es ≡ true
    by_test true e = e
    by_test false e = absurd (omega (arith, some, count-none (is_at n) es e))

length-without : (n : Node) (es : Entries) → length (without n es) + count (is_at n) es ≡ length es
length-without n [] = refl
length-without n (e ∷ es) = grind (arith, length-without n es)

module _ {H : Type 0} where
  sent_waits : (j : ℕ) (m : Message) (o : Option (Slot H)) → waits_of j (option_map (λ x. sent_out x m) o) ≡ []
  sent_waits j m None = refl
  sent_waits j m (Some x) = refl

  one_waits : (es : Entries) (xs : List (Slot H)) (i : ℕ) (x : Slot H) (m : Message) → slice_get xs i ≡ Some x → x.work ≡ Accepted m → AreWaiting es xs → filter (is_of i) es ≡ (x.node, record { place = i; message = m }) ∷ []
  one_waits es xs i x m is work was = was.waits i ∙ ap (waits_of i) is ∙ ap (λ (w : Work). waits_in x.node i (accepted_of w)) work

  counted : (es : Entries) (xs : List (Slot H)) (i : ℕ) (x : Slot H) (m : Message) → slice_get xs i ≡ Some x → x.work ≡ Accepted m → AreWaiting es xs → count (is_at x.node) (filter (is_of i) es) ≡ 1
  counted es xs i x m is work was = let self : is_at {T = Waiting} x.node (x.node, record { place = i; message = m }) ≡ true = grind (arith, nat_tests) in rw (one_waits es xs i x m is work was) (rw self refl)

  -- the node of a slot that has accepted a message is linked
  pub waits-linked : (es : Entries) (xs : List (Slot H)) (i : ℕ) (x : Slot H) (m : Message) → slice_get xs i ≡ Some x → x.work ≡ Accepted m → AreWaiting es xs → is_in x.node es ≡ true
  waits-linked es xs i x m is work was = count-in x.node es (omega (arith, count-of x.node i es, counted es xs i x m is work was))

  -- it sends the message out
  pub waits-send : (es : Entries) (xs : List (Slot H)) (i : ℕ) (x : Slot H) (m : Message) → NodesOnce es → slice_get xs i ≡ Some x → x.work ≡ Accepted m → AreWaiting es xs → AreWaiting (without x.node es) (alter (λ y. sent_out y m) i xs)
  waits-send es xs i x m once is work was = record {
    waits = λ j. at j (i == j) refl;
    long = fewer;
  }
    where
      here : count (is_at x.node) (filter (is_of i) es) ≡ 1
      here = counted es xs i x m is work was

      on : is_waiting x ≡ true
      on = rw work refl

      fewer : length (without x.node es) ≡ count is_waiting (alter (λ y. sent_out y m) i xs)
      fewer =
          let less : count is_waiting (alter (λ y. sent_out y m) i xs) + 1 ≡ count is_waiting xs + 0 = rw on at (count-alter (λ y. sent_out y m) is_waiting xs i x is) in
          omega (arith, less, was.long, length-without x.node es, once x.node, count-of x.node i es, here)

      at : (j : ℕ) (b : Bool) → (i == j) ≡ b → filter (is_of j) (without x.node es) ≡ waits_of j (slice_get (alter (λ y. sent_out y m) i xs) j)
      at j true e =
          let same : i ≡ j = eqb-true i j e in
          let self : is_at {T = Waiting} x.node (x.node, record { place = i; message = m }) ≡ true = grind (arith, nat_tests) in
          let gone : without x.node (filter (is_of i) es) ≡ [] = rw (one_waits es xs i x m is work was) (rw self refl) in
          without-of x.node j es ∙ subst (λ (k : ℕ). without x.node (filter (is_of k) es) ≡ []) same gone
          ∙ sym (ap (waits_of j) (get-alter (λ y. sent_out y m) i j xs) ∙ rw e (sent_waits j m (slice_get xs j)))
      at j false e =
          let none : count (is_at x.node) (filter (is_of j) es) ≡ 0 = omega (arith, count-apart x.node i j es e, once x.node, here) in
          without-of x.node j es ∙ without-none x.node (filter (is_of j) es) none ∙ was.waits j
          ∙ sym (ap (waits_of j) (get-alter (λ y. sent_out y m) i j xs) ∙ rw e refl)

  -- a slot changes and waits as it did
  pub waits-same : (es : Entries) (xs : List (Slot H)) (i : ℕ) (x y : Slot H) → slice_get xs i ≡ Some x → y.node ≡ x.node → accepted_of y.work ≡ accepted_of x.work → AreWaiting es xs → AreWaiting es (alter (λ z. y) i xs)
  waits-same es xs i x y is node work was = record {
    waits = λ j. was.waits j ∙ at j (i == j) refl;
    long = was.long ∙ steady;
  }
    where
      steady : count is_waiting xs ≡ count is_waiting (alter (λ z. y) i xs)
      steady =
          let same : is_waiting y ≡ is_waiting x = ap (λ (o : Option Message). is_some o) work in
          let counts = rw same at (count-alter (λ z. y) is_waiting xs i x is) in
          omega (arith, counts)

      at : (j : ℕ) (b : Bool) → (i == j) ≡ b → waits_of j (slice_get xs j) ≡ waits_of j (slice_get (alter (λ z. y) i xs) j)
      at j true e =
          let there : slice_get xs j ≡ Some x = subst (λ (k : ℕ). slice_get xs k ≡ Some x) (eqb-true i j e) is in
          ap (waits_of j) there ∙ sym (ap (λ (n : Node). waits_in n j (accepted_of y.work)) node ∙ ap (waits_in x.node j) work)
          ∙ sym (ap (waits_of j) (get-alter (λ z. y) i j xs) ∙ rw (e, there) refl)
      at j false e = sym (ap (waits_of j) (get-alter (λ z. y) i j xs) ∙ rw e refl)

  -- all slots are emptied
  wiped_none : (j : ℕ) (o : Option (Slot H)) → waits_of j (option_map wiped o) ≡ []
  wiped_none j None = refl
  wiped_none j (Some x) = refl

  wiped_quiet : (ys : List (Slot H)) → count is_waiting (map wiped ys) ≡ 0
  wiped_quiet [] = refl
  wiped_quiet (y ∷ ys) = wiped_quiet ys

  waits-wiped : (xs : List (Slot H)) → AreWaiting [] (map wiped xs)
  waits-wiped xs = record { waits = λ j. sym (ap (waits_of j) (get-map wiped xs j) ∙ wiped_none j (slice_get xs j)); long = sym (wiped_quiet xs) }

numbered : ℕ → MsgId
numbered k = record { 0 = k }

same_number : (a b : MsgId) → (a.0 == b.0) ≡ true → a ≡ b
unfolding numbered
same_number a b e = ap numbered (eqb-true a.0 b.0 e)

-- whether a slot has accepted a number
abbrev is_number : MsgId → Option Message → Bool
is_number id None = false
is_number id (Some m) = m.id.0 == id.0

number_of : (id : MsgId) (w : Work) → has_accepted id w ≡ is_number id (accepted_of w)
number_of id Idle = refl
number_of id (Accepted m) = refl
number_of id (Out m b) = refl

number_same : (id : MsgId) (v w : Work) → accepted_of v ≡ accepted_of w → has_accepted id v ≡ has_accepted id w
number_same id v w e = number_of id v ∙ ap (is_number id) e ∙ sym (number_of id w)

module _ {H : Type 0} where
  -- what stands in a place of an altered list
  record WasAt (f : Slot H → Slot H) (i j : ℕ) (xs : List (Slot H)) (y : Slot H) : Type 0 where
    pub x : Slot H
    pub stood : slice_get xs j ≡ Some x
    pub becomes : y ≡ (if i == j then f x else x)

  was_at : (f : Slot H → Slot H) (i j : ℕ) (xs : List (Slot H)) (y : Slot H) → slice_get (alter f i xs) j ≡ Some y → WasAt f i j xs y
  was_at f i j xs y e = by_cases (slice_get xs j) refl (i == j) refl
    where
      by_cases : (o : Option (Slot H)) → slice_get xs j ≡ o → (b : Bool) → (i == j) ≡ b → WasAt f i j xs y
      by_cases None is b at = absurd (let none : slice_get (alter f i xs) j ≡ None = get-alter f i j xs ∙ rw (is, at) (neither b) in let both : None ≡ Some y = sym none ∙ e in cc)
        where
          neither : (d : Bool) → (if d then option_map f None else None) ≡ None
          neither true = refl
          neither false = refl
      by_cases (Some x) is true at = record { x = x; stood = is; becomes = rw at (let there : slice_get (alter f i xs) j ≡ Some (f x) = get-alter f i j xs ∙ rw (is, at) refl in only-one (slice_get (alter f i xs) j) (f x) y there e) }
      by_cases (Some x) is false at = record { x = x; stood = is; becomes = rw at (let there : slice_get (alter f i xs) j ≡ Some x = get-alter f i j xs ∙ rw (is, at) refl in only-one (slice_get (alter f i xs) j) x y there e) }

  number_kept : (id : MsgId) (f : Slot H → Slot H) (i j : ℕ) (xs : List (Slot H)) (y : Slot H) → ((x : Slot H) → slice_get xs i ≡ Some x → has_number id (f x) ≡ has_number id x) → slice_get (alter f i xs) j ≡ Some y
      → (x : Slot H) × (slice_get xs j ≡ Some x) × (has_number id y ≡ has_number id x)
  number_kept id f i j xs y same e = let w = was_at f i j xs y e in by_test (i == j) refl w.x w.stood w.becomes
    where
      by_test : (b : Bool) → (i == j) ≡ b → (x : Slot H) → slice_get xs j ≡ Some x → y ≡ (if i == j then f x else x) → (x : Slot H) × (slice_get xs j ≡ Some x) × (has_number id y ≡ has_number id x)
      by_test true at x stood becomes =
          let is : y ≡ f x = rw at at becomes in
          let there : slice_get xs i ≡ Some x = subst (λ (k : ℕ). slice_get xs k ≡ Some x) (sym (eqb-true i j at)) stood in
          (x, stood, ap (has_number id) is ∙ same x there)
      by_test false at x stood becomes = let is : y ≡ x = rw at at becomes in (x, stood, ap (has_number id) is)

  -- a slot changes and has accepted the number as it had
  tells-alter : (id : MsgId) (f : Option ℕ) (g : Slot H → Slot H) (i : ℕ) (xs : List (Slot H)) → ((x : Slot H) → slice_get xs i ≡ Some x → has_number id (g x) ≡ has_number id x) → Tells id f xs → Tells id f (alter g i xs)
  tells-alter id None g i xs same was = λ j y e. let k = number_kept id g i j xs y same e in k.2 ∙ was j k.0 k.1
  tells-alter id (Some p) g i xs same was = (rw (length-alter g i xs) was.0, λ j y e. let k = number_kept id g i j xs y same e in k.2 ∙ was.1 j k.0 k.1)

  -- one slot more has accepted it
  tells-one : (id : MsgId) (g : Slot H → Slot H) (i : ℕ) (xs : List (Slot H)) → i < length xs → ((x : Slot H) → has_number id (g x) ≡ true) → Tells id None xs → Tells id (Some i) (alter g i xs)
  tells-one id g i xs lt on was = (rw (length-alter g i xs) lt, λ j y e. let w = was_at g i j xs y e in by_test j y (i == j) refl w.x w.stood w.becomes)
    where
      by_test : (j : ℕ) (y : Slot H) (b : Bool) → (i == j) ≡ b → (x : Slot H) → slice_get xs j ≡ Some x → y ≡ (if i == j then g x else x) → has_number id y ≡ (i == j)
      by_test j y true at x stood becomes = let is : y ≡ g x = rw at at becomes in ap (has_number id) is ∙ on x ∙ sym at
      by_test j y false at x stood becomes = let is : y ≡ x = rw at at becomes in ap (has_number id) is ∙ was j x stood ∙ sym at

  -- the slot that has accepted it has not any more
  tells-gone : (id : MsgId) (f : Option ℕ) (g : Slot H → Slot H) (i : ℕ) (x : Slot H) (xs : List (Slot H)) → slice_get xs i ≡ Some x → has_number id x ≡ true → ((x : Slot H) → has_number id (g x) ≡ false) → Tells id f xs → Tells id None (alter g i xs)
  tells-gone id None g i x xs is on off was = absurd (let no = was i x is in cc)
  tells-gone id (Some p) g i x xs is on off was = λ j y e. let w = was_at g i j xs y e in by_test j y (i == j) refl w.x w.stood w.becomes
    where
      here : p ≡ i
      here = eqb-true p i (sym (was.1 i x is) ∙ on)

      by_test : (j : ℕ) (y : Slot H) (b : Bool) → (i == j) ≡ b → (z : Slot H) → slice_get xs j ≡ Some z → y ≡ (if i == j then g z else z) → has_number id y ≡ false
      by_test j y true at z stood becomes = let same : y ≡ g z = rw at at becomes in ap (has_number id) same ∙ off z
      by_test j y false at z stood becomes = let same : y ≡ z = rw at at becomes in ap (has_number id) same ∙ was.1 j z stood ∙ ap (λ (k : ℕ). k == j) here ∙ at

  -- a new slot
  pushed_at : (xs : List (Slot H)) (y z : Slot H) (j : ℕ) (b : Bool) → (length xs == j) ≡ b → slice_get (xs ++ y ∷ []) j ≡ Some z → (if b then Some y else slice_get xs j) ≡ Some z
  pushed_at xs y z j b at e = let there : slice_get (xs ++ y ∷ []) j ≡ (if b then Some y else slice_get xs j) = get-push xs y j ∙ rw at refl in sym there ∙ e

  length-push : (xs : List (Slot H)) (y : Slot H) → length (xs ++ y ∷ []) ≡ length xs + 1
  length-push [] y = refl
  length-push (x ∷ xs) y = omega (arith, length-push xs y)

  tells-push_other : (id : MsgId) (f : Option ℕ) (xs : List (Slot H)) (y : Slot H) → has_number id y ≡ false → Tells id f xs → Tells id f (xs ++ y ∷ [])
  tells-push_other id None xs y off was = λ j z e. by_test j z (length xs == j) refl e
    where
      by_test : (j : ℕ) (z : Slot H) (b : Bool) → (length xs == j) ≡ b → slice_get (xs ++ y ∷ []) j ≡ Some z → has_number id z ≡ false
      by_test j z true at e = let same : Some y ≡ Some z = pushed_at xs y z j true at e in let is : z ≡ y = cc in ap (has_number id) is ∙ off
      by_test j z false at e = was j z (pushed_at xs y z j false at e)
  tells-push_other id (Some p) xs y off was = (omega (arith, was.0, length-push xs y), λ j z e. by_test j z (length xs == j) refl e)
    where
      by_test : (j : ℕ) (z : Slot H) (b : Bool) → (length xs == j) ≡ b → slice_get (xs ++ y ∷ []) j ≡ Some z → has_number id z ≡ (p == j)
      by_test j z true at e =
          let same : Some y ≡ Some z = pushed_at xs y z j true at e in
          let is : z ≡ y = cc in
          let apart : (p == j) ≡ false = grind (arith, nat_tests, was.0, at) in
          ap (has_number id) is ∙ off ∙ sym apart
      by_test j z false at e = was.1 j z (pushed_at xs y z j false at e)

  tells-push : (id : MsgId) (xs : List (Slot H)) (y : Slot H) → has_number id y ≡ true → Tells id None xs → Tells id (Some (length xs)) (xs ++ y ∷ [])
  tells-push id xs y on was = (omega (arith, length-push xs y), λ j z e. by_test j z (length xs == j) refl e)
    where
      by_test : (j : ℕ) (z : Slot H) (b : Bool) → (length xs == j) ≡ b → slice_get (xs ++ y ∷ []) j ≡ Some z → has_number id z ≡ (length xs == j)
      by_test j z true at e = let same : Some y ≡ Some z = pushed_at xs y z j true at e in let is : z ≡ y = cc in ap (has_number id) is ∙ on ∙ sym at
      by_test j z false at e = was j z (pushed_at xs y z j false at e) ∙ sym at

  -- what the note of a number says of the search
  pub place_told : (id : MsgId) (f : Option ℕ) (xs : List (Slot H)) → Tells id f xs → f ≡ position (has_number id) xs
  place_told id None xs was = sym (position-none (has_number id) xs was)
  place_told id (Some p) xs was = sym (position-only (has_number id) xs p was.0 was.1)

  idle_number : (id : MsgId) (x : Slot H) → x.work ≡ Idle → has_number id x ≡ false
  idle_number id x e = rw e refl

  accepted_number : (id : MsgId) (x : Slot H) (m : Message) → x.work ≡ Accepted m → has_number id x ≡ (m.id.0 == id.0)
  accepted_number id x m e = rw e refl

  module _ (fs gs : MsgId → Option ℕ) (xs : List (Slot H)) (was : (q : MsgId) → Tells q (fs q) xs) where
    none_yet : (m : Message) (q : MsgId) → (m.id.0 == q.0) ≡ true → fs m.id ≡ None → Tells q None xs
    none_yet m q e first = subst (λ (f : Option ℕ). Tells q f xs) (ap fs (sym (same_number m.id q e)) ∙ first) (was q)

    numbers-accept : (i : ℕ) (m : Message) (n : Node) → i < length xs → ((x : Slot H) → slice_get xs i ≡ Some x → x.work ≡ Idle) → fs m.id ≡ None → ((q : MsgId) → gs q ≡ (if m.id.0 == q.0 then Some i else fs q)) → (q : MsgId) → Tells q (gs q) (alter (taken m n) i xs)
    numbers-accept i m n lt idle first gets q = by_test (m.id.0 == q.0) refl
      where
        by_test : (b : Bool) → (m.id.0 == q.0) ≡ b → Tells q (gs q) (alter (taken m n) i xs)
        by_test true e =
            let is : gs q ≡ Some i = gets q ∙ rw e refl in
            subst (λ (f : Option ℕ). Tells q f (alter (taken m n) i xs)) (sym is) (tells-one q (taken m n) i xs lt (λ x. e) (none_yet m q e first))
        by_test false e =
            let is : gs q ≡ fs q = gets q ∙ rw e refl in
            subst (λ (f : Option ℕ). Tells q f (alter (taken m n) i xs)) (sym is) (tells-alter q (fs q) (taken m n) i xs (λ x at. e ∙ sym (idle_number q x (idle x at))) (was q))

    numbers-fresh : (m : Message) (n : Node) → fs m.id ≡ None → ((q : MsgId) → gs q ≡ (if m.id.0 == q.0 then Some (length xs) else fs q)) → (q : MsgId) → Tells q (gs q) (xs ++ fresh m n ∷ [])
    numbers-fresh m n first gets q = by_test (m.id.0 == q.0) refl
      where
        by_test : (b : Bool) → (m.id.0 == q.0) ≡ b → Tells q (gs q) (xs ++ fresh m n ∷ [])
        by_test true e =
            let is : gs q ≡ Some (length xs) = gets q ∙ rw e refl in
            subst (λ (f : Option ℕ). Tells q f (xs ++ fresh m n ∷ [])) (sym is) (tells-push q xs (fresh m n) e (none_yet m q e first))
        by_test false e =
            let is : gs q ≡ fs q = gets q ∙ rw e refl in
            subst (λ (f : Option ℕ). Tells q f (xs ++ fresh m n ∷ [])) (sym is) (tells-push_other q (fs q) xs (fresh m n) e (was q))

    numbers-send : (i : ℕ) (x : Slot H) (m : Message) → slice_get xs i ≡ Some x → x.work ≡ Accepted m → ((q : MsgId) → gs q ≡ (if m.id.0 == q.0 then None else fs q)) → (q : MsgId) → Tells q (gs q) (alter (λ y. sent_out y m) i xs)
    numbers-send i x m at work gets q = by_test (m.id.0 == q.0) refl
      where
        by_test : (b : Bool) → (m.id.0 == q.0) ≡ b → Tells q (gs q) (alter (λ y. sent_out y m) i xs)
        by_test true e =
            let is : gs q ≡ None = gets q ∙ rw e refl in
            subst (λ (f : Option ℕ). Tells q f (alter (λ y. sent_out y m) i xs)) (sym is) (tells-gone q (fs q) (λ y. sent_out y m) i x xs at (accepted_number q x m work ∙ e) (λ y. refl) (was q))
        by_test false e =
            let is : gs q ≡ fs q = gets q ∙ rw e refl in
            let still : (y : Slot H) → slice_get xs i ≡ Some y → has_number q (sent_out y m) ≡ has_number q y = λ y stood. sym (ap (has_number q) (only-one (slice_get xs i) x y at stood) ∙ accepted_number q x m work ∙ e) in
            subst (λ (f : Option ℕ). Tells q f (alter (λ y. sent_out y m) i xs)) (sym is) (tells-alter q (fs q) (λ y. sent_out y m) i xs still (was q))

  numbers-same : (fs : MsgId → Option ℕ) (xs : List (Slot H)) → ((q : MsgId) → Tells q (fs q) xs) → (i : ℕ) (x y : Slot H) → slice_get xs i ≡ Some x → accepted_of y.work ≡ accepted_of x.work → (q : MsgId) → Tells q (fs q) (alter (λ z. y) i xs)
  numbers-same fs xs was i x y at work q = tells-alter q (fs q) (λ z. y) i xs (λ z stood. number_same q y.work x.work work ∙ sym (ap (has_number q) (only-one (slice_get xs i) x z at stood))) (was q)

  numbers-wiped : (fs : MsgId → Option ℕ) (xs : List (Slot H)) → ((q : MsgId) → fs q ≡ None) → (q : MsgId) → Tells q (fs q) (map wiped xs)
  numbers-wiped fs xs none q = subst (λ (f : Option ℕ). Tells q f (map wiped xs)) (sym (none q)) all
    where
      by_case : (j : ℕ) (x : Slot H) (o : Option (Slot H)) → slice_get xs j ≡ o → slice_get (map wiped xs) j ≡ Some x → has_number q x ≡ false
      by_case j x None is e = let none : slice_get (map wiped xs) j ≡ None = get-map wiped xs j ∙ rw is refl in absurd (let both : None ≡ Some x = sym none ∙ e in cc)
      by_case j x (Some y) is e = let there : slice_get (map wiped xs) j ≡ Some (wiped y) = get-map wiped xs j ∙ rw is refl in ap (has_number q) (only-one (slice_get (map wiped xs) j) (wiped y) x there e)

      all : Tells q None (map wiped xs)
      all j x e = by_case j x (slice_get xs j) refl e

  -- a part's place, where a new slot is of a part that no slot was of
  places-fresh : (ps qs : PartId → Option ℕ) (xs : List (Slot H)) (m : Message) (n : Node) → ((p : PartId) → ps p ≡ position (has_part p) xs) → position (has_part m.part) xs ≡ None → ((p : PartId) → qs p ≡ cond (part_eq m.part p) (Some (length xs)) (ps p)) → (p : PartId) → qs p ≡ position (has_part p) (xs ++ fresh m n ∷ [])
  places-fresh ps qs xs m n was new gets p = by_test (part_eq m.part p) refl
    where
      by_test : (b : Bool) → part_eq m.part p ≡ b → qs p ≡ position (has_part p) (xs ++ fresh m n ∷ [])
      by_test true e =
          let none : position (has_part p) xs ≡ None = subst (λ (r : PartId). position (has_part r) xs ≡ None) (part_same m.part p e) new in
          gets p ∙ rw e refl ∙ sym (position-push (has_part p) xs (fresh m n) none e)
      by_test false e = gets p ∙ rw e refl ∙ was p ∙ sym (position-push_other (has_part p) xs (fresh m n) e)

-- slots stay indexed
module _ {H : Type 0} (s t : Indexed H) (was : IsIndexed s) where
  pub indexed-accept : (i : ℕ) (m : Message) (n : Node) → i < length s.items.items → ((x : Slot H) → slice_get s.items.items i ≡ Some x → x.work ≡ Idle) → t.items.items ≡ alter (taken m n) i s.items.items
      → t.queue.entries ≡ s.queue.entries ++ (n, record { place = i; message = m }) ∷ [] → ((p : PartId) → get part_eq t.places p ≡ get part_eq s.places p) → (t.repeats ≡ false → (s.repeats ≡ false) × (get number_eq s.numbers m.id ≡ None)) → ((q : MsgId) → get number_eq t.numbers q ≡ (if m.id.0 == q.0 then Some i else get number_eq s.numbers q)) → IsIndexed t
  indexed-accept i m n lt idle items entries places first numbers = record {
    queue = rw (items, entries) (waits-accept s.queue.entries s.items.items i m n lt idle was.queue);
    places = λ p. places p ∙ was.places p ∙ sym (position-alter (has_part p) (taken m n) s.items.items i (λ x e. refl)) ∙ sym (ap (position (has_part p)) items);
    numbers = λ clear. rw items (let one = first clear in numbers-accept (get number_eq s.numbers) (get number_eq t.numbers) s.items.items (was.numbers one.0) i m n lt idle one.1 numbers);
  }

  pub indexed-fresh : (m : Message) (n : Node) → position (has_part m.part) s.items.items ≡ None → t.items.items ≡ s.items.items ++ fresh m n ∷ []
      → t.queue.entries ≡ s.queue.entries ++ (n, record { place = length s.items.items; message = m }) ∷ [] → ((p : PartId) → get part_eq t.places p ≡ cond (part_eq m.part p) (Some (length s.items.items)) (get part_eq s.places p))
      → (t.repeats ≡ false → (s.repeats ≡ false) × (get number_eq s.numbers m.id ≡ None)) → ((q : MsgId) → get number_eq t.numbers q ≡ (if m.id.0 == q.0 then Some (length s.items.items) else get number_eq s.numbers q)) → IsIndexed t
  indexed-fresh m n new items entries places first numbers = record {
    queue = rw (items, entries) (waits-fresh s.queue.entries s.items.items m n was.queue);
    places = rw items (places-fresh (get part_eq s.places) (get part_eq t.places) s.items.items m n was.places new places);
    numbers = λ clear. rw items (let one = first clear in numbers-fresh (get number_eq s.numbers) (get number_eq t.numbers) s.items.items (was.numbers one.0) m n one.1 numbers);
  }

  pub indexed-send : (i : ℕ) (x : Slot H) (m : Message) → NodesOnce s.queue.entries → slice_get s.items.items i ≡ Some x → x.work ≡ Accepted m → t.items.items ≡ alter (λ y. sent_out y m) i s.items.items
      → t.queue.entries ≡ without x.node s.queue.entries → ((p : PartId) → get part_eq t.places p ≡ get part_eq s.places p) → t.repeats ≡ s.repeats → ((q : MsgId) → get number_eq t.numbers q ≡ (if m.id.0 == q.0 then None else get number_eq s.numbers q)) → IsIndexed t
  indexed-send i x m once at work items entries places repeats numbers = record {
    queue = rw (items, entries) (waits-send s.queue.entries s.items.items i x m once at work was.queue);
    places = λ p. places p ∙ was.places p ∙ sym (position-alter (has_part p) (λ y. sent_out y m) s.items.items i (λ y e. refl)) ∙ sym (ap (position (has_part p)) items);
    numbers = λ clear. rw items (numbers-send (get number_eq s.numbers) (get number_eq t.numbers) s.items.items (was.numbers (sym repeats ∙ clear)) i x m at work numbers);
  }

  -- a slot changes, but not its part and what it has accepted
  pub indexed-same : (i : ℕ) (x y : Slot H) → slice_get s.items.items i ≡ Some x → y.part ≡ x.part → y.node ≡ x.node → accepted_of y.work ≡ accepted_of x.work → t.items.items ≡ alter (λ z. y) i s.items.items
      → t.queue.entries ≡ s.queue.entries → ((p : PartId) → get part_eq t.places p ≡ get part_eq s.places p) → t.repeats ≡ s.repeats → ((q : MsgId) → get number_eq t.numbers q ≡ get number_eq s.numbers q) → IsIndexed t
  indexed-same i x y at part node work items entries places repeats numbers = record {
    queue = rw (items, entries) (waits-same s.queue.entries s.items.items i x y at node work was.queue);
    places = λ p. places p ∙ was.places p ∙ sym (position-alter (has_part p) (λ z. y) s.items.items i (λ z e. ap (λ (r : PartId). part_eq r p) (part ∙ sym (ap (λ (w : Slot H). w.part) (only-one (slice_get s.items.items i) x z at e))))) ∙ sym (ap (position (has_part p)) items);
    numbers = λ clear q. subst (λ (f : Option ℕ). Tells q f t.items.items) (sym (numbers q)) (rw items (numbers-same (get number_eq s.numbers) s.items.items (was.numbers (sym repeats ∙ clear)) i x y at work q));
  }

  pub indexed-wiped : t.items.items ≡ map wiped s.items.items → t.queue.entries ≡ [] → ((p : PartId) → get part_eq t.places p ≡ get part_eq s.places p) → ((q : MsgId) → get number_eq t.numbers q ≡ None) → IsIndexed t
  indexed-wiped items entries places numbers = record {
    queue = rw (items, entries) (waits-wiped s.items.items);
    places = λ p. places p ∙ was.places p ∙ sym (position-map (has_part p) wiped s.items.items (λ x. refl)) ∙ sym (ap (position (has_part p)) items);
    numbers = λ clear. rw items (numbers-wiped (get number_eq t.numbers) s.items.items numbers);
  }

  -- fewer messages wait than there are slots
  pub few : length s.queue.entries ≤ length s.items.items
  few = omega (arith, was.queue.long, count-le is_waiting s.items.items)

-- room for fewer
pub room-less : {H : Type 0} (s : Indexed H) (k n : ℕ) → k ≤ n → HasRoom n s → HasRoom k s
room-less s k n le was = record {
  items = omega (arith, was.items, le);
  queue = omega (arith, was.queue, le);
  places = omega (arith, was.places, le);
  numbers = omega (arith, was.numbers, le);
}

pub room-next : {H : Type 0} (s : Indexed H) (n : ℕ) → 0 < n → HasRoom n s → HasRoom (n - 1 + 1) s
room-next s n some was = room-less s (n - 1 + 1) n (omega (arith, some)) was
