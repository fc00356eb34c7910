-- How each change of the slots keeps the count and the chain of the vacant ones.
use Rattle.std.proofs.Common.{◌≡◌, ◌≢◌, inl, inr, ◌==◌, ℕ, zero, suc, ◌+◌, ◌-◌, ◌^◌, ◌<◌, List, [], ◌∷◌, ◌++◌, map, length, get_or, set, Option, Some, None, is_some, IsSome, cond, slice_get, refl, sym, ap, subst, ◌∙◌, arith, length-set, true≢false}
use Rattle.std.specs.Prelude.{if◌then◌else◌, option_map}
use Rattle.std.proofs.lemmas.Bool.{cases_eq, cases_lt, eq-eqb, ne_eqb}
use Rattle.std.proofs.lemmas.Grind.{get_or-set_at}
use Rattle.std.proofs.lemmas.List.{map-set, map_push, length-map, length_push, get_or-map, get_or-set_same, get_or-set_other, get_or_past, get_or_push, get_or_append_left}
use Rattle.std.proofs.lemmas.List.Sums.{sum_by-set, sum_by_push}
use Rattle.std.proofs.lemmas.Option.{slice_get_within, slice_get-get_or, get_or_from_slice_get}
use Rattle.hx_links.specs.declared.Node.{Node}
use Rattle.hx_links.specs.declared.slots.Link.{Link}
use Rattle.hx_links.specs.declared.slots.Slot.{Slot}
use Rattle.hx_links.specs.declared.slots.Slot.TheVariants.{Vacant, Held}
use Rattle.hx_links.specs.Slots.{Slots, link_at, held}
use Rattle.hx_links.specs.Layout.{link_of, IsVacantChain, IsLaidOut}

get_or-push_test : {X : Type 0} (xs : List X) (x d : X) (k : ℕ) → get_or (xs ++ x ∷ []) k d ≡ (if k == length xs then x else get_or xs k d)
get_or-push_test xs x d k =
    elim (cases_eq k (length xs)) [
      | inl same ↦ rw (eq-eqb k (length xs) same) (get_or_push xs x d k (sym same))
      | inr other ↦ rw (ne_eqb k (length xs) other) (elim (cases_lt k (length xs)) [
        | inl below ↦ get_or_append_left xs (x ∷ []) d k below
        | inr past ↦ get_or_past (xs ++ x ∷ []) k d (omega (arith, length_push xs x)) ∙ sym (get_or_past xs k d past)
      ])
    ]

pub get_or-set_test : {X : Type 0} (xs : List X) (i k : ℕ) (x d : X) → i < length xs → get_or (set xs i x) k d ≡ (if k == i then x else get_or xs k d)
get_or-set_test xs i k x d within =
    elim (cases_eq k i) [
      | inl same ↦ rw (eq-eqb k i same) (get_or-set_at xs i k x d same within)
      | inr other ↦ rw (ne_eqb k i other) (get_or-set_other xs i k x d other)
    ]

pub same_node : (a b : Node) → a.0 ≡ b.0 → a ≡ b
same_node a b e = ap (λ (n : ℕ). record { 0 = n }) e

module _ {T : Type 0} where
  -- a node starts one chain at most
  chain-count_unique : (slots : List (Slot T)) (m n : ℕ) (from : Option Node) → IsVacantChain slots m from → IsVacantChain slots n from → m ≡ n
  chain-count_unique slots zero zero from p q = refl
  chain-count_unique slots zero (suc n) None p q = absurd q
  chain-count_unique slots zero (suc n) (Some k) p q = absurd p
  chain-count_unique slots (suc m) zero None p q = absurd p
  chain-count_unique slots (suc m) zero (Some k) p q = absurd q
  chain-count_unique slots (suc m) (suc n) None p q = absurd p
  chain-count_unique slots (suc m) (suc n) (Some k) p q =
      let first = p.1 in
      let second = q.1 in
      let same : q.0 ≡ p.0 = cc in
      ap suc (chain-count_unique slots m n p.0 p.2 (subst (IsVacantChain slots n) same q.2))

  -- a write at a node that is not in the chain keeps the chain
  chain-set : (slots : List (Slot T)) (at : Node) (s : Slot T) (idle : ℕ) (from : Option Node) → ((m : ℕ) → m < idle → IsVacantChain slots (suc m) (Some at) → ⊥) → IsVacantChain slots idle from → IsVacantChain (set slots at.0 s) idle from
  chain-set slots at s zero None off p = tt
  chain-set slots at s zero (Some k) off p = p
  chain-set slots at s (suc idle) None off p = p
  chain-set slots at s (suc idle) (Some k) off p =
      let other : k.0 ≢ at.0 = λ same. off idle (omega arith) (subst (λ n. IsVacantChain slots (suc idle) (Some n)) (same_node k at same) p) in
      let within = slice_get_within slots k.0 _ p.1 in
      let kept : slice_get (set slots at.0 s) k.0 ≡ Some (Vacant p.0) =
      slice_get-get_or (set slots at.0 s) k.0 s (omega (arith, length-set slots at.0 s))
      ∙ ap Some (get_or-set_other slots at.0 k.0 s s other ∙ get_or_from_slice_get slots k.0 _ s p.1) in
      (p.0, kept, chain-set slots at s idle p.0 (λ m below. off m (omega arith)) p.2)

  -- a slot with a link is in no chain
  held_is_off : (slots : List (Slot T)) (at : Node) (link : Link T) → slice_get slots at.0 ≡ Some (Held link) → (m : ℕ) → IsVacantChain slots (suc m) (Some at) → ⊥
  held_is_off slots at link found m p = let listed = p.1 in cc

  -- the count of links after a write
  pub held-set : (slots : List (Slot T)) (at : ℕ) (old new : Slot T) → slice_get slots at ≡ Some old → held (map link_of (set slots at new)) + cond (is_some (link_of old)) 1 0 ≡ held (map link_of slots) + cond (is_some (link_of new)) 1 0
  held-set slots at old new found =
      let within = slice_get_within slots at old found in
      let read : get_or (map link_of slots) at None ≡ link_of old =
      get_or-map link_of slots at old None within ∙ ap link_of (get_or_from_slice_get slots at old old found) in
      let counted = sum_by-set (λ o. cond (is_some o) 1 0) (map link_of slots) at (link_of new) None (omega (arith, length-map slots link_of)) in
      rw (map-set link_of slots at new, ← read) counted

  -- a node with a link is within the slots, and its slot has that link
  pub held_at : (slots : List (Slot T)) (at : Node) → IsSome (link_at (map link_of slots) at) → (link : Link T) × (slice_get slots at.0 ≡ Some (Held link))
  held_at slots at present =
      let inside : at.0 < length (map link_of slots) = grind (arith, get_or_past) in
      let within : at.0 < length slots = omega (arith, length-map slots link_of) in
      by_slot (get_or slots at.0 (Vacant None)) (slice_get-get_or slots at.0 (Vacant None) within) (subst IsSome (get_or-map link_of slots at.0 (Vacant None) None within) present)
    where
      by_slot : (s : Slot T) → slice_get slots at.0 ≡ Some s → IsSome (link_of s) → (link : Link T) × (slice_get slots at.0 ≡ Some (Held link))
      by_slot (Vacant _) found some = absurd (true≢false (sym some))
      by_slot (Held link) found some = (link, found)

  -- what a link read at its node says
  pub link_from_slot : (slots : List (Slot T)) (at : Node) (s : Slot T) → slice_get slots at.0 ≡ Some s → link_at (map link_of slots) at ≡ link_of s
  link_from_slot slots at s found = get_or-map link_of slots at.0 s None (slice_get_within slots at.0 s found) ∙ ap link_of (get_or_from_slice_get slots at.0 s s found)

  -- the first vacant slot
  pub record StartsChain (slots : List (Slot T)) (n : Node) (idle : ℕ) : Type 0 where
    pub next : Option Node
    pub found : slice_get slots n.0 ≡ Some (Vacant next)
    pub within : n.0 < length slots
    pub some : 0 < idle
    pub rest : IsVacantChain slots (idle - 1) next

  pub first_vacant : (slots : List (Slot T)) (n : Node) (idle : ℕ) → IsLaidOut slots (Some n) idle → StartsChain slots n idle
  first_vacant slots n idle sound = by_count idle sound.chain
    where
      by_count : (k : ℕ) → IsVacantChain slots k (Some n) → StartsChain slots n k
      by_count zero chain = absurd chain
      by_count (suc k) chain =
          record {
            next = chain.0;
            found = chain.1;
            within = slice_get_within slots n.0 _ chain.1;
            some = omega arith;
            rest = let e : suc k - 1 ≡ k = omega arith in rw e chain.2;
          }

  pub no_vacant : (slots : List (Slot T)) (idle : ℕ) → IsLaidOut slots None idle → idle ≡ 0
  no_vacant slots idle sound = by_count idle sound.chain
    where
      by_count : (k : ℕ) → IsVacantChain slots k None → k ≡ 0
      by_count zero chain = refl
      by_count (suc k) chain = absurd chain

  -- the count of links with one more at the end
  pub held-push : (slots : List (Slot T)) (link : Link T) → held (map link_of (slots ++ Held link ∷ [])) ≡ held (map link_of slots) + 1
  held-push slots link = rw (map_push link_of slots (Held link)) (sum_by_push (λ o. cond (is_some o) 1 0) (map link_of slots) (Some link))

  pub IsLaidOut-push : (slots : List (Slot T)) (idle : ℕ) (link : Link T) → IsLaidOut slots None idle → length slots + 1 < 2 ^ 32 → IsLaidOut (slots ++ Held link ∷ []) None idle
  IsLaidOut-push slots idle link sound few =
      let longer = length_push slots (Held link) in
      let none = no_vacant slots idle sound in
      record {
        counted = omega (arith, sound.counted, held-push slots link);
        few = omega arith;
        chain = let P : ℕ → Type 0 = λ k. IsVacantChain (slots ++ Held link ∷ []) k None in subst P (sym none) tt;
      }

  pub IsLaidOut-fill : (slots : List (Slot T)) (n : Node) (idle : ℕ) (next : Option Node) (link : Link T) → IsLaidOut slots (Some n) idle → slice_get slots n.0 ≡ Some (Vacant next) → IsLaidOut (set slots n.0 (Held link)) next (idle - 1)
  IsLaidOut-fill slots n idle next link sound listed =
      let first = first_vacant slots n idle sound in
      let found = first.found in
      let same : first.next ≡ next = cc in
      let off : (m : ℕ) → m < idle - 1 → IsVacantChain slots (suc m) (Some n) → ⊥ =
      λ m below p. omega (arith, chain-count_unique slots (suc m) idle (Some n) p sound.chain) in
      record {
        counted = omega (arith, sound.counted, first.some, held-set slots n.0 (Vacant next) (Held link) listed, length-set slots n.0 (Held link));
        few = omega (arith, sound.few, length-set slots n.0 (Held link));
        chain = chain-set slots n (Held link) (idle - 1) next off (subst (IsVacantChain slots (idle - 1)) same first.rest);
      }

  pub IsLaidOut-vacate : (slots : List (Slot T)) (vacant : Option Node) (idle : ℕ) (n : Node) (link : Link T) → IsLaidOut slots vacant idle → slice_get slots n.0 ≡ Some (Held link) → IsLaidOut (set slots n.0 (Vacant vacant)) (Some n) (idle + 1)
  IsLaidOut-vacate slots vacant idle n link sound found =
      let within = slice_get_within slots n.0 _ found in
      let written : slice_get (set slots n.0 (Vacant vacant)) n.0 ≡ Some (Vacant vacant) =
      slice_get-get_or _ n.0 (Vacant vacant) (omega (arith, length-set slots n.0 (Vacant vacant)))
      ∙ ap Some (get_or-set_same slots n.0 (Vacant vacant) (Vacant vacant) within) in
      let one_more : idle + 1 ≡ suc idle = omega arith in
      record {
        counted = omega (arith, sound.counted, held-set slots n.0 (Held link) (Vacant vacant) found, length-set slots n.0 (Vacant vacant));
        few = omega (arith, sound.few, length-set slots n.0 (Vacant vacant));
        chain = rw one_more (vacant, written, chain-set slots n (Vacant vacant) idle vacant (λ m _. held_is_off slots n link found m) sound.chain);
      }

  IsLaidOut-rewrite : (slots : List (Slot T)) (vacant : Option Node) (idle : ℕ) (n : Node) (old new : Link T) → IsLaidOut slots vacant idle → slice_get slots n.0 ≡ Some (Held old) → IsLaidOut (set slots n.0 (Held new)) vacant idle
  IsLaidOut-rewrite slots vacant idle n old new sound found =
      record {
        counted = omega (arith, sound.counted, held-set slots n.0 (Held old) (Held new) found, length-set slots n.0 (Held new));
        few = omega (arith, sound.few, length-set slots n.0 (Held new));
        chain = chain-set slots n (Held new) idle vacant (λ m _. held_is_off slots n old found m) sound.chain;
      }

  -- what a read at a place that a slot stands in gives is that slot
  pub read_at : (slots : List (Slot T)) (at : ℕ) (s r : Slot T) → slice_get slots at ≡ Some s → r ≡ get_or slots at r → r ≡ s
  read_at slots at s r found read = read ∙ get_or_from_slice_get slots at s r found

  -- a link that was read at its node, and changed there: the slots are laid out as before, the other links stay, and as many nodes have one
  pub record IsChanged (slots : List (Slot T)) (vacant : Option Node) (idle spare : ℕ) (seen : Slots T) (n : Node) (f : Link T → Link T) (link : Link T) : Type 0 where
    pub laid_out : IsLaidOut (set slots n.0 (Held (f link))) vacant idle
    pub told : record {
      links : map link_of (set slots n.0 (Held (f link))) ≡ set seen.links n.0 (option_map f (link_at seen.links n));
      held : held (map link_of (set slots n.0 (Held (f link)))) ≡ held seen.links;
      spare : spare ≡ seen.spare;
    }

  pub changed : (slots : List (Slot T)) (vacant : Option Node) (idle spare : ℕ) (seen : Slots T) (n : Node) (f : Link T → Link T) (link : Link T) (s : Slot T)
      → IsLaidOut slots vacant idle → record { links = map link_of slots; spare = spare } ≡ seen → s ≡ get_or slots n.0 s → s ≡ Held link → IsSome (link_at seen.links n)
      → IsChanged slots vacant idle spare seen n f link
  changed slots vacant idle spare seen n f link s sound view read is present =
      let are : map link_of slots ≡ seen.links = ap (λ (v : Slots T). v.links) view in
      let found = held_at slots n (rw (← are) at present) in
      let here : slice_get slots n.0 ≡ Some (Held link) = found.1 ∙ ap Some (sym (read_at slots n.0 (Held found.0) s found.1 read) ∙ is) in
      record {
        laid_out = IsLaidOut-rewrite slots vacant idle n link (f link) sound here;
        told = record {
          links = rw (← are, map-set, link_from_slot slots n (Held link) here) refl;
          held = rw (← are) (omega (arith, held-set slots n.0 (Held link) (Held (f link)) here));
          spare = ap (λ (v : Slots T). v.spare) view;
        };
      }

  -- the links after one more at the end, and after one in a vacant slot
  pub link_at-push : (slots : List (Slot T)) (link : Link T) (n : Node) → link_at (map link_of (slots ++ Held link ∷ [])) n ≡ (if n.0 == length slots then Some link else link_at (map link_of slots) n)
  link_at-push slots link n = rw map_push (let same = length-map slots link_of in rw (get_or-push_test (map link_of slots) (Some link) None n.0, same) refl)

  pub link_at-fill : (slots : List (Slot T)) (link : Link T) (at n : Node) → at.0 < length slots → link_at (map link_of (set slots at.0 (Held link))) n ≡ (if n.0 == at.0 then Some link else link_at (map link_of slots) n)
  link_at-fill slots link at n within =
      rw map-set (get_or-set_test (map link_of slots) at.0 n.0 (Some link) None (omega (arith, length-map slots link_of)))
