-- Where the first item of a session's part stands.
use Rattle.std.proofs.Common.{◌≡◌, ℕ, Bool, true, false, List, [], ◌∷◌, ◌++◌, length, get_or, find, cond, Bor, refl, sym, ap, ◌∙◌, arith}
use Rattle.std.specs.Prelude.{Option, None, Some, is_some, slice_get, nat_lt, option_copied, if◌then◌else◌}
use Rattle.std.specs.Option.{option_or, option_and_then, IfSome}
use Rattle.std.proofs.lemmas.Option.{slice_get_past, slice_get_read}
use Rattle.std.specs.Ordering.{is_eq}
use Rattle.std.specs.List.{list_any, position}
use Rattle.std.proofs.lemmas.Bool.Decides.{nat_tests}
use Rattle.std.proofs.lemmas.List.Folds.{find_at}
use Rattle.hx_ids.specs.declared.SessionId.{SessionId}
use Rattle.hx_ids.specs.declared.PartId.{PartId}
use Rattle.hx_cluster.specs.declared.planning.Candidate.{Candidate}
use Rattle.hx_report.specs.Places.{is_for, replica_cmp}

-- one item more
pub position-push : {X : Type 0} (q : X → Bool) (xs : List X) (x : X) → position q (xs ++ x ∷ []) ≡ option_or (position q xs) (if q x then Some (length xs) else None)
position-push q [] x = grind (arith, nat_tests)
position-push q (y ∷ xs) x = grind (arith, nat_tests, position-push q xs x)

-- the item in that place is the one that is looked for
pub found_placed : {X : Type 0} (q : X → Bool) (xs : List X) → option_and_then (slice_get xs) (position q xs) ≡ find q xs
found_placed q [] = refl
found_placed q (x ∷ xs) = grind (arith, nat_tests, find_at q (x ∷ xs), found_placed q xs)

pub found_any : {X : Type 0} (q : X → Bool) (xs : List X) → is_some (find q xs) ≡ list_any q xs
found_any q [] = refl
found_any q (x ∷ xs) = grind (arith, found_any q xs)

-- keys that tie are the same
replica_tied : (s u : SessionId) (p q : PartId) → is_eq (replica_cmp (s, p) (u, q)) ≡ true → (s ≡ u) × (p ≡ q)
replica_tied s u p q e =
    let session : s.0 ≡ u.0 = grind (arith, nat_tests, e) in
    let resource : p.resource.0 ≡ q.resource.0 = grind (arith, nat_tests, e) in
    let index : p.index ≡ q.index = grind (arith, nat_tests, e) in
    (ap (λ (n : ℕ). let x : SessionId = record { 0 = n } in x) session, ap (λ (n : ℕ). let x : PartId = record { resource = record { 0 = n }; index = p.index } in x) resource ∙ ap (λ (n : ℕ). let x : PartId = record { resource = q.resource; index = n } in x) index)

replica_is_its : (s : SessionId) (p : PartId) (c : Candidate) → is_eq (replica_cmp (c.session, c.part) (s, p)) ≡ is_for s p c
replica_is_its s p c = grind (arith, nat_tests)

or_none : {X : Type 0} (o : Option X) → option_or o None ≡ o
or_none None = refl
or_none (Some x) = refl

or_some : {X : Type 0} (o p : Option X) → is_some o ≡ true → option_or o p ≡ o
or_some None p e = cc
or_some (Some x) p e = refl

or_absent : {X : Type 0} (o p : Option X) → is_some o ≡ false → option_or o p ≡ p
or_absent None p e = refl
or_absent (Some x) p e = cc

-- a table with an item more
module _ {X : Type 0} (candidate_of : X → Candidate) (xs : List X) (x : X) (c : Candidate) (is : c ≡ candidate_of x)
    (old : SessionId → PartId → Option ℕ) (are : (s : SessionId) (p : PartId) → old s p ≡ position (λ y. is_for s p (candidate_of y)) xs) where
  pushed : (s : SessionId) (p : PartId) (b : Bool) → is_eq (replica_cmp (c.session, c.part) (s, p)) ≡ b
      → position (λ y. is_for s p (candidate_of y)) (xs ++ x ∷ []) ≡ option_or (old s p) (if b then Some (length xs) else None)
  pushed s p b e =
      let its : is_for s p (candidate_of x) ≡ b = ap (is_for s p) (sym is) ∙ sym (replica_is_its s p c) ∙ e in
      position-push (λ y. is_for s p (candidate_of y)) xs x
      ∙ ap (λ (k : Bool). option_or (position (λ y. is_for s p (candidate_of y)) xs) (if k then Some (length xs) else None)) its
      ∙ ap (λ (o : Option ℕ). option_or o (if b then Some (length xs) else None)) (sym (are s p))

  same_key : (s : SessionId) (p : PartId) → is_eq (replica_cmp (c.session, c.part) (s, p)) ≡ true → old c.session c.part ≡ old s p
  same_key s p e = let tied = replica_tied c.session s c.part p e in ap (λ (u : SessionId). old u c.part) tied.0 ∙ ap (old s) tied.1

  pub place_added : (i : ℕ) (new : SessionId → PartId → Option ℕ) → i ≡ length xs → is_some (old c.session c.part) ≡ false
      → ((s : SessionId) (p : PartId) → new s p ≡ cond (is_eq (replica_cmp (c.session, c.part) (s, p))) (Some i) (old s p))
      → (s : SessionId) (p : PartId) → new s p ≡ position (λ y. is_for s p (candidate_of y)) (xs ++ x ∷ [])
  place_added i new last none put s p = one (is_eq (replica_cmp (c.session, c.part) (s, p))) refl
    where
      one : (b : Bool) → is_eq (replica_cmp (c.session, c.part) (s, p)) ≡ b → new s p ≡ position (λ y. is_for s p (candidate_of y)) (xs ++ x ∷ [])
      one true e =
          let absent : is_some (old s p) ≡ false = ap is_some (sym (same_key s p e)) ∙ none in
          put s p ∙ ap (λ (b : Bool). cond b (Some i) (old s p)) e ∙ ap (λ (n : ℕ). Some n) last ∙ sym (or_absent (old s p) (Some (length xs)) absent) ∙ sym (pushed s p true e)
      one false e = put s p ∙ ap (λ (b : Bool). cond b (Some i) (old s p)) e ∙ sym (or_none (old s p)) ∙ sym (pushed s p false e)

  pub place_kept : is_some (old c.session c.part) ≡ true → (s : SessionId) (p : PartId) → old s p ≡ position (λ y. is_for s p (candidate_of y)) (xs ++ x ∷ [])
  place_kept some s p = one (is_eq (replica_cmp (c.session, c.part) (s, p))) refl
    where
      one : (b : Bool) → is_eq (replica_cmp (c.session, c.part) (s, p)) ≡ b → old s p ≡ position (λ y. is_for s p (candidate_of y)) (xs ++ x ∷ [])
      one true e =
          let present : is_some (old s p) ≡ true = ap is_some (sym (same_key s p e)) ∙ some in
          sym (or_some (old s p) (Some (length xs)) present) ∙ sym (pushed s p true e)
      one false e = sym (or_none (old s p)) ∙ sym (pushed s p false e)

-- what a look-up in a slice gives
pub got : {X : Type 0} (items : List X) (i : ℕ) (r : Option (Bor X)) → is_some r ≡ nat_lt i (length items) → IfSome r (λ x. x.now ≡ get_or items i x.now) → option_copied r ≡ slice_get items i
got items i None is some = sym (slice_get_past items i (grind (arith, nat_tests, is)))
got items i (Some x) is some = sym (slice_get_read items (length items) i x.now refl (grind (arith, nat_tests, is)) some)
