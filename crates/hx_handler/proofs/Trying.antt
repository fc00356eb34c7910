-- One more making of a part, counted in the part's entry.
use Rattle.std.proofs.Common.{◌≡◌, ℕ, Bool, true, false, List, [], ◌∷◌, Option, refl, sym, ap, ◌∙◌, unwrap_or, arith}
use Rattle.std.proofs.lemmas.Bool.Decides.{nat_tests}
use Rattle.std.specs.Map.{lookup}
use Rattle.indexmap.specs.IndexMap.{insert_entry}
use Rattle.hx_ids.specs.declared.PartId.{PartId}
use Rattle.hx_cluster.specs.Ends.{part_eq}
use Rattle.hx_lists.specs.Counts.{count_up}
use Rattle.hx_handler.specs.Makings.{tried_of, tried_up}

same_test : (p q : PartId) → part_eq p q ≡ part_eq q p
same_test p q = grind (arith, nat_tests)

same_part : (p q : PartId) → part_eq p q ≡ true → q ≡ p
same_part p q e =
    let resource : q.resource.0 ≡ p.resource.0 = grind (arith, nat_tests, e) in
    let index : q.index ≡ p.index = grind (arith, nat_tests, e) in
    (λ i. record { resource = record { 0 = resource i }; index = index i })

-- the part's count is found there
pub found-tried : (es : List (PartId × ℕ)) (p : PartId) (o : Option ℕ) → lookup (part_eq p) es ≡ o → unwrap_or o 0 ≡ tried_of es p
found-tried es p o is = ap (λ found. unwrap_or found 0) (sym is) ∙ found es p
  where
    found : (es : List (PartId × ℕ)) (p : PartId) → unwrap_or (lookup (part_eq p) es) 0 ≡ tried_of es p
    found [] p = refl
    found (e ∷ es) p = by_test (part_eq p e.0) refl (found es p)
      where
        by_test : (b : Bool) → part_eq p e.0 ≡ b → unwrap_or (lookup (part_eq p) es) 0 ≡ tried_of es p → unwrap_or (lookup (part_eq p) (e ∷ es)) 0 ≡ tried_of (e ∷ es) p
        by_test true is rest = rw (is, same_test e.0 p ∙ is) refl
        by_test false is rest = rw (is, same_test e.0 p ∙ is) rest

-- one more is put there
pub put-tried : (es : List (PartId × ℕ)) (p : PartId) (n : ℕ) → n ≡ count_up (tried_of es p) → insert_entry part_eq es p n ≡ tried_up es p
put-tried es p n is = ap (insert_entry part_eq es p) is ∙ put es p
  where
    put : (es : List (PartId × ℕ)) (p : PartId) → insert_entry part_eq es p (count_up (tried_of es p)) ≡ tried_up es p
    put [] p = refl
    put (e ∷ es) p = by_test (part_eq p e.0) refl (put es p)
      where
        by_test : (b : Bool) → part_eq p e.0 ≡ b → insert_entry part_eq es p (count_up (tried_of es p)) ≡ tried_up es p → insert_entry part_eq (e ∷ es) p (count_up (tried_of (e ∷ es) p)) ≡ tried_up (e ∷ es) p
        by_test true is rest = rw (is, same_test e.0 p ∙ is) (ap (λ q. (q, count_up e.1) ∷ es) (same_part p e.0 is))
        by_test false is rest = rw (is, same_test e.0 p ∙ is) (ap (λ xs. e ∷ xs) rest)
