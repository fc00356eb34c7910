-- A letter and a number.
use Rattle.std.proofs.Common.{◌≡◌, ◌≢◌, ℕ, List, [], ◌∷◌, None, refl, ap, inl, inr}
use Rattle.std.proofs.lemmas.Bool.Decides.{eqb_tells}
use Rattle.hx_script.specs.Grammar.{numbered_by}

-- another word has no such number
pub numbered_by-other : (letter : ℕ) (w : List ℕ) → ((rest : List ℕ) → w ≢ letter ∷ rest) → numbered_by letter w ≡ None
numbered_by-other letter [] other = refl
numbered_by-other letter (b ∷ bs) other =
    elim (eqb_tells b letter) [ inl p ↦ absurd (other bs (ap (λ x. x ∷ bs) p.1)) | inr p ↦ rw p.0 refl ]
