-- What contracts see of a log.
use Rattle.std.specs.Prelude.{ℕ, List, refl}
use Rattle.std.specs.Coded.{Coded, code_by, coded×, coded_ℕ, coded_list}

-- the items in order, and how many more need no memory
pub record Log (X : Type 0) : Type 0 where
  pub items : List X
  pub spare : ℕ

-- a log is stored as the pair of its fields
abbrev pub log_code : {X : Type 0} → Coded X → Coded (Log X)
log_code {X} code =
    code_by
    (List X × ℕ)
    (coded× (coded_list code) coded_ℕ)
    (λ l. (l.items, l.spare))
    (λ p. record { items = p.0; spare = p.1 })
    (λ _. refl)
