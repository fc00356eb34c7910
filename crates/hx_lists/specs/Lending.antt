-- What a list ends as, once a `&mut` into it has ended.
use Rattle.std.specs.Prelude.{ℕ, List, length, slice_set, Option}
use Rattle.std.specs.Borrow.{Fml, RattleType, MutBor, Array, Lends, LendsIf}
use Rattle.std.specs.List.{refill}
use Rattle.hx_lists.specs.contracts.Seq.{the_row}

-- the item in the place is the last value written through r, and at `None` the list stays as it is
abbrev pub lends_item : (R : RattleType) → MutBor (List R.Denot) → ℕ → Option (MutBor R.Denot) → Fml
lends_item R list place r = LendsIf (the_row R) R list r (λ w. slice_set list.now place w) list.now

-- the items are the last ones behind r
abbrev pub lends_items : (R : RattleType) → MutBor (List R.Denot) → MutBor (List R.Denot) → Fml
lends_items R list r = Lends (the_row R) (Array R 0) list r (refill (length list.now) list.now)
