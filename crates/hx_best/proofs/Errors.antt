-- Where no row is in ERROR, no replica is.
use Rattle.std.proofs.Common.{◌≡◌, Bool, true, false, List, [], ◌∷◌, refl, arith}
use Rattle.hx_ids.specs.declared.SessionId.{SessionId}
use Rattle.hx_ids.specs.declared.PartId.{PartId}
use Rattle.hx_cluster.specs.declared.state.Row.{Row}
use Rattle.hx_cluster.specs.Ends.{is_row, state_of}
use Rattle.hx_cluster.specs.Steps.{is_error}
use Rattle.hx_best.specs.Lookups.{has_errors}

pub no_error : (rows : List Row) (s : SessionId) (p : PartId) → has_errors rows ≡ false → is_error (state_of rows s p) ≡ false
no_error [] s p e = refl
no_error (r ∷ rows) s p e = one (is_row s p r) refl (no_error rows s p)
  where
    one : (b : Bool) → is_row s p r ≡ b → (has_errors rows ≡ false → is_error (state_of rows s p) ≡ false) → is_error (state_of (r ∷ rows) s p) ≡ false
    one true is more = rw is (grind (arith, e))
    one false is more = rw is (more (grind (arith, e)))
