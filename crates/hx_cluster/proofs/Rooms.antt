-- Where a cluster has room, no pass number comes near the end of its type.
use Rattle.std.proofs.Common.{◌≡◌, ℕ, ◌<◌, Bool, true, false, List, Option, None, Some, refl, arith, lit<}
use Rattle.std.specs.Prelude.{nat_lt, slice_get}
use Rattle.std.specs.List.{list_all}
use Rattle.std.specs.Option.{option_map_or}
use Rattle.std.proofs.lemmas.Bool.Decides.{nat_tests}
use Rattle.std.proofs.lemmas.List.Folds.{list_all_at}
use Rattle.std.proofs.lemmas.Option.{slice_get_within, get_or_from_slice_get}
use Rattle.hx_ids.specs.declared.ControllerId.{ControllerId}
use Rattle.hx_ids.specs.declared.PassNo.{PassNo}
use Rattle.hx_cluster.specs.declared.state.Cluster.{Cluster}
use Rattle.hx_cluster.specs.Reads.{pass_of}
use Rattle.hx_cluster.specs.Room.{half, HasRoom}

one_below : (ds : List (Bool × PassNo)) (k : ℕ) (d : Bool × PassNo) → list_all (λ d. nat_lt d.1.0 half) ds ≡ true → slice_get ds k ≡ Some d → (b : Bool) → nat_lt d.1.0 half ≡ b → d.1.0 < half
one_below ds k d all e true h = grind (arith, nat_tests, h)
one_below ds k d all e false h = cc (all, list_all_at (λ d. nat_lt d.1.0 half) ds k d (slice_get_within ds k d e) (rw (get_or_from_slice_get ds k d d e) h))

pub pass_below : (ds : List (Bool × PassNo)) (k : ℕ) → list_all (λ d. nat_lt d.1.0 half) ds ≡ true → (option_map_or (λ d. d.1) (slice_get ds k) (record { 0 = 0 })).0 < half
pass_below ds k all = one (slice_get ds k) refl
  where
    one : (o : Option (Bool × PassNo)) → slice_get ds k ≡ o → (option_map_or (λ d. d.1) o (record { 0 = 0 })).0 < half
    one None e = lit< tt
    one (Some d) e = one_below ds k d all e (nat_lt d.1.0 half) refl

pub pass_has_room : (c : Cluster) (k : ControllerId) → HasRoom c → (pass_of c k).0 < half
pass_has_room c k room = pass_below c.controllers k.0 room.passes
