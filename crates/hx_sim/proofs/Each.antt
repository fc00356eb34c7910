-- An operation for each item of a list, and for each number that items have.
use Rattle.std.proofs.Common.{◌≡◌, List, [], ◌∷◌, map, refl}
use Rattle.hx_ids.specs.declared.InstanceId.{InstanceId}
use Rattle.hx_ids.specs.declared.SessionId.{SessionId}
use Rattle.hx_ids.specs.declared.PartId.{PartId}
use Rattle.hx_ids.specs.declared.MsgId.{MsgId}
use Rattle.hx_worlds.specs.World.{State}
use Rattle.hx_worlds.specs.Runs.{Deed, and_then, for_each}

pub each_map : {X Y : Type 0} (f : Y → State → Deed) (g : X → Y) (xs : List X) (x : State) → for_each (λ i y. f (g i) y) xs x ≡ for_each f (map g xs) x
each_map f g [] x = refl
each_map f g (i ∷ xs) x = λ k. and_then (f (g i) x) (λ y. each_map f g xs y k)

-- what is read where a list has no item
abbrev pub no_id : MsgId
no_id = record { 0 = 0 }

abbrev pub no_instance : InstanceId
no_instance = record { 0 = 0 }

abbrev pub no_session : SessionId × InstanceId
no_session = (record { 0 = 0 }, no_instance)

abbrev pub no_part : PartId
no_part = record { resource = record { 0 = 0 }; index = 0 }
