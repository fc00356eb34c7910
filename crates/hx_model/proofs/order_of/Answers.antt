use Rattle.std.proofs.Common.{◌≡◌, ℕ, ◌+◌, ◌<◌, List, length, map, take, get_or, arith, length-set}
use Rattle.std.proofs.Math.ListN.{set}
use Rattle.std.proofs.lemmas.Grind.{common_steps}
use Rattle.hx_model.proofs.order_of.Goals as goal

order_more : {X Y : Type 0} (f : X → Y) (os : List Y) (xs : List X) (i : ℕ) (d : X) → i < length os → i < length xs → take i os ≡ map f (take i xs) → take (i + 1) (set os i (f (get_or xs i d))) ≡ map f (take (i + 1) xs)
order_more f os xs i d o x is = grind (arith, common_steps, is)

pub loop-place-preserved : goal.loop-place-preserved
loop-place-preserved c = record {
  taken = order_more _ _ _ _ _ (omega (arith, c.loop-place.invariant.room)) (omega arith) c.loop-place.invariant.taken;
  room = simp length-set c.loop-place.invariant.room;
}
