use Rattle.std.proofs.Common.{◌∙◌, length, refl}
use Rattle.std.proofs.lemmas.List.{get_or-replicate}
use Rattle.hx_hops.proofs.Table.{place_end}
use Rattle.hx_hops.proofs.places_of.Goals as goal

pub loop-place-init : goal.loop-place-init
loop-place-init c = record {
  room = refl;
  numbered = λ s lt. get_or-replicate 256 s (length c.args.states.now) 0 lt ∙ place_end s c.args.states.now;
}
