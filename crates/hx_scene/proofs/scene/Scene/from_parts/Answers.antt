use Rattle.std.proofs.Common.{rules, refl}
use Rattle.hx_scene.proofs.Standing.{all_at_rest}
use Rattle.hx_scene.proofs.OfParts.{scene_of_parts}
use Rattle.hx_scene.proofs.scene.Scene.from_parts.Goals as goal

pub invariant_of-result : goal.invariant_of-result
invariant_of-result g c =
    (rw (c.new.ensures.items, c.new-in-Ok.ensures.items) (scene_of_parts _ _ _ _ c.requires.history c.requires.orderly c.requires.agree), search rules)

pub close_all-requires-after_bounds : goal.close_all-requires-after_bounds
close_all-requires-after_bounds g c κs within = all_at_rest _ (scene_of_parts _ _ _ _ c.requires.history c.requires.orderly c.requires.agree) refl
