use Rattle.std.proofs.Common.{◌≡◌, subst}
use Rattle.std.specs.Prelude.{IfOk}
use Rattle.hx_scene.specs.Scenes.{SceneState}
use Rattle.hx_app.proofs.Opening.{opening_parts, opened_parts}
use Rattle.hx_app.proofs.simulation.opening.Goals as goal

pub from_parts-requires-clause-history : goal.from_parts-requires-clause-history
from_parts-requires-clause-history c κs =
    (opened_parts c.args.spec c.args.lines.now _ _ _ c.in_ok-board.ensures.board c.in_ok-board.ensures.controllers c.in_ok-board.ensures.staff c.requires.valid).0

pub from_parts-requires-clause-orderly : goal.from_parts-requires-clause-orderly
from_parts-requires-clause-orderly c κs =
    (opened_parts c.args.spec c.args.lines.now _ _ _ c.in_ok-board.ensures.board c.in_ok-board.ensures.controllers c.in_ok-board.ensures.staff c.requires.valid).1

pub returns : goal.returns
returns c =
    let is = opening_parts c.args.spec c.args.lines.now _ _ _ c.in_ok-board.ensures.board c.in_ok-board.ensures.controllers c.in_ok-board.ensures.staff in
    subst (λ (s : SceneState). IfOk c.from_parts.result (λ w. w ≡ s)) is c.from_parts.ensures

pub from_parts-requires-clause-agree : goal.from_parts-requires-clause-agree
from_parts-requires-clause-agree c κs =
    (opened_parts c.args.spec c.args.lines.now _ _ _ c.in_ok-board.ensures.board c.in_ok-board.ensures.controllers c.in_ok-board.ensures.staff c.requires.valid).2
