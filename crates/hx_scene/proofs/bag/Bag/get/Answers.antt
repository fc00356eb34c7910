use Rattle.std.proofs.Common.{ap, ◌∙◌, ◌==◌, find}
use Rattle.hx_scene.proofs.bag.Bag.get.Goals as goal

pub returns-clause-found : goal.returns-clause-found
returns-clause-found c =
    let number = c.in_ok-number_all.ensures in
    rw (← c.self.view_is) (c.get.ensures ∙ ap (find (λ m. m.id.0 == c.args.id.0)) (rw number.ok at number.items))
