use Rattle.hx_scene.proofs.scene.Scene.fetched.Goals as goal

pub returns-clause-found : goal.returns-clause-found
returns-clause-found g c = rw (← c.self.view_is) c.get.ensures.found
