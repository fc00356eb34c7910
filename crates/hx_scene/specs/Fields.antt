-- What the fields of the parts of a world are seen as.
use Rattle.hx_scene.specs.declared.scene.Scene.TheInside.{Inside}
use Rattle.hx_scene.specs.Scenes.{SceneState}

abbrev pub scene_of : {F H : Type 0} → Inside F H → SceneState
scene_of a = record {
  spec = a.spec;
  board = a.board;
  controllers = a.controllers.items;
  staff = a.participants.items;
  jobs = a.jobs.items;
  bag = a.bag.items;
  handed = a.handed;
  muted = a.muted;
}
