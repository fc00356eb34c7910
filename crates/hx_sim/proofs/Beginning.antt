-- A turn that is given up, and begun anew.
use Rattle.std.proofs.Common.{◌≡◌, ℕ, List, [], refl, sym, ap, subst}
use Rattle.std.specs.Prelude.{slice_set}
use Rattle.hx_ids.specs.declared.ControllerId.{ControllerId}
use Rattle.hx_control.specs.Controllers.{idle_controller}
use Rattle.hx_worlds.specs.declared.Voice.{Voice}
use Rattle.hx_worlds.specs.Turns.{step, do_begin, without_outcome}
use Rattle.hx_scene.specs.Scenes.{SceneState, at}
use Rattle.hx_scene.specs.Doing.{Keeps, Reaches}
use Rattle.hx_scene.proofs.Reaching.{one_step}

abbrev given_up : SceneState → ControllerId → SceneState
given_up s k = record s { controllers = slice_set s.controllers k.0 (idle_controller k) }

keeps_given_up : (s : SceneState) (k : ControllerId) → Keeps s (given_up s k) []
keeps_given_up s k = record {
  muted = refl;
  lists = refl;
  lines = refl;
  told = λ c. (record { few = c.few; staff = c.staff; jobs = c.jobs }, tt);
}

pub begins : (v : Voice) (k : ControllerId) (s w : SceneState) (p : List ℕ) → w ≡ record s { controllers = slice_set s.controllers k.0 (idle_controller k) }
    → Reaches (λ x. without_outcome (do_begin v k x)) s p (λ x. without_outcome (step v k x)) w p
begins v k s w p is =
    one_step (λ x. without_outcome (do_begin v k x)) (λ x. without_outcome (step v k x)) s p w []
    (λ a _. ap (λ (u : SceneState). without_outcome (step v k (at u a))) (sym is))
    (ap (λ (u : SceneState). u.board) is)
    (ap (λ (u : SceneState). u.spec) is)
    (subst (λ (u : SceneState). Keeps s u []) (sym is) (keeps_given_up s k))
