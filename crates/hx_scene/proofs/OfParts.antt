-- A scene is put together of parts that agree.
use Rattle.std.proofs.Common.{◌≡◌, false, [], refl, sym, subst}
use Rattle.std.proofs.lemmas.List.Elements.{All-nil}
use Rattle.std.specs.List.{All}
use Rattle.std.specs.Prelude.{List}
use Rattle.hx_cluster.specs.declared.description.Spec.{Spec}
use Rattle.hx_cluster.specs.Steps.{opening}
use Rattle.hx_cluster.specs.Events.{replay, IsLegal}
use Rattle.hx_cluster.specs.Valid.{IsValid}
use Rattle.hx_board.specs.Board.{Held, HasHistory}
use Rattle.hx_replicas.specs.Jobs.{ParticipantState}
use Rattle.hx_control.specs.Controllers.{Controller}
use Rattle.hx_worlds.specs.Agree.{Agree, stationed_from}
use Rattle.hx_agreed.specs.OfParts.{IsOrderly, IsOfParts}
use Rattle.hx_agreed.proofs.OfParts.{of_parts_in_step, of_parts_of_history}
use Rattle.hx_scene.specs.Scenes.{SceneState, world_of, lists_of}
use Rattle.hx_scene.specs.Kept.{IsListed, IsScene}
use Rattle.hx_scene.specs.Ending.{plain_staff}

abbrev pub fresh : Spec → Held → List Controller → List ParticipantState → SceneState
fresh spec board ks staff = record { spec = spec; board = board; controllers = ks; staff = staff; jobs = []; bag = []; handed = 0; muted = false }

module _ (spec : Spec) (board : Held) (ks : List Controller) (staff : List ParticipantState) (history : HasHistory board)
    (orderly : All IsOrderly (plain_staff staff)) (agree : Agree spec (record { spec = board.spec; history = board.history }) ks (stationed_from 0 (plain_staff staff))) where
  own : board.spec ≡ spec
  own = agree.staffed.spec

  of_parts : IsOfParts spec (world_of (fresh spec board ks staff))
  of_parts = record {
    cluster = sym (subst (λ (s : Spec). replay (opening s) board.history ≡ board.cluster) own history.replays);
    jobs = refl;
    bag = refl;
    weight = history.weight;
    orderly = orderly;
    agree = subst (λ (s : Spec). Agree spec (record { spec = s; history = board.history }) ks (stationed_from 0 (plain_staff staff))) own agree;
  }

  pub scene_of_parts : IsScene (fresh spec board ks staff)
  scene_of_parts =
      let s = fresh spec board ks staff in
      let valid = subst IsValid own history.valid in
      let legal = subst (λ (g : Spec). IsLegal (opening g) board.history) own history.legal in
      record {
        own = own;
        history = history;
        of_history = of_parts_of_history spec (world_of s) valid of_parts legal;
        in_step = of_parts_in_step spec (world_of s) valid of_parts legal;
        listed = All-nil (IsListed (lists_of s));
      }
