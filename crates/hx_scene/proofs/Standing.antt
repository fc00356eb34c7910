-- What a scene has between operations.
use Rattle.std.proofs.Common.{◌≡◌, ℕ, ◌<◌, true, false, List, [], length, map, refl, sym, ap, subst, ◌∙◌, arith}
use Rattle.std.specs.Prelude.{slice_index_or}
use Rattle.std.specs.List.{All, list_any}
use Rattle.std.proofs.lemmas.List.{length-map, get_or-map}
use Rattle.std.proofs.lemmas.Option.{slice_get_read, get_or_from_slice_get}
use Rattle.std.proofs.lemmas.Bool.Decides.{nat_tests}
use Rattle.hx_ids.specs.declared.InstanceId.{InstanceId}
use Rattle.hx_ids.specs.declared.ControllerId.{ControllerId}
use Rattle.hx_cluster.specs.Steps.{has_instance, has_controller}
use Rattle.hx_cluster.specs.Valid.{IsValid}
use Rattle.hx_replicas.specs.Participants.{Participant, new_participant, any_out}
use Rattle.hx_replicas.specs.Jobs.{ParticipantState}
use Rattle.hx_control.specs.Controllers.{Controller}
use Rattle.hx_worlds.specs.World.{Answers, Missing, controller_of}
use Rattle.hx_worlds.specs.Jobs.{is_job_of}
use Rattle.hx_safe.proofs.Whole.{length-replicate}
use Rattle.hx_scripted.proofs.Standing.{since, fixed_there}
use Rattle.hx_agreed.proofs.DoingTurns.{Stands}
use Rattle.hx_agreed.proofs.Operations.{stands_there, instance_there, controller_there, no_job_none_out}
use Rattle.hx_scene.specs.Scenes.{SceneState, at, world_of, plain_job}
use Rattle.hx_scene.specs.Kept.{IsScene}
use Rattle.hx_scene.specs.Ending.{IsAtRest, plain_staff}

pub valid_in : (s : SceneState) → IsScene s → IsValid s.spec
valid_in s is = subst IsValid is.own is.history.valid

pub stands_in : (s : SceneState) → IsScene s → (a : Answers) → Stands s.spec (since s.board.cluster.line) (at s a)
stands_in s is a = stands_there s.spec (at s a) is.of_history is.in_step

pub has_staff : (s : SceneState) → IsScene s → (i : InstanceId) → has_instance s.board.cluster i ≡ true → i.0 < length s.staff
has_staff s is i there =
    subst (λ n. i.0 < n) (length-map s.staff (λ (p : ParticipantState). p.plain)) (instance_there s.spec (valid_in s is) (since s.board.cluster.line) i (at s Missing) (stands_in s is Missing) there)

pub staff_has : (s : SceneState) → IsScene s → (i : InstanceId) → i.0 < length s.staff → has_instance s.board.cluster i ≡ true
staff_has s is i lt =
    let instances : length s.board.cluster.instances ≡ length s.spec.instances = (fixed_there s.spec (since s.board.cluster.line) (world_of s) (stands_in s is Missing).scripted).instances ∙ length-replicate (length s.spec.instances) false in
    let many : length (plain_staff s.staff) ≡ length s.spec.instances = is.in_step.participants in
    let same = length-map s.staff (λ (p : ParticipantState). p.plain) in
    grind (arith, nat_tests, lt, instances, many, same)

pub has_turn : (s : SceneState) → IsScene s → (k : ControllerId) → has_controller s.board.cluster k ≡ true → k.0 < length s.controllers
has_turn s is k there = controller_there s.spec (valid_in s is) (since s.board.cluster.line) k (at s Missing) (stands_in s is Missing) there

-- what a call read at a place stands there
pub reads : {X : Type 0} (xs : List X) (n : ℕ) (x d : X) → n < length xs → x ≡ slice_index_or xs n x → x ≡ slice_index_or xs n d
reads xs n x d lt is = sym (get_or_from_slice_get xs n x d (slice_get_read xs (length xs) n x refl lt is))

pub participant_is : (staff : List ParticipantState) (i : InstanceId) (p : ParticipantState) → i.0 < length staff → p ≡ slice_index_or staff i.0 p
    → slice_index_or (plain_staff staff) i.0 new_participant ≡ p.plain
participant_is staff i p lt is =
    get_or-map (λ (p : ParticipantState). p.plain) staff i.0 p new_participant lt ∙ ap (λ (p : ParticipantState). p.plain) (sym is)

pub controller_is : {s : SceneState} (k : ControllerId) (t : Controller) → IsScene s → has_controller s.board.cluster k ≡ true → t ≡ slice_index_or s.controllers k.0 t → t ≡ controller_of (world_of s) k
controller_is {s} k t is there at_k = reads s.controllers k.0 t _ (has_turn s is k there) at_k

-- where no job is open all participants are at rest
pub all_at_rest : (s : SceneState) → IsScene s → s.jobs ≡ [] → All IsAtRest s.staff
all_at_rest s is none k d lt =
    let no_job : list_any (is_job_of (record { 0 = k })) (map plain_job s.jobs) ≡ false = ap (λ js. list_any (is_job_of (record { 0 = k })) (map plain_job js)) none in
    subst (λ (w : Participant). any_out w ≡ false) (get_or-map (λ (p : ParticipantState). p.plain) s.staff k d new_participant lt)
    (no_job_none_out s.spec (valid_in s is) (since s.board.cluster.line) (record { 0 = k }) (at s Missing) (stands_in s is Missing) no_job)
