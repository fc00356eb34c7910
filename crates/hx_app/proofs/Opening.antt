-- The scene that a script begins with is its world, in which nothing happened.
use Rattle.std.proofs.Common.{◌≡◌, ℕ, zero, suc, ◌+◌, Bool, true, false, List, [], ◌∷◌, map, length, Option, None, Some, refl, sym, ap, subst, ◌∙◌, arith}
use Rattle.std.specs.Prelude.{replicate}
use Rattle.std.specs.List.{All}
use Rattle.std.proofs.lemmas.List.Elements.{All-cons, All-nil}
use Rattle.hx_lists.specs.Lists.{numbers_from}
use Rattle.hx_cluster.specs.declared.description.Spec.{Spec}
use Rattle.hx_cluster.specs.declared.description.Failure.{Failure}
use Rattle.hx_cluster.specs.Valid.{IsValid}
use Rattle.hx_board.specs.Board.{Held, HasHistory, new_board}
use Rattle.hx_board.proofs.Histories.{opens}
use Rattle.hx_control.specs.Controllers.{Controller}
use Rattle.hx_replicas.specs.Participants.{Participant, new_participant}
use Rattle.hx_replicas.specs.Jobs.{ParticipantState}
use Rattle.hx_script.specs.declared.Line.{Line}
use Rattle.hx_worlds.specs.Agree.{Agree, board_of, stationed_from}
use Rattle.hx_agreed.specs.OfParts.{IsOrderly}
use Rattle.hx_agreed.proofs.Laws.{openings}
use Rattle.hx_worlds.specs.World.{World, opening_world, controllers_of}
use Rattle.hx_worlds.specs.Scripts.{are_next_lines, most_weight}
use Rattle.hx_scene.specs.Scenes.{SceneState, world_of, lists_of}
use Rattle.hx_scene.specs.Ending.{plain_staff}
use Rattle.hx_scene.specs.Doing.{IsBelow, IsCounted}
use Rattle.hx_app.specs.Simulation.{IsFresh, failure_lists, numbers_of, staff_at, staff_from, opening_scene}

plain_from : (n : ℕ) (lists : List (List Failure)) → map (λ (p : ParticipantState). p.plain) (staff_from n lists) ≡ replicate (length lists) new_participant
plain_from n [] = refl
plain_from n (failures ∷ more) = ap (λ (ws : List Participant). new_participant ∷ ws) (plain_from (n + 1) more)

many_from : {X : Type 0} (f : ℕ → X) (a n : ℕ) → length (map f (numbers_from a n)) ≡ n
many_from f a zero = refl
many_from f a (suc n) = ap suc (many_from f (a + 1) n)

pub world_is : (muted : Bool) (spec : Spec) (lines : List Line) → world_of (opening_scene muted spec lines) ≡ opening_world spec most_weight
world_is muted spec lines =
    ap (λ (ws : List Participant). record (opening_world spec most_weight) { participants = ws })
    (plain_from 0 (failure_lists spec) ∙ ap (λ n. replicate n new_participant) (many_from _ 0 (length spec.instances)))

pub opening_fresh : (muted : Bool) (spec : Spec) (lines : List Line) → are_next_lines spec None lines ≡ true → IsFresh lines (opening_scene muted spec lines)
opening_fresh muted spec lines given = record { history = refl; line = refl; numbers = refl; given = given }

-- of parts that are made one by one
abbrev parts : Spec → Held → List Controller → List ParticipantState → SceneState
parts spec board controllers staff = record { spec = spec; board = board; controllers = controllers; staff = staff; jobs = []; bag = []; handed = 0; muted = false }

pub opening_parts : (spec : Spec) (lines : List Line) (board : Held) (controllers : List Controller) (staff : List ParticipantState)
    → board ≡ new_board spec (numbers_of lines) most_weight → controllers ≡ controllers_of spec.controllers → staff ≡ staff_from 0 (failure_lists spec)
    → parts spec board controllers staff ≡ opening_scene false spec lines
opening_parts spec lines board controllers staff made idle told =
    ap (λ b. parts spec b controllers staff) made
    ∙ ap (λ ks. parts spec (new_board spec (numbers_of lines) most_weight) ks staff) idle
    ∙ ap (λ ps. parts spec (new_board spec (numbers_of lines) most_weight) (controllers_of spec.controllers) ps) told

-- which agree
orderly_from : (n : ℕ) (lists : List (List Failure)) → All IsOrderly (plain_staff (staff_from n lists))
orderly_from n [] = All-nil IsOrderly
orderly_from n (failures ∷ more) = All-cons IsOrderly new_participant (plain_staff (staff_from (n + 1) more)) (record { distinct = tt; used = refl }) (orderly_from (n + 1) more)

abbrev AgreeIn : SceneState → Type 0
AgreeIn s = Agree s.spec (record { spec = s.board.spec; history = s.board.history }) s.controllers (stationed_from 0 (plain_staff s.staff))

opening_agrees : (spec : Spec) (lines : List Line) → IsValid spec → AgreeIn (opening_scene false spec lines)
opening_agrees spec lines valid =
    subst (λ (w : World). Agree spec (board_of w) w.controllers (stationed_from 0 w.participants)) (sym (world_is false spec lines)) (openings spec most_weight valid).2

pub opened_parts : (spec : Spec) (lines : List Line) (board : Held) (controllers : List Controller) (staff : List ParticipantState)
    → board ≡ new_board spec (numbers_of lines) most_weight → controllers ≡ controllers_of spec.controllers → staff ≡ staff_from 0 (failure_lists spec)
    → IsValid spec → HasHistory board × All IsOrderly (plain_staff staff) × AgreeIn (parts spec board controllers staff)
opened_parts spec lines board controllers staff made idle told valid =
    let is = opening_parts spec lines board controllers staff made idle told in (
      subst (λ (s : SceneState). HasHistory s.board) (sym is) (opens spec valid (numbers_of lines) most_weight),
      subst (λ (s : SceneState). All IsOrderly (plain_staff s.staff)) (sym is) (orderly_from 0 (failure_lists spec)),
      subst AgreeIn (sym is) (opening_agrees spec lines valid),
    )

pub opened_fresh : (muted : Bool) (spec : Spec) (lines taken : List Line) (s : SceneState) → taken ≡ lines → s ≡ opening_scene muted spec lines → are_next_lines spec None lines ≡ true → IsFresh taken s
opened_fresh muted spec lines taken s same is given =
    subst (λ (u : SceneState). IsFresh taken u) (sym is) (subst (λ (ls : List Line). IsFresh ls (opening_scene muted spec lines)) (sym same) (opening_fresh muted spec lines given))

-- its participants fail as they are told, and nothing was tried yet
listed_from : (n : ℕ) (lists : List (List Failure)) → map (λ (p : ParticipantState). p.listed) (staff_from n lists) ≡ map Some lists
listed_from n [] = refl
listed_from n (failures ∷ more) = ap (λ (ls : List (Option (List Failure))). Some failures ∷ ls) (listed_from (n + 1) more)

pub lists_are : (muted : Bool) (spec : Spec) (lines : List Line) → lists_of (opening_scene muted spec lines) ≡ map Some (failure_lists spec)
lists_are muted spec lines = listed_from 0 (failure_lists spec)

below_from : (n : ℕ) (lists : List (List Failure)) → All (IsBelow 0) (staff_from n lists)
below_from n [] = λ k d here. absurd (omega arith)
below_from n (failures ∷ more) =
    All-cons (IsBelow 0) (staff_at n failures) (staff_from (n + 1) more) (record { made = omega arith; tried = λ q. omega arith; runs = λ k d here. absurd (omega arith) }) (below_from (n + 1) more)

pub opening_counted : (muted : Bool) (spec : Spec) (lines : List Line) → IsCounted (opening_scene muted spec lines)
opening_counted muted spec lines = record {
  few = omega arith;
  staff = below_from 0 (failure_lists spec);
  jobs = λ k d here. absurd (omega arith);
}
