-- The steps of a controller's turn: begin, the reads, the plan, its dispatch, and the post. All but the plan are calls of the board.
use Rattle.std.specs.Prelude.{ℕ, Bool, true, false, not, ◌==◌, ◌&&◌, List, [], ◌∷◌, length, Option, None, Some, if◌then◌else◌, nat_lt, nat_le}
use Rattle.std.specs.List.{list_all}
use Rattle.hx_lists.specs.Lists.{count, numbers_below}
use Rattle.hx_cluster.specs.declared.description.Spec.{Spec}
use Rattle.hx_cluster.specs.declared.state.Cluster.{Cluster}
use Rattle.hx_cluster.specs.declared.planning.View.{View}
use Rattle.hx_cluster.specs.declared.planning.Plan.{Plan}
use Rattle.hx_cluster.specs.declared.happenings.Placed.{Placed}
use Rattle.hx_cluster.specs.declared.happenings.Placed.TheVariants as placings
use Rattle.hx_cluster.specs.declared.happenings.Dispatched.{Dispatched}
use Rattle.hx_cluster.specs.declared.happenings.Event.{Event}
use Rattle.hx_cluster.specs.declared.happenings.Event.TheVariants as events
use Rattle.hx_cluster.specs.Ends.{parts_of}
use Rattle.hx_cluster.specs.Steps.{is_leader}
use Rattle.hx_cluster.specs.Reads.{pass_of}
use Rattle.hx_cluster.specs.Events.{begun_of, dispatched_of, is_epoch, is_pass}
use Rattle.hx_pass.specs.Plans.{plan}
use Rattle.hx_cluster.specs.Views.{is_well_formed}
use Rattle.hx_pass.specs.Turns.{Call, Live, Mail, States, Ideals, Send, Post, Turn, turn_after, posted_of}
use Rattle.hx_control.specs.declared.PassOutcome.{PassOutcome}
use Rattle.hx_control.specs.declared.PassOutcome.TheVariants as ends
use Rattle.hx_control.specs.declared.ControlFault.{ControlFault}
use Rattle.hx_control.specs.declared.ControlFault.TheVariants as faults
use Rattle.hx_control.specs.Controllers.{Controller, idle_controller}

-- a step makes a call, which may have an outcome, or makes the plan; or it is refused
pub data Step : Type 0 where
  Calls : Event → Option PassOutcome → Step
  Plans : Plan → Step
  Refuses : ControlFault → Step

-- how a dispatch ended
abbrev pub is_sent : Placed → Bool
is_sent (placings.Sent id) = true
is_sent _ = false

abbrev pub outcome_of : Turn → Plan → Dispatched → PassOutcome
outcome_of t p d =
    if nat_lt 0 (length p.proposals) then ends.Sent (count is_sent d.placed)
    else if nat_lt 0 (length t.view.mail) then ends.Waiting (length t.view.mail)
    else if t.begun.change == d.change then ends.Settled p.report
    else ends.Moved t.begun.change d.change

-- a view that a plan of a cluster can be made of: it is well formed, and the cluster has each part of its resources
abbrev pub has_parts_of : Cluster → View → ℕ → Bool
has_parts_of c view n = nat_le (parts_of view.ideals.resources (record { 0 = n })) (parts_of c.resources (record { 0 = n }))

abbrev pub is_of_cluster : Spec → Cluster → View → Bool
is_of_cluster spec c view =
    is_well_formed spec.models (length c.instances) view
    && list_all (has_parts_of c view) (numbers_below (length view.ideals.resources))

-- begin is the leader's; a read is one of the pass that stands
abbrev pub begin_step : Cluster → Controller → Step
begin_step c x = if is_leader x.id c.leader then Calls (events.Begin x.id (begun_of c x.id)) None else Refuses (faults.NotLeader c.leader)

abbrev pub read_step : Cluster → Controller → Event → Step
read_step c x read = if is_pass c x.id x.turn.begun.pass then Calls read None else Refuses (faults.OldPass (pass_of c x.id))

-- the plan of the view, and its dispatch, which is of the epoch and of the pass that stand
abbrev pub dispatch_step : Cluster → Controller → Plan → Dispatched → Step
dispatch_step c x p d =
    if not (is_epoch c x.turn.begun.epoch) then Refuses (faults.Fenced c.epoch)
    else if not (is_pass c x.id x.turn.begun.pass) then Refuses (faults.OldPass (pass_of c x.id))
    else Calls (events.Dispatch x.id x.turn.begun.epoch x.turn.begun.pass p.proposals d) (Some (outcome_of x.turn p d))

abbrev pub planned_step : Spec → Cluster → Controller → Option Plan → Step
planned_step spec c x None = Plans (plan spec.models spec.rules x.turn.view)
planned_step spec c x (Some p) = dispatch_step c x p (dispatched_of c x.id p.proposals)

-- the post of the rows that the turn was shown
abbrev pub post_step : Cluster → Controller → Step
post_step c x =
    if is_epoch c x.turn.begun.epoch then Calls (events.Post x.id x.turn.begun.epoch (posted_of x.turn.view)) None
    else Refuses (faults.Fenced c.epoch)

-- what the view of another cluster refuses
abbrev pub of_cluster : Bool → Step → Step
of_cluster true step = step
of_cluster false step = Refuses faults.OtherBoard

abbrev pub step_at : Spec → Cluster → Controller → List Call → Step
step_at spec c x [] = begin_step c x
step_at spec c x (Live ∷ rest) = read_step c x (events.Live x.id x.turn.begun.pass)
step_at spec c x (Mail s ∷ rest) = read_step c x (events.Mail x.id x.turn.begun.pass s)
step_at spec c x (States s ∷ rest) = read_step c x (events.States x.id x.turn.begun.pass s)
step_at spec c x (Ideals ∷ rest) = read_step c x (events.Ideals x.id x.turn.begun.pass)
step_at spec c x (Send ∷ rest) = of_cluster (is_of_cluster spec c x.turn.view) (planned_step spec c x x.plan)
step_at spec c x (Post ∷ rest) = of_cluster (is_of_cluster spec c x.turn.view) (post_step c x)

-- the next step of a controller's turn, from what a cluster is then
abbrev pub step_of : Spec → Cluster → Controller → Step
step_of spec c x = step_at spec c x x.turn.left

-- the controller after it. A refusal leaves it idle
abbrev pub after_step : Cluster → Controller → Step → Controller
after_step c x (Calls e outcome) = record { id = x.id; turn = turn_after c x.id x.turn e; plan = None }
after_step c x (Plans p) = record x { plan = Some p }
after_step c x (Refuses fault) = idle_controller x.id
