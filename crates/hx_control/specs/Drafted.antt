-- What a drafted plan is sent as, and what its dispatch came to.
use Rattle.std.specs.Prelude.{◌≡◌, []}
use Rattle.hx_cluster.specs.declared.planning.Plan.{Plan}
use Rattle.hx_cluster.specs.declared.planning.View.{View}
use Rattle.hx_cluster.specs.declared.happenings.Event.TheVariants as events
use Rattle.hx_cluster.specs.Events.{dispatched_of}
use Rattle.hx_pass.specs.Drafts.{Draft, proposed, reported}
use Rattle.hx_board.specs.Board.{Held, happened}
use Rattle.hx_control.specs.declared.PassOutcome.{PassOutcome}
use Rattle.hx_control.specs.Controllers.{Controller}
use Rattle.hx_control.specs.Steps.{outcome_of}

-- a plan proposes what a draft does, and has its report where nothing is proposed and no message was shown
pub record IsToSend (view : View) (draft : Draft) (p : Plan) : Type 0 where
  pub proposals : p.proposals ≡ proposed draft
  pub report : p.proposals ≡ [] → view.mail ≡ [] → p.report ≡ reported view draft

-- the dispatch of a plan happened, and this is how it ended
pub record IsDispatched (old new : Held) (x : Controller) (p : Plan) (outcome : PassOutcome) : Type 0 where
  pub ended : outcome ≡ outcome_of x.turn p (dispatched_of old.cluster x.id p.proposals)
  pub board : new ≡ happened old (events.Dispatch x.id x.turn.begun.epoch x.turn.begun.pass p.proposals (dispatched_of old.cluster x.id p.proposals))
