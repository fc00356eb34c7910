-- Why the mail is read before the states: a pass that reads them the other way plans what a bound refuses.
use Rattle.std.specs.Prelude.{◌≡◌, ℕ, refl, List, [], ◌∷◌, ◌++◌, true, false, Some, codes}
use Rattle.hx_ids.specs.Words.{instance, session, message, epoch, pass, part, live, controller}
use Rattle.hx_ids.specs.declared.StateId.{StateId}
use Rattle.hx_ids.specs.declared.PartId.{PartId}
use Rattle.hx_model.specs.declared.ModelParts.{ModelParts}
use Rattle.hx_model.specs.Builtin.{one_leads}
use Rattle.hx_ideal.specs.declared.Mode.{Mode}
use Rattle.hx_ideal.specs.declared.Mode.TheVariants as modes
use Rattle.hx_cluster.specs.declared.description.Spec.{Spec}
use Rattle.hx_cluster.specs.declared.state.Row.{Row}
use Rattle.hx_cluster.specs.declared.state.Message.{Message}
use Rattle.hx_cluster.specs.declared.state.Cluster.{Cluster}
use Rattle.hx_cluster.specs.declared.planning.View.{View}
use Rattle.hx_cluster.specs.declared.happenings.Proposal.{Proposal}
use Rattle.hx_cluster.specs.declared.happenings.Placed.TheVariants as placings
use Rattle.hx_cluster.specs.declared.happenings.Outcome.TheVariants as outcomes
use Rattle.hx_cluster.specs.declared.happenings.Event.TheVariants as events
use Rattle.hx_cluster.specs.Reads.{live_shown, mail_shown, states_shown, ideals_shown}
use Rattle.hx_cluster.specs.Steps.{opening}
use Rattle.hx_cluster.specs.Messages.{placed_all}
use Rattle.hx_cluster.specs.Events.{replay}
use Rattle.hx_cluster.specs.Views.{is_well_formed}
use Rattle.hx_pass.specs.Plans.{plan}
use Rattle.hx_lawful.specs.Gate.{Shows}
use Rattle.hx_lawful.specs.Unrefused.{is_unrefused}
use Rattle.hx_pass.proofs.Examples.{master, slave, offline, placed}

abbrev pub models : List ModelParts
models = one_leads master slave offline ∷ []

abbrev pub db : PartId
db = part 0 0

abbrev pub at : ℕ → StateId → Row
at s t = record { session = session s; part = db; state = t }

-- a message to the first session's replica: it was taken
abbrev pub under_way : StateId → StateId → Message
under_way from to = record {
  id = message 3;
  session = session 1;
  part = db;
  from = from;
  to = to;
  initial = offline;
  epoch = epoch 1;
  taken = true;
  written = false;
}

-- two instances, and one part, of which two replicas may be wanted
abbrev description : Mode → Spec
description mode = record {
  instances = codes "n1" ∷ codes "n2" ∷ [];
  states = codes "ERROR" ∷ codes "DROPPED" ∷ codes "MASTER" ∷ codes "SLAVE" ∷ codes "OFFLINE" ∷ codes "ONLINE" ∷ [];
  resource_names = codes "db" ∷ [];
  model_names = codes "OneLeads" ∷ [];
  models = models;
  controllers = 1;
  timeout = 30;
  rules = [];
  resources = placed 0 2 1 mode ∷ [];
  failures = [];
}

-- its board in a third pass, with a session of each instance
abbrev pub cluster : Mode → List Row → List Message → Cluster
cluster mode rows mail = record (opening (description mode)) {
  live = live 1 0 0 ∷ live 2 1 0 ∷ [];
  rows = rows;
  mail = mail;
  leader = Some (controller 0);
  controllers = (false, pass 3) ∷ [];
  change = 10;
  next_session = 3;
  next_msg = 4;
}

-- the first session's replica is to be a master. Since its message was sent, the list was turned round: the second instance comes first now
abbrev before : Cluster
before = cluster (modes.Semi ((instance 1 ∷ instance 0 ∷ []) ∷ [])) (at 1 slave ∷ at 2 slave ∷ []) (under_way slave master ∷ [])

-- between the reads the message is written and acknowledged
abbrev behind : Cluster
behind = replay before (events.Write (session 1) (message 3) outcomes.Ok ∷ events.Ack (session 1) (message 3) ∷ [])

abbrev shown : Cluster → Cluster → View
shown mail states = record {
  live = live_shown behind;
  mail = mail_shown mail (session 1) ++ mail_shown mail (session 2);
  rows = states_shown states (session 1) ++ states_shown states (session 2);
  ideals = ideals_shown behind;
}

-- mail before, states behind: the message that was shown still counts, and the plan sends nothing
abbrev in_order : View
in_order = shown before behind

planned_in_order : (plan models [] in_order).proposals ≡ []
planned_in_order = refl

-- states before, mail behind: nobody seems to be a master or to become one
abbrev states_first : View
states_first = shown behind before

well_formed : is_well_formed models 2 states_first ≡ true
well_formed = refl

abbrev second : Proposal
second = record { session = session 2; part = db; from = slave; to = master }

planned_states_first : (plan models [] states_first).proposals ≡ second ∷ []
planned_states_first = refl

-- but the bound is reached, and such a view doesn't show the board
refused : placed_all behind (second ∷ []) ≡ placings.OverBound 1 1 ∷ []
refused = refl

not_shown : Shows behind states_first → ⊥
not_shown shows = let there = shows.rows (session 1) db refl refl in cc

-- a dispatch that is refused, and one whose proposals are placed or gone
is_refused : is_unrefused (events.Dispatch (controller 0) (epoch 1) (pass 3) (second ∷ []) (record { change = 12; placed = placings.OverBound 1 1 ∷ [] })) ≡ false
is_refused = refl

is_placed : is_unrefused (events.Dispatch (controller 0) (epoch 1) (pass 3) (second ∷ second ∷ []) (record { change = 12; placed = placings.Sent (message 4) ∷ placings.Ended ∷ [] })) ≡ true
is_placed = refl
