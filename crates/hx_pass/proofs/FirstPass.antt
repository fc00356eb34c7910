-- The first pass over one live instance of three, and the take that follows it.
use Rattle.std.specs.Prelude.{refl, List, [], ◌∷◌, Some, take, codes}
use Rattle.hx_ids.specs.Words.{instance, session, message, epoch, pass, controller}
use Rattle.hx_ids.specs.declared.ControllerId.{ControllerId}
use Rattle.hx_ids.specs.declared.PassNo.{PassNo}
use Rattle.hx_ids.specs.declared.Epoch.{Epoch}
use Rattle.hx_ids.specs.declared.MsgId.{MsgId}
use Rattle.hx_ideal.specs.declared.Mode.TheVariants as modes
use Rattle.hx_cluster.specs.declared.description.Spec.{Spec}
use Rattle.hx_cluster.specs.declared.happenings.Admin.TheVariants as steps
use Rattle.hx_cluster.specs.declared.happenings.Did.TheVariants as dids
use Rattle.hx_cluster.specs.declared.happenings.Placed.TheVariants as placings
use Rattle.hx_cluster.specs.declared.happenings.Event.{Event}
use Rattle.hx_cluster.specs.declared.happenings.Event.TheVariants as events
use Rattle.hx_cluster.specs.Steps.{opening}
use Rattle.hx_cluster.specs.Events.{IsLegal}
use Rattle.hx_pass.specs.Lawful.{IsProper, IsProperAlong, IsLawful}
use Rattle.hx_pass.proofs.Examples.{slave, offline, models, placed, db}

abbrev spec : Spec
spec = record {
  instances = codes "n1" ∷ codes "n2" ∷ codes "n3" ∷ [];
  states = codes "ERROR" ∷ codes "DROPPED" ∷ codes "MASTER" ∷ codes "SLAVE" ∷ codes "OFFLINE" ∷ codes "ONLINE" ∷ [];
  resource_names = codes "db" ∷ [];
  model_names = codes "MasterSlave" ∷ codes "OnlineOffline" ∷ [];
  models = models;
  controllers = 2;
  timeout = 30;
  rules = [];
  resources = placed 0 3 1 (modes.Semi ((instance 0 ∷ instance 1 ∷ instance 2 ∷ []) ∷ [])) ∷ [];
  failures = [];
}

abbrev c1 : ControllerId
c1 = controller 0

abbrev p1 : PassNo
p1 = pass 1

abbrev e1 : Epoch
e1 = epoch 1

abbrev m1 : MsgId
m1 = message 1

abbrev history : List Event
history =
    events.Admin (steps.Join (instance 0)) (dids.Joined (session 1))
    ∷ events.Admin (steps.Lead c1) (dids.Leads e1)
    ∷ events.Begin c1 (record { epoch = e1; pass = p1; change = 1 })
    ∷ events.Live c1 p1
    ∷ events.Mail c1 p1 (session 1)
    ∷ events.States c1 p1 (session 1)
    ∷ events.Ideals c1 p1
    ∷ events.Dispatch c1 e1 p1 (record { session = session 1; part = db 0; from = offline; to = slave } ∷ []) (record { change = 1; placed = placings.Sent m1 ∷ [] })
    ∷ events.Post c1 e1 []
    ∷ events.Fetch (instance 0) (Some (session 1)) 1
    ∷ events.Take (session 1) m1
    ∷ []

legal : IsLegal (opening spec) history
legal = ((refl, refl, refl), ((refl, refl, refl), ((refl, refl, refl), (refl, (refl, (refl, (refl, ((refl, refl, refl, refl), ((refl, refl, refl), ((refl, refl, refl), (refl, tt)))))))))))

proper : IsProperAlong spec [] history
proper = (tt, (tt, (tt, (refl, (refl, (refl, (refl, ((refl, refl, refl), ((refl, refl, refl), (tt, (refl, tt)))))))))))

lawful : IsLawful spec history
lawful = (legal, proper)

-- states before mail aren't due
not_states : IsProper spec (take 4 history) (events.States c1 p1 (session 1)) → ⊥
not_states h = cc
