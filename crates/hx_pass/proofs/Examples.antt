-- What the worked plans share: models, sessions and shapes of resources.
use Rattle.std.specs.Prelude.{ℕ, List, [], ◌∷◌, false, Option}
use Rattle.hx_ids.specs.declared.StateId.{StateId}
use Rattle.hx_ids.specs.declared.PartId.{PartId}
use Rattle.hx_ids.specs.Words.{instance, state, model, session, part}
use Rattle.hx_model.specs.declared.ModelParts.{ModelParts}
use Rattle.hx_model.specs.declared.Bound.TheVariants.{Count, Replicas, Free}
use Rattle.hx_ideal.specs.declared.Mode.{Mode}
use Rattle.hx_cluster.specs.declared.description.Resource.{Resource}
use Rattle.hx_cluster.specs.declared.state.Row.{Row}
use Rattle.hx_cluster.specs.declared.planning.Target.{Target}
use Rattle.hx_cluster.specs.declared.planning.Candidate.{Candidate}
use Rattle.hx_model.specs.Model.{dropped}

abbrev pub master : StateId
master = state 2

abbrev pub slave : StateId
slave = state 3

abbrev pub offline : StateId
offline = state 4

abbrev pub online : StateId
online = state 5

abbrev pub master_slave : ModelParts
master_slave = record {
  states = (master, Count 1) ∷ (slave, Replicas) ∷ (offline, Free) ∷ [];
  initial = offline;
  transitions = (master, slave) ∷ (slave, master) ∷ (offline, slave) ∷ (slave, offline) ∷ (offline, dropped) ∷ [];
}

abbrev pub online_offline : ModelParts
online_offline = record {
  states = (online, Replicas) ∷ (offline, Free) ∷ [];
  initial = offline;
  transitions = (offline, online) ∷ (online, offline) ∷ (offline, dropped) ∷ [];
}

abbrev pub models : List ModelParts
models = master_slave ∷ online_offline ∷ []

-- a resource, and the parts of the first one
abbrev pub placed : ℕ → ℕ → ℕ → Mode → Resource
placed kind replicas parts mode =
    record { name = 0; model = model kind; ideal = record { replicas = replicas; parts = parts; mode = mode }; dropped = false }

abbrev pub db : ℕ → PartId
db k = part 0 k

abbrev pub row_in : ℕ → ℕ → StateId → Row
row_in i k t = record { session = session i; part = db k; state = t }

-- session number i is of instance number i - 1
abbrev pub target : ℕ → ℕ → ℕ → Option StateId → StateId → ℕ → Target
target s i k stands goal place =
    record { session = session s; instance = instance i; part = db k; state = stands; goal = goal; place = place }

abbrev pub candidate : ℕ → ℕ → ℕ → StateId → StateId → ℕ → Candidate
candidate s i k from to place =
    record { session = session s; instance = instance i; part = db k; from = from; to = to; place = place }
