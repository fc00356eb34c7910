-- What happens in the run of an input, and what holds of it.
use Rattle.std.specs.Prelude.{ℕ, List, IfOk}
use Rattle.hx_lawful.specs.Holding.{IsSound}
use Rattle.hx_worlds.specs.Scripts.{sim_history}
use Rattle.hx_app.specs.Input.{scenario_of}

-- the history of the script of an input is lawful, if the input is run. So at each place of it the cluster is safe, each message that was
-- taken has one run, legal and alone, and no dispatch was refused a proposal
abbrev pub IsSoundRun : List ℕ → Type 0
IsSoundRun bytes = IfOk (scenario_of bytes) (λ s. IsSound s.spec (sim_history s.spec s.lines))
