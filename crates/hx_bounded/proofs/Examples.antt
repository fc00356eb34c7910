-- Settles of one instance and one partition that it is to lead: two rounds send, and the third settles; or its replica fails.
use Rattle.std.proofs.Common.{◌≡◌, ℕ, [], ◌∷◌, refl}
use Rattle.std.specs.Prelude.{Option, Some}
use Rattle.hx_ids.specs.Words.{instance, controller}
use Rattle.hx_cluster.specs.declared.happenings.Admin.{Admin}
use Rattle.hx_cluster.specs.declared.happenings.Admin.TheVariants as steps
use Rattle.hx_cluster.specs.declared.happenings.Outcome.TheVariants as outcomes
use Rattle.hx_cluster.specs.declared.happenings.Event.TheVariants as events
use Rattle.hx_cluster.specs.Steps.{did_of}
use Rattle.hx_worlds.specs.declared.Settled.{Settled}
use Rattle.hx_worlds.specs.World.{State, Answered, opening_world, told_by}
use Rattle.hx_worlds.specs.Runs.{Run, GoesOn, happened}
use Rattle.hx_worlds.specs.Settles.{enough_rounds, settle}
use Rattle.hx_worlds.proofs.Examples.{spec}

abbrev after_step : Admin → State → State
after_step step x = happened (events.Admin step (did_of x.world.cluster step)) x

-- it joins, and a controller leads
abbrev joined : State
joined = after_step (steps.Lead (controller 0)) (after_step (steps.Join (instance 0)) (record { world = opening_world spec 1000; answers = told_by spec }))

-- how many rounds a settle had, if it went on and settled
abbrev passes_of : Run (Option Settled) → ℕ
passes_of (GoesOn items x (Some s)) = s.passes
passes_of _ = 0

rounds : passes_of (settle joined) ≡ 3
rounds = refl

enough : enough_rounds joined.world.cluster ≡ 28
enough = refl

-- where its handler can't be made, its replica fails, and the second round settles
failing : passes_of (settle (record joined { answers = Answered (outcomes.Failed ∷ []) })) ≡ 2
failing = refl
