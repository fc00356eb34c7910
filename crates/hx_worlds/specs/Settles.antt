-- A settle: rounds of the leader's turn and of work on each live instance, up to the one whose turn settled.
use Rattle.std.specs.Prelude.{ℕ, zero, suc, ◌+◌, ◌*◌, List, [], ◌∷◌, map, length, max, Option, None, Some}
use Rattle.std.specs.List.{sum_by}
use Rattle.hx_ids.specs.declared.ControllerId.{ControllerId}
use Rattle.hx_model.specs.declared.ModelParts.{ModelParts}
use Rattle.hx_cluster.specs.declared.description.Resource.{Resource}
use Rattle.hx_cluster.specs.declared.state.Cluster.{Cluster}
use Rattle.hx_cluster.specs.declared.planning.Report.{Report}
use Rattle.hx_cluster.specs.Reads.{live_shown}
use Rattle.hx_print.specs.declared.Note.TheVariants as notes
use Rattle.hx_print.specs.Texts.{settle_text}
use Rattle.hx_control.specs.declared.PassOutcome.{PassOutcome}
use Rattle.hx_control.specs.declared.PassOutcome.TheVariants as ends
use Rattle.hx_worlds.specs.declared.Settled.{Settled}
use Rattle.hx_worlds.specs.declared.Voice.{Voice}
use Rattle.hx_worlds.specs.declared.Voice.TheVariants.{Quiet}
use Rattle.hx_worlds.specs.World.{State}
use Rattle.hx_worlds.specs.Runs.{Run, Deed, gives, done, go_on, and_then, say, note, for_each}
use Rattle.hx_worlds.specs.Turns.{do_pass, say_entries}
use Rattle.hx_worlds.specs.Jobs.{do_work}

-- how many rounds are enough
abbrev pub all_parts : List Resource → ℕ
all_parts resources = sum_by (λ r. r.ideal.parts) resources

abbrev pub most_states : List ModelParts → ℕ
most_states [] = 0
most_states (m ∷ ms) = max (length m.states) (most_states ms)

abbrev pub enough_rounds : Cluster → ℕ
enough_rounds c =
    let replicas = length c.live * all_parts c.resources in
    (2 * replicas + 2) * (replicas * (most_states c.models + 2) + 2)

-- work on each live instance, in order
abbrev pub work_all : State → Deed
work_all x = for_each do_work (map (λ e. e.1) (live_shown x.world.cluster)) x

-- a round is the rest of the leader's turn, then work, unless that turn settled
abbrev pub unless_settled : ℕ → Option PassOutcome → (State → Run Settled) → State → Run Settled
unless_settled n (Some (ends.Settled report)) f x = gives x (record { passes = n; report = Some report })
unless_settled n _ f x = and_then (work_all x) f

abbrev pub rounds : ℕ → ControllerId → ℕ → State → Run Settled
rounds zero k n x = gives x (record { passes = n; report = None })
rounds (suc m) k n x = go_on (do_pass Quiet k x) (λ outcome y. unless_settled (n + 1) outcome (λ z. rounds m k (n + 1) z) y)

-- nobody leads, or the rounds of the leader
abbrev pub settle_led : Option ControllerId → State → Run (Option Settled)
settle_led None x = gives x None
settle_led (Some k) x = go_on (rounds (enough_rounds x.world.cluster) k 0 x) (λ s y. gives y (Some s))

abbrev pub settle : State → Run (Option Settled)
settle x = settle_led x.world.cluster.leader x

-- the lines of a settle: the leader and the rounds, then the report
abbrev pub say_report : Option Report → State → Deed
say_report None x = done x
say_report (Some report) x = say_entries report.entries x

abbrev pub say_settled : ControllerId → Settled → State → Deed
say_settled k s x = and_then (say 1 (settle_text k s.passes) x) (λ y. say_report s.report y)

abbrev pub tell_settle : Voice → Option ControllerId → Option Settled → State → Deed
tell_settle v (Some k) (Some s) x = say_settled k s x
tell_settle v _ _ x = note v notes.NoLeader x

abbrev pub do_settle : Voice → State → Deed
do_settle v x = go_on (settle x) (λ s y. tell_settle v x.world.cluster.leader s y)
