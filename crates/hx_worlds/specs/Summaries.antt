-- What happened in a history, in numbers.
use Rattle.std.specs.Prelude.{ℕ, Bool, false, not, List, length}
use Rattle.std.specs.List.{sum_by}
use Rattle.hx_lists.specs.Lists.{count}
use Rattle.hx_cluster.specs.declared.happenings.Admin.TheVariants as steps
use Rattle.hx_cluster.specs.declared.happenings.Did.TheVariants as dids
use Rattle.hx_cluster.specs.declared.happenings.Outcome.{Outcome}
use Rattle.hx_cluster.specs.declared.happenings.Event.{Event}
use Rattle.hx_cluster.specs.declared.happenings.Event.TheVariants as events
use Rattle.hx_print.specs.Texts.{summary_text}
use Rattle.hx_control.specs.Steps.{is_sent}
use Rattle.hx_worlds.specs.Jobs.{is_failed}

-- messages sent, writes by outcome, joins, and sessions that ended
abbrev pub sent_in : Event → ℕ
sent_in (events.Dispatch k epoch pass proposals answer) = count is_sent answer.placed
sent_in _ = 0

abbrev pub is_write : (Outcome → Bool) → Event → Bool
is_write test (events.Write s id outcome) = test outcome
is_write test _ = false

abbrev pub joined_in : Event → ℕ
joined_in (events.Admin (steps.Join i) did) = 1
joined_in _ = 0

abbrev pub ended_in : Event → ℕ
ended_in (events.Admin (steps.End i) did) = 1
ended_in (events.Admin step (dids.Ended sessions)) = length sessions
ended_in _ = 0

abbrev pub summary_of : List Event → List ℕ
summary_of h =
    summary_text (sum_by sent_in h) (count (is_write (λ o. not (is_failed o))) h) (count (is_write is_failed) h)
    (sum_by joined_in h) (sum_by ended_in h)
