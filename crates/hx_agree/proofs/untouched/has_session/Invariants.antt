use Rattle.std.proofs.Common.{◌≡◌, ◌-◌}
use Rattle.std.specs.List.{list_any}
use Rattle.hx_lists.specs.Lists.{numbers_from}
use Rattle.hx_ids.specs.Words.{instance}
use Rattle.hx_cluster.specs.Steps.{session_of}
use Rattle.hx_replicas.specs.Participants.{is_session}
use Rattle.hx_agree.specs.Tests.{has_session}
use Rattle.hx_agree.proofs.untouched.has_session.Given as goal

abbrev pub invariant-loop-place : goal.invariant-loop-place
invariant-loop-place l =
    has_session l.instances l.board.cluster l.session
    ≡ list_any (λ i. is_session (session_of l.board.cluster (instance i)) l.session) (numbers_from l.place (l.instances - l.place))
