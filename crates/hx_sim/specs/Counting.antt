-- Events that are counted.
use Rattle.std.specs.Prelude.{◌≡◌, ◌+◌, Bool, not, [], ◌∷◌}
use Rattle.hx_lists.specs.Lists.{count}
use Rattle.hx_cluster.specs.declared.happenings.Outcome.{Outcome}
use Rattle.hx_cluster.specs.declared.happenings.Outcome.TheVariants as outcomes
use Rattle.hx_cluster.specs.declared.happenings.Event.{Event}
use Rattle.hx_worlds.specs.Jobs.{is_failed}
use Rattle.hx_worlds.specs.Summaries.{sent_in, joined_in, ended_in, is_write}
use Rattle.hx_scene.specs.declared.telling.Summary.{Summary}

abbrev pub has_outcome : Outcome → Outcome → Bool
has_outcome outcomes.Ok o = not (is_failed o)
has_outcome outcomes.Failed o = is_failed o

-- what happened, and the same with one event more
pub record IsCounted (before : Summary) (event : Event) (after : Summary) : Type 0 where
  pub sent : after.sent ≡ before.sent + sent_in event
  pub ok : after.ok ≡ before.ok + count (is_write (has_outcome outcomes.Ok)) (event ∷ [])
  pub failed : after.failed ≡ before.failed + count (is_write (has_outcome outcomes.Failed)) (event ∷ [])
  pub joined : after.joined ≡ before.joined + joined_in event
  pub ended : after.ended ≡ before.ended + ended_in event
