-- Dispatches of which the board refuses no proposal.
use Rattle.std.specs.Prelude.{◌≡◌, Bool, true, false, List}
use Rattle.std.specs.List.{list_all}
use Rattle.hx_cluster.specs.declared.happenings.Placed.{Placed}
use Rattle.hx_cluster.specs.declared.happenings.Placed.TheVariants as placings
use Rattle.hx_cluster.specs.declared.happenings.Event.{Event}
use Rattle.hx_cluster.specs.declared.happenings.Event.TheVariants as events

-- a proposal was sent, or its session has ended, or its resource is dropped and its replica is gone.
-- It isn't refused for a pending message, for where its replica stands, for its transition, nor by a
-- bound or a throttle
abbrev pub is_sent_or_gone : Placed → Bool
is_sent_or_gone (placings.Sent id) = true
is_sent_or_gone placings.Ended = true
is_sent_or_gone placings.ResourceDropped = true
is_sent_or_gone _ = false

-- a dispatch whose answer refuses no proposal; or another event
abbrev pub is_unrefused : Event → Bool
is_unrefused (events.Dispatch k epoch pass proposals answer) = list_all is_sent_or_gone answer.placed
is_unrefused _ = true

-- no dispatch of a history has a refused proposal
abbrev pub IsUnrefused : List Event → Type 0
IsUnrefused h = list_all is_unrefused h ≡ true
