-- Live sessions, in a list from the one whose beat is the oldest.
use Rattle.std.specs.Prelude.{ℕ, ◌==◌, ◌&&◌, Bool, true, not, List, [], ◌∷◌, ◌++◌, map, filter, find, Option, nat_le}
use Rattle.std.specs.List.{list_any, list_all}
use Rattle.hx_ids.specs.declared.SessionId.{SessionId}
use Rattle.hx_ids.specs.declared.Live.{Live}

-- whether this is the session
abbrev pub is_session : SessionId → Live → Bool
is_session s l = l.session.0 == s.0

-- whether the session is live
abbrev pub is_live : List Live → SessionId → Bool
is_live live s = list_any (is_session s) live

-- the session, if it is live
abbrev pub session_at : List Live → SessionId → Option Live
session_at live s = find (is_session s) live

-- the live sessions but one
abbrev pub without : SessionId → List Live → List Live
without s live = filter (λ l. not (is_session s l)) live

-- a session at its new beat
abbrev pub with_beat : ℕ → Live → Live
with_beat now l = record l { beat = now }

-- with a session, if it is live, last and at its new beat
abbrev pub beaten : SessionId → ℕ → List Live → List Live
beaten s now live = without s live ++ map (with_beat now) (filter (is_session s) live)

-- no beat is later than now
abbrev pub no_later : ℕ → List Live → Bool
no_later now live = list_all (λ l. nat_le l.beat now) live

-- beats don't fall along the list
abbrev pub beats_rise : List Live → Bool
beats_rise [] = true
beats_rise (l ∷ live) = list_all (λ k. nat_le l.beat k.beat) live && beats_rise live
