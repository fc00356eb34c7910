-- What contracts see of the live sessions, and the words on them.
use Rattle.std.specs.Prelude.{◌≡◌, ℕ, ◌+◌, ◌≤◌, true, not, List, [], ◌∷◌, ◌++◌, filter, Option, None, Some, if◌then◌else◌, nat_lt}
use Rattle.std.specs.List.{list_all}
use Rattle.hx_lists.specs.Lists.{count}
use Rattle.hx_ids.specs.declared.SessionId.{SessionId}
use Rattle.hx_ids.specs.declared.InstanceId.{InstanceId}
use Rattle.hx_ids.specs.declared.Live.{Live}
use Rattle.hx_ids.specs.Expiry.{is_expired}
use Rattle.hx_ids.specs.Sessions.{is_session, beats_rise}

-- the live sessions in order of last beat, and the number of the next one
pub record Sessions : Type 0 where
  pub live : List Live
  pub next : ℕ

-- the first session
abbrev pub first_live : List Live → Option Live
first_live [] = None
first_live (l ∷ live) = Some l

-- the session after a session
abbrev pub live_after : SessionId → List Live → Option Live
live_after s [] = None
live_after s (l ∷ live) = if is_session s l then first_live live else live_after s live

-- a session that opens
abbrev pub new_live : ℕ → InstanceId → ℕ → Live
new_live number i now = record { session = record { 0 = number }; instance = i; beat = now }

-- a session more, which takes the next number
abbrev pub opened : Sessions → InstanceId → ℕ → Sessions
opened s i now = record { live = s.live ++ new_live s.next i now ∷ []; next = s.next + 1 }

-- those whose last beat is not too long ago
abbrev pub remaining : List Live → ℕ → ℕ → List Live
remaining live now timeout = filter (λ l. not (is_expired now timeout l)) live

-- what holds of all sessions: distinct numbers, below the next one, in order of last beat
pub record AreSessions (s : Sessions) : Type 0 where
  pub numbers : (n : SessionId) → count (is_session n) s.live ≤ 1
  pub below : list_all (λ l. nat_lt l.session.0 s.next) s.live ≡ true
  pub beats : beats_rise s.live ≡ true
