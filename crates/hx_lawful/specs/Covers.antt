-- What a controller was shown covers what the board has, while its epoch and pass stand.
use Rattle.std.specs.Prelude.{◌≡◌, Bool, true, not, ◌==◌, ◌&&◌, ◌||◌, List, [], ◌∷◌, nat_lt, if◌then◌else◌}
use Rattle.std.specs.List.{list_any, list_all}
use Rattle.hx_ids.specs.declared.Epoch.{Epoch}
use Rattle.hx_ids.specs.declared.ControllerId.{ControllerId}
use Rattle.hx_ids.specs.declared.SessionId.{SessionId}
use Rattle.hx_ids.specs.declared.PartId.{PartId}
use Rattle.hx_ids.specs.declared.Live.{Live as LiveSession}
use Rattle.hx_cluster.specs.declared.description.Spec.{Spec}
use Rattle.hx_cluster.specs.declared.state.Message.{Message}
use Rattle.hx_cluster.specs.declared.state.Cluster.{Cluster}
use Rattle.hx_cluster.specs.declared.happenings.Event.{Event}
use Rattle.hx_cluster.specs.declared.happenings.Event.TheVariants as events
use Rattle.hx_cluster.specs.Ends.{is_live, is_shown, state_of, message_of}
use Rattle.hx_cluster.specs.Steps.{opening, is_leader}
use Rattle.hx_cluster.specs.Reads.{pass_of}
use Rattle.hx_cluster.specs.Events.{next, replay, is_epoch}
use Rattle.hx_pass.specs.Turns.{Call, Live, Mail, States, same_call, Turn, turn_of}
use Rattle.hx_safe.specs.Calm.{is_among, has_stayed}

-- the messages that were pending at a controller's last begin
abbrev pub mail_begun_after : Cluster → ControllerId → List Message → Event → List Message
mail_begun_after c k mail (events.Begin j begun) = if j.0 == k.0 then c.mail else mail
mail_begun_after c k mail _ = mail

abbrev pub mail_begun_from : Cluster → ControllerId → List Message → List Event → List Message
mail_begun_from c k mail [] = mail
mail_begun_from c k mail (e ∷ es) = mail_begun_from (next c e) k (mail_begun_after c k mail e) es

abbrev pub mail_begun : Spec → ControllerId → List Event → List Message
mail_begun spec k h = mail_begun_from (opening spec) k [] h

-- a begin in an epoch is of one controller
abbrev pub begins_by : ControllerId → Epoch → Event → Bool
begins_by k epoch (events.Begin j begun) = not (begun.epoch.0 == epoch.0) || (j.0 == k.0)
begins_by k epoch _ = true

-- the epoch and the pass that the board keeps are those of the turn's begin
abbrev pub stands : Cluster → ControllerId → Turn → Bool
stands c k t = is_epoch c t.begun.epoch && ((pass_of c k).0 == t.begun.pass.0)

-- whether live was read, and a shown session's mail and states
abbrev pub is_left : Turn → Call → Bool
is_left t call = list_any (same_call call) t.left

abbrev pub has_live : Turn → Bool
has_live t = not (is_left t Live)

abbrev pub has_mail : Turn → SessionId → Bool
has_mail t s = is_shown t.view.live s && not (is_left t (Mail s))

abbrev pub has_states : Turn → SessionId → Bool
has_states t s = is_shown t.view.live s && not (is_left t (States s))

-- a session has no row and no message
abbrev pub has_nothing : Cluster → SessionId → Bool
has_nothing c s =
    not (list_any (λ r. r.session.0 == s.0) c.rows)
    && not (list_any (λ m. m.session.0 == s.0) c.mail)

abbrev pub is_shown_or_bare : Cluster → Turn → LiveSession → Bool
is_shown_or_bare c t l = is_shown t.view.live l.session || has_nothing c l.session

-- whether a message of a session was shown; of other sessions nothing is said
abbrev pub is_shown_of : SessionId → List Message → Message → Bool
is_shown_of s mail m = not (m.session.0 == s.0) || is_among mail m

pub record IsCovered (c : Cluster) (k : ControllerId) (t : Turn) (begun : List Message)
    (h : List Event) : Type 0 where
  -- the controller leads, and alone began in the epoch
  pub leads : is_leader k c.leader ≡ true
  pub begins : list_all (begins_by k c.epoch) h ≡ true
  -- each pending message was pending at the begin
  pub pending : list_all (is_among begun) c.mail ≡ true
  -- a live session that wasn't shown has no row and no message
  pub unshown : has_live t ≡ true → list_all (is_shown_or_bare c t) c.live ≡ true
  -- each pending message of a session whose mail was read was shown
  pub mail : (s : SessionId) → has_mail t s ≡ true
      → list_all (is_shown_of s t.view.mail) c.mail ≡ true
  -- each replica of a live session whose states were read stands as shown, or where a message that
  -- was shown put it
  pub rows : (s : SessionId) (p : PartId) → has_states t s ≡ true → is_live c.live s ≡ true
      → has_stayed (state_of c.rows s p) (state_of t.view.rows s p) (message_of t.view.mail s p)
      ≡ true

abbrev pub Covers : Spec → List Event → ControllerId → Type 0
Covers spec h k = stands (replay (opening spec) h) k (turn_of spec k h) ≡ true
    → IsCovered (replay (opening spec) h) k (turn_of spec k h) (mail_begun spec k h) h

-- each begin's epoch is at most the kept one, and where it is that one, its controller leads
abbrev pub is_led : Cluster → Event → Bool
is_led c (events.Begin j begun) =
    nat_lt begun.epoch.0 c.epoch.0 || ((begun.epoch.0 == c.epoch.0) && is_leader j c.leader)
is_led c _ = true

abbrev pub IsLed : Cluster → List Event → Type 0
IsLed c h = list_all (is_led c) h ≡ true
