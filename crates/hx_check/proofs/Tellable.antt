-- Each event that may happen tells an entry.
use Rattle.std.proofs.Common.{◌≡◌, true, Option, None, Some, refl, ap, ◌∙◌}
use Rattle.std.specs.Prelude.{is_some}
use Rattle.std.specs.Option.{option_map}
use Rattle.hx_ids.specs.declared.InstanceId.{InstanceId}
use Rattle.hx_ids.specs.declared.SessionId.{SessionId}
use Rattle.hx_ids.specs.declared.PartId.{PartId}
use Rattle.hx_ids.specs.declared.Live.{Live}
use Rattle.hx_cluster.specs.declared.state.Cluster.{Cluster}
use Rattle.hx_cluster.specs.declared.happenings.Admin.{Admin}
use Rattle.hx_cluster.specs.declared.happenings.Admin.TheVariants as steps
use Rattle.hx_cluster.specs.declared.happenings.Event.{Event}
use Rattle.hx_cluster.specs.declared.happenings.Event.TheVariants as events
use Rattle.hx_cluster.specs.Ends.{shown_of, session_in}
use Rattle.hx_cluster.specs.Steps.{refusal_of, did_of, live_of}
use Rattle.hx_cluster.specs.Events.{IsStep}
use Rattle.hx_print.specs.Texts.{names_of, roll_of}
use Rattle.hx_script.specs.declared.log.LogEntry.{LogEntry}
use Rattle.hx_script.specs.declared.log.LogEntry.TheVariants as logs
use Rattle.hx_script.specs.LogEntries.{part_told, step_told, entry_told_by}
use Rattle.hx_print.proofs.Followed.{session-shown}
use Rattle.hx_logs.proofs.OnRoll.{live_where, live_reset}

live_tells : (c : Cluster) (i : InstanceId) (tell : SessionId → LogEntry) → is_some (live_of c.live i) ≡ true → is_some (option_map tell (session_in (shown_of c.live) i)) ≡ true
live_tells c i tell e = ap (λ o. is_some (option_map tell o)) (session-shown i c.live) ∙ one (live_of c.live i) e
  where
    one : (o : Option Live) → is_some o ≡ true → is_some (option_map tell (option_map (λ l. l.session) o)) ≡ true
    one None e = cc
    one (Some l) e = refl

step_tells : (c : Cluster) (step : Admin) → refusal_of c step ≡ None → is_some (step_told (roll_of c) step (did_of c step)) ≡ true
step_tells c (steps.Join i) may = refl
step_tells c (steps.End i) may = live_tells c i (logs.End i) (live_where (live_of c.live i) may)
step_tells c (steps.Beat i) may = live_tells c i (logs.Beat i) (live_where (live_of c.live i) may)
step_tells c (steps.Tick n) may = refl
step_tells c (steps.Drain i) may = refl
step_tells c (steps.Undrain i) may = refl
step_tells c (steps.Add name model ideal) may = refl
step_tells c (steps.Drop r) may = refl
step_tells c (steps.SetList p list) may = refl
step_tells c (steps.SetMap p entries) may = refl
step_tells c (steps.Reset i p) may = live_tells c i (λ s. logs.Reset i s (part_told (names_of c.resources) p)) (live_reset c p (live_of c.live i) may)
step_tells c (steps.Lead k) may = refl
step_tells c (steps.Stop k) may = refl
step_tells c (steps.Start k) may = refl

pub steps_tell : (c : Cluster) (e : Event) → IsStep c e → is_some (entry_told_by c e) ≡ true
steps_tell c (events.Admin step did) s = ap (λ d. is_some (step_told (roll_of c) step d)) s.2 ∙ step_tells c step s.1
steps_tell c (events.Line n) s = refl
steps_tell c (events.Begin k begun) s = refl
steps_tell c (events.Live k pass) s = refl
steps_tell c (events.Mail k pass t) s = refl
steps_tell c (events.States k pass t) s = refl
steps_tell c (events.Ideals k pass) s = refl
steps_tell c (events.Dispatch k epoch pass qs answer) s = refl
steps_tell c (events.Post k epoch rows) s = refl
steps_tell c (events.Fetch i t n) s = refl
steps_tell c (events.Take t id) s = refl
steps_tell c (events.Write t id outcome) s = refl
steps_tell c (events.Ack t id) s = refl
