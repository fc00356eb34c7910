-- Histories whose log tells all their entries: what the text of each event names is in the description, and its numbers fit.
use Rattle.std.specs.Prelude.{ℕ, ◌-◌, ◌^◌, Bool, false, true, ◌&&◌, List, [], ◌∷◌, Option, is_some}
use Rattle.std.specs.List.{list_all}
use Rattle.std.specs.Option.{option_map_or}
use Rattle.hx_ids.specs.declared.InstanceId.{InstanceId}
use Rattle.hx_ids.specs.declared.SessionId.{SessionId}
use Rattle.hx_cluster.specs.declared.description.Spec.{Spec}
use Rattle.hx_cluster.specs.declared.state.Cluster.{Cluster}
use Rattle.hx_cluster.specs.declared.happenings.Admin.TheVariants as steps
use Rattle.hx_cluster.specs.declared.happenings.Placed.{Placed}
use Rattle.hx_cluster.specs.declared.happenings.Placed.TheVariants as placings
use Rattle.hx_cluster.specs.declared.happenings.Event.{Event}
use Rattle.hx_cluster.specs.declared.happenings.Event.TheVariants as events
use Rattle.hx_cluster.specs.Ends.{instance_in}
use Rattle.hx_cluster.specs.Events.{next}
use Rattle.hx_cluster.specs.Valid.{is_within}
use Rattle.hx_print.specs.declared.roll.Roll.{Roll}
use Rattle.hx_print.specs.Texts.{roll_of, ended_by_tick}
use Rattle.hx_script.specs.Modes.{mode_numbered}
use Rattle.hx_script.specs.Ranges.{has_instance, has_state, has_entry, has_model, has_controller, has_resource_name}
use Rattle.hx_script.specs.declared.log.LogPart.{LogPart}
use Rattle.hx_script.specs.declared.log.LogMove.{LogMove}
use Rattle.hx_script.specs.declared.log.LogEntry.{LogEntry}
use Rattle.hx_script.specs.declared.log.LogEntry.TheVariants as logs
use Rattle.hx_script.specs.LogEntries.{event_told, entry_told_by}

-- numbers of 32 and of 64 bits
abbrev pub is_short : ℕ → Bool
is_short n = is_within 0 (2 ^ 32 - 1) n

abbrev pub is_long : ℕ → Bool
is_long n = is_within 0 (2 ^ 64 - 1) n

-- a resource by its name and number, and a part
abbrev pub is_named : Spec → Option ℕ → Bool
is_named spec name = option_map_or (has_resource_name spec) name false

abbrev pub is_part : Spec → LogPart → Bool
is_part spec p = is_named spec p.name && (is_short p.resource.0 && is_short p.index)

-- a session that a tick ended
abbrev pub is_ended : Spec → InstanceId × SessionId → Bool
is_ended spec t = has_instance spec t.0 && is_long t.1.0

-- a proposal and what became of it
abbrev pub is_answer : Spec → Placed → Bool
is_answer spec (placings.Sent m) = is_long m.0
is_answer spec (placings.Busy m) = is_long m.0
is_answer spec (placings.WrongFrom has) = option_map_or (has_state spec) has true
is_answer spec (placings.OverBound count bound) = is_short count && is_short bound
is_answer spec (placings.OverThrottle rule load limit) = is_short rule && (is_short load && is_short limit)
is_answer spec _ = true

abbrev pub is_move : Spec → LogMove → Bool
is_move spec m = is_answer spec m.answer && (is_long m.session.0 && (is_part spec m.part && (has_state spec m.from && has_state spec m.to)))

-- what an entry tells is in range
abbrev pub is_entry_in_range : Spec → LogEntry → Bool
is_entry_in_range spec (logs.Line n) = is_short n
is_entry_in_range spec (logs.Join i s) = has_instance spec i && is_long s.0
is_entry_in_range spec (logs.End i s) = has_instance spec i && is_long s.0
is_entry_in_range spec (logs.Beat i s) = has_instance spec i && is_long s.0
is_entry_in_range spec (logs.Tick n ended) = is_long n && list_all (is_ended spec) ended
is_entry_in_range spec (logs.Drain i) = has_instance spec i
is_entry_in_range spec (logs.Undrain i) = has_instance spec i
is_entry_in_range spec (logs.Add name r model replicas parts mode) =
    has_resource_name spec name && (is_short r.0 && (has_model spec model && (is_short replicas && (is_short parts && is_some (mode_numbered mode)))))
is_entry_in_range spec (logs.Drop name r) = is_named spec name && is_short r.0
is_entry_in_range spec (logs.List p list) = is_part spec p && list_all (has_instance spec) list
is_entry_in_range spec (logs.Map p entries) = is_part spec p && list_all (has_entry spec) entries
is_entry_in_range spec (logs.Reset i s p) = has_instance spec i && (is_long s.0 && is_part spec p)
is_entry_in_range spec (logs.Lead k e) = has_controller spec k && is_long e.0
is_entry_in_range spec (logs.Stop k) = has_controller spec k
is_entry_in_range spec (logs.Start k) = has_controller spec k
is_entry_in_range spec (logs.Begin k e pass) = has_controller spec k && (is_long e.0 && is_long pass.0)
is_entry_in_range spec (logs.Live k pass) = has_controller spec k && is_long pass.0
is_entry_in_range spec (logs.Mail k pass s) = has_controller spec k && (is_long pass.0 && is_long s.0)
is_entry_in_range spec (logs.States k pass s) = has_controller spec k && (is_long pass.0 && is_long s.0)
is_entry_in_range spec (logs.Ideals k pass) = has_controller spec k && is_long pass.0
is_entry_in_range spec (logs.Dispatch k e pass moves) = (has_controller spec k && (is_long e.0 && is_long pass.0)) && list_all (is_move spec) moves
is_entry_in_range spec (logs.Post k e rows) = has_controller spec k && (is_long e.0 && is_short rows)
is_entry_in_range spec (logs.Fetch i s n) = has_instance spec i && (option_map_or (λ s. is_long s.0) s true && is_short n)
is_entry_in_range spec (logs.Take s m) = is_long s.0 && is_long m.0
is_entry_in_range spec (logs.Write s m outcome) = is_long s.0 && is_long m.0
is_entry_in_range spec (logs.Ack s m) = is_long s.0 && is_long m.0

-- the sessions that a tick ends stand in the roll
abbrev pub are_known : Roll → Event → Bool
are_known roll (events.Admin (steps.Tick n) did) = list_all (λ s. is_some (instance_in roll.live s)) (ended_by_tick did)
are_known roll _ = true

-- an event whose text tells an entry in range
abbrev pub is_told : Spec → Roll → Event → Bool
is_told spec roll e = option_map_or (is_entry_in_range spec) (event_told roll e) false && are_known roll e

-- each event of a history, from a cluster on
abbrev pub are_told : Spec → Cluster → List Event → Bool
are_told spec c [] = true
are_told spec c (e ∷ es) = is_told spec (roll_of c) e && are_told spec (next c e) es

-- what the events tell, one by one
abbrev pub told_along : Cluster → List Event → List (Option LogEntry)
told_along c [] = []
told_along c (e ∷ es) = entry_told_by c e ∷ told_along (next c e) es
