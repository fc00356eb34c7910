-- The roll before an event that may happen has all that the event's text names.
use Rattle.std.proofs.Common.{◌≡◌, ℕ, ◌+◌, Bool, true, false, ◌==◌, ◌&&◌, nat_lt, List, [], ◌∷◌, length, map, filter, find, Option, Some, None, if◌then◌else◌, refl, ap, ◌∙◌, arith}
use Rattle.std.specs.Prelude.{is_some, slice_get}
use Rattle.std.proofs.lemmas.Bool.{and_parts, and_from, ltb-true}
use Rattle.std.proofs.lemmas.Bool.Decides.{nat_tests}
use Rattle.std.proofs.lemmas.List.{length-map}
use Rattle.std.proofs.lemmas.Option.{slice_get-map, slice_get-get_or}
use Rattle.std.specs.List.{list_all}
use Rattle.std.specs.Option.{option_map, option_map_or}
use Rattle.hx_ids.specs.Expiry.{is_expired, expired}
use Rattle.hx_ids.specs.declared.InstanceId.{InstanceId}
use Rattle.hx_ids.specs.declared.SessionId.{SessionId}
use Rattle.hx_ids.specs.declared.PartId.{PartId}
use Rattle.hx_ids.specs.declared.Live.{Live}
use Rattle.hx_cluster.specs.declared.description.Resource.{Resource}
use Rattle.hx_cluster.specs.declared.state.Cluster.{Cluster}
use Rattle.hx_cluster.specs.declared.happenings.Admin.{Admin}
use Rattle.hx_cluster.specs.declared.happenings.Admin.TheVariants as steps
use Rattle.hx_cluster.specs.declared.happenings.Proposal.{Proposal}
use Rattle.hx_cluster.specs.declared.happenings.Placed.{Placed}
use Rattle.hx_cluster.specs.declared.happenings.Event.{Event}
use Rattle.hx_cluster.specs.declared.happenings.Event.TheVariants as events
use Rattle.hx_cluster.specs.Ends.{shown_of, instance_in, session_in}
use Rattle.hx_cluster.specs.Events.{next, has_part, has_state_name, is_proposable, IsStep, IsLegal}
use Rattle.hx_cluster.specs.Steps.{is_of, live_of, not_live, reset_fault, has_instance, has_resource, is_in_range, refusal_of, did_of}
use Rattle.hx_print.specs.declared.roll.Roll.{Roll}
use Rattle.hx_print.specs.Texts.{names_of, roll_of}
use Rattle.hx_script.specs.declared.log.LogEntry.{LogEntry}
use Rattle.hx_script.specs.declared.log.LogEntry.TheVariants as logs
use Rattle.hx_script.specs.LogEntries.{part_told, moves_told, event_told}
use Rattle.hx_logs.specs.Printed.{are_known}
use Rattle.hx_logs.proofs.WordsRead.{all_so}

-- an entry names no resource but by a name
abbrev pub has_names : LogEntry → Bool
has_names (logs.Drop name r) = is_some name
has_names (logs.List p list) = is_some p.name
has_names (logs.Map p entries) = is_some p.name
has_names (logs.Reset i s p) = is_some p.name
has_names (logs.Dispatch k e pass moves) = list_all (λ m. is_some m.part.name) moves
has_names _ = true

-- an event that tells an entry, whose resources and ended sessions stand in the roll
abbrev pub is_on_roll : Roll → Event → Bool
is_on_roll roll e = option_map_or has_names (event_told roll e) false && are_known roll e

abbrev pub are_on_roll : Cluster → List Event → Bool
are_on_roll c [] = true
are_on_roll c (e ∷ es) = is_on_roll (roll_of c) e && are_on_roll (next c e) es

-- sessions that are live
session_there : (i : InstanceId) (live : List Live) → is_some (find (is_of i) live) ≡ true → is_some (session_in (shown_of live) i) ≡ true
session_there i [] e = e
session_there i (l ∷ live) e = one (l.instance.0 == i.0) (session_there i live) e
  where
    one : (b : Bool) → (is_some (find (is_of i) live) ≡ true → is_some (session_in (shown_of live) i) ≡ true) → is_some (if b then Some l else find (is_of i) live) ≡ true
        → is_some (option_map (λ (e : SessionId × InstanceId). e.0) (if b then Some (l.session, l.instance) else find (λ e. e.1.0 == i.0) (shown_of live))) ≡ true
    one true rest e = refl
    one false rest e = rest e

live_tells : (c : Cluster) (i : InstanceId) (tell : SessionId → LogEntry) → ((s : SessionId) → has_names (tell s) ≡ true) → is_some (live_of c.live i) ≡ true
    → option_map_or has_names (option_map tell (session_in (shown_of c.live) i)) false ≡ true
live_tells c i tell named e = one (session_in (shown_of c.live) i) (session_there i c.live e)
  where
    one : (o : Option SessionId) → is_some o ≡ true → option_map_or has_names (option_map tell o) false ≡ true
    one None e = e
    one (Some s) e = named s

pub live_where : (o : Option Live) → not_live o ≡ None → is_some o ≡ true
live_where None e = cc
live_where (Some l) e = refl

pub live_reset : (c : Cluster) (p : PartId) (o : Option Live) → reset_fault c p o ≡ None → is_some o ≡ true
live_reset c p None e = cc
live_reset c p (Some l) e = refl

-- sessions that a tick ends
known_longer : (l : Live) (live : List Live) (s : SessionId) → is_some (instance_in (shown_of live) s) ≡ true → is_some (instance_in (shown_of (l ∷ live)) s) ≡ true
known_longer l live s e = one (l.session.0 == s.0)
  where
    one : (b : Bool) → is_some (option_map (λ (e : SessionId × InstanceId). e.1) (if b then Some (l.session, l.instance) else find (λ e. e.0.0 == s.0) (shown_of live))) ≡ true
    one true = refl
    one false = e

known_first : (l : Live) (live : List Live) → is_some (instance_in (shown_of (l ∷ live)) l.session) ≡ true
known_first l live = one (l.session.0 == l.session.0) (grind (arith, nat_tests))
  where
    one : (b : Bool) → b ≡ true → is_some (option_map (λ (e : SessionId × InstanceId). e.1) (if b then Some (l.session, l.instance) else find (λ e. e.0.0 == l.session.0) (shown_of live))) ≡ true
    one true is = refl
    one false is = cc

abbrev is_known : List Live → SessionId → Bool
is_known live s = is_some (instance_in (shown_of live) s)

ended_known : (live : List Live) (now timeout : ℕ) → list_all (is_known live) (expired live now timeout) ≡ true
ended_known [] now timeout = refl
ended_known (l ∷ live) now timeout = one (is_expired now timeout l) (all_so (is_known live) (is_known (l ∷ live)) (known_longer l live) (expired live now timeout) (ended_known live now timeout))
  where
    one : (b : Bool) → list_all (is_known (l ∷ live)) (expired live now timeout) ≡ true
        → list_all (is_known (l ∷ live)) (map (λ l. l.session) (if b then l ∷ filter (is_expired now timeout) live else filter (is_expired now timeout) live)) ≡ true
    one true rest = and_from (is_known (l ∷ live) l.session) (list_all (is_known (l ∷ live)) (expired live now timeout)) (known_first l live) rest
    one false rest = rest

-- resources and parts that are there
resource_named : (resources : List Resource) (n : ℕ) → nat_lt n (length resources) ≡ true → is_some (slice_get (names_of resources) n) ≡ true
resource_named resources n e = ap is_some (slice_get-get_or (names_of resources) n 0 (omega (arith, ltb-true n (length resources) e, length-map resources (λ (x : Resource). x.name))))

part_named : (c : Cluster) (p : PartId) → has_part c p ≡ true → is_some (slice_get (names_of c.resources) p.resource.0) ≡ true
part_named c p e = ap is_some (slice_get-map (λ (x : Resource). x.name) c.resources p.resource.0) ∙ one (slice_get c.resources p.resource.0) e
  where
    one : (o : Option Resource) → nat_lt p.index (option_map_or (λ x. x.ideal.parts) o 0) ≡ true → is_some (option_map (λ (x : Resource). x.name) o) ≡ true
    one None e = absurd (grind (arith, nat_tests, e))
    one (Some x) e = refl

moves_named : (c : Cluster) (qs : List Proposal) (answers : List Placed) → list_all (is_proposable c) qs ≡ true → list_all (λ m. is_some m.part.name) (moves_told (names_of c.resources) qs answers) ≡ true
moves_named c [] answers e = refl
moves_named c (q ∷ qs) [] e = refl
moves_named c (q ∷ qs) (answer ∷ answers) e =
    let both = and_parts (is_proposable c q) (list_all (is_proposable c) qs) e in
    let part = and_parts (has_part c q.part) (has_state_name c q.from) (and_parts (has_part c q.part && has_state_name c q.from) (has_state_name c q.to) both.0).0 in
    and_from (is_some (slice_get (names_of c.resources) q.part.resource.0)) (list_all (λ m. is_some m.part.name) (moves_told (names_of c.resources) qs answers)) (part_named c q.part part.0) (moves_named c qs answers both.1)

-- steps and other events that may happen
step_on_roll : (c : Cluster) (step : Admin) → is_in_range c step ≡ true → refusal_of c step ≡ None → is_on_roll (roll_of c) (events.Admin step (did_of c step)) ≡ true
step_on_roll c (steps.Join i) range may = refl
step_on_roll c (steps.End i) range may = and_from _ true (live_tells c i (logs.End i) (λ s. refl) (live_where (live_of c.live i) may)) refl
step_on_roll c (steps.Beat i) range may = and_from _ true (live_tells c i (logs.Beat i) (λ s. refl) (live_where (live_of c.live i) may)) refl
step_on_roll c (steps.Tick n) range may = ended_known c.live (c.clock + n) c.timeout
step_on_roll c (steps.Drain i) range may = refl
step_on_roll c (steps.Undrain i) range may = refl
step_on_roll c (steps.Add name model ideal) range may = refl
step_on_roll c (steps.Drop r) range may = and_from _ true (resource_named c.resources r.0 range) refl
step_on_roll c (steps.SetList p list) range may = and_from _ true (resource_named c.resources p.resource.0 range) refl
step_on_roll c (steps.SetMap p entries) range may = and_from _ true (resource_named c.resources p.resource.0 range) refl
step_on_roll c (steps.Reset i p) range may =
    let there = resource_named c.resources p.resource.0 (and_parts (has_instance c i) (has_resource c p.resource) range).1 in
    and_from _ true (live_tells c i (λ s. logs.Reset i s (part_told (names_of c.resources) p)) (λ s. there) (live_reset c p (live_of c.live i) may)) refl
step_on_roll c (steps.Lead k) range may = refl
step_on_roll c (steps.Stop k) range may = refl
step_on_roll c (steps.Start k) range may = refl

event_on_roll : (c : Cluster) (e : Event) → IsStep c e → is_on_roll (roll_of c) e ≡ true
event_on_roll c (events.Admin step did) s = ap (λ d. is_on_roll (roll_of c) (events.Admin step d)) s.2 ∙ step_on_roll c step s.0 s.1
event_on_roll c (events.Dispatch k epoch pass qs answer) s = and_from _ true (moves_named c qs answer.placed s.0) refl
event_on_roll c _ s = refl

pub history_on_roll : (c : Cluster) (h : List Event) → IsLegal c h → are_on_roll c h ≡ true
history_on_roll c [] legal = refl
history_on_roll c (e ∷ es) legal = and_from (is_on_roll (roll_of c) e) (are_on_roll (next c e) es) (event_on_roll c e legal.0) (history_on_roll (next c e) es legal.1)
