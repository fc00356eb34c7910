-- Histories that follow a script: each line is taken in order, and done once or refused before the next is taken.
use Rattle.std.specs.Prelude.{ℕ, Bool, true, false, ◌==◌, ◌&&◌, ◌||◌, List, [], ◌∷◌, Some, is_some, if◌then◌else◌}
use Rattle.std.specs.List.{list_any}
use Rattle.std.specs.Cmp.Lexicographic.{pointwise}
use Rattle.std.specs.Option.{option_eq, option_map_or}
use Rattle.hx_ids.specs.declared.InstanceId.{InstanceId}
use Rattle.hx_ids.specs.declared.StateId.{StateId}
use Rattle.hx_ideal.specs.declared.Mode.{Mode}
use Rattle.hx_ideal.specs.declared.Mode.TheVariants as modes
use Rattle.hx_ideal.specs.IdealState.{IdealState}
use Rattle.hx_cluster.specs.declared.description.Spec.{Spec}
use Rattle.hx_cluster.specs.declared.state.Cluster.{Cluster}
use Rattle.hx_cluster.specs.declared.happenings.Admin.{Admin}
use Rattle.hx_cluster.specs.declared.happenings.Admin.TheVariants as steps
use Rattle.hx_cluster.specs.declared.happenings.Event.{Event}
use Rattle.hx_cluster.specs.declared.happenings.Event.TheVariants as events
use Rattle.hx_cluster.specs.Ends.{part_eq}
use Rattle.hx_cluster.specs.Steps.{opening, refusal_of, is_empty_list}
use Rattle.hx_cluster.specs.Events.{next}
use Rattle.hx_script.specs.declared.What.{What}
use Rattle.hx_script.specs.declared.What.TheVariants as asks
use Rattle.hx_script.specs.declared.Line.{Line}
use Rattle.hx_script.specs.Asked.{step_asked}

-- whether steps are the same
abbrev pub same_instance : InstanceId → InstanceId → Bool
same_instance a b = a.0 == b.0

abbrev pub same_pair : InstanceId × StateId → InstanceId × StateId → Bool
same_pair a b = same_instance a.0 b.0 && (a.1.0 == b.1.0)

abbrev pub same_mode : Mode → Mode → Bool
same_mode modes.Full modes.Full = true
same_mode (modes.Semi a) (modes.Semi b) = pointwise (pointwise same_instance) a b
same_mode (modes.Custom a) (modes.Custom b) = pointwise (pointwise same_pair) a b
same_mode a b = false

abbrev pub same_ideal : IdealState → IdealState → Bool
same_ideal a b = (a.replicas == b.replicas) && (a.parts == b.parts) && same_mode a.mode b.mode

abbrev pub same_step : Admin → Admin → Bool
same_step (steps.Join i) (steps.Join j) = same_instance i j
same_step (steps.End i) (steps.End j) = same_instance i j
same_step (steps.Beat i) (steps.Beat j) = same_instance i j
same_step (steps.Tick n) (steps.Tick m) = n == m
same_step (steps.Drain i) (steps.Drain j) = same_instance i j
same_step (steps.Undrain i) (steps.Undrain j) = same_instance i j
same_step (steps.Add name model ideal) (steps.Add other kind wanted) = (name == other) && (model.0 == kind.0) && same_ideal ideal wanted
same_step (steps.Drop r) (steps.Drop q) = r.0 == q.0
same_step (steps.SetList p list) (steps.SetList q other) = part_eq p q && pointwise same_instance list other
same_step (steps.SetMap p map) (steps.SetMap q other) = part_eq p q && pointwise same_pair map other
same_step (steps.Reset i p) (steps.Reset j q) = same_instance i j && part_eq p q
same_step (steps.Lead k) (steps.Lead j) = k.0 == j.0
same_step (steps.Stop k) (steps.Stop j) = k.0 == j.0
same_step (steps.Start k) (steps.Start j) = k.0 == j.0
same_step a b = false

-- whether a line asks for a step at all
abbrev pub asks_step : What → Bool
asks_step (asks.Join i) = true
asks_step (asks.Beat i) = true
asks_step (asks.Drain i) = true
asks_step (asks.Undrain i) = true
asks_step (asks.Tick n) = true
asks_step (asks.Expire i) = true
asks_step (asks.Die i) = true
asks_step (asks.Add name model replicas parts mode) = true
asks_step (asks.Drop name) = true
asks_step (asks.List name index list) = true
asks_step (asks.Map name index map) = true
asks_step (asks.Reset i name index) = true
asks_step (asks.Lead k) = true
asks_step (asks.Stop k) = true
asks_step (asks.Start k) = true
asks_step _ = false

-- the steps among events, each with the cluster that it met
abbrev pub steps_among : Cluster → List Event → List (Cluster × Admin)
steps_among c [] = []
steps_among c (events.Admin step did ∷ es) = (c, step) ∷ steps_among (next c (events.Admin step did)) es
steps_among c (e ∷ es) = steps_among (next c e) es

-- the clusters before, between and after events
abbrev pub clusters_among : Cluster → List Event → List Cluster
clusters_among c [] = c ∷ []
clusters_among c (e ∷ es) = c ∷ clusters_among (next c e) es

-- a line that was taken, the cluster then, and the events up to the next line
pub record Stretch : Type 0 where
  pub number : ℕ
  pub cluster : Cluster
  pub events : List Event

-- the events before the first line, and the stretches
pub record Stretches : Type 0 where
  pub before : List Event
  pub lines : List Stretch

abbrev pub with_event : Cluster → Event → Stretches → Stretches
with_event c (events.Line n) t =
    record { before = []; lines = (record { number = n; cluster = next c (events.Line n); events = t.before }) ∷ t.lines }
with_event c e t = record t { before = e ∷ t.before }

abbrev pub stretches : Cluster → List Event → Stretches
stretches c [] = record { before = []; lines = [] }
stretches c (e ∷ es) = with_event c e (stretches (next c e) es)

-- exactly one step, the one that the line asks for where it was made
abbrev pub is_done : What → List (Cluster × Admin) → Bool
is_done what [] = false
is_done what (s ∷ []) = option_eq same_step (step_asked s.0 what) (Some s.1)
is_done what (s ∷ t ∷ ss) = false

-- the step is refused, or its resource's name names no resource
abbrev pub is_refused : What → Cluster → Bool
is_refused what c = option_map_or (λ step. is_some (refusal_of c step)) (step_asked c what) true

-- a line that asks for a step was done, or somewhere in its stretch could not be; any other makes no step
abbrev pub follows_with : What → List (Cluster × Admin) → List Cluster → Bool
follows_with what made clusters =
    if asks_step what then is_done what made || (is_empty_list made && list_any (is_refused what) clusters)
    else is_empty_list made

abbrev pub steps_in : Stretch → List (Cluster × Admin)
steps_in s = steps_among s.cluster s.events

abbrev pub follows_line : Line → Stretch → Bool
follows_line l s = (l.number == s.number) && follows_with l.what (steps_in s) (clusters_among s.cluster s.events)

-- no step stands before the first line
abbrev pub begins_well : Cluster → Stretches → Bool
begins_well c t = is_empty_list (steps_among c t.before)

-- a history follows the lines: each was taken, in order
abbrev pub follows_all : List Line → Cluster → Stretches → Bool
follows_all lines c t = begins_well c t && pointwise follows_line lines t.lines

abbrev pub follows : Spec → List Line → List Event → Bool
follows spec lines h = follows_all lines (opening spec) (stretches (opening spec) h)

-- a history that was cut off follows the lines that it has taken; of the last the step may be missing
abbrev pub was_taken : Line → Stretch → Bool
was_taken l s = (l.number == s.number) && is_empty_list (steps_in s)

abbrev pub follows_taken : List Line → List Stretch → Bool
follows_taken lines [] = true
follows_taken [] (s ∷ ss) = false
follows_taken (l ∷ ls) (s ∷ []) = follows_line l s || was_taken l s
follows_taken (l ∷ ls) (s ∷ t ∷ ss) = follows_line l s && follows_taken ls (t ∷ ss)

abbrev pub follows_so_far : List Line → Cluster → Stretches → Bool
follows_so_far lines c t = begins_well c t && follows_taken lines t.lines

abbrev pub follows_cut_off : Spec → List Line → List Event → Bool
follows_cut_off spec lines h = follows_so_far lines (opening spec) (stretches (opening spec) h)
