-- A whole script: what each line does, what that brings, and the text and the history that come of it.
use Rattle.std.specs.Prelude.{◌≡◌, ℕ, ◌+◌, Bool, ◌==◌, ◌&&◌, List, [], ◌∷◌, ◌++◌, map, filter, length, Option, None, Some, true}
use Rattle.hx_ids.specs.declared.InstanceId.{InstanceId}
use Rattle.hx_ids.specs.declared.ResourceId.{ResourceId}
use Rattle.hx_ids.specs.declared.PartId.{PartId}
use Rattle.hx_ids.specs.declared.StateId.{StateId}
use Rattle.hx_cluster.specs.declared.description.Spec.{Spec}
use Rattle.hx_cluster.specs.declared.happenings.Admin.{Admin}
use Rattle.hx_cluster.specs.declared.happenings.Admin.TheVariants as steps
use Rattle.hx_cluster.specs.declared.happenings.Did.TheVariants as dids
use Rattle.hx_cluster.specs.declared.happenings.StepFault.{StepFault}
use Rattle.hx_cluster.specs.declared.happenings.Outcome.{Outcome}
use Rattle.hx_cluster.specs.declared.happenings.Seen.{Seen}
use Rattle.hx_cluster.specs.declared.happenings.Event.{Event}
use Rattle.hx_cluster.specs.declared.happenings.Event.TheVariants as events
use Rattle.hx_cluster.specs.Ends.{part_eq}
use Rattle.hx_cluster.specs.Steps.{opening, refusal_of, did_of, newest}
use Rattle.hx_cluster.specs.Events.{is_later}
use Rattle.hx_print.specs.declared.Note.TheVariants as notes
use Rattle.hx_print.specs.Texts.{view_line, view_of_part, viewed_parts, route_text, history_full_text}
use Rattle.hx_script.specs.declared.What.{What}
use Rattle.hx_script.specs.declared.What.TheVariants as asks
use Rattle.hx_script.specs.declared.Line.{Line}
use Rattle.hx_script.specs.Asked.{part_at, step_asked}
use Rattle.hx_script.specs.Ranges.{is_line_in_range}
use Rattle.hx_worlds.specs.declared.Voice.{Voice}
use Rattle.hx_worlds.specs.declared.Voice.TheVariants.{Loud}
use Rattle.hx_worlds.specs.World.{World, State, Answered, opening_world, told_by}
use Rattle.hx_worlds.specs.Items.{Item, events_in, items_text}
use Rattle.hx_worlds.specs.Runs.{Deed, GoesOn, Stops, items_of, is_stopped, done, and_then, happen, say, note, for_each}
use Rattle.hx_worlds.specs.Turns.{do_begin, do_read, do_send, do_post, do_pass, without_outcome}
use Rattle.hx_worlds.specs.Jobs.{adopt_in, do_fetch, do_deliver, do_take, do_write, do_ack, do_work}
use Rattle.hx_worlds.specs.Settles.{do_settle}
use Rattle.hx_worlds.specs.Summaries.{summary_of}

-- a step of the cluster
abbrev pub stepped : Voice → Admin → Option StepFault → State → Deed
stepped v step (Some f) x = note v (notes.Step f) x
stepped v step None x = happen (events.Admin step (did_of x.world.cluster step)) x

abbrev pub do_step : Voice → Admin → State → Deed
do_step v step x = stepped v step (refusal_of x.world.cluster step) x

-- the step that a line asks for, if it names a resource that there is
abbrev pub do_asked : Voice → Option Admin → State → Deed
do_asked v None x = note v notes.NoResource x
do_asked v (Some step) x = do_step v step x

-- a session dies: it ends, and where it did its participant stops
abbrev pub died : Voice → InstanceId → Option StepFault → State → Deed
died v i (Some f) x = note v (notes.Step f) x
died v i None x = and_then (happen (events.Admin (steps.End i) dids.Done) x) (λ y. done (adopt_in i None y))

abbrev pub do_die : Voice → InstanceId → State → Deed
do_die v i x = died v i (refusal_of x.world.cluster (steps.End i)) x

-- the view, a line for each part
abbrev pub say_view_of : PartId → List (InstanceId × StateId) → State → Deed
say_view_of p holders x = say (1 + length holders) (view_line x.world.spec x.world.cluster.resources p holders) x

abbrev pub do_view : State → Deed
do_view x = for_each (λ p y. say_view_of p (view_of_part y.world.cluster p) y) (viewed_parts x.world.cluster) x

-- the instances that the posted view has in a state of a part
abbrev pub routed : List Seen → PartId → StateId → List InstanceId
routed rows p t = map (λ r. r.instance) (filter (λ r. part_eq r.part p && (r.state.0 == t.0)) rows)

abbrev pub say_route : PartId → StateId → List InstanceId → State → Deed
say_route p t instances x = say (1 + length instances) (route_text x.world.spec x.world.cluster.resources p t instances) x

abbrev pub route_on : Voice → ℕ → StateId → Option ResourceId → State → Deed
route_on v index t None x = note v notes.NoResource x
route_on v index t (Some r) x = say_route (part_at index r) t (routed x.world.cluster.posted (part_at index r) t) x

abbrev pub do_route : Voice → ℕ → ℕ → StateId → State → Deed
do_route v name index t x = route_on v index t (newest x.world.cluster name) x

-- the counts of all that happened so far
abbrev pub do_summary : State → Deed
do_summary x = say 1 (summary_of x.world.history) x

-- what a line does
abbrev pub do_what : Voice → What → State → Deed
do_what v (asks.Die i) x = do_die v i x
do_what v (asks.Begin k) x = without_outcome (do_begin v k x)
do_what v (asks.Read k kind) x = do_read v k kind x
do_what v (asks.Send k) x = do_send v k x
do_what v (asks.Post k) x = do_post v k x
do_what v (asks.Pass k) x = without_outcome (do_pass v k x)
do_what v (asks.Fetch i) x = do_fetch i x
do_what v (asks.Deliver i id) x = do_deliver v i id x
do_what v (asks.Take i id) x = do_take v i id x
do_what v (asks.Write i id) x = do_write v i id x
do_what v (asks.Ack i id) x = do_ack v i id x
do_what v (asks.Work i) x = do_work i x
do_what v asks.Settle x = do_settle v x
do_what v asks.View x = do_view x
do_what v (asks.Route name part state) x = do_route v name part state x
do_what v asks.Summary x = do_summary x
do_what v what x = do_asked v (step_asked x.world.cluster what) x

-- a line is recorded as taken, then done
abbrev pub do_line : Line → State → Deed
do_line l x = and_then (happen (events.Line l.number) x) (λ y. do_what (Loud l.number) l.what y)

-- a line that a world can be given: what it asks for is in range, and its number is above the last; and lines that it can be given in turn
abbrev pub is_next_line : Spec → Option ℕ → Line → Bool
is_next_line spec last l = is_later last l.number && is_line_in_range spec l

abbrev pub are_next_lines : Spec → Option ℕ → List Line → Bool
are_next_lines spec last [] = true
are_next_lines spec last (l ∷ ls) = is_next_line spec last l && are_next_lines spec (Some l.number) ls

-- a world does a line with the answers that its handlers gave, each of them used up: these are the items that it brings, and the world
-- after it. Where the history had no room it stopped, and the world goes on with the next line
abbrev pub state_with : World → List Outcome → State
state_with w outcomes = record { world = w; answers = Answered outcomes }

abbrev pub Does : World → Line → List Outcome → List Item → World → Type 0
Does w l outcomes items after = do_line l (state_with w outcomes) ≡ GoesOn items (state_with after []) tt

abbrev pub StopsAt : World → Line → List Outcome → List Item → World → Type 0
StopsAt w l outcomes items after = do_line l (state_with w outcomes) ≡ Stops items (state_with after [])

-- all lines, and the view at the end; the run stops where the history has no room
abbrev pub do_script : List Line → State → Deed
do_script lines x = and_then (for_each do_line lines x) do_view

-- most_weight is what a history may weigh
abbrev pub most_weight : ℕ
most_weight = 4000000

abbrev pub opening_state : Spec → State
opening_state spec = record { world = opening_world spec most_weight; answers = told_by spec }

abbrev pub sim_run : Spec → List Line → Deed
sim_run spec lines = do_script lines (opening_state spec)

-- what a run prints, and what it adds at its end: a history without room ends it
abbrev pub end_text : Deed → List ℕ
end_text (GoesOn items x answer) = []
end_text (Stops items x) = history_full_text x.world.weight

abbrev pub run_text : Spec → Deed → List ℕ
run_text spec r = items_text spec (opening spec) (items_of r) ++ end_text r

-- the whole output of a script, and its history: the program prints that very history
abbrev pub sim_text : Spec → List Line → List ℕ
sim_text spec lines = run_text spec (sim_run spec lines)

abbrev pub sim_history : Spec → List Line → List Event
sim_history spec lines = events_in (items_of (sim_run spec lines))

abbrev pub is_full_after : Spec → List Line → Bool
is_full_after spec lines = is_stopped (sim_run spec lines)
