-- The judge of logs: an entry is lawful where the cluster answers so, the call is the next of its turn, the proposals are those of the
-- plan, and the message was fetched. Else the first of these that doesn't hold is the cause.
use Rattle.std.specs.Prelude.{◌≡◌, ℕ, ◌+◌, Bool, true, not, ◌==◌, ◌&&◌, List, [], ◌∷◌, ◌++◌, map, Option, None, Some, Result, Ok, Err, if◌then◌else◌, codes, decimal}
use Rattle.std.specs.Cmp.Lexicographic.{pointwise}
use Rattle.hx_text.specs.declared.line_table.TextFault.{TextFault}
use Rattle.hx_text.specs.declared.line_table.TextFault.TheVariants as text_faults
use Rattle.hx_text.specs.Lines.{lines_of}
use Rattle.hx_text.specs.Faults.{lines_fault}
use Rattle.hx_cluster.specs.declared.description.Spec.{Spec}
use Rattle.hx_cluster.specs.declared.happenings.Proposal.{Proposal}
use Rattle.hx_cluster.specs.declared.happenings.Event.{Event}
use Rattle.hx_cluster.specs.declared.happenings.Event.TheVariants as events
use Rattle.hx_cluster.specs.Ends.{part_eq}
use Rattle.hx_cluster.specs.Steps.{opening}
use Rattle.hx_cluster.specs.declared.state.Cluster.{Cluster}
use Rattle.hx_cluster.specs.Events.{next, replay}
use Rattle.hx_pass.specs.Lawful.{IsLawful}
use Rattle.hx_pass.specs.Plans.{plan}
use Rattle.hx_pass.specs.Turns.{Live, Mail, States, Ideals, Send, Post, is_first, is_due, is_of_epoch}
use Rattle.hx_script.specs.declared.log.LogEntry.{LogEntry}
use Rattle.hx_script.specs.declared.log.LogLine.{LogLine}
use Rattle.hx_script.specs.Logs.{log_of}
use Rattle.hx_script.specs.LogEntries.{entry_told_by}
use Rattle.hx_check.specs.declared.Cause.{Cause}
use Rattle.hx_check.specs.declared.Cause.TheVariants as causes
use Rattle.hx_check.specs.declared.Verdict.{Verdict}
use Rattle.hx_check.specs.declared.Verdict.TheVariants as verdicts
use Rattle.hx_check.specs.Standing.{Standing, opening_standing, stood_after, standing_of, turn_in, is_marked}
use Rattle.hx_check.specs.Answers.{answered}

-- a controller's call is the next one of its turn, with the numbers of its begin
abbrev pub is_in_turn : Standing → Event → Bool
is_in_turn w (events.Live k pass) = is_due (turn_in w k) Live pass
is_in_turn w (events.Mail k pass s) = is_due (turn_in w k) (Mail s) pass
is_in_turn w (events.States k pass s) = is_due (turn_in w k) (States s) pass
is_in_turn w (events.Ideals k pass) = is_due (turn_in w k) Ideals pass
is_in_turn w (events.Dispatch k epoch pass proposals answer) = is_due (turn_in w k) Send pass && is_of_epoch (turn_in w k) epoch
is_in_turn w (events.Post k epoch rows) = is_first Post (turn_in w k).left && is_of_epoch (turn_in w k) epoch
is_in_turn w _ = true

-- the proposals are those of the plan of what the turn was shown
abbrev pub same_proposal : Proposal → Proposal → Bool
same_proposal a b = (a.session.0 == b.session.0) && part_eq a.part b.part && (a.from.0 == b.from.0) && (a.to.0 == b.to.0)

abbrev pub is_planned : Spec → Standing → Event → Bool
is_planned spec w (events.Dispatch k epoch pass proposals answer) =
    pointwise same_proposal proposals (plan spec.models spec.rules (turn_in w k).view).proposals
is_planned spec w _ = true

-- the message is one that a fetch showed
abbrev pub is_fetched : Standing → Event → Bool
is_fetched w (events.Take s id) = is_marked w s id
is_fetched w _ = true

-- an event, or the first cause
abbrev pub judged : Spec → Standing → Event → Result Event Cause
judged spec w e =
    if not (is_in_turn w e) then Err causes.Order
    else if not (is_planned spec w e) then Err causes.Plan
    else if not (is_fetched w e) then Err causes.Fetch
    else Ok e

abbrev pub judged_answer : Spec → Standing → Option Event → Result Event Cause
judged_answer spec w None = Err causes.Step
judged_answer spec w (Some e) = judged spec w e

abbrev pub judged_entry : Spec → Standing → Option LogEntry → Result Event Cause
judged_entry spec w None = Err causes.Grammar
judged_entry spec w (Some entry) = judged_answer spec w (answered w entry)

-- the event that comes next in a lawful history by a line of a log, if there is one
abbrev pub event_of : Result Event Cause → Option Event
event_of (Ok e) = Some e
event_of (Err cause) = None

abbrev pub next_event : Spec → List Event → LogLine → Option Event
next_event spec h l = event_of (judged_entry spec (standing_of spec h) l.entry)

-- which event that is, in words on histories: the history stays lawful with it, and its text tells the entry
abbrev pub IsNext : Spec → List Event → LogLine → Event → Type 0
IsNext spec h l e = IsLawful spec (h ++ e ∷ []) × (entry_told_by (replay (opening spec) h) e ≡ l.entry)

-- the verdict on the lines of a log, from a standing and a number of entries on: the first line at fault, or the number of all entries
abbrev pub goes_on : ℕ → Result Event Cause → (Event → Verdict) → Verdict
goes_on line (Ok e) rest = rest e
goes_on line (Err cause) rest = verdicts.Unlawful line cause

abbrev pub judged_from : Spec → Standing → ℕ → List LogLine → Verdict
judged_from spec w n [] = verdicts.Lawful n
judged_from spec w n (l ∷ ls) = goes_on l.line (judged_entry spec w l.entry) (λ e. judged_from spec (stood_after w e) (n + 1) ls)

abbrev pub verdict_on : List LogLine × Spec → Verdict
verdict_on log = judged_from log.1 (opening_standing log.1) 0 log.0

abbrev pub verdict_of : Spec → List (List ℕ) → Verdict
verdict_of spec lines = verdict_on (log_of spec lines)

-- the history that the lines of a log build, up to the first line at fault
abbrev pub built_on : Result Event Cause → (Event → List Event) → List Event
built_on (Ok e) rest = e ∷ rest e
built_on (Err cause) rest = []

abbrev pub built_from : Spec → Standing → List LogLine → List Event
built_from spec w [] = []
built_from spec w (l ∷ ls) = built_on (judged_entry spec w l.entry) (λ e. built_from spec (stood_after w e) ls)

abbrev pub built : Spec → List LogLine → List Event
built spec lines = built_from spec (opening_standing spec) lines

-- and of the bytes of a log. A line that isn't UTF-8 or is too long is tested before all others
abbrev pub most_line : ℕ
most_line = 16384

abbrev pub fault_or : Option TextFault → Verdict → Verdict
fault_or None verdict = verdict
fault_or (Some (text_faults.NotUtf8 line)) verdict = verdicts.Unlawful line causes.Grammar
fault_or (Some (text_faults.LineTooLong line)) verdict = verdicts.Unlawful line causes.Grammar
fault_or (Some text_faults.OutOfMemory) verdict = verdict

abbrev pub verdict_on_text : Spec → List ℕ → Verdict
verdict_on_text spec bytes = fault_or (lines_fault most_line bytes) (verdict_of spec (lines_of bytes))

-- its text
abbrev pub cause_name : Cause → List ℕ
cause_name causes.Grammar = codes "grammar"
cause_name causes.Step = codes "step"
cause_name causes.Order = codes "order"
cause_name causes.Plan = codes "plan"
cause_name causes.Fetch = codes "fetch"

abbrev pub verdict_text : Verdict → List ℕ
verdict_text (verdicts.Lawful n) = codes "lawful " ++ decimal n ++ codes "\n"
verdict_text (verdicts.Unlawful line cause) = codes "unlawful " ++ decimal line ++ codes " " ++ cause_name cause ++ codes "\n"

-- what the events of a history tell, each from the cluster before it
abbrev pub told_along : Cluster → List Event → List (Option LogEntry)
told_along c [] = []
told_along c (e ∷ es) = entry_told_by c e ∷ told_along (next c e) es

-- a lawful history whose events tell the entries of some lines
pub record IsToldBy (spec : Spec) (h : List Event) (lines : List LogLine) : Type 0 where
  pub lawful : IsLawful spec h
  pub told : told_along (opening spec) h ≡ map (λ l. l.entry) lines
