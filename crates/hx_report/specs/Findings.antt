-- What a pass finds of each target.
use Rattle.std.specs.Prelude.{Bool, not, ◌==◌, ◌&&◌, List, map, find, if◌then◌else◌}
use Rattle.std.specs.List.{list_any}
use Rattle.std.specs.Option.{option_map_or}
use Rattle.hx_cluster.specs.declared.planning.View.{View}
use Rattle.hx_cluster.specs.declared.planning.Target.{Target}
use Rattle.hx_cluster.specs.declared.planning.Candidate.{Candidate}
use Rattle.hx_cluster.specs.declared.planning.Selection.{Selection}
use Rattle.hx_cluster.specs.declared.planning.Throttled.{Throttled}
use Rattle.hx_cluster.specs.declared.planning.Entry.{Entry}
use Rattle.hx_cluster.specs.declared.planning.Report.{Report}
use Rattle.hx_cluster.specs.declared.planning.Finding.{Finding}
use Rattle.hx_cluster.specs.declared.planning.Finding.TheVariants.{Failed, Pending, AtBest, Sent, Held, Full}
use Rattle.hx_cluster.specs.Ends.{part_eq, message_of}
use Rattle.hx_cluster.specs.Steps.{is_error, is_flag}

-- whether a replica is in ERROR and nobody asked for a reset
abbrev pub is_failed : View → Target → Bool
is_failed view t = is_error t.state && not (list_any (is_flag t.session t.part) view.ideals.resets)

-- whether a candidate is a target's
abbrev pub is_of : Target → Candidate → Bool
is_of t c = (c.session.0 == t.session.0) && part_eq c.part t.part

-- what became of a target's candidate. A target without one is at its best
abbrev pub fate_of : Selection → Throttled → Target → Finding
fate_of selection throttled t =
    if list_any (is_of t) throttled.sent then Sent
    else option_map_or Held (find (λ h. is_of t h.candidate) throttled.held)
    (option_map_or Full (find (λ f. is_of t f.candidate) selection.full) AtBest)

-- the first that fits
abbrev pub finding_of : View → Selection → Throttled → Target → Finding
finding_of view selection throttled t =
    if is_failed view t then Failed
    else option_map_or (λ m. Pending m.id) (message_of view.mail t.session t.part) (fate_of selection throttled t)

abbrev pub entry : View → Selection → Throttled → Target → Entry
entry view selection throttled t = record { target = t; finding = finding_of view selection throttled t }

abbrev pub report : List Target → View → Selection → Throttled → Report
report targets view selection throttled = record { entries = map (entry view selection throttled) targets }
