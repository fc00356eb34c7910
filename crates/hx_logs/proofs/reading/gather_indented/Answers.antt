use Rattle.std.proofs.Common.{ℕ, List, [], ◌∷◌, Bor, map, sym, ap, arith}
use Rattle.std.proofs.lemmas.Grind.{common_steps}
use Rattle.std.proofs.lemmas.List.{map-append}
use Rattle.hx_logs.proofs.Walking.{gathered_past, gathered_more, gathered_all}
use Rattle.hx_logs.proofs.reading.gather_indented.Goals as goal
use Rattle.hx_logs.proofs.reading.gather_indented.Goals.{in-PassedOver, in-Indented+in_ok-push-in-Indented}

pub returns-in-Head : goal.returns-in-Head
returns-in-Head c = gathered_all c.args.lines.now c.loop-place.place c.get-line.result.now _ _ c.get-line.ensures (sym c.in-Head.ensures) c.loop-place.invariant

pub loop-place-preserved : goal.loop-place-preserved
loop-place-preserved c =
    elim c.match-sort_of.branch [
      | in-PassedOver w ↦ rw w.indented-is (gathered_past c.args.lines.now c.loop-place.place c.get-line.result.now _ _ c.get-line.ensures (sym w.in-PassedOver.ensures) c.loop-place.invariant)
      | in-Indented+in_ok-push-in-Indented w ↦
          let more = gathered_more c.args.lines.now c.loop-place.place c.get-line.result.now _ _ c.get-line.ensures (sym w.in-Indented.ensures) c.loop-place.invariant in
          let pushed = ap (map (λ (t : Bor (List ℕ)). t.now)) w.in_ok-push-in-Indented.ensures.items in
          let both = map-append (λ (t : Bor (List ℕ)). t.now) c.loop-place.indented.items (w.behind_spaces.result ∷ []) in
          rw w.indented-is cc
    ]

pub returns : goal.returns
returns c = grind (arith, common_steps)
