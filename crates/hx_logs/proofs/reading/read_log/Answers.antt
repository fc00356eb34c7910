use Rattle.std.proofs.Common.{sym, arith}
use Rattle.std.proofs.lemmas.Grind.{common_steps}
use Rattle.hx_script.specs.Logs.{exact_words}
use Rattle.hx_logs.specs.Walk.{line_at}
use Rattle.hx_logs.proofs.Added.{kept_on_entry, few_on_entry}
use Rattle.hx_logs.proofs.Walking.{after_remark, after_indented, after_loose, after_head}
use Rattle.hx_logs.proofs.reading.read_log.Goals as goal
use Rattle.hx_logs.proofs.reading.read_log.Goals.{in-PassedOver, in-Indented+then-not-begun+in_ok-push-in-Indented, in-Indented+else-not-begun, in-Head+in_ok-entry-in-Head+in_ok-push-in-Head}

pub returns-in_err-push-in-Head-clause-kept : goal.returns-in_err-push-in-Head-clause-kept
returns-in_err-push-in-Head-clause-kept c =
    kept_on_entry c.args.spec.now c.loop-place.spec c.read_entry.new.spec (exact_words (line_at c.args.lines.now c.loop-place.place)) c.in_ok-entry-in-Head.entry
    c.in_ok-entry-in-Head.ensures.ok.1 c.loop-place.invariant.kept

pub loop-place-preserved : goal.loop-place-preserved
loop-place-preserved c =
    let lines = c.args.lines.now in
    let place = c.loop-place.place in
    let line = c.get.result.now in
    let done = c.loop-place.log.items in
    elim c.match-sort_of.branch [
      | in-PassedOver w ↦
          rw (w.spec-is, w.log-is, w.begun-is) (record {
            log = after_remark c.loop-place.begun c.loop-place.spec lines place line done _ c.get.ensures (sym w.in-PassedOver.ensures) c.loop-place.invariant.log;
            kept = c.loop-place.invariant.kept;
            few = omega (arith, c.loop-place.invariant.few);
          })
      | in-Indented+then-not-begun+in_ok-push-in-Indented w ↦
          rw (w.spec-is, w.log-is, w.begun-is, w.if-not-begun.true, w.in_ok-push-in-Indented.ensures.items) (record {
            log = after_loose c.loop-place.spec lines place line done _ c.get.ensures (sym w.in-Indented.ensures) (rw w.if-not-begun.true at c.loop-place.invariant.log);
            kept = c.loop-place.invariant.kept;
            few = omega (arith, c.loop-place.invariant.few);
          })
      | in-Indented+else-not-begun w ↦
          rw (w.spec-is, w.log-is, w.begun-is, w.if-not-begun.false) (record {
            log = after_indented c.loop-place.spec lines place line done _ c.get.ensures (sym w.in-Indented.ensures) (rw w.if-not-begun.false at c.loop-place.invariant.log);
            kept = c.loop-place.invariant.kept;
            few = omega (arith, c.loop-place.invariant.few);
          })
      | in-Head+in_ok-entry-in-Head+in_ok-push-in-Head w ↦
          let told = w.in_ok-entry-in-Head.ensures.ok in
          let words = exact_words (line_at lines place) in
          rw (w.spec-is, w.log-is, w.begun-is, w.in_ok-push-in-Head.ensures.items) (record {
            log = after_head c.loop-place.begun c.loop-place.spec w.read_entry.new.spec lines place line w.in_ok-entry-in-Head.entry done _ c.get.ensures (sym w.in-Head.ensures) told.0 told.1 c.loop-place.invariant.log;
            kept = kept_on_entry c.args.spec.now c.loop-place.spec w.read_entry.new.spec words w.in_ok-entry-in-Head.entry told.1 c.loop-place.invariant.kept;
            few = few_on_entry c.args.spec.now c.loop-place.spec w.read_entry.new.spec words w.in_ok-entry-in-Head.entry place told.1 c.loop-place.invariant.few;
          })
    ]

pub returns-clause-ok : goal.returns-clause-ok
returns-clause-ok c = grind (arith, common_steps)
