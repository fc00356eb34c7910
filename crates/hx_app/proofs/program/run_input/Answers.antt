use Rattle.std.proofs.Common.{refl, inl, inr}
use Rattle.hx_app.specs.Replies.{read_fault, too_long}
use Rattle.hx_app.specs.Runs.{SourceAt}
use Rattle.hx_app.specs.Writes.{SinkAt}
use Rattle.hx_app.proofs.Promised.{runs_answer}
use Rattle.hx_app.proofs.program.run_input.Goals as goal

pub returns-in-Err-Failed : goal.returns-in-Err-Failed
returns-in-Err-Failed g c = record {
  ended = inl (read_fault, inr (inl (record { rose = c.read_all.ensures.failed (cc); short = c.read_all.ensures.short (cc) }, refl)), c.write.ensures);
  source_later = c.read_all.ensures.later;
  sink_later = c.write.ensures.later;
}

pub returns-in-Err-TooLong : goal.returns-in-Err-TooLong
returns-in-Err-TooLong g c = record {
  ended = inl (too_long, inr (inr (c.read_all.ensures.too_long (cc), refl)), c.write-in-Err-TooLong.ensures);
  source_later = c.read_all.ensures.later;
  sink_later = c.write-in-Err-TooLong.ensures.later;
}

pub returns-in-Ok : goal.returns-in-Ok
returns-in-Ok g c =
    let source : SourceAt = record { left = g.S.Source.left c.args.src.now; faults = g.S.Source.faults c.args.src.now } in
    let source' : SourceAt = record { left = g.S.Source.left c.read_all.new.source; faults = g.S.Source.faults c.read_all.new.source } in
    let sink : SinkAt = record { got = g.K.Sink.got c.args.out.now; faults = g.K.Sink.faults c.args.out.now } in
    let sink' : SinkAt = record { got = g.K.Sink.got c.answer_input.new.out; faults = g.K.Sink.faults c.answer_input.new.out } in
    runs_answer c.args.behind source source' sink sink' c.deref.result.now c.answer_input.result.0
    (rw c.deref.ensures.value c.in-Ok.ensures.all)
    c.in-Ok.ensures.end
    (rw c.deref.ensures.value c.in-Ok.ensures.within)
    c.read_all.ensures.later
    c.answer_input.ensures
