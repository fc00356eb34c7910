use Rattle.std.proofs.Common.{◌≡◌, Result, Ok, Err, map, ◌∙◌}
use Rattle.std.specs.String.{string_bytes}
use Rattle.hx_words.specs.declared.Words.{Words}
use Rattle.hx_words.specs.declared.Words.TheVariants as asks
use Rattle.hx_words.specs.declared.WordsFault.{WordsFault}
use Rattle.hx_words.specs.declared.WordsFault.TheVariants as faults
use Rattle.hx_words.specs.Tasks.{asked_by}
use Rattle.hx_app.specs.Runs.{SourceAt}
use Rattle.hx_app.specs.Writes.{SinkAt}
use Rattle.hx_app.proofs.Promised.{as_asked, tells_usage, tells_version, refuses_words, is_refused, words_unheard}
use Rattle.hx_app.proofs.program.run.Goals as goal

pub returns-in-Ok-Run : goal.returns-in-Ok-Run
returns-in-Ok-Run g c =
    let of_words = c.in-Ok-Run.ensures.asked in
    as_asked (map string_bytes c.args.words.now) (Ok (asks.Run c.in-Ok-Run.task)) _ _ _ _ c.run_script.result.0 of_words (cc (of_words.2.ok)) c.run_script.ensures

pub returns-in-Ok-Help : goal.returns-in-Ok-Help
returns-in-Ok-Help g c =
    let of_words = c.in-Ok-Help.ensures.asked in
    as_asked (map string_bytes c.args.words.now) (Ok asks.Help) _ _ _ _ c.write.result.0 of_words (cc (of_words.2.ok))
    (tells_usage c.as_bytes.result.now _ _ _ c.write.result.0 (c.as_bytes.ensures.value ∙ c.usage.ensures) c.write.ensures)

pub returns-in-Ok-Version : goal.returns-in-Ok-Version
returns-in-Ok-Version g c =
    let of_words = c.in-Ok-Version.ensures.asked in
    as_asked (map string_bytes c.args.words.now) (Ok asks.Version) _ _ _ _ c.write-in-Ok-Version.result.0 of_words (cc (of_words.2.ok))
    (tells_version c.as_bytes-in-Ok-Version.result.now _ _ _ c.write-in-Ok-Version.result.0 (c.as_bytes-in-Ok-Version.ensures.value ∙ c.version.ensures) c.write-in-Ok-Version.ensures)

pub returns-in-Err-Refused : goal.returns-in-Err-Refused
returns-in-Err-Refused g c =
    let of_words = c.in-Err-Refused.ensures.asked in
    as_asked (map string_bytes c.args.words.now) (Err faults.Refused) _ _ _ _ c.refuse_words.result.0 of_words
    (is_refused (asked_by of_words.0 (map string_bytes c.args.words.now)) c.in-Err-Refused.field-0 c.in-Err-Refused.field-0-is of_words.2.err) (refuses_words _ _ _ c.refuse_words.result.0 c.refuse_words.ensures)

pub returns-in-Err-OutOfMemory : goal.returns-in-Err-OutOfMemory
returns-in-Err-OutOfMemory g c =
    let of_words = c.in-Err-OutOfMemory.ensures.asked in
    let source : SourceAt = record { left = g.S.Source.left c.args.src.now; faults = g.S.Source.faults c.args.src.now } in
    let sink : SinkAt = record { got = g.K.Sink.got c.args.out.now; faults = g.K.Sink.faults c.args.out.now } in
    (of_words.0, of_words.1, words_unheard (asked_by of_words.0 (map string_bytes c.args.words.now)) source sink)
