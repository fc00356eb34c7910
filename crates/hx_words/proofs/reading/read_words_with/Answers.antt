use Rattle.std.proofs.Common.{map, Some, Ok, ap, ◌∙◌}
use Rattle.std.specs.String.{string_bytes}
use Rattle.clap.specs.declared.builder.value_parser.ValueParser.{ValueParser}
use Rattle.clap.specs.declared.builder.value_parser.ValueParser.TheVariants as parsers
use Rattle.hx_words.specs.declared.Task.{Task}
use Rattle.hx_words.specs.declared.Words.TheVariants as asks
use Rattle.hx_words.specs.Tasks.{answer_to, asked_by}
use Rattle.hx_words.proofs.Answering.{by_matches, by_error, answered, answered_error, wanted}
use Rattle.hx_words.proofs.reading.read_words_with.Goals as goal

pub returns-in_err-command-clause-asked : goal.returns-in_err-command-clause-asked
returns-in_err-command-clause-asked c =
    let modes : ValueParser = parsers.Names c.args.modes in
    (modes, ap Some c.requires, wanted (asked_by modes (map string_bytes c.args.words.now)) c.from_residual.result c.from_residual.ensures.1)

pub returns-in-Ok-clause-asked : goal.returns-in-Ok-clause-asked
returns-in-Ok-clause-asked c =
    let modes : ValueParser = parsers.Names c.args.modes in
    let words = map string_bytes c.args.words.now in
    (modes, ap Some c.requires, answered (asked_by modes words) _ (ap (λ (t : Task). Ok (asks.Run t)) c.task_of.ensures.value ∙ by_matches _ modes words c.in-Ok.matches c.in_ok-command.ensures c.in-Ok.ensures.kinds c.in-Ok.ensures.matches))

pub returns-in-Err-clause-asked : goal.returns-in-Err-clause-asked
returns-in-Err-clause-asked c =
    let modes : ValueParser = parsers.Names c.args.modes in
    let words = map string_bytes c.args.words.now in
    (modes, ap Some c.requires, answered_error (asked_by modes words) _ c.answer_to.result (c.answer_to.ensures.value ∙ ap answer_to c.kind.ensures) (by_error _ modes words c.in-Err.error c.in_ok-command.ensures c.in-Err.ensures.kinds))
