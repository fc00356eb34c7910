use Rattle.std.proofs.Common.{rules}
use Rattle.hx_words.proofs.reading.answer_to.Goals as goal

pub returns-in_default : goal.returns-in_default
returns-in_default c = search rules

pub returns-in-OutOfMemory-clause-value : goal.returns-in-OutOfMemory-clause-value
returns-in-OutOfMemory-clause-value c = search rules
