use Rattle.std.proofs.Common.{rules}
use Rattle.hx_script.proofs.words.controller_word.Goals as goal

pub returns-in-Some : goal.returns-in-Some
returns-in-Some c = search rules
