use Rattle.hx_scripted.proofs.DoingLines.{line_left, line_lawful}
use Rattle.hx_scripted.proofs.lines_keep_worlds_of_their_histories.Goals as goal

pub returns-clause-kept : goal.returns-clause-kept
returns-clause-kept c = line_left

pub returns-clause-lawful : goal.returns-clause-lawful
returns-clause-lawful c = line_lawful
