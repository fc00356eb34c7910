use Rattle.hx_scripted.proofs.DoingLines.{settle_left, settle_lawful}
use Rattle.hx_scripted.proofs.settles_keep_worlds_of_their_histories.Goals as goal

pub returns-clause-kept : goal.returns-clause-kept
returns-clause-kept c = settle_left

pub returns-clause-lawful : goal.returns-clause-lawful
returns-clause-lawful c = settle_lawful
