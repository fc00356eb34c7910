use Rattle.std.proofs.Common.{[], ◌∷◌}
use Rattle.hx_texts_tests.proofs.Session.{join}
use Rattle.hx_texts_tests.proofs.tests.histories.joined_and_ended.Given as goal

-- the history before the entry
abbrev pub ghost-entry : goal.ghost-entry
ghost-entry a = join ∷ []
