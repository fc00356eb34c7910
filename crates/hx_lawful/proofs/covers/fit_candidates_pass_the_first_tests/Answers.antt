use Rattle.std.proofs.Common.{refl}
use Rattle.hx_lawful.proofs.Gating.{first_tests}
use Rattle.hx_lawful.proofs.covers.fit_candidates_pass_the_first_tests.Goals as goal

pub returns : goal.returns
returns c = λ view b d before x shows within fit nobody live there. first_tests d.models view b d before x refl shows within fit nobody live there
