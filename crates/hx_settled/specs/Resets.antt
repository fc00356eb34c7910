-- Candidates that leave ERROR.
use Rattle.std.specs.Prelude.{◌≡◌, true, ◌==◌}
use Rattle.hx_model.specs.Model.{error}
use Rattle.hx_cluster.specs.declared.planning.View.{View}
use Rattle.hx_cluster.specs.declared.planning.Candidate.{Candidate}
use Rattle.hx_best.specs.Goals.{is_asked}

-- one that does has a reset flag
abbrev pub LeavesErrorAsked : View → Candidate → Type 0
LeavesErrorAsked view x = (x.from.0 == error.0) ≡ true → is_asked view x.session x.part ≡ true
