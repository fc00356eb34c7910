use Rattle.hx_app.proofs.Given.{run_sound}
use Rattle.hx_app.proofs.run_laws.runs_are_sound.Goals as goal

pub returns : goal.returns
returns c = run_sound
