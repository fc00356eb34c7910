use Rattle.hx_app.proofs.Sound.{sound_log}
use Rattle.hx_app.proofs.log_laws.lawful_logs_tell_sound_histories.Goals as goal

pub returns : goal.returns
returns c = sound_log
