use Rattle.hx_worlds.proofs.BroughtByLines.{brings_what_a_line_does}
use Rattle.hx_worlds.proofs.line_brings_what_it_adds.Goals as goal

pub returns : goal.returns
returns c = brings_what_a_line_does
