use Rattle.std.proofs.Common.{rules}
use Rattle.std.specs.String.{string_bytes}
use Rattle.hx_app.proofs.Promised.{holds_of_told}
use Rattle.hx_app.proofs.program.run_told.Goals as goal

pub returns : goal.returns
returns g c = holds_of_told string_bytes c.args.words.now _ (search rules) c.run.ensures
