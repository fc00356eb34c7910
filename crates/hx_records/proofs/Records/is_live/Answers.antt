use Rattle.std.proofs.Common.{ap, ◌∙◌}
use Rattle.std.specs.Prelude.{is_some}
use Rattle.hx_records.proofs.Seating.{live_found}
use Rattle.hx_records.proofs.Records.is_live.Goals as goal

pub returns : goal.returns
returns c = rw (← c.self.view_is) (c.is_some.ensures ∙ ap is_some c.find.ensures.found ∙ live_found c.self.inside.sessions.live c.args.session)
