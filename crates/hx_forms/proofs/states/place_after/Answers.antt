use Rattle.std.specs.Str.{bytes_eq}
use Rattle.std.proofs.Common.{sym, ◌∙◌}
use Rattle.hx_lists.proofs.Inserting.{place_none}
use Rattle.hx_forms.proofs.states.place_after.Goals as goal

pub returns-in-None : goal.returns-in-None
returns-in-None c = c.len.ensures.len ∙ place_none (bytes_eq c.args.name.now) c.args.names.now (sym c.in-None.ensures)
