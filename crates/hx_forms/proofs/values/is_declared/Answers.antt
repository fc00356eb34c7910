use Rattle.std.proofs.Common.{ap, ◌∙◌}
use Rattle.std.specs.Prelude.{is_some}
use Rattle.std.specs.Str.{bytes_eq}
use Rattle.hx_forms.proofs.Lists.{is_some-position}
use Rattle.hx_forms.proofs.values.is_declared.Goals as goal

pub returns : goal.returns
returns c = c.is_some.ensures ∙ ap is_some c.find.ensures ∙ is_some-position (bytes_eq c.args.name.now) c.args.names.now
