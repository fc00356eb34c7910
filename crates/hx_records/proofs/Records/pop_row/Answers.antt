use Rattle.std.proofs.Common.{sym, ◌∙◌}
use Rattle.hx_records.proofs.Insides.{unrowed}
use Rattle.hx_records.proofs.Records.pop_row.Goals as goal

pub invariant_of-self-2 : goal.invariant_of-self-2
invariant_of-self-2 c =
    unrowed c.self.inside c.pop_row.new.self c.lower_row.new.counts c.args.session c.in_ok-row.row c.self.invariant
    (rw (← c.self.view_is) at c.requires.listed) (rw (← c.self.view_is) at c.requires.mail)
    (sym c.pop_row.ensures.first ∙ c.in_ok-row.was) c.pop_row.ensures.mail c.in_ok-row.ensures.rows c.lower_row.ensures
