use Rattle.std.proofs.Common.{◌∙◌, ap}
use Rattle.hx_cluster.specs.Messages.{row_put}
use Rattle.hx_records.proofs.Marked.{brought, brought_now}
use Rattle.hx_records.proofs.Records.bring.Goals as goal

pub invariant_of-self : goal.invariant_of-self
invariant_of-self c =
    let m = c.args.message.now in
    let rows = c.write-has.ensures.rows ∙ ap (row_put c.self.inside.slots.rows m.session m.part) c.state_after.ensures in
    brought c.self.inside c.args.self.now m c.args.outcome c.write-has.result c.write-has.new.self c.leave.new.counts c.settle_flags.new.flags
    c.self.view_is c.self.invariant c.requires.kept c.requires.pending c.write-has.ensures.had c.leave.ensures rows c.write-has.ensures.mail

pub returns : goal.returns
returns c =
    let m = c.args.message.now in
    let rows = c.write-has.ensures.rows ∙ ap (row_put c.self.inside.slots.rows m.session m.part) c.state_after.ensures in
    brought_now c.self.inside c.args.self.now m c.args.outcome c.write-has.new.self c.settle_flags.new.flags c.self.view_is c.requires.pending rows c.write-has.ensures.mail c.settle_flags.ensures
