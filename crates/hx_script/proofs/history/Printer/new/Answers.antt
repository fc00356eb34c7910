use Rattle.hx_script.proofs.Entries.{printed_all}
use Rattle.hx_script.proofs.history.Printer.new.Goals as goal

pub returns : goal.returns
returns c =
    printed_all c.args.spec.now c.args.history.now.entries.items _ _ c.requires c.in_ok-roll.ensures c.in_ok-follow_all.ensures
