use Rattle.std.proofs.Common.{arith}
use Rattle.hx_texts_tests.proofs.Session.{joins_and_ends, joined_legal, joined_printed}
use Rattle.hx_texts_tests.proofs.tests.histories.joined_and_ended.Goals as goal

pub new-requires-2 : goal.new-requires-2
new-requires-2 c =
    joined_legal c.args.spec.now c.new.result.items _ c.requires c.new.ensures.items c.in_ok-push.ensures.items

pub print_history-requires : goal.print_history-requires
print_history-requires c =
    joined_legal c.args.spec.now c.new.result.items _ c.requires c.new.ensures.items c.in_ok-push.ensures.items

pub entry-requires : goal.entry-requires
entry-requires c =
    let spec = c.args.spec.now in (
      joined_printed spec c.new.result.items _ _ c.new.ensures.items c.in_ok-push.ensures.items c.in_ok-printer.ensures,
      joins_and_ends spec c.requires,
    )
