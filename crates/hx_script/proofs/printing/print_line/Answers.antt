use Rattle.hx_script.proofs.Shown.{instance_shown, controller_shown, message_shown, bare_shown}
use Rattle.hx_script.proofs.printing.print_line.Goals as goal

pub returns-in-Read : goal.returns-in-Read
returns-in-Read c = rw c.in-Read.is c.print_read.ensures

pub returns-in-Settle : goal.returns-in-Settle
returns-in-Settle c =
    rw (bare_shown c.args.spec.now c.args.line.now.what _ c.in-Settle.is (c.verb_asked-verb.ensures c.args.spec.now)) c.print_bare.ensures

pub returns-in-Tick : goal.returns-in-Tick
returns-in-Tick c = rw c.in-Tick.is c.print_tick.ensures

pub returns-in-Join : goal.returns-in-Join
returns-in-Join c =
    rw (instance_shown c.args.spec.now c.args.line.now.what c.in-Join.i _ c.in-Join.is (c.verb_asked-verb.ensures c.args.spec.now)) c.print_with_instance.ensures

pub returns-in-Lead : goal.returns-in-Lead
returns-in-Lead c =
    rw (controller_shown c.args.spec.now c.args.line.now.what c.in-Lead.k _ c.in-Lead.is (c.verb_asked-verb.ensures c.args.spec.now)) c.print_with_controller.ensures

pub returns-in-List : goal.returns-in-List
returns-in-List c = rw c.in-List.is c.print_list.ensures

pub returns-in-Route : goal.returns-in-Route
returns-in-Route c = rw c.in-Route.is c.print_route.ensures

pub returns-in-Map : goal.returns-in-Map
returns-in-Map c = rw c.in-Map.is c.print_map.ensures

pub returns-in-Deliver : goal.returns-in-Deliver
returns-in-Deliver c =
    rw (message_shown c.args.spec.now c.args.line.now.what c.in-Deliver.i c.in-Deliver.m _ c.in-Deliver.is (c.verb_asked-verb.ensures c.args.spec.now))
    c.print_with_message.ensures

pub returns-in-Drop : goal.returns-in-Drop
returns-in-Drop c = rw c.in-Drop.is c.print_drop.ensures

pub returns-in-Add : goal.returns-in-Add
returns-in-Add c = rw c.in-Add.is c.print_add.ensures

pub returns-in-Reset : goal.returns-in-Reset
returns-in-Reset c = rw c.in-Reset.is c.print_reset.ensures
