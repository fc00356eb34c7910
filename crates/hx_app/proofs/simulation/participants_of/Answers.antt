use Rattle.std.proofs.Common.{◌∙◌}
use Rattle.std.proofs.lemmas.Iterator.Adapters.{YieldsList-from_vec}
use Rattle.std.proofs.lemmas.Iterator.Consumers.{YieldsList-from_enumerate, YieldsList-end}
use Rattle.hx_app.proofs.Staff.{staff_at_places}
use Rattle.hx_app.proofs.simulation.participants_of.Goals as goal

pub returns : goal.returns
returns c =
    let whole =
    YieldsList-end (YieldsList-from_enumerate {s = c.into_iter-instance-iterator.result} (YieldsList-from_vec c.args.lists.items (cc) (cc)) (cc)) c.loop-instance.yielded c.loop-instance.instance-iterator c.loop-instance.yielded_by
    c.next.result c.next.new.self c.in-None.is c.next.ensures.steps in
    c.loop-instance.invariant.items ∙ staff_at_places (λ list. list.items) 0 c.loop-instance.yielded c.args.lists.items whole.0
