use Rattle.std.proofs.Common.{sym, ◌∙◌}
use Rattle.hx_store.proofs.Nexts.{next_end}
use Rattle.hx_slots.proofs.Walks.{walk_popped, none_owned}
use Rattle.hx_slots.proofs.owned.pop_owned.Goals as goal

pub returns-in_default-clause-popped : goal.returns-in_default-clause-popped
returns-in_default-clause-popped g c =
    let none = next_end c.args.session 0 c.args.store.now (sym c.in_default.is ∙ c.next_owned.ensures.next) in
    (none, c.end_session.ensures.rest ∙ none_owned c.args.session c.args.store.now none)

pub returns-clause-popped : goal.returns-clause-popped
returns-clause-popped g c = walk_popped c.args.session c.in-Some.key c.remove.result c.args.store.now c.remove.new.self c.next_owned.ensures.ordered (sym c.in-Some.is ∙ c.next_owned.ensures.next) c.remove.ensures.value c.remove.ensures.rest
