use Rattle.std.proofs.Common.{ap, arith}
use Rattle.std.proofs.lemmas.Grind.{common_steps}
use Rattle.hx_lists.specs.Log.{Log}
use Rattle.hx_cluster.specs.declared.happenings.Event.{Event}
use Rattle.hx_history.proofs.Columns.{told_last_of}
use Rattle.hx_history.proofs.entries.Entries.last.Goals as goal

pub tell-requires-clause-whole : goal.tell-requires-clause-whole
tell-requires-clause-whole c = grind (arith, common_steps)

pub returns-in_err-kind : goal.returns-in_err-kind
returns-in_err-kind c = grind (arith, common_steps)

pub returns : goal.returns
returns c =
    let a = c.self.inside in
    rw (← c.tell.ensures, c.split_at.ensures.back, c.split_at-2.ensures.back)
    (told_last_of a.kinds.items c.as_slice.result.now c.in_ok-kind.field-0-1.now c.in_ok-kind.kind.now a.words.items c.as_slice-words.result.now a.whole.items c.as_slice-whole.result.now
    c.args.self.now.items c.words.result c.events.result c.self.invariant.fit c.as_slice.ensures c.in_ok-kind.ensures.cases.0 c.as_slice-words.ensures c.as_slice-whole.ensures c.words.ensures c.events.ensures
    (ap (λ (l : Log Event). l.items) c.self.view_is))

pub tell-requires-clause-words : goal.tell-requires-clause-words
tell-requires-clause-words c = grind (arith, common_steps)

pub overflow_sub-whole : goal.overflow_sub-whole
overflow_sub-whole c = grind (arith, common_steps)

pub overflow_sub-words : goal.overflow_sub-words
overflow_sub-words c = grind (arith, common_steps)
