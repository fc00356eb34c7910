use Rattle.std.proofs.Common.{◌++◌, ◌∷◌, [], sym, ap, ◌∙◌, arith}
use Rattle.std.proofs.lemmas.Grind.{common_steps}
use Rattle.hx_lists.specs.Log.{Log}
use Rattle.hx_cluster.specs.declared.happenings.Event.{Event}
use Rattle.hx_history.proofs.Columns.{told_words}
use Rattle.hx_history.proofs.entries.Entries.push_reserved.Goals as goal

pub returns-clause-items : goal.returns-clause-items
returns-clause-items c =
    let a = c.self.inside in
    let b = c.in-Some.brief in
    let tells = c.in-Some.ensures in
    rw (c.push_reserved.ensures.items, c.push_words.ensures.items)
    (told_words a.kinds.items b.kind a.words.items c.words.result.now a.whole.items c.args.value c.self.invariant.fit
    (record { words = c.words.ensures.many; kept = sym tells.alone; event = rw c.words.ensures.words tells.words })
    ∙ ap (λ (l : Log Event). l.items ++ c.args.value ∷ []) c.self.view_is)

pub invariant_of-self : goal.invariant_of-self
invariant_of-self c = grind (arith, common_steps)
