use Rattle.std.proofs.Common.{length, ap, sym, ◌∙◌}
use Rattle.hx_lists.specs.Log.{Log}
use Rattle.hx_cluster.specs.declared.happenings.Event.{Event}
use Rattle.hx_history.proofs.Columns.{one_each}
use Rattle.hx_history.proofs.entries.Entries.len.Goals as goal

pub returns : goal.returns
returns c =
    c.len.ensures ∙ sym (one_each c.self.inside.kinds.items c.self.inside.words.items c.self.inside.whole.items c.self.invariant.fit) ∙ ap (λ (l : Log Event). length l.items) c.self.view_is
