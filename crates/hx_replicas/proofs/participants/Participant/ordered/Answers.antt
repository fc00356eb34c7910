use Rattle.std.proofs.Common.{List, map, ◌∙◌, sym, ap}
use Rattle.std.specs.Prelude.{Result, Ok, Err, IfOk}
use Rattle.hx_lists.specs.Lists.{sort_by}
use Rattle.hx_replicas.specs.declared.queue.Waiting.{Waiting}
use Rattle.hx_replicas.specs.Participants.{number_before}
use Rattle.hx_replicas.proofs.Ordering.{messages-ordered}
use Rattle.hx_replicas.proofs.Sorting.{accepted-plain}
use Rattle.hx_replicas.proofs.participants.Participant.ordered.Goals as goal

if_ok : {T E : Type 0} (r : Result T E) (P Q : T → Type 0) → ((t : T) → P t → Q t) → IfOk r P → IfOk r Q
if_ok (Ok x) P Q f h = f x h
if_ok (Err x) P Q f h = h

pub returns : goal.returns
returns g c =
    let xs = c.self.inside.slots.items.items in
    let es = c.self.inside.slots.queue.entries in
    let ws = c.in_ok-waiting.waiting.items in
    if_ok c.messages_of.result _ _
    (λ messages is.
    is ∙ ap (λ (vs : List Waiting). map (λ w. w.message) vs) c.deref.ensures.value
    ∙ messages-ordered es xs ws c.self.invariant.1.queue c.in_ok-waiting.ensures.sorted c.in_ok-waiting.ensures.stable
    ∙ rw (← c.self.view_is) (sym (ap (sort_by number_before) (accepted-plain g.F.H.Handler xs))))
    c.messages_of.ensures
