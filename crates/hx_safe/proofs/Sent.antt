-- Each message that is taken was sent before.
use Rattle.std.proofs.Common.{◌≡◌, ◌||◌, Bool, true, false, List, [], ◌∷◌, ◌++◌, append_assoc, Option, Some, None, refl, ap, ◌∙◌, subst, arith}
use Rattle.std.specs.List.{list_any, list_all}
use Rattle.hx_cluster.specs.declared.state.Message.{Message}
use Rattle.hx_cluster.specs.declared.state.Cluster.{Cluster}
use Rattle.hx_cluster.specs.declared.happenings.Placed.{Placed}
use Rattle.hx_cluster.specs.declared.happenings.Placed.TheVariants as placings
use Rattle.hx_cluster.specs.declared.happenings.Proposal.{Proposal}
use Rattle.hx_cluster.specs.declared.happenings.Event.{Event}
use Rattle.hx_cluster.specs.declared.happenings.Event.TheVariants as events
use Rattle.hx_cluster.specs.Messages.{is_same, sent_by, sent_all, placed_of, message_from, after_placed, after_proposal, after_proposals, next_pass}
use Rattle.hx_cluster.specs.Events.{next, IsLegal}
use Rattle.hx_cluster.specs.Runs.{taken_by, sent_in, is_sent_before, each_is_sent}
use Rattle.hx_safe.proofs.Counting.{and-both, any-append, all-append, all-le}
use Rattle.hx_safe.proofs.Beside.{beside_pass}
use Rattle.hx_safe.specs.Calm.{is_among, is_dispatch}
use Rattle.hx_safe.proofs.Calming.{same_self}
use Rattle.hx_safe.proofs.Mail.{all_quiet}
use Rattle.hx_safe.proofs.Past.{taken_message}

-- a message among some is among more
among_more : (sent more : List Message) (mail : List Message) → list_all (is_among sent) mail ≡ true → list_all (is_among (sent ++ more)) mail ≡ true
among_more sent more mail all = all-le (is_among sent) (is_among (sent ++ more)) (λ m e. any-append (is_same m) sent more ∙ grind (arith, e)) mail all

among_last : (sent : List Message) (m : Message) → is_among (sent ++ m ∷ []) m ≡ true
among_last sent m = any-append (is_same m) sent (m ∷ []) ∙ last (list_any (is_same m) sent) (is_same m m) (same_self m)
  where
    last : (a b : Bool) → b ≡ true → (a || (b || false)) ≡ true
    last true b e = refl
    last false true e = refl
    last false false e = cc

-- the pending messages are among those that were sent
sent_placed : (c : Cluster) (q : Proposal) (a : Placed) (sent : List Message) → list_all (is_among sent) c.mail ≡ true → list_all (is_among (sent ++ sent_by c q a)) (after_placed c q a).mail ≡ true
sent_placed c q (placings.Sent id) sent all =
    let m = message_from c id q in
    let last = among_last sent m in
    all-append (is_among (sent ++ m ∷ [])) c.mail (m ∷ [])
    ∙ and-both (list_all (is_among (sent ++ m ∷ [])) c.mail) (list_all (is_among (sent ++ m ∷ [])) (m ∷ [])) (among_more sent (m ∷ []) c.mail all) (and-both (is_among (sent ++ m ∷ []) m) true last refl)
sent_placed c q _ sent all = among_more sent [] c.mail all

sent_proposals : (c : Cluster) (qs : List Proposal) (sent : List Message) → list_all (is_among sent) c.mail ≡ true → list_all (is_among (sent ++ sent_all c qs)) (after_proposals c qs).mail ≡ true
sent_proposals c [] sent all = among_more sent [] c.mail all
sent_proposals c (q ∷ qs) sent all =
    let first = sent_placed c q (placed_of c q) sent all in
    let rest = sent_proposals (after_proposal c q) qs (sent ++ sent_by c q (placed_of c q)) first in
    subst (λ (ms : List Message). list_all (is_among ms) (after_proposals (after_proposal c q) qs).mail ≡ true)
    (append_assoc sent (sent_by c q (placed_of c q)) (sent_all (after_proposal c q) qs)) rest

sent_quiet : (c : Cluster) (e : Event) (sent : List Message) → is_dispatch e ≡ false → list_all (is_among sent) c.mail ≡ true → list_all (is_among (sent ++ [])) (next c e).mail ≡ true
sent_quiet c e sent quiet all =
    among_more sent [] (next c e).mail (all_quiet (is_among sent) (record { taken = λ m w. w; written = λ m w. w }) c e quiet all)

sent_next : (c : Cluster) (e : Event) (sent : List Message) → list_all (is_among sent) c.mail ≡ true → list_all (is_among (sent ++ sent_in c e)) (next c e).mail ≡ true
sent_next c (events.Dispatch k epoch pass proposals answer) sent all =
    sent_proposals (next_pass c k) proposals sent (ap (list_all (is_among sent)) (beside_pass c k).mail ∙ all)
sent_next c e sent all = sent_quiet c e sent refl all

pub each_sent : (c : Cluster) (h : List Event) (sent : List Message) → list_all (is_among sent) c.mail ≡ true → IsLegal c h → each_is_sent c sent h ≡ true
each_sent c [] sent all legal = refl
each_sent c (e ∷ es) sent all legal =
    and-both (is_sent_before sent (taken_by c e)) (each_is_sent (next c e) (sent ++ sent_in c e) es) (one (taken_by c e) refl)
    (each_sent (next c e) es (sent ++ sent_in c e) (sent_next c e sent all) legal.1)
  where
    one : (o : Option Message) → taken_by c e ≡ o → is_sent_before sent o ≡ true
    one None is = refl
    one (Some m) is = (taken_message c e legal.0 m is).there (is_among sent) all
