use Rattle.std.proofs.Common.{◌≡◌, List, [], drop, sym, ap, ◌∙◌, arith}
use Rattle.std.proofs.lemmas.List.{drop_all}
use Rattle.hx_ids.specs.declared.SessionId.{SessionId}
use Rattle.hx_sessions.proofs.Living.{gone, gone-expired}
use Rattle.hx_sessions.proofs.Sessions.expire.Goals as goal

pub returns-clause-live : goal.returns-clause-live
returns-clause-live c =
    let done : drop c.loop-session.session-index c.deref-session-items.result.now ≡ [] = drop_all c.loop-session.session-index c.deref-session-items.result.now (omega arith) in
    sym (ap (λ (ended : List SessionId). gone ended c.loop-session.self.live) done) ∙ c.loop-session.invariant.0
    ∙ ap (λ (ended : List SessionId). gone ended c.args.self.now.live) (c.deref-session-items.ensures.value ∙ c.in_ok-ended.ensures.ended)
    ∙ gone-expired c.args.self.now.live c.args.now c.args.timeout c.in_ok-ended.ensures.sessions.numbers
