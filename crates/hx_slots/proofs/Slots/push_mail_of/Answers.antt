use Rattle.std.proofs.Common.{◌==◌, ap, ◌∙◌, ◌≡◌, filter, rules}
use Rattle.hx_slots.specs.Kept.{Kept}
use Rattle.hx_slots.proofs.Mail.{mail-owned}
use Rattle.hx_slots.proofs.Growing.{grows, grows_by, has_grown}
use Rattle.hx_slots.proofs.Slots.push_mail_of.Goals as goal

pub loop-message-init : goal.loop-message-init
loop-message-init c =
    grows c.len-before.result c.args.mail.now _ _ c.len-before.ensures
    (c.into_iter-message-iterator.ensures.into_iter_gives ∙ c.owned-message-items.ensures ∙ mail-owned c.self.inside.slots c.args.session c.self.inside.mail c.self.invariant.0.each_message
    ∙ ap (λ (x : Kept). filter (λ m. m.session.0 == c.args.session.0) x.mail) c.self.view_is)

pub loop-message-preserved : goal.loop-message-preserved
loop-message-preserved c =
    grows_by c.in-Some.message.now c.len-before.result c.args.mail.now c.loop-message.mail c.push_or_cut.new.items _ _ _ c.loop-message.invariant c.in-Some.ensures.steps c.in_ok-push_or_cut.ensures.ok

pub returns-in_err-push_or_cut-clause-err : goal.returns-in_err-push_or_cut-clause-err
returns-in_err-push_or_cut-clause-err c =
    let same : c.push_or_cut.new.items ≡ c.args.mail.now = c.in_err-push_or_cut.ensures.err ∙ c.loop-message.invariant.1 in
    search (rules, same)

pub returns-clause-ok : goal.returns-clause-ok
returns-clause-ok c = has_grown c.len-before.result c.args.mail.now c.loop-message.mail _ _ c.loop-message.invariant c.in-None.ensures.steps.0
