use Rattle.std.proofs.Common.{◌≡◌, ◌∙◌, subst, ap}
use Rattle.hx_cluster.specs.declared.happenings.Placed.{Placed}
use Rattle.hx_records.specs.Records.{IsAnswered}
use Rattle.hx_records.proofs.Placing.{answer_back, answer_same, kept_answer, some_answer}
use Rattle.hx_records.proofs.Records.unsend_one.Goals as goal

pub unsend-requires-clause-kept : goal.unsend-requires-clause-kept
unsend-requires-clause-kept c = kept_answer c.requires.0 c.args.proposal.now c.args.answer c.args.self.now c.requires.1

pub unsend-requires-clause-some : goal.unsend-requires-clause-some
unsend-requires-clause-some c =
    some_answer c.requires.0 c.args.proposal.now c.in-Sent.id c.args.self.now
    (subst (λ (a : Placed). IsAnswered c.requires.0 c.args.proposal.now a c.args.self.now) c.in-Sent.is c.requires.1)

pub returns-in-Sent : goal.returns-in-Sent
returns-in-Sent c = λ x h.
    c.unsend.ensures
    ∙ answer_back x c.args.proposal.now c.in-Sent.id c.args.self.now (subst (λ (a : Placed). IsAnswered x c.args.proposal.now a c.args.self.now) c.in-Sent.is h)

pub returns-in_default : goal.returns-in_default
returns-in_default c = λ x h. answer_same x c.args.proposal.now c.args.answer c.args.self.now c.in_default.not-Sent h
