use Rattle.std.proofs.Common.{sym, ◌∙◌}
use Rattle.hx_cluster.specs.Messages.{has_id}
use Rattle.hx_records.proofs.Ending.{of_message, the_mail, id_within, id_own, part_goes, part_fewer, part_ended}
use Rattle.hx_records.proofs.Records.end_mail.Goals as goal

pub loop-message-smaller : goal.loop-message-smaller
loop-message-smaller c = part_fewer the_mail (of_message c.args.session) (has_id c.args.session c.in-Some._message.id) _ _ _ (id_own _ c.in-Some._message) (sym c.pop_message.ensures.first ∙ c.in-Some.is) c.in-Some.ensures.rest

pub loop-message-preserved : goal.loop-message-preserved
loop-message-preserved c = part_goes the_mail (of_message c.args.session) (has_id c.args.session c.in-Some._message.id) _ _ _ (id_within _ _) c.loop-message.invariant c.in-Some.ensures.rest

pub returns : goal.returns
returns c = c.in_default.ensures.rest ∙ part_ended the_mail (of_message c.args.session) _ _ c.loop-message.invariant (sym c.pop_message.ensures.first ∙ c.in_default.is)
