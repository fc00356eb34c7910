use Rattle.std.proofs.Common.{Ok, Err}
use Rattle.hx_scene.proofs.Reaching.{does_err}
use Rattle.hx_scene.proofs.Making.{made_given}
use Rattle.hx_scene.proofs.Fetching.{fetch_gives, mail_gives, bag_gives}
use Rattle.hx_scene.proofs.scene.Scene.fetch_with.Goals as goal

pub returns-in_err-mail-clause-does : goal.returns-in_err-mail-clause-does
returns-in_err-mail-clause-does g c = fetch_gives c.args.instance c.args.self.now c.fetch_mail.new.self c.from_residual.result c.in_err-mail.field-0.0 c.args.out.now c.in_err-mail.ensures.err c.from_residual.ensures.1

pub returns-in_err-print_fetch-clause-does : goal.returns-in_err-print_fetch-clause-does
returns-in_err-print_fetch-clause-does g c =
    does_err _ _ _ _ _ _ c.from_residual-in_err-print_fetch.result c.in_err-print_fetch.field-0.0 c.from_residual-in_err-print_fetch.ensures.1
    (made_given c.in_ok-mail.ensures.made c.args.out.now c.print_fetch.new.out (Err c.in_err-print_fetch.field-0.0) c.in_err-print_fetch.ensures.prints c.in_err-print_fetch.ensures.memory)

pub returns-clause-does : goal.returns-clause-does
returns-clause-does g c = made_given c.in_ok-mail.ensures.made c.args.out.now c.print_fetch.new.out (Ok c.in_ok-print_fetch.field-0) c.in_ok-print_fetch.ensures.prints tt

pub returns-clause-messages : goal.returns-clause-messages
returns-clause-messages g c = mail_gives c.args.self.now c.args.instance c.in_ok-mail.mail c.into_vec.ensures c.in_ok-mail.ensures.mail

pub returns-clause-bagged : goal.returns-clause-bagged
returns-clause-bagged g c = bag_gives c.fetch_mail.new.self.bag c.in_ok-mail.mail c.into_vec.ensures c.in_ok-mail.ensures.bagged
