use Rattle.hx_worlds.specs.Jobs.{do_fetch}
use Rattle.std.proofs.Common.{refl}
use Rattle.hx_scene.specs.Fields.{scene_of}
use Rattle.hx_scene.proofs.Standing.{has_staff}
use Rattle.hx_scene.proofs.Charging.{scene_of_same}
use Rattle.hx_scene.proofs.Making.{Makes, IsCutHere, fails_for}
use Rattle.hx_scene.proofs.Fetching.{fetch_event, fetch_refused, fetch_here, fetch_makes, fetch_made, puts_mail, mail_bagged}
use Rattle.hx_scene.proofs.scene.Scene.fetch_mail.Goals as goal
use Rattle.hx_scene.proofs.scene.Scene.fetch_mail.Goals.{In_err-reserve, After-put_all}
use Rattle.hx_scene.proofs.scene.Scene.fetch_mail.Given.{Over}

-- the event was made, and no memory was there for the bag
cut : (g : Over) (c : In_err-reserve g) → IsCutHere (λ x. do_fetch c.args.instance x) (scene_of c.self.inside) (record (scene_of c.self.inside) { board = c.fetch.new.self; bag = c.reserve.new.self.items })
cut g c = fetch_here c.args.instance c.self.invariant.0 (rw (← c.self.view_is) at c.requires.instance) c.history.ensures.history c.in_ok-mail.ensures.mail c.in_ok-mail.ensures.ok c.in_ok-mail.ensures.refused c.reserve.ensures.items

-- the messages were fetched, and put into the bag
fetched : (g : Over) (c : After-put_all g) → Makes (λ x. do_fetch c.args.instance x) (fetch_event (scene_of c.self.inside) c.args.instance) (scene_of c.self.inside) c.fetch.new.self
    (record (scene_of c.self.inside) { board = c.fetch.new.self; staff = c.follow.new.participants.items; jobs = c.follow.new.jobs.items; bag = c.put_all.new.self.items })
fetched g c =
    fetch_makes c.self.invariant.0 (rw (← c.self.view_is) at c.requires.instance) c.in_ok-mail.ensures.mail c.in_ok-mail.ensures.ok c.in_ok-mail.ensures.refused c.follow.ensures.follows c.follow.ensures.kept
    c.put_all.ensures c.reserve.ensures.items c.as_slice.ensures

pub invariant_of-self : goal.invariant_of-self
invariant_of-self g c = (scene_of_same c.fetch.new.self c.self.invariant.0 c.in_err-mail.ensures.err, c.self.invariant.1)

pub returns-in_err-mail-clause-err : goal.returns-in_err-mail-clause-err
returns-in_err-mail-clause-err g c =
    rw (← c.self.view_is) (fetch_refused c.args.instance _ c.fetch.new.self c.in_err-mail.field-0.0 c.from_residual.result c.in_err-mail.ensures.err c.in_err-mail.ensures.refused c.from_residual.ensures.1)

pub invariant_of-self-in_err-reserve : goal.invariant_of-self-in_err-reserve
invariant_of-self-in_err-reserve g c = ((cut g (goal.at.invariant_of-self-in_err-reserve g c).In_err-reserve).scene, c.self.invariant.1)

pub returns-in_err-reserve-clause-err : goal.returns-in_err-reserve-clause-err
returns-in_err-reserve-clause-err g c =
    rw (← c.self.view_is)
    (fails_for (λ x. do_fetch c.args.instance x) c.from_residual-in_err-reserve.result c.from_residual-in_err-reserve.ensures.1 ((cut g (goal.at.returns-in_err-reserve-clause-err g c).In_err-reserve).cut))

pub follow-requires-clause-instance : goal.follow-requires-clause-instance
follow-requires-clause-instance g c κs within = has_staff _ c.self.invariant.0 c.args.instance (rw (← c.self.view_is) at c.requires.instance)

pub follow-requires-clause-numbers : goal.follow-requires-clause-numbers
follow-requires-clause-numbers g c κs within = rw (← c.self.view_is) at c.requires.numbers

pub invariant_of-self-2 : goal.invariant_of-self-2
invariant_of-self-2 g c = ((fetched g (goal.at.invariant_of-self-2 g c).After-put_all).scene c.history.ensures.history, c.self.invariant.1)

pub returns-clause-mail : goal.returns-clause-mail
returns-clause-mail g c = rw (← c.self.view_is) c.in_ok-mail.ensures.mail

pub returns-clause-made : goal.returns-clause-made
returns-clause-made g c = rw (← c.self.view_is) (fetch_made c.args.instance c.in_ok-mail.mail refl refl c.in_ok-mail.ensures.mail (fetched g (goal.at.returns-clause-made g c).After-put_all))

pub returns-clause-bagged : goal.returns-clause-bagged
returns-clause-bagged g c =
    mail_bagged (scene_of c.self.inside) c.self.invariant.0 c.args.instance c.in_ok-mail.mail c.put_all.new.self.items c.in_ok-mail.mail.messages c.in_ok-mail.ensures.mail refl
    (puts_mail (scene_of c.self.inside) c.args.instance c.in_ok-mail.mail c.put_all.new.self.items c.reserve.new.self.items c.as_slice.result.now c.in_ok-mail.ensures.mail c.put_all.ensures c.reserve.ensures.items c.as_slice.ensures)
