use Rattle.hx_records.proofs.Reaching.{whole_reached}
use Rattle.hx_records.proofs.Asides.{aside_is}
use Rattle.hx_records.proofs.Records.make.Goals as goal

pub join-requires-clause-whole : goal.join-requires-clause-whole
join-requires-clause-whole c = whole_reached c.args.self.now c.requires.reached

pub end-requires-clause-whole : goal.end-requires-clause-whole
end-requires-clause-whole c = whole_reached c.args.self.now c.requires.reached

pub beat-requires : goal.beat-requires
beat-requires c = whole_reached c.args.self.now c.requires.reached

pub tick-requires-clause-whole : goal.tick-requires-clause-whole
tick-requires-clause-whole c = whole_reached c.args.self.now c.requires.reached

pub make_aside-requires : goal.make_aside-requires
make_aside-requires c =
    let is = c.in_default in
    record {
      aside = aside_is c.args.step.now is.not-Join is.not-End is.not-Beat is.not-Tick is.not-Reset;
      may = (c.requires.may, c.requires.did, c.requires.range);
      whole = whole_reached c.args.self.now c.requires.reached;
      room = c.requires.room;
    }
