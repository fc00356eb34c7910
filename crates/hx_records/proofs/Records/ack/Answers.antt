use Rattle.hx_records.proofs.Reaching.{whole_reached}
use Rattle.hx_records.proofs.Records.ack.Goals as goal

pub remove_pending-requires-clause-kept : goal.remove_pending-requires-clause-kept
remove_pending-requires-clause-kept c = (whole_reached c.args.self.now c.requires.reached).kept
