use Rattle.std.proofs.Common.{rules}
use Rattle.hx_replicas.proofs.Outs.{quiet-from_idle}
use Rattle.hx_world_tests.proofs.tests.replicas.adopted.Goals as goal

pub adopt-requires : goal.adopt-requires
adopt-requires g c = (search rules, (search rules, quiet-from_idle c.args.p.plain c.requires))
