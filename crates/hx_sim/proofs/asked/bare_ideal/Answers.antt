use Rattle.hx_script.specs.Modes.{mode_numbered}
use Rattle.hx_sim.proofs.Bare.{no_fault}
use Rattle.hx_sim.proofs.asked.bare_ideal.Goals as goal

pub unreachable-requires : goal.unreachable-requires
unreachable-requires c =
    let r = c.requires.replicas in
    let p = c.requires.parts in
    no_fault (mode_numbered c.args.mode) c.args.replicas c.args.parts c.in_ok-mode.mode c.in-Err.field-0 r.0 r.1 p.0 p.1 c.in_ok-mode.ensures c.in-Err.ensures.err
