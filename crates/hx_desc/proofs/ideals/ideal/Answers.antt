use Rattle.hx_desc.proofs.ValidIdeals.{no_fault}
use Rattle.hx_desc.proofs.ideals.ideal.Goals as goal

pub faultless-requires : goal.faultless-requires
faultless-requires c =
    rw c.mode_of.ensures
    (no_fault c.args.over.instances.now c.args.over.names.now c.args.over.model.now _ _ _ _ _ _ c.in_ok-replicas.ensures.known c.in_ok-parts.ensures.known c.in_ok-lists.ensures c.in_ok-maps.ensures)
