use Rattle.std.proofs.Common.{sym, ◌∙◌, rules}
use Rattle.hx_cluster.proofs.Allowed.{may_map}
use Rattle.hx_cluster.proofs.state.Cluster.set_map.Goals as goal

pub set_map-requires : goal.set_map-requires
set_map-requires c =
    may_map c.args.self.now c.args.part c.args.map.now _ _ _ _ c.requires.may (sym c.in-Some.ensures.value) c.len-instances.ensures
    (cc (c.states_in-states.ensures, c.as_slice-models.ensures, c.as_slice.ensures))
    (c.into_vec-map.ensures ∙ c.in_ok-clone.ensures.same (λ x y e. search (rules, e)))
