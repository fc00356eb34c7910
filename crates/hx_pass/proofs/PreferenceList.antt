-- Three instances of which the second is drained, with nothing on them yet.
use Rattle.std.specs.Prelude.{◌≡◌, refl, [], ◌∷◌, true, false, None}
use Rattle.hx_ids.specs.Words.{instance, session}
use Rattle.hx_ideal.specs.declared.Mode.TheVariants as modes
use Rattle.hx_cluster.specs.declared.planning.View.{View}
use Rattle.hx_best.specs.Targets.{all_targets}
use Rattle.hx_pass.specs.Plans.{all_candidates}
use Rattle.hx_cluster.specs.Views.{is_well_formed}
use Rattle.hx_pass.proofs.Examples.{master, slave, offline, models, placed, target, candidate}

abbrev view : View
view = record {
  live = (session 3, instance 2) ∷ (session 1, instance 0) ∷ (session 2, instance 1) ∷ [];
  mail = [];
  rows = [];
  ideals = record {
    resources = placed 0 3 1 (modes.Semi ((instance 0 ∷ instance 1 ∷ instance 2 ∷ []) ∷ [])) ∷ [];
    drained = false ∷ true ∷ false ∷ [];
    resets = [];
  };
}

well_formed : is_well_formed models 3 view ≡ true
well_formed = refl

-- the drained one goes to the initial state, and the next in the list takes the state after the first one's
targets_are : all_targets models view ≡ target 1 0 0 None master 0 ∷ target 2 1 0 None offline 1 ∷ target 3 2 0 None slave 2 ∷ []
targets_are = refl

-- an absent replica that goes to the initial state is there
candidates_are : all_candidates models view ≡ candidate 1 0 0 offline slave 0 ∷ candidate 3 2 0 offline slave 2 ∷ []
candidates_are = refl
