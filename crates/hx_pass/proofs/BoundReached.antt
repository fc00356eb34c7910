-- A map that wants two replicas in a state that one may have.
use Rattle.std.specs.Prelude.{◌≡◌, refl, [], ◌∷◌, true, false, Some}
use Rattle.hx_ids.specs.Words.{instance, session}
use Rattle.hx_ideal.specs.declared.Mode.TheVariants as modes
use Rattle.hx_cluster.specs.declared.planning.View.{View}
use Rattle.hx_cluster.specs.declared.planning.Finding.TheVariants as findings
use Rattle.hx_pass.specs.Plans.{plan}
use Rattle.hx_cluster.specs.Views.{is_well_formed}
use Rattle.hx_pass.proofs.Examples.{master, slave, models, placed, row_in, target, candidate}

abbrev view : View
view = record {
  live = (session 1, instance 0) ∷ (session 2, instance 1) ∷ [];
  mail = [];
  rows = row_in 1 0 master ∷ row_in 2 0 slave ∷ [];
  ideals = record {
    resources = placed 0 2 1 (modes.Custom (((instance 0, master) ∷ (instance 1, master) ∷ []) ∷ [])) ∷ [];
    drained = false ∷ false ∷ false ∷ [];
    resets = [];
  };
}

well_formed : is_well_formed models 3 view ≡ true
well_formed = refl

plan_is : plan models [] view ≡ record {
  proposals = [];
  report = record {
    entries =
        record { target = target 1 0 0 (Some master) master 0; finding = findings.AtBest }
        ∷ record {
          target = target 2 1 0 (Some slave) master 0;
          finding = findings.Full (record { candidate = candidate 2 1 0 slave master 0; count = 1; bound = 1; holders = session 1 ∷ [] });
        }
        ∷ [];
  };
}
plan_is = refl
