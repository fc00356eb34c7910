-- Eight parts on one instance, where a throttle allows one transition at a time.
use Rattle.std.specs.Prelude.{◌≡◌, refl, ℕ, [], ◌∷◌, true, false, None, map, replicate}
use Rattle.hx_ids.specs.Words.{instance, session}
use Rattle.hx_ideal.specs.declared.Mode.TheVariants as modes
use Rattle.hx_lists.specs.Lists.{numbers_from}
use Rattle.hx_cluster.specs.declared.description.Rule.{Rule}
use Rattle.hx_cluster.specs.declared.description.Scope.TheVariants as scopes
use Rattle.hx_cluster.specs.declared.planning.View.{View}
use Rattle.hx_cluster.specs.declared.planning.Entry.{Entry}
use Rattle.hx_cluster.specs.declared.planning.Finding.TheVariants as findings
use Rattle.hx_pass.specs.Plans.{plan}
use Rattle.hx_cluster.specs.Views.{is_well_formed}
use Rattle.hx_pass.proofs.Examples.{offline, online, models, placed, db, target, candidate}

abbrev view : View
view = record {
  live = (session 1, instance 0) ∷ [];
  mail = [];
  rows = [];
  ideals = record {
    resources = placed 1 1 8 (modes.Semi (replicate 8 (instance 0 ∷ []))) ∷ [];
    drained = false ∷ false ∷ false ∷ [];
    resets = [];
  };
}

abbrev rule : Rule
rule = record { scope = scopes.Instance; transition = None; limit = 1 }

well_formed : is_well_formed models 3 view ≡ true
well_formed = refl

abbrev held : ℕ → Entry
held k = record {
  target = target 1 0 k None online 0;
  finding = findings.Held (record { candidate = candidate 1 0 k offline online 0; rule = 0; load = 1; limit = 1 });
}

plan_is : plan models (rule ∷ []) view ≡ record {
  proposals = record { session = session 1; part = db 0; from = offline; to = online } ∷ [];
  report = record { entries = record { target = target 1 0 0 None online 0; finding = findings.Sent } ∷ map held (numbers_from 1 7) };
}
plan_is = refl
