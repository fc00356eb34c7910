-- What holds at each place of a legal history, and of a lawful one.
use Rattle.std.proofs.Common.{List, [], ◌++◌}
use Rattle.hx_cluster.specs.declared.description.Spec.{Spec}
use Rattle.hx_cluster.specs.declared.happenings.Event.{Event}
use Rattle.hx_cluster.specs.Steps.{opening}
use Rattle.hx_cluster.specs.Events.{IsLegal}
use Rattle.hx_cluster.specs.Valid.{IsValid}
use Rattle.hx_pass.specs.Lawful.{IsLawful}
use Rattle.hx_safe.proofs.Whole.{reached_safe}
use Rattle.hx_safe.proofs.OneRun.{one_run_each}
use Rattle.hx_lawful.proofs.Covered.{covers_at, legal_front, proper_front}
use Rattle.hx_lawful.specs.Holding.{HoldsOfLegal, HoldsOfLawful}
use Rattle.hx_lawful.proofs.Unrefused.{lawful_unrefused}

pub holds_of_legal : (spec : Spec) (h more : List Event) → IsValid spec → IsLegal (opening spec) (h ++ more) → HoldsOfLegal spec h
holds_of_legal spec h more valid legal =
    let front = legal_front (opening spec) h more legal in
    record { safe = reached_safe spec valid h front; runs = one_run_each spec valid h front }

pub holds_of_lawful : (spec : Spec) (h more : List Event) → IsValid spec → IsLawful spec (h ++ more) → HoldsOfLawful spec h
holds_of_lawful spec h more valid lawful = record {
  legal = holds_of_legal spec h more valid lawful.0;
  covered = λ k. covers_at spec h more k valid lawful;
  unrefused = lawful_unrefused spec h valid (legal_front (opening spec) h more lawful.0, proper_front spec [] h more lawful.1);
}
