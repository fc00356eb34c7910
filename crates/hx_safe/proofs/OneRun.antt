-- The law of runs.
use Rattle.std.proofs.Common.{List, [], refl}
use Rattle.hx_cluster.specs.declared.description.Spec.{Spec}
use Rattle.hx_cluster.specs.declared.happenings.Event.{Event}
use Rattle.hx_cluster.specs.Steps.{opening}
use Rattle.hx_cluster.specs.Events.{IsLegal}
use Rattle.hx_cluster.specs.Valid.{IsValid}
use Rattle.hx_cluster.specs.Runs.{IsOneRunEach}
use Rattle.hx_safe.proofs.Whole.{whole_opening, sound_from}
use Rattle.hx_safe.proofs.Past.{taken_once, runs_rise}
use Rattle.hx_safe.proofs.Sent.{each_sent}
use Rattle.hx_safe.proofs.Waiting.{each_stands, each_run}

pub one_run_each : (spec : Spec) → IsValid spec → (h : List Event) → IsLegal (opening spec) h → IsOneRunEach (opening spec) h
one_run_each spec valid h legal =
    let whole = whole_opening spec (sound_from spec valid) in
    record {
      once = λ id. taken_once (opening spec) h id whole legal;
      sent = each_sent (opening spec) h [] refl legal;
      stands = each_stands (opening spec) h whole legal;
      each = each_run (opening spec) h whole legal;
      in_order = runs_rise (opening spec) h whole legal;
    }
