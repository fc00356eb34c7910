-- A short history, whose log tells each of its events.
use Rattle.std.proofs.Common.{◌≡◌, true, List, [], ◌∷◌, None, codes, refl}
use Rattle.std.specs.Fmt.{digits}
use Rattle.hx_ids.specs.Words.{instance, session, epoch, pass, controller}
use Rattle.hx_cluster.specs.declared.description.Spec.{Spec}
use Rattle.hx_cluster.specs.declared.happenings.Admin.TheVariants as steps
use Rattle.hx_cluster.specs.declared.happenings.Did.TheVariants as dids
use Rattle.hx_cluster.specs.declared.happenings.Event.{Event}
use Rattle.hx_cluster.specs.declared.happenings.Event.TheVariants as events
use Rattle.hx_cluster.specs.Steps.{opening}
use Rattle.hx_print.specs.Texts.{log_text}
use Rattle.hx_script.proofs.Examples.{demo}
use Rattle.hx_logs.specs.Kept.{kept_text}
use Rattle.hx_logs.specs.Printed.{are_told}

abbrev small : Spec
small = record demo { instances = codes "n1" ∷ []; controllers = 1 }

abbrev short_history : List Event
short_history =
    events.Line 1 ∷ events.Admin (steps.Lead (controller 0)) (dids.Leads (epoch 1)) ∷ events.Line 2 ∷ events.Admin (steps.Join (instance 0)) (dids.Joined (session 1))
    ∷ events.Live (controller 0) (pass 0) ∷ events.Admin (steps.Tick 31) (dids.Ended (session 1 ∷ [])) ∷ events.Fetch (instance 0) None 0 ∷ []

all_told : are_told small (opening small) short_history ≡ true
all_told = refl

its_log : log_text small (opening small) short_history ≡ codes "line 1\nlead c1 e1\nline 2\njoin n1 s1\nlive c1 p0\ntick 31\n  end n1 s1\nfetch n1 - 0\n"
unfolding digits
its_log = refl

its_lines : kept_text (codes "line 1" ∷ codes "! join n1" ∷ [] ∷ codes "tick 31" ∷ codes "  end n1 s1" ∷ []) ≡ codes "line 1\ntick 31\n  end n1 s1\n"
its_lines = refl
