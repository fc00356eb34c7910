use Rattle.std.proofs.Common.{◌∙◌, sym, ap, true, false}
use Rattle.hx_cluster.specs.declared.planning.Full.{Full}
use Rattle.hx_cluster.specs.declared.planning.Selection.{Selection}
use Rattle.hx_cluster.specs.declared.planning.Throttled.{Throttled}
use Rattle.hx_cluster.specs.declared.planning.Finding.TheVariants as findings
use Rattle.hx_report.specs.Findings.{fate_of}
use Rattle.hx_report.proofs.Became.{found_in, is_found, fate_sent, fate_held, fate_full, fate_best}
use Rattle.hx_report.proofs.fates.Fates.of.Goals as goal

pub returns-then-is_some : goal.returns-then-is_some
returns-then-is_some c =
    let t = c.args.target.now in
    let inside = c.self.inside in
    fate_sent inside.selection.now inside.throttled.now t (is_found (λ x. x) t inside.sent inside.throttled.now.sent c.as_slice.result.now c.first_of.result true c.as_slice.ensures c.self.invariant.sent c.first_of.ensures (sym c.is_some.ensures ∙ c.if-is_some.true))
    ∙ ap (λ (v : Selection × Throttled). fate_of v.0 v.1 t) c.self.view_is

pub returns-in-Some : goal.returns-in-Some
returns-in-Some c =
    let t = c.args.target.now in
    let inside = c.self.inside in
    fate_held inside.selection.now inside.throttled.now t c.in-Some.held.now
    (is_found (λ x. x) t inside.sent inside.throttled.now.sent c.as_slice.result.now c.first_of.result false c.as_slice.ensures c.self.invariant.sent c.first_of.ensures (sym c.is_some.ensures ∙ c.if-is_some.false))
    (found_in (λ h. h.candidate) t inside.held inside.throttled.now.held c.as_slice-2.result.now c.first_of-2.result _ c.as_slice-2.ensures c.self.invariant.held c.first_of-2.ensures c.in-Some.is)
    ∙ ap (λ (v : Selection × Throttled). fate_of v.0 v.1 t) c.self.view_is

pub returns-in_ok-copied-in-Some-first_of : goal.returns-in_ok-copied-in-Some-first_of
returns-in_ok-copied-in-Some-first_of c =
    let t = c.args.target.now in
    let inside = c.self.inside in
    ap (λ (f : Full). findings.Full f) c.in_ok-copied-in-Some-first_of.ensures
    ∙ fate_full inside.selection.now inside.throttled.now t c.in-Some-first_of.full.now
    (is_found (λ x. x) t inside.sent inside.throttled.now.sent c.as_slice.result.now c.first_of.result false c.as_slice.ensures c.self.invariant.sent c.first_of.ensures (sym c.is_some.ensures ∙ c.if-is_some.false))
    (found_in (λ h. h.candidate) t inside.held inside.throttled.now.held c.as_slice-2.result.now c.first_of-2.result _ c.as_slice-2.ensures c.self.invariant.held c.first_of-2.ensures c.in_default.is)
    (found_in (λ f. f.candidate) t inside.full inside.selection.now.full c.as_slice-full.result.now c.first_of-3.result _ c.as_slice-full.ensures c.self.invariant.full c.first_of-3.ensures c.in-Some-first_of.is)
    ∙ ap (λ (v : Selection × Throttled). fate_of v.0 v.1 t) c.self.view_is

pub returns-in-None : goal.returns-in-None
returns-in-None c =
    let t = c.args.target.now in
    let inside = c.self.inside in
    fate_best inside.selection.now inside.throttled.now t
    (is_found (λ x. x) t inside.sent inside.throttled.now.sent c.as_slice.result.now c.first_of.result false c.as_slice.ensures c.self.invariant.sent c.first_of.ensures (sym c.is_some.ensures ∙ c.if-is_some.false))
    (found_in (λ h. h.candidate) t inside.held inside.throttled.now.held c.as_slice-2.result.now c.first_of-2.result _ c.as_slice-2.ensures c.self.invariant.held c.first_of-2.ensures c.in_default.is)
    (found_in (λ f. f.candidate) t inside.full inside.selection.now.full c.as_slice-full.result.now c.first_of-3.result _ c.as_slice-full.ensures c.self.invariant.full c.first_of-3.ensures c.in-None.is)
    ∙ ap (λ (v : Selection × Throttled). fate_of v.0 v.1 t) c.self.view_is
