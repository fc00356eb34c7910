-- A lawful history with one event more.
use Rattle.std.proofs.Common.{List, [], ◌∷◌, ◌++◌, append_assoc, append-nil, sym, subst}
use Rattle.hx_cluster.specs.declared.description.Spec.{Spec}
use Rattle.hx_cluster.specs.declared.state.Cluster.{Cluster}
use Rattle.hx_cluster.specs.declared.happenings.Event.{Event}
use Rattle.hx_cluster.specs.Events.{next, replay, IsStep, IsLegal}
use Rattle.hx_pass.specs.Lawful.{IsProper, IsProperAlong}

pub legal_more : (c : Cluster) (h : List Event) (e : Event) → IsLegal c h → IsStep (replay c h) e → IsLegal c (h ++ e ∷ [])
legal_more c [] e legal step = (step, tt)
legal_more c (x ∷ h) e legal step = (legal.0, legal_more (next c x) h e legal.1 step)

pub proper_more : (spec : Spec) (before h : List Event) (e : Event) → IsProperAlong spec before h → IsProper spec (before ++ h) e → IsProperAlong spec before (h ++ e ∷ [])
proper_more spec before [] e proper here = (subst (λ (es : List Event). IsProper spec es e) (append-nil before) here, tt)
proper_more spec before (x ∷ h) e proper here =
    (proper.0, proper_more spec (before ++ x ∷ []) h e proper.1 (subst (λ (es : List Event). IsProper spec es e) (sym (append_assoc before (x ∷ []) h)) here))
