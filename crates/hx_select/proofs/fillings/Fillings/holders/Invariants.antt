use Rattle.std.proofs.Common.{◌≡◌, true, List, take}
use Rattle.std.specs.Prelude.{filter, is_some, map}
use Rattle.hx_model.specs.declared.ModelParts.{ModelParts}
use Rattle.hx_cluster.specs.declared.planning.Candidate.{Candidate}
use Rattle.hx_select.specs.Fillings.{AreFillings, limit_in}
use Rattle.hx_select.specs.Selection.{holds}
use Rattle.hx_select.proofs.fillings.Fillings.holders.Given as goal

-- those among the sessions so far
abbrev pub invariant-loop-entry : goal.invariant-loop-entry
invariant-loop-entry l = (models : List ModelParts) (accepted : List Candidate)
    → AreFillings models l.index accepted l.self.counts l.self.taken
    → is_some (limit_in models l.index l.candidate.part l.candidate.to) ≡ true
    → l.holders ≡ filter (holds l.index accepted l.candidate) (map (λ e. e.0) (take l.entry-index l.index.live))
