use Rattle.std.proofs.Common.{◌≡◌, ◌+◌, length, take}
use Rattle.hx_model.proofs.Distances.{IsReached, IsShort, IsRound}
use Rattle.hx_model.proofs.walks.distances.Given as goal

-- the transitions so far are tried
abbrev pub invariant-loop-step : goal.invariant-loop-step
invariant-loop-step l = record {
  end : l.none ≡ length l.parts.states + 2;
  round : IsRound l.parts l.fn.goal l.initial.dists l.dists (take l.step-index l.parts.transitions);
}

-- each round brings the walks of one transition more
abbrev pub invariant-loop-round : goal.invariant-loop-round
invariant-loop-round l = record {
  end : l.none ≡ length l.parts.states + 2;
  reached : IsReached l.parts l.fn.goal l.dists;
  short : IsShort l.parts l.fn.goal l._round l.dists;
}
