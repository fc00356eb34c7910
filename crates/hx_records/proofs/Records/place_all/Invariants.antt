use Rattle.std.proofs.Common.{◌≡◌, ◌≤◌, length}
use Rattle.std.specs.Prelude.{vec_capacity}
use Rattle.hx_calls.proofs.Placing.{IsGrown}
use Rattle.hx_records.specs.Records.{IsPlacedFrom}
use Rattle.hx_records.proofs.Records.place_all.Given as goal

-- the first proposals are placed
abbrev pub invariant-loop-proposal : goal.invariant-loop-proposal
invariant-loop-proposal l = record {
  placed : IsPlacedFrom l.fn.self l.proposals l.placed.items l.self;
  count : length l.placed.items ≡ l.proposal-index;
  space : length l.proposals ≤ vec_capacity l.placed;
  grown : IsGrown l.proposal-index l.fn.self l.self;
}
