use Rattle.std.proofs.Common.{◌≡◌, sym, ◌∙◌, subst, arith}
use Rattle.std.specs.Prelude.{take, length}
use Rattle.hx_cluster.specs.Steps.{opening}
use Rattle.hx_cluster.specs.Safe.{SafeAlong}
use Rattle.hx_cluster.specs.Runs.{IsOneRunEach}
use Rattle.hx_safe.proofs.Whole.{valid_safe}
use Rattle.hx_safe.proofs.OneRun.{one_run_each}
use Rattle.hx_board.specs.Board.{Held, held, lines_in, IsBoard, HasHistory}
use Rattle.hx_board.specs.declared.board.Board.TheInside.{Inside}
use Rattle.hx_board.proofs.board.Board.history.Goals as goal

told : (a : Inside) → IsBoard a → HasHistory (held a)
told a b = record {
  valid = b.valid;
  legal = b.legal;
  replays = b.replays;
  lines = b.front ∙ (λ i. take (taken i) a.lines.items);
  weight = omega (arith, b.weighs, b.within);
}
  where
    taken : a.taken ≡ length (lines_in a.history.entries.items)
    taken = sym b.taken

pub returns-clause-history : goal.returns-clause-history
returns-clause-history c = subst (λ (v : Held). HasHistory v) c.self.view_is (told c.self.inside c.self.invariant)

pub returns-clause-safe : goal.returns-clause-safe
returns-clause-safe c =
    let P : Held → Type 0 = λ v. SafeAlong (opening v.spec) v.history in
    subst P c.self.view_is (valid_safe c.self.inside.spec c.self.invariant.valid c.self.inside.history.entries.items c.self.invariant.legal)

pub returns-clause-runs : goal.returns-clause-runs
returns-clause-runs c =
    let P : Held → Type 0 = λ v. IsOneRunEach (opening v.spec) v.history in
    subst P c.self.view_is (one_run_each c.self.inside.spec c.self.invariant.valid c.self.inside.history.entries.items c.self.invariant.legal)
