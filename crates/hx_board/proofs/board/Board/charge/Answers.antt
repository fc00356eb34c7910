use Rattle.std.proofs.Common.{ℕ, ◌+◌, ◌≤◌, sym, ap, ◌∙◌, subst, arith}
use Rattle.hx_board.specs.Board.{Held, held, weight_at, charged}
use Rattle.hx_board.specs.declared.faults.HistoryFull.{HistoryFull}
use Rattle.hx_board.proofs.Free.{full_free, full_told}
use Rattle.hx_board.proofs.Growing.{charged_more}
use Rattle.hx_board.proofs.board.Board.charge.Goals as goal
use Rattle.hx_board.proofs.board.Board.charge.Goals.{In_default}

-- there is room for the charge
fits : (c : In_default) → weight_at (held c.self.inside) + c.args.n ≤ c.self.inside.limit
fits c =
    subst (λ (v : Held). weight_at v + c.args.n ≤ v.limit) (sym c.self.view_is)
    (full_free c.args.self.now c.args.n (λ weight. weight) (sym c.full.ensures ∙ c.in_default.is))

pub overflow_add-self : goal.overflow_add-self
overflow_add-self c = omega (arith, fits (goal.at.overflow_add-self c).In_default, c.self.invariant.weighs, c.self.invariant.limited)

pub overflow_add-self-2 : goal.overflow_add-self-2
overflow_add-self-2 c = omega (arith, fits (goal.at.overflow_add-self-2 c).In_default, c.self.invariant.weighs, c.self.invariant.limited)

pub invariant_of-self : goal.invariant_of-self
invariant_of-self c = charged_more c.self.inside c.args.n c.self.invariant (fits (goal.at.invariant_of-self c).In_default)

pub returns-in-Some-clause-refused : goal.returns-in-Some-clause-refused
returns-in-Some-clause-refused c =
    let fault : ℕ → HistoryFull = λ w. record { weight = w } in
    full_told c.args.self.now c.args.n fault c.in-Some.weight (sym c.full.ensures ∙ c.in-Some.is)

pub returns-clause-ok : goal.returns-clause-ok
returns-clause-ok c = ap (λ (v : Held). charged v c.args.n) c.self.view_is
