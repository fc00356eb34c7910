use Rattle.std.proofs.Common.{List, ℕ, nat_lt, ap, subst, ◌∙◌, ◌≡◌}
use Rattle.std.specs.Prelude.{IfOk}
use Rattle.hx_safe.specs.Ordered.{rises}
use Rattle.hx_board.specs.Board.{new_board}
use Rattle.hx_worlds.specs.Scripts.{most_weight}
use Rattle.hx_app.proofs.Numbers.{lines_rise}
use Rattle.hx_app.proofs.simulation.board_of.Goals as goal

pub new-requires-clause-lines : goal.new-requires-clause-lines
new-requires-clause-lines c = ap (rises nat_lt) c.in_ok-numbers.ensures ∙ lines_rise c.args.spec.now c.args.lines.now c.requires.lines

pub returns : goal.returns
returns c = subst (λ (ns : List ℕ). IfOk c.new.result (λ b. b ≡ new_board c.args.spec.now ns most_weight)) c.in_ok-numbers.ensures c.new.ensures
