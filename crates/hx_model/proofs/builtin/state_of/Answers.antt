use Rattle.std.proofs.Common.{ℕ, List, sym, ap, ◌∙◌, arith}
use Rattle.hx_model.specs.Builtin.{state_named}
use Rattle.hx_model.proofs.Named.{place_after-le, place_after-interned, bytes_same}
use Rattle.hx_model.proofs.builtin.state_of.Goals as goal

pub overflow_cast-result : goal.overflow_cast-result
overflow_cast-result c = omega (arith, c.in_ok-intern.ensures.place, place_after-le c.args.names.now c.args.name.now)

pub returns-clause-state : goal.returns-clause-state
returns-clause-state c =
    ap (λ (i : ℕ). record { 0 = i }) (c.in_ok-intern.ensures.place ∙ sym (place_after-interned c.args.names.now c.args.name.now (bytes_same c.args.name.now)))
    ∙ ap (λ (v : List (List ℕ)). state_named v c.args.name.now) (sym c.in_ok-intern.ensures.names)
