use Rattle.std.proofs.Common.{◌∙◌, sym, arith}
use Rattle.hx_check.proofs.Bare.{faulty_bare}
use Rattle.hx_check.proofs.answers.bare_ideal.Goals as goal

pub returns-in-Err : goal.returns-in-Err
returns-in-Err c =
    faulty_bare c.args.mode c.args.replicas c.args.parts c.in-Some.kind c.in_ok-mode.mode c.in-Err.field-0 (sym c.mode_numbered.ensures ∙ c.in-Some.is) c.in_ok-mode.ensures (omega arith) (omega arith) c.in-Err.ensures.err
