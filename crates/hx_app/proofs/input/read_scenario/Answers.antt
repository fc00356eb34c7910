use Rattle.std.proofs.Common.{List, sym, subst}
use Rattle.hx_script.specs.declared.Line.{Line}
use Rattle.hx_app.specs.Simulation.{IsGiven}
use Rattle.hx_text.specs.Lines.{lines_of}
use Rattle.hx_app.specs.Input.{scenario_of}
use Rattle.hx_app.specs.Refusals.{by_script}
use Rattle.hx_app.proofs.Parts.{script_fits, lines_fit}
use Rattle.hx_app.proofs.Described.{readable}
use Rattle.hx_app.proofs.Given.{given_in}
use Rattle.hx_app.proofs.Inputs.{script_refused, handed_on}
use Rattle.hx_app.proofs.input.read_scenario.Goals as goal

pub read_script-requires-clause-short : goal.read_script-requires-clause-short
read_script-requires-clause-short c = script_fits c.args.bytes.now c.in-Some.input.description.now c.in-Some.input.script.now c.in-Some.ensures c.requires

pub returns-in_err-lines-clause-err : goal.returns-in_err-lines-clause-err
returns-in_err-lines-clause-err c =
    handed_on c.from_residual-in_err-lines.result (by_script c.in_err-lines.field-0.0) (scenario_of c.args.bytes.now) c.from_residual-in_err-lines.ensures.1
    (script_refused c.args.bytes.now c.in-Some.input.description.now c.in-Some.input.script.now c.in_ok-spec.spec c.in_err-lines.field-0.0 c.in_ok-spec.ensures.read c.in-Some.ensures c.in_err-lines.ensures.err)

pub read_script-requires-clause-readable : goal.read_script-requires-clause-readable
read_script-requires-clause-readable c =
    readable c.args.bytes.now c.in_ok-spec.spec (lines_of c.in-Some.input.script.now) c.in_ok-spec.ensures.read
    (lines_fit c.args.bytes.now c.in-Some.input.description.now c.in-Some.input.script.now c.in-Some.ensures c.requires)

pub returns-clause-given : goal.returns-clause-given
returns-clause-given c =
    subst (λ (lines : List Line). IsGiven (record { spec = c.read_script.new.spec; lines = lines })) (sym c.from_vec.ensures)
    (given_in c.in-Some.input.script.now c.in_ok-spec.spec c.read_script.new.spec c.in_ok-lines.lines.items c.in_ok-spec.ensures.valid c.in_ok-lines.ensures.ok)
