-- The input that is made is read without fault, and isn't too long.
use Rattle.std.proofs.Common.{◌≡◌, ℕ, ◌≤◌, [], length, Ok, IsOk, option_and_then, unwrap_or, ap, sym, subst, refl, ◌∙◌, arith}
use Rattle.hx_text.specs.Lines.{cut_of, lines_of}
use Rattle.hx_script.specs.Grammar.{then_ok, script_of}
use Rattle.hx_genwork.specs.Made.{script, made}
use Rattle.hx_app.specs.Asked.{all_asked}
use Rattle.hx_app.specs.Described.{made_spec}
use Rattle.hx_app.proofs.Cuts.{cut_of-made}
use Rattle.hx_app.proofs.Descriptions.{input_spec-made}
use Rattle.hx_app.proofs.Scripts.{lines_fault-script, script_of-script}
use Rattle.hx_app.proofs.Lengths.{length-made}
use Rattle.hx_app.specs.Constants.{most_line, most_bytes}
use Rattle.hx_app.specs.declared.input.InputFault.TheVariants as faults
use Rattle.hx_app.specs.Input.{fault_by_text, unless_fault, map_err, scenario_in, scenario_of}

pub scenario_of-made : (seed size : ℕ) → 1 ≤ size → size ≤ 256 → scenario_of (made seed size) ≡ Ok (record { spec = made_spec seed size; lines = all_asked })
scenario_of-made seed size some most =
    ap (λ found. then_ok (map_err faults.Description found) (scenario_in (unwrap_or (cut_of (made seed size)) ([], [])))) (input_spec-made seed size some most)
    ∙ ap (λ cut. scenario_in (unwrap_or cut ([], [])) (made_spec seed size)) (cut_of-made seed size (omega arith))
    ∙ ap (λ fault. then_ok (map_err faults.Script (unless_fault (option_and_then fault_by_text fault) (script_of (lines_of script) (made_spec seed size)))) (λ read. Ok (record { spec = read.1; lines = read.0 }))) (lines_fault-script most_line (omega arith))
    ∙ ap (λ read. then_ok (map_err faults.Script read) (λ r. Ok (record { spec = r.1; lines = r.0 }))) (script_of-script seed size)

pub IsOk-made : (seed size : ℕ) → 1 ≤ size → size ≤ 256 → IsOk (scenario_of (made seed size))
IsOk-made seed size some most = subst IsOk (sym (scenario_of-made seed size some most)) refl

pub made_fits : (seed size : ℕ) → size ≤ 256 → length (made seed size) ≤ most_bytes
made_fits seed size most = omega (arith, length-made seed size most)
