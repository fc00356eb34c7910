use Rattle.std.proofs.Common.{◌∙◌, ap, arith}
use Rattle.std.specs.List.{slice_get}
use Rattle.hx_text.proofs.Numbers.{number_of-parse}
use Rattle.hx_text.proofs.spellings.read_u64.Goals as goal

pub returns-in-Some-49-to-57 : goal.returns-in-Some-49-to-57
returns-in-Some-49-to-57 c =
    let first = c.in-Some-49-to-57.ensures.value ∙ ap (λ bs. slice_get bs 0) c.as_bytes.ensures.value in
    c.ok.ensures.value ∙ number_of-parse c.args.text.now c.parse.result c.in-Some-49-to-57.field-0.now first (omega arith) c.parse.ensures.value.0
