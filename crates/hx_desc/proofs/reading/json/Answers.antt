use Rattle.std.proofs.Common.{refl, sym, ◌∙◌}
use Rattle.std.proofs.lemmas.Bool.{true≢false}
use Rattle.serde_json.specs.View.{view}
use Rattle.serde_json.specs.Errors.{IsMemory}
use Rattle.hx_desc.proofs.Whole.{json_there, json_absent}
use Rattle.hx_desc.proofs.reading.json.Goals as goal

pub returns-in-Ok : goal.returns-in-Ok
returns-in-Ok c = rw (json_there c.args.bytes.now (view c.in-Ok.value) c.in-Ok.ensures.ok.0 c.in-Ok.ensures.ok.1) refl

pub returns-else-is_memory : goal.returns-else-is_memory
returns-else-is_memory c =
    let other : IsMemory c.in-Err.error → ⊥ = λ m. true≢false (sym (c.is_memory.ensures.1 m) ∙ c.if-is_memory.false) in
    let absent = json_absent c.args.bytes.now (c.in-Err.ensures.err other) in
    rw (c.fault.ensures, absent) refl
