use Rattle.std.proofs.Common.{◌∙◌, ap, eqb, sym}
use Rattle.std.specs.List.{position}
use Rattle.hx_text.proofs.Cuts.{cut_before, cut_behind}
use Rattle.hx_text.proofs.line_ends.cut_at.Goals as goal

pub range-requires-clause-end_boundary : goal.range-requires-clause-end_boundary
range-requires-clause-end_boundary c =
    let here = sym (c.in-Some.ensures ∙ ap (position (λ b. eqb b c.args.byte)) c.as_bytes.ensures.value) in
    cut_before c.args.byte c.args.text.now c.in-Some.end c.requires here

pub range_from-requires : goal.range_from-requires
range_from-requires c =
    let here = sym (c.in-Some.ensures ∙ ap (position (λ b. eqb b c.args.byte)) c.as_bytes.ensures.value) in
    λ _. cut_behind c.args.byte c.args.text.now c.in-Some.end c.utf8.text c.requires here
