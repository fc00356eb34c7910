-- The input that is made is cut at the line behind its description.
use Rattle.std.proofs.Common.{◌≡◌, ℕ, ◌^◌, ◌<◌, [], ◌∷◌, ◌++◌, Some, codes, sym, ap, ◌∙◌, append_assoc}
use Rattle.hx_text.specs.Lines.{cut_of}
use Rattle.hx_genwork.specs.Made.{description, script, made}
use Rattle.hx_app.proofs.Bytes.{cut-line}
use Rattle.hx_app.proofs.Texts.{line, description-line, line-printed, line-other, line-some}

pub cut_of-made : (seed size : ℕ) → size < 2 ^ 64 → cut_of (made seed size) ≡ Some (description seed size, script)
cut_of-made seed size small =
    let text = line seed size in
    ap cut_of (ap (λ t. t ++ codes "---\n" ++ script) (description-line seed size) ∙ append_assoc (text ++ 10 ∷ []) (codes "---\n") script ∙ append_assoc text (10 ∷ []) (codes "---\n" ++ script))
    ∙ cut-line text script (line-some seed size) (line-printed seed size small) (line-other seed size)
    ∙ ap (λ t. Some (t, script)) (sym (description-line seed size))
