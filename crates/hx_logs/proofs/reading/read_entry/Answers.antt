use Rattle.std.proofs.Common.{◌≡◌, ℕ, ◌+◌, List, Bor, map, drop, Result, Ok, Err, refl, sym, ap, ◌∙◌}
use Rattle.std.specs.Result.{result_ok}
use Rattle.hx_script.specs.declared.faults.ScriptKind.{ScriptKind}
use Rattle.hx_script.specs.declared.log.LogEntry.{LogEntry}
use Rattle.hx_script.specs.Logs.{exact_words, told_words, entry_of, with_added}
use Rattle.hx_logs.specs.Walk.{indented_before, line_at}
use Rattle.hx_logs.proofs.Walking.{line_there}
use Rattle.hx_logs.proofs.reading.read_entry.Goals as goal

told_is : (r : Result LogEntry ScriptKind) → result_ok r ≡ entry_of r
told_is (Ok entry) = refl
told_is (Err kind) = refl

pub returns-clause-ok : goal.returns-clause-ok
returns-clause-ok c =
    let line = line_at c.args.lines.now c.args.place in
    let there : exact_words c.get.result.now ≡ exact_words line = ap exact_words (sym (line_there c.args.lines.now c.args.place c.get.result.now c.get.ensures)) in
    let words : map (λ (w : Bor (List ℕ)). w.now) c.as_slice-words.result.now ≡ exact_words line =
    ap (map (λ (w : Bor (List ℕ)). w.now)) c.as_slice-words.ensures.value ∙ c.in_ok-cut_words.ensures ∙ there in
    let indented : map (λ (w : Bor (List ℕ)). w.now) c.as_slice.result.now ≡ indented_before (drop (c.args.place + 1) c.args.lines.now) =
    ap (map (λ (w : Bor (List ℕ)). w.now)) c.as_slice.ensures.value ∙ c.in_ok-gather_indented.ensures in (
      c.ok-entry.ensures.value ∙ told_is _ ∙ ap entry_of (c.in_ok-told_words.ensures
          ∙ ap (λ ws. told_words c.args.spec.now ws (map (λ (w : Bor (List ℕ)). w.now) c.as_slice.result.now)) words
          ∙ ap (told_words c.args.spec.now (exact_words line)) indented),
      c.in_ok-add_name.ensures.ok ∙ ap (λ ws. with_added c.args.spec.now ws c.ok-entry.result) words,
    )
