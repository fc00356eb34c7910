use Rattle.std.proofs.Common.{◌<◌, ◌∙◌, ◌∷◌, [], ap, map, length, arith, rules}
use Rattle.std.proofs.lemmas.Grind.{common_steps}
use Rattle.std.proofs.lemmas.List.{map-append}
use Rattle.hx_text.proofs.Words.{found_word, found_last}
use Rattle.hx_text.proofs.line_ends.split_words.Goals as goal

pub loop-word-preserved-in_ok-push : goal.loop-word-preserved-in_ok-push
loop-word-preserved-in_ok-push c =
    let some : 0 < length c.in-Some.word.now = grind (arith, common_steps) in
    let more = ap (map (λ w. w.now)) c.in_ok-push.ensures.items ∙ map-append (λ w. w.now) c.loop-word.words.items (c.in-Some.word ∷ []) in (
      search rules,
      found_word c.args.line.now c.loop-word.rest.now c.in-Some.word.now c.in-Some.behind.now (map (λ w. w.now) c.loop-word.words.items) _
          c.loop-word.invariant.1 c.in-Some.ensures.2 c.in-Some.ensures.0 c.in-Some.ensures.1 some more,
    )

pub returns-in_ok-push-2-clause-ok : goal.returns-in_ok-push-2-clause-ok
returns-in_ok-push-2-clause-ok c =
    let some : 0 < length c.loop-word.rest.now = grind (arith, common_steps) in
    let more = ap (map (λ w. w.now)) c.in_ok-push-2.ensures.items ∙ map-append (λ w. w.now) c.loop-word.words.items (c.loop-word.rest ∷ []) in
    found_last c.args.line.now c.loop-word.rest.now (map (λ w. w.now) c.loop-word.words.items) _ c.loop-word.invariant.1 c.in_default.ensures some more

pub returns-in_err-push-clause-err : goal.returns-in_err-push-clause-err
returns-in_err-push-clause-err c = grind (arith, common_steps)

pub loop-word-smaller-in_ok-push : goal.loop-word-smaller-in_ok-push
loop-word-smaller-in_ok-push c = grind (arith, common_steps)

pub returns-in_err-push-2-clause-err : goal.returns-in_err-push-2-clause-err
returns-in_err-push-2-clause-err c = grind (arith, common_steps)

pub returns-else-not-is_empty-2-clause-ok : goal.returns-else-not-is_empty-2-clause-ok
returns-else-not-is_empty-2-clause-ok c = grind (arith, common_steps)
