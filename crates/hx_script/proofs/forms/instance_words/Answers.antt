use Rattle.std.proofs.Common.{ℕ, List, Bor, sym, arith}
use Rattle.std.proofs.lemmas.Grind.{common_steps}
use Rattle.hx_script.specs.Grammar.{instance_word}
use Rattle.hx_script.proofs.AllWords.{all_words-put, all_words-fault}
use Rattle.hx_script.proofs.forms.instance_words.Goals as goal

pub returns-in-Err : goal.returns-in-Err
returns-in-Err c = sym (all_words-fault (λ (w : Bor (List ℕ)). w.now) (instance_word c.args.spec.now) _ _ _ _ _ c.loop-word-test.true (sym c.in-Err.ensures) c.loop-word.invariant)

pub returns : goal.returns
returns c = grind (arith, common_steps)

pub loop-word-preserved : goal.loop-word-preserved
loop-word-preserved c = all_words-put (λ (w : Bor (List ℕ)). w.now) (instance_word c.args.spec.now) _ _ _ _ _ _ c.loop-word-test.true (sym c.in-Ok.ensures) c.in_ok-push-in-Ok.ensures.ok c.loop-word.invariant
