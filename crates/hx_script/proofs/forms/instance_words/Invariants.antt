use Rattle.std.proofs.Common.{◌≡◌, map, drop}
use Rattle.hx_script.specs.Grammar.{all_words, instance_word}
use Rattle.hx_script.proofs.AllWords.{behind}
use Rattle.hx_script.proofs.forms.instance_words.Given as goal

-- what was read, and what is left
abbrev pub invariant-loop-word : goal.invariant-loop-word
invariant-loop-word l = all_words (instance_word l.spec) (map (λ w. w.now) l.words) ≡ behind l.list (all_words (instance_word l.spec) (map (λ w. w.now) (drop l.word-index l.words)))
