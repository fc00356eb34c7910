use Rattle.std.proofs.Common.{◌≡◌, map, drop}
use Rattle.hx_script.specs.Grammar.{all_words, pair_word}
use Rattle.hx_script.proofs.AllWords.{behind}
use Rattle.hx_script.proofs.forms.pair_words.Given as goal

-- what was read, and what is left
abbrev pub invariant-loop-word : goal.invariant-loop-word
invariant-loop-word l = all_words (pair_word l.spec) (map (λ w. w.now) l.words) ≡ behind l.map (all_words (pair_word l.spec) (map (λ w. w.now) (drop l.word-index l.words)))
