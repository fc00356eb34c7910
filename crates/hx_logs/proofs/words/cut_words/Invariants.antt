use Rattle.std.proofs.Common.{◌≡◌, map}
use Rattle.hx_logs.proofs.words.cut_words.Given as goal

-- the parts that were seen
abbrev pub invariant-loop-word : goal.invariant-loop-word
invariant-loop-word l = map (λ w. w.now) l.words.items ≡ map (λ w. w.now) l.yielded
