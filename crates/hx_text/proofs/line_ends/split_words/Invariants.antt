use Rattle.std.proofs.Common.{map, length}
use denote.Shadow.{shadow}
use denote.Text.{Utf8}
use Rattle.hx_text.proofs.Words.{AreFound}
use Rattle.hx_text.proofs.line_ends.split_words.Given as goal

abbrev pub invariant-loop-word : goal.invariant-loop-word
invariant-loop-word l = shadow (Utf8 l.rest) × AreFound l.line l.rest (map (λ w. w.now) l.words.items)

abbrev pub decreases-loop-word : goal.decreases-loop-word
decreases-loop-word l = length l.rest
