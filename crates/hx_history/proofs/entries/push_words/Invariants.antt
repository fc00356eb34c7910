use Rattle.std.proofs.Common.{◌≡◌, ◌+◌, ◌++◌, take}
use Rattle.hx_history.proofs.entries.push_words.Given as goal

abbrev pub invariant-loop-word : goal.invariant-loop-word
invariant-loop-word l = record {
  items : l.words.items ≡ l.fn.words.items ++ take l.word-index l.added;
  spare : l.words.spare + l.word-index ≡ l.fn.words.spare;
}
