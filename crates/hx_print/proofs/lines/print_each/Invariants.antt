use Rattle.std.proofs.Common.{drop}
use Rattle.hx_print.specs.Texts.{spaced}
use Rattle.hx_print.specs.Tokens.{words_of}
use Rattle.hx_text.proofs.Printing.{IsMidway}
use Rattle.hx_print.proofs.lines.print_each.Given as goal

-- what is printed and what is left are the whole
abbrev pub invariant-loop-word : goal.invariant-loop-word
invariant-loop-word l = IsMidway (spaced (words_of l.words)) l.fn.page l.page (spaced (words_of (drop l.word-index l.words)))
