use Rattle.std.proofs.Common.{None, ◌∙◌, sym, arith}
use Rattle.std.proofs.lemmas.Grind.{common_steps}
use Rattle.std.proofs.lemmas.Str.Pattern.{strip_prefix_char}
use Rattle.hx_script.proofs.Letters.{numbered_by-other}
use Rattle.hx_script.proofs.words.numbered_by.Goals as goal

pub returns-in_err-strip_prefix : goal.returns-in_err-strip_prefix
returns-in_err-strip_prefix c =
    c.from_residual.ensures ∙ sym (numbered_by-other c.args.letter c.args.word.now (strip_prefix_char c.args.letter c.args.word.now None c.in_err-strip_prefix.ensures.cases c.requires))

pub returns : goal.returns
returns c = grind (arith, common_steps)
