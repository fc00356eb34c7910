use Rattle.std.proofs.Common.{◌∙◌, ap, lit<, arith}
use Rattle.std.proofs.lemmas.Grind.{common_steps}
use Rattle.std.proofs.lemmas.Iterator.Consumers.{YieldsList-end}
use Rattle.std.proofs.lemmas.Iterator.Splits.{YieldsList-from_str_split}
use Rattle.std.specs.Str.Iter.{split_text, split_has_more, split_pattern}
use Rattle.hx_logs.proofs.words.cut_words.Goals as goal

pub returns : goal.returns
returns c =
    let source = c.into_iter-word-iterator.ensures.into_iter_gives in
    let parts = YieldsList-from_str_split 32 c.args.line.now (lit< tt)
    (ap split_text source ∙ c.split-word-items.ensures.text)
    (ap split_has_more source ∙ c.split-word-items.ensures.has_more)
    (ap split_pattern source ∙ c.split-word-items.ensures.pattern) in
    let all = YieldsList-end parts c.loop-word.yielded _ c.loop-word.yielded_by _ _ c.in-None.is c.next.ensures.steps in
    c.loop-word.invariant ∙ all.0

pub loop-word-preserved : goal.loop-word-preserved
loop-word-preserved c = grind (arith, common_steps)
