use Rattle.std.proofs.Common.{None, Some, sym, ap, ◌∙◌}
use Rattle.std.proofs.lemmas.Result.{MatchResult-at_ok}
use Rattle.hx_lists.specs.Counts.{count_up}
use Rattle.hx_handler.proofs.Trying.{found-tried, put-tried}
use Rattle.hx_handler.proofs.scripted.count_making.Goals as goal

pub returns-in_default-clause-before : goal.returns-in_default-clause-before
returns-in_default-clause-before c =
    found-tried c.args.tried.now.entries c.args.part None (sym (c.copied.ensures ∙ c.get.ensures.value) ∙ c.in_default.is)

pub returns-in_default-clause-after : goal.returns-in_default-clause-after
returns-in_default-clause-after c =
    let es = c.args.tried.now.entries in
    let p = c.args.part in
    let entries = MatchResult-at_ok _ _ c.unwrap.result c.unwrap.ensures c.insert.ensures.entries in
    let none = found-tried es p None (sym (c.copied.ensures ∙ c.get.ensures.value) ∙ c.in_default.is) in
    entries ∙ put-tried es p 1 (ap count_up none)

pub returns-clause-before : goal.returns-clause-before
returns-clause-before c =
    found-tried c.args.tried.now.entries c.args.part (Some c.in-Some.before) (sym (c.copied.ensures ∙ c.get.ensures.value) ∙ c.in-Some.is)

pub returns-clause-after : goal.returns-clause-after
returns-clause-after c =
    let es = c.args.tried.now.entries in
    let p = c.args.part in
    let entries = MatchResult-at_ok _ _ c.unwrap-2.result c.unwrap-2.ensures c.insert-2.ensures.entries in
    let some = found-tried es p (Some c.in-Some.before) (sym (c.copied.ensures ∙ c.get.ensures.value) ∙ c.in-Some.is) in
    entries ∙ put-tried es p c.raised.result (c.raised.ensures ∙ ap count_up some)
