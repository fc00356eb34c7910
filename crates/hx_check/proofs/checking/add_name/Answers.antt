use Rattle.std.proofs.Common.{◌≡◌, ◌+◌, ap, ◌∙◌, sym}
use Rattle.hx_cluster.specs.declared.description.Spec.{Spec}
use Rattle.hx_check.specs.Streams.{names_left, named_at}
use Rattle.hx_check.proofs.Streaming.{names_at_add, names_at_other, named_told, kept_at, readable_on}
use Rattle.hx_check.proofs.checking.add_name.Goals as goal

pub returns-then-not-may_add-clause-ok : goal.returns-then-not-may_add-clause-ok
returns-then-not-may_add-clause-ok c = names_at_other c.args.spec.now c.args.lines.now c.args.place c.get.result.now c.get.ensures (sym c.may_add.ensures ∙ c.if-not-may_add.true)

pub returns-clause-ok : goal.returns-clause-ok
returns-clause-ok c =
    let is : c.read_entry.new.spec ≡ named_at c.args.spec.now c.args.place c.args.lines.now = named_told c.args.spec.now c.read_entry.new.spec c.args.place c.args.lines.now c.in_ok-read_entry.field-0 c.in_ok-read_entry.ensures.ok.0 c.in_ok-read_entry.ensures.ok.1 in
    names_at_add c.args.spec.now c.args.lines.now c.args.place c.get.result.now c.get.ensures (sym c.may_add.ensures ∙ c.if-not-may_add.false)
    ∙ ap (λ (s : Spec). names_left s (c.args.place + 1) c.args.lines.now) (sym is)

pub returns-clause-left : goal.returns-clause-left
returns-clause-left c =
    readable_on c.args.spec.now c.read_entry.new.spec c.args.place c.args.lines.now c.requires.readable c.requires.there
    (named_told c.args.spec.now c.read_entry.new.spec c.args.place c.args.lines.now c.in_ok-read_entry.field-0 c.in_ok-read_entry.ensures.ok.0 c.in_ok-read_entry.ensures.ok.1)

pub returns-clause-kept : goal.returns-clause-kept
returns-clause-kept c =
    kept_at c.args.spec.now c.read_entry.new.spec c.args.place c.args.lines.now
    (named_told c.args.spec.now c.read_entry.new.spec c.args.place c.args.lines.now c.in_ok-read_entry.field-0 c.in_ok-read_entry.ensures.ok.0 c.in_ok-read_entry.ensures.ok.1)
