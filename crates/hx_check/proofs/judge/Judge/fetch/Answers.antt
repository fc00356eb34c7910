use Rattle.std.proofs.Common.{◌≡◌, List, None, Some, sym, ap, ◌∙◌, subst}
use Rattle.hx_cluster.specs.declared.state.Cluster.{Cluster}
use Rattle.hx_script.specs.declared.log.LogEntry.TheVariants as logs
use Rattle.hx_check.specs.declared.Cause.TheVariants as causes
use Rattle.hx_check.specs.Standing.{Standing}
use Rattle.hx_check.specs.Answers.{answered}
use Rattle.std.proofs.Common.{ℕ}
use Rattle.hx_check.specs.Judging.{may_fetch, marked, IsAnsweredAs}
use Rattle.hx_check.proofs.Judged.{fetch_refused, fetch_answered}
use Rattle.hx_check.proofs.judge.Judge.fetch.Goals as goal
use Rattle.hx_check.proofs.judge.Judge.fetch.Goals.{In_ok-so}

told : (c : In_ok-so) → c.in_ok-so.so ≡ may_fetch c.self.inside.replayed c.args.instance c.args.session c.args.count
told c = c.in_ok-so.ensures ∙ ap (λ (x : Cluster). may_fetch x c.args.instance c.args.session c.args.count) c.records-records.ensures.same

pub returns-then-not-so : goal.returns-then-not-so
returns-then-not-so c =
    let a = c.self.inside in
    let w : Standing = record { cluster = a.replayed; turns = a.turns.items; marks = a.marks.items } in
    subst (λ (x : Standing). IsAnsweredAs x (answered x (logs.Fetch c.args.instance c.args.session c.args.count)) (Some causes.Step) c.args.self.now) c.self.view_is
    (fetch_refused w c.args.self.now c.args.instance c.args.session c.args.count (sym (told (goal.at.returns-then-not-so c).In_ok-so) ∙ c.if-not-so.true))

pub returns : goal.returns
returns c =
    let a = c.self.inside in
    let w : Standing = record { cluster = a.replayed; turns = a.turns.items; marks = a.marks.items } in
    let i = c.args.instance in
    let s = c.args.session in
    let n = c.args.count in
    let v : Standing = record { cluster = a.replayed; turns = a.turns.items; marks = c.mark.new.marks.items } in
    let marks : c.mark.new.marks.items ≡ marked a.marks.items s a.replayed.next_msg =
    c.in_ok-mark.ensures ∙ ap (marked a.marks.items s) (c.next_message-next.ensures ∙ ap (λ (x : Cluster). x.next_msg) c.records-records.ensures.same) in
    subst (λ (x : Standing). IsAnsweredAs x (answered x (logs.Fetch i s n)) None v) c.self.view_is
    (fetch_answered w v i s n (sym (told (goal.at.returns c).In_ok-so) ∙ c.if-not-so.false) (ap (λ (ms : List ℕ). record w { marks = ms }) marks))
