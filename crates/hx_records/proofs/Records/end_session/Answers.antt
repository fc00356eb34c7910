use Rattle.std.proofs.Common.{◌≡◌, ◌≤◌, List, not, sym, ap, ◌∙◌, subst, arith}
use Rattle.std.proofs.lemmas.Grind.{common_steps}
use Rattle.std.specs.Prelude.{find, option_map}
use Rattle.std.specs.List.{list_all}
use Rattle.hx_lists.specs.Lists.{count}
use Rattle.hx_ids.specs.declared.Live.{Live}
use Rattle.hx_cluster.specs.declared.state.Cluster.{Cluster}
use Rattle.hx_cluster.specs.Ends.{is_session}
use Rattle.hx_cluster.specs.Steps.{is_of, live_of}
use Rattle.hx_safe.proofs.Ends.{find-filter_none}
use Rattle.hx_slots.proofs.Listed.{IsListed, listed_kept, listed_unsent}
use Rattle.hx_records.proofs.Ending.{of_message, of_row, none_left}
use Rattle.hx_records.proofs.Insides.{seated_on, left}
use Rattle.hx_records.proofs.Records.end_session.Goals as goal

pub end_mail-requires-clause-listed : goal.end_mail-requires-clause-listed
end_mail-requires-clause-listed c = listed_kept c.args.self.now c.requires.whole.kept

pub end_mail-requires-clause-instance : goal.end_mail-requires-clause-instance
end_mail-requires-clause-instance c =
    seated_on c.args.self.now.live c.args.instance c.args.session c.requires.session (c.requires.whole.kept.numbers c.args.session)

pub end_rows-requires-clause-listed : goal.end_rows-requires-clause-listed
end_rows-requires-clause-listed c =
    subst IsListed (sym c.end_mail.ensures)
    (listed_unsent c.args.self.now (λ m. not (of_message c.args.session m)) (listed_kept c.args.self.now c.requires.whole.kept))

pub end_rows-requires-clause-mail : goal.end_rows-requires-clause-mail
end_rows-requires-clause-mail c =
    ap (λ (x : Cluster). find (of_message c.args.session) x.mail) c.end_mail.ensures ∙ find-filter_none (of_message c.args.session) c.args.self.now.mail

pub invariant_of-self : goal.invariant_of-self
invariant_of-self c =
    let s = c.args.session in
    let i = c.args.instance in
    let was = c.self.view_is ∙ c.end_rows.ensures in
    let live : c.self.inside.sessions.live ≡ c.args.self.now.live = ap (λ (x : Cluster). x.live) was ∙ ap (λ (x : Cluster). x.live) c.end_mail.ensures in
    left c.self.inside c.close.new.self c.end_resets.new.resets c.set.new.self i s c.self.invariant
    (subst (λ (ls : List Live). count (is_session s) ls ≤ 1) (sym live) (c.requires.whole.kept.numbers s))
    (subst (λ (ls : List Live). count (is_of i) ls ≤ 1) (sym live) (c.requires.whole.seated.instances i))
    (ap (λ (ls : List Live). option_map (λ l. l.session) (live_of ls i)) live ∙ c.requires.session)
    (ap (λ (x : Cluster). list_all (λ r. not (of_row s r)) x.rows) was ∙ none_left (of_row s) c.end_mail.new.self.rows)
    (ap (λ (x : Cluster). list_all (λ m. not (of_message s m)) x.mail) was ∙ ap (λ (x : Cluster). list_all (λ m. not (of_message s m)) x.mail) c.end_mail.ensures ∙ none_left (of_message s) c.args.self.now.mail)
    c.close.ensures.live c.close.ensures.next c.set.ensures

pub overflow_sub-self : goal.overflow_sub-self
overflow_sub-self c = grind (arith, common_steps)
