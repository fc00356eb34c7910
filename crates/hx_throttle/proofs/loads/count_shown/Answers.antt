use Rattle.std.proofs.Common.{◌∙◌, sym, ap}
use Rattle.std.specs.Prelude.{is_some}
use Rattle.hx_throttle.specs.declared.shown.Keyed.{Keyed}
use Rattle.hx_throttle.specs.Loads.{counts_under}
use Rattle.hx_throttle.proofs.Counting.{load-push, counted_found, message_loaded, message_passed}
use Rattle.hx_throttle.proofs.Finding.{shown_found}
use Rattle.hx_throttle.proofs.loads.count_shown.Goals as goal

pub returns-in_ok-count : goal.returns-in_ok-count
returns-in_ok-count c = λ mail before n r key at.
    let live = c.args.shown.now in
    let m = c.args.message.now in
    let found = ap (λ (k : Keyed). is_some k.instance) c.keyed-keyed.ensures ∙ shown_found live m.session in
    let shown = sym found ∙ sym c.is_some.ensures ∙ c.if-is_some.true in
    let counts = ap (counts_under r key) c.keyed-keyed.ensures ∙ counted_found live r key _ in
    message_loaded live m r key _ _ _ _ _ (load-push live mail m r key) (before n r key at) shown (c.in_ok-count.ensures n r key at) counts

pub returns-else-is_some : goal.returns-else-is_some
returns-else-is_some c = λ mail before n r key at.
    let live = c.args.shown.now in
    let found = ap (λ (k : Keyed). is_some k.instance) c.keyed-keyed.ensures ∙ shown_found live c.args.message.now.session in
    let unshown = sym found ∙ sym c.is_some.ensures ∙ c.if-is_some.false in
    message_passed live c.args.message.now r key _ _ _ (load-push live mail c.args.message.now r key) (before n r key at) unshown
