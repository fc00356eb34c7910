use Rattle.std.proofs.Common.{◌∙◌, ◌++◌, ◌∷◌, [], sym, ap, append-nil}
use Rattle.std.specs.Prelude.{Option, option_map}
use Rattle.std.specs.Option.{option_to_list}
use Rattle.hx_cluster.specs.declared.planning.Held.{Held}
use Rattle.hx_throttle.specs.Loads.{held_as}
use Rattle.hx_throttle.proofs.send_or_hold.Goals as goal

pub returns-in_ok-push : goal.returns-in_ok-push
returns-in_ok-push c =
    let does = c.in_ok-holding.ensures in
    let held = c.args.all.now.held in
    record {
      chosen = does.chosen;
      counted = does.counted;
      holding = λ view shown loads.
          c.in_ok-push.ensures.ok
          ∙ ap (λ (h : Held). held ++ h ∷ []) c.in_ok-held_back.ensures
          ∙ ap (λ (o : Option Held). held ++ option_to_list o) (sym (ap (option_map (held_as c.args.candidate.now)) c.in-Some.is) ∙ does.holding view shown loads);
    }

pub returns-in_default : goal.returns-in_default
returns-in_default c =
    let held = c.args.all.now.held in
    let does = c.in_ok-holding.ensures in
    record {
      chosen = does.chosen;
      counted = does.counted;
      holding = λ view shown loads.
          sym (append-nil held)
          ∙ ap (λ (o : Option Held). held ++ option_to_list o) (sym (ap (option_map (held_as c.args.candidate.now)) c.in_default.is) ∙ does.holding view shown loads);
    }
