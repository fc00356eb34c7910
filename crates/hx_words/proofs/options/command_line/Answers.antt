use Rattle.std.proofs.Common.{◌≡◌, refl, ap, ◌∙◌, codes}
use Rattle.std.proofs.lemmas.Result.{IfOk-weaker}
use Rattle.clap.specs.Simple.{app_of, app_of_fields, new_app}
use Rattle.hx_words.specs.CommandLine.{mode_rule, lanes_rule, rounds_rule, seed_rule, size_rule, with_version}
use Rattle.hx_words.proofs.Building.{one_more}
use Rattle.hx_words.proofs.options.command_line.Goals as goal

pub returns : goal.returns
returns c =
    let named : app_of c.version.result ≡ with_version (new_app (codes "fodderca")) = ap app_of_fields c.version.ensures ∙ ap with_version c.new.ensures.app in
    let with_mode = one_more _ _ _ _ (mode_rule c.args.modes) c.in_ok-arg.ensures named c.value_option.ensures refl in
    let with_lanes = one_more _ _ _ _ lanes_rule c.in_ok-arg-2.ensures with_mode c.number_option.ensures refl in
    let with_rounds = one_more _ _ _ _ rounds_rule c.in_ok-arg-3.ensures with_lanes c.number_option-2.ensures refl in
    let with_seed = one_more _ _ _ _ seed_rule c.in_ok-arg-4.ensures with_rounds c.number_option-3.ensures refl in
    IfOk-weaker c.arg-5.result _ _ (λ r adds. one_more _ _ _ _ size_rule adds with_seed c.number_option-4.ensures refl) c.arg-5.ensures
