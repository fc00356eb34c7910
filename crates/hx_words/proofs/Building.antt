-- The command that the options are added to.
use Rattle.std.proofs.Common.{◌≡◌, Bool, true, false, not, ◌&&◌, is_some, ap, ap₂, ◌∙◌}
use Rattle.std.proofs.lemmas.Bool.{and_parts, not-true}
use Rattle.clap.specs.Built.{AddsArg}
use Rattle.clap.specs.Walk.{Rule, rule_of, is_simple_arg, is_empty}
use Rattle.clap.specs.Simple.{App, app_of, with_rule}
use Rattle.clap.specs.declared.builder.arg.Arg.{Arg}
use Rattle.clap.specs.declared.builder.command.Command.{Command}

last_part : (a b c d e f g h i j : Bool) → (a && (b && (c && (d && (e && (f && (g && (h && (i && j))))))))) ≡ true → j ≡ true
last_part a b c d e f g h i j is =
    let at_b = (and_parts a _ is).1 in
    let at_c = (and_parts b _ at_b).1 in
    let at_d = (and_parts c _ at_c).1 in
    let at_e = (and_parts d _ at_d).1 in
    let at_f = (and_parts e _ at_e).1 in
    let at_g = (and_parts f _ at_f).1 in
    let at_h = (and_parts g _ at_g).1 in
    let at_i = (and_parts h _ at_h).1 in
    (and_parts i _ at_i).1

-- a simple argument is of its own command alone
local : (a : Arg) → is_simple_arg a ≡ true → a.global ≡ false
local a simple = not-true a.global (last_part (is_empty a.overrides.items) (is_empty a.default_vals_ifs.items) (is_empty a.groups.items) (not (is_some a.val_delim)) (not (is_some a.terminator)) (not a.allow_hyphen_values) (not a.allow_negative_numbers) (not a.require_equals) (not a.last) (not a.global) simple)

-- one more option
pub one_more : (old new : Command) (a : Arg) (app : App) (rule : Rule) → AddsArg old a new → app_of old ≡ app → rule_of a ≡ rule → rule.is_simple ≡ true → app_of new ≡ with_rule app rule
one_more old new a app rule adds old_is rule_is simple = adds.shape (local a (ap (λ (r : Rule). r.is_simple) rule_is ∙ simple)) ∙ ap₂ with_rule old_is rule_is
