use Rattle.std.proofs.Common.{rules, tests, inl, inr, refl, arith}
use Rattle.std.proofs.lemmas.Grind.{common_steps}
use Rattle.std.proofs.lemmas.Bool.Decides.{nat_tests}
use Rattle.hx_script.proofs.Shapes.{not_five}
use Rattle.hx_script.proofs.forms.five_words.Goals as goal
use Rattle.hx_script.proofs.forms.five_words.Goals.{in_default-via-then-words-lt5, in_default-via-else-words-lt5+else-words-lt6}

pub returns-in_default : goal.returns-in_default
returns-in_default c =
    elim c.in_default.branch [
      | in_default-via-then-words-lt5 w ↦ rw (not_five c.args.words.now (inl (first_of (grind (arith, nat_tests), search (rules, tests))))) refl
      | in_default-via-else-words-lt5+else-words-lt6 w ↦ rw (not_five c.args.words.now (inr (first_of (grind (arith, nat_tests), search (rules, tests))))) refl
    ]

pub returns-in-len5 : goal.returns-in-len5
returns-in-len5 c = grind (arith, common_steps)
