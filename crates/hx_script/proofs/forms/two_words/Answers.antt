use Rattle.std.proofs.Common.{rules, tests, inl, inr, refl, arith}
use Rattle.std.proofs.lemmas.Bool.Decides.{nat_tests}
use Rattle.hx_script.proofs.Shapes.{not_two}
use Rattle.hx_script.proofs.forms.two_words.Goals as goal
use Rattle.hx_script.proofs.forms.two_words.Goals.{in_default-via-then-words-lt2, in_default-via-else-words-lt2+else-words-lt3}

pub returns-in_default : goal.returns-in_default
returns-in_default c =
    elim c.in_default.branch [
      | in_default-via-then-words-lt2 w ↦ rw (not_two c.args.words.now (inl (first_of (grind (arith, nat_tests), search (rules, tests))))) refl
      | in_default-via-else-words-lt2+else-words-lt3 w ↦ rw (not_two c.args.words.now (inr (first_of (grind (arith, nat_tests), search (rules, tests))))) refl
    ]
