-- A line of a log that isn't UTF-8 is named before a line at fault that stands earlier.
use Rattle.std.specs.Prelude.{◌≡◌, ◌∷◌, ◌++◌, codes}
use Rattle.std.specs.Str.{is_utf8, chars}
use Rattle.std.proofs.Common.{refl}
use Rattle.hx_check.specs.declared.Cause.TheVariants as causes
use Rattle.hx_check.specs.declared.Verdict.TheVariants as verdicts
use Rattle.hx_check.specs.Judge.{verdict_on_text}
use Rattle.hx_rows.proofs.Fixtures.{demo}

pub faulty_line : verdict_on_text demo (codes "line 1\nJOIN n1 s1\nline 2\n") ≡ verdicts.Unlawful 2 causes.Grammar
unfolding is_utf8 chars lib.Utf8.encode
faulty_line = refl

pub unreadable_line : verdict_on_text demo (codes "line 1\nJOIN n1 s1\nline " ++ 255 ∷ codes "\n") ≡ verdicts.Unlawful 3 causes.Grammar
unfolding is_utf8 chars lib.Utf8.encode
unreadable_line = refl
