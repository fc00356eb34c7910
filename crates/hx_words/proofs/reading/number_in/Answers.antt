use Rattle.std.specs.Str.Parse.{ParsesUnsigned, ExplainsUnsignedError, HasUnsignedDigitsIfOk}
use Rattle.hx_words.proofs.Numbers.{found_number, no_number}
use Rattle.hx_words.proofs.reading.number_in.Goals as goal

pub returns-in-Some-clause-value : goal.returns-in-Some-clause-value
returns-in-Some-clause-value c =
    found_number (λ t r. ParsesUnsigned 64 10 t r × ExplainsUnsignedError 10 t r × HasUnsignedDigitsIfOk t r) (λ t r given. given.0)
    c.args.limits.least c.args.limits.most c.args.limits.default c.in-Some.n _ c.get_one.result c.get_one.ensures.none c.get_one.ensures.value c.in-Some.is c.if-limits-n.true c.if-n-limits.true

pub returns-in_default-3-clause-value : goal.returns-in_default-3-clause-value
returns-in_default-3-clause-value c =
    no_number (λ t r. ParsesUnsigned 64 10 t r × ExplainsUnsignedError 10 t r × HasUnsignedDigitsIfOk t r) (λ t r given. given.0)
    c.args.limits.least c.args.limits.most c.args.limits.default _ c.get_one.result c.get_one.ensures.value c.in_default.is
