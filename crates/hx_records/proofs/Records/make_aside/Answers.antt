use Rattle.hx_records.proofs.Asides.{stepped, unstepped, either_way}
use Rattle.hx_records.proofs.Records.make_aside.Goals as goal

pub invariant_of-self : goal.invariant_of-self
invariant_of-self c =
    let a = c.self.inside in
    either_way c.make.result c.make.ensures.ok c.make.ensures.err
    (λ ok. stepped a c.args.step.now _ c.self.invariant (rw (← c.self.view_is) at c.requires.whole) c.requires.aside ok)
    (λ err. unstepped a _ c.self.invariant err)
