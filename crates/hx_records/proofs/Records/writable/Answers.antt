use Rattle.std.proofs.Common.{◌≡◌, true, false, Option, Some, None, refl, ap, sym, ◌∙◌, subst, arith}
use Rattle.hx_cluster.specs.declared.state.Message.{Message}
use Rattle.hx_cluster.specs.declared.state.Cluster.{Cluster}
use Rattle.hx_cluster.specs.declared.happenings.WriteRefusal.TheVariants as writes
use Rattle.hx_cluster.specs.Messages.{pending_of}
use Rattle.hx_cluster.specs.Marks.{write_fault}
use Rattle.hx_records.proofs.Marked.{refused_write}
use Rattle.hx_records.proofs.Records.writable.Goals as goal

-- a refusal by what is found
same : (m n : Message) (o : Option Message) → o ≡ Some m → o ≡ Some n → m ≡ n
same m n o h k = let both : Some m ≡ Some n = sym h ∙ k in cc

not_taken : (m : Message) → m.taken ≡ false → write_fault (Some m) ≡ Some writes.NotTaken
not_taken m h = rw h refl

again : (m : Message) → m.taken ≡ true → m.written ≡ true → write_fault (Some m) ≡ Some writes.AlreadyWritten
again m h k = rw (h, k) refl

not_refused : (m : Message) → m.taken ≡ true → m.written ≡ false → write_fault (Some m) ≡ None
not_refused m h k = rw (h, k) refl

pub returns-in-Some-clause-refused : goal.returns-in-Some-clause-refused
returns-in-Some-clause-refused c =
    let m = c.in-Some.message in
    refused_write c.args.self.now c.args.session c.args.id m c.requires (subst (λ (v : Cluster). pending_of v c.args.session c.args.id ≡ Some m) c.self.view_is (sym c.pending.ensures ∙ c.in-Some.is))
    ∙ not_taken m (grind (arith, c.if-not-message.true))

pub returns-in-Some-2-clause-refused : goal.returns-in-Some-2-clause-refused
returns-in-Some-2-clause-refused c =
    let m = c.in-Some-2.message in
    refused_write c.args.self.now c.args.session c.args.id m c.requires (subst (λ (v : Cluster). pending_of v c.args.session c.args.id ≡ Some m) c.self.view_is (sym c.pending.ensures ∙ c.in-Some-2.is))
    ∙ again m (ap (λ (x : Message). x.taken) (same m c.in-Some.message c.pending.result c.in-Some-2.is c.in-Some.is) ∙ grind (arith, c.if-not-message.false)) (grind (arith, c.if-message.true))

pub returns-in-Some-3-clause-refused : goal.returns-in-Some-3-clause-refused
returns-in-Some-3-clause-refused c =
    let m = c.in-Some-3.message in
    refused_write c.args.self.now c.args.session c.args.id m c.requires (subst (λ (v : Cluster). pending_of v c.args.session c.args.id ≡ Some m) c.self.view_is (sym c.pending.ensures ∙ c.in-Some-3.is))
    ∙ not_refused m (ap (λ (x : Message). x.taken) (same m c.in-Some.message c.pending.result c.in-Some-3.is c.in-Some.is) ∙ grind (arith, c.if-not-message.false))
    (ap (λ (x : Message). x.written) (same m c.in-Some-2.message c.pending.result c.in-Some-3.is c.in-Some-2.is) ∙ grind (arith, c.if-message.false))
