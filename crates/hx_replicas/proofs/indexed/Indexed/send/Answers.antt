use Rattle.std.proofs.Common.{◌≡◌, refl, sym, Some}
use Rattle.std.specs.Prelude.{slice_get}
use Rattle.hx_replicas.specs.Layout.{sent_out}
use Rattle.hx_replicas.proofs.Altering.{alter-set, stands-in, only-one}
use Rattle.hx_replicas.proofs.Indexing.{waits-linked, indexed-send}
use Rattle.hx_replicas.proofs.indexed.Indexed.send.Goals as goal

pub unlink-requires : goal.unlink-requires
unlink-requires g c =
    let xs = c.args.self.now.items.items in
    let x = c.index.result.now in
    let at : slice_get xs c.args.place ≡ Some x = stands-in xs c.args.place x c.requires.place c.index.ensures in
    waits-linked c.args.self.now.queue.entries xs c.args.place x c.args.message.now at (c.requires.accepted x at) c.requires.indexed.queue

pub give-requires-clause-fits : goal.give-requires-clause-fits
give-requires-clause-fits g c κs within =
    let xs = c.args.self.now.items.items in
    let x = c.index_mut.result.now in
    let at : slice_get xs c.args.place ≡ Some x = stands-in xs c.args.place x c.requires.place c.index_mut.ensures.value in
    (c.requires.fits.0, c.requires.fits.1 x at)

pub give-requires-clause-accepted : goal.give-requires-clause-accepted
give-requires-clause-accepted g c κs within =
    let xs = c.args.self.now.items.items in
    let x = c.index_mut.result.now in
    c.requires.accepted x (stands-in xs c.args.place x c.requires.place c.index_mut.ensures.value)

pub returns-clause-items : goal.returns-clause-items
returns-clause-items g c =
    rw c.give.ensures.slot (sym (alter-set (λ y. sent_out y c.args.message.now) c.args.self.now.items.items c.args.place c.index_mut.result.now c.requires.place c.index_mut.ensures.value))

pub returns-clause-job : goal.returns-clause-job
returns-clause-job g c x is =
    let xs = c.args.self.now.items.items in
    let at = stands-in xs c.args.place c.index_mut.result.now c.requires.place c.index_mut.ensures.value in
    let same : x ≡ c.index_mut.result.now = only-one (slice_get xs c.args.place) c.index_mut.result.now x at is in
    rw same c.give.ensures.job

pub returns-clause-indexed : goal.returns-clause-indexed
returns-clause-indexed g c =
    let xs = c.args.self.now.items.items in
    let x = c.index.result.now in
    let at : slice_get xs c.args.place ≡ Some x = stands-in xs c.args.place x c.requires.place c.index.ensures in
    indexed-send c.args.self.now _ c.requires.indexed c.args.place x c.args.message.now c.unlink.ensures.once at (c.requires.accepted x at)
    (rw c.give.ensures.slot (sym (alter-set (λ y. sent_out y c.args.message.now) xs c.args.place c.index_mut.result.now c.requires.place c.index_mut.ensures.value)))
    c.unlink.ensures.entries (λ p. refl) refl c.forget.ensures.gets
