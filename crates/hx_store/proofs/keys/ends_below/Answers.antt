use Rattle.std.proofs.Common.{arith}
use Rattle.hx_store.proofs.Placing.{place_past}
use Rattle.hx_store.proofs.keys.ends_below.Goals as goal

pub returns-in-Some : goal.returns-in-Some
returns-in-Some c = λ low. place_past c.args.keys.now.items c.args.key c.in-Some.last.now c.args.keys.now.len c.requires (let ok = c.args.keys.now.ok in omega (arith, ok.0)) c.in-Some.ensures.lookup low
