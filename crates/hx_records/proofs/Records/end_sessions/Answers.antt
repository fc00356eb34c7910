use Rattle.std.proofs.Common.{drop, arith}
use Rattle.hx_records.proofs.Ending.{AreEnding, sessions_begin, next_live, next_goes, all_ended}
use Rattle.hx_records.proofs.Records.end_sessions.Goals as goal

pub loop-session-init : goal.loop-session-init
loop-session-init c =
    let e = sessions_begin c.args.self.now c.args.sessions.now c.requires.whole c.requires.live c.requires.distinct in
    record { whole = e.whole; after = e.rest; live = e.live; distinct = e.distinct; change = e.change }

pub end_live-requires-clause-live : goal.end_live-requires-clause-live
end_live-requires-clause-live c =
    let i = c.loop-session.invariant in
    let n = c.loop-session.session-index in
    let e : AreEnding c.args.self.now c.args.sessions.now (drop n c.args.sessions.now) n c.loop-session.self = record { whole = i.whole; rest = i.after; live = i.live; distinct = i.distinct; change = i.change } in
    next_live c.args.self.now c.loop-session.self c.args.sessions.now n _ c.loop-session-test.true e

pub loop-session-preserved : goal.loop-session-preserved
loop-session-preserved c =
    let i = c.loop-session.invariant in
    let n = c.loop-session.session-index in
    let e : AreEnding c.args.self.now c.args.sessions.now (drop n c.args.sessions.now) n c.loop-session.self = record { whole = i.whole; rest = i.after; live = i.live; distinct = i.distinct; change = i.change } in
    let d = next_goes c.args.self.now c.loop-session.self c.end_live.new.self c.args.sessions.now n _ c.loop-session-test.true e c.end_live.ensures in
    record { whole = d.whole; after = d.rest; live = d.live; distinct = d.distinct; change = d.change }

pub returns : goal.returns
returns c =
    let i = c.loop-session.invariant in
    let n = c.loop-session.session-index in
    let e : AreEnding c.args.self.now c.args.sessions.now (drop n c.args.sessions.now) n c.loop-session.self = record { whole = i.whole; rest = i.after; live = i.live; distinct = i.distinct; change = i.change } in
    all_ended c.args.self.now c.loop-session.self c.args.sessions.now n (omega (arith, c.loop-session-test.false)) e
