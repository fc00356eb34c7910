-- Words on the session that a join, a beat or a tick is of.
use Rattle.std.proofs.Common.{◌≡◌, List, [], Option, Some, None, refl, sym, ap, ◌∙◌}
use Rattle.hx_ids.specs.declared.SessionId.{SessionId}
use Rattle.hx_ids.specs.declared.InstanceId.{InstanceId}
use Rattle.hx_ids.specs.declared.Live.{Live}
use Rattle.hx_ids.specs.Sessions.{beaten}
use Rattle.hx_cluster.specs.declared.state.Cluster.{Cluster}
use Rattle.hx_cluster.specs.declared.happenings.Admin.TheVariants as steps
use Rattle.hx_cluster.specs.declared.happenings.Did.{Did}
use Rattle.hx_cluster.specs.declared.happenings.Did.TheVariants as dids
use Rattle.hx_cluster.specs.Steps.{live_of, session_of, already_live, after, beaten_of}
use Rattle.hx_sessions.specs.Sessions.{Sessions}
use Rattle.hx_safe.proofs.Whole.{IsWhole}
use Rattle.hx_records.specs.declared.Records.TheInside.{Inside}
use Rattle.hx_records.specs.Records.{seen}
use Rattle.hx_records.proofs.Insides.{is_in, beaten_one}

-- where a join is free nobody is live
pub free_none : (c : Cluster) (i : InstanceId) → already_live (live_of c.live i) ≡ None → live_of c.live i ≡ None
free_none c i e = one (live_of c.live i) e
  where
    one : (o : Option Live) → already_live o ≡ None → o ≡ None
    one None e = refl
    one (Some l) e = cc

-- a session that is heard of
pub seen_heard : (a : Inside) (sessions : Sessions) (i : InstanceId) (s : SessionId) → IsWhole (seen a) → session_of (seen a) i ≡ Some s
    → sessions.live ≡ beaten s a.rest.clock a.sessions.live → seen (record a { sessions = sessions }) ≡ after (seen a) (steps.Beat i)
seen_heard a sessions i s whole at live =
    let l = is_in a.sessions.live i s at in
    let same = live ∙ beaten_one a.sessions.live i s a.rest.clock l whole.kept.numbers in
    ap (λ (ls : List Live). record a.rest { live = ls; rows = a.slots.rows; mail = a.slots.mail }) same ∙ sym (ap (beaten_of (seen a)) l.found)

-- the sessions of an answer
abbrev pub ended_in : Did → List SessionId
ended_in (dids.Ended ss) = ss
ended_in _ = []
