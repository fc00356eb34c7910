-- What single lines of a log are read as: each answer to a proposal, numbers at and past the ends of their types, names that nothing has,
-- spaces too many, and lines that belong to none.
use Rattle.std.specs.Prelude.{◌≡◌, ℕ, List, [], ◌∷◌, Option, None, Some, map, codes}
use Rattle.std.proofs.Common.{refl}
use Rattle.hx_ids.specs.Words.{instance, state, model, resource, session, message, epoch, pass, controller}
use Rattle.hx_cluster.specs.declared.happenings.Outcome.TheVariants as outcomes
use Rattle.hx_cluster.specs.declared.happenings.Placed.{Placed}
use Rattle.hx_cluster.specs.declared.happenings.Placed.TheVariants as placings
use Rattle.hx_script.specs.declared.log.LogPart.{LogPart}
use Rattle.hx_script.specs.declared.log.LogMove.{LogMove}
use Rattle.hx_script.specs.declared.log.LogEntry.{LogEntry}
use Rattle.hx_script.specs.declared.log.LogEntry.TheVariants as logs
use Rattle.hx_script.specs.declared.log.LogLine.{LogLine}
use Rattle.hx_script.specs.Logs.{log_of}
use Rattle.hx_rows.proofs.Fixtures.{demo}

abbrev the_lines : List (List ℕ)
the_lines = codes "? a remark"
    ∷ codes "  end n1 s1"
    ∷ codes "line 0"
    ∷ []
    ∷ codes "tick 5"
    ∷ codes "= db#0/0 -"
    ∷ codes "  end n1 s0"
    ∷ codes "  end n2 s18446744073709551615"
    ∷ codes "tick 5 "
    ∷ codes "join  n1 s1"
    ∷ codes "join n1 s18446744073709551616"
    ∷ codes "drain n1"
    ∷ codes "  end n1 s1"
    ∷ codes "add logs#7 MasterSlave 65 1025 CUSTOMIZED"
    ∷ codes "drop logs#7"
    ∷ codes "drop other#7"
    ∷ codes "drop 1other#7"
    ∷ codes "list db#0/1"
    ∷ codes "map db#0/1 n1=MASTER n2=ERROR"
    ∷ codes "reset n1 s1 db#0/4294967295"
    ∷ codes "reset n1 s1 db#0/4294967296"
    ∷ codes "fetch n1 - 0"
    ∷ codes "fetch n9 - 0"
    ∷ codes "lead c3 e1"
    ∷ codes "send c1 e1 p1"
    ∷ codes "  sent m1 s1 db#0/0 OFFLINE>ONLINE"
    ∷ codes "  ended s1 db#0/0 OFFLINE>ONLINE"
    ∷ codes "  dropped s1 db#0/0 OFFLINE>ONLINE"
    ∷ codes "  busy m3 s1 db#0/0 OFFLINE>ONLINE"
    ∷ codes "  from SLAVE s1 db#0/0 OFFLINE>ONLINE"
    ∷ codes "  from - s1 db#0/0 OFFLINE>ONLINE"
    ∷ codes "  illegal s1 db#0/0 OFFLINE>ONLINE"
    ∷ codes "  bound 1 of 2 s1 db#0/0 OFFLINE>ONLINE"
    ∷ codes "  throttle 0 4 of 5 s1 db#0/0 OFFLINE>ONLINE"
    ∷ codes "send c2 e2 p3"
    ∷ codes "  bound 1 to 2 s1 db#0/0 OFFLINE>ONLINE"
    ∷ codes "write s1 m0 failed"
    ∷ codes "write s1 m1 maybe"
    ∷ codes " line 1"
    ∷ codes "history full 12"
    ∷ []

abbrev line : ℕ → Option LogEntry → LogLine
line n entry = record { line = n; entry = entry }

abbrev log_part : ℕ → LogPart
log_part n = record { name = Some 0; resource = resource 0; index = n }

-- OFFLINE to ONLINE, of the first partition
abbrev move : Placed → LogMove
move answer = record { session = session 1; part = log_part 0; from = state 4; to = state 5; answer = answer }

pub lines_are_read : (log_of demo the_lines).0
    ≡ line 2 None
    ∷ line 3 (Some (logs.Line 0))
    ∷ line 5 (Some (logs.Tick 5 ((instance 0, session 0) ∷ (instance 1, session 18446744073709551615) ∷ [])))
    ∷ line 9 None
    ∷ line 10 None
    ∷ line 11 None
    ∷ line 12 None
    ∷ line 14 (Some (logs.Add 1 (resource 7) (model 0) 65 1025 2))
    ∷ line 15 (Some (logs.Drop (Some 1) (resource 7)))
    ∷ line 16 (Some (logs.Drop None (resource 7)))
    ∷ line 17 None
    ∷ line 18 (Some (logs.List (log_part 1) []))
    ∷ line 19 (Some (logs.Map (log_part 1) ((instance 0, state 2) ∷ (instance 1, state 0) ∷ [])))
    ∷ line 20 (Some (logs.Reset (instance 0) (session 1) (log_part 4294967295)))
    ∷ line 21 None
    ∷ line 22 (Some (logs.Fetch (instance 0) None 0))
    ∷ line 23 None
    ∷ line 24 None
    ∷ line 25 (Some (logs.Dispatch (controller 0) (epoch 1) (pass 1) (map move (
    placings.Sent (message 1) ∷ placings.Ended ∷ placings.ResourceDropped ∷ placings.Busy (message 3) ∷ placings.WrongFrom (Some (state 3))
    ∷ placings.WrongFrom None ∷ placings.Illegal ∷ placings.OverBound 1 2 ∷ placings.OverThrottle 0 4 5 ∷ []))))
    ∷ line 35 None
    ∷ line 37 (Some (logs.Write (session 1) (message 0) outcomes.Failed))
    ∷ line 38 None
    ∷ line 39 None
    ∷ line 40 None
    ∷ []
lines_are_read = refl

-- the name that an `add` line brings
pub name_is_added : (log_of demo the_lines).1.resource_names ≡ codes "db" ∷ codes "logs" ∷ []
name_is_added = refl
