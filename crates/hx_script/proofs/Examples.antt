-- The grammar computed: a script with lines of many kinds, and each kind of fault.
use Rattle.std.proofs.Common.{◌≡◌, ℕ, List, [], ◌∷◌, None, Some, Ok, Err, Result, Option, codes, refl}
use Rattle.hx_ids.specs.Words.{instance, state, controller}
use Rattle.hx_cluster.specs.declared.description.Spec.{Spec}
use Rattle.hx_script.specs.declared.What.{What}
use Rattle.hx_script.specs.declared.What.TheVariants as asks
use Rattle.hx_script.specs.declared.ReadKind.TheVariants as reads
use Rattle.hx_script.specs.declared.Line.{Line}
use Rattle.hx_script.specs.declared.faults.ScriptKind.{ScriptKind}
use Rattle.hx_script.specs.declared.faults.ScriptKind.TheVariants as kinds
use Rattle.hx_script.specs.declared.faults.ScriptFault.{ScriptFault}
use Rattle.hx_script.specs.Grammar.{asked_by, script_of, map_ok}

abbrev pub demo : Spec
demo = record {
  instances = codes "n1" ∷ codes "n2" ∷ [];
  states = codes "ERROR" ∷ codes "DROPPED" ∷ codes "MASTER" ∷ codes "SLAVE" ∷ codes "OFFLINE" ∷ [];
  resource_names = codes "db" ∷ [];
  model_names = codes "MasterSlave" ∷ codes "OnlineOffline" ∷ codes "LeaderStandby" ∷ [];
  models = [];
  controllers = 2;
  timeout = 30;
  rules = [];
  resources = [];
  failures = [];
}

abbrev asks_of : List (List ℕ) → Result (List Line) ScriptFault
asks_of lines = map_ok (λ r. r.0) (script_of lines demo)

abbrev line : ℕ → What → Line
line n what = record { number = n; what = what }

-- comments count, and names of earlier lines are known
good : asks_of (codes "# a script" ∷ codes "join n1" ∷ codes "" ∷ codes "  beat  n2 " ∷ codes "tick 18446744073709551615" ∷ codes "add logs OnlineOffline 3 8 FULL_AUTO" ∷ codes "drop logs"
    ∷ codes "list db 0 n2 n1" ∷ codes "list db 0" ∷ codes "map db 1 n1=MASTER n2=ERROR" ∷ codes "reset n2 db 4294967295" ∷ codes "read c2 states" ∷ codes "take n1 m7"
    ∷ codes "route logs 7 SLAVE" ∷ codes "settle" ∷ codes "view" ∷ codes "summary" ∷ [])
    ≡ Ok (line 2 (asks.Join (instance 0)) ∷ line 4 (asks.Beat (instance 1)) ∷ line 5 (asks.Tick 18446744073709551615) ∷ line 6 (asks.Add 1 (record { 0 = 1 }) 3 8 0) ∷ line 7 (asks.Drop 1)
    ∷ line 8 (asks.List 0 0 (instance 1 ∷ instance 0 ∷ [])) ∷ line 9 (asks.List 0 0 []) ∷ line 10 (asks.Map 0 1 ((instance 0, state 2) ∷ (instance 1, state 0) ∷ []))
    ∷ line 11 (asks.Reset (instance 1) 0 4294967295) ∷ line 12 (asks.Read (controller 1) reads.States) ∷ line 13 (asks.Take (instance 0) (record { 0 = 7 }))
    ∷ line 14 (asks.Route 1 7 (state 3)) ∷ line 15 asks.Settle ∷ line 16 asks.View ∷ line 17 asks.Summary ∷ [])
good = refl

names : map_ok (λ r. r.1.resource_names) (script_of (codes "add logs OnlineOffline 3 8 FULL_AUTO" ∷ codes "add db OnlineOffline 3 8 FULL_AUTO" ∷ []) demo) ≡ Ok (codes "db" ∷ codes "logs" ∷ [])
names = refl

-- the first fault, with its line
first : script_of (codes "join n1" ∷ codes "# jion n1" ∷ codes "jion n1" ∷ codes "join n9" ∷ []) demo ≡ Err (record { line = 3; kind = kinds.UnknownWord })
first = refl

-- kinds in the order of their tests
abbrev kinds_of : List (List ℕ) → List (Option ScriptKind)
kinds_of [] = []
kinds_of (l ∷ ls) = kind (asked_by demo l) ∷ kinds_of ls
  where
    kind : Result (Option What) ScriptKind → Option ScriptKind
    kind (Ok what) = None
    kind (Err k) = Some k

faults : kinds_of (codes "jion" ∷ codes "join" ∷ codes "join n1 n2" ∷ codes "settle now" ∷ codes "join n9" ∷ codes "lead c0" ∷ codes "lead c3" ∷ codes "lead c01" ∷ codes "drop logs"
    ∷ codes "add logs Swap 0 8 AUTO" ∷ codes "add 1ogs Swap 0 8 AUTO" ∷ codes "add logs MasterSlave 65 8 AUTO" ∷ codes "add logs MasterSlave 3 0 AUTO" ∷ codes "add logs MasterSlave 3 8 AUTO"
    ∷ codes "tick 18446744073709551616" ∷ codes "tick 01" ∷ codes "list db 4294967296 n9" ∷ codes "map db 0 n1" ∷ codes "map db 0 n9=UP" ∷ codes "map db 0 n1=UP" ∷ codes "map db 0 n1=MASTER=UP"
    ∷ codes "take n1 m0" ∷ codes "take n9 m0" ∷ codes "take n1 7" ∷ codes "read c1 live mail" ∷ codes "read c1 all" ∷ codes "route db 0 UP" ∷ [])
    ≡ (Some kinds.UnknownWord ∷ Some kinds.WordCount ∷ Some kinds.WordCount ∷ Some kinds.WordCount ∷ Some kinds.UnknownInstance ∷ Some kinds.UnknownController ∷ Some kinds.UnknownController
    ∷ Some kinds.UnknownController ∷ Some kinds.UnknownResource ∷ Some kinds.UnknownModel ∷ Some kinds.BadName ∷ Some kinds.BadNumber ∷ Some kinds.BadNumber ∷ Some kinds.BadMode
    ∷ Some kinds.BadNumber ∷ Some kinds.BadNumber ∷ Some kinds.BadNumber ∷ Some kinds.BadPair ∷ Some kinds.UnknownInstance ∷ Some kinds.UnknownState ∷ Some kinds.UnknownState
    ∷ Some kinds.BadMessage ∷ Some kinds.UnknownInstance ∷ Some kinds.BadMessage ∷ Some kinds.WordCount ∷ Some kinds.BadKind ∷ Some kinds.UnknownState ∷ [])
faults = refl
