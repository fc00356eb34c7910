-- What the worked examples share: descriptions over the built-in models, and what a script, a script at fault and a
-- log come to.
use Rattle.std.specs.Prelude.{ℕ, true, false, List, [], ◌∷◌, ◌++◌, length, map, Option, None, Some, Result, Ok, Err, codes}
use Rattle.std.specs.Option.{option_map}
use Rattle.hx_ids.specs.declared.StateId.{StateId}
use Rattle.hx_ids.specs.Words.{instance, state, model, part}
use Rattle.hx_text.specs.Lines.{lines_of}
use Rattle.hx_model.specs.declared.Bound.{Bound}
use Rattle.hx_model.specs.declared.ModelParts.{ModelParts}
use Rattle.hx_model.specs.Builtin.{one_leads, on_and_off}
use Rattle.hx_ideal.specs.declared.Mode.{Mode}
use Rattle.hx_ideal.specs.declared.Mode.TheVariants as modes
use Rattle.hx_cluster.specs.declared.description.Resource.{Resource}
use Rattle.hx_cluster.specs.declared.description.Rule.{Rule}
use Rattle.hx_cluster.specs.declared.description.Scope.{Scope}
use Rattle.hx_cluster.specs.declared.description.Failure.{Failure}
use Rattle.hx_cluster.specs.declared.description.Spec.{Spec}
use Rattle.hx_script.specs.declared.Line.{Line}
use Rattle.hx_script.specs.declared.faults.ScriptFault.{ScriptFault}
use Rattle.hx_script.specs.Grammar.{script_of}
use Rattle.hx_worlds.specs.World.{World}
use Rattle.hx_worlds.specs.Runs.{state_of}
use Rattle.hx_worlds.specs.Scripts.{sim_run, sim_text}
use Rattle.hx_check.specs.Judge.{verdict_of, verdict_text}

-- models, by the numbers of their states
abbrev pub move : ℕ × ℕ → StateId × StateId
move m = (state m.0, state m.1)

abbrev pub own_model : ℕ → List (ℕ × Bound) → List (ℕ × ℕ) → ModelParts
own_model initial states moves =
    record { states = map (λ s. (state s.0, s.1)) states; initial = state initial; transitions = map move moves }

abbrev pub built_in : List ModelParts
built_in = one_leads (state 2) (state 3) (state 4) ∷ on_and_off (state 5) (state 4) ∷ one_leads (state 6) (state 7) (state 4) ∷ []

abbrev pub built_in_names : List (List ℕ)
built_in_names = codes "MasterSlave" ∷ codes "OnlineOffline" ∷ codes "LeaderStandby" ∷ []

abbrev pub built_in_states : List (List ℕ)
built_in_states =
    codes "ERROR" ∷ codes "DROPPED" ∷ codes "MASTER" ∷ codes "SLAVE" ∷ codes "OFFLINE" ∷ codes "ONLINE" ∷ codes "LEADER"
    ∷ codes "STANDBY" ∷ []

-- three instances and two controllers, with no resource
abbrev pub bare : Spec
bare = record {
  instances = codes "n1" ∷ codes "n2" ∷ codes "n3" ∷ [];
  states = built_in_states;
  resource_names = [];
  model_names = built_in_names;
  models = built_in;
  controllers = 2;
  timeout = 30;
  rules = [];
  resources = [];
  failures = [];
}

-- the same with the names of three resources and of two models of one's own
abbrev pub three_named : Spec
three_named = record bare {
  resource_names = codes "db0" ∷ codes "db1" ∷ codes "db2" ∷ [];
  model_names = built_in_names ++ codes "M0" ∷ codes "M1" ∷ [];
}

-- resources by the numbers of their names and models: with lists of instances, with maps of instances to states, or taken in turn
abbrev pub placed : ℕ → ℕ → ℕ → ℕ → Mode → Resource
placed name kind replicas parts mode =
    record { name = name; model = model kind; ideal = record { replicas = replicas; parts = parts; mode = mode }; dropped = false }

abbrev pub by_lists : ℕ → ℕ → ℕ → List (List ℕ) → Resource
by_lists name kind replicas lists = placed name kind replicas (length lists) (modes.Semi (map (λ l. map instance l) lists))

abbrev pub by_maps : ℕ → ℕ → ℕ → List (List (ℕ × ℕ)) → Resource
by_maps name kind replicas maps =
    placed name kind replicas (length maps) (modes.Custom (map (λ m. map (λ e. (instance e.0, state e.1)) m) maps))

abbrev pub taken_in_turn : ℕ → ℕ → ℕ → ℕ → Resource
taken_in_turn name kind replicas parts = placed name kind replicas parts modes.Full

-- a throttle, and failures of a part on an instance
abbrev pub rule : Scope → Option (ℕ × ℕ) → ℕ → Rule
rule scope transition limit = record { scope = scope; transition = option_map move transition; limit = limit }

abbrev pub failed_make : ℕ → ℕ → ℕ → ℕ → Failure
failed_make i r p number = record { instance = instance i; part = part r p; make = true; number = number }

abbrev pub failed_run : ℕ → ℕ → ℕ → ℕ → Failure
failed_run i r p number = record { instance = instance i; part = part r p; make = false; number = number }

-- the demo's description
abbrev pub demo : Spec
demo = record bare {
  resource_names = codes "db" ∷ [];
  resources = by_lists 0 1 2 ((0 ∷ 1 ∷ 2 ∷ []) ∷ (1 ∷ 2 ∷ 0 ∷ []) ∷ []) ∷ [];
}

-- one part with a list of three instances, and one part of which two are wanted at MASTER
abbrev pub one_list : Spec
one_list = record bare { resource_names = codes "db" ∷ []; resources = by_lists 0 0 3 ((0 ∷ 1 ∷ 2 ∷ []) ∷ []) ∷ [] }

abbrev pub two_wanted : Spec
two_wanted = record bare { resource_names = codes "db" ∷ []; resources = by_maps 0 0 2 (((0, 2) ∷ (1, 2) ∷ []) ∷ []) ∷ [] }

-- a script that is read, with the description that has the names of its lines too; one at fault has no lines
abbrev pub read_well : Spec → Result (List Line × Spec) ScriptFault → List Line × Spec
read_well spec (Ok script) = script
read_well spec (Err fault) = ([], spec)

abbrev pub read : Spec → List ℕ → List Line × Spec
read spec script = read_well spec (script_of (lines_of script) spec)

-- the output of a script, and the world that it leaves
abbrev pub output_of : List Line × Spec → List ℕ
output_of script = sim_text script.1 script.0

abbrev pub output : Spec → List ℕ → List ℕ
output spec script = output_of (read spec script)

abbrev pub world_of : List Line × Spec → World
world_of script = (state_of (sim_run script.1 script.0)).world

abbrev pub world_after : Spec → List ℕ → World
world_after spec script = world_of (read spec script)

-- the first fault of a script
abbrev pub fault_of : Result (List Line × Spec) ScriptFault → Option ScriptFault
fault_of (Ok script) = None
fault_of (Err fault) = Some fault

abbrev pub fault : Spec → List ℕ → Option ScriptFault
fault spec script = fault_of (script_of (lines_of script) spec)

-- the verdict on a log
abbrev pub verdict : Spec → List ℕ → List ℕ
verdict spec log = verdict_text (verdict_of spec (lines_of log))

-- the log of a pass of the first controller, up to what it sends, over the sessions whose mail and states it reads
abbrev calls_of : List ℕ → List ℕ → List (List ℕ) → List ℕ
calls_of word p [] = []
calls_of word p (s ∷ ss) = word ++ codes " c1 " ++ p ++ codes " " ++ s ++ codes "\n" ++ calls_of word p ss

abbrev pass_over : List (List ℕ) → List ℕ → List ℕ
pass_over ss p =
    codes "begin c1 e1 " ++ p ++ codes "\nlive c1 " ++ p ++ codes "\n"
    ++ calls_of (codes "mail") p ss ++ calls_of (codes "states") p ss
    ++ codes "ideals c1 " ++ p ++ codes "\nsend c1 e1 " ++ p ++ codes "\n"

abbrev pub pass_of_one : List ℕ → List ℕ
pass_of_one p = pass_over (codes "s1" ∷ []) p

abbrev pub pass_of_two : List ℕ → List ℕ
pass_of_two p = pass_over (codes "s1" ∷ codes "s2" ∷ []) p

abbrev pub pass_of_three : List ℕ → List ℕ
pass_of_three p = pass_over (codes "s1" ∷ codes "s2" ∷ codes "s3" ∷ []) p

-- the log of three joins and a leader, and of its first pass up to what it sends
abbrev pub three_read : List ℕ
three_read =
    codes "line 1\njoin n1 s1\n"
    ++ codes "line 2\njoin n2 s2\n"
    ++ codes "line 3\njoin n3 s3\n"
    ++ codes "line 4\nlead c1 e1\n"
    ++ codes "line 5\n" ++ pass_of_three (codes "p1")

-- and of the three messages that it sends for one list: each instance is to go to SLAVE
abbrev pub three_asked : List ℕ
three_asked =
    three_read
    ++ codes "  sent m1 s1 db#0/0 OFFLINE>SLAVE\n  sent m2 s2 db#0/0 OFFLINE>SLAVE\n"
    ++ codes "  sent m3 s3 db#0/0 OFFLINE>SLAVE\n"

-- and on, while the rounds settle: each is at SLAVE, and the first takes its message to go to MASTER
abbrev pub three_at_slave : List ℕ
three_at_slave =
    three_asked
    ++ codes "post c1 e1 0\nfetch n1 s1 1\ntake s1 m1\nwrite s1 m1 ok\nack s1 m1\n"
    ++ codes "fetch n2 s2 1\ntake s2 m2\nwrite s2 m2 ok\nack s2 m2\nfetch n3 s3 1\n"
    ++ codes "take s3 m3\nwrite s3 m3 ok\nack s3 m3\n"
    ++ pass_of_three (codes "p3")
    ++ codes "  sent m4 s1 db#0/0 SLAVE>MASTER\npost c1 e1 3\nfetch n1 s1 1\ntake s1 m4\n"

-- and to the end of the rounds: one is at MASTER and two at SLAVE
abbrev pub three_settled : List ℕ
three_settled =
    three_at_slave
    ++ codes "write s1 m4 ok\nack s1 m4\nfetch n2 s2 0\nfetch n3 s3 0\n"
    ++ pass_of_three (codes "p5")
    ++ codes "post c1 e1 3\n? settle c1 3\n"

-- the log of one join, a leader, and a pass that sends one message
abbrev pub one_asked : List ℕ
one_asked =
    codes "line 1\njoin n1 s1\n"
    ++ codes "line 2\nlead c1 e1\n"
    ++ codes "line 3\n" ++ pass_of_one (codes "p1")
    ++ codes "  sent m1 s1 db#0/0 OFFLINE>SLAVE\n? c1 sent 1\npost c1 e1 0\n"

-- the log of one join, and of a leader that stops before it dispatches what it read
abbrev pub one_stopped : List ℕ
one_stopped =
    codes "line 1\njoin n1 s1\n"
    ++ codes "line 2\nlead c1 e1\n"
    ++ codes "line 3\nbegin c1 e1 p1\n"
    ++ codes "line 4\nlive c1 p1\n"
    ++ codes "line 5\nmail c1 p1 s1\n"
    ++ codes "line 6\nstates c1 p1 s1\n"
    ++ codes "line 7\nideals c1 p1\n"
    ++ codes "line 8\nstop c1\n"

-- the log of two joins and a leader, and of its first pass with the two messages that it sends
abbrev pub two_asked : List ℕ
two_asked =
    codes "line 1\njoin n1 s1\n"
    ++ codes "line 2\njoin n2 s2\n"
    ++ codes "line 3\nlead c1 e1\n"
    ++ codes "line 4\n" ++ pass_of_two (codes "p1")
    ++ codes "  sent m1 s1 db#0/0 OFFLINE>SLAVE\n  sent m2 s2 db#0/0 OFFLINE>SLAVE\n"
