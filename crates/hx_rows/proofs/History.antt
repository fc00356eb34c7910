-- The history of a script with resources that come and go: its log is read entry by entry as what the events tell, the judge finds that
-- history in it, and it follows its script.
use Rattle.std.specs.Prelude.{◌≡◌, ℕ, true, false, List, [], ◌∷◌, ◌++◌, Option, None, Some, map, take, drop, codes}
use Rattle.std.specs.Fmt.{digits}
use Rattle.std.proofs.Common.{refl}
use Rattle.hx_ids.specs.Words.{instance, model, resource, session, epoch, pass, controller}
use Rattle.hx_text.specs.Lines.{lines_of}
use Rattle.hx_cluster.specs.declared.description.Spec.{Spec}
use Rattle.hx_cluster.specs.declared.description.Scope.TheVariants as scopes
use Rattle.hx_cluster.specs.declared.state.Cluster.{Cluster}
use Rattle.hx_cluster.specs.declared.happenings.Event.{Event}
use Rattle.hx_cluster.specs.Steps.{opening}
use Rattle.hx_cluster.specs.Events.{next}
use Rattle.hx_print.specs.Texts.{log_text}
use Rattle.hx_script.specs.declared.Line.{Line}
use Rattle.hx_script.specs.declared.log.LogPart.{LogPart}
use Rattle.hx_script.specs.declared.log.LogEntry.{LogEntry}
use Rattle.hx_script.specs.declared.log.LogEntry.TheVariants as logs
use Rattle.hx_script.specs.Logs.{log_of}
use Rattle.hx_script.specs.LogEntries.{entry_told_by}
use Rattle.hx_worlds.specs.Scripts.{sim_history}
use Rattle.hx_logs.specs.Printed.{told_along}
use Rattle.hx_check.specs.Judge.{built}
use Rattle.hx_live.specs.Follows.{follows, follows_cut_off}
use Rattle.hx_live.specs.Thrifty.{is_thrifty}
use Rattle.hx_rows.proofs.Fixtures.{bare, by_maps, rule, read}

abbrev described : Spec
described = record bare {
  instances = codes "n1" ∷ codes "n2" ∷ [];
  resource_names = codes "db0" ∷ [];
  rules = rule scopes.Resource None 1
      ∷ rule scopes.Resource None 3
      ∷ rule scopes.Resource None 1 ∷ [];
  resources = by_maps 0 0 4 ([] ∷ ((0, 4) ∷ []) ∷ [] ∷ []) ∷ [];
}

-- the script, and what it is read as
abbrev script : List Line × Spec
script = read described (
    codes "lead c1\nwork n1\njoin n1\nbegin c1\nread c1 live\nread c1 mail\n"
    ++ codes "read c1 states\nbegin c1\nread c1 live\nwork n2\ndrain n1\nwork n2\nstart c1\n"
    ++ codes "view\nwrite n2 m2\npass c1\nwrite n2 m3\nstart c1\nmap db0 0\ntake n2 m5\n"
    ++ codes "add t1 OnlineOffline 3 3 FULL_AUTO\ndeliver n1 m3\ntake n1 m3\ndeliver n2 m3\n"
    ++ codes "read c1 live\nwork n1\nreset n2 db0 2\nsettle\ndrop t1\ndeliver n1 m4\n"
    ++ codes "take n1 m4\nwrite n1 m4\ndeliver n2 m1\ntake n2 m1\nwrite n2 m1\nack n2 m1\n"
    ++ codes "read c1 ideals\nsend c1\nfetch n2\nwork n1\nbegin c1\nexpire n2\npass c1\n"
    ++ codes "post c2\nlead c1\npass c2\nsend c2\npass c1\ndrop t1\npost c1\npass c1\n"
    ++ codes "fetch n2\njoin n1\nack n1 m13\npass c1\n")

abbrev the_lines : List Line
the_lines = script.0

abbrev the_spec : Spec
the_spec = script.1

abbrev the_history : List Event
the_history = sim_history the_spec the_lines

abbrev the_log : List ℕ
the_log =
    codes "line 1\nlead c1 e1\n"
    ++ codes "line 2\nfetch n1 - 0\n"
    ++ codes "line 3\njoin n1 s1\n"
    ++ codes "line 4\nbegin c1 e1 p1\n"
    ++ codes "line 5\nlive c1 p1\n"
    ++ codes "line 6\nmail c1 p1 s1\n"
    ++ codes "line 7\nstates c1 p1 s1\n"
    ++ codes "line 8\nbegin c1 e1 p2\n"
    ++ codes "line 9\nlive c1 p2\n"
    ++ codes "line 10\nfetch n2 - 0\n"
    ++ codes "line 11\ndrain n1\n"
    ++ codes "line 12\nfetch n2 - 0\n"
    ++ codes "line 13\n"
    ++ codes "line 14\n"
    ++ codes "line 15\n"
    ++ codes "line 16\nmail c1 p2 s1\nstates c1 p2 s1\nideals c1 p2\nsend c1 e1 p2\n"
    ++ codes "post c1 e1 0\n"
    ++ codes "line 17\n"
    ++ codes "line 18\n"
    ++ codes "line 19\nmap db0#0/0\n"
    ++ codes "line 20\n"
    ++ codes "line 21\nadd t1#1 OnlineOffline 3 3 FULL_AUTO\n"
    ++ codes "line 22\n"
    ++ codes "line 23\n"
    ++ codes "line 24\n"
    ++ codes "line 25\n"
    ++ codes "line 26\nfetch n1 s1 0\n"
    ++ codes "line 27\n"
    ++ codes "line 28\nbegin c1 e1 p4\nlive c1 p4\nmail c1 p4 s1\nstates c1 p4 s1\n"
    ++ codes "ideals c1 p4\nsend c1 e1 p4\npost c1 e1 0\n"
    ++ codes "line 29\ndrop t1#1\n"
    ++ codes "line 30\n"
    ++ codes "line 31\n"
    ++ codes "line 32\n"
    ++ codes "line 33\n"
    ++ codes "line 34\n"
    ++ codes "line 35\n"
    ++ codes "line 36\n"
    ++ codes "line 37\n"
    ++ codes "line 38\n"
    ++ codes "line 39\nfetch n2 - 0\n"
    ++ codes "line 40\nfetch n1 s1 0\n"
    ++ codes "line 41\nbegin c1 e1 p6\n"
    ++ codes "line 42\n"
    ++ codes "line 43\nlive c1 p6\nmail c1 p6 s1\nstates c1 p6 s1\nideals c1 p6\n"
    ++ codes "send c1 e1 p6\npost c1 e1 0\n"
    ++ codes "line 44\n"
    ++ codes "line 45\n"
    ++ codes "line 46\n"
    ++ codes "line 47\n"
    ++ codes "line 48\nbegin c1 e1 p8\nlive c1 p8\nmail c1 p8 s1\nstates c1 p8 s1\n"
    ++ codes "ideals c1 p8\nsend c1 e1 p8\npost c1 e1 0\n"
    ++ codes "line 49\n"
    ++ codes "line 50\n"
    ++ codes "line 51\nbegin c1 e1 p10\nlive c1 p10\nmail c1 p10 s1\nstates c1 p10 s1\n"
    ++ codes "ideals c1 p10\nsend c1 e1 p10\npost c1 e1 0\n"
    ++ codes "line 52\nfetch n2 - 0\n"
    ++ codes "line 53\n"
    ++ codes "line 54\n"
    ++ codes "line 55\nbegin c1 e1 p12\nlive c1 p12\nmail c1 p12 s1\nstates c1 p12 s1\n"
    ++ codes "ideals c1 p12\nsend c1 e1 p12\npost c1 e1 0\n"

abbrev log_part : ℕ → LogPart
log_part n = record { name = Some 0; resource = resource 0; index = n }

-- the entries of lines that tell nothing more, and of a turn that sends nothing: from its reads of mail on, from its start on, and whole
abbrev line_told : ℕ → Option LogEntry
line_told n = Some (logs.Line n)

abbrev from_mail : ℕ → List (Option LogEntry)
from_mail n = Some (logs.Mail (controller 0) (pass n) (session 1))
    ∷ Some (logs.States (controller 0) (pass n) (session 1))
    ∷ Some (logs.Ideals (controller 0) (pass n))
    ∷ Some (logs.Dispatch (controller 0) (epoch 1) (pass n) [])
    ∷ Some (logs.Post (controller 0) (epoch 1) 0)
    ∷ []

abbrev from_live : ℕ → List (Option LogEntry)
from_live n = Some (logs.Live (controller 0) (pass n)) ∷ from_mail n

abbrev whole_turn : ℕ → List (Option LogEntry)
whole_turn n = Some (logs.Begin (controller 0) (epoch 1) (pass n)) ∷ from_live n

abbrev the_entries : List (Option LogEntry)
the_entries =
    (Some (logs.Line 1)
    ∷ Some (logs.Lead (controller 0) (epoch 1))
    ∷ Some (logs.Line 2)
    ∷ Some (logs.Fetch (instance 0) None 0)
    ∷ Some (logs.Line 3)
    ∷ Some (logs.Join (instance 0) (session 1))
    ∷ Some (logs.Line 4)
    ∷ Some (logs.Begin (controller 0) (epoch 1) (pass 1))
    ∷ Some (logs.Line 5)
    ∷ Some (logs.Live (controller 0) (pass 1))
    ∷ Some (logs.Line 6)
    ∷ Some (logs.Mail (controller 0) (pass 1) (session 1))
    ∷ Some (logs.Line 7)
    ∷ Some (logs.States (controller 0) (pass 1) (session 1))
    ∷ Some (logs.Line 8)
    ∷ Some (logs.Begin (controller 0) (epoch 1) (pass 2))
    ∷ Some (logs.Line 9)
    ∷ Some (logs.Live (controller 0) (pass 2))
    ∷ Some (logs.Line 10)
    ∷ Some (logs.Fetch (instance 1) None 0)
    ∷ Some (logs.Line 11)
    ∷ Some (logs.Drain (instance 0))
    ∷ Some (logs.Line 12)
    ∷ Some (logs.Fetch (instance 1) None 0)
    ∷ [])
    ++ map line_told (13 ∷ 14 ∷ 15 ∷ 16 ∷ [])
    ++ from_mail 2
    ++ map line_told (17 ∷ 18 ∷ 19 ∷ [])
    ++ (Some (logs.Map (log_part 0) [])
    ∷ Some (logs.Line 20)
    ∷ Some (logs.Line 21)
    ∷ Some (logs.Add 1 (resource 1) (model 1) 3 3 0)
    ∷ [])
    ++ map line_told (22 ∷ 23 ∷ 24 ∷ 25 ∷ 26 ∷ [])
    ++ (Some (logs.Fetch (instance 0) (Some (session 1)) 0)
    ∷ Some (logs.Line 27)
    ∷ Some (logs.Line 28)
    ∷ [])
    ++ whole_turn 4
    ++ (Some (logs.Line 29)
    ∷ Some (logs.Drop (Some 1) (resource 1))
    ∷ [])
    ++ map line_told (30 ∷ 31 ∷ 32 ∷ 33 ∷ 34 ∷ 35 ∷ 36 ∷ 37 ∷ 38 ∷ 39 ∷ [])
    ++ (Some (logs.Fetch (instance 1) None 0)
    ∷ Some (logs.Line 40)
    ∷ Some (logs.Fetch (instance 0) (Some (session 1)) 0)
    ∷ Some (logs.Line 41)
    ∷ Some (logs.Begin (controller 0) (epoch 1) (pass 6))
    ∷ Some (logs.Line 42)
    ∷ Some (logs.Line 43)
    ∷ [])
    ++ from_live 6
    ++ map line_told (44 ∷ 45 ∷ 46 ∷ 47 ∷ 48 ∷ [])
    ++ whole_turn 8
    ++ map line_told (49 ∷ 50 ∷ 51 ∷ [])
    ++ whole_turn 10
    ++ (Some (logs.Line 52)
    ∷ Some (logs.Fetch (instance 1) None 0)
    ∷ [])
    ++ map line_told (53 ∷ 54 ∷ 55 ∷ [])
    ++ whole_turn 12

pub log_of_history : log_text the_spec (opening the_spec) the_history ≡ the_log
unfolding digits
log_of_history = refl

pub entries_are_read : map (λ l. l.entry) (log_of the_spec (lines_of the_log)).0 ≡ the_entries
entries_are_read = refl

-- what each event tells
pub entries_are_told : told_along (opening the_spec) the_history ≡ the_entries
entries_are_told = refl

-- the log determines its history
pub judge_finds_history : log_text the_spec (opening the_spec) (built the_spec (log_of the_spec (lines_of the_log)).0) ≡ the_log
unfolding digits
judge_finds_history = refl

-- every line of the script is done or refused, in order
pub follows_its_script : follows the_spec the_lines the_history ≡ true
follows_its_script = refl

pub lacks_a_line : follows the_spec (drop 1 the_lines) the_history ≡ false
lacks_a_line = refl

-- it may be cut off between a line and its step
pub cut_off : follows_cut_off the_spec the_lines (take 1 the_history) ≡ true
cut_off = refl

pub step_is_missing : follows the_spec (take 1 the_lines) (take 1 the_history) ≡ false
step_is_missing = refl

-- more than one begin, and no more than a hundred
pub many_rounds : is_thrifty the_spec the_history 1 ≡ false
many_rounds = refl

pub few_rounds : is_thrifty the_spec the_history 100 ≡ true
few_rounds = refl
