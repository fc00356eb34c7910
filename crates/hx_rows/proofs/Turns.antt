-- Turns of controllers: torn by other steps, fenced, out of order, or with nothing to send.
use Rattle.std.specs.Prelude.{◌≡◌, [], ◌∷◌, ◌++◌, None, Some, codes}
use Rattle.std.specs.Fmt.{digits}
use Rattle.std.proofs.Common.{refl}
use Rattle.hx_cluster.specs.declared.description.Spec.{Spec}
use Rattle.hx_model.specs.declared.Bound.TheVariants as bounds
use Rattle.hx_cluster.specs.declared.description.Scope.TheVariants as scopes
use Rattle.hx_rows.proofs.Fixtures.{built_in, built_in_states, built_in_names, bare, own_model, taken_in_turn, rule, failed_make, failed_run, output, one_list, one_stopped, three_asked, three_settled, two_wanted, pass_of_three, pass_of_two, two_asked}

-- a transition ends between the reads of mail and of states, and the plan is of what was read
pub torn_read : output one_list (
    codes "join n1\njoin n2\njoin n3\nlead c1\npass c1\nwork n1\nwork n2\nwork n3\n"
    ++ codes "pass c1\nfetch n1\ndeliver n1 m4\ntake n1 m4\nlist db 0 n2 n1 n3\nbegin c1\n"
    ++ codes "read c1 live\nread c1 mail\nwrite n1 m4\nack n1 m4\nread c1 states\n"
    ++ codes "read c1 ideals\nsend c1\npost c1\npass c1\n")
    ≡ three_asked
    ++ codes "? c1 sent 3\npost c1 e1 0\n"
    ++ codes "line 6\nfetch n1 s1 1\ntake s1 m1\nwrite s1 m1 ok\nack s1 m1\n"
    ++ codes "line 7\nfetch n2 s2 1\ntake s2 m2\nwrite s2 m2 ok\nack s2 m2\n"
    ++ codes "line 8\nfetch n3 s3 1\ntake s3 m3\nwrite s3 m3 ok\nack s3 m3\n"
    ++ codes "line 9\n" ++ pass_of_three (codes "p3")
    ++ codes "  sent m4 s1 db#0/0 SLAVE>MASTER\n? c1 sent 1\npost c1 e1 3\n"
    ++ codes "line 10\nfetch n1 s1 1\n"
    ++ codes "line 11\n? n1 accept m4\n"
    ++ codes "line 12\ntake s1 m4\n"
    ++ codes "line 13\nlist db#0/0 n2 n1 n3\n"
    ++ codes "line 14\nbegin c1 e1 p5\n"
    ++ codes "line 15\nlive c1 p5\n"
    ++ codes "line 16\nmail c1 p5 s1\nmail c1 p5 s2\nmail c1 p5 s3\n"
    ++ codes "line 17\nwrite s1 m4 ok\n"
    ++ codes "line 18\nack s1 m4\n"
    ++ codes "line 19\nstates c1 p5 s1\nstates c1 p5 s2\nstates c1 p5 s3\n"
    ++ codes "line 20\nideals c1 p5\n"
    ++ codes "line 21\nsend c1 e1 p5\n? c1 waiting 1\n"
    ++ codes "line 22\npost c1 e1 3\n"
    ++ codes "line 23\n" ++ pass_of_three (codes "p7")
    ++ codes "  sent m5 s1 db#0/0 MASTER>SLAVE\n? c1 sent 1\npost c1 e1 3\n"
    ++ codes "= db#0/0 n1:MASTER n2:SLAVE n3:SLAVE\n"
unfolding digits
torn_read = refl

-- another controller leads before the first dispatches
pub fenced : output one_list (
    codes "join n1\nlead c1\nbegin c1\nread c1 live\nread c1 mail\nread c1 states\n"
    ++ codes "read c1 ideals\nstop c1\nlead c2\npass c2\nsend c1\n")
    ≡ one_stopped
    ++ codes "line 9\nlead c2 e2\n"
    ++ codes "line 10\nbegin c2 e2 p1\nlive c2 p1\nmail c2 p1 s1\nstates c2 p1 s1\n"
    ++ codes "ideals c2 p1\nsend c2 e2 p1\n  sent m1 s1 db#0/0 OFFLINE>SLAVE\n? c2 sent 1\n"
    ++ codes "post c2 e2 0\n"
    ++ codes "line 11\n! 11 fenced 2\n= db#0/0 -\n"
unfolding digits
fenced = refl

-- the same controller leads again, in another epoch
pub led_again : output one_list (
    codes "join n1\nlead c1\nbegin c1\nread c1 live\nread c1 mail\nread c1 states\n"
    ++ codes "read c1 ideals\nstop c1\nstart c1\nlead c1\nsend c1\npass c1\n")
    ≡ one_stopped
    ++ codes "line 9\nstart c1\n"
    ++ codes "line 10\nlead c1 e2\n"
    ++ codes "line 11\n! 11 fenced 2\n"
    ++ codes "line 12\nbegin c1 e2 p2\nlive c1 p2\nmail c1 p2 s1\nstates c1 p2 s1\n"
    ++ codes "ideals c1 p2\nsend c1 e2 p2\n  sent m1 s1 db#0/0 OFFLINE>SLAVE\n? c1 sent 1\n"
    ++ codes "post c1 e2 0\n= db#0/0 -\n"
unfolding digits
led_again = refl

-- one pass waits for its messages, and the next goes on
pub passes : output two_wanted (
    codes "join n1\njoin n2\nlead c1\npass c1\nwork n1\nwork n2\npass c1\nwork n1\n"
    ++ codes "pass c1\n")
    ≡ two_asked
    ++ codes "? c1 sent 2\npost c1 e1 0\n"
    ++ codes "line 5\nfetch n1 s1 1\ntake s1 m1\nwrite s1 m1 ok\nack s1 m1\n"
    ++ codes "line 6\nfetch n2 s2 1\ntake s2 m2\nwrite s2 m2 ok\nack s2 m2\n"
    ++ codes "line 7\n"
    ++ pass_of_two (codes "p3")
    ++ codes "  sent m3 s1 db#0/0 SLAVE>MASTER\n? c1 sent 1\npost c1 e1 2\n"
    ++ codes "line 8\nfetch n1 s1 1\ntake s1 m3\nwrite s1 m3 ok\nack s1 m3\nline 9\n"
    ++ pass_of_two (codes "p5")
    ++ codes "? c1 settled\n? full n2 db#0/0 SLAVE>MASTER 1 of 1 n1\npost c1 e1 2\n"
    ++ codes "= db#0/0 n1:MASTER n2:SLAVE\n"
unfolding digits
passes = refl

-- a turn finds nothing to send, but the cluster has moved since its begin
abbrev moved_cluster_spec : Spec
moved_cluster_spec = record bare {
  instances = codes "n1" ∷ codes "n2" ∷ codes "n3" ∷ codes "n4" ∷ [];
  states = built_in_states ++ codes "Z" ∷ [];
  resource_names = codes "db0" ∷ [];
  model_names = built_in_names ++ codes "M0" ∷ codes "M1" ∷ [];
  models = built_in ++ own_model 8 ((8, bounds.Free) ∷ []) ((8, 1) ∷ [])
      ∷ own_model 4 ((4, bounds.Free) ∷ []) ((4, 1) ∷ []) ∷ [];
  controllers = 1;
  rules = rule scopes.Resource (Some (4, 4)) 2 ∷ [];
  resources = taken_in_turn 0 4 3 1 ∷ [];
}

pub moved_cluster : output moved_cluster_spec (
    codes "join n3\njoin n4\njoin n1\njoin n2\nlead c1\nreset n1 db0 2\nread c1 states\n"
    ++ codes "pass c1\nsettle\nwork n1\nbegin c1\nread c1 live\nread c1 mail\ntake n2 m2\n"
    ++ codes "deliver n2 m2\ntake n2 m2\nwrite n2 m2\nack n2 m2\nview\ntake n3 m7\n"
    ++ codes "reset n1 db0 0\ndeliver n4 m9\ntake n4 m9\nwrite n4 m9\nlead c1\njoin n2\n"
    ++ codes "deliver n2 m9\ndeliver n4 m4\ntake n4 m4\nbegin c1\nwork n1\njoin n3\ntick 3\n"
    ++ codes "drain n3\ndeliver n4 m9\nfetch n2\nread c1 live\npass c1\nwork n3\n"
    ++ codes "deliver n1 m10\n")
    ≡ codes "line 1\njoin n3 s1\n"
    ++ codes "line 2\njoin n4 s2\n"
    ++ codes "line 3\njoin n1 s3\n"
    ++ codes "line 4\njoin n2 s4\n"
    ++ codes "line 5\nlead c1 e1\n"
    ++ codes "line 6\n! 6 no-part 1\n"
    ++ codes "line 7\n! 7 out-of-turn begin\n"
    ++ codes "line 8\nbegin c1 e1 p1\nlive c1 p1\nmail c1 p1 s3\nmail c1 p1 s4\n"
    ++ codes "mail c1 p1 s1\nmail c1 p1 s2\nstates c1 p1 s3\nstates c1 p1 s4\n"
    ++ codes "states c1 p1 s1\nstates c1 p1 s2\nideals c1 p1\nsend c1 e1 p1\n? c1 settled\n"
    ++ codes "post c1 e1 0\n"
    ++ codes "line 9\nbegin c1 e1 p3\nlive c1 p3\nmail c1 p3 s3\nmail c1 p3 s4\n"
    ++ codes "mail c1 p3 s1\nmail c1 p3 s2\nstates c1 p3 s3\nstates c1 p3 s4\n"
    ++ codes "states c1 p3 s1\nstates c1 p3 s2\nideals c1 p3\nsend c1 e1 p3\npost c1 e1 0\n"
    ++ codes "? settle c1 1\n"
    ++ codes "line 10\nfetch n1 s3 0\n"
    ++ codes "line 11\nbegin c1 e1 p5\n"
    ++ codes "line 12\nlive c1 p5\n"
    ++ codes "line 13\nmail c1 p5 s3\nmail c1 p5 s4\nmail c1 p5 s1\nmail c1 p5 s2\n"
    ++ codes "line 14\n! 14 no-job\n"
    ++ codes "line 15\n! 15 no-message\n"
    ++ codes "line 16\n! 16 no-job\n"
    ++ codes "line 17\n! 17 no-job\n"
    ++ codes "line 18\n! 18 no-job\n"
    ++ codes "line 19\n= db0#0/0 -\n"
    ++ codes "line 20\n! 20 no-job\n"
    ++ codes "line 21\n! 21 not-error -\n"
    ++ codes "line 22\n! 22 no-message\n"
    ++ codes "line 23\n! 23 no-job\n"
    ++ codes "line 24\n! 24 no-job\n"
    ++ codes "line 25\n! 25 led-by c1 e1\n"
    ++ codes "line 26\n! 26 already-live s4\n"
    ++ codes "line 27\n! 27 no-message\n"
    ++ codes "line 28\n! 28 no-message\n"
    ++ codes "line 29\n! 29 no-job\n"
    ++ codes "line 30\nbegin c1 e1 p6\n"
    ++ codes "line 31\nfetch n1 s3 0\n"
    ++ codes "line 32\n! 32 already-live s1\n"
    ++ codes "line 33\ntick 3\n"
    ++ codes "line 34\ndrain n3\n"
    ++ codes "line 35\n! 35 no-message\n"
    ++ codes "line 36\nfetch n2 s4 0\n"
    ++ codes "line 37\nlive c1 p6\n"
    ++ codes "line 38\nmail c1 p6 s3\nmail c1 p6 s4\nmail c1 p6 s1\nmail c1 p6 s2\n"
    ++ codes "states c1 p6 s3\nstates c1 p6 s4\nstates c1 p6 s1\nstates c1 p6 s2\n"
    ++ codes "ideals c1 p6\nsend c1 e1 p6\n? c1 moved 4 5\npost c1 e1 0\n"
    ++ codes "line 39\nfetch n3 s1 0\n"
    ++ codes "line 40\n! 40 no-message\n= db0#0/0 -\n"
unfolding digits
moved_cluster = refl

-- turns whose reads are torn apart by ticks, joins and steps on resources
abbrev torn_turns_spec : Spec
torn_turns_spec = record bare {
  instances = codes "n1" ∷ codes "n2" ∷ [];
  states = built_in_states ++ codes "Y" ∷ [];
  resource_names = codes "db0" ∷ codes "db1" ∷ [];
  model_names = built_in_names ++ codes "M0" ∷ [];
  models = built_in ++ own_model 8 ((2, bounds.Live) ∷ (3, bounds.Replicas) ∷ (8, bounds.Free)
      ∷ (4, bounds.Live) ∷ []) ((2, 8) ∷ (4, 8) ∷ (8, 2) ∷ (3, 4) ∷ (8, 3) ∷ (2, 4) ∷ (3, 2)
      ∷ (8, 1) ∷ (4, 3) ∷ []) ∷ [];
  timeout = 26;
  resources = taken_in_turn 0 2 4 1 ∷ taken_in_turn 1 1 4 2 ∷ [];
}

pub torn_turns : output torn_turns_spec (
    codes "join n2\njoin n1\nlead c1\nwork n1\nadd t1 MasterSlave 1 3 FULL_AUTO\n"
    ++ codes "deliver n1 m2\nreset n2 db1 3\nmap db0 0 n2=STANDBY n1=OFFLINE\nsend c1\n"
    ++ codes "work n1\ntake n2 m2\nbegin c1\nread c1 live\nread c1 mail\nread c1 states\n"
    ++ codes "read c1 ideals\nwork n1\nreset n1 t1 3\nsend c1\ndeliver n2 m1\ntake n2 m1\n"
    ++ codes "join n2\npass c1\ntick 30\nwork n2\ntake n1 m3\nbegin c1\nread c1 live\n"
    ++ codes "settle\nwork n2\ndeliver n1 m4\nwork n1\npass c1\ndeliver n1 m11\nmap db1 0\n"
    ++ codes "pass c1\nfetch n2\nsend c1\nwork n1\nsend c1\nfetch n1\n"
    ++ codes "add db0 LeaderStandby 1 2 SEMI_AUTO\nlead c1\ndeliver n1 m12\ntake n1 m12\n"
    ++ codes "begin c1\nread c1 live\nread c1 mail\nread c1 states\nread c1 ideals\n"
    ++ codes "read c2 ideals\njoin n1\ndeliver n2 m10\ntake n2 m10\nwrite n2 m10\n"
    ++ codes "ack n2 m10\nexpire n1\npass c1\nbegin c1\nread c1 live\nread c1 mail\n"
    ++ codes "read c1 states\npost c2\nwrite n1 m13\nview\ndeliver n1 m16\ndrain n1\n"
    ++ codes "deliver n1 m15\npass c1\nsend c1\nwrite n1 m21\ntick 29\njoin n1\nlead c2\n"
    ++ codes "drain n2\nbeat n1\ndeliver n1 m17\ndrain n2\nreset n1 db1 0\n")
    ≡ codes "line 1\njoin n2 s1\n"
    ++ codes "line 2\njoin n1 s2\n"
    ++ codes "line 3\nlead c1 e1\n"
    ++ codes "line 4\nfetch n1 s2 0\n"
    ++ codes "line 5\nadd t1#2 MasterSlave 1 3 FULL_AUTO\n"
    ++ codes "line 6\n! 6 no-message\n"
    ++ codes "line 7\n! 7 no-part 2\n"
    ++ codes "line 8\n! 8 wrong-mode\n"
    ++ codes "line 9\n! 9 out-of-turn begin\n"
    ++ codes "line 10\nfetch n1 s2 0\n"
    ++ codes "line 11\n! 11 no-job\n"
    ++ codes "line 12\nbegin c1 e1 p1\n"
    ++ codes "line 13\nlive c1 p1\n"
    ++ codes "line 14\nmail c1 p1 s2\nmail c1 p1 s1\n"
    ++ codes "line 15\nstates c1 p1 s2\nstates c1 p1 s1\n"
    ++ codes "line 16\nideals c1 p1\n"
    ++ codes "line 17\nfetch n1 s2 0\n"
    ++ codes "line 18\n! 18 no-part 3\n"
    ++ codes "line 19\nsend c1 e1 p1\n  sent m1 s2 db0#0/0 OFFLINE>STANDBY\n"
    ++ codes "  sent m2 s1 db0#0/0 OFFLINE>STANDBY\n  sent m3 s2 db1#1/0 OFFLINE>ONLINE\n"
    ++ codes "  sent m4 s1 db1#1/0 OFFLINE>ONLINE\n  sent m5 s2 db1#1/1 OFFLINE>ONLINE\n"
    ++ codes "  sent m6 s1 db1#1/1 OFFLINE>ONLINE\n  sent m7 s2 t1#2/0 OFFLINE>SLAVE\n"
    ++ codes "  sent m8 s1 t1#2/1 OFFLINE>SLAVE\n  sent m9 s2 t1#2/2 OFFLINE>SLAVE\n"
    ++ codes "? c1 sent 9\n"
    ++ codes "line 20\n! 20 no-message\n"
    ++ codes "line 21\n! 21 no-job\n"
    ++ codes "line 22\n! 22 already-live s1\n"
    ++ codes "line 23\npost c1 e1 0\n"
    ++ codes "line 24\ntick 30\n  end n2 s1\n  end n1 s2\n"
    ++ codes "line 25\nfetch n2 - 0\n"
    ++ codes "line 26\n! 26 no-job\n"
    ++ codes "line 27\nbegin c1 e1 p3\n"
    ++ codes "line 28\nlive c1 p3\n"
    ++ codes "line 29\nideals c1 p3\nsend c1 e1 p3\npost c1 e1 0\n? settle c1 1\n"
    ++ codes "line 30\nfetch n2 - 0\n"
    ++ codes "line 31\n! 31 no-message\n"
    ++ codes "line 32\nfetch n1 - 0\n"
    ++ codes "line 33\nbegin c1 e1 p5\nlive c1 p5\nideals c1 p5\nsend c1 e1 p5\n"
    ++ codes "? c1 settled\npost c1 e1 0\n"
    ++ codes "line 34\n! 34 no-message\n"
    ++ codes "line 35\n! 35 wrong-mode\n"
    ++ codes "line 36\nbegin c1 e1 p7\nlive c1 p7\nideals c1 p7\nsend c1 e1 p7\n"
    ++ codes "? c1 settled\npost c1 e1 0\n"
    ++ codes "line 37\nfetch n2 - 0\n"
    ++ codes "line 38\n! 38 out-of-turn begin\n"
    ++ codes "line 39\nfetch n1 - 0\n"
    ++ codes "line 40\n! 40 out-of-turn begin\n"
    ++ codes "line 41\nfetch n1 - 0\n"
    ++ codes "line 42\n! 42 name-in-use 0\n"
    ++ codes "line 43\n! 43 led-by c1 e1\n"
    ++ codes "line 44\n! 44 no-message\n"
    ++ codes "line 45\n! 45 no-job\n"
    ++ codes "line 46\nbegin c1 e1 p9\n"
    ++ codes "line 47\nlive c1 p9\n"
    ++ codes "line 48\n"
    ++ codes "line 49\n"
    ++ codes "line 50\nideals c1 p9\n"
    ++ codes "line 51\n! 51 out-of-turn begin\n"
    ++ codes "line 52\njoin n1 s3\n"
    ++ codes "line 53\n! 53 no-message\n"
    ++ codes "line 54\n! 54 no-job\n"
    ++ codes "line 55\n! 55 no-job\n"
    ++ codes "line 56\n! 56 no-job\n"
    ++ codes "line 57\nend n1 s3\n"
    ++ codes "line 58\nsend c1 e1 p9\n? c1 moved 14 16\npost c1 e1 0\n"
    ++ codes "line 59\nbegin c1 e1 p11\n"
    ++ codes "line 60\nlive c1 p11\n"
    ++ codes "line 61\n"
    ++ codes "line 62\n"
    ++ codes "line 63\n! 63 out-of-turn begin\n"
    ++ codes "line 64\n! 64 no-job\n"
    ++ codes "line 65\n= db0#0/0 -\n= db1#1/0 -\n= db1#1/1 -\n= t1#2/0 -\n= t1#2/1 -\n"
    ++ codes "= t1#2/2 -\n"
    ++ codes "line 66\n! 66 no-message\n"
    ++ codes "line 67\ndrain n1\n"
    ++ codes "line 68\n! 68 no-message\n"
    ++ codes "line 69\nideals c1 p11\nsend c1 e1 p11\n? c1 moved 16 17\npost c1 e1 0\n"
    ++ codes "line 70\n! 70 out-of-turn begin\n"
    ++ codes "line 71\n! 71 no-job\n"
    ++ codes "line 72\ntick 29\n"
    ++ codes "line 73\njoin n1 s4\n"
    ++ codes "line 74\n! 74 led-by c1 e1\n"
    ++ codes "line 75\ndrain n2\n"
    ++ codes "line 76\nbeat n1 s4\n"
    ++ codes "line 77\n! 77 no-message\n"
    ++ codes "line 78\n! 78 already-so\n"
    ++ codes "line 79\n! 79 not-error -\n= db0#0/0 -\n= db1#1/0 -\n= db1#1/1 -\n= t1#2/0 -\n"
    ++ codes "= t1#2/1 -\n= t1#2/2 -\n"
unfolding digits
torn_turns = refl

-- a leader stops within a turn, its dispatch is fenced, and a handler fails
abbrev fenced_and_failed_spec : Spec
fenced_and_failed_spec = record bare {
  instances = codes "n0" ∷ codes "n1" ∷ [];
  states = built_in_states ++ codes "Y" ∷ codes "Z" ∷ codes "X" ∷ [];
  resource_names = codes "db0" ∷ [];
  model_names = built_in_names ++ codes "M0" ∷ codes "M1" ∷ [];
  models = built_in ++ own_model 4 ((4, bounds.Free) ∷ (8, bounds.Count 2) ∷ (9, bounds.Count 3)
      ∷ []) ((9, 4) ∷ (8, 9) ∷ (4, 8) ∷ (4, 1) ∷ (4, 9) ∷ (8, 4) ∷ [])
      ∷ own_model 10 ((10, bounds.Free) ∷ (8, bounds.Count 1) ∷ []) ((8, 10) ∷ (10, 1) ∷ (10, 8)
      ∷ []) ∷ [];
  controllers = 1;
  rules = rule scopes.Instance None 2 ∷ rule scopes.Instance (Some (4, 4)) 3
      ∷ rule scopes.Resource None 1 ∷ [];
  resources = taken_in_turn 0 2 3 2 ∷ [];
  failures = failed_make 1 0 1 4 ∷ failed_make 1 0 1 3 ∷ failed_run 1 0 1 3
      ∷ failed_make 0 0 0 1 ∷ [];
}

pub fenced_and_failed : output fenced_and_failed_spec (
    codes "join n1\njoin n0\nlead c1\nread c1 states\nstart c1\npass c1\nbegin c1\n"
    ++ codes "read c1 live\nread c1 mail\nread c1 states\ndeliver n1 m1\nbegin c1\n"
    ++ codes "read c1 live\nread c1 mail\nread c1 states\nlist db0 0 n0 n1\ndeliver n1 m1\n"
    ++ codes "take n1 m1\nbegin c1\nread c1 live\nread c1 mail\nfetch n1\nbegin c1\n"
    ++ codes "deliver n0 m1\ntake n0 m1\nwrite n0 m1\nwrite n1 m2\nmap db0 0\ndeliver n1 m4\n"
    ++ codes "take n1 m4\nwork n1\ndeliver n1 m3\nread c1 ideals\nread c1 mail\n"
    ++ codes "reset n0 db0 0\nstop c1\ndeliver n0 m4\nmap db0 0\ntake n1 m1\nwork n1\n"
    ++ codes "pass c1\nwork n0\nsend c1\nread c1 mail\ntake n0 m7\ndeliver n1 m4\n"
    ++ codes "take n1 m4\nwrite n1 m4\nread c1 states\nstart c1\nbegin c1\nread c1 live\n"
    ++ codes "read c1 mail\njoin n1\nfetch n0\nlead c1\nwork n0\ndeliver n1 m3\ntake n1 m3\n"
    ++ codes "pass c1\nread c1 mail\nmap db0 0 n0=Z\nlead c1\nwork n1\nstart c1\ntake n0 m9\n")
    ≡ codes "line 1\njoin n1 s1\n"
    ++ codes "line 2\njoin n0 s2\n"
    ++ codes "line 3\nlead c1 e1\n"
    ++ codes "line 4\n! 4 out-of-turn begin\n"
    ++ codes "line 5\n! 5 already-so\n"
    ++ codes "line 6\nbegin c1 e1 p1\nlive c1 p1\nmail c1 p1 s2\nmail c1 p1 s1\n"
    ++ codes "states c1 p1 s2\nstates c1 p1 s1\nideals c1 p1\nsend c1 e1 p1\n"
    ++ codes "  sent m1 s2 db0#0/0 OFFLINE>STANDBY\n? c1 sent 1\npost c1 e1 0\n"
    ++ codes "line 7\nbegin c1 e1 p3\n"
    ++ codes "line 8\nlive c1 p3\n"
    ++ codes "line 9\nmail c1 p3 s2\nmail c1 p3 s1\n"
    ++ codes "line 10\nstates c1 p3 s2\nstates c1 p3 s1\n"
    ++ codes "line 11\n! 11 no-message\n"
    ++ codes "line 12\nbegin c1 e1 p4\n"
    ++ codes "line 13\nlive c1 p4\n"
    ++ codes "line 14\nmail c1 p4 s2\nmail c1 p4 s1\n"
    ++ codes "line 15\nstates c1 p4 s2\nstates c1 p4 s1\n"
    ++ codes "line 16\n! 16 wrong-mode\n"
    ++ codes "line 17\n! 17 no-message\n"
    ++ codes "line 18\n! 18 no-job\n"
    ++ codes "line 19\nbegin c1 e1 p5\n"
    ++ codes "line 20\nlive c1 p5\n"
    ++ codes "line 21\nmail c1 p5 s2\nmail c1 p5 s1\n"
    ++ codes "line 22\nfetch n1 s1 0\n"
    ++ codes "line 23\nbegin c1 e1 p6\n"
    ++ codes "line 24\n! 24 no-message\n"
    ++ codes "line 25\n! 25 no-job\n"
    ++ codes "line 26\n! 26 no-job\n"
    ++ codes "line 27\n! 27 no-job\n"
    ++ codes "line 28\n! 28 wrong-mode\n"
    ++ codes "line 29\n! 29 no-message\n"
    ++ codes "line 30\n! 30 no-job\n"
    ++ codes "line 31\nfetch n1 s1 0\n"
    ++ codes "line 32\n! 32 no-message\n"
    ++ codes "line 33\n! 33 out-of-turn live\n"
    ++ codes "line 34\n! 34 out-of-turn live\n"
    ++ codes "line 35\n! 35 not-error -\n"
    ++ codes "line 36\nstop c1\n"
    ++ codes "line 37\n! 37 no-message\n"
    ++ codes "line 38\n! 38 wrong-mode\n"
    ++ codes "line 39\n! 39 no-job\n"
    ++ codes "line 40\nfetch n1 s1 0\n"
    ++ codes "line 41\nlive c1 p6\nmail c1 p6 s2\nmail c1 p6 s1\nstates c1 p6 s2\n"
    ++ codes "states c1 p6 s1\nideals c1 p6\n! 41 fenced 2\n"
    ++ codes "line 42\nfetch n0 s2 1\ntake s2 m1\nwrite s2 m1 failed\nack s2 m1\n"
    ++ codes "line 43\n! 43 out-of-turn begin\n"
    ++ codes "line 44\n! 44 out-of-turn begin\n"
    ++ codes "line 45\n! 45 no-job\n"
    ++ codes "line 46\n! 46 no-message\n"
    ++ codes "line 47\n! 47 no-job\n"
    ++ codes "line 48\n! 48 no-job\n"
    ++ codes "line 49\n! 49 out-of-turn begin\n"
    ++ codes "line 50\nstart c1\n"
    ++ codes "line 51\n! 51 not-leader -\n"
    ++ codes "line 52\n! 52 out-of-turn begin\n"
    ++ codes "line 53\n! 53 out-of-turn begin\n"
    ++ codes "line 54\n! 54 already-live s1\n"
    ++ codes "line 55\nfetch n0 s2 0\n"
    ++ codes "line 56\nlead c1 e2\n"
    ++ codes "line 57\nfetch n0 s2 0\n"
    ++ codes "line 58\n! 58 no-message\n"
    ++ codes "line 59\n! 59 no-job\n"
    ++ codes "line 60\nbegin c1 e2 p7\nlive c1 p7\nmail c1 p7 s2\nmail c1 p7 s1\n"
    ++ codes "states c1 p7 s2\nstates c1 p7 s1\nideals c1 p7\nsend c1 e2 p7\n"
    ++ codes "  sent m2 s1 db0#0/0 OFFLINE>STANDBY\n? c1 sent 1\npost c1 e2 1\n"
    ++ codes "line 61\n! 61 out-of-turn begin\n"
    ++ codes "line 62\n! 62 wrong-mode\n"
    ++ codes "line 63\n! 63 led-by c1 e2\n"
    ++ codes "line 64\nfetch n1 s1 1\ntake s1 m2\nwrite s1 m2 ok\nack s1 m2\n"
    ++ codes "line 65\n! 65 already-so\n"
    ++ codes "line 66\n! 66 no-job\n= db0#0/0 n0:ERROR n1:STANDBY\n= db0#0/1 -\n"
unfolding digits
fenced_and_failed = refl

-- a transition that was written counts at both its ends until it is acknowledged
pub written_not_acknowledged : output one_list (
    codes "join n1\njoin n2\njoin n3\nlead c1\nsettle\nlist db 0 n2 n1 n3\npass c1\n"
    ++ codes "fetch n1\ndeliver n1 m5\ntake n1 m5\nwrite n1 m5\npass c1\nack n1 m5\npass c1\n")
    ≡ three_settled
    ++ codes "line 6\nlist db#0/0 n2 n1 n3\n"
    ++ codes "line 7\n" ++ pass_of_three (codes "p7")
    ++ codes "  sent m5 s1 db#0/0 MASTER>SLAVE\n? c1 sent 1\npost c1 e1 3\n"
    ++ codes "line 8\nfetch n1 s1 1\n"
    ++ codes "line 9\n? n1 accept m5\n"
    ++ codes "line 10\ntake s1 m5\nline 11\nwrite s1 m5 ok\n"
    ++ codes "line 12\n" ++ pass_of_three (codes "p9")
    ++ codes "? c1 waiting 1\npost c1 e1 3\nline 13\nack s1 m5\nline 14\n" ++ pass_of_three (codes "p11")
    ++ codes "  sent m6 s2 db#0/0 SLAVE>MASTER\n? c1 sent 1\npost c1 e1 3\n"
    ++ codes "= db#0/0 n1:SLAVE n2:SLAVE n3:SLAVE\n"
unfolding digits
written_not_acknowledged = refl
