-- Sessions that end: by themselves, by time, with their instances, and between the calls of a turn.
use Rattle.std.specs.Prelude.{◌≡◌, [], ◌∷◌, ◌++◌, None, Some, codes}
use Rattle.std.specs.Fmt.{digits}
use Rattle.std.proofs.Common.{refl}
use Rattle.hx_cluster.specs.declared.description.Spec.{Spec}
use Rattle.hx_model.specs.declared.Bound.TheVariants as bounds
use Rattle.hx_cluster.specs.declared.description.Scope.TheVariants as scopes
use Rattle.hx_rows.proofs.Fixtures.{built_in, built_in_states, built_in_names, bare, own_model, by_lists, by_maps, taken_in_turn, rule, failed_make, failed_run, output, one_asked, one_list, three_asked, pass_of_three, pass_of_one, pass_of_two, three_named}

-- a job is open when its session ends, and its write is refused
pub session_ended : output one_list (
    codes "join n1\nlead c1\npass c1\nfetch n1\ndeliver n1 m1\ntake n1 m1\nexpire n1\n"
    ++ codes "join n1\nwrite n1 m1\nfetch n1\ndeliver n1 m1\npass c1\nwork n1\n")
    ≡ one_asked
    ++ codes "line 4\nfetch n1 s1 1\n"
    ++ codes "line 5\n? n1 accept m1\n"
    ++ codes "line 6\ntake s1 m1\n"
    ++ codes "line 7\nend n1 s1\n"
    ++ codes "line 8\njoin n1 s2\n"
    ++ codes "line 9\n! 9 session-ended\n"
    ++ codes "line 10\nfetch n1 s2 0\n"
    ++ codes "line 11\n! 11 other-session s2\n"
    ++ codes "line 12\nbegin c1 e1 p3\nlive c1 p3\nmail c1 p3 s2\nstates c1 p3 s2\n"
    ++ codes "ideals c1 p3\nsend c1 e1 p3\n  sent m2 s2 db#0/0 OFFLINE>SLAVE\n? c1 sent 1\n"
    ++ codes "post c1 e1 0\n"
    ++ codes "line 13\nfetch n1 s2 1\ntake s2 m2\nwrite s2 m2 ok\nack s2 m2\n"
    ++ codes "= db#0/0 n1:SLAVE\n"
unfolding digits
session_ended = refl

-- a session ends between the reads and the dispatch
pub ended : output one_list (
    codes "join n1\njoin n2\nlead c1\nbegin c1\nread c1 live\nread c1 mail\n"
    ++ codes "read c1 states\nread c1 ideals\nexpire n1\nsend c1\n")
    ≡ codes "line 1\njoin n1 s1\n"
    ++ codes "line 2\njoin n2 s2\n"
    ++ codes "line 3\nlead c1 e1\n"
    ++ codes "line 4\nbegin c1 e1 p1\n"
    ++ codes "line 5\nlive c1 p1\n"
    ++ codes "line 6\nmail c1 p1 s1\nmail c1 p1 s2\n"
    ++ codes "line 7\nstates c1 p1 s1\nstates c1 p1 s2\n"
    ++ codes "line 8\nideals c1 p1\n"
    ++ codes "line 9\nend n1 s1\n"
    ++ codes "line 10\nsend c1 e1 p1\n  ended s1 db#0/0 OFFLINE>SLAVE\n"
    ++ codes "  sent m1 s2 db#0/0 OFFLINE>SLAVE\n? c1 sent 1\n= db#0/0 -\n"
unfolding digits
ended = refl

-- sessions without a beat end in the order of their last beats
pub expiry : output one_list (
    codes "join n1\njoin n2\ntick 10\nbeat n2\ntick 19\ntick 1\ntick 10\njoin n2\n"
    ++ codes "join n1\nbeat n2\ntick 30\n")
    ≡ codes "line 1\njoin n1 s1\n"
    ++ codes "line 2\njoin n2 s2\n"
    ++ codes "line 3\ntick 10\n"
    ++ codes "line 4\nbeat n2 s2\n"
    ++ codes "line 5\ntick 19\n"
    ++ codes "line 6\ntick 1\n  end n1 s1\n"
    ++ codes "line 7\ntick 10\n  end n2 s2\n"
    ++ codes "line 8\njoin n2 s3\n"
    ++ codes "line 9\njoin n1 s4\n"
    ++ codes "line 10\nbeat n2 s3\n"
    ++ codes "line 11\ntick 30\n  end n1 s4\n  end n2 s3\n= db#0/0 -\n"
unfolding digits
expiry = refl

-- all sessions end in one tick, one with a job that is open
pub storm : output one_list (
    codes "join n1\njoin n2\njoin n3\nlead c1\npass c1\nfetch n1\ndeliver n1 m1\n"
    ++ codes "take n1 m1\nbeat n1\ntick 30\njoin n1\nwrite n1 m1\ndeliver n1 m1\nwork n1\n"
    ++ codes "deliver n1 m1\npass c1\nwork n1\n")
    ≡ three_asked
    ++ codes "? c1 sent 3\npost c1 e1 0\n"
    ++ codes "line 6\nfetch n1 s1 1\n"
    ++ codes "line 7\n? n1 accept m1\n"
    ++ codes "line 8\ntake s1 m1\n"
    ++ codes "line 9\nbeat n1 s1\n"
    ++ codes "line 10\ntick 30\n  end n2 s2\n  end n3 s3\n  end n1 s1\n"
    ++ codes "line 11\njoin n1 s4\n"
    ++ codes "line 12\n! 12 session-ended\n"
    ++ codes "line 13\n! 13 repeat m1\n"
    ++ codes "line 14\nfetch n1 s4 0\n"
    ++ codes "line 15\n! 15 other-session s4\n"
    ++ codes "line 16\nbegin c1 e1 p3\nlive c1 p3\nmail c1 p3 s4\nstates c1 p3 s4\n"
    ++ codes "ideals c1 p3\nsend c1 e1 p3\n  sent m4 s4 db#0/0 OFFLINE>SLAVE\n? c1 sent 1\n"
    ++ codes "post c1 e1 0\n"
    ++ codes "line 17\nfetch n1 s4 1\ntake s4 m4\nwrite s4 m4 ok\nack s4 m4\n"
    ++ codes "= db#0/0 n1:SLAVE\n"
unfolding digits
storm = refl

-- a tick ends each session between a turn's reads and its dispatch, and the clock comes to its end
abbrev ended_before_dispatch_spec : Spec
ended_before_dispatch_spec = record three_named {
  instances = codes "n2" ∷ codes "n4" ∷ codes "n5" ∷ codes "n6" ∷ codes "n7" ∷ [];
  states = built_in_states ++ codes "X" ∷ codes "Z" ∷ [];
  models = built_in ++ own_model 8 ((8, bounds.Free) ∷ []) ((8, 1) ∷ [])
      ∷ own_model 3 ((9, bounds.Live) ∷ (4, bounds.Free) ∷ (3, bounds.Free) ∷ (2, bounds.Count 2)
      ∷ []) ((9, 3) ∷ (3, 2) ∷ (4, 2) ∷ (9, 2) ∷ (2, 9) ∷ (2, 4) ∷ (3, 1) ∷ (3, 9) ∷ (4, 9)
      ∷ (4, 3) ∷ []) ∷ [];
  controllers = 1;
  rules = rule scopes.Instance None 1 ∷ rule scopes.Instance (Some (7, 6)) 3
      ∷ rule scopes.Instance (Some (9, 1)) 2 ∷ [];
  resources = by_maps 0 2 4 (((0, 4) ∷ (2, 4) ∷ (1, 7) ∷ (4, 6) ∷ []) ∷ ((3, 7) ∷ (2, 4) ∷ (4, 4)
      ∷ []) ∷ ((0, 6) ∷ (1, 6) ∷ (2, 6) ∷ (3, 6) ∷ []) ∷ [])
      ∷ by_maps 1 2 1 ([] ∷ ((0, 6) ∷ (3, 7) ∷ (2, 4) ∷ []) ∷ []) ∷ taken_in_turn 2 3 2 3 ∷ [];
}

pub ended_before_dispatch : output ended_before_dispatch_spec (
    codes "join n6\njoin n5\njoin n7\njoin n2\nlead c1\nsend c1\npost c1\nreset n5 db1 0\n"
    ++ codes "begin c1\nread c1 live\nread c1 mail\nread c1 states\nread c1 ideals\nwork n7\n"
    ++ codes "tick 18446744073709551615\nlist db2 3 n4 n2 n6 n7 n5\nsend c1\nread c1 mail\n"
    ++ codes "tick 29\n")
    ≡ codes "line 1\njoin n6 s1\n"
    ++ codes "line 2\njoin n5 s2\n"
    ++ codes "line 3\njoin n7 s3\n"
    ++ codes "line 4\njoin n2 s4\n"
    ++ codes "line 5\nlead c1 e1\n"
    ++ codes "line 6\n! 6 out-of-turn begin\n"
    ++ codes "line 7\n! 7 out-of-turn begin\n"
    ++ codes "line 8\n! 8 not-error -\n"
    ++ codes "line 9\nbegin c1 e1 p1\n"
    ++ codes "line 10\nlive c1 p1\n"
    ++ codes "line 11\nmail c1 p1 s4\nmail c1 p1 s2\nmail c1 p1 s1\nmail c1 p1 s3\n"
    ++ codes "line 12\nstates c1 p1 s4\nstates c1 p1 s2\nstates c1 p1 s1\nstates c1 p1 s3\n"
    ++ codes "line 13\nideals c1 p1\n"
    ++ codes "line 14\nfetch n7 s3 0\n"
    ++ codes "line 15\ntick 18446744073709551615\n  end n6 s1\n  end n5 s2\n  end n7 s3\n"
    ++ codes "  end n2 s4\n"
    ++ codes "line 16\n! 16 wrong-mode\n"
    ++ codes "line 17\nsend c1 e1 p1\n  ended s3 db0#0/0 OFFLINE>STANDBY\n"
    ++ codes "  ended s1 db0#0/1 OFFLINE>STANDBY\n  ended s4 db0#0/2 OFFLINE>STANDBY\n"
    ++ codes "  ended s2 db0#0/2 OFFLINE>STANDBY\n? c1 sent 0\n"
    ++ codes "line 18\n! 18 out-of-turn post\n"
    ++ codes "line 19\n! 19 clock-end\n= db0#0/0 -\n= db0#0/1 -\n= db0#0/2 -\n= db1#1/0 -\n"
    ++ codes "= db1#1/1 -\n= db2#2/0 -\n= db2#2/1 -\n= db2#2/2 -\n"
unfolding digits
ended_before_dispatch = refl

-- sessions expire and die with messages pending
abbrev death_in_turn_spec : Spec
death_in_turn_spec = record bare {
  instances = codes "n3" ∷ codes "n4" ∷ [];
  resource_names = codes "db0" ∷ codes "db1" ∷ [];
  model_names = built_in_names ++ codes "M0" ∷ [];
  models = built_in ++ own_model 3 ((2, bounds.Count 3) ∷ (3, bounds.Free) ∷ (4, bounds.Free)
      ∷ []) ((3, 2) ∷ (2, 3) ∷ (4, 3) ∷ (3, 1) ∷ (2, 4) ∷ (4, 2) ∷ (3, 4) ∷ []) ∷ [];
  controllers = 3;
  timeout = 38;
  resources = taken_in_turn 0 1 1 2
      ∷ by_maps 1 1 4 (((0, 4) ∷ (1, 5) ∷ []) ∷ ((0, 5) ∷ []) ∷ []) ∷ [];
}

pub death_in_turn : output death_in_turn_spec (
    codes "join n3\njoin n4\nlead c1\nwork n4\njoin n3\njoin n4\njoin n3\ntake n4 m1\n"
    ++ codes "pass c1\nbegin c3\ntick 30\ndeliver n3 m2\nundrain n3\npass c1\ndeliver n3 m1\n"
    ++ codes "deliver n4 m1\nexpire n4\nsend c2\ntick 3\nfetch n3\nreset n3 db0 2\npass c1\n"
    ++ codes "fetch n4\npass c1\nfetch n4\nbegin c1\nundrain n4\nbegin c1\npost c1\ndie n3\n")
    ≡ codes "line 1\njoin n3 s1\n"
    ++ codes "line 2\njoin n4 s2\n"
    ++ codes "line 3\nlead c1 e1\n"
    ++ codes "line 4\nfetch n4 s2 0\n"
    ++ codes "line 5\n! 5 already-live s1\n"
    ++ codes "line 6\n! 6 already-live s2\n"
    ++ codes "line 7\n! 7 already-live s1\n"
    ++ codes "line 8\n! 8 no-job\n"
    ++ codes "line 9\n" ++ pass_of_two (codes "p1")
    ++ codes "  sent m1 s1 db0#0/0 OFFLINE>ONLINE\n  sent m2 s2 db0#0/1 OFFLINE>ONLINE\n"
    ++ codes "  sent m3 s2 db1#1/0 OFFLINE>ONLINE\n  sent m4 s1 db1#1/1 OFFLINE>ONLINE\n"
    ++ codes "? c1 sent 4\npost c1 e1 0\n"
    ++ codes "line 10\n! 10 not-leader c1\n"
    ++ codes "line 11\ntick 30\n"
    ++ codes "line 12\n! 12 no-message\n"
    ++ codes "line 13\n! 13 already-so\n"
    ++ codes "line 14\n" ++ pass_of_two (codes "p3")
    ++ codes "? c1 waiting 4\npost c1 e1 0\n"
    ++ codes "line 15\n! 15 no-message\n"
    ++ codes "line 16\n! 16 no-message\n"
    ++ codes "line 17\nend n4 s2\n"
    ++ codes "line 18\n! 18 out-of-turn begin\n"
    ++ codes "line 19\ntick 3\n"
    ++ codes "line 20\nfetch n3 s1 2\n"
    ++ codes "line 21\n! 21 no-part 2\n"
    ++ codes "line 22\n" ++ pass_of_one (codes "p5")
    ++ codes "  sent m5 s1 db0#0/1 OFFLINE>ONLINE\n? c1 sent 1\npost c1 e1 0\n"
    ++ codes "line 23\nfetch n4 - 0\n"
    ++ codes "line 24\n" ++ pass_of_one (codes "p7")
    ++ codes "? c1 waiting 3\npost c1 e1 0\n"
    ++ codes "line 25\nfetch n4 - 0\n"
    ++ codes "line 26\nbegin c1 e1 p9\n"
    ++ codes "line 27\n! 27 already-so\n"
    ++ codes "line 28\nbegin c1 e1 p10\n"
    ++ codes "line 29\n! 29 out-of-turn live\n"
    ++ codes "line 30\nend n3 s1\n= db0#0/0 -\n= db0#0/1 -\n= db1#1/0 -\n= db1#1/1 -\n"
unfolding digits
death_in_turn = refl

-- sessions expire and die, and an old message is delivered again
abbrev expiries_and_repeats_spec : Spec
expiries_and_repeats_spec = record bare {
  instances = codes "n0" ∷ codes "n3" ∷ [];
  states = built_in_states ++ codes "Z" ∷ codes "X" ∷ [];
  resource_names = codes "db0" ∷ codes "db1" ∷ [];
  model_names = built_in_names ++ codes "M0" ∷ codes "M1" ∷ [];
  models = built_in ++ own_model 8 ((8, bounds.Free) ∷ (3, bounds.Count 1) ∷ []) ((8, 1) ∷ (3, 8)
      ∷ (8, 3) ∷ [])
      ∷ own_model 8 ((8, bounds.Free) ∷ (9, bounds.Free) ∷ []) ((8, 9) ∷ (9, 8) ∷ (8, 1) ∷ []) ∷ [];
  controllers = 1;
  timeout = 13;
  resources = taken_in_turn 0 2 4 3 ∷ taken_in_turn 1 3 4 1 ∷ [];
  failures = failed_run 0 0 1 3 ∷ failed_make 1 0 0 3 ∷ failed_make 1 0 1 3 ∷ [];
}

pub expiries_and_repeats : output expiries_and_repeats_spec (
    codes "join n3\njoin n0\nlead c1\njoin n3\nsend c1\nreset n0 db1 0\nwrite n3 m1\n"
    ++ codes "send c1\npass c1\nbegin c1\nread c1 live\nread c1 mail\nread c1 states\n"
    ++ codes "read c1 ideals\ntake n3 m6\npass c1\npass c1\nack n3 m9\njoin n0\nack n0 m7\n"
    ++ codes "work n0\nwork n0\nread c1 live\npass c1\njoin n0\nwork n0\nbeat n3\ndie n3\n"
    ++ codes "begin c1\ndeliver n0 m7\ndeliver n0 m11\nbegin c1\nlist db1 0\npass c1\n"
    ++ codes "deliver n0 m16\nbegin c1\nread c1 live\nread c1 mail\nread c1 states\n"
    ++ codes "reset n0 db1 0\npass c1\ntake n0 m16\nwork n0\ndeliver n0 m19\ntake n0 m19\n"
    ++ codes "reset n3 db0 2\nack n3 m19\nlead c1\nfetch n3\ntake n0 m18\nstop c1\n"
    ++ codes "expire n0\nread c1 ideals\ndeliver n3 m15\npass c1\ndeliver n0 m18\n"
    ++ codes "reset n3 db1 1\nack n0 m18\njoin n0\ndrop db0\nbeat n3\nreset n3 db0 3\n"
    ++ codes "pass c1\nwork n3\npass c1\ntake n0 m24\npost c1\nreset n3 db1 0\n"
    ++ codes "deliver n0 m28\nexpire n0\nlist db0 2\ntick 29\nsettle\njoin n0\nundrain n3\n"
    ++ codes "pass c1\nfetch n0\nack n0 m27\nexpire n0\nmap db1 0 n0=ONLINE n3=ONLINE\n")
    ≡ codes "line 1\njoin n3 s1\n"
    ++ codes "line 2\njoin n0 s2\n"
    ++ codes "line 3\nlead c1 e1\n"
    ++ codes "line 4\n! 4 already-live s1\n"
    ++ codes "line 5\n! 5 out-of-turn begin\n"
    ++ codes "line 6\n! 6 not-error -\n"
    ++ codes "line 7\n! 7 no-job\n"
    ++ codes "line 8\n! 8 out-of-turn begin\n"
    ++ codes "line 9\nbegin c1 e1 p1\nlive c1 p1\nmail c1 p1 s2\nmail c1 p1 s1\n"
    ++ codes "states c1 p1 s2\nstates c1 p1 s1\nideals c1 p1\nsend c1 e1 p1\n"
    ++ codes "  sent m1 s2 db0#0/0 OFFLINE>STANDBY\n  sent m2 s1 db0#0/0 OFFLINE>STANDBY\n"
    ++ codes "  sent m3 s2 db0#0/1 OFFLINE>STANDBY\n  sent m4 s1 db0#0/1 OFFLINE>STANDBY\n"
    ++ codes "  sent m5 s2 db0#0/2 OFFLINE>STANDBY\n  sent m6 s1 db0#0/2 OFFLINE>STANDBY\n"
    ++ codes "  sent m7 s2 db1#1/0 Z>SLAVE\n? c1 sent 7\npost c1 e1 0\n"
    ++ codes "line 10\nbegin c1 e1 p3\n"
    ++ codes "line 11\nlive c1 p3\n"
    ++ codes "line 12\nmail c1 p3 s2\nmail c1 p3 s1\n"
    ++ codes "line 13\nstates c1 p3 s2\nstates c1 p3 s1\n"
    ++ codes "line 14\nideals c1 p3\n"
    ++ codes "line 15\n! 15 no-job\n"
    ++ codes "line 16\nsend c1 e1 p3\n? c1 waiting 7\npost c1 e1 0\n"
    ++ codes "line 17\nbegin c1 e1 p5\nlive c1 p5\nmail c1 p5 s2\nmail c1 p5 s1\n"
    ++ codes "states c1 p5 s2\nstates c1 p5 s1\nideals c1 p5\nsend c1 e1 p5\n? c1 waiting 7\n"
    ++ codes "post c1 e1 0\n"
    ++ codes "line 18\n! 18 no-job\n"
    ++ codes "line 19\n! 19 already-live s2\n"
    ++ codes "line 20\n! 20 no-job\n"
    ++ codes "line 21\nfetch n0 s2 4\ntake s2 m1\nwrite s2 m1 ok\nack s2 m1\ntake s2 m3\n"
    ++ codes "write s2 m3 ok\nack s2 m3\ntake s2 m5\nwrite s2 m5 ok\nack s2 m5\ntake s2 m7\n"
    ++ codes "write s2 m7 ok\nack s2 m7\n"
    ++ codes "line 22\nfetch n0 s2 0\n"
    ++ codes "line 23\n! 23 out-of-turn begin\n"
    ++ codes "line 24\nbegin c1 e1 p7\nlive c1 p7\nmail c1 p7 s2\nmail c1 p7 s1\n"
    ++ codes "states c1 p7 s2\nstates c1 p7 s1\nideals c1 p7\nsend c1 e1 p7\n"
    ++ codes "  sent m8 s2 db0#0/0 STANDBY>LEADER\n  sent m9 s2 db0#0/1 STANDBY>LEADER\n"
    ++ codes "  sent m10 s2 db0#0/2 STANDBY>LEADER\n? c1 sent 3\npost c1 e1 4\n"
    ++ codes "line 25\n! 25 already-live s2\n"
    ++ codes "line 26\nfetch n0 s2 3\ntake s2 m8\nwrite s2 m8 ok\nack s2 m8\ntake s2 m9\n"
    ++ codes "write s2 m9 ok\nack s2 m9\ntake s2 m10\nwrite s2 m10 ok\nack s2 m10\n"
    ++ codes "line 27\nbeat n3 s1\n"
    ++ codes "line 28\nend n3 s1\n"
    ++ codes "line 29\nbegin c1 e1 p9\n"
    ++ codes "line 30\n! 30 repeat m7\n"
    ++ codes "line 31\n! 31 no-message\n"
    ++ codes "line 32\nbegin c1 e1 p10\n"
    ++ codes "line 33\n! 33 wrong-mode\n"
    ++ codes "line 34\nlive c1 p10\nmail c1 p10 s2\nstates c1 p10 s2\nideals c1 p10\n"
    ++ codes "send c1 e1 p10\n? c1 settled\npost c1 e1 4\n"
    ++ codes "line 35\n! 35 no-message\n"
    ++ codes "line 36\nbegin c1 e1 p12\n"
    ++ codes "line 37\nlive c1 p12\n"
    ++ codes "line 38\nmail c1 p12 s2\n"
    ++ codes "line 39\nstates c1 p12 s2\n"
    ++ codes "line 40\n! 40 not-error SLAVE\n"
    ++ codes "line 41\nideals c1 p12\nsend c1 e1 p12\n? c1 settled\npost c1 e1 4\n"
    ++ codes "line 42\n! 42 no-job\n"
    ++ codes "line 43\nfetch n0 s2 0\n"
    ++ codes "line 44\n! 44 no-message\n"
    ++ codes "line 45\n! 45 no-job\n"
    ++ codes "line 46\n! 46 not-live\n"
    ++ codes "line 47\n! 47 no-job\n"
    ++ codes "line 48\n! 48 led-by c1 e1\n"
    ++ codes "line 49\nfetch n3 - 0\n"
    ++ codes "line 50\n! 50 no-job\n"
    ++ codes "line 51\nstop c1\n"
    ++ codes "line 52\nend n0 s2\n"
    ++ codes "line 53\n! 53 out-of-turn begin\n"
    ++ codes "line 54\n! 54 no-message\n"
    ++ codes "line 55\n! 55 not-leader -\n"
    ++ codes "line 56\n! 56 no-message\n"
    ++ codes "line 57\n! 57 not-live\n"
    ++ codes "line 58\n! 58 no-job\n"
    ++ codes "line 59\njoin n0 s3\n"
    ++ codes "line 60\ndrop db0#0\n"
    ++ codes "line 61\n! 61 not-live\n"
    ++ codes "line 62\n! 62 not-live\n"
    ++ codes "line 63\n! 63 not-leader -\n"
    ++ codes "line 64\nfetch n3 - 0\n"
    ++ codes "line 65\n! 65 not-leader -\n"
    ++ codes "line 66\n! 66 no-job\n"
    ++ codes "line 67\n! 67 out-of-turn begin\n"
    ++ codes "line 68\n! 68 not-live\n"
    ++ codes "line 69\n! 69 no-message\n"
    ++ codes "line 70\nend n0 s3\n"
    ++ codes "line 71\n! 71 resource-dropped\n"
    ++ codes "line 72\ntick 29\n"
    ++ codes "line 73\n! 73 no-leader\n"
    ++ codes "line 74\njoin n0 s4\n"
    ++ codes "line 75\n! 75 already-so\n"
    ++ codes "line 76\n! 76 not-leader -\n"
    ++ codes "line 77\nfetch n0 s4 0\n"
    ++ codes "line 78\n! 78 no-job\n"
    ++ codes "line 79\nend n0 s4\n"
    ++ codes "line 80\n! 80 wrong-mode\n= db1#1/0 -\n"
unfolding digits
expiries_and_repeats = refl

-- a session expires between a turn's reads, and a message comes twice
abbrev torn_by_expiry_spec : Spec
torn_by_expiry_spec = record bare {
  instances = codes "n0" ∷ codes "n2" ∷ codes "n3" ∷ codes "n6" ∷ codes "n7" ∷ [];
  states = built_in_states ++ codes "Y" ∷ [];
  resource_names = codes "db0" ∷ codes "db1" ∷ [];
  model_names = built_in_names ++ codes "M0" ∷ codes "M1" ∷ [];
  models = built_in ++ own_model 4 ((8, bounds.Count 3) ∷ (5, bounds.Replicas) ∷ (4, bounds.Free)
      ∷ []) ((8, 5) ∷ (4, 5) ∷ (5, 4) ∷ (4, 1) ∷ (5, 8) ∷ [])
      ∷ own_model 8 ((8, bounds.Free) ∷ []) ((8, 1) ∷ []) ∷ [];
  controllers = 1;
  timeout = 8;
  resources = by_lists 0 2 3 ((1 ∷ []) ∷ (3 ∷ 0 ∷ []) ∷ (3 ∷ 4 ∷ 2 ∷ []) ∷ [])
      ∷ by_lists 1 2 4 ([] ∷ (1 ∷ []) ∷ (3 ∷ 1 ∷ 0 ∷ 4 ∷ []) ∷ []) ∷ [];
  failures = failed_run 1 1 0 4 ∷ [];
}

pub torn_by_expiry : output torn_by_expiry_spec (
    codes "join n0\njoin n6\njoin n7\nlead c1\npost c1\nack n6 m2\npass c1\nwrite n6 m1\n"
    ++ codes "map db0 0 n0=Y\nlist db0 1 n2 n0\ndeliver n3 m5\nwork n6\nbegin c1\n"
    ++ codes "read c1 live\nread c1 mail\nread c1 states\nwork n3\nexpire n0\ndeliver n6 m3\n"
    ++ codes "reset n0 db0 3\ndrain n2\nwrite n0 m6\nsend c1\npass c1\ndeliver n3 m9\n"
    ++ codes "take n3 m9\nwrite n3 m9\nack n3 m9\ndeliver n7 m4\njoin n3\ndrain n7\n"
    ++ codes "fetch n3\ntake n7 m8\nview\nbegin c1\nread c1 live\nread c1 mail\n"
    ++ codes "read c1 states\nread c1 ideals\npass c1\ntake n3 m8\npass c1\nsend c1\n"
    ++ codes "take n7 m18\nwrite n3 m14\nfetch n6\nwork n3\nread c1 states\njoin n2\n")
    ≡ codes "line 1\njoin n0 s1\n"
    ++ codes "line 2\njoin n6 s2\n"
    ++ codes "line 3\njoin n7 s3\n"
    ++ codes "line 4\nlead c1 e1\n"
    ++ codes "line 5\n! 5 out-of-turn begin\n"
    ++ codes "line 6\n! 6 no-job\n"
    ++ codes "line 7\n" ++ pass_of_three (codes "p1")
    ++ codes "  sent m1 s2 db0#0/1 OFFLINE>STANDBY\n  sent m2 s1 db0#0/1 OFFLINE>STANDBY\n"
    ++ codes "  sent m3 s2 db0#0/2 OFFLINE>STANDBY\n  sent m4 s3 db0#0/2 OFFLINE>STANDBY\n"
    ++ codes "  sent m5 s2 db1#1/2 OFFLINE>STANDBY\n  sent m6 s1 db1#1/2 OFFLINE>STANDBY\n"
    ++ codes "  sent m7 s3 db1#1/2 OFFLINE>STANDBY\n? c1 sent 7\npost c1 e1 0\n"
    ++ codes "line 8\n! 8 no-job\n"
    ++ codes "line 9\n! 9 wrong-mode\n"
    ++ codes "line 10\nlist db0#0/1 n2 n0\n"
    ++ codes "line 11\n! 11 no-message\n"
    ++ codes "line 12\nfetch n6 s2 3\ntake s2 m1\nwrite s2 m1 ok\nack s2 m1\ntake s2 m3\n"
    ++ codes "write s2 m3 ok\nack s2 m3\ntake s2 m5\nwrite s2 m5 ok\nack s2 m5\n"
    ++ codes "line 13\nbegin c1 e1 p3\n"
    ++ codes "line 14\nlive c1 p3\n"
    ++ codes "line 15\nmail c1 p3 s1\nmail c1 p3 s2\nmail c1 p3 s3\n"
    ++ codes "line 16\nstates c1 p3 s1\nstates c1 p3 s2\nstates c1 p3 s3\n"
    ++ codes "line 17\nfetch n3 - 0\n"
    ++ codes "line 18\nend n0 s1\n"
    ++ codes "line 19\n! 19 repeat m3\n"
    ++ codes "line 20\n! 20 not-live\n"
    ++ codes "line 21\ndrain n2\n"
    ++ codes "line 22\n! 22 no-job\n"
    ++ codes "line 23\n! 23 out-of-turn ideals\n"
    ++ codes "line 24\nideals c1 p3\nsend c1 e1 p3\n  sent m8 s2 db0#0/1 STANDBY>OFFLINE\n"
    ++ codes "  sent m9 s2 db0#0/2 STANDBY>LEADER\n  sent m10 s2 db1#1/2 STANDBY>LEADER\n"
    ++ codes "? c1 sent 3\npost c1 e1 3\n"
    ++ codes "line 25\n! 25 no-message\n"
    ++ codes "line 26\n! 26 no-job\n"
    ++ codes "line 27\n! 27 no-job\n"
    ++ codes "line 28\n! 28 no-job\n"
    ++ codes "line 29\n! 29 no-message\n"
    ++ codes "line 30\njoin n3 s4\n"
    ++ codes "line 31\ndrain n7\n"
    ++ codes "line 32\nfetch n3 s4 0\n"
    ++ codes "line 33\n! 33 no-job\n"
    ++ codes "line 34\n= db0#0/0 -\n= db0#0/1 n6:STANDBY\n= db0#0/2 n6:STANDBY\n= db1#1/0 -\n"
    ++ codes "= db1#1/1 -\n= db1#1/2 n6:STANDBY\n"
    ++ codes "line 35\nbegin c1 e1 p5\n"
    ++ codes "line 36\nlive c1 p5\n"
    ++ codes "line 37\nmail c1 p5 s4\nmail c1 p5 s2\nmail c1 p5 s3\n"
    ++ codes "line 38\nstates c1 p5 s4\nstates c1 p5 s2\nstates c1 p5 s3\n"
    ++ codes "line 39\nideals c1 p5\n"
    ++ codes "line 40\nsend c1 e1 p5\n  sent m11 s4 db0#0/2 OFFLINE>STANDBY\n? c1 sent 1\n"
    ++ codes "post c1 e1 3\n"
    ++ codes "line 41\n! 41 no-job\n"
    ++ codes "line 42\nbegin c1 e1 p7\nlive c1 p7\nmail c1 p7 s4\nmail c1 p7 s2\n"
    ++ codes "mail c1 p7 s3\nstates c1 p7 s4\nstates c1 p7 s2\nstates c1 p7 s3\n"
    ++ codes "ideals c1 p7\nsend c1 e1 p7\n? c1 waiting 6\npost c1 e1 3\n"
    ++ codes "line 43\n! 43 out-of-turn begin\n"
    ++ codes "line 44\n! 44 no-job\n"
    ++ codes "line 45\n! 45 no-job\n"
    ++ codes "line 46\nfetch n6 s2 3\n"
    ++ codes "line 47\nfetch n3 s4 1\ntake s4 m11\nwrite s4 m11 ok\nack s4 m11\n"
    ++ codes "line 48\n! 48 out-of-turn begin\n"
    ++ codes "line 49\njoin n2 s5\n= db0#0/0 -\n= db0#0/1 n6:STANDBY\n"
    ++ codes "= db0#0/2 n3:STANDBY n6:STANDBY\n= db1#1/0 -\n= db1#1/1 -\n"
    ++ codes "= db1#1/2 n6:STANDBY\n"
unfolding digits
torn_by_expiry = refl
