-- A history that is counted: its writes as its words tell them, the rest event by event.
use Rattle.std.proofs.Common.{◌≡◌, ℕ, ◌+◌, ◌≤◌, Bool, true, false, List, [], length, drop, subst, refl, arith}
use Rattle.std.specs.Prelude.{cond}
use Rattle.std.specs.List.{sum_by}
use Rattle.std.proofs.lemmas.List.{drop_all}
use Rattle.std.proofs.lemmas.List.Sums.{length-filter}
use Rattle.hx_lists.specs.Lists.{count}
use Rattle.hx_ids.specs.declared.MsgId.{MsgId}
use Rattle.hx_ids.specs.declared.SessionId.{SessionId}
use Rattle.hx_cluster.specs.declared.happenings.Admin.TheVariants as steps
use Rattle.hx_cluster.specs.declared.happenings.Did.TheVariants as dids
use Rattle.hx_cluster.specs.declared.happenings.Outcome.{Outcome}
use Rattle.hx_cluster.specs.declared.happenings.Outcome.TheVariants as outcomes
use Rattle.hx_cluster.specs.declared.happenings.Event.{Event}
use Rattle.hx_cluster.specs.declared.happenings.Event.TheVariants as events
use Rattle.hx_history.specs.Counted.{CountsWrites, IsCountedBy}
use Rattle.hx_worlds.specs.Summaries.{sent_in, joined_in, ended_in, is_write, summary_of}
use Rattle.hx_scene.specs.declared.telling.Summary.{Summary}
use Rattle.hx_scene.specs.Telling.{text_of}
use Rattle.hx_sim.specs.Counting.{has_outcome}

-- what is counted and what is left are all
pub record AreCounted (s : Summary) (left all : List Event) : Type 0 where
  pub sent : s.sent + sum_by sent_in left ≡ sum_by sent_in all
  pub ok : s.ok + count (is_write (has_outcome outcomes.Ok)) left ≡ count (is_write (has_outcome outcomes.Ok)) all
  pub failed : s.failed + count (is_write (has_outcome outcomes.Failed)) left ≡ count (is_write (has_outcome outcomes.Failed)) all
  pub joined : s.joined + sum_by joined_in left ≡ sum_by joined_in all
  pub ended : s.ended + sum_by ended_in left ≡ sum_by ended_in all

-- writes of an outcome, as numbers of events
abbrev written : Outcome → Event → ℕ
written outcome e = cond (is_write (has_outcome outcome) e) 1 0

-- whether an event is a line, a read or a call on a message that is no write
abbrev is_quiet : Event → Bool
is_quiet (events.Line n) = true
is_quiet (events.Begin k begun) = true
is_quiet (events.Live k pass) = true
is_quiet (events.Mail k pass s) = true
is_quiet (events.States k pass s) = true
is_quiet (events.Ideals k pass) = true
is_quiet (events.Fetch i s n) = true
is_quiet (events.Take s id) = true
is_quiet (events.Ack s id) = true
is_quiet _ = false

-- nothing is counted of it
record IsNothing (e : Event) : Type 0 where
  sent : sent_in e ≡ 0
  joined : joined_in e ≡ 0
  ended : ended_in e ≡ 0
  written : (o : Outcome) → written o e ≡ 0

nothing : (e : Event) → is_quiet e ≡ true → IsNothing e
nothing (events.Line n) quiet = record { sent = refl; joined = refl; ended = refl; written = λ o. refl }
nothing (events.Begin k begun) quiet = record { sent = refl; joined = refl; ended = refl; written = λ o. refl }
nothing (events.Live k pass) quiet = record { sent = refl; joined = refl; ended = refl; written = λ o. refl }
nothing (events.Mail k pass s) quiet = record { sent = refl; joined = refl; ended = refl; written = λ o. refl }
nothing (events.States k pass s) quiet = record { sent = refl; joined = refl; ended = refl; written = λ o. refl }
nothing (events.Ideals k pass) quiet = record { sent = refl; joined = refl; ended = refl; written = λ o. refl }
nothing (events.Fetch i s n) quiet = record { sent = refl; joined = refl; ended = refl; written = λ o. refl }
nothing (events.Take s id) quiet = record { sent = refl; joined = refl; ended = refl; written = λ o. refl }
nothing (events.Ack s id) quiet = record { sent = refl; joined = refl; ended = refl; written = λ o. refl }
nothing (events.Admin step did) quiet = cc
nothing (events.Dispatch k epoch pass proposals answer) quiet = cc
nothing (events.Post k epoch rows) quiet = cc
nothing (events.Write s id outcome) quiet = cc

-- so a number that is none of it, and none of a tick that ends nobody, counts writes
counts_writes : (number : Event → ℕ) (ok failed : ℕ) → ((e : Event) → is_quiet e ≡ true → number e ≡ 0) → ((n : ℕ) → number (events.Admin (steps.Tick n) (dids.Ended [])) ≡ 0)
    → ((s : SessionId) (id : MsgId) → number (events.Write s id outcomes.Ok) ≡ ok) → ((s : SessionId) (id : MsgId) → number (events.Write s id outcomes.Failed) ≡ failed)
    → CountsWrites number ok failed
counts_writes number ok failed none ticks oks faileds = record {
  line = λ n. none (events.Line n) refl;
  tick = ticks;
  begin = λ k begun. none (events.Begin k begun) refl;
  live = λ k pass. none (events.Live k pass) refl;
  mail = λ k pass s. none (events.Mail k pass s) refl;
  states = λ k pass s. none (events.States k pass s) refl;
  ideals = λ k pass. none (events.Ideals k pass) refl;
  fetch = λ i s n. none (events.Fetch i s n) refl;
  take = λ s id. none (events.Take s id) refl;
  write_ok = oks;
  write_failed = faileds;
  ack = λ s id. none (events.Ack s id) refl;
}

sent_none : CountsWrites sent_in 0 0
sent_none = counts_writes sent_in 0 0 (λ e quiet. (nothing e quiet).sent) (λ n. refl) (λ s id. refl) (λ s id. refl)

joined_none : CountsWrites joined_in 0 0
joined_none = counts_writes joined_in 0 0 (λ e quiet. (nothing e quiet).joined) (λ n. refl) (λ s id. refl) (λ s id. refl)

ended_none : CountsWrites ended_in 0 0
ended_none = counts_writes ended_in 0 0 (λ e quiet. (nothing e quiet).ended) (λ n. refl) (λ s id. refl) (λ s id. refl)

ok_counts : CountsWrites (written outcomes.Ok) 1 0
ok_counts = counts_writes (written outcomes.Ok) 1 0 (λ e quiet. (nothing e quiet).written outcomes.Ok) (λ n. refl) (λ s id. refl) (λ s id. refl)

failed_counts : CountsWrites (written outcomes.Failed) 0 1
failed_counts = counts_writes (written outcomes.Failed) 0 1 (λ e quiet. (nothing e quiet).written outcomes.Failed) (λ n. refl) (λ s id. refl) (λ s id. refl)

-- at first the writes that words tell are counted, and the events that are kept are left
pub counted_first : (kept all : List Event) (ok failed : ℕ) → IsCountedBy all kept ok failed → AreCounted (record { sent = 0; ok = ok; failed = failed; joined = 0; ended = 0 }) kept all
counted_first kept all ok failed is = record {
  sent = omega (arith, is sent_in 0 0 sent_none);
  ok = omega (arith, is (written outcomes.Ok) 1 0 ok_counts, length-filter (is_write (has_outcome outcomes.Ok)) kept, length-filter (is_write (has_outcome outcomes.Ok)) all);
  failed = omega (arith, is (written outcomes.Failed) 0 1 failed_counts, length-filter (is_write (has_outcome outcomes.Failed)) kept, length-filter (is_write (has_outcome outcomes.Failed)) all);
  joined = omega (arith, is joined_in 0 0 joined_none);
  ended = omega (arith, is ended_in 0 0 ended_none);
}

-- at last all are counted
pub counted_all : (s : Summary) (kept all : List Event) (i : ℕ) → length kept ≤ i → AreCounted s (drop i kept) all → text_of s ≡ summary_of all
counted_all s kept all i past were =
    let P : List Event → Type 0 = λ es. AreCounted s es all in
    let from = subst P (drop_all i kept past) were in
    let sent : s.sent ≡ sum_by sent_in all = omega (arith, from.sent) in
    let ok : s.ok ≡ count (is_write (has_outcome outcomes.Ok)) all = omega (arith, from.ok) in
    let failed : s.failed ≡ count (is_write (has_outcome outcomes.Failed)) all = omega (arith, from.failed) in
    let joined : s.joined ≡ sum_by joined_in all = omega (arith, from.joined) in
    let ended : s.ended ≡ sum_by ended_in all = omega (arith, from.ended) in
    rw (sent, ok, failed, joined, ended) refl
