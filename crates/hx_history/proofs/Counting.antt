-- What columns that fit are counted by.
use Rattle.std.proofs.Common.{◌≡◌, ℕ, zero, suc, ◌+◌, ◌*◌, ◌≤◌, Bool, List, [], ◌∷◌, length, take, drop, refl, ap, ◌∙◌, arith, add-mul}
use Rattle.std.specs.Prelude.{option_to_list, slice_index, None, Some}
use Rattle.std.specs.List.{sum_by}
use Rattle.std.proofs.lemmas.List.Sums.{sum_by-cons, sum_by-append}
use Rattle.hx_lists.specs.Lists.{count}
use Rattle.hx_ids.specs.Words.{message, session}
use Rattle.hx_cluster.specs.declared.happenings.Outcome.TheVariants as outcomes
use Rattle.hx_cluster.specs.declared.happenings.Event.{Event}
use Rattle.hx_history.specs.declared.kinds.Kind.{Kind}
use Rattle.hx_history.specs.declared.kinds.Kind.TheVariants as kinds
use Rattle.hx_history.specs.Columns.{words_of, kept_of, controller, pass_of, read_controller, read_session, read_pass, fetch_instance, fetch_session, fetch_count, instance_of, count_of, session_of, message_of, begun, event_of, events_of, Fit}
use Rattle.hx_history.specs.Counted.{is_write_of, CountsWrites, IsCountedBy}
use Rattle.hx_history.proofs.Columns.{fits_on}

-- how many kinds pass a test, in two parts
pub count-split : (test : Kind → Bool) (n : ℕ) (ks : List Kind) → count test (take n ks) + count test (drop n ks) ≡ count test ks
count-split test zero ks = omega arith
count-split test (suc n) [] = refl
count-split test (suc n) (k ∷ ks) = grind (arith, count-split test n ks)

-- those are at most all
pub count-le : (test : Kind → Bool) (ks : List Kind) → count test ks ≤ length ks
count-le test [] = omega arith
count-le test (k ∷ ks) = grind (arith, count-le test ks)

-- what an event of a kind counts for, where words tell it
abbrev weight : ℕ → ℕ → Kind → ℕ
weight a b kinds.WriteOk = a
weight a b kinds.LongWriteOk = a
weight a b kinds.WriteFailed = b
weight a b kinds.LongWriteFailed = b
weight a b _ = 0

-- the first event, with those that are kept behind it
first_counts : (number : Event → ℕ) (a b : ℕ) → CountsWrites number a b → (k : Kind) (ws : List ℕ) (es : List Event) → kept_of k ≤ length es
    → sum_by number (option_to_list (event_of k ws (take (kept_of k) es))) + sum_by number (drop (kept_of k) es) ≡ sum_by number es + weight a b k
first_counts number a b h kinds.Whole ws [] enough = absurd (omega arith)
first_counts number a b h kinds.Whole ws (e ∷ es) enough = omega (arith, sum_by-cons number e es)
first_counts number a b h kinds.Line ws es enough = omega (arith, h.line (slice_index ws 0))
first_counts number a b h kinds.Tick ws es enough = omega (arith, h.tick (slice_index ws 0))
first_counts number a b h kinds.Begin ws es enough = omega (arith, h.begin (controller (slice_index ws 0)) (begun ws))
first_counts number a b h kinds.Live ws es enough = omega (arith, h.live (controller (slice_index ws 0)) (pass_of (slice_index ws 0)))
first_counts number a b h kinds.Mail ws es enough = omega (arith, h.mail (read_controller (slice_index ws 0)) (read_pass (slice_index ws 0)) (read_session (slice_index ws 0)))
first_counts number a b h kinds.States ws es enough = omega (arith, h.states (read_controller (slice_index ws 0)) (read_pass (slice_index ws 0)) (read_session (slice_index ws 0)))
first_counts number a b h kinds.Ideals ws es enough = omega (arith, h.ideals (controller (slice_index ws 0)) (pass_of (slice_index ws 0)))
first_counts number a b h kinds.FetchNobody ws es enough = omega (arith, h.fetch (instance_of (slice_index ws 0)) None (count_of (slice_index ws 0)))
first_counts number a b h kinds.Fetch ws es enough = omega (arith, h.fetch (fetch_instance (slice_index ws 0)) (Some (fetch_session (slice_index ws 0))) (fetch_count (slice_index ws 0)))
first_counts number a b h kinds.Take ws es enough = omega (arith, h.take (session_of (slice_index ws 0)) (message_of (slice_index ws 0)))
first_counts number a b h kinds.WriteOk ws es enough = omega (arith, h.write_ok (session_of (slice_index ws 0)) (message_of (slice_index ws 0)))
first_counts number a b h kinds.WriteFailed ws es enough = omega (arith, h.write_failed (session_of (slice_index ws 0)) (message_of (slice_index ws 0)))
first_counts number a b h kinds.Ack ws es enough = omega (arith, h.ack (session_of (slice_index ws 0)) (message_of (slice_index ws 0)))
first_counts number a b h kinds.LongMail ws es enough = omega (arith, h.mail (controller (slice_index ws 0)) (pass_of (slice_index ws 0)) (session (slice_index ws 1)))
first_counts number a b h kinds.LongStates ws es enough = omega (arith, h.states (controller (slice_index ws 0)) (pass_of (slice_index ws 0)) (session (slice_index ws 1)))
first_counts number a b h kinds.LongFetch ws es enough = omega (arith, h.fetch (instance_of (slice_index ws 0)) (Some (session (slice_index ws 1))) (count_of (slice_index ws 0)))
first_counts number a b h kinds.LongTake ws es enough = omega (arith, h.take (session (slice_index ws 0)) (message (slice_index ws 1)))
first_counts number a b h kinds.LongWriteOk ws es enough = omega (arith, h.write_ok (session (slice_index ws 0)) (message (slice_index ws 1)))
first_counts number a b h kinds.LongWriteFailed ws es enough = omega (arith, h.write_failed (session (slice_index ws 0)) (message (slice_index ws 1)))
first_counts number a b h kinds.LongAck ws es enough = omega (arith, h.ack (session (slice_index ws 0)) (message (slice_index ws 1)))

-- the writes among kinds, one kind more
weight-more : (a b : ℕ) (k : Kind) (ks : List Kind)
    → count (is_write_of outcomes.Ok) (k ∷ ks) * a + count (is_write_of outcomes.Failed) (k ∷ ks) * b
    ≡ weight a b k + (count (is_write_of outcomes.Ok) ks * a + count (is_write_of outcomes.Failed) ks * b)
weight-more a b kinds.WriteOk ks = omega (arith, add-mul 1 (count (is_write_of outcomes.Ok) ks) a)
weight-more a b kinds.WriteFailed ks = omega (arith, add-mul 1 (count (is_write_of outcomes.Failed) ks) b)
weight-more a b kinds.LongWriteOk ks = omega (arith, add-mul 1 (count (is_write_of outcomes.Ok) ks) a)
weight-more a b kinds.LongWriteFailed ks = omega (arith, add-mul 1 (count (is_write_of outcomes.Failed) ks) b)
weight-more a b kinds.Line ks = omega arith
weight-more a b kinds.Tick ks = omega arith
weight-more a b kinds.Begin ks = omega arith
weight-more a b kinds.Live ks = omega arith
weight-more a b kinds.Mail ks = omega arith
weight-more a b kinds.States ks = omega arith
weight-more a b kinds.Ideals ks = omega arith
weight-more a b kinds.FetchNobody ks = omega arith
weight-more a b kinds.Fetch ks = omega arith
weight-more a b kinds.Take ks = omega arith
weight-more a b kinds.Ack ks = omega arith
weight-more a b kinds.LongMail ks = omega arith
weight-more a b kinds.LongStates ks = omega arith
weight-more a b kinds.LongFetch ks = omega arith
weight-more a b kinds.LongTake ks = omega arith
weight-more a b kinds.LongAck ks = omega arith
weight-more a b kinds.Whole ks = omega arith

counts : (number : Event → ℕ) (a b : ℕ) → CountsWrites number a b → (ks : List Kind) (ws : List ℕ) (es : List Event) → Fit ks ws es
    → sum_by number (events_of ks ws es) ≡ sum_by number es + (count (is_write_of outcomes.Ok) ks * a + count (is_write_of outcomes.Failed) ks * b)
counts number a b h [] ws [] fit = omega arith
counts number a b h [] ws (e ∷ es) fit = absurd (omega (arith, fit.kept))
counts number a b h (k ∷ ks) ws es fit =
    let on = fits_on k ks ws es fit in
    let first = first_counts number a b h k (take (words_of k) ws) es on.kept in
    let rest = counts number a b h ks (drop (words_of k) ws) (drop (kept_of k) es) on.rest in
    let all = sum_by-append number (option_to_list (event_of k (take (words_of k) ws) (take (kept_of k) es))) (events_of ks (drop (words_of k) ws) (drop (kept_of k) es)) in
    omega (arith, first, rest, all, weight-more a b k ks)

-- the same of slices that were read from the columns, and numbers of them
pub counted_by : (ks seen : List Kind) (ws : List ℕ) (es kept : List Event) (ok failed : ℕ) → Fit ks ws es → seen ≡ ks → kept ≡ es → ok ≡ count (is_write_of outcomes.Ok) seen
    → failed ≡ count (is_write_of outcomes.Failed) seen → IsCountedBy (events_of ks ws es) kept ok failed
counted_by ks seen ws es kept ok failed fit same whole is_ok is_failed number a b h =
    let now = counts number a b h ks ws es fit in
    let oks : ok ≡ count (is_write_of outcomes.Ok) ks = is_ok ∙ ap (count (is_write_of outcomes.Ok)) same in
    let faileds : failed ≡ count (is_write_of outcomes.Failed) ks = is_failed ∙ ap (count (is_write_of outcomes.Failed)) same in
    let times : ok * a + failed * b ≡ count (is_write_of outcomes.Ok) ks * a + count (is_write_of outcomes.Failed) ks * b = (λ i. oks i * a + faileds i * b) in
    omega (arith, now, times, ap (sum_by number) whole)
