-- The line that a board takes next is the next one of the lines that are given in turn.
use Rattle.std.proofs.Common.{◌≡◌, ℕ, zero, suc, ◌+◌, ◌<◌, ◌≤◌, ◌&&◌, Bool, true, List, [], ◌∷◌, take, length, Option, None, Some, refl, sym, ap, subst, ◌∙◌, arith}
use Rattle.std.specs.Prelude.{nat_lt, slice_get, slice_index_or}
use Rattle.std.specs.List.{list_all}
use Rattle.std.proofs.lemmas.Bool.Decides.{nat_tests}
use Rattle.hx_cluster.specs.declared.description.Spec.{Spec}
use Rattle.hx_cluster.specs.declared.state.Cluster.{Cluster}
use Rattle.hx_cluster.specs.declared.happenings.Event.{Event}
use Rattle.hx_cluster.specs.declared.happenings.Event.TheVariants as events
use Rattle.hx_cluster.specs.Steps.{opening}
use Rattle.hx_cluster.specs.Events.{next, replay, is_later}
use Rattle.hx_safe.specs.Ordered.{rises}
use Rattle.hx_safe.proofs.Counting.{and-first, and-second, and-both}
use Rattle.hx_board.specs.Board.{Held, HasHistory, lines_in, next_line_of}
use Rattle.hx_script.specs.declared.Line.{Line}
use Rattle.hx_script.specs.Ranges.{is_line_in_range}
use Rattle.hx_scripted.proofs.Lines.{step-line, pass-line, dispatch-line, write-line}
use Rattle.hx_worlds.specs.Scripts.{is_next_line, are_next_lines}
use Rattle.hx_app.specs.Simulation.{numbers_of}

-- the last of some numbers, behind one before them
abbrev pub last_from : Option ℕ → List ℕ → Option ℕ
last_from last [] = last
last_from last (n ∷ ns) = last_from (Some n) ns

-- the last line of a cluster is the last that happened
other-line : (c : Cluster) (e : Event) (es : List Event) (more : (d : Cluster) → (replay d es).line ≡ last_from d.line (lines_in es)) → (next c e).line ≡ c.line → (replay (next c e) es).line ≡ last_from c.line (lines_in es)
other-line c e es more same = more (next c e) ∙ ap (λ last. last_from last (lines_in es)) same

pub replay-line : (h : List Event) (c : Cluster) → (replay c h).line ≡ last_from c.line (lines_in h)
replay-line [] c = refl
replay-line (events.Admin step did ∷ es) c = other-line c (events.Admin step did) es (replay-line es) (step-line c step)
replay-line (events.Line n ∷ es) c = replay-line es (next c (events.Line n))
replay-line (events.Begin k begun ∷ es) c = other-line c (events.Begin k begun) es (replay-line es) (pass-line c k)
replay-line (events.Live k pass ∷ es) c = replay-line es c
replay-line (events.Mail k pass s ∷ es) c = replay-line es c
replay-line (events.States k pass s ∷ es) c = replay-line es c
replay-line (events.Ideals k pass ∷ es) c = replay-line es c
replay-line (events.Dispatch k epoch pass proposals answer ∷ es) c = other-line c (events.Dispatch k epoch pass proposals answer) es (replay-line es) (dispatch-line c k proposals)
replay-line (events.Post k epoch rows ∷ es) c = replay-line es (next c (events.Post k epoch rows))
replay-line (events.Fetch i s n ∷ es) c = replay-line es c
replay-line (events.Take s id ∷ es) c = replay-line es (next c (events.Take s id))
replay-line (events.Write s id outcome ∷ es) c = other-line c (events.Write s id outcome) es (replay-line es) (write-line c s id outcome)
replay-line (events.Ack s id ∷ es) c = replay-line es (next c (events.Ack s id))

-- numbers that rise: no two fronts of them end with the same
all-later : (n m : ℕ) (ns : List ℕ) → nat_lt n m ≡ true → list_all (nat_lt m) ns ≡ true → list_all (nat_lt n) ns ≡ true
all-later n m [] below all = refl
all-later n m (k ∷ ns) below all =
    let first = and-first (nat_lt m k) (list_all (nat_lt m) ns) all in
    and-both (nat_lt n k) (list_all (nat_lt n) ns) (grind (arith, nat_tests, below, first)) (all-later n m ns below (and-second (nat_lt m k) (list_all (nat_lt m) ns) all))

above : (n m : ℕ) (ns : List ℕ) (i : ℕ) → nat_lt n m ≡ true → rises nat_lt (m ∷ ns) ≡ true → (last : ℕ) → Some last ≡ last_from (Some m) (take i ns) → nat_lt n last ≡ true
above n m ns zero below rise last is = one last m (is) below
  where
    one : (a b : ℕ) → Some a ≡ Some b → nat_lt n b ≡ true → nat_lt n a ≡ true
    one a b same lt = cc
above n m [] (suc i) below rise last is = one last m is below
  where
    one : (a b : ℕ) → Some a ≡ Some b → nat_lt n b ≡ true → nat_lt n a ≡ true
    one a b same lt = cc
above n m (k ∷ ns) (suc i) below rise last is =
    let less = and-first (nat_lt m k) (list_all (nat_lt m) ns) (and-first (list_all (nat_lt m) (k ∷ ns)) (rises nat_lt (k ∷ ns)) rise) in
    above n k ns i (grind (arith, nat_tests, below, less)) (and-second (list_all (nat_lt m) (k ∷ ns)) (rises nat_lt (k ∷ ns)) rise) last is

-- nor is one before them the last of a front that has any
no_front : (before : Option ℕ) (n : ℕ) (ns : List ℕ) (i : ℕ) → is_later before n ≡ true → rises nat_lt (n ∷ ns) ≡ true → before ≡ last_from (Some n) (take i ns) → ⊥
no_front None n ns i later rise is = some n (take i ns) is
  where
    some : (m : ℕ) (ms : List ℕ) → None ≡ last_from (Some m) ms → ⊥
    some m [] e = cc
    some m (k ∷ ms) e = some k ms e
no_front (Some b) n ns i later rise is = let lt = above b n ns i later rise b is in grind (arith, nat_tests, lt)

abbrev are_later : Option ℕ → List ℕ → Bool
are_later before [] = true
are_later before (n ∷ ns) = is_later before n && rises nat_lt (n ∷ ns)

rest_later : (before : Option ℕ) (n : ℕ) (ns : List ℕ) → are_later before (n ∷ ns) ≡ true → are_later (Some n) ns ≡ true
rest_later before n [] e = refl
rest_later before n (m ∷ ns) e =
    let rise = and-second (is_later before n) (rises nat_lt (n ∷ m ∷ ns)) e in
    and-both (nat_lt n m) (rises nat_lt (m ∷ ns)) (and-first (nat_lt n m) (list_all (nat_lt n) ns) (and-first (list_all (nat_lt n) (m ∷ ns)) (rises nat_lt (m ∷ ns)) rise))
    (and-second (list_all (nat_lt n) (m ∷ ns)) (rises nat_lt (m ∷ ns)) rise)

same_front : (before : Option ℕ) (ns : List ℕ) (i j : ℕ) → are_later before ns ≡ true → i ≤ length ns → j ≤ length ns → last_from before (take i ns) ≡ last_from before (take j ns) → i ≡ j
same_front before [] zero zero e il jl is = refl
same_front before [] (suc i) j e il jl is = absurd (omega arith)
same_front before [] zero (suc j) e il jl is = absurd (omega arith)
same_front before (n ∷ ns) zero zero e il jl is = refl
same_front before (n ∷ ns) zero (suc j) e il jl is = absurd (no_front before n ns j (and-first (is_later before n) (rises nat_lt (n ∷ ns)) e) (and-second (is_later before n) (rises nat_lt (n ∷ ns)) e) is)
same_front before (n ∷ ns) (suc i) zero e il jl is = absurd (no_front before n ns i (and-first (is_later before n) (rises nat_lt (n ∷ ns)) e) (and-second (is_later before n) (rises nat_lt (n ∷ ns)) e) (sym is))
same_front before (n ∷ ns) (suc i) (suc j) e il jl is = ap suc (same_front (Some n) ns i j (rest_later before n ns e) (omega arith) (omega arith) is)

-- the numbers of lines that are given in turn rise
lines_later : (spec : Spec) (last : Option ℕ) (lines : List Line) → are_next_lines spec last lines ≡ true → are_later last (numbers_of lines) ≡ true
lines_later spec last [] e = refl
lines_later spec last (l ∷ ls) e =
    let first = and-first (is_next_line spec last l) (are_next_lines spec (Some l.number) ls) e in
    let more = lines_later spec (Some l.number) ls (and-second (is_next_line spec last l) (are_next_lines spec (Some l.number) ls) e) in
    and-both (is_later last l.number) (rises nat_lt (numbers_of (l ∷ ls))) (and-first (is_later last l.number) (is_line_in_range spec l) first) (rise l.number (numbers_of ls) more)
  where
    rise : (n : ℕ) (ns : List ℕ) → are_later (Some n) ns ≡ true → rises nat_lt (n ∷ ns) ≡ true
    rise n [] e = refl
    rise n (m ∷ ns) e =
        let less = and-first (nat_lt n m) (rises nat_lt (m ∷ ns)) e in
        let rest = and-second (nat_lt n m) (rises nat_lt (m ∷ ns)) e in
        and-both (list_all (nat_lt n) (m ∷ ns)) (rises nat_lt (m ∷ ns))
        (and-both (nat_lt n m) (list_all (nat_lt n) ns) less (all-later n m ns less (and-first (list_all (nat_lt m) ns) (rises nat_lt ns) rest))) rest

pub lines_rise : (spec : Spec) (lines : List Line) → are_next_lines spec None lines ≡ true → rises nat_lt (numbers_of lines) ≡ true
lines_rise spec lines e = one (numbers_of lines) (lines_later spec None lines e)
  where
    one : (ns : List ℕ) → are_later None ns ≡ true → rises nat_lt ns ≡ true
    one [] e = refl
    one (n ∷ ns) e = and-second true (rises nat_lt (n ∷ ns)) e

-- as many lines were taken as have been done
front_length : (k : ℕ) (ns ls : List ℕ) → ls ≡ take k ns → k ≡ length ls → k ≤ length ns
front_length k ns ls is same = one k ns (same ∙ ap length is)
  where
    one : (k : ℕ) (ns : List ℕ) → k ≡ length (take k ns) → k ≤ length ns
    one zero ns e = omega arith
    one (suc k) [] e = omega arith
    one (suc k) (n ∷ ns) e = omega (arith, one k ns (omega arith))

number_at : (lines : List Line) (i : ℕ) (d : Line) → i < length lines → slice_get (numbers_of lines) i ≡ Some (slice_index_or lines i d).number
number_at [] i d below = absurd (omega arith)
number_at (l ∷ ls) zero d below = refl
number_at (l ∷ ls) (suc i) d below = number_at ls i d (omega arith)

many_numbers : (lines : List Line) → length (numbers_of lines) ≡ length lines
many_numbers [] = refl
many_numbers (l ∷ ls) = ap suc (many_numbers ls)

pub next_is : (spec : Spec) (lines : List Line) (i : ℕ) (d : Line) (b : Held) → are_next_lines spec None lines ≡ true → HasHistory b → b.lines ≡ numbers_of lines
    → b.cluster.line ≡ last_from None (take i (numbers_of lines)) → i < length lines → next_line_of b ≡ Some (slice_index_or lines i d).number
next_is spec lines i d b given history numbers last below =
    let taken = lines_in b.history in
    let ns = numbers_of lines in
    let front : taken ≡ take (length taken) ns = history.lines ∙ ap (take (length taken)) numbers in
    let ended : last_from None taken ≡ last_from None (take i ns) = sym (replay-line b.history (opening b.spec)) ∙ ap (λ (c : Cluster). c.line) history.replays ∙ last in
    let same : length taken ≡ i =
    same_front None ns (length taken) i (lines_later spec None lines given) (front_length (length taken) ns taken front refl) (omega (arith, many_numbers lines, below))
    (ap (last_from None) (sym front) ∙ ended) in
    ap (λ ls. slice_get ls (length taken)) numbers ∙ ap (slice_get ns) same ∙ number_at lines i d below

-- which can be given next, and is the last once it is done
pub next_given : (spec : Spec) (before : Option ℕ) (lines : List Line) (i : ℕ) (d : Line) → are_next_lines spec before lines ≡ true → i < length lines
    → is_next_line spec (last_from before (take i (numbers_of lines))) (slice_index_or lines i d) ≡ true
next_given spec before [] i d given below = absurd (omega arith)
next_given spec before (l ∷ ls) zero d given below = and-first (is_next_line spec before l) (are_next_lines spec (Some l.number) ls) given
next_given spec before (l ∷ ls) (suc i) d given below =
    next_given spec (Some l.number) ls i d (and-second (is_next_line spec before l) (are_next_lines spec (Some l.number) ls) given) (omega arith)

last_at : (before : Option ℕ) (lines : List Line) (i : ℕ) (d : Line) → i < length lines → last_from before (take (suc i) (numbers_of lines)) ≡ Some (slice_index_or lines i d).number
last_at before [] i d below = absurd (omega arith)
last_at before (l ∷ ls) zero d below = refl
last_at before (l ∷ ls) (suc i) d below = last_at (Some l.number) ls i d (omega arith)

pub last_more : (before : Option ℕ) (lines : List Line) (i : ℕ) (d : Line) → i < length lines → last_from before (take (i + 1) (numbers_of lines)) ≡ Some (slice_index_or lines i d).number
last_more before lines i d below =
    let same : suc i ≡ i + 1 = omega arith in
    subst (λ (n : ℕ). last_from before (take n (numbers_of lines)) ≡ Some (slice_index_or lines i d).number) same (last_at before lines i d below)
