-- Columns that fit: what they tell, and what one more event adds.
use Rattle.std.proofs.Common.{◌≡◌, ℕ, ◌+◌, ◌-◌, ◌<◌, ◌≤◌, List, [], ◌∷◌, ◌++◌, length, take, drop, Some, slice_get, refl, sym, ap, ◌∙◌, subst, arith, append_assoc, length-append, length-drop, length-take, take-append-drop, take_all}
use Rattle.std.specs.Prelude.{option_to_list}
use Rattle.std.specs.List.{sum_by}
use Rattle.std.proofs.Math.Seq.{get_or-append_seam}
use Rattle.std.proofs.lemmas.Option.{slice_get-get_or}
use Rattle.std.proofs.lemmas.List.{take-append-le, drop-append-le, append-nil}
use Rattle.std.proofs.lemmas.List.Sums.{sum_by-cons, sum_by_push}
use Rattle.hx_cluster.specs.declared.happenings.Event.{Event}
use Rattle.hx_history.specs.declared.kinds.Kind.{Kind}
use Rattle.hx_history.specs.declared.kinds.Kind.TheVariants as kinds
use Rattle.hx_history.specs.Columns.{words_of, kept_of, event_of, events_of, Fit}

-- a kind tells an event where the one that it keeps is there
pub told_one : (k : Kind) (ws : List ℕ) (es : List Event) → kept_of k ≤ length es → (e : Event) × (event_of k ws es ≡ Some e)
told_one kinds.Whole ws [] h = absurd (omega arith)
told_one kinds.Whole ws (e ∷ es) h = (e, refl)
told_one kinds.Line ws es h = (_, refl)
told_one kinds.Tick ws es h = (_, refl)
told_one kinds.Begin ws es h = (_, refl)
told_one kinds.Live ws es h = (_, refl)
told_one kinds.Mail ws es h = (_, refl)
told_one kinds.States ws es h = (_, refl)
told_one kinds.Ideals ws es h = (_, refl)
told_one kinds.FetchNobody ws es h = (_, refl)
told_one kinds.Fetch ws es h = (_, refl)
told_one kinds.Take ws es h = (_, refl)
told_one kinds.WriteOk ws es h = (_, refl)
told_one kinds.WriteFailed ws es h = (_, refl)
told_one kinds.Ack ws es h = (_, refl)
told_one kinds.LongMail ws es h = (_, refl)
told_one kinds.LongStates ws es h = (_, refl)
told_one kinds.LongFetch ws es h = (_, refl)
told_one kinds.LongTake ws es h = (_, refl)
told_one kinds.LongWriteOk ws es h = (_, refl)
told_one kinds.LongWriteFailed ws es h = (_, refl)
told_one kinds.LongAck ws es h = (_, refl)

-- the columns behind the first kind
pub record FitsOn (k : Kind) (ks : List Kind) (ws : List ℕ) (es : List Event) : Type 0 where
  pub words : words_of k ≤ length ws
  pub kept : kept_of k ≤ length es
  pub rest : Fit ks (drop (words_of k) ws) (drop (kept_of k) es)

pub fits_on : (k : Kind) (ks : List Kind) (ws : List ℕ) (es : List Event) → Fit (k ∷ ks) ws es → FitsOn k ks ws es
fits_on k ks ws es fit =
    let w : length ws ≡ words_of k + sum_by words_of ks = fit.words ∙ sum_by-cons words_of k ks in
    let e : length es ≡ kept_of k + sum_by kept_of ks = fit.kept ∙ sum_by-cons kept_of k ks in
    record {
      words = omega arith;
      kept = omega arith;
      rest = record {
        words = simp length-drop (omega arith);
        kept = simp length-drop (omega arith);
      };
    }

-- columns that fit tell an event for each kind
pub one_each : (ks : List Kind) (ws : List ℕ) (es : List Event) → Fit ks ws es → length (events_of ks ws es) ≡ length ks
one_each [] ws es fit = refl
one_each (k ∷ ks) ws es fit =
    let on = fits_on k ks ws es fit in
    let enough : kept_of k ≤ length (take (kept_of k) es) = simp length-take (omega arith) in
    let one = told_one k (take (words_of k) ws) (take (kept_of k) es) enough in
    rw (one.1, one_each ks _ _ on.rest) refl

-- what other columns tell behind them
pub told_behind : (ks ls : List Kind) (ws vs : List ℕ) (es fs : List Event) → Fit ks ws es → events_of (ks ++ ls) (ws ++ vs) (es ++ fs) ≡ events_of ks ws es ++ events_of ls vs fs
told_behind [] ls [] vs [] fs fit = refl
told_behind [] ls (w ∷ ws) vs es fs fit = absurd (omega (arith, fit.words))
told_behind [] ls [] vs (e ∷ es) fs fit = absurd (omega (arith, fit.kept))
told_behind (k ∷ ks) ls ws vs es fs fit =
    let on = fits_on k ks ws es fit in
    let words : words_of k ≤ length ws = on.words in
    let kept : kept_of k ≤ length es = on.kept in
    rw (take-append-le (words_of k) ws vs words, take-append-le (kept_of k) es fs kept, drop-append-le (words_of k) ws vs words, drop-append-le (kept_of k) es fs kept)
    (ap (λ xs. option_to_list (event_of k (take (words_of k) ws) (take (kept_of k) es)) ++ xs) (told_behind ks ls _ vs _ fs on.rest)
    ∙ sym (append_assoc (option_to_list (event_of k (take (words_of k) ws) (take (kept_of k) es))) _ _))

-- what a kind, its words and what it keeps tell
pub record TellsOne (k : Kind) (ws : List ℕ) (es : List Event) (e : Event) : Type 0 where
  pub words : length ws ≡ words_of k
  pub kept : length es ≡ kept_of k
  pub event : event_of k ws es ≡ Some e

pub told_last : (ks : List Kind) (k : Kind) (ws vs : List ℕ) (es fs : List Event) (e : Event) → Fit ks ws es → TellsOne k vs fs e → events_of (ks ++ k ∷ []) (ws ++ vs) (es ++ fs) ≡ events_of ks ws es ++ e ∷ []
told_last ks k ws vs es fs e fit one =
    let words : length vs ≤ words_of k = omega (arith, one.words) in
    let kept : length fs ≤ kept_of k = omega (arith, one.kept) in
    told_behind ks (k ∷ []) ws vs es fs fit
    ∙ ap (λ xs. events_of ks ws es ++ xs) (rw (take_all (words_of k) vs words, take_all (kept_of k) fs kept, one.event) refl)

pub fits_more : (ks : List Kind) (k : Kind) (ws vs : List ℕ) (es fs : List Event) (e : Event) → Fit ks ws es → TellsOne k vs fs e → Fit (ks ++ k ∷ []) (ws ++ vs) (es ++ fs)
fits_more ks k ws vs es fs e fit one = record {
  words = length-append ws vs ∙ omega (arith, fit.words, one.words, sum_by_push words_of ks k);
  kept = length-append es fs ∙ omega (arith, fit.kept, one.kept, sum_by_push kept_of ks k);
}

-- an event that words tell, and one that is kept as it is
pub told_words : (ks : List Kind) (k : Kind) (ws vs : List ℕ) (es : List Event) (e : Event) → Fit ks ws es → TellsOne k vs [] e → events_of (ks ++ k ∷ []) (ws ++ vs) es ≡ events_of ks ws es ++ e ∷ []
told_words ks k ws vs es e fit one =
    ap (λ fs. events_of (ks ++ k ∷ []) (ws ++ vs) fs) (sym (append-nil es)) ∙ told_last ks k ws vs es [] e fit one

pub told_whole : (ks : List Kind) (ws : List ℕ) (es : List Event) (e : Event) → Fit ks ws es → events_of (ks ++ kinds.Whole ∷ []) ws (es ++ e ∷ []) ≡ events_of ks ws es ++ e ∷ []
told_whole ks ws es e fit =
    ap (λ vs. events_of (ks ++ kinds.Whole ∷ []) vs (es ++ e ∷ [])) (sym (append-nil ws))
    ∙ told_last ks kinds.Whole ws [] es (e ∷ []) e fit (record { words = refl; kept = refl; event = refl })

-- the item at the end
at_end : {X : Type 0} (xs : List X) (x : X) → slice_get (xs ++ x ∷ []) (length (xs ++ x ∷ []) - 1) ≡ Some x
at_end xs x =
    let len : length (xs ++ x ∷ []) - 1 ≡ length xs = omega (arith, length-append xs (x ∷ [])) in
    let lt : length xs < length (xs ++ x ∷ []) = omega (arith, length-append xs (x ∷ [])) in
    rw len (slice_get-get_or (xs ++ x ∷ []) (length xs) x lt ∙ ap Some (get_or-append_seam xs x [] x))

-- the last event is told by the last words, or kept last
told_at_seam : (ks : List Kind) (k : Kind) (ws vs : List ℕ) (es fs : List Event) → Fit ks ws es → length vs ≡ words_of k → length fs ≡ kept_of k
    → slice_get (events_of (ks ++ k ∷ []) (ws ++ vs) (es ++ fs)) (length (events_of (ks ++ k ∷ []) (ws ++ vs) (es ++ fs)) - 1) ≡ event_of k vs fs
told_at_seam ks k ws vs es fs fit words kept =
    let enough : kept_of k ≤ length fs = omega arith in
    let one = told_one k vs fs enough in
    rw (told_last ks k ws vs es fs one.0 fit (record { words = words; kept = kept; event = one.1 })) (at_end (events_of ks ws es) one.0 ∙ sym one.1)

told_at_end : (ks : List Kind) (k : Kind) (ws : List ℕ) (es : List Event) → Fit (ks ++ k ∷ []) ws es
    → slice_get (events_of (ks ++ k ∷ []) ws es) (length (events_of (ks ++ k ∷ []) ws es) - 1) ≡ event_of k (drop (length ws - words_of k) ws) (drop (length es - kept_of k) es)
told_at_end ks k ws es fit =
    let n : ℕ = length ws - words_of k in
    let m : ℕ = length es - kept_of k in
    let words : length ws ≡ sum_by words_of ks + words_of k = fit.words ∙ sum_by_push words_of ks k in
    let kept : length es ≡ sum_by kept_of ks + kept_of k = fit.kept ∙ sum_by_push kept_of ks k in
    let before : Fit ks (take n ws) (take m es) = record { words = simp length-take (omega arith); kept = simp length-take (omega arith) } in
    let last_words : length (drop n ws) ≡ words_of k = simp length-drop (omega arith) in
    let last_kept : length (drop m es) ≡ kept_of k = simp length-drop (omega arith) in
    let P : List ℕ → List Event → Type 0 = λ xs ys. slice_get (events_of (ks ++ k ∷ []) xs ys) (length (events_of (ks ++ k ∷ []) xs ys) - 1) ≡ event_of k (drop n ws) (drop m es) in
    subst (λ xs. P xs es) (take-append-drop n ws)
    (subst (λ ys. P (take n ws ++ drop n ws) ys) (take-append-drop m es) (told_at_seam ks k (take n ws) (drop n ws) (take m es) (drop m es) before last_words last_kept))

-- the same of parts that were read from the columns
pub told_last_of : (ks seen rest : List Kind) (k : Kind) (ws vs : List ℕ) (es fs xs : List Event) (n m : ℕ) → Fit ks ws es → seen ≡ ks → seen ≡ rest ++ k ∷ [] → vs ≡ ws → fs ≡ es → n ≡ words_of k → m ≡ kept_of k
    → events_of ks ws es ≡ xs → event_of k (drop (length vs - n) vs) (drop (length fs - m) fs) ≡ slice_get xs (length xs - 1)
told_last_of ks seen rest k ws vs es fs xs n m fit same last words kept many one told =
    let is : ks ≡ rest ++ k ∷ [] = sym same ∙ last in
    let P : List Kind → Type 0 = λ js. Fit js ws es in
    rw (words, kept, many, one, ← told, is) (sym (told_at_end rest k ws es (subst P is fit)))
