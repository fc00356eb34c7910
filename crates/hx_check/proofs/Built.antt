-- The history that the lines of a log build.
use Rattle.std.proofs.Common.{◌≡◌, ℕ, ◌+◌, List, [], ◌∷◌, ◌++◌, map, length, Result, Ok, Err, refl, sym, ap, ◌∙◌, subst, append-nil, append_assoc, arith}
use Rattle.hx_cluster.specs.declared.description.Spec.{Spec}
use Rattle.hx_cluster.specs.declared.state.Cluster.{Cluster}
use Rattle.hx_cluster.specs.declared.happenings.Event.{Event}
use Rattle.hx_cluster.specs.Valid.{IsValid}
use Rattle.hx_cluster.specs.Steps.{opening}
use Rattle.hx_cluster.specs.Events.{next, replay}
use Rattle.hx_script.specs.declared.log.LogLine.{LogLine}
use Rattle.hx_script.specs.LogEntries.{entry_told_by}
use Rattle.hx_check.specs.declared.Cause.{Cause}
use Rattle.hx_check.specs.declared.Verdict.{Verdict}
use Rattle.hx_check.specs.declared.Verdict.TheVariants as verdicts
use Rattle.hx_check.specs.Standing.{opening_standing, stood_after, standing_of}
use Rattle.hx_check.specs.Judge.{judged_entry, event_of, IsNext, goes_on, judged_from, built_on, built_from, built, told_along, IsToldBy}
use Rattle.hx_check.proofs.Standings.{stood_more}
use Rattle.hx_check.proofs.Nexts.{next_is}

told_more : (c : Cluster) (h : List Event) (e : Event) → told_along c (h ++ e ∷ []) ≡ told_along c h ++ entry_told_by (replay c h) e ∷ []
told_more c [] e = refl
told_more c (x ∷ h) e = ap (λ ts. entry_told_by c x ∷ ts) (told_more (next c x) h e)

map-more : {X Y : Type 0} (f : X → Y) (xs : List X) (x : X) → map f (xs ++ x ∷ []) ≡ map f xs ++ f x ∷ []
map-more f [] x = refl
map-more f (y ∷ ys) x = ap (λ zs. f y ∷ zs) (map-more f ys x)

-- one more line
told_next : (spec : Spec) (h : List Event) (before : List LogLine) (l : LogLine) (e : Event) → IsToldBy spec h before → IsNext spec h l e → IsToldBy spec (h ++ e ∷ []) (before ++ l ∷ [])
told_next spec h before l e is next = record {
  lawful = next.0;
  told = told_more (opening spec) h e
      ∙ ap (λ ts. ts ++ entry_told_by (replay (opening spec) h) e ∷ []) is.told
      ∙ ap (λ t. map (λ (x : LogLine). x.entry) before ++ t ∷ []) next.1
      ∙ sym (map-more (λ (x : LogLine). x.entry) before l);
}

-- where a verdict on the lines behind others comes from: each has a next event, or the first that has none is at fault
pub record IsJudged (spec : Spec) (h : List Event) (before : List LogLine) (lines : List LogLine) (n : ℕ) (verdict : Verdict) : Type 0 where
  pub lawful : (m : ℕ) → verdict ≡ verdicts.Lawful m → IsToldBy spec (h ++ built_from spec (standing_of spec h) lines) (before ++ lines) × (m ≡ n + length lines)
  pub unlawful : (line : ℕ) (cause : Cause) → verdict ≡ verdicts.Unlawful line cause →
      (good : List LogLine) × (l : LogLine) × (rest : List LogLine) × (es : List Event) ×
      (lines ≡ good ++ l ∷ rest) × IsToldBy spec (h ++ es) (before ++ good) × (l.line ≡ line) × (judged_entry spec (standing_of spec (h ++ es)) l.entry ≡ Err cause)

standing_more : (spec : Spec) (h : List Event) (e : Event) → standing_of spec (h ++ e ∷ []) ≡ stood_after (standing_of spec h) e
standing_more spec h e = stood_more (opening_standing spec) h e

pub lines_judged : (spec : Spec) (h : List Event) (before lines : List LogLine) (n : ℕ) → IsValid spec → IsToldBy spec h before
    → IsJudged spec h before lines n (judged_from spec (standing_of spec h) n lines)
lines_judged spec h before [] n valid is = record {
  lawful = λ m e. (
    subst (λ (es : List Event). IsToldBy spec es (before ++ [])) (sym (append-nil h)) (subst (IsToldBy spec h) (sym (append-nil before)) is),
    let same : n ≡ m = cc in omega (arith, same),
  );
  unlawful = λ line cause e. cc;
}
lines_judged spec h before (l ∷ ls) n valid is =
    one (judged_entry spec (standing_of spec h) l.entry) refl (λ x told. lines_judged spec (h ++ x ∷ []) (before ++ l ∷ []) ls (n + 1) valid told)
  where
    one : (r : Result Event Cause) → judged_entry spec (standing_of spec h) l.entry ≡ r
        → ((x : Event) → IsToldBy spec (h ++ x ∷ []) (before ++ l ∷ [])
        → IsJudged spec (h ++ x ∷ []) (before ++ l ∷ []) ls (n + 1) (judged_from spec (standing_of spec (h ++ x ∷ [])) (n + 1) ls))
        → IsJudged spec h before (l ∷ ls) n (judged_from spec (standing_of spec h) n (l ∷ ls))
    one (Err cause) bad later = record {
      lawful = λ m e. let none : verdicts.Unlawful l.line cause ≡ verdicts.Lawful m = sym (ap (λ r. goes_on l.line r (λ e. judged_from spec (stood_after (standing_of spec h) e) (n + 1) ls)) bad) ∙ e in cc;
      unlawful = λ line other e.
          let same : verdicts.Unlawful l.line cause ≡ verdicts.Unlawful line other = sym (ap (λ r. goes_on l.line r (λ e. judged_from spec (stood_after (standing_of spec h) e) (n + 1) ls)) bad) ∙ e in
          let lines_same : l.line ≡ line = cc in
          let causes_same : cause ≡ other = cc in (
            [],
            l,
            ls,
            [],
            refl,
            subst (λ (es : List Event). IsToldBy spec es (before ++ [])) (sym (append-nil h)) (subst (IsToldBy spec h) (sym (append-nil before)) is),
            lines_same,
            ap (λ (es : List Event). judged_entry spec (standing_of spec es) l.entry) (append-nil h) ∙ bad ∙ ap Err causes_same,
          );
    }
    one (Ok x) good later =
        let next : IsNext spec h l x = next_is spec h valid is.lawful l x (ap event_of good) in
        let more = later x (told_next spec h before l x is next) in
        let go : judged_from spec (standing_of spec h) n (l ∷ ls) ≡ judged_from spec (standing_of spec (h ++ x ∷ [])) (n + 1) ls =
        ap (λ r. goes_on l.line r (λ e. judged_from spec (stood_after (standing_of spec h) e) (n + 1) ls)) good
        ∙ ap (λ w. judged_from spec w (n + 1) ls) (sym (standing_more spec h x)) in
        let builds : x ∷ built_from spec (standing_of spec (h ++ x ∷ [])) ls ≡ built_from spec (standing_of spec h) (l ∷ ls) =
        ap (λ w. x ∷ built_from spec w ls) (standing_more spec h x)
        ∙ sym (ap (λ r. built_on r (λ e. built_from spec (stood_after (standing_of spec h) e) ls)) good) in
        record {
          lawful = λ m e.
              let rest = more.lawful m (sym go ∙ e) in (
                subst (λ (es : List Event). IsToldBy spec es (before ++ l ∷ ls)) (append_assoc h (x ∷ []) (built_from spec (standing_of spec (h ++ x ∷ [])) ls) ∙ ap (λ es. h ++ es) builds)
                    (subst (λ (bs : List LogLine). IsToldBy spec ((h ++ x ∷ []) ++ built_from spec (standing_of spec (h ++ x ∷ [])) ls) bs) (append_assoc before (l ∷ []) ls) rest.0),
                omega (arith, rest.1),
              );
          unlawful = λ line cause e.
              let rest = more.unlawful line cause (sym go ∙ e) in (
                l ∷ rest.0,
                rest.1,
                rest.2,
                x ∷ rest.3,
                ap (λ bs. l ∷ bs) rest.4,
                subst (λ (es : List Event). IsToldBy spec es (before ++ l ∷ rest.0)) (append_assoc h (x ∷ []) rest.3)
                    (subst (λ (bs : List LogLine). IsToldBy spec ((h ++ x ∷ []) ++ rest.3) bs) (append_assoc before (l ∷ []) rest.0) rest.5),
                rest.6,
                ap (λ (es : List Event). judged_entry spec (standing_of spec es) rest.1.entry) (sym (append_assoc h (x ∷ []) rest.3)) ∙ rest.7,
              );
        }

nothing_told : (spec : Spec) → IsToldBy spec [] []
nothing_told spec = record { lawful = (tt, tt); told = refl }

pub lawful_built : (spec : Spec) (lines : List LogLine) (n : ℕ) → IsValid spec → judged_from spec (opening_standing spec) 0 lines ≡ verdicts.Lawful n
    → IsToldBy spec (built spec lines) lines × (n ≡ length lines)
lawful_built spec lines n valid is =
    let whole = (lines_judged spec [] [] lines 0 valid (nothing_told spec)).lawful n is in
    (whole.0, omega (arith, whole.1))

pub first_unlawful : (spec : Spec) (lines : List LogLine) (line : ℕ) (cause : Cause) → IsValid spec → judged_from spec (opening_standing spec) 0 lines ≡ verdicts.Unlawful line cause
    → (good : List LogLine) × (l : LogLine) × (rest : List LogLine) × (h : List Event)
    × (lines ≡ good ++ l ∷ rest) × IsToldBy spec h good × (l.line ≡ line) × (judged_entry spec (standing_of spec h) l.entry ≡ Err cause)
first_unlawful spec lines line cause valid is = (lines_judged spec [] [] lines 0 valid (nothing_told spec)).unlawful line cause is
