-- A text that is printed piece by piece: what was put of it when memory is refused.
use Rattle.std.proofs.Common.{◌≡◌, ℕ, ◌+◌, ◌-◌, ◌<◌, ◌≤◌, suc, List, ◌∷◌, ◌++◌, length, get_or, take, drop, Result, Ok, Err, OnOk, OnErr, sym, ap, ◌∙◌, subst, append_assoc, add-one, drop-cons, length-append, arith}
use Rattle.std.specs.Prelude.{IsErrAnd}
use Rattle.std.proofs.lemmas.Result.{err_from_is_err_and}
use Rattle.std.proofs.lemmas.List.{append-nil, take_all, take-append-drop}
use Rattle.std.proofs.Math.Seq.{take-append-add, take-append_seam}
use Rattle.hx_text.specs.Texts.{PutsFront, Prints, Writes}

-- nothing was put
pub puts_none : (text old new : List ℕ) → new ≡ old → PutsFront text old new
puts_none text old new is = (0, is ∙ sym (append-nil old))

-- the whole was put
pub puts_all : (text old new : List ℕ) → new ≡ old ++ text → PutsFront text old new
puts_all text old new is = (length text, is ∙ ap (λ t. old ++ t) (sym (take_all (length text) text (omega arith))))

-- a part was put, which the rest completes
pub puts_part : (old new done rest text : List ℕ) → new ≡ old ++ done → done ++ rest ≡ text → PutsFront text old new
puts_part old new done rest text is whole =
    (length done, is ∙ ap (λ t. old ++ t) (sym (ap (take (length done)) (sym whole) ∙ take-append_seam done rest)))

-- a front of the first part
pub puts_first : (old new text more : List ℕ) → PutsFront text old new → PutsFront (text ++ more) old new
puts_first old new text more p =
    puts_part old new (take p.0 text) (drop p.0 text ++ more) (text ++ more) p.1
    (sym (append_assoc (take p.0 text) (drop p.0 text) more) ∙ ap (λ t. t ++ more) (take-append-drop p.0 text))

-- the first part, and a front of the second
pub puts_then : (old mid new text more : List ℕ) → mid ≡ old ++ text → PutsFront more mid new → PutsFront (text ++ more) old new
puts_then old mid new text more is p = (
  length text + p.0,
  p.1 ∙ ap (λ t. t ++ take p.0 more) is ∙ append_assoc old text (take p.0 more) ∙ ap (λ t. old ++ t) (sym (take-append-add text more p.0)),
)

-- a page on which a front of a text stands, with what is left of the text
pub record IsMidway (text old page left : List ℕ) : Type 0 where
  pub whole : page ++ left ≡ old ++ text
  pub grown : length old ≤ length page

-- a front of the whole stands there
pub midway_front : (text old page left : List ℕ) → IsMidway text old page left → PutsFront text old page
midway_front text old page left m =
    let n = length page - length old in
    let lengths : length old + n ≡ length page = omega (arith, m.grown) in (
      n,
      sym (take-append_seam page left) ∙ ap (take (length page)) m.whole ∙ ap (λ k. take k (old ++ text)) (sym lengths) ∙ take-append-add old text n,
    )

-- a front of what is next
pub puts_next : (text old page new part left : List ℕ) → IsMidway text old page (part ++ left) → PutsFront part page new → PutsFront text old new
puts_next text old page new part left m p =
    let front = take p.0 part in
    let rest = drop p.0 part in
    midway_front text old new (rest ++ left) (record {
      whole =
          ap (λ t. t ++ (rest ++ left)) p.1
          ∙ append_assoc page front (rest ++ left)
          ∙ ap (λ t. page ++ t) (sym (append_assoc front rest left) ∙ ap (λ t. t ++ left) (take-append-drop p.0 part))
          ∙ m.whole;
      grown = omega (arith, m.grown, ap length p.1, length-append page front);
    })

-- the same of the texts of items, one after the other
pub puts_item : {X : Type 0} (f : X → List ℕ) (g : List X → List ℕ) → ((x : X) (xs : List X) → g (x ∷ xs) ≡ f x ++ g xs)
    → (xs : List X) (i : ℕ) (d : X) (text old page new : List ℕ) → i < length xs → IsMidway text old page (g (drop i xs)) → PutsFront (f (get_or xs i d)) page new
    → PutsFront text old new
puts_item f g step xs i d text old page new lt m p =
    let next : g (drop i xs) ≡ f (get_or xs i d) ++ g (drop (i + 1) xs) =
    rw add-one (ap g (drop-cons xs i d lt) ∙ step (get_or xs i d) (drop (suc i) xs)) in
    puts_next text old page new (f (get_or xs i d)) (g (drop (i + 1) xs))
    (record { whole = ap (λ t. page ++ t) (sym next) ∙ m.whole; grown = m.grown })
    p

-- a call that hands on the want of memory of a call in it
pub prints_err : {T E : Type 0} (Q : E → Type 0) (text old new : List ℕ) (result : Result T E) → IsErrAnd result Q → PutsFront text old new → Prints text old result new
prints_err Q text old new result failed p = rw (err_from_is_err_and result failed).1 (record { ok = tt; err = p })

-- a call that prints all or nothing
pub prints_or_none : {T E : Type 0} (text old new : List ℕ) (result : Result T E) → OnOk result (new ≡ old ++ text) → OnErr result (new ≡ old) → Prints text old result new
prints_or_none text old new (Ok x) ok err = record { ok = ok; err = tt }
prints_or_none text old new (Err e) ok err = record { ok = tt; err = puts_none text old new err }

-- a text behind what was printed before it
pub prints_then : {T E : Type 0} (old mid new text more : List ℕ) (result : Result T E) → mid ≡ old ++ text → Prints more mid result new → Prints (text ++ more) old result new
prints_then old mid new text more (Ok x) is p = record { ok = p.ok ∙ ap (λ t. t ++ more) is ∙ append_assoc old text more; err = tt }
prints_then old mid new text more (Err e) is p = record { ok = tt; err = puts_then old mid new text more is p.err }

-- a text behind what was printed before it, by a call that prints all or nothing
pub prints_next : {T E : Type 0} (old mid new first second text : List ℕ) (result : Result T E) → mid ≡ old ++ first → OnOk result (new ≡ mid ++ second) → OnErr result (new ≡ mid)
    → first ++ second ≡ text → Prints text old result new
prints_next old mid new first second text result is ok err whole =
    subst (λ t. Prints t old result new) whole (prints_then old mid new first second result is (prints_or_none second mid new result ok err))

-- a call that printed the whole before it answers
pub prints_whole : {T E : Type 0} (text old new : List ℕ) (result : Result T E) → new ≡ old ++ text → Prints text old result new
prints_whole text old new (Ok x) is = record { ok = is; err = tt }
prints_whole text old new (Err e) is = record { ok = tt; err = puts_all text old new is }

-- a text written behind another
pub writes_then : {first second : List ℕ} {at between end : ℕ} {old mid new : List ℕ} → Writes first at old between mid → Writes second between mid end new → Writes (first ++ second) at old end new
writes_then {first} {second} {at} {between} {end} {old} {mid} {new} p q = record {
  text_end = omega (arith, p.text_end, q.text_end, length-append first second);
  front = q.front ∙ ap (λ t. t ++ second) p.front ∙ append_assoc (take at old) first second;
  same_length = q.same_length ∙ p.same_length;
}
