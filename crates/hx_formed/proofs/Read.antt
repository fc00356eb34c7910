-- Items that are read session by session, those of each in order of part, are of live sessions, and none has the session and the part of another one.
use Rattle.std.proofs.Common.{◌≡◌, length, ◌&&◌, ◌||◌, ◌==◌, not, Bool, true, false, List, [], ◌∷◌, None, Some, refl, ◌∙◌, arith}
use Rattle.std.specs.List.{list_all}
use Rattle.std.proofs.lemmas.Bool.Decides.{nat_tests}
use Rattle.hx_lists.specs.Lists.{count}
use Rattle.hx_ids.specs.declared.SessionId.{SessionId}
use Rattle.hx_ids.specs.declared.InstanceId.{InstanceId}
use Rattle.hx_ids.specs.declared.PartId.{PartId}
use Rattle.hx_model.specs.declared.ModelParts.{ModelParts}
use Rattle.hx_cluster.specs.declared.state.Row.{Row}
use Rattle.hx_cluster.specs.declared.state.Message.{Message}
use Rattle.hx_cluster.specs.declared.planning.View.{View}
use Rattle.hx_cluster.specs.Ends.{is_shown, part_eq, part_before}
use Rattle.hx_cluster.specs.Views.{is_good_row, is_good_message}
use Rattle.hx_formed.specs.Reads.{first_part, part_after, is_row_there, is_message_there, behind, are_read}
use Rattle.hx_formed.specs.Sessions.{are_distinct}
use Rattle.hx_formed.proofs.Live.{both}

-- what is of the session and the part of an item
abbrev is_of : {X : Type 0} → (X → SessionId) → (X → PartId) → X → X → Bool
is_of session_of part_of x y = ((session_of y).0 == (session_of x).0) && part_eq (part_of y) (part_of x)

abbrev single : {X : Type 0} → (X → SessionId) → (X → PartId) → List X → X → Bool
single session_of part_of xs x = count (is_of session_of part_of x) xs == 1

-- of a session from a part on, or of one of those behind it
abbrev fits : {X : Type 0} → (X → SessionId) → (X → PartId) → SessionId → PartId → List (SessionId × InstanceId) → X → Bool
fits session_of part_of s from live x = (((session_of x).0 == s.0) && not (part_before (part_of x) from)) || is_shown live (session_of x)

abbrev apart : {X : Type 0} → (X → SessionId) → (X → PartId) → X → X → Bool
apart session_of part_of x y = not (is_of session_of part_of x y) && not (is_of session_of part_of y x)

all_as : {X : Type 0} (p q : X → Bool) → ((x : X) → p x ≡ true → q x ≡ true) → (xs : List X) → list_all p xs ≡ true → list_all q xs ≡ true
all_as p q h [] a = refl
all_as p q h (x ∷ xs) a =
    let first = both (p x) (list_all p xs) a in
    grind (arith, h x first.0, all_as p q h xs first.1)

all_with : {X : Type 0} (p q r : X → Bool) → ((x : X) → p x ≡ true → q x ≡ true → r x ≡ true) → (xs : List X) → list_all p xs ≡ true → list_all q xs ≡ true → list_all r xs ≡ true
all_with p q r h [] a b = refl
all_with p q r h (x ∷ xs) a b =
    let first = both (p x) (list_all p xs) a in
    let second = both (q x) (list_all q xs) b in
    grind (arith, h x first.0 second.0, all_with p q r h xs first.1 second.1)

none_of : {X : Type 0} (session_of : X → SessionId) (part_of : X → PartId) (x : X) (xs : List X) → list_all (apart session_of part_of x) xs ≡ true → count (is_of session_of part_of x) xs ≡ 0
none_of session_of part_of x [] e = refl
none_of session_of part_of x (y ∷ xs) e =
    let first = both (apart session_of part_of x y) (list_all (apart session_of part_of x) xs) e in
    let other = both (not (is_of session_of part_of x y)) (not (is_of session_of part_of y x)) first.0 in
    grind (arith, other.0, none_of session_of part_of x xs first.1)

own : {X : Type 0} (session_of : X → SessionId) (part_of : X → PartId) (x : X) → is_of session_of part_of x x ≡ true
own session_of part_of x = grind (arith, nat_tests)

one_more : {X : Type 0} (session_of : X → SessionId) (part_of : X → PartId) (x : X) (xs : List X) → list_all (apart session_of part_of x) xs ≡ true
    → list_all (single session_of part_of xs) xs ≡ true → list_all (single session_of part_of (x ∷ xs)) (x ∷ xs) ≡ true
one_more session_of part_of x xs e h =
    let first : single session_of part_of (x ∷ xs) x ≡ true = grind (arith, nat_tests, own session_of part_of x, none_of session_of part_of x xs e) in
    let rest : list_all (single session_of part_of (x ∷ xs)) xs ≡ true =
    all_with (apart session_of part_of x) (single session_of part_of xs) (single session_of part_of (x ∷ xs))
    (λ y a s. let other = both (not (is_of session_of part_of x y)) (not (is_of session_of part_of y x)) a in grind (arith, nat_tests, other.1, s)) xs e h in
    grind (arith, first, rest)

-- a number of a shown session is no other one's
shown_same : (live : List (SessionId × InstanceId)) (s t : SessionId) → (t.0 == s.0) ≡ true → is_shown live t ≡ is_shown live s
shown_same [] s t e = refl
shown_same (x ∷ live) s t e = grind (arith, nat_tests, e, shown_same live s t e)

-- an item is apart from each that fits behind it
fits_apart : {X : Type 0} (session_of : X → SessionId) (part_of : X → PartId) (s : SessionId) (live : List (SessionId × InstanceId)) (x y : X)
    → ((session_of x).0 == s.0) ≡ true → is_shown live s ≡ false → fits session_of part_of s (part_after (part_of x)) live y ≡ true → apart session_of part_of x y ≡ true
fits_apart session_of part_of s live x y own gone f = one ((session_of y).0 == s.0) refl
  where
    one : (b : Bool) → ((session_of y).0 == s.0) ≡ b → apart session_of part_of x y ≡ true
    one true is =
        let hidden : is_shown live (session_of y) ≡ false = shown_same live s (session_of y) is ∙ gone in
        grind (arith, nat_tests, f, is, hidden)
    one false is = grind (arith, nat_tests, own, is)

fits_more : {X : Type 0} (session_of : X → SessionId) (part_of : X → PartId) (s : SessionId) (from : PartId) (live : List (SessionId × InstanceId)) (x y : X)
    → not (part_before (part_of x) from) ≡ true → fits session_of part_of s (part_after (part_of x)) live y ≡ true → fits session_of part_of s from live y ≡ true
fits_more session_of part_of s from live x y later f = one ((session_of y).0 == s.0) refl
  where
    one : (b : Bool) → ((session_of y).0 == s.0) ≡ b → fits session_of part_of s from live y ≡ true
    one true is = grind (arith, nat_tests, later, f, is)
    one false is = grind (arith, nat_tests, f, is)

-- what is known of items that are read
record Holds {X : Type 0} (session_of : X → SessionId) (part_of : X → PartId) (is_good : X → Bool) (is_fit : X → Bool) (xs : List X) : Type 0 where
  fit : list_all is_fit xs ≡ true
  good : list_all is_good xs ≡ true
  once : list_all (single session_of part_of xs) xs ≡ true

abbrev shown_in : {X : Type 0} → (X → SessionId) → List (SessionId × InstanceId) → X → Bool
shown_in session_of live x = is_shown live (session_of x)

front : {X : Type 0} (session_of : X → SessionId) (part_of : X → PartId) (good : X → Bool) (s : SessionId) (from : PartId) (live : List (SessionId × InstanceId)) (xs : List X)
    → is_shown live s ≡ false → ((ys : List X) → are_read session_of part_of good live (Some ys) ≡ true → Holds session_of part_of good (shown_in session_of live) ys)
    → are_read session_of part_of good live (behind session_of part_of good s from xs) ≡ true → Holds session_of part_of good (fits session_of part_of s from live) xs
front session_of part_of good s from live [] gone tail e = record { fit = refl; good = refl; once = refl }
front session_of part_of good s from live (x ∷ xs) gone tail e =
    one ((session_of x).0 == s.0) refl (not (part_before (part_of x) from) && good x) refl (λ more. front session_of part_of good s (part_after (part_of x)) live xs gone tail more)
  where
    one : (b : Bool) → ((session_of x).0 == s.0) ≡ b → (c : Bool) → (not (part_before (part_of x) from) && good x) ≡ c
        → (are_read session_of part_of good live (behind session_of part_of good s (part_after (part_of x)) xs) ≡ true → Holds session_of part_of good (fits session_of part_of s (part_after (part_of x)) live) xs)
        → Holds session_of part_of good (fits session_of part_of s from live) (x ∷ xs)
    one false is c so rest =
        let h : Holds session_of part_of good (shown_in session_of live) (x ∷ xs) = tail (x ∷ xs) (rw is at e) in
        record {
          fit = all_as (shown_in session_of live) (fits session_of part_of s from live) (λ y f. grind (arith, f)) (x ∷ xs) h.fit;
          good = h.good;
          once = h.once;
        }
    one true is false so rest =
        let no : are_read session_of part_of good live None ≡ true = rw so at (rw is at e) in
        absurd (grind (arith, no))
    one true is true so rest =
        let more : are_read session_of part_of good live (behind session_of part_of good s (part_after (part_of x)) xs) ≡ true = rw so at (rw is at e) in
        let h : Holds session_of part_of good (fits session_of part_of s (part_after (part_of x)) live) xs = rest more in
        let parts = both (not (part_before (part_of x) from)) (good x) so in
        let here : fits session_of part_of s from live x ≡ true = grind (arith, nat_tests, is, parts.0) in
        let later : list_all (fits session_of part_of s from live) xs ≡ true =
        all_as (fits session_of part_of s (part_after (part_of x)) live) (fits session_of part_of s from live) (λ y f. fits_more session_of part_of s from live x y parts.0 f) xs h.fit in
        let others : list_all (apart session_of part_of x) xs ≡ true =
        all_as (fits session_of part_of s (part_after (part_of x)) live) (apart session_of part_of x) (λ y f. fits_apart session_of part_of s live x y is gone f) xs h.fit in
        record {
          fit = grind (arith, here, later);
          good = grind (arith, parts.1, h.good);
          once = one_more session_of part_of x xs others h.once;
        }

read : {X : Type 0} (session_of : X → SessionId) (part_of : X → PartId) (good : X → Bool) (live : List (SessionId × InstanceId)) (xs : List X)
    → are_distinct live ≡ true → are_read session_of part_of good live (Some xs) ≡ true → Holds session_of part_of good (shown_in session_of live) xs
read session_of part_of good [] [] d e = record { fit = refl; good = refl; once = refl }
read session_of part_of good [] (x ∷ xs) d e = absurd (grind (arith, e))
read {X = X} session_of part_of good (l ∷ live) xs d e =
    let parts = both (not (is_shown live l.0)) (are_distinct live) d in
    let gone : is_shown live l.0 ≡ false = grind (arith, parts.0) in
    let h : Holds session_of part_of good (fits session_of part_of l.0 first_part live) xs =
    front session_of part_of good l.0 first_part live xs gone (λ ys f. read session_of part_of good live ys parts.1 f) e in
    record {
      fit = all_as (fits session_of part_of l.0 first_part live) (shown_in session_of (l ∷ live)) (λ y f. there y f) xs h.fit;
      good = h.good;
      once = h.once;
    }
  where
    there : (y : X) → fits session_of part_of l.0 first_part live y ≡ true → is_shown (l ∷ live) (session_of y) ≡ true
    there y f = grind (arith, nat_tests, f)

all_three : {X : Type 0} (p q r t : X → Bool) → ((x : X) → p x ≡ true → q x ≡ true → r x ≡ true → t x ≡ true) → (xs : List X)
    → list_all p xs ≡ true → list_all q xs ≡ true → list_all r xs ≡ true → list_all t xs ≡ true
all_three p q r t h xs a b c =
    all_with (λ x. p x && q x) r t (λ x ab c'. let ps = both (p x) (q x) ab in h x ps.0 ps.1 c') xs (all_with p q (λ x. p x && q x) (λ x a' b'. grind (arith, a', b')) xs a b) c

items_good : {X : Type 0} (session_of : X → SessionId) (part_of : X → PartId) (there good : X → Bool) (live : List (SessionId × InstanceId)) (xs : List X)
    → ((x : X) → is_shown live (session_of x) ≡ true → there x ≡ true → single session_of part_of xs x ≡ true → good x ≡ true)
    → are_distinct live ≡ true → are_read session_of part_of there live (Some xs) ≡ true → list_all good xs ≡ true
items_good session_of part_of there good live xs each d e =
    let h = read session_of part_of there live xs d e in
    all_three (shown_in session_of live) there (single session_of part_of xs) good each xs h.fit h.good h.once

pub rows_good : (models : List ModelParts) (view : View) → are_distinct view.live ≡ true
    → are_read (λ (r : Row). r.session) (λ (r : Row). r.part) (is_row_there models view.ideals.resources) view.live (Some view.rows) ≡ true
    → list_all (is_good_row models view) view.rows ≡ true
rows_good models view d e =
    items_good (λ (r : Row). r.session) (λ (r : Row). r.part) (is_row_there models view.ideals.resources) (is_good_row models view) view.live view.rows (λ r a b c. grind (arith, a, b, c)) d e

pub mail_good : (models : List ModelParts) (view : View) → are_distinct view.live ≡ true
    → are_read (λ (m : Message). m.session) (λ (m : Message). m.part) (is_message_there models view.ideals.resources) view.live (Some view.mail) ≡ true
    → list_all (is_good_message models view) view.mail ≡ true
mail_good models view d e =
    items_good (λ (m : Message). m.session) (λ (m : Message). m.part) (is_message_there models view.ideals.resources) (is_good_message models view) view.live view.mail (λ m a b c. grind (arith, a, b, c)) d e

-- what is behind items that aren't read, and behind the last session
pub nothing_read : {X : Type 0} (session_of : X → SessionId) (part_of : X → PartId) (good : X → Bool) (live : List (SessionId × InstanceId)) → are_read session_of part_of good live None ≡ false
nothing_read session_of part_of good [] = refl
nothing_read session_of part_of good (e ∷ live) = refl

pub all_read : {X : Type 0} (session_of : X → SessionId) (part_of : X → PartId) (good : X → Bool) (xs : List X) → are_read session_of part_of good [] (Some xs) ≡ (length xs == 0)
all_read session_of part_of good [] = refl
all_read session_of part_of good (x ∷ xs) = grind (arith, nat_tests)
