-- The tests of the judge decide whether things are the same.
use Rattle.std.proofs.Common.{◌≡◌, ℕ, ◌==◌, Bool, true, ◌&&◌, List, [], ◌∷◌, Option, None, Some, refl, ap, ◌∙◌}
use Rattle.std.proofs.lemmas.Bool.{and_parts, and_from, eqb-true}
use Rattle.std.specs.Cmp.Lexicographic.{pointwise}
use Rattle.std.specs.Option.{option_eq}
use Rattle.hx_ids.specs.Words as Ids
use Rattle.hx_ids.specs.declared.InstanceId.{InstanceId}
use Rattle.hx_ids.specs.declared.StateId.{StateId}
use Rattle.hx_ids.specs.declared.SessionId.{SessionId}
use Rattle.hx_ids.specs.declared.PartId.{PartId}
use Rattle.hx_cluster.specs.declared.happenings.Placed.{Placed}
use Rattle.hx_cluster.specs.declared.happenings.Placed.TheVariants as placings
use Rattle.hx_cluster.specs.declared.happenings.Proposal.{Proposal}
use Rattle.hx_cluster.specs.Ends.{part_eq}
use Rattle.hx_safe.proofs.Ends.{session_same, part_same, same-self, part_eq-self}
use Rattle.hx_safe.proofs.Models.{state_same}
use Rattle.hx_check.specs.Answers.{same_session, same_state, same_ended, same_answer}
use Rattle.hx_check.specs.Judge.{same_proposal}

-- ids with the same number
pub by_number : {A : Type 0} (of : ℕ → A) (a b : ℕ) → (a == b) ≡ true → of a ≡ of b
by_number of a b e = ap of (eqb-true a b e)

-- options and lists
pub options_same : {A : Type 0} (f : A → A → Bool) → ((a b : A) → f a b ≡ true → a ≡ b) → (a b : Option A) → option_eq f a b ≡ true → a ≡ b
options_same f same None None e = refl
options_same f same None (Some y) e = cc
options_same f same (Some x) None e = cc
options_same f same (Some x) (Some y) e = ap Some (same x y e)

pub option_itself : {A : Type 0} (f : A → A → Bool) → ((a : A) → f a a ≡ true) → (a : Option A) → option_eq f a a ≡ true
option_itself f itself None = refl
option_itself f itself (Some x) = itself x

pub lists_same : {A : Type 0} (f : A → A → Bool) → ((a b : A) → f a b ≡ true → a ≡ b) → (xs ys : List A) → pointwise f xs ys ≡ true → xs ≡ ys
lists_same f same [] [] e = refl
lists_same f same [] (y ∷ ys) e = cc
lists_same f same (x ∷ xs) [] e = cc
lists_same f same (x ∷ xs) (y ∷ ys) e =
    let both = and_parts (f x y) (pointwise f xs ys) e in
    ap (λ z. z ∷ xs) (same x y both.0) ∙ ap (λ zs. y ∷ zs) (lists_same f same xs ys both.1)

pub list_itself : {A : Type 0} (f : A → A → Bool) → ((a : A) → f a a ≡ true) → (xs : List A) → pointwise f xs xs ≡ true
list_itself f itself [] = refl
list_itself f itself (x ∷ xs) = and_from (f x x) (pointwise f xs xs) (itself x) (list_itself f itself xs)

-- a session that ended
pub ended_same : (a b : InstanceId × SessionId) → same_ended a b ≡ true → a ≡ b
ended_same a b e =
    let both = and_parts (a.0.0 == b.0.0) (same_session a.1 b.1) e in
    ap (λ i. (i, a.1)) (by_number Ids.instance a.0.0 b.0.0 both.0) ∙ ap (λ s. (b.0, s)) (session_same a.1 b.1 both.1)

pub ended_itself : (a : InstanceId × SessionId) → same_ended a a ≡ true
ended_itself a = and_from (a.0.0 == a.0.0) (same_session a.1 a.1) (same-self a.0.0) (same-self a.1.0)

-- an answer to a proposal
pub answers_same : (a b : Placed) → same_answer a b ≡ true → a ≡ b
answers_same (placings.Sent x) (placings.Sent u) e = ap placings.Sent (by_number Ids.message x.0 u.0 e)
answers_same placings.Ended placings.Ended e = refl
answers_same placings.ResourceDropped placings.ResourceDropped e = refl
answers_same (placings.Busy x) (placings.Busy u) e = ap placings.Busy (by_number Ids.message x.0 u.0 e)
answers_same (placings.WrongFrom x) (placings.WrongFrom u) e = ap placings.WrongFrom (options_same same_state state_same x u e)
answers_same placings.Illegal placings.Illegal e = refl
answers_same (placings.OverBound x y) (placings.OverBound u v) e =
    let both = and_parts (x == u) (y == v) e in
    ap (λ n. placings.OverBound n y) (eqb-true x u both.0) ∙ ap (placings.OverBound u) (eqb-true y v both.1)
answers_same (placings.OverThrottle x y z) (placings.OverThrottle u v w) e =
    let both = and_parts ((x == u) && (y == v)) (z == w) e in
    let first = and_parts (x == u) (y == v) both.0 in
    ap (λ n. placings.OverThrottle n y z) (eqb-true x u first.0) ∙ ap (λ n. placings.OverThrottle u n z) (eqb-true y v first.1) ∙ ap (placings.OverThrottle u v) (eqb-true z w both.1)
answers_same _ _ e = cc

pub answer_itself : (a : Placed) → same_answer a a ≡ true
answer_itself (placings.Sent x) = same-self x.0
answer_itself placings.Ended = refl
answer_itself placings.ResourceDropped = refl
answer_itself (placings.Busy x) = same-self x.0
answer_itself (placings.WrongFrom x) = option_itself same_state (λ t. same-self t.0) x
answer_itself placings.Illegal = refl
answer_itself (placings.OverBound x y) = and_from (x == x) (y == y) (same-self x) (same-self y)
answer_itself (placings.OverThrottle x y z) = and_from ((x == x) && (y == y)) (z == z) (and_from (x == x) (y == y) (same-self x) (same-self y)) (same-self z)

-- a proposal
pub proposals_same : (a b : Proposal) → same_proposal a b ≡ true → a ≡ b
proposals_same a b e =
    let three = and_parts ((a.session.0 == b.session.0) && part_eq a.part b.part && (a.from.0 == b.from.0)) (a.to.0 == b.to.0) e in
    let two = and_parts ((a.session.0 == b.session.0) && part_eq a.part b.part) (a.from.0 == b.from.0) three.0 in
    let one = and_parts (a.session.0 == b.session.0) (part_eq a.part b.part) two.0 in
    ap (λ (s : SessionId). let q : Proposal = record { session = s; part = a.part; from = a.from; to = a.to } in q) (session_same a.session b.session one.0)
    ∙ ap (λ (p : PartId). let q : Proposal = record { session = b.session; part = p; from = a.from; to = a.to } in q) (part_same a.part b.part one.1)
    ∙ ap (λ (t : StateId). let q : Proposal = record { session = b.session; part = b.part; from = t; to = a.to } in q) (state_same a.from b.from two.1)
    ∙ ap (λ (t : StateId). let q : Proposal = record { session = b.session; part = b.part; from = b.from; to = t } in q) (state_same a.to b.to three.1)

pub proposal_itself : (a : Proposal) → same_proposal a a ≡ true
proposal_itself a =
    and_from ((a.session.0 == a.session.0) && part_eq a.part a.part && (a.from.0 == a.from.0)) (a.to.0 == a.to.0)
    (and_from ((a.session.0 == a.session.0) && part_eq a.part a.part) (a.from.0 == a.from.0)
    (and_from (a.session.0 == a.session.0) (part_eq a.part a.part) (same-self a.session.0) (part_eq-self a.part)) (same-self a.from.0)) (same-self a.to.0)
