-- How proposals are placed one by one, and taken back.
use Rattle.std.proofs.Common.{◌≡◌, ℕ, zero, suc, ◌+◌, ◌-◌, ◌≤◌, ◌<◌, ◌==◌, not, Bool, true, false, List, [], ◌∷◌, ◌++◌, length, length-append, take, filter, get_or, refl, sym, ap, ◌∙◌, subst, arith}
use Rattle.std.specs.Prelude.{nat_lt, if◌then◌else◌, slice_get, Option, Some, None}
use Rattle.std.specs.List.{list_any, list_all}
use Rattle.std.proofs.lemmas.Bool.Decides.{nat_tests}
use Rattle.std.proofs.Math.Seq.{take-suc, take-length}
use Rattle.hx_ids.specs.declared.MsgId.{MsgId}
use Rattle.hx_ids.specs.declared.PassNo.{PassNo}
use Rattle.hx_ids.specs.declared.ControllerId.{ControllerId}
use Rattle.hx_cluster.specs.declared.state.Message.{Message}
use Rattle.hx_cluster.specs.declared.state.Cluster.{Cluster}
use Rattle.hx_cluster.specs.declared.happenings.Proposal.{Proposal}
use Rattle.hx_cluster.specs.declared.happenings.Placed.{Placed}
use Rattle.hx_cluster.specs.declared.happenings.Placed.TheVariants as placings
use Rattle.hx_cluster.specs.Messages.{has_id, message_from, placed_of, after_placed, after_proposal, placed_all, after_proposals, raised_pass, next_pass}
use Rattle.hx_cluster.specs.Events.{has_part, is_proposable}
use Rattle.hx_safe.proofs.Counting.{none-from-all, and-three}
use Rattle.hx_safe.proofs.Kept.{IsKept}
use Rattle.hx_safe.proofs.Sending.{kept_proposal, kept_proposals}
use Rattle.hx_records.specs.declared.Records.TheInside.{Inside}
use Rattle.hx_records.specs.Records.{seen, unsent, IsAnswered, IsPlacedFrom}
use Rattle.hx_records.proofs.Marked.{numbers_below}

-- one proposal more
pub after-more : (c : Cluster) (qs : List Proposal) (q : Proposal) → after_proposals c (qs ++ q ∷ []) ≡ after_proposal (after_proposals c qs) q
after-more c [] q = refl
after-more c (p ∷ qs) q = after-more (after_proposal c p) qs q

pub answers-more : (c : Cluster) (qs : List Proposal) (q : Proposal) → placed_all c (qs ++ q ∷ []) ≡ placed_all c qs ++ placed_of (after_proposals c qs) q ∷ []
answers-more c [] q = refl
answers-more c (p ∷ qs) q = ap (λ (ps : List Placed). placed_of c p ∷ ps) (answers-more (after_proposal c p) qs q)

pub answers-each : (c : Cluster) (qs : List Proposal) → length (placed_all c qs) ≡ length qs
answers-each c [] = refl
answers-each c (q ∷ qs) = grind (arith, answers-each (after_proposal c q) qs)

-- those that are in range stay so among the first ones
all-take : {X : Type 0} (p : X → Bool) (n : ℕ) (xs : List X) → list_all p xs ≡ true → list_all p (take n xs) ≡ true
all-take p zero xs e = refl
all-take p (suc n) [] e = refl
all-take p (suc n) (x ∷ xs) e = grind (arith, e, all-take p n xs)

all-get : {X : Type 0} (p : X → Bool) (n : ℕ) (xs : List X) (d : X) → n < length xs → list_all p xs ≡ true → p (get_or xs n d) ≡ true
all-get p n [] d less e = absurd (omega (arith, less))
all-get p zero (x ∷ xs) d less e = grind (arith, e)
all-get p (suc n) (x ∷ xs) d less e = all-get p n xs d (omega (arith, less)) (grind (arith, e))

pub kept_placed : (c : Cluster) (qs : List Proposal) (placed : List Placed) (now : Cluster) → IsPlacedFrom c qs placed now → IsKept now
kept_placed c qs placed now h = subst IsKept h.after (kept_proposals c (take (length placed) qs) h.kept (all-take (is_proposable c) (length placed) qs h.range))

-- nothing is placed yet
pub placed_none : (c : Cluster) (qs : List Proposal) → IsKept c → list_all (is_proposable c) qs ≡ true → IsPlacedFrom c qs [] c
placed_none c qs kept range = record { kept = kept; range = range; few = omega arith; answers = refl; after = refl }

-- each is placed
pub placed_each : (c : Cluster) (qs : List Proposal) (placed : List Placed) (now : Cluster) (i : ℕ)
    → IsPlacedFrom c qs placed now → length placed ≡ i → length qs ≤ i → (placed ≡ placed_all c qs) × (now ≡ after_proposals c qs)
placed_each c qs placed now i h count all =
    let whole : take (length placed) qs ≡ qs = ap (λ (n : ℕ). take n qs) (let same : length placed ≡ length qs = omega (arith, h.few, count, all) in same) ∙ take-length qs in
    (sym h.answers ∙ ap (placed_all c) whole, sym h.after ∙ ap (after_proposals c) whole)

-- the same ones, where the last call changed nothing
pub placed_still : (c : Cluster) (qs : List Proposal) (placed shown : List Placed) (now new : Cluster)
    → IsPlacedFrom c qs placed now → shown ≡ placed → new ≡ now → IsPlacedFrom c qs shown new
placed_still c qs placed shown now new h same is =
    subst (λ (ps : List Placed). IsPlacedFrom c qs ps new) (sym same) (subst (λ (x : Cluster). IsPlacedFrom c qs placed x) (sym is) h)

-- one more is placed
pub placed_more : (c : Cluster) (qs : List Proposal) (placed : List Placed) (now new : Cluster) (q : Proposal) (answer : Placed) (d : Proposal) (i : ℕ)
    → IsPlacedFrom c qs placed now → length placed ≡ i → i < length qs → get_or qs i d ≡ q → new ≡ after_proposal now q → answer ≡ placed_of now q
    → IsPlacedFrom c qs (placed ++ answer ∷ []) new
placed_more c qs placed now new q answer d i h count less at after gives =
    let n = length placed in
    let longer : length (placed ++ answer ∷ []) ≡ suc n = omega (arith, length-append placed (answer ∷ [])) in
    let here : get_or qs n d ≡ q = ap (λ (j : ℕ). get_or qs j d) count ∙ at in
    let front : take (length (placed ++ answer ∷ [])) qs ≡ take n qs ++ q ∷ [] =
    ap (λ (j : ℕ). take j qs) longer ∙ take-suc qs n d (omega (arith, count, less)) ∙ ap (λ (x : Proposal). take n qs ++ x ∷ []) here in
    record {
      kept = h.kept;
      range = h.range;
      few = omega (arith, longer, count, less);
      answers =
          ap (placed_all c) front ∙ answers-more c (take n qs) q
          ∙ ap (λ (x : Cluster). placed_all c (take n qs) ++ placed_of x q ∷ []) h.after
          ∙ ap (λ (ps : List Placed). ps ++ placed_of now q ∷ []) h.answers
          ∙ ap (λ (p : Placed). placed ++ p ∷ []) (sym gives);
      after = ap (after_proposals c) front ∙ after-more c (take n qs) q ∙ ap (λ (x : Cluster). after_proposal x q) h.after ∙ sym after;
    }

-- the last one that was placed, and those before it
front-same : {X : Type 0} (xs ys : List X) (a b : X) → xs ++ a ∷ [] ≡ ys ++ b ∷ [] → length xs ≡ length ys → (xs ≡ ys) × (a ≡ b)
front-same [] [] a b e same = (refl, ap (λ (zs : List _). get_or zs 0 a) e)
front-same [] (y ∷ ys) a b e same = absurd (omega (arith, same))
front-same (x ∷ xs) [] a b e same = absurd (omega (arith, same))
front-same (x ∷ xs) (y ∷ ys) a b e same =
    let head : x ≡ y = ap (λ (zs : List _). get_or zs 0 x) e in
    let tail : xs ++ a ∷ [] ≡ ys ++ b ∷ [] = ap (λ (zs : List _). Rattle.std.proofs.Common.drop 1 zs) e in
    let rest = front-same xs ys a b tail (omega (arith, same)) in
    ((λ i. head i ∷ rest.0 i), rest.1)

take-count : {X : Type 0} (n : ℕ) (xs : List X) → n ≤ length xs → length (take n xs) ≡ n
take-count zero xs less = refl
take-count (suc n) [] less = absurd (omega (arith, less))
take-count (suc n) (x ∷ xs) less = omega (arith, take-count n xs (omega (arith, less)))

pub record WasPlaced (c : Cluster) (qs : List Proposal) (placed : List Placed) (left : ℕ) (q : Proposal) (answer : Placed) (now : Cluster) : Type 0 where
  pub last : IsAnswered (after_proposals c (take left qs)) q answer now
  pub before : IsPlacedFrom c qs (take left placed) (after_proposals c (take left qs))

pub placed_less : (c : Cluster) (qs : List Proposal) (placed : List Placed) (now : Cluster) (left : ℕ) (d : Proposal) (e : Placed)
    → left < length placed → length placed ≤ length qs → IsPlacedFrom c qs (take (suc left) placed) now
    → WasPlaced c qs placed left (get_or qs left d) (get_or placed left e) now
placed_less c qs placed now left d e less few h =
    let q = get_or qs left d in
    let answer = get_or placed left e in
    let x = after_proposals c (take left qs) in
    let count : length (take (suc left) placed) ≡ suc left = take-count (suc left) placed (omega (arith, less)) in
    let split : take (length (take (suc left) placed)) qs ≡ take left qs ++ q ∷ [] = ap (λ (n : ℕ). take n qs) count ∙ take-suc qs left d (omega (arith, less, few)) in
    let told : placed_all c (take left qs) ++ placed_of x q ∷ [] ≡ take left placed ++ answer ∷ [] =
    sym (answers-more c (take left qs) q) ∙ sym (ap (placed_all c) split) ∙ h.answers ∙ take-suc placed left e less in
    let same : length (placed_all c (take left qs)) ≡ length (take left placed) =
    answers-each c (take left qs) ∙ take-count left qs (omega (arith, less, few)) ∙ sym (take-count left placed (omega (arith, less))) in
    let parts = front-same (placed_all c (take left qs)) (take left placed) (placed_of x q) answer told same in
    let here : length (take left placed) ≡ left = take-count left placed (omega (arith, less)) in
    let kept : IsKept x = kept_proposals c (take left qs) h.kept (all-take (is_proposable c) left qs h.range) in
    let next : after_proposal x q ≡ now = sym (after-more c (take left qs) q) ∙ sym (ap (after_proposals c) split) ∙ h.after in
    let fits : is_proposable c q ≡ true = all-get (is_proposable c) left qs d (omega (arith, less, few)) h.range in
    record {
      last = record {
        kept = kept;
        range = part_stays c (take left qs) q ((and-three _ _ _ fits).0);
        placed = parts.1;
        after = next;
      };
      before = record {
        kept = h.kept;
        range = h.range;
        few = omega (arith, here, less, few);
        answers = ap (λ (n : ℕ). placed_all c (take n qs)) here ∙ parts.0;
        after = ap (λ (n : ℕ). after_proposals c (take n qs)) here;
      };
    }
  where
    answer_part : (y : Cluster) (p : Proposal) (a : Placed) (q : Proposal) → has_part y q.part ≡ true → has_part (after_placed y p a) q.part ≡ true
    answer_part y p (placings.Sent id) q w = w
    answer_part y p placings.Ended q w = w
    answer_part y p placings.ResourceDropped q w = w
    answer_part y p (placings.Busy id) q w = w
    answer_part y p (placings.WrongFrom has) q w = w
    answer_part y p placings.Illegal q w = w
    answer_part y p (placings.OverBound n b) q w = w
    answer_part y p (placings.OverThrottle n l m) q w = w

    part_stays : (y : Cluster) (ps : List Proposal) (q : Proposal) → has_part y q.part ≡ true → has_part (after_proposals y ps) q.part ≡ true
    part_stays y [] q w = w
    part_stays y (p ∷ ps) q w = part_stays (after_proposal y p) ps q (answer_part y p (placed_of y p) q w)

-- what was sent last is taken back
gone-last : {X : Type 0} (p : X → Bool) (xs : List X) (m : X) → list_any p xs ≡ false → p m ≡ true → filter (λ x. not (p x)) (xs ++ m ∷ []) ≡ xs
gone-last p [] m none is = grind (arith, is)
gone-last p (x ∷ xs) m none is = grind (arith, none, is, gone-last p xs m)

pub sent_back : (c : Cluster) (q : Proposal) (id : MsgId) → IsKept c → placed_of c q ≡ placings.Sent id → unsent (after_placed c q (placings.Sent id)) q.session id ≡ c
sent_back c q id kept sent =
    let below = numbers_below c q id kept sent in
    let none : list_any (has_id q.session id) c.mail ≡ false =
    none-from-all (λ (m : Message). nat_lt m.id.0 id.0) (has_id q.session id) (λ m e. grind (arith, nat_tests, e)) c.mail below in
    let mail : filter (λ m. not (has_id q.session id m)) (c.mail ++ message_from c id q ∷ []) ≡ c.mail =
    gone-last (has_id q.session id) c.mail (message_from c id q) none (grind (arith, nat_tests)) in
    let next : c.next_msg + 1 - 1 ≡ c.next_msg = omega arith in
    let change : c.change + 1 - 1 ≡ c.change = omega arith in
    (λ i. record c { mail = mail i; next_msg = next i; change = change i })

pub answer_back : (c : Cluster) (q : Proposal) (id : MsgId) (now : Cluster) → IsAnswered c q (placings.Sent id) now → unsent now q.session id ≡ c
answer_back c q id now h =
    ap (λ (x : Cluster). unsent x q.session id) (sym h.after ∙ ap (after_placed c q) h.placed) ∙ sent_back c q id h.kept h.placed

pub answer_same : (c : Cluster) (q : Proposal) (answer : Placed) (now : Cluster) → ((id : MsgId) → answer ≡ placings.Sent id → ⊥) → IsAnswered c q answer now → now ≡ c
answer_same c q answer now other h = sym h.after ∙ ap (after_placed c q) h.placed ∙ one answer other
  where
    one : (a : Placed) → ((id : MsgId) → a ≡ placings.Sent id → ⊥) → after_placed c q a ≡ c
    one (placings.Sent id) other = absurd (other id refl)
    one placings.Ended other = refl
    one placings.ResourceDropped other = refl
    one (placings.Busy id) other = refl
    one (placings.WrongFrom has) other = refl
    one placings.Illegal other = refl
    one (placings.OverBound n b) other = refl
    one (placings.OverThrottle n l m) other = refl

pub kept_answer : (c : Cluster) (q : Proposal) (answer : Placed) (now : Cluster) → IsAnswered c q answer now → IsKept now
kept_answer c q answer now h = subst IsKept h.after (kept_proposal c q h.kept h.range)

pub some_answer : (c : Cluster) (q : Proposal) (id : MsgId) (now : Cluster) → IsAnswered c q (placings.Sent id) now → (0 < now.next_msg) × (0 < now.change)
some_answer c q id now h =
    let is : now ≡ after_placed c q (placings.Sent id) = sym h.after ∙ ap (after_placed c q) h.placed in
    let next : now.next_msg ≡ c.next_msg + 1 = ap (λ (x : Cluster). x.next_msg) is in
    let change : now.change ≡ c.change + 1 = ap (λ (x : Cluster). x.change) is in
    (omega (arith, next), omega (arith, change))

-- placing leaves the controllers' passes, which a dispatch raises behind it
pub same_controllers : (c : Cluster) (qs : List Proposal) → (after_proposals c qs).controllers ≡ c.controllers
same_controllers c [] = refl
same_controllers c (q ∷ qs) = same_controllers (after_proposal c q) qs ∙ one (placed_of c q)
  where
    one : (a : Placed) → (after_placed c q a).controllers ≡ c.controllers
    one (placings.Sent id) = refl
    one placings.Ended = refl
    one placings.ResourceDropped = refl
    one (placings.Busy id) = refl
    one (placings.WrongFrom has) = refl
    one placings.Illegal = refl
    one (placings.OverBound n b) = refl
    one (placings.OverThrottle n l m) = refl

pub seen_raised : (a : Inside) (k : ControllerId) → record (next_pass a.rest k) { live = a.sessions.live; rows = a.slots.rows; mail = a.slots.mail } ≡ next_pass (seen a) k
seen_raised a k = one (slice_get a.rest.controllers k.0)
  where
    one : (o : Option (Bool × PassNo)) → record (raised_pass a.rest k o) { live = a.sessions.live; rows = a.slots.rows; mail = a.slots.mail } ≡ raised_pass (seen a) k o
    one None = refl
    one (Some d) = refl
