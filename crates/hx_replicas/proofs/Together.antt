-- Messages that are handed out together: what becomes of each part's slot, and of the makings that were tried.
use Rattle.std.proofs.Common.{◌≡◌, ℕ, ◌<◌, ◌≤◌, ◌++◌, ◌∷◌, [], List, zero, suc, map, take, length, get_or, arith, refl, sym, ap, subst, ◌∙◌, Bool, true, false, Option, None, Some, is_none, if◌then◌else◌}
use Rattle.std.specs.List.{All}
use Rattle.std.specs.Option.{ForSome}
use Rattle.hx_ids.specs.declared.PartId.{PartId}
use Rattle.hx_cluster.specs.Ends.{part_eq}
use Rattle.hx_cluster.specs.declared.state.Message.{Message}
use Rattle.hx_cluster.specs.declared.description.Failure.{Failure}
use Rattle.hx_lists.specs.Counts.{Rose}
use Rattle.hx_handler.specs.Makings.{tried_of, tried_up}
use Rattle.hx_replicas.specs.declared.slots.Work.TheVariants.{Accepted}
use Rattle.hx_replicas.specs.Participants.{Participant, Slot, slot_in, slot_of, put_slot, makes, made_ready, emptied_for, readied, readied_all, given, given_all, hand_out, hand_out_all}
use Rattle.hx_replicas.specs.Jobs.{ParticipantState, IsMaking, AreAnswered, KeepsRest, Held, Job, runs_of, IsHanded}
use Rattle.hx_replicas.specs.Batches.{AreApart, AreSpread, AreAccepted, AreShown, IsReadied, AreGiven}
use Rattle.hx_replicas.proofs.Parts.{part_same, part_eq-same}
use Rattle.hx_replicas.proofs.Putting.{part-slot_in, slot_in-put, put-step, find-step}

-- another part's slot stays
pub slot_in-put_other : (xs : List Slot) (y : Slot) (p : PartId) → part_eq y.part p ≡ false → slot_in (put_slot xs y) p ≡ slot_in xs p
slot_in-put_other [] y p other = find-step y [] p false other
slot_in-put_other (x ∷ xs) y p other = one (part_eq x.part y.part) refl (slot_in-put_other xs y p other)
  where
    two : (b : Bool) → part_eq x.part p ≡ b → part_eq x.part y.part ≡ false → slot_in (put_slot xs y) p ≡ slot_in xs p → slot_in (put_slot (x ∷ xs) y) p ≡ slot_in (x ∷ xs) p
    two true is apart later = rw (put-step x xs y false apart) (find-step x (put_slot xs y) p true is ∙ sym (find-step x xs p true is))
    two false is apart later = rw (put-step x xs y false apart) (find-step x (put_slot xs y) p false is ∙ later ∙ sym (find-step x xs p false is))

    one : (b : Bool) → part_eq x.part y.part ≡ b → slot_in (put_slot xs y) p ≡ slot_in xs p → slot_in (put_slot (x ∷ xs) y) p ≡ slot_in (x ∷ xs) p
    one true e later =
        let apart : part_eq x.part p ≡ false = subst (λ (q : PartId). part_eq q p ≡ false) (sym (part_same x.part y.part e)) other in
        rw (put-step x xs y true e) (find-step y xs p false other ∙ sym (find-step x xs p false apart))
    one false e later = two (part_eq x.part p) refl e later

tried_of-up_other : (xs : List (PartId × ℕ)) (q p : PartId) → part_eq q p ≡ false → tried_of (tried_up xs q) p ≡ tried_of xs p
tried_of-up_other [] q p other = rw other refl
tried_of-up_other (x ∷ xs) q p other = one (part_eq x.0 q) refl (part_eq x.0 p) refl (tried_of-up_other xs q p other)
  where
    one : (b : Bool) → part_eq x.0 q ≡ b → (a : Bool) → part_eq x.0 p ≡ a → tried_of (tried_up xs q) p ≡ tried_of xs p → tried_of (tried_up (x ∷ xs) q) p ≡ tried_of (x ∷ xs) p
    one true e a is later =
        let apart : part_eq x.0 p ≡ false = subst (λ (r : PartId). part_eq r p ≡ false) (sym (part_same x.0 q e)) other in
        rw (e, other, apart) refl
    one false e true is later = rw (e, is) refl
    one false e false is later = rw (e, is) later

tried-if : (b : Bool) (xs : List (PartId × ℕ)) (q p : PartId) → part_eq q p ≡ false → tried_of (if b then tried_up xs q else xs) p ≡ tried_of xs p
tried-if true xs q p other = tried_of-up_other xs q p other
tried-if false xs q p other = refl

readied-other : (w : Participant) (m : Message) (f : Bool) (p : PartId) → part_eq m.part p ≡ false → slot_of (readied w m f) p ≡ slot_of w p
readied-other w m f p other =
    let own : (slot_of w m.part).part ≡ m.part = part-slot_in w.slots m.part in
    slot_in-put_other w.slots (made_ready (slot_of w m.part) m f) p (subst (λ (q : PartId). part_eq q p ≡ false) (sym own) other)

readied-own : (w : Participant) (m : Message) (f : Bool) → slot_of (readied w m f) m.part ≡ made_ready (slot_of w m.part) m f
readied-own w m f = slot_in-put w.slots (made_ready (slot_of w m.part) m f) m.part (part-slot_in w.slots m.part)

-- a part that no message is of keeps its slot and its makings
pub readied_all-apart : (w : Participant) (ms : List Message) (fs : List Bool) (p : PartId) → AreApart p ms → slot_of (readied_all w ms fs) p ≡ slot_of w p
readied_all-apart w [] fs p apart = refl
readied_all-apart w (m ∷ ms) [] p apart = refl
readied_all-apart w (m ∷ ms) (f ∷ fs) p apart = readied_all-apart (readied w m f) ms fs p apart.1 ∙ readied-other w m f p apart.0

pub tried-apart : (w : Participant) (ms : List Message) (fs : List Bool) (p : PartId) → AreApart p ms → tried_of (readied_all w ms fs).tried p ≡ tried_of w.tried p
tried-apart w [] fs p apart = refl
tried-apart w (m ∷ ms) [] p apart = refl
tried-apart w (m ∷ ms) (f ∷ fs) p apart = tried-apart (readied w m f) ms fs p apart.1 ∙ tried-if (makes (slot_of w m.part) m) w.tried m.part p apart.0

pub part_eq-flip : (p q : PartId) → part_eq p q ≡ false → part_eq q p ≡ false
part_eq-flip p q e = one (part_eq q p) refl
  where
    one : (b : Bool) → part_eq q p ≡ b → b ≡ false
    one true is = let wrong : true ≡ false = sym (part_eq-same p q (sym (part_same q p is))) ∙ e in wrong
    one false is = refl

apart-at : (p : PartId) (ms : List Message) (i : ℕ) (d : Message) → AreApart p ms → i < length ms → part_eq p (get_or ms i d).part ≡ false
apart-at p [] i d apart lt = absurd (omega arith)
apart-at p (m ∷ ms) zero d apart lt = part_eq-flip m.part p apart.0
apart-at p (m ∷ ms) (suc i) d apart lt = apart-at p ms i d apart.1 (omega arith)

-- a message that isn't reached keeps its slot and its makings
slot-left : (w : Participant) (ms : List Message) (fs : List Bool) (i : ℕ) (d : Message) → AreSpread ms → i < length ms → length fs ≤ i → slot_of (readied_all w ms fs) (get_or ms i d).part ≡ slot_of w (get_or ms i d).part
slot-left w [] fs i d spread lt le = absurd (omega arith)
slot-left w (m ∷ ms) [] i d spread lt le = refl
slot-left w (m ∷ ms) (f ∷ fs) zero d spread lt le = absurd (omega arith)
slot-left w (m ∷ ms) (f ∷ fs) (suc i) d spread lt le =
    let below : i < length ms = omega arith in
    slot-left (readied w m f) ms fs i d spread.1 below (omega arith) ∙ readied-other w m f (get_or ms i d).part (apart-at m.part ms i d spread.0 below)

pub tried-left : (w : Participant) (ms : List Message) (fs : List Bool) (i : ℕ) (d : Message) → AreSpread ms → i < length ms → length fs ≤ i → tried_of (readied_all w ms fs).tried (get_or ms i d).part ≡ tried_of w.tried (get_or ms i d).part
tried-left w [] fs i d spread lt le = absurd (omega arith)
tried-left w (m ∷ ms) [] i d spread lt le = refl
tried-left w (m ∷ ms) (f ∷ fs) zero d spread lt le = absurd (omega arith)
tried-left w (m ∷ ms) (f ∷ fs) (suc i) d spread lt le =
    let below : i < length ms = omega arith in
    tried-left (readied w m f) ms fs i d spread.1 below (omega arith) ∙ tried-if (makes (slot_of w m.part) m) w.tried m.part (get_or ms i d).part (apart-at m.part ms i d spread.0 below)

-- one more message is reached
pub readied_all-more : (w : Participant) (ms : List Message) (fs : List Bool) (f : Bool) (i : ℕ) (d : Message) → i < length ms → length fs ≡ i → readied_all w ms (fs ++ f ∷ []) ≡ readied (readied_all w ms fs) (get_or ms i d) f
readied_all-more w [] fs f i d lt len = absurd (omega arith)
readied_all-more w (m ∷ ms) [] f zero d lt len = end w m ms f
  where
    end : (w : Participant) (m : Message) (ms : List Message) (f : Bool) → readied_all w (m ∷ ms) (f ∷ []) ≡ readied w m f
    end w m [] f = refl
    end w m (n ∷ ms) f = refl
readied_all-more w (m ∷ ms) [] f (suc i) d lt len = absurd (omega arith)
readied_all-more w (m ∷ ms) (g ∷ fs) f zero d lt len = absurd (omega arith)
readied_all-more w (m ∷ ms) (g ∷ fs) f (suc i) d lt len = readied_all-more (readied w m g) ms fs f i d (omega arith) (omega arith)

-- a making stays answered as counts rise
IsMaking-later : (faults later later' made made' : ℕ) (listed : Option (List Failure)) (tried : List (PartId × ℕ)) (p : PartId) (f : Bool) → IsMaking faults later made listed tried p f → later ≤ later' → made ≤ made' → IsMaking faults later' made' listed tried p f
IsMaking-later faults later later' made made' listed tried p f was up more =
    record { cause = λ e. let rose : Rose faults later = was.cause e in omega (arith, rose, up); told = λ on few. was.told (omega (arith, on, more)) few }

IsMaking-since : (faults before later made : ℕ) (listed : Option (List Failure)) (tried tried' : List (PartId × ℕ)) (p : PartId) (f : Bool) → IsMaking before later made listed tried' p f → faults ≤ before → tried_of tried' p ≡ tried_of tried p → IsMaking faults later made listed tried p f
IsMaking-since faults before later made listed tried tried' p f was up same =
    record {
      cause = λ e. let rose : Rose before later = was.cause e in omega (arith, rose, up);
      told = λ on few. rw (← same) (was.told on (rw same few));
    }

pub AreAnswered-later : (a b c : ParticipantState) (ms : List Message) (fs : List Bool) → AreAnswered a b ms fs → b.faults ≤ c.faults → b.made ≤ c.made → AreAnswered a c ms fs
AreAnswered-later a b c ms [] was up more = tt
AreAnswered-later a b c [] (f ∷ fs) was up more = was
AreAnswered-later a b c (m ∷ ms) (f ∷ fs) was up more =
    (λ e. IsMaking-later a.faults b.faults c.faults b.made c.made a.listed a.plain.tried m.part f (was.0 e) up more, AreAnswered-later a b c ms fs was.1 up more)

AreAnswered-more : (a b : ParticipantState) (ms : List Message) (fs : List Bool) (f : Bool) (i : ℕ) (d : Message) → i < length ms → length fs ≡ i → (makes (slot_of a.plain (get_or ms i d).part) (get_or ms i d) ≡ true → IsMaking a.faults b.faults b.made a.listed a.plain.tried (get_or ms i d).part f) → AreAnswered a b ms fs → AreAnswered a b ms (fs ++ f ∷ [])
AreAnswered-more a b [] fs f i d lt len here was = absurd (omega arith)
AreAnswered-more a b (m ∷ ms) [] f zero d lt len here was = (here, tt)
AreAnswered-more a b (m ∷ ms) [] f (suc i) d lt len here was = absurd (omega arith)
AreAnswered-more a b (m ∷ ms) (g ∷ fs) f zero d lt len here was = absurd (omega arith)
AreAnswered-more a b (m ∷ ms) (g ∷ fs) f (suc i) d lt len here was = (was.0, AreAnswered-more a b ms fs f i d (omega arith) (omega arith) here was.1)

AreShown-more : (w : Participant) (ms : List Message) (fs : List Bool) (f : Bool) (i : ℕ) (d : Message) → i < length ms → length fs ≡ i → f ≡ is_none (made_ready (slot_of w (get_or ms i d).part) (get_or ms i d) f).handler → AreShown w ms fs → AreShown w ms (fs ++ f ∷ [])
AreShown-more w [] fs f i d lt len here was = absurd (omega arith)
AreShown-more w (m ∷ ms) [] f zero d lt len here was = (here, tt)
AreShown-more w (m ∷ ms) [] f (suc i) d lt len here was = absurd (omega arith)
AreShown-more w (m ∷ ms) (g ∷ fs) f zero d lt len here was = absurd (omega arith)
AreShown-more w (m ∷ ms) (g ∷ fs) f (suc i) d lt len here was = (was.0, AreShown-more w ms fs f i d (omega arith) (omega arith) here was.1)

pub KeepsRest-then : (a b c : ParticipantState) → KeepsRest a b → KeepsRest b c → KeepsRest a c
KeepsRest-then a b c was now = record {
  instance = now.instance ∙ was.instance;
  spare = now.spare ∙ was.spare;
  retired = now.retired ∙ was.retired;
  faults = omega (arith, was.faults, now.faults);
  listed = now.listed ∙ was.listed;
}

accepted-at : (w : Participant) (ms : List Message) (i : ℕ) (d : Message) → AreAccepted w ms → i < length ms → (slot_of w (get_or ms i d).part).work ≡ Accepted (get_or ms i d)
accepted-at w [] i d all lt = absurd (omega arith)
accepted-at w (m ∷ ms) zero d all lt = all.0
accepted-at w (m ∷ ms) (suc i) d all lt = accepted-at w ms i d all.1 (omega arith)

pub IsReadied-none : (a : ParticipantState) (ms : List Message) → IsReadied a a ms []
IsReadied-none a ms = record {
  plain = none a.plain ms;
  answered = tt;
  shown = tt;
  made = omega arith;
  rest = record { instance = refl; spare = refl; retired = refl; faults = omega arith; listed = refl };
}
  where
    none : (w : Participant) (ms : List Message) → w ≡ readied_all w ms []
    none w [] = refl
    none w (m ∷ ms) = refl

-- the next handler isn't made
pub IsReadied-still : (a b c : ParticipantState) (ms : List Message) (fs : List Bool) → IsReadied a b ms fs → c.plain ≡ b.plain → b.made ≤ c.made → KeepsRest b c → IsReadied a c ms fs
IsReadied-still a b c ms fs was same more kept = record {
  plain = same ∙ was.plain;
  answered = AreAnswered-later a b c ms fs was.answered kept.faults more;
  shown = was.shown;
  made = omega (arith, was.made, more);
  rest = KeepsRest-then a b c was.rest kept;
}

-- the next handler is made, or the making failed
pub IsReadied-more : (a b c : ParticipantState) (ms : List Message) (fs : List Bool) (i : ℕ) (m : Message) → AreSpread ms → IsReadied a b ms fs → length fs ≡ i → i < length ms → m ≡ get_or ms i m → c.plain ≡ readied b.plain m (is_none (slot_of c.plain m.part).handler) → (makes (slot_of b.plain m.part) m ≡ true → IsMaking b.faults c.faults c.made b.listed b.plain.tried m.part (is_none (slot_of c.plain m.part).handler)) → b.made ≤ c.made → KeepsRest b c → IsReadied a c ms (fs ++ is_none (slot_of c.plain m.part).handler ∷ [])
IsReadied-more a b c ms fs i m spread was len lt at_i now answer more kept =
    let f = is_none (slot_of c.plain m.part).handler in
    let stays : slot_of b.plain m.part ≡ slot_of a.plain m.part =
    ap (λ w. slot_of w m.part) was.plain ∙ (let e = slot-left a.plain ms fs i m spread lt (omega arith) in rw (← at_i) at e) in
    let tries : tried_of b.plain.tried m.part ≡ tried_of a.plain.tried m.part =
    ap (λ (w : Participant). tried_of w.tried m.part) was.plain ∙ (let e = tried-left a.plain ms fs i m spread lt (omega arith) in rw (← at_i) at e) in
    let here : makes (slot_of a.plain m.part) m ≡ true → IsMaking a.faults c.faults c.made a.listed a.plain.tried m.part f =
    λ e. IsMaking-since a.faults b.faults c.faults c.made a.listed a.plain.tried b.plain.tried m.part f (rw was.rest.listed at (answer (rw stays e))) was.rest.faults tries in
    let end : slot_of c.plain m.part ≡ made_ready (slot_of a.plain m.part) m f =
    ap (λ w. slot_of w m.part) now ∙ readied-own b.plain m f ∙ ap (λ x. made_ready x m f) stays in
    let shows : f ≡ is_none (made_ready (slot_of a.plain m.part) m f).handler = ap (λ (x : Slot). is_none x.handler) end in
    record {
      plain = now ∙ ap (λ w. readied w m f) was.plain ∙ sym (let e = readied_all-more a.plain ms fs f i m lt len in rw (← at_i) at e);
      answered = AreAnswered-more a c ms fs f i m lt len (rw (← at_i) here) (AreAnswered-later a b c ms fs was.answered kept.faults more);
      shown = AreShown-more a.plain ms fs f i m lt len (rw (← at_i) shows) was.shown;
      made = omega (arith, was.made, more);
      rest = KeepsRest-then a b c was.rest kept;
    }

-- the slots that were reached
abbrev pub AreReached : Participant → Participant → List Message → List Bool → Type 0
AreReached w v [] fs = Unit {0}
AreReached w v (m ∷ ms) [] = Unit {0}
AreReached w v (m ∷ ms) (f ∷ fs) = (slot_of v m.part ≡ made_ready (slot_of w m.part) m f) × AreReached w v ms fs

reached-from : (w v : Participant) (n : Message) (g : Bool) (ms : List Message) (fs : List Bool) → AreApart n.part ms → AreReached (readied w n g) v ms fs → AreReached w v ms fs
reached-from w v n g [] fs apart all = tt
reached-from w v n g (m ∷ ms) [] apart all = tt
reached-from w v n g (m ∷ ms) (f ∷ fs) apart all =
    (all.0 ∙ ap (λ x. made_ready x m f) (readied-other w n g m.part (part_eq-flip m.part n.part apart.0)), reached-from w v n g ms fs apart.1 all.1)

all-reached : (w : Participant) (ms : List Message) (fs : List Bool) → AreSpread ms → AreReached w (readied_all w ms fs) ms fs
all-reached w [] fs spread = tt
all-reached w (m ∷ ms) [] spread = tt
all-reached w (m ∷ ms) (f ∷ fs) spread = (
  readied_all-apart (readied w m f) ms fs m.part spread.0 ∙ readied-own w m f,
  reached-from w (readied_all (readied w m f) ms fs) m f ms fs spread.0 (all-reached (readied w m f) ms fs spread.1),
)

-- messages stay accepted while handlers are made
work-readied : (w : Participant) (m : Message) (f : Bool) (p : PartId) → (slot_of (readied w m f) p).work ≡ (slot_of w p).work
work-readied w m f p = one (part_eq m.part p) refl
  where
    one : (b : Bool) → part_eq m.part p ≡ b → (slot_of (readied w m f) p).work ≡ (slot_of w p).work
    one true e = subst (λ (q : PartId). (slot_of (readied w m f) q).work ≡ (slot_of w q).work) (part_same m.part p e) (ap (λ (x : Slot). x.work) (readied-own w m f))
    one false e = ap (λ (x : Slot). x.work) (readied-other w m f p e)

pub stays-accepted : (w v : Participant) (m : Message) (f : Bool) → v ≡ readied w m f → (slot_of w m.part).work ≡ Accepted m → (slot_of v m.part).work ≡ Accepted m
stays-accepted w v m f is stands = ap (λ (u : Participant). (slot_of u m.part).work) is ∙ work-readied w m f m.part ∙ stands

work-readied_all : (w : Participant) (ms : List Message) (fs : List Bool) (p : PartId) → (slot_of (readied_all w ms fs) p).work ≡ (slot_of w p).work
work-readied_all w [] fs p = refl
work-readied_all w (m ∷ ms) [] p = refl
work-readied_all w (m ∷ ms) (f ∷ fs) p = work-readied_all (readied w m f) ms fs p ∙ work-readied w m f p

pub AreAccepted-same : (w v : Participant) (ms : List Message) → ((p : PartId) → (slot_of v p).work ≡ (slot_of w p).work) → AreAccepted w ms → AreAccepted v ms
AreAccepted-same w v [] same all = tt
AreAccepted-same w v (m ∷ ms) same all = (same m.part ∙ all.0, AreAccepted-same w v ms same all.1)

pub accepted-readied : (w v : Participant) (ms : List Message) (fs : List Bool) → v ≡ readied_all w ms fs → AreAccepted w ms → AreAccepted v ms
accepted-readied w v ms fs is all = AreAccepted-same w v ms (λ p. ap (λ u. (slot_of u p).work) is ∙ work-readied_all w ms fs p) all

-- messages that went out
given-other : (w : Participant) (m : Message) (p : PartId) → part_eq m.part p ≡ false → slot_of (given w m) p ≡ slot_of w p
given-other w m p other =
    let own : (slot_of w m.part).part ≡ m.part = part-slot_in w.slots m.part in
    slot_in-put_other w.slots (emptied_for (slot_of w m.part) m) p (subst (λ (q : PartId). part_eq q p ≡ false) (sym own) other)

slot-ungiven : (w : Participant) (ms : List Message) (i : ℕ) (d : Message) → AreSpread ms → i < length ms → slot_of (given_all w (take i ms)) (get_or ms i d).part ≡ slot_of w (get_or ms i d).part
slot-ungiven w [] i d spread lt = absurd (omega arith)
slot-ungiven w (m ∷ ms) zero d spread lt = refl
slot-ungiven w (m ∷ ms) (suc i) d spread lt =
    let below : i < length ms = omega arith in
    slot-ungiven (given w m) ms i d spread.1 below ∙ given-other w m (get_or ms i d).part (apart-at m.part ms i d spread.0 below)

pub given_all-more : (w : Participant) (ms : List Message) (i : ℕ) (d : Message) → i < length ms → given_all w (take (suc i) ms) ≡ given (given_all w (take i ms)) (get_or ms i d)
given_all-more w [] i d lt = absurd (omega arith)
given_all-more w (m ∷ ms) zero d lt = refl
given_all-more w (m ∷ ms) (suc i) d lt = given_all-more (given w m) ms i d (omega arith)

pub AreGiven-more : (a : ParticipantState) (ms : List Message) (js : List Job) (j : Job) (i : ℕ) (d : Message) → i < length ms → length js ≡ i → j.message ≡ get_or ms i d → runs_of j.handler ≡ (slot_of a.plain (get_or ms i d).part).handler → ForSome j.handler (λ h. h.listed ≡ a.listed) → AreGiven a ms js → AreGiven a ms (js ++ j ∷ [])
AreGiven-more a [] js j i d lt len message runs listed was = absurd (omega arith)
AreGiven-more a (m ∷ ms) [] j zero d lt len message runs listed was = (message, runs, listed, tt)
AreGiven-more a (m ∷ ms) [] j (suc i) d lt len message runs listed was = absurd (omega arith)
AreGiven-more a (m ∷ ms) (h ∷ js) j zero d lt len message runs listed was = absurd (omega arith)
AreGiven-more a (m ∷ ms) (h ∷ js) j (suc i) d lt len message runs listed was =
    (was.0, was.1, was.2, AreGiven-more a ms js j i d (omega arith) (omega arith) message runs listed was.3)

-- the next message to be handed out stands as it did
pub next-unready : (w v : Participant) (ms : List Message) (fs : List Bool) (i : ℕ) (d : Message) → AreSpread ms → AreAccepted w ms → i < length ms → length fs ≤ i → v ≡ readied_all w ms fs → (slot_of v (get_or ms i d).part).work ≡ Accepted (get_or ms i d)
next-unready w v ms fs i d spread accepted lt len is =
    ap (λ u. (slot_of u (get_or ms i d).part).work) is ∙ ap (λ x. x.work) (slot-left w ms fs i d spread lt len) ∙ accepted-at w ms i d accepted lt

pub next-ungiven : (w v : Participant) (ms : List Message) (i : ℕ) (d : Message) → AreSpread ms → i < length ms → v ≡ given_all w (take i ms) → slot_of v (get_or ms i d).part ≡ slot_of w (get_or ms i d).part
next-ungiven w v ms i d spread lt is = ap (λ u. slot_of u (get_or ms i d).part) is ∙ slot-ungiven w ms i d spread lt

pub next-accepted : (w v : Participant) (ms : List Message) (i : ℕ) (d : Message) → AreSpread ms → AreAccepted w ms → i < length ms → v ≡ given_all w (take i ms) → (slot_of v (get_or ms i d).part).work ≡ Accepted (get_or ms i d)
next-accepted w v ms i d spread accepted lt is = ap (λ x. x.work) (next-ungiven w v ms i d spread lt is) ∙ accepted-at w ms i d accepted lt

all-first : {X : Type 0} (P : X → Type 0) (x : X) (xs : List X) → P x → All P xs → All P (x ∷ xs)
all-first P x xs p ps zero d lt = p
all-first P x xs p ps (suc k) d lt = ps k d (omega arith)

is_none-runs : (h : Option Held) → is_none h ≡ is_none (runs_of h)
is_none-runs None = refl
is_none-runs (Some x) = refl

record AreHanded (a c : ParticipantState) (ms : List Message) (fs : List Bool) (js : List Job) : Type 0 where
  pub messages : map (λ j. j.message) js ≡ ms
  pub answers : map (λ j. is_none j.handler) js ≡ fs
  pub handed : All (IsHanded a c) js

-- jobs of all messages, with what their handlers' makings answered
all-handed : (a b c : ParticipantState) (ms : List Message) (fs : List Bool) (js : List Job) → b.listed ≡ a.listed → AreReached a.plain b.plain ms fs → AreShown a.plain ms fs → AreAnswered a c ms fs → AreGiven b ms js → length fs ≡ length ms → length js ≡ length ms → AreHanded a c ms fs js
all-handed a b c [] [] [] tells reached shown answered given len lens = record { messages = refl; answers = refl; handed = λ k d lt. absurd (omega arith) }
all-handed a b c [] [] (j ∷ js) tells reached shown answered given len lens = absurd (omega arith)
all-handed a b c [] (f ∷ fs) js tells reached shown answered given len lens = absurd (omega arith)
all-handed a b c (m ∷ ms) [] js tells reached shown answered given len lens = absurd (omega arith)
all-handed a b c (m ∷ ms) (f ∷ fs) [] tells reached shown answered given len lens = absurd (omega arith)
all-handed a b c (m ∷ ms) (f ∷ fs) (j ∷ js) tells reached shown answered given len lens =
    let rest = all-handed a b c ms fs js tells reached.1 shown.1 answered.1 given.3 (omega arith) (omega arith) in
    let same : j.message ≡ m = given.0 in
    let runs : runs_of j.handler ≡ (made_ready (slot_of a.plain m.part) m f).handler = given.1 ∙ ap (λ (x : Slot). x.handler) reached.0 in
    let answer : is_none j.handler ≡ f = is_none-runs j.handler ∙ ap (λ (h : Option ℕ). is_none h) runs ∙ sym shown.0 in
    record {
      messages = rw (same, rest.messages) refl;
      answers = rw (answer, rest.answers) refl;
      handed = all-first (IsHanded a c) j js
          (record {
            runs = rw (same, answer) runs;
            listed = rw (← tells) given.2;
            answer = rw (same, answer) answered.0;
          })
          rest.handed;
    }

-- what stays while messages go out
KeepsRest-given : (a b d : ParticipantState) → KeepsRest a b → d ≡ record b { plain = d.plain } → KeepsRest a d
KeepsRest-given a b d was stays = record {
  instance = ap (λ (s : ParticipantState). s.instance) stays ∙ was.instance;
  spare = ap (λ (s : ParticipantState). s.spare) stays ∙ was.spare;
  retired = ap (λ (s : ParticipantState). s.retired) stays ∙ was.retired;
  faults = (let same : d.faults ≡ b.faults = ap (λ (s : ParticipantState). s.faults) stays in omega (arith, same, was.faults));
  listed = ap (λ (s : ParticipantState). s.listed) stays ∙ was.listed;
}

-- all messages went out, after their handlers were made, and a single one did
pub record AreOut (a d : ParticipantState) (ms : List Message) (js : List Job) : Type 0 where
  pub asked : map (λ j. j.message) js ≡ ms
  pub plain : d.plain ≡ hand_out_all a.plain ms (map (λ j. is_none j.handler) js)
  pub handed : All (IsHanded a d) js
  pub rest : KeepsRest a d

pub all-out : (a b d : ParticipantState) (ms : List Message) (fs : List Bool) (js : List Job) → AreSpread ms → IsReadied a b ms fs → length fs ≡ length ms → d ≡ record b { plain = d.plain } → d.plain ≡ given_all b.plain ms → AreGiven b ms js → length js ≡ length ms → AreOut a d ms js
all-out a b d ms fs js spread was len stays out gives lens =
    let faults : d.faults ≡ b.faults = ap (λ (s : ParticipantState). s.faults) stays in
    let made : d.made ≡ b.made = ap (λ (s : ParticipantState). s.made) stays in
    let answered : AreAnswered a d ms fs = AreAnswered-later a b d ms fs was.answered (omega (arith, faults)) (omega (arith, made)) in
    let reached : AreReached a.plain b.plain ms fs = rw was.plain (all-reached a.plain ms fs spread) in
    let handed : AreHanded a d ms fs js = all-handed a b d ms fs js was.rest.listed reached was.shown answered gives len lens in
    record {
      asked = handed.messages;
      plain = rw handed.answers (out ∙ ap (λ w. given_all w ms) was.plain);
      handed = handed.handed;
      rest = KeepsRest-given a b d was.rest stays;
    }

pub record IsOne (a d : ParticipantState) (j : Job) : Type 0 where
  pub plain : d.plain ≡ hand_out a.plain j.message (is_none j.handler)
  pub handed : IsHanded a d j
  pub rest : KeepsRest a d

pub one-out : (a b d : ParticipantState) (m : Message) (j : Job) → b.plain ≡ readied a.plain m (is_none (slot_of b.plain m.part).handler) → (makes (slot_of a.plain m.part) m ≡ true → IsMaking a.faults b.faults b.made a.listed a.plain.tried m.part (is_none (slot_of b.plain m.part).handler)) → KeepsRest a b → d.plain ≡ given b.plain m → j.message ≡ m → runs_of j.handler ≡ (slot_of b.plain m.part).handler → ForSome j.handler (λ h. h.listed ≡ b.listed) → d ≡ record b { plain = d.plain } → IsOne a d j
one-out a b d m j plain answer kept out same runs listed stays =
    let f = is_none (slot_of b.plain m.part).handler in
    let ended : is_none j.handler ≡ f = is_none-runs j.handler ∙ ap (λ (h : Option ℕ). is_none h) runs in
    let reached : slot_of b.plain m.part ≡ made_ready (slot_of a.plain m.part) m f = ap (λ w. slot_of w m.part) plain ∙ readied-own a.plain m f in
    let faults : d.faults ≡ b.faults = ap (λ (s : ParticipantState). s.faults) stays in
    let made : d.made ≡ b.made = ap (λ (s : ParticipantState). s.made) stays in
    let answered : makes (slot_of a.plain m.part) m ≡ true → IsMaking a.faults d.faults d.made a.listed a.plain.tried m.part f =
    λ e. rw (faults, made) (answer e) in
    record {
      plain = rw (same, ended) (out ∙ ap (λ w. given w m) plain);
      handed = record {
        runs = rw (same, ended) (runs ∙ ap (λ (x : Slot). x.handler) reached);
        listed = rw kept.listed at listed;
        answer = rw (same, ended) answered;
      };
      rest = KeepsRest-given a b d kept stays;
    }
