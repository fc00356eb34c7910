-- What a write takes of what may still be tried.
use Rattle.std.proofs.Common.{◌≡◌, ℕ, ◌+◌, ◌||◌, ◌&&◌, ◌==◌, not, Bool, true, false, List, [], ◌∷◌, length, filter, get_or, Option, Some, None, refl, sym, ap, ◌∙◌, arith}
use Rattle.std.specs.Prelude.{if◌then◌else◌, nat_lt, unwrap_or}
use Rattle.std.specs.List.{list_any}
use Rattle.std.specs.Option.{option_map_or}
use Rattle.std.proofs.lemmas.Bool.Decides.{nat_tests}
use Rattle.hx_ids.specs.declared.StateId.{StateId}
use Rattle.hx_ids.specs.declared.SessionId.{SessionId}
use Rattle.hx_ids.specs.declared.MsgId.{MsgId}
use Rattle.hx_ids.specs.declared.PartId.{PartId}
use Rattle.hx_model.specs.declared.ModelParts.{ModelParts}
use Rattle.hx_model.specs.Faults.{fault_of}
use Rattle.hx_model.specs.Model.{error, dropped, has_state, is_legal}
use Rattle.hx_model.proofs.Facts.{sound_facts}
use Rattle.hx_cluster.specs.declared.description.Resource.{Resource}
use Rattle.hx_cluster.specs.declared.state.Row.{Row}
use Rattle.hx_cluster.specs.declared.state.Message.{Message}
use Rattle.hx_cluster.specs.declared.state.Cluster.{Cluster}
use Rattle.hx_cluster.specs.declared.happenings.Outcome.{Outcome}
use Rattle.hx_cluster.specs.declared.happenings.Outcome.TheVariants as outcomes
use Rattle.hx_cluster.specs.Ends.{part_eq, is_live, state_of, resource_at, no_model, model_at, model_of, parts_of}
use Rattle.hx_cluster.specs.Steps.{is_error, is_flag}
use Rattle.hx_cluster.specs.Messages.{has_id, pending_of, standing_of, row_put, state_after, flags_after, written_of, after_write}
use Rattle.hx_cluster.specs.Events.{has_part}
use Rattle.hx_cluster.specs.Safe.{IsSafe, is_row_written, is_pending, is_at_its_place}
use Rattle.hx_cluster.specs.Ranged.{IsRanged}
use Rattle.hx_pass.specs.Explained.{view_at}
use Rattle.hx_safe.proofs.Counting.{and-first, and-second, and-six, all-find, none-from-all}
use Rattle.hx_safe.proofs.Ends.{session_same, part_same, put-other, put-here}
use Rattle.hx_settled.specs.Places.{Place, places_of, tries_at, tries_of, tries_left, spent, is_spendable}
use Rattle.hx_settled.proofs.Moments.{sound_of, view_formed}
use Rattle.hx_settled.proofs.Hopping.{good_in, listed_plain, to_no_error}
use Rattle.hx_settled.proofs.Summing.{sum-more}
use Rattle.hx_settled.proofs.Single.{is_place, one_place}

-- the model of a part that is there has no fault
pub part_sound : (c : Cluster) → IsSafe c → IsRanged c → (p : PartId) → nat_lt p.index (parts_of c.resources p.resource) ≡ true → fault_of (model_of c.models c.resources p.resource) ≡ None
part_sound c safe ranged p low = one (resource_at c.resources p.resource) refl low
  where
    one : (o : Option Resource) → resource_at c.resources p.resource ≡ o → nat_lt p.index (option_map_or (λ x. x.ideal.parts) o 0) ≡ true
        → fault_of (option_map_or (λ x. model_at c.models x.model) o no_model) ≡ None
    one None at e = absurd (grind (arith, nat_tests, e))
    one (Some r) at e = (good_in c.models (length c.instances) (view_at c) (sound_of c safe ranged) (view_formed c safe ranged) r p.resource at).0

-- a pending message that isn't written
pub record IsUnwritten (c : Cluster) (m : Message) : Type 0 where
  pub live : is_live c.live m.session ≡ true
  pub part : nat_lt m.part.index (parts_of c.resources m.part.resource) ≡ true
  pub legal : is_legal (model_of c.models c.resources m.part.resource) m.from m.to ≡ true
  pub stands : ((standing_of c m.session m.part).0 == m.from.0) ≡ true
  pub sound : fault_of (model_of c.models c.resources m.part.resource) ≡ None

pub unwritten : (c : Cluster) → IsSafe c → IsRanged c → (s : SessionId) (id : MsgId) (m : Message) → pending_of c s id ≡ Some m → m.written ≡ false → IsUnwritten c m
unwritten c safe ranged s id m is fresh =
    let pending : is_pending c m ≡ true = all-find (is_pending c) (has_id s id) c.mail m safe.mail.pending is in
    let parts = and-six (is_live c.live m.session) (has_part c m.part) (is_legal (model_of c.models c.resources m.part.resource) m.from m.to) (nat_lt m.id.0 c.next_msg) (not m.written || m.taken)
    (is_at_its_place c m) pending in
    let place : (if false then is_row_written m (state_of c.rows m.session m.part) else (standing_of c m.session m.part).0 == m.from.0) ≡ true
    = sym (ap (λ (b : Bool). if b then is_row_written m (state_of c.rows m.session m.part) else (standing_of c m.session m.part).0 == m.from.0) fresh) ∙ parts.5 in
    record { live = parts.0; part = parts.1; legal = parts.2; stands = place; sound = part_sound c safe ranged m.part parts.1 }

clash : (b : Bool) → b ≡ true → b ≡ false → ⊥
clash true e w = absurd (let no_one : true ≡ false = w in cc)
clash false e w = absurd (let no_one : false ≡ true = e in cc)

-- the initial state isn't ERROR, so only a row is in ERROR
initial_plain : (m : ModelParts) → fault_of m ≡ None → (m.initial.0 == error.0) ≡ false
initial_plain m none = one (m.initial.0 == error.0) refl
  where
    low : (n : ℕ) → (n == 0) ≡ true → nat_lt n 2 ≡ true
    low n e = grind (arith, nat_tests, e)

    one : (b : Bool) → (m.initial.0 == error.0) ≡ b → b ≡ false
    one false is = refl
    one true is = absurd (clash (has_state m m.initial) (sound_facts m none).initial (listed_plain m none m.initial (low m.initial.0 is)))

pub in_error_from : (c : Cluster) (m : Message) → IsUnwritten c m → is_error (state_of c.rows m.session m.part) ≡ (m.from.0 == error.0)
in_error_from c m u = one (state_of c.rows m.session m.part) u.stands
  where
    same : (a b : ℕ) → (a == b) ≡ true → a ≡ b
    same a b e = grind (arith, nat_tests, e)

    model : ModelParts
    model = model_of c.models c.resources m.part.resource

    one : (o : Option StateId) → ((unwrap_or o model.initial).0 == m.from.0) ≡ true → is_error o ≡ (m.from.0 == error.0)
    one None e = sym (initial_plain model u.sound) ∙ ap (λ (n : ℕ). n == error.0) (same model.initial.0 m.from.0 e)
    one (Some s) e = ap (λ (n : ℕ). n == error.0) (same s.0 m.from.0 e)

-- where it is put, it is in ERROR exactly where it failed
pub put_error : (rows : List Row) (s : SessionId) (p : PartId) (t : StateId) → is_error (state_of (row_put rows s p t) s p) ≡ (t.0 == error.0)
put_error rows s p t = ap is_error (put-here rows s p t) ∙ one (t.0 == dropped.0) refl
  where
    one : (b : Bool) → (t.0 == dropped.0) ≡ b → is_error (if b then None else Some t) ≡ (t.0 == error.0)
    one true is = let not_error : (t.0 == error.0) ≡ false = grind (arith, nat_tests, is) in sym not_error
    one false is = refl

-- only replicas in ERROR have flags
pub no_flag : (c : Cluster) → IsSafe c → (s : SessionId) (p : PartId) → is_error (state_of c.rows s p) ≡ false → list_any (is_flag s p) c.resets ≡ false
no_flag c safe s p plain = none-from-all (λ f. is_error (state_of c.rows f.0 f.1)) (is_flag s p) (λ f e. one f (is_flag s p f) refl e) c.resets safe.rows.flags
  where
    one : (f : SessionId × PartId) (b : Bool) → is_flag s p f ≡ b → is_error (state_of c.rows f.0 f.1) ≡ true → b ≡ false
    one f false is e = refl
    one f true is e =
        let session : f.0 ≡ s = session_same f.0 s (and-first (f.0.0 == s.0) (part_eq f.1 p) is) in
        let part : f.1 ≡ p = part_same f.1 p (and-second (f.0.0 == s.0) (part_eq f.1 p) is) in
        sym (sym (λ i. is_error (state_of c.rows (session i) (part i))) ∙ e) ∙ plain

-- flags of others stay
pub other_flags : (s u : SessionId) (p q : PartId) → ((u.0 == s.0) && part_eq q p) ≡ false → (flags : List (SessionId × PartId))
    → list_any (is_flag u q) (filter (λ f. not (is_flag s p f)) flags) ≡ list_any (is_flag u q) flags
other_flags s u p q ne [] = refl
other_flags s u p q ne (f ∷ flags) = one (is_flag s p f) refl (other_flags s u p q ne flags)
  where
    one : (b : Bool) → is_flag s p f ≡ b → list_any (is_flag u q) (filter (λ f. not (is_flag s p f)) flags) ≡ list_any (is_flag u q) flags
        → list_any (is_flag u q) (if not b then f ∷ filter (λ f. not (is_flag s p f)) flags else filter (λ f. not (is_flag s p f)) flags) ≡ list_any (is_flag u q) (f ∷ flags)
    one true is rest = let other : is_flag u q f ≡ false = grind (arith, nat_tests, is, ne) in grind (arith, other, rest)
    one false is rest = ap (λ (b : Bool). is_flag u q f || b) rest

-- each place
module _ (c : Cluster) (safe : IsSafe c) (ranged : IsRanged c) (s : SessionId) (id : MsgId) (m : Message) (outcome : Outcome) (u : IsUnwritten c m) where
  abbrev d : Cluster
  d = written_of c s id outcome (Some m)

  other_place : (x : Place) → is_place m.session m.part x ≡ false → tries_at c x ≡ tries_at d x
  other_place x ne i = tries_of (is_error (sym (put-other c.rows m.session x.session m.part x.part (state_after m outcome) ne) i)) (sym flags i)
    where
      flags : list_any (is_flag x.session x.part) (flags_after c.resets m outcome) ≡ list_any (is_flag x.session x.part) c.resets
      flags = one outcome
        where
          one : (o : Outcome) → list_any (is_flag x.session x.part) (flags_after c.resets m o) ≡ list_any (is_flag x.session x.part) c.resets
          one outcomes.Ok = other_flags m.session x.session m.part x.part ne c.resets
          one outcomes.Failed = refl

  -- before: as from says; after: in ERROR exactly where it failed
  this_place : is_spendable c m outcome ≡ true
      → tries_of (is_error (state_of c.rows m.session m.part)) (list_any (is_flag m.session m.part) c.resets)
      ≡ tries_of (is_error (state_of (row_put c.rows m.session m.part (state_after m outcome)) m.session m.part)) (list_any (is_flag m.session m.part) (flags_after c.resets m outcome)) + spent m outcome
  this_place may = by_outcome outcome may
    where
      before : (b : Bool) → (m.from.0 == error.0) ≡ b → is_error (state_of c.rows m.session m.part) ≡ b
      before b is = in_error_from c m u ∙ is

      ok : (b : Bool) → (m.from.0 == error.0) ≡ b → (not b || list_any (is_flag m.session m.part) c.resets) ≡ true → (n : ℕ) → n ≡ 1
          → tries_of b (list_any (is_flag m.session m.part) c.resets) ≡ n + (if b then 1 else 0)
      ok true is may n one = ap (λ (f : Bool). tries_of true f) may ∙ two
        where
          two : 2 ≡ n + 1
          two = omega (arith, one)
      ok false is may n one = let plain : n + 0 ≡ 1 = omega (arith, one) in sym plain

      by_outcome : (o : Outcome) → is_spendable c m o ≡ true
          → tries_of (is_error (state_of c.rows m.session m.part)) (list_any (is_flag m.session m.part) c.resets)
          ≡ tries_of (is_error (state_of (row_put c.rows m.session m.part (state_after m o)) m.session m.part)) (list_any (is_flag m.session m.part) (flags_after c.resets m o)) + spent m o
      by_outcome outcomes.Ok may =
          let after : is_error (state_of (row_put c.rows m.session m.part m.to) m.session m.part) ≡ false
          = put_error c.rows m.session m.part m.to ∙ to_no_error (model_of c.models c.resources m.part.resource) u.sound m.from m.to u.legal in
          let one : tries_of (is_error (state_of (row_put c.rows m.session m.part m.to) m.session m.part)) (list_any (is_flag m.session m.part) (flags_after c.resets m outcomes.Ok)) ≡ 1
          = ap (λ (b : Bool). tries_of b (list_any (is_flag m.session m.part) (flags_after c.resets m outcomes.Ok))) after in
          ap (λ (b : Bool). tries_of b (list_any (is_flag m.session m.part) c.resets)) (in_error_from c m u)
          ∙ ok (m.from.0 == error.0) refl may (tries_of (is_error (state_of (row_put c.rows m.session m.part m.to) m.session m.part)) (list_any (is_flag m.session m.part) (flags_after c.resets m outcomes.Ok))) one
      by_outcome outcomes.Failed may =
          let plain : is_error (state_of c.rows m.session m.part) ≡ false = in_error_from c m u ∙ unset (m.from.0 == error.0) may in
          let none : list_any (is_flag m.session m.part) c.resets ≡ false = no_flag c safe m.session m.part plain in
          let after : is_error (state_of (row_put c.rows m.session m.part error) m.session m.part) ≡ true = put_error c.rows m.session m.part error in
          ap (λ (b : Bool). tries_of b (list_any (is_flag m.session m.part) c.resets)) plain ∙ sym (λ i. tries_of (after i) (none i) + 1)
        where
          unset : (b : Bool) → not b ≡ true → b ≡ false
          unset true e = sym e
          unset false e = refl

  each_place : is_spendable c m outcome ≡ true → (x : Place) → tries_at c x ≡ tries_at d x + (if is_place m.session m.part x then spent m outcome else 0)
  each_place may x = one (is_place m.session m.part x) refl
    where
      plus_none : (n : ℕ) → n ≡ n + 0
      plus_none n = omega arith

      one : (b : Bool) → is_place m.session m.part x ≡ b → tries_at c x ≡ tries_at d x + (if b then spent m outcome else 0)
      one false ne = other_place x ne ∙ plus_none (tries_at d x)
      one true at =
          let session : x.session ≡ m.session = session_same x.session m.session (and-first (x.session.0 == m.session.0) (part_eq x.part m.part) at) in
          let part : x.part ≡ m.part = part_same x.part m.part (and-second (x.session.0 == m.session.0) (part_eq x.part m.part) at) in
          (λ i. tries_at c (record { part = part i; session = session i; instance = x.instance })) ∙ this_place may
          ∙ (λ i. tries_at d (record { part = sym part i; session = sym session i; instance = x.instance }) + spent m outcome)

  pub spends : is_spendable c m outcome ≡ true → tries_left c ≡ tries_left (written_of c s id outcome (Some m)) + spent m outcome
  spends may =
      sum-more (tries_at c) (tries_at d) (is_place m.session m.part) (spent m outcome) (places_of c) (λ k x low. each_place may (get_or (places_of c) k x)) (one_place c safe m.session m.part u.live u.part)

pub tries_spent : (c : Cluster) (s : SessionId) (id : MsgId) (m : Message) (outcome : Outcome) → IsSafe c → IsRanged c → pending_of c s id ≡ Some m → m.written ≡ false → is_spendable c m outcome ≡ true
    → tries_left c ≡ tries_left (after_write c s id outcome) + spent m outcome
tries_spent c s id m outcome safe ranged is fresh may =
    spends c safe ranged s id m outcome (unwritten c safe ranged s id m is fresh) may ∙ ap (λ (o : Option Message). tries_left (written_of c s id outcome o) + spent m outcome) (sym is)
