-- Every step but a dispatch is calm.
use Rattle.std.proofs.Common.{◌≡◌, ◌+◌, ◌==◌, ◌&&◌, not, Bool, true, false, List, [], ◌∷◌, filter, map, Option, Some, None, refl, sym, ap, ◌∙◌, subst, arith}
use Rattle.std.specs.Prelude.{if◌then◌else◌}
use Rattle.std.specs.List.{list_any, list_all}
use Rattle.hx_ids.specs.declared.StateId.{StateId}
use Rattle.hx_ids.specs.declared.SessionId.{SessionId}
use Rattle.hx_ids.specs.declared.MsgId.{MsgId}
use Rattle.hx_ids.specs.declared.PartId.{PartId}
use Rattle.hx_ids.specs.declared.Live.{Live}
use Rattle.hx_cluster.specs.declared.state.Row.{Row}
use Rattle.hx_cluster.specs.declared.state.Message.{Message}
use Rattle.hx_cluster.specs.declared.state.Cluster.{Cluster}
use Rattle.hx_cluster.specs.declared.happenings.Outcome.{Outcome}
use Rattle.hx_cluster.specs.declared.happenings.Admin.{Admin}
use Rattle.hx_cluster.specs.declared.happenings.Admin.TheVariants as steps
use Rattle.hx_cluster.specs.declared.happenings.Event.{Event}
use Rattle.hx_cluster.specs.declared.happenings.Event.TheVariants as events
use Rattle.hx_cluster.specs.Ends.{part_eq, is_live, state_of, message_of}
use Rattle.hx_cluster.specs.Steps.{after, ended_by, live_of, without, without_all, ended_of, beaten_of, asked_of}
use Rattle.hx_cluster.specs.Messages.{is_same, next_pass, has_id, as_taken, as_written, pending_of, row_put, state_after, written_of}
use Rattle.hx_cluster.specs.Events.{next}
use Rattle.hx_cluster.specs.Safe.{HasMail}
use Rattle.hx_safe.proofs.Counting.{all-le, all-map, all-filter}
use Rattle.hx_safe.proofs.Ends.{session_same, part_same, same-self, part_eq-self, put-other}
use Rattle.hx_safe.proofs.Leaving.{state-without}
use Rattle.hx_safe.proofs.Writing.{message_here, written_place}
use Rattle.hx_safe.proofs.Beside.{beside_step, beside_pass}
use Rattle.hx_safe.specs.Calm.{is_dispatch, is_among, is_same_state, has_stayed, IsCalm}
use Rattle.hx_safe.proofs.On.{other-live}

-- a message is the same as itself, whatever its marks
pub same_self : (m : Message) → is_same m m ≡ true
same_self m =
    grind (arith, same-self m.id.0, same-self m.session.0, part_eq-self m.part, same-self m.from.0, same-self m.to.0, same-self m.initial.0, same-self m.epoch.0)

-- each message of a list is among them
pub among_self : (mail : List Message) → list_all (is_among mail) mail ≡ true
among_self [] = refl
among_self (m ∷ mail) =
    let first : is_among (m ∷ mail) m ≡ true = grind (arith, same_self m) in
    let rest : list_all (is_among (m ∷ mail)) mail ≡ true = all-le (is_among mail) (is_among (m ∷ mail)) (λ x e. grind (arith, e)) mail (among_self mail) in
    grind (arith, first, rest)

-- a state is the same as itself
pub state_self : (o : Option StateId) → is_same_state o o ≡ true
state_self None = refl
state_self (Some s) = same-self s.0

pub stayed_same : (now before : Option StateId) (m : Option Message) → now ≡ before → has_stayed now before m ≡ true
stayed_same now before m same =
    let here : is_same_state now before ≡ true = subst (λ (o : Option StateId). is_same_state now o ≡ true) same (state_self now) in
    grind (arith, here)

calm_same : (c d : Cluster) → d.mail ≡ c.mail → d.rows ≡ c.rows → IsCalm c d
calm_same c d mail rows = record {
  mail = ap (list_all (is_among c.mail)) mail ∙ among_self c.mail;
  rows = λ s p e. stayed_same (state_of d.rows s p) (state_of c.rows s p) (message_of c.mail s p) (ap (λ (rs : List Row). state_of rs s p) rows);
}

-- sessions that end
pub live-all : (c : Cluster) (ss : List SessionId) (u : SessionId) → is_live (without_all c ss).live u ≡ true → is_live c.live u ≡ true
live-all c [] u e = e
live-all c (s ∷ ss) u e = more c.live (live-all (without c s) ss u e)
  where
    more : (live : List Live) → is_live (filter (λ l. not (l.session.0 == s.0)) live) u ≡ true → is_live live u ≡ true
    more [] e = e
    more (l ∷ live) e = one (l.session.0 == s.0) (λ w. more live w) e
      where
        one : (b : Bool) → (is_live (filter (λ x. not (x.session.0 == s.0)) live) u ≡ true → is_live live u ≡ true)
            → is_live (if not b then l ∷ filter (λ x. not (x.session.0 == s.0)) live else filter (λ x. not (x.session.0 == s.0)) live) u ≡ true → is_live (l ∷ live) u ≡ true
        one true rest e = let there = rest e in grind (arith, there)
        one false rest e = grind (arith, e, rest)

state-all : (c : Cluster) (ss : List SessionId) (u : SessionId) (q : PartId) → is_live (without_all c ss).live u ≡ true
    → state_of (without_all c ss).rows u q ≡ state_of c.rows u q
state-all c [] u q e = refl
state-all c (s ∷ ss) u q e =
    state-all (without c s) ss u q e ∙ state-without c.rows s u q (other-live c.live s u (live-all (without c s) ss u e))

mail-all : (p : Message → Bool) (c : Cluster) (ss : List SessionId) → list_all p c.mail ≡ true → list_all p (without_all c ss).mail ≡ true
mail-all p c [] e = e
mail-all p c (s ∷ ss) e = mail-all p (without c s) ss (all-filter p (λ m. not (m.session.0 == s.0)) c.mail e)

calm_all : (c : Cluster) (ss : List SessionId) → IsCalm c (without_all c ss)
calm_all c ss = record {
  mail = mail-all (is_among c.mail) c ss (among_self c.mail);
  rows = λ s p e. stayed_same (state_of (without_all c ss).rows s p) (state_of c.rows s p) (message_of c.mail s p) (state-all c ss s p e);
}

calm_end : (c : Cluster) (o : Option Live) → IsCalm c (ended_of c o)
calm_end c None = calm_same c c refl refl
calm_end c (Some l) = calm_all c (l.session ∷ [])

calm_beat : (c : Cluster) (o : Option Live) → IsCalm c (beaten_of c o)
calm_beat c None = calm_same c c refl refl
calm_beat c (Some l) = calm_same c (beaten_of c (Some l)) refl refl

calm_asked : (c : Cluster) (p : PartId) (o : Option Live) → IsCalm c (asked_of c p o)
calm_asked c p None = calm_same c c refl refl
calm_asked c p (Some l) = calm_same c (asked_of c p (Some l)) refl refl

pub calm_step : (c : Cluster) (step : Admin) → IsCalm c (after c step)
calm_step c (steps.Join i) = calm_same c (after c (steps.Join i)) refl refl
calm_step c (steps.End i) = calm_end c (live_of c.live i)
calm_step c (steps.Beat i) = calm_beat c (live_of c.live i)
calm_step c (steps.Tick n) =
    let later = calm_all (record c { clock = c.clock + n }) (ended_by c n) in
    record { mail = later.mail; rows = later.rows }
calm_step c (steps.Reset i p) = calm_asked c p (live_of c.live i)
calm_step c step = let beside = beside_step c step refl in calm_same c (after c step) beside.mail beside.rows

-- marks
marked_same : (b : Bool) (x m n : Message) → is_same n x ≡ is_same m x → is_same (if b then n else m) x ≡ is_same m x
marked_same true x m n e = e
marked_same false x m n e = refl

taken_same : (s : SessionId) (id : MsgId) (x m : Message) → is_same (as_taken s id m) x ≡ is_same m x
taken_same s id x m = marked_same (has_id s id m) x m (record m { taken = true }) refl

written_same : (s : SessionId) (id : MsgId) (x m : Message) → is_same (as_written s id m) x ≡ is_same m x
written_same s id x m = marked_same (has_id s id m) x m (record m { written = true }) refl

pub any-same : {X : Type 0} (p q : X → Bool) (h : (x : X) → p x ≡ q x) (xs : List X) → list_any p xs ≡ list_any q xs
any-same p q h [] = refl
any-same p q h (x ∷ xs) = grind (arith, h x, any-same p q h xs)

-- a mark leaves a message among those that it was among
among_marked : (f : Message → Message) → ((x m : Message) → is_same (f m) x ≡ is_same m x) → (others mail : List Message) → list_all (is_among others) mail ≡ true
    → list_all (is_among others) (map f mail) ≡ true
among_marked f same others mail e =
    all-map (is_among others) f mail
    ∙ all-le (is_among others) (λ m. is_among others (f m)) (λ m w. any-same (is_same (f m)) (is_same m) (λ x. same x m) others ∙ w) mail e

-- a written row stands where its message put it, and the others where they stood
stayed_put : (c : Cluster) (m : Message) (outcome : Outcome) → message_of c.mail m.session m.part ≡ Some m → (s : SessionId) (p : PartId)
    → has_stayed (state_of (row_put c.rows m.session m.part (state_after m outcome)) s p) (state_of c.rows s p) (message_of c.mail s p) ≡ true
stayed_put c m outcome here s p = one ((s.0 == m.session.0) && part_eq p m.part) refl
  where
    Stayed : SessionId → PartId → Type 0
    Stayed s p = has_stayed (state_of (row_put c.rows m.session m.part (state_after m outcome)) s p) (state_of c.rows s p) (message_of c.mail s p) ≡ true

    own : Stayed m.session m.part
    own =
        let place = written_place c.rows m outcome in
        let now = state_of (row_put c.rows m.session m.part (state_after m outcome)) m.session m.part in
        let P : Option Message → Type 0 = λ o. has_stayed now (state_of c.rows m.session m.part) o ≡ true in
        subst P (sym here) (grind (arith, place))

    one : (b : Bool) → ((s.0 == m.session.0) && part_eq p m.part) ≡ b → Stayed s p
    one true is =
        let two = sym (session_same s m.session (grind (arith, is))) in
        let three = sym (part_same p m.part (grind (arith, is))) in
        subst (λ (u : SessionId). Stayed u p) two (subst (λ (q : PartId). Stayed m.session q) three own)
    one false is = stayed_same _ (state_of c.rows s p) (message_of c.mail s p) (put-other c.rows m.session s m.part p (state_after m outcome) is)

calm_written : (c : Cluster) (s : SessionId) (id : MsgId) (outcome : Outcome) (o : Option Message) → HasMail c → pending_of c s id ≡ o → IsCalm c (written_of c s id outcome o)
calm_written c s id outcome None mail found = calm_same c c refl refl
calm_written c s id outcome (Some m) mail found = record {
  mail = among_marked (as_written s id) (written_same s id) c.mail c.mail (among_self c.mail);
  rows = λ u p e. stayed_put c m outcome (message_here c s id m mail found) u p;
}

pub calm_next : (c : Cluster) (e : Event) → HasMail c → is_dispatch e ≡ false → IsCalm c (next c e)
calm_next c (events.Admin step did) mail other = calm_step c step
calm_next c (events.Begin k begun) mail other = let beside = beside_pass c k in calm_same c (next_pass c k) beside.mail beside.rows
calm_next c (events.Dispatch k epoch pass proposals answer) mail other = cc
calm_next c (events.Take s id) mail other = record {
  mail = among_marked (as_taken s id) (taken_same s id) c.mail c.mail (among_self c.mail);
  rows = λ u p e. stayed_same (state_of c.rows u p) (state_of c.rows u p) (message_of c.mail u p) refl;
}
calm_next c (events.Write s id outcome) mail other = calm_written c s id outcome (pending_of c s id) mail refl
calm_next c (events.Ack s id) mail other = record {
  mail = all-filter (is_among c.mail) (λ m. not (has_id s id m)) c.mail (among_self c.mail);
  rows = λ u p e. stayed_same (state_of c.rows u p) (state_of c.rows u p) (message_of c.mail u p) refl;
}
calm_next c e mail other = calm_same c (next c e) refl refl
