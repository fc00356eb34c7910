-- The parts agree exactly where all tests are passed.
use Rattle.std.proofs.Common.{◌≡◌, ℕ, ◌+◌, ◌<◌, Bool, true, false, IsTrue, List, [], ◌∷◌, map, length, refl, sym, ap, ◌∙◌, subst, arith}
use Rattle.std.specs.List.{list_all, All}
use Rattle.std.proofs.lemmas.List.Elements.{All-cons, All-nil, All-head, All-tail}
use Rattle.hx_lists.specs.Lists.{numbers_below}
use Rattle.hx_model.specs.declared.ModelParts.{ModelParts}
use Rattle.hx_cluster.specs.declared.description.Spec.{Spec}
use Rattle.hx_cluster.specs.declared.state.Cluster.{Cluster}
use Rattle.hx_board.specs.Board.{Held, HasHistory}
use Rattle.hx_replicas.specs.Participants.{all_idle}
use Rattle.hx_replicas.specs.Jobs.{ParticipantState}
use Rattle.hx_control.specs.Controllers.{Controller, idle_controller}
use Rattle.hx_worlds.specs.Agree.{Agree, Stationed, IsSettledIn, IfLive, is_below, is_cared_for, cluster_of}
use Rattle.hx_safe.proofs.Counting.{and-first, and-second, and-both, all-map}
use Rattle.hx_agree.specs.Tests.{board_state, stationed, are_cared_for, is_settled}
use Rattle.hx_agree.proofs.Boards.{board_safe, board_ranged, board_instances, board_models, next_session_is, next_message_is}
use Rattle.hx_agree.proofs.Live.{cared_for, cared_live}
use Rattle.hx_agree.proofs.Settling.{settled_live, live_settled}

pub record IsTested (spec : Spec) (b : Held) (ks : List Controller) (ps : List ParticipantState) (joined sent : ℕ) : Type 0 where
  pub spec_is : b.spec ≡ spec
  pub controllers : map (λ k. k.id.0) ks ≡ numbers_below spec.controllers
  pub participants : map (λ p. p.instance.0) ps ≡ numbers_below (length spec.instances)
  pub idle : All (λ k. k ≡ idle_controller k.id) ks
  pub quiet : list_all (λ p. all_idle p.plain) ps ≡ true
  pub begun : list_all (λ p. is_below (1 + joined) p.plain.session) ps ≡ true
  pub cared : are_cared_for (length spec.instances) b.cluster (map stationed ps) ≡ true
  pub settled : list_all (λ p. is_settled (1 + sent) spec.models (length spec.instances) b.cluster (stationed p)) ps ≡ true

same-map : {X Y Z : Type 0} (f : X → Y) (g : Y → Z) (xs : List X) → map g (map f xs) ≡ map (λ x. g (f x)) xs
same-map f g [] = refl
same-map f g (x ∷ xs) = ap (λ zs. g (f x) ∷ zs) (same-map f g xs)

all_passed : {X Y : Type 0} (f : X → Y) (p : X → Bool) (P : Y → Type 0) → ((x : X) → p x ≡ true → P (f x)) → (xs : List X) → list_all p xs ≡ true → All P (map f xs)
all_passed f p P h [] e = All-nil P
all_passed f p P h (x ∷ xs) e =
    All-cons P (f x) (map f xs) (h x (and-first (p x) (list_all p xs) e)) (all_passed f p P h xs (and-second (p x) (list_all p xs) e))

passed_all : {X Y : Type 0} (f : X → Y) (p : X → Bool) (P : Y → Type 0) → ((x : X) → P (f x) → p x ≡ true) → (xs : List X) → All P (map f xs) → list_all p xs ≡ true
passed_all f p P h [] e = refl
passed_all f p P h (x ∷ xs) e =
    and-both (p x) (list_all p xs) (h x (All-head P (f x) (map f xs) e)) (passed_all f p P h xs (All-tail P (f x) (map f xs) e))

module _ (spec : Spec) (b : Held) (told : HasHistory b) (joined sent : ℕ)
    (sessions : b.cluster.next_session ≡ 1 + joined) (messages : b.cluster.next_msg ≡ 1 + sent) where
  -- the cluster that the history makes is the board's
  back : (P : Cluster → Type 0) → P b.cluster → P (cluster_of (board_state b))
  back P h = subst P (sym told.replays) h

  on : (P : Cluster → Type 0) → P (cluster_of (board_state b)) → P b.cluster
  on P h = subst P told.replays h

  first : 0 < b.cluster.next_msg
  first = let is = messages in omega arith

  long : b.spec ≡ spec → length b.cluster.instances ≡ length spec.instances
  long is = board_instances b told ∙ ap (λ (x : Spec). length x.instances) is

  models : b.spec ≡ spec → b.cluster.models ≡ spec.models
  models is = board_models b told ∙ ap (λ (x : Spec). x.models) is

  settled_there : b.spec ≡ spec → (p : Stationed)
      → is_settled (1 + sent) spec.models (length spec.instances) b.cluster p ≡ is_settled b.cluster.next_msg b.cluster.models (length spec.instances) b.cluster p
  settled_there is p =
      ap (λ (n : ℕ). is_settled n spec.models (length spec.instances) b.cluster p) (sym messages)
      ∙ ap (λ (ms : List ModelParts). is_settled b.cluster.next_msg ms (length spec.instances) b.cluster p) (sym (models is))

  module _ (ks : List Controller) (ps : List ParticipantState) where
    pub tested_agree : IsTested spec b ks ps joined sent → Agree spec (board_state b) ks (map stationed ps)
    tested_agree t = record {
      staffed = record {
        spec = t.spec_is;
        controllers = t.controllers ∙ ap (λ (x : Spec). numbers_below x.controllers) (sym t.spec_is);
        participants = same-map stationed (λ p. p.instance.0) ps ∙ t.participants ∙ ap (λ (x : Spec). numbers_below (length x.instances)) (sym t.spec_is);
        sessions = back (λ c. list_all (λ p. is_below c.next_session p.plain.session) (map stationed ps) ≡ true)
            (all-map (λ p. is_below b.cluster.next_session p.plain.session) stationed ps
            ∙ ap (λ (n : ℕ). list_all (λ (p : ParticipantState). is_below n p.plain.session) ps) sessions ∙ t.begun);
        others = back (λ c. list_all (is_cared_for c (map stationed ps)) c.live ≡ true)
            (cared_live b.cluster (board_safe b told) (board_ranged b told) (length spec.instances) (map stationed ps) (long t.spec_is) t.cared);
        joins = ap (λ (c : Cluster). c.next_session) told.replays ∙ next_session_is b told;
        sent = ap (λ (c : Cluster). c.next_msg) told.replays ∙ next_message_is b told;
      };
      turns = t.idle;
      quiet = all-map (λ p. all_idle p.plain) stationed ps ∙ t.quiet;
      settled = all_passed stationed (λ p. is_settled (1 + sent) spec.models (length spec.instances) b.cluster (stationed p))
          (λ p. IfLive (cluster_of (board_state b)) p (IsSettledIn (cluster_of (board_state b)) p))
          (λ p e. back (λ c. IfLive c (stationed p) (IsSettledIn c (stationed p)))
          (settled_live b.cluster (board_safe b told) (board_ranged b told) first (length spec.instances) (long t.spec_is) (stationed p)
          (sym (settled_there t.spec_is (stationed p)) ∙ e)))
          ps t.settled;
    }

    pub agree_tested : Agree spec (board_state b) ks (map stationed ps) → IsTested spec b ks ps joined sent
    agree_tested a = record {
      spec_is = a.staffed.spec;
      controllers = a.staffed.controllers ∙ ap (λ (x : Spec). numbers_below x.controllers) a.staffed.spec;
      participants = sym (same-map stationed (λ p. p.instance.0) ps) ∙ a.staffed.participants ∙ ap (λ (x : Spec). numbers_below (length x.instances)) a.staffed.spec;
      idle = a.turns;
      quiet = sym (all-map (λ p. all_idle p.plain) stationed ps) ∙ a.quiet;
      begun =
          ap (λ (n : ℕ). list_all (λ (p : ParticipantState). is_below n p.plain.session) ps) (sym sessions)
          ∙ sym (all-map (λ p. is_below b.cluster.next_session p.plain.session) stationed ps)
          ∙ on (λ c. list_all (λ p. is_below c.next_session p.plain.session) (map stationed ps) ≡ true) a.staffed.sessions;
      cared = cared_for b.cluster (board_safe b told) (board_ranged b told) (length spec.instances) (map stationed ps)
          (on (λ c. list_all (is_cared_for c (map stationed ps)) c.live ≡ true) a.staffed.others);
      settled = passed_all stationed (λ p. is_settled (1 + sent) spec.models (length spec.instances) b.cluster (stationed p))
          (λ p. IfLive (cluster_of (board_state b)) p (IsSettledIn (cluster_of (board_state b)) p))
          (λ p e. settled_there a.staffed.spec (stationed p)
          ∙ live_settled b.cluster (board_safe b told) (board_ranged b told) first (length spec.instances) (long a.staffed.spec) (stationed p)
          (on (λ c. IfLive c (stationed p) (IsSettledIn c (stationed p))) e))
          ps a.settled;
    }

-- a test that is failed
pub fails : {A : Type 0} (passed : Bool) → passed ≡ false → (A → passed ≡ true) → (IsTrue false → A) × (A → IsTrue false)
fails passed no_pass h = (λ e. absurd (let never : false ≡ true = e in cc), λ a. sym no_pass ∙ h a)
