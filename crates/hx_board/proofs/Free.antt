-- What is known of a call that nothing refuses.
use Rattle.std.proofs.Common.{◌≡◌, ℕ, ◌+◌, ◌*◌, ◌≤◌, ◌==◌, not, Bool, true, false, List, length, Option, None, Some, refl, sym, ap, subst, arith}
use Rattle.std.specs.Prelude.{◌<◌, ◌^◌, if◌then◌else◌, nat_lt, option_map}
use Rattle.std.specs.Option.{option_or}
use Rattle.std.proofs.lemmas.Bool.Decides.{nat_tests}
use Rattle.hx_ids.specs.declared.ControllerId.{ControllerId}
use Rattle.hx_ids.specs.declared.PassNo.{PassNo}
use Rattle.hx_ids.specs.declared.Epoch.{Epoch}
use Rattle.hx_cluster.specs.declared.happenings.Proposal.{Proposal}
use Rattle.hx_cluster.specs.declared.happenings.Seen.{Seen}
use Rattle.hx_cluster.specs.Events.{is_epoch}
use Rattle.hx_cluster.specs.declared.happenings.Admin.{Admin}
use Rattle.hx_cluster.specs.declared.happenings.StepFault.{StepFault}
use Rattle.hx_cluster.specs.Steps.{is_leader, refusal_of}
use Rattle.hx_cluster.specs.Weight.{step_weight}
use Rattle.hx_cluster.specs.Reads.{pass_of}
use Rattle.hx_board.specs.Board.{Held, most, weight_at, next_line_of}
use Rattle.hx_board.specs.Refusals.{full, line_fault, line_refusal, step_refusal, begin_refusal, read_refusal, dispatch_refusal, post_refusal}
use Rattle.hx_board.specs.declared.faults.RoomFault.TheVariants as rooms
use Rattle.hx_board.specs.declared.faults.BoardFault.TheVariants as steps
use Rattle.hx_board.specs.declared.faults.BeginFault.TheVariants as begins
use Rattle.hx_board.specs.declared.faults.ReadRefusal.TheVariants as reads
use Rattle.hx_board.specs.declared.faults.DispatchRefusal.TheVariants as dispatches
use Rattle.hx_board.specs.declared.faults.PostRefusal.TheVariants as posts

pub full_free : {E : Type 0} (b : Held) (n : ℕ) (fault : ℕ → E) → full b n fault ≡ None → weight_at b + n ≤ b.limit
full_free {E} b n fault e = one (nat_lt b.limit (weight_at b + n)) refl e
  where
    one : (t : Bool) → nat_lt b.limit (weight_at b + n) ≡ t → (if t then Some (fault (weight_at b)) else None) ≡ None → weight_at b + n ≤ b.limit
    one true is e = cc
    one false is e = let no : weight_at b + n ≤ b.limit = grind (arith, nat_tests, is) in no

-- a fault tells the weight
pub full_told : {E : Type 0} (b : Held) (n : ℕ) (fault : ℕ → E) (w : ℕ) → full b n (λ weight. weight) ≡ Some w → full b n fault ≡ Some (fault w)
full_told {E} b n fault w e = one (nat_lt b.limit (weight_at b + n)) e
  where
    one : (t : Bool) → (if t then Some (weight_at b) else None) ≡ Some w → (if t then Some (fault (weight_at b)) else None) ≡ Some (fault w)
    one true e = let same : weight_at b ≡ w = cc in ap (λ (k : ℕ). Some (fault k)) same
    one false e = cc

-- what doesn't fit 64 bits has no room
pub full_past : {E : Type 0} (b : Held) (n : ℕ) (fault : ℕ → E) → b.limit ≤ most → 2 ^ 64 ≤ n → full b n fault ≡ Some (fault (weight_at b))
full_past {E} b n fault low past = one (nat_lt b.limit (weight_at b + n)) (let less : nat_lt b.limit (weight_at b + n) ≡ true = grind (arith, nat_tests, (let more : b.limit < weight_at b + n = omega (arith, low, past) in more)) in less)
  where
    one : (t : Bool) → t ≡ true → (if t then Some (fault (weight_at b)) else None) ≡ Some (fault (weight_at b))
    one true is = refl
    one false is = cc

-- a step
pub record IsFreeStep (b : Held) (step : Admin) : Type 0 where
  pub free : refusal_of b.cluster step ≡ None
  pub fits : weight_at b + step_weight step ≤ b.limit

pub step_free : (b v : Held) (step : Admin) → b ≡ v → step_refusal v step ≡ None → IsFreeStep b step
step_free b v step view free = one (refusal_of b.cluster step) refl (subst (λ (w : Held). step_refusal w step ≡ None) (sym view) free)
  where
    one : (o : Option StepFault) → refusal_of b.cluster step ≡ o → option_or (option_map steps.Step o) (full b (step_weight step) steps.HistoryFull) ≡ None → IsFreeStep b step
    one None is f = record { free = is; fits = full_free b (step_weight step) steps.HistoryFull f }
    one (Some fault) is f = cc

pub record IsFreeBegin (b : Held) (k : ControllerId) : Type 0 where
  pub leads : is_leader k b.cluster.leader ≡ true
  pub fits : weight_at b + 1 ≤ b.limit

pub begin_free : (b : Held) (k : ControllerId) → begin_refusal b k ≡ None → IsFreeBegin b k
begin_free b k e = one (is_leader k b.cluster.leader) refl e
  where
    one : (t : Bool) → is_leader k b.cluster.leader ≡ t → (if t then full b 1 begins.HistoryFull else Some (begins.NotLeader b.cluster.leader)) ≡ None → IsFreeBegin b k
    one true is e = record { leads = is; fits = full_free b 1 begins.HistoryFull e }
    one false is e = cc

pub record IsFreeRead (b : Held) (k : ControllerId) (pass : PassNo) : Type 0 where
  pub now : ((pass_of b.cluster k).0 == pass.0) ≡ true
  pub fits : weight_at b + 1 ≤ b.limit

pub read_free : (b : Held) (k : ControllerId) (pass : PassNo) → read_refusal b k pass ≡ None → IsFreeRead b k pass
read_free b k pass e = one ((pass_of b.cluster k).0 == pass.0) refl e
  where
    one : (t : Bool) → ((pass_of b.cluster k).0 == pass.0) ≡ t → (if not t then Some (reads.OldPass (pass_of b.cluster k)) else full b 1 reads.HistoryFull) ≡ None → IsFreeRead b k pass
    one true is e = record { now = is; fits = full_free b 1 reads.HistoryFull e }
    one false is e = cc

-- a line
pub line_free : (b : Held) (n : ℕ) → next_line_of b ≡ Some n → line_refusal b ≡ None → weight_at b + 1 ≤ b.limit
line_free b n next free = full_free b 1 rooms.HistoryFull (subst (λ (o : Option ℕ). line_fault b o ≡ None) next free)

-- a post
pub record IsFreePost (b : Held) (epoch : Epoch) (rows : List Seen) : Type 0 where
  pub now : is_epoch b.cluster epoch ≡ true
  pub fits : weight_at b + (1 + length rows) ≤ b.limit

pub post_free : (b : Held) (epoch : Epoch) (rows : List Seen) → post_refusal b epoch rows ≡ None → IsFreePost b epoch rows
post_free b epoch rows e = one (is_epoch b.cluster epoch) refl e
  where
    one : (t : Bool) → is_epoch b.cluster epoch ≡ t → (if not t then Some (posts.Fenced b.cluster.epoch) else full b (1 + length rows) posts.HistoryFull) ≡ None → IsFreePost b epoch rows
    one true is f = record { now = is; fits = full_free b (1 + length rows) posts.HistoryFull f }
    one false is f = cc

-- a dispatch
pub record IsFreeDispatch (b : Held) (k : ControllerId) (epoch : Epoch) (pass : PassNo) (proposals : List Proposal) : Type 0 where
  pub stands : is_epoch b.cluster epoch ≡ true
  pub passes : ((pass_of b.cluster k).0 == pass.0) ≡ true
  pub fits : weight_at b + (1 + 4 * length proposals) ≤ b.limit

pub dispatch_free : (b : Held) (k : ControllerId) (epoch : Epoch) (pass : PassNo) (proposals : List Proposal) → dispatch_refusal b k epoch pass proposals ≡ None
    → IsFreeDispatch b k epoch pass proposals
dispatch_free b k epoch pass proposals e = one (is_epoch b.cluster epoch) refl ((pass_of b.cluster k).0 == pass.0) refl e
  where
    one : (t : Bool) → is_epoch b.cluster epoch ≡ t → (u : Bool) → ((pass_of b.cluster k).0 == pass.0) ≡ u
        → (if not t then Some (dispatches.Fenced b.cluster.epoch) else if not u then Some (dispatches.OldPass (pass_of b.cluster k)) else full b (1 + 4 * length proposals) dispatches.HistoryFull) ≡ None
        → IsFreeDispatch b k epoch pass proposals
    one true is true at f = record { stands = is; passes = at; fits = full_free b (1 + 4 * length proposals) dispatches.HistoryFull f }
    one true is false at f = cc
    one false is u at f = cc
