-- What stands once the names of a model's states are interned.
use Rattle.std.proofs.Common.{◌≡◌, ℕ, List, length, take, codes, None, refl, ◌∙◌}
use Rattle.std.proofs.Math.Seq.{take-length}
use Rattle.hx_ids.specs.declared.StateId.{StateId}
use Rattle.hx_ids.specs.Names.{interned}
use Rattle.hx_model.specs.declared.ModelParts.{ModelParts}
use Rattle.hx_model.specs.Builtin.{AreStates, AreNew, state_named, on_and_off, one_leads}
use Rattle.hx_model.specs.Faults.{fault_of}
use Rattle.hx_model.proofs.Named.{kept_more, has_interned, states_more, take_more, state-low, places_differ}
use Rattle.hx_model.proofs.Sound.{on_and_off-sound, one_leads-sound}

-- the model stands at the places of its names, it has no fault, and the names before stay
pub record IsNamed (before after : List (List ℕ)) (parts named : ModelParts) : Type 0 where
  pub same : parts ≡ named
  pub sound : fault_of parts ≡ None
  pub states : AreStates after
  pub kept : take (length before) after ≡ before

pub one_more : (old new : List (List ℕ)) (x : List ℕ) → new ≡ interned old x → take (length old) new ≡ old
one_more old new x is = take_more old old new x is (take-length old)

pub two_named : (n0 n1 n2 : List (List ℕ)) (one two : StateId) → AreStates n0 → n1 ≡ interned n0 (codes "ONLINE") → n2 ≡ interned n1 (codes "OFFLINE")
    → one ≡ state_named n1 (codes "ONLINE") → two ≡ state_named n2 (codes "OFFLINE")
    → IsNamed n0 n2 (on_and_off one two) (on_and_off (state_named n2 (codes "ONLINE")) (state_named n2 (codes "OFFLINE")))
two_named n0 n1 n2 one two first is1 is2 s1 s2 =
    let kept = kept_more n1 n2 (codes "ONLINE") (codes "OFFLINE") is2 (has_interned n0 n1 (codes "ONLINE") is1) in
    let states = states_more n1 n2 (codes "OFFLINE") is2 (states_more n0 n1 (codes "ONLINE") is1 first) in
    let at = s1 ∙ kept.state in
    record {
      same = (λ i. on_and_off (at i) (s2 i));
      sound = (λ i. fault_of (on_and_off (at i) (s2 i))) ∙ on_and_off-sound (state_named n2 (codes "ONLINE")) (state_named n2 (codes "OFFLINE")) (state-low n2 (codes "ONLINE") states refl refl) (state-low n2 (codes "OFFLINE") states refl refl) (places_differ n2 (codes "ONLINE") (codes "OFFLINE") refl kept.has);
      states = states;
      kept = take_more n0 n1 n2 (codes "OFFLINE") is2 (one_more n0 n1 (codes "ONLINE") is1);
    }

pub three_named : (n0 n1 n2 n3 : List (List ℕ)) (a b : List ℕ) (one two three : StateId) → AreStates n0 → AreNew a b
    → n1 ≡ interned n0 a → n2 ≡ interned n1 b → n3 ≡ interned n2 (codes "OFFLINE")
    → one ≡ state_named n1 a → two ≡ state_named n2 b → three ≡ state_named n3 (codes "OFFLINE")
    → IsNamed n0 n3 (one_leads one two three) (one_leads (state_named n3 a) (state_named n3 b) (state_named n3 (codes "OFFLINE")))
three_named n0 n1 n2 n3 a b one two three first new is1 is2 is3 s1 s2 s3 =
    let kept1 = kept_more n1 n2 a b is2 (has_interned n0 n1 a is1) in
    let kept2 = kept_more n2 n3 a (codes "OFFLINE") is3 kept1.has in
    let kept = kept_more n2 n3 b (codes "OFFLINE") is3 (has_interned n1 n2 b is2) in
    let states = states_more n2 n3 (codes "OFFLINE") is3 (states_more n1 n2 b is2 (states_more n0 n1 a is1 first)) in
    let top = s1 ∙ kept1.state ∙ kept2.state in
    let mid = s2 ∙ kept.state in
    record {
      same = (λ i. one_leads (top i) (mid i) (s3 i));
      sound =
          (λ i. fault_of (one_leads (top i) (mid i) (s3 i)))
          ∙ one_leads-sound (state_named n3 a) (state_named n3 b) (state_named n3 (codes "OFFLINE"))
          (state-low n3 a states new.one_error new.one_dropped)
          (state-low n3 b states new.two_error new.two_dropped)
          (state-low n3 (codes "OFFLINE") states refl refl)
          (places_differ n3 a b new.apart kept2.has)
          (places_differ n3 a (codes "OFFLINE") new.one_offline kept2.has)
          (places_differ n3 b (codes "OFFLINE") new.two_offline kept.has);
      states = states;
      kept = take_more n0 n2 n3 (codes "OFFLINE") is3 (take_more n0 n1 n2 b is2 (one_more n0 n1 a is1));
    }
