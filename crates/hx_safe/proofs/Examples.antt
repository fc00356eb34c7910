-- Fronts, and replicas that stayed, on small examples.
use Rattle.std.proofs.Common.{◌≡◌, ◌==◌, Bool, true, false, List, [], ◌∷◌, Some, None, refl}
use Rattle.hx_ids.specs.declared.StateId.{StateId}
use Rattle.hx_model.specs.Model.{error, dropped}
use Rattle.hx_cluster.specs.declared.state.Message.{Message}
use Rattle.hx_safe.specs.Onward.{is_front}
use Rattle.hx_safe.specs.Calm.{is_among, has_stayed}

front : is_front (λ a b. a == b) (1 ∷ 2 ∷ []) (1 ∷ 2 ∷ 3 ∷ []) ≡ true
front = refl

no_front : is_front (λ a b. a == b) (1 ∷ 2 ∷ []) (1 ∷ []) ≡ false
no_front = refl

abbrev slave : StateId
slave = record { 0 = 3 }

abbrev master : StateId
master = record { 0 = 2 }

-- a message that leads a replica from one state to another
abbrev to_state : StateId → Message
to_state t = record {
  id = record { 0 = 9 };
  session = record { 0 = 4 };
  part = record { resource = record { 0 = 0 }; index = 1 };
  from = slave;
  to = t;
  initial = slave;
  epoch = record { 0 = 1 };
  taken = false;
  written = false;
}

marks_say_nothing : is_among (record (to_state master) { taken = true } ∷ []) (to_state master) ≡ true
marks_say_nothing = refl

-- it stands where it stood, where its message led it, or in ERROR
stood : has_stayed (Some slave) (Some slave) None ≡ true
stood = refl

led : has_stayed (Some master) (Some slave) (Some (to_state master)) ≡ true
led = refl

failed : has_stayed (Some error) (Some slave) (Some (to_state master)) ≡ true
failed = refl

gone : has_stayed None (Some slave) (Some (to_state dropped)) ≡ true
gone = refl

moved_by_nobody : has_stayed (Some master) (Some slave) None ≡ false
moved_by_nobody = refl
