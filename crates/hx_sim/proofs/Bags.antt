-- A message that was found in a bag stands there by its own number.
use Rattle.std.proofs.Common.{◌≡◌, ◌==◌, Bool, true, false, List, [], ◌∷◌, Option, Some, sym, ap, ◌∙◌, refl, arith}
use Rattle.std.specs.Prelude.{find, if◌then◌else◌}
use Rattle.std.proofs.lemmas.Bool.Decides.{nat_tests}
use Rattle.hx_ids.specs.declared.MsgId.{MsgId}
use Rattle.hx_cluster.specs.declared.state.Message.{Message}
use Rattle.hx_scene.specs.Scenes.{IsBagged}

number_of : (id : MsgId) (x m : Message) (rest : Option Message) (b : Bool) → (x.id.0 == id.0) ≡ b → (if b then Some x else rest) ≡ Some m → (rest ≡ Some m → m.id.0 ≡ id.0) → m.id.0 ≡ id.0
number_of id x m rest true is e more =
    let same : x ≡ m = cc in
    let number : x.id.0 ≡ id.0 = grind (arith, nat_tests, is) in
    sym (ap (λ (n : Message). n.id.0) same) ∙ number
number_of id x m rest false is e more = more e

number_is : (id : MsgId) (bag : List Message) (m : Message) → find (λ n. n.id.0 == id.0) bag ≡ Some m → m.id.0 ≡ id.0
number_is id [] m is = cc
number_is id (x ∷ bag) m is = number_of id x m (find (λ n. n.id.0 == id.0) bag) (x.id.0 == id.0) refl is (λ e. number_is id bag m e)

pub found_there : (id : MsgId) (bag : List Message) (m : Message) → find (λ n. n.id.0 == id.0) bag ≡ Some m → IsBagged bag m
found_there id bag m is = ap (λ k. find (λ (n : Message). n.id.0 == k) bag) (number_is id bag m is) ∙ is
