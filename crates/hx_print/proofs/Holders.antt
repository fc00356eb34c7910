-- The holders of a state, printed one by one.
use Rattle.std.proofs.Common.{◌≡◌, ℕ, ◌<◌, Bool, true, false, List, [], ◌∷◌, ◌++◌, length, get_or, drop, codes, refl, sym, ap, subst}
use Rattle.std.proofs.lemmas.List.{append-nil}
use Rattle.hx_ids.specs.declared.InstanceId.{InstanceId}
use Rattle.hx_ids.specs.declared.SessionId.{SessionId}
use Rattle.hx_cluster.specs.declared.description.Spec.{Spec}
use Rattle.hx_print.specs.Texts.{spaced, is_holder, holder_names, instance_name}
use Rattle.hx_text.specs.Texts.{PutsFront}
use Rattle.hx_text.proofs.Printing.{IsMidway, puts_item}

-- what one shown session adds
abbrev text_of : Spec → List SessionId → SessionId × InstanceId → List ℕ
text_of spec holders e = spaced (holder_names spec (e ∷ []) holders)

holders-cons : (spec : Spec) (holders : List SessionId) (e : SessionId × InstanceId) (shown : List (SessionId × InstanceId))
    → spaced (holder_names spec (e ∷ shown) holders) ≡ text_of spec holders e ++ spaced (holder_names spec shown holders)
holders-cons spec holders e shown = one (is_holder holders e) refl
  where
    one : (b : Bool) → is_holder holders e ≡ b → spaced (holder_names spec (e ∷ shown) holders) ≡ text_of spec holders e ++ spaced (holder_names spec shown holders)
    one true is = rw is (ap (λ t. t ++ spaced (holder_names spec shown holders)) (sym (append-nil (codes " " ++ instance_name spec e.1))))
    one false is = rw is refl

text_of-holder : (spec : Spec) (holders : List SessionId) (e : SessionId × InstanceId) → is_holder holders e ≡ true → text_of spec holders e ≡ codes " " ++ instance_name spec e.1
text_of-holder spec holders e is = rw is (append-nil (codes " " ++ instance_name spec e.1))

-- a front of a holder's name is a front of all names
pub puts_holder : (spec : Spec) (holders : List SessionId) (shown : List (SessionId × InstanceId)) (i : ℕ) (d : SessionId × InstanceId) (old page new : List ℕ)
    → i < length shown → is_holder holders (get_or shown i d) ≡ true
    → IsMidway (spaced (holder_names spec shown holders)) old page (spaced (holder_names spec (drop i shown) holders)) → PutsFront (codes " " ++ instance_name spec (get_or shown i d).1) page new
    → PutsFront (spaced (holder_names spec shown holders)) old new
puts_holder spec holders shown i d old page new lt is m p =
    puts_item (text_of spec holders) (λ es. spaced (holder_names spec es holders)) (holders-cons spec holders) shown i d (spaced (holder_names spec shown holders)) old page new lt m
    (subst (λ t. PutsFront t page new) (sym (text_of-holder spec holders (get_or shown i d) is)) p)
