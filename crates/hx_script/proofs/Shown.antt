-- What a line shows, by its verb and the words behind it.
use Rattle.std.proofs.Common.{◌≡◌, ℕ, List, [], ◌∷◌, drop, ◌⊎◌, inl, inr, ap, ◌∙◌}
use Rattle.hx_ids.specs.declared.InstanceId.{InstanceId}
use Rattle.hx_ids.specs.declared.ControllerId.{ControllerId}
use Rattle.hx_ids.specs.declared.MsgId.{MsgId}
use Rattle.hx_print.specs.Texts.{line_of, instance_name, controller_name, message_name}
use Rattle.hx_cluster.specs.declared.description.Spec.{Spec}
use Rattle.hx_script.specs.declared.What.{What}
use Rattle.hx_script.specs.declared.What.TheVariants as asks
use Rattle.hx_script.specs.LineTexts.{what_words, line_text}

-- behind its verb a line shows the words of what it is
shown : (spec : Spec) (what like : What) (verb : List ℕ) → what ≡ like → what_words spec what ≡ verb ∷ drop 1 (what_words spec what)
    → what_words spec what ≡ verb ∷ drop 1 (what_words spec like)
shown spec what like verb is head = head ∙ ap (λ w. verb ∷ drop 1 (what_words spec w)) is

-- the lines of an instance, of a controller, of a message and of nothing
pub instance_shown : (spec : Spec) (what : What) (i : InstanceId) (verb : List ℕ)
    → (what ≡ asks.Join i) ⊎ ((what ≡ asks.Beat i) ⊎ ((what ≡ asks.Drain i) ⊎ ((what ≡ asks.Undrain i) ⊎ ((what ≡ asks.Expire i) ⊎ ((what ≡ asks.Die i) ⊎ ((what ≡ asks.Fetch i) ⊎ (what ≡ asks.Work i)))))))
    → what_words spec what ≡ verb ∷ drop 1 (what_words spec what) → line_text spec what ≡ line_of (verb ∷ instance_name spec i ∷ [])
instance_shown spec what i verb (inl is) head = ap line_of (shown spec what (asks.Join i) verb is head)
instance_shown spec what i verb (inr (inl is)) head = ap line_of (shown spec what (asks.Beat i) verb is head)
instance_shown spec what i verb (inr (inr (inl is))) head = ap line_of (shown spec what (asks.Drain i) verb is head)
instance_shown spec what i verb (inr (inr (inr (inl is)))) head = ap line_of (shown spec what (asks.Undrain i) verb is head)
instance_shown spec what i verb (inr (inr (inr (inr (inl is))))) head = ap line_of (shown spec what (asks.Expire i) verb is head)
instance_shown spec what i verb (inr (inr (inr (inr (inr (inl is)))))) head = ap line_of (shown spec what (asks.Die i) verb is head)
instance_shown spec what i verb (inr (inr (inr (inr (inr (inr (inl is))))))) head = ap line_of (shown spec what (asks.Fetch i) verb is head)
instance_shown spec what i verb (inr (inr (inr (inr (inr (inr (inr is))))))) head = ap line_of (shown spec what (asks.Work i) verb is head)

pub controller_shown : (spec : Spec) (what : What) (k : ControllerId) (verb : List ℕ)
    → (what ≡ asks.Lead k) ⊎ ((what ≡ asks.Stop k) ⊎ ((what ≡ asks.Start k) ⊎ ((what ≡ asks.Begin k) ⊎ ((what ≡ asks.Send k) ⊎ ((what ≡ asks.Post k) ⊎ (what ≡ asks.Pass k))))))
    → what_words spec what ≡ verb ∷ drop 1 (what_words spec what) → line_text spec what ≡ line_of (verb ∷ controller_name k ∷ [])
controller_shown spec what k verb (inl is) head = ap line_of (shown spec what (asks.Lead k) verb is head)
controller_shown spec what k verb (inr (inl is)) head = ap line_of (shown spec what (asks.Stop k) verb is head)
controller_shown spec what k verb (inr (inr (inl is))) head = ap line_of (shown spec what (asks.Start k) verb is head)
controller_shown spec what k verb (inr (inr (inr (inl is)))) head = ap line_of (shown spec what (asks.Begin k) verb is head)
controller_shown spec what k verb (inr (inr (inr (inr (inl is))))) head = ap line_of (shown spec what (asks.Send k) verb is head)
controller_shown spec what k verb (inr (inr (inr (inr (inr (inl is)))))) head = ap line_of (shown spec what (asks.Post k) verb is head)
controller_shown spec what k verb (inr (inr (inr (inr (inr (inr is)))))) head = ap line_of (shown spec what (asks.Pass k) verb is head)

pub message_shown : (spec : Spec) (what : What) (i : InstanceId) (m : MsgId) (verb : List ℕ)
    → (what ≡ asks.Deliver i m) ⊎ ((what ≡ asks.Take i m) ⊎ ((what ≡ asks.Write i m) ⊎ (what ≡ asks.Ack i m)))
    → what_words spec what ≡ verb ∷ drop 1 (what_words spec what) → line_text spec what ≡ line_of (verb ∷ instance_name spec i ∷ message_name m ∷ [])
message_shown spec what i m verb (inl is) head = ap line_of (shown spec what (asks.Deliver i m) verb is head)
message_shown spec what i m verb (inr (inl is)) head = ap line_of (shown spec what (asks.Take i m) verb is head)
message_shown spec what i m verb (inr (inr (inl is))) head = ap line_of (shown spec what (asks.Write i m) verb is head)
message_shown spec what i m verb (inr (inr (inr is))) head = ap line_of (shown spec what (asks.Ack i m) verb is head)

pub bare_shown : (spec : Spec) (what : What) (verb : List ℕ)
    → (what ≡ asks.Settle) ⊎ ((what ≡ asks.View) ⊎ (what ≡ asks.Summary))
    → what_words spec what ≡ verb ∷ drop 1 (what_words spec what) → line_text spec what ≡ line_of (verb ∷ [])
bare_shown spec what verb (inl is) head = ap line_of (shown spec what asks.Settle verb is head)
bare_shown spec what verb (inr (inl is)) head = ap line_of (shown spec what asks.View verb is head)
bare_shown spec what verb (inr (inr is)) head = ap line_of (shown spec what asks.Summary verb is head)
