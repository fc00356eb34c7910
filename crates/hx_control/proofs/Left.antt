-- How many calls of a turn are left.
use Rattle.std.proofs.Common.{◌≡◌, ℕ, ◌+◌, List, [], ◌∷◌, ◌++◌, length, drop, map, refl, ap, ◌∙◌, suc, arith, length-drop, ◌<◌, ◌≤◌, ◌^◌}
use Rattle.hx_ids.specs.declared.SessionId.{SessionId}
use Rattle.hx_ids.specs.declared.InstanceId.{InstanceId}
use Rattle.hx_lists.specs.Lists.{count}
use Rattle.hx_pass.specs.Turns.{Mail}
use Rattle.hx_control.specs.declared.controller.Next.{Next}
use Rattle.hx_control.specs.declared.controller.Next.TheVariants as nexts
use Rattle.hx_control.specs.Controllers.{is_mail_call, is_states_call}
use Rattle.hx_control.specs.declared.controller.Controller.TheInside.{Inside}
use Rattle.hx_control.specs.Controllers.{Controller}
use Rattle.hx_control.specs.Turning.{calls_after_mail, left_of, mails_at, states_at, others_at, controller, IsTurn}
use Rattle.hx_control.proofs.Staged.{no_mails, count_mails, count_states}

pub mail_left : (k : Next) (live : List (SessionId × InstanceId)) → count is_mail_call (left_of k live) ≡ mails_at k (length live)
mail_left nexts.Begin live = refl
mail_left nexts.Live live = refl
mail_left (nexts.Mail n) live = count_mails (drop n live) live ∙ length-drop n live
mail_left (nexts.States n) live = no_mails (drop n live)
mail_left nexts.Ideals live = refl
mail_left nexts.Send live = refl
mail_left nexts.Post live = refl

states_behind : (xs live : List (SessionId × InstanceId)) → count is_states_call (map (λ e. Mail e.0) xs ++ calls_after_mail live) ≡ length live
states_behind [] live = count_states live
states_behind (e ∷ xs) live = states_behind xs live

pub states_left : (k : Next) (live : List (SessionId × InstanceId)) → count is_states_call (left_of k live) ≡ states_at k (length live)
states_left nexts.Begin live = refl
states_left nexts.Live live = refl
states_left (nexts.Mail n) live = states_behind (drop n live) live
states_left (nexts.States n) live = count_states (drop n live) ∙ length-drop n live
states_left nexts.Ideals live = refl
states_left nexts.Send live = refl
states_left nexts.Post live = refl

behind_long : (xs : List (SessionId × InstanceId)) → length (calls_after_mail xs) ≡ length xs + 3
behind_long [] = refl
behind_long (e ∷ xs) = let more : length (calls_after_mail xs) ≡ length xs + 3 = behind_long xs in ap suc more ∙ (let e : suc (length xs + 3) ≡ suc (length xs) + 3 = omega arith in e)

mails_long : (xs live : List (SessionId × InstanceId)) → length (map (λ e. Mail e.0) xs ++ calls_after_mail live) ≡ length xs + (length live + 3)
mails_long [] live = behind_long live ∙ (let e : length live + 3 ≡ 0 + (length live + 3) = omega arith in e)
mails_long (e ∷ xs) live =
    let more : length (map (λ e. Mail e.0) xs ++ calls_after_mail live) ≡ length xs + (length live + 3) = mails_long xs live in
    ap suc more ∙ (let e : suc (length xs + (length live + 3)) ≡ suc (length xs) + (length live + 3) = omega arith in e)

pub calls_left : (k : Next) (live : List (SessionId × InstanceId)) → length (left_of k live) ≡ mails_at k (length live) + states_at k (length live) + others_at k
calls_left nexts.Begin live = refl
calls_left nexts.Live live = refl
calls_left (nexts.Mail n) live =
    let long = mails_long (drop n live) live in
    let few = length-drop n live in
    omega (arith, long, few)
calls_left (nexts.States n) live =
    let long = behind_long (drop n live) in
    let few = length-drop n live in
    omega (arith, long, few)
calls_left nexts.Ideals live = refl
calls_left nexts.Send live = refl
calls_left nexts.Post live = refl

mails_few : (k : Next) (n : ℕ) → mails_at k n ≤ n
mails_few (nexts.Mail m) n = omega arith
mails_few _ n = omega arith

states_few : (k : Next) (n : ℕ) → states_at k n ≤ n
states_few (nexts.States m) n = omega arith
states_few _ n = omega arith

others_few : (k : Next) → others_at k ≤ 3
others_few nexts.Begin = omega arith
others_few _ = omega arith

-- they are few
pub record AreFew (mails states others : ℕ) : Type 0 where
  pub two : mails + states < 2 ^ 34
  pub all : mails + states + others < 2 ^ 34

pub few_left : (a : Inside) → IsTurn a → AreFew (mails_at a.next (length a.view.live)) (states_at a.next (length a.view.live)) (others_at a.next)
few_left a good =
    let m = mails_few a.next (length a.view.live) in
    let s = states_few a.next (length a.view.live) in
    let o = others_few a.next in
    let n = good.few in
    record { two = omega (arith, m, s, n); all = omega (arith, m, s, o, n) }

-- the calls that are left, counted by kind
pub record AreCounted (x : Controller) (mails states others : ℕ) : Type 0 where
  pub two : mails + states < 2 ^ 34
  pub all : mails + states + others < 2 ^ 34
  pub sum : mails + states + others ≡ length x.turn.left

pub counted : (a : Inside) (x : Controller) → x ≡ controller a → IsTurn a → (m s o : ℕ) → m ≡ count is_mail_call x.turn.left → s ≡ count is_states_call x.turn.left → o ≡ others_at a.next → AreCounted x m s o
counted a x is good m s o mails states others =
    let live = a.view.live in
    let few = few_left a good in
    let ms : m ≡ mails_at a.next (length live) = mails ∙ ap (λ (y : Controller). count is_mail_call y.turn.left) is ∙ mail_left a.next live in
    let ss : s ≡ states_at a.next (length live) = states ∙ ap (λ (y : Controller). count is_states_call y.turn.left) is ∙ states_left a.next live in
    let long : length x.turn.left ≡ mails_at a.next (length live) + states_at a.next (length live) + others_at a.next = ap (λ (y : Controller). length y.turn.left) is ∙ calls_left a.next live in
    let two = few.two in
    let all = few.all in
    record { two = omega (arith, ms, ss, two); all = omega (arith, ms, ss, others, all); sum = omega (arith, ms, ss, others, long) }
