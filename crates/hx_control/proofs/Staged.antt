-- Where a turn is: of the calls for each shown session, those are done that aren't left.
use Rattle.std.proofs.Common.{◌≡◌, ℕ, ◌-◌, ◌<◌, List, [], ◌∷◌, ◌++◌, length, drop, map, refl, sym, ap, ◌∙◌, suc, subst, arith, length-drop}
use Rattle.hx_ids.specs.declared.SessionId.{SessionId}
use Rattle.hx_ids.specs.declared.InstanceId.{InstanceId}
use Rattle.hx_lists.specs.Lists.{count}
use Rattle.hx_pass.specs.Turns.{Call, Mail}
use Rattle.hx_control.specs.declared.Stage.TheVariants as stages
use Rattle.hx_control.specs.declared.controller.Next.{Next}
use Rattle.hx_control.specs.declared.controller.Next.TheVariants as nexts
use Rattle.hx_control.specs.declared.controller.Controller.TheInside.{Inside}
use Rattle.hx_control.specs.Controllers.{Controller, is_mail_call, is_states_call, stage, stage_at}
use Rattle.hx_control.specs.Turning.{calls_after_mail, left_of, controller, IsLeft, IsTurn}

pub no_mails : (live : List (SessionId × InstanceId)) → count is_mail_call (calls_after_mail live) ≡ 0
no_mails [] = refl
no_mails (e ∷ live) = no_mails live

pub count_mails : (xs live : List (SessionId × InstanceId)) → count is_mail_call (map (λ e. Mail e.0) xs ++ calls_after_mail live) ≡ length xs
count_mails [] live = no_mails live
count_mails (e ∷ xs) live = ap suc (count_mails xs live)

pub count_states : (xs : List (SessionId × InstanceId)) → count is_states_call (calls_after_mail xs) ≡ length xs
count_states [] = refl
count_states (e ∷ xs) = ap suc (count_states xs)

at_mail : (x : Controller) (xs : List (SessionId × InstanceId)) (rest : List Call) → x.turn.left ≡ map (λ e. Mail e.0) xs ++ rest → 0 < length xs
    → stage x ≡ stages.Mail (length x.turn.view.live - count is_mail_call x.turn.left)
at_mail x [] rest is some = absurd (omega arith)
at_mail x (e ∷ xs) rest is some = ap (stage_at x) is

at_states : (x : Controller) (xs : List (SessionId × InstanceId)) → x.turn.left ≡ calls_after_mail xs → 0 < length xs
    → stage x ≡ stages.States (length x.turn.view.live - count is_states_call x.turn.left)
at_states x [] is some = absurd (omega arith)
at_states x (e ∷ xs) is some = ap (stage_at x) is

pub mail_read : (a : Inside) (n : ℕ) → a.next ≡ nexts.Mail n → IsTurn a → stages.Mail n ≡ stage (controller a)
mail_read a n is good =
    let live : List (SessionId × InstanceId) = a.view.live in
    let left : left_of a.next live ≡ map (λ e. Mail e.0) (drop n live) ++ calls_after_mail live = ap (λ (k : Next). left_of k live) is in
    let below : n < length live = subst (λ (k : Next). IsLeft k (length live)) is good.left in
    let long : length (drop n live) ≡ length live - n = length-drop n live in
    let many : count is_mail_call (left_of a.next live) ≡ length (drop n live) = ap (count is_mail_call) left ∙ count_mails (drop n live) live in
    sym (at_mail (controller a) (drop n live) (calls_after_mail live) left (omega arith) ∙ ap stages.Mail (let e : length live - count is_mail_call (left_of a.next live) ≡ n = omega (arith, many, long, below) in e))

pub states_read : (a : Inside) (n : ℕ) → a.next ≡ nexts.States n → IsTurn a → stages.States n ≡ stage (controller a)
states_read a n is good =
    let live : List (SessionId × InstanceId) = a.view.live in
    let left : left_of a.next live ≡ calls_after_mail (drop n live) = ap (λ (k : Next). left_of k live) is in
    let below : n < length live = subst (λ (k : Next). IsLeft k (length live)) is good.left in
    let long : length (drop n live) ≡ length live - n = length-drop n live in
    let many : count is_states_call (left_of a.next live) ≡ length (drop n live) = ap (count is_states_call) left ∙ count_states (drop n live) in
    sym (at_states (controller a) (drop n live) left (omega arith) ∙ ap stages.States (let e : length live - count is_states_call (left_of a.next live) ≡ n = omega (arith, many, long, below) in e))
