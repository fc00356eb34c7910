-- The calls of a turn: their order, and that each stands once.
use Rattle.std.proofs.Common.{◌≡◌, ℕ, ◌||◌, ◌∙◌, sym, ap, ◌+◌, ◌≤◌, ◌==◌, Bool, true, false, List, [], ◌∷◌, ◌++◌, map, refl, arith}
use Rattle.std.specs.List.{list_any}
use Rattle.std.proofs.lemmas.Bool.Decides.{nat_tests}
use Rattle.hx_lists.specs.Lists.{count}
use Rattle.hx_ids.specs.declared.InstanceId.{InstanceId}
use Rattle.hx_ids.specs.declared.SessionId.{SessionId}
use Rattle.hx_pass.specs.Turns.{Call, Live, Mail, States, Ideals, Send, Post, same_call, is_first, calls_after_live}
use Rattle.hx_safe.proofs.Counting.{any-append, count-append, count-map, and-first, and-second}
use Rattle.hx_safe.proofs.Ends.{same-self}
use Rattle.hx_lawful.specs.Reading.{may_follow, is_in_order_from, is_in_order}

pub call_self : (call : Call) → same_call call call ≡ true
call_self Live = refl
call_self (Mail s) = same-self s.0
call_self (States s) = same-self s.0
call_self Ideals = refl
call_self Send = refl
call_self Post = refl

-- the rest of calls in order is in order, and begins with none that shows live
pub order_rest : (a : Call) (rest : List Call) → is_in_order (a ∷ rest) ≡ true → is_in_order rest ≡ true
order_rest a [] e = refl
order_rest a (b ∷ rest) e = and-second (may_follow a b) (is_in_order_from b rest) e

pub live_no_more : (a : Call) (rest : List Call) → is_in_order (a ∷ rest) ≡ true → is_first Live rest ≡ false
live_no_more a [] e = refl
live_no_more a (b ∷ rest) e = one a b (and-first (may_follow a b) (is_in_order_from b rest) e)
  where
    one : (a b : Call) → may_follow a b ≡ true → same_call b Live ≡ false
    one (Mail s) (Mail t) e = refl
    one (Mail s) (States t) e = refl
    one (States s) (States t) e = refl
    one (States s) Ideals e = refl
    one Ideals Send e = refl
    one Send Post e = refl
    one a Live e = no a e
      where
        no : (a : Call) → may_follow a Live ≡ true → true ≡ false
        no Live e = cc
        no (Mail s) e = cc
        no (States s) e = cc
        no Ideals e = cc
        no Send e = cc
        no Post e = cc
    one a (Mail t) e = refl
    one a (States t) e = refl
    one a Ideals e = refl
    one a Send e = refl
    one a Post e = refl

-- the calls after live
states-in-order : (live : List (SessionId × InstanceId)) → is_in_order (map (λ e. States e.0) live ++ Ideals ∷ Send ∷ Post ∷ []) ≡ true
states-in-order [] = refl
states-in-order (e ∷ []) = refl
states-in-order (e ∷ f ∷ live) = states-in-order (f ∷ live)

mail-in-order : (all live : List (SessionId × InstanceId)) (first : SessionId × InstanceId)
    → is_in_order_from (Mail first.0) (map (λ e. Mail e.0) live ++ map (λ e. States e.0) (first ∷ all) ++ Ideals ∷ Send ∷ Post ∷ []) ≡ true
mail-in-order all [] first = states-in-order (first ∷ all)
mail-in-order all (e ∷ live) first = again all live first e
  where
    again : (all live : List (SessionId × InstanceId)) (first e : SessionId × InstanceId)
        → is_in_order_from (Mail e.0) (map (λ e. Mail e.0) live ++ map (λ e. States e.0) (first ∷ all) ++ Ideals ∷ Send ∷ Post ∷ []) ≡ true
    again all [] first e = states-in-order (first ∷ all)
    again all (f ∷ live) first e = again all live first f

pub calls_in_order : (live : List (SessionId × InstanceId)) → is_in_order (calls_after_live live) ≡ true
calls_in_order [] = refl
calls_in_order (e ∷ live) = mail-in-order live live e

-- each stands once, where sessions do
count-none_of : {X : Type 0} (p : Call → Bool) (f : X → Call) (h : (x : X) → p (f x) ≡ false) (xs : List X) → count p (map f xs) ≡ 0
count-none_of p f h [] = refl
count-none_of p f h (x ∷ xs) = grind (arith, h x, count-none_of p f h xs)

pub calls_once : (live : List (SessionId × InstanceId)) → ((s : SessionId) → count (λ (e : SessionId × InstanceId). e.0.0 == s.0) live ≤ 1) → (call : Call) → count (same_call call) (calls_after_live live) ≤ 1
calls_once live single call =
    one call (count-append (same_call call) (map (λ e. Mail e.0) live ++ map (λ e. States e.0) live) (Ideals ∷ Send ∷ Post ∷ []))
    (count-append (same_call call) (map (λ e. Mail e.0) live) (map (λ e. States e.0) live))
  where
    mails : (call : Call) → ℕ
    mails call = count (same_call call) (map (λ (e : SessionId × InstanceId). Mail e.0) live)

    states : (call : Call) → ℕ
    states call = count (same_call call) (map (λ (e : SessionId × InstanceId). States e.0) live)

    turned : (s : SessionId) (xs : List (SessionId × InstanceId)) → count (λ (e : SessionId × InstanceId). s.0 == e.0.0) xs ≡ count (λ (e : SessionId × InstanceId). e.0.0 == s.0) xs
    turned s [] = refl
    turned s (x ∷ xs) = grind (arith, nat_tests, turned s xs)

    one : (call : Call) → {n k : ℕ} → n ≡ k + count (same_call call) (Ideals ∷ Send ∷ Post ∷ []) → k ≡ mails call + states call → n ≤ 1
    one Live is at = grind (arith, is, at, count-none_of (same_call Live) (λ (e : SessionId × InstanceId). Mail e.0) (λ e. refl) live, count-none_of (same_call Live) (λ (e : SessionId × InstanceId). States e.0) (λ e. refl) live)
    one Ideals is at = grind (arith, is, at, count-none_of (same_call Ideals) (λ (e : SessionId × InstanceId). Mail e.0) (λ e. refl) live, count-none_of (same_call Ideals) (λ (e : SessionId × InstanceId). States e.0) (λ e. refl) live)
    one Send is at = grind (arith, is, at, count-none_of (same_call Send) (λ (e : SessionId × InstanceId). Mail e.0) (λ e. refl) live, count-none_of (same_call Send) (λ (e : SessionId × InstanceId). States e.0) (λ e. refl) live)
    one Post is at = grind (arith, is, at, count-none_of (same_call Post) (λ (e : SessionId × InstanceId). Mail e.0) (λ e. refl) live, count-none_of (same_call Post) (λ (e : SessionId × InstanceId). States e.0) (λ e. refl) live)
    one (Mail s) is at =
        let here = count-map (same_call (Mail s)) (λ (e : SessionId × InstanceId). Mail e.0) live in
        let none = count-none_of (same_call (Mail s)) (λ (e : SessionId × InstanceId). States e.0) (λ e. refl) live in
        grind (arith, is, at, here, none, turned s live, single s)
    one (States s) is at =
        let here = count-map (same_call (States s)) (λ (e : SessionId × InstanceId). States e.0) live in
        let none = count-none_of (same_call (States s)) (λ (e : SessionId × InstanceId). Mail e.0) (λ e. refl) live in
        grind (arith, is, at, here, none, turned s live, single s)

-- a call that stood once stands no more among those behind it
pub call_no_more : (call : Call) (rest : List Call) → count (same_call call) (call ∷ rest) ≤ 1 → list_any (same_call call) rest ≡ false
call_no_more call rest once = one (list_any (same_call call) rest) refl
  where
    there : (xs : List Call) → list_any (same_call call) xs ≡ true → 1 ≤ count (same_call call) xs
    there [] e = cc
    there (x ∷ xs) e = grind (arith, e, there xs)

    one : (b : Bool) → list_any (same_call call) rest ≡ b → b ≡ false
    one true is = absurd (grind (arith, once, call_self call, there rest is))
    one false is = refl

-- after live both the mail and the states of a session are left, or neither
map-any : {X : Type 0} (p : Call → Bool) (f : X → Call) (xs : List X) → list_any p (map f xs) ≡ list_any (λ x. p (f x)) xs
map-any p f [] = refl
map-any p f (x ∷ xs) = grind (arith, map-any p f xs)

never : {X : Type 0} (p : X → Bool) → ((x : X) → p x ≡ false) → (xs : List X) → list_any p xs ≡ false
never p h [] = refl
never p h (x ∷ xs) = grind (arith, h x, never p h xs)

left_call : (call : Call) (live : List (SessionId × InstanceId)) → list_any (same_call call) (Ideals ∷ Send ∷ Post ∷ []) ≡ false
    → list_any (same_call call) (calls_after_live live)
    ≡ (list_any (λ (e : SessionId × InstanceId). same_call call (Mail e.0)) live || list_any (λ (e : SessionId × InstanceId). same_call call (States e.0)) live)
left_call call live last =
    any-append (same_call call) (map (λ (e : SessionId × InstanceId). Mail e.0) live ++ map (λ (e : SessionId × InstanceId). States e.0) live) (Ideals ∷ Send ∷ Post ∷ [])
    ∙ one (list_any (same_call call) (map (λ (e : SessionId × InstanceId). Mail e.0) live ++ map (λ (e : SessionId × InstanceId). States e.0) live))
    (list_any (same_call call) (Ideals ∷ Send ∷ Post ∷ []))
    (any-append (same_call call) (map (λ (e : SessionId × InstanceId). Mail e.0) live) (map (λ (e : SessionId × InstanceId). States e.0) live))
    (map-any (same_call call) (λ (e : SessionId × InstanceId). Mail e.0) live) (map-any (same_call call) (λ (e : SessionId × InstanceId). States e.0) live) last
  where
    one : (a t : Bool) → {b f d g : Bool} → a ≡ (b || f) → b ≡ d → f ≡ g → t ≡ false → (a || t) ≡ (d || g)
    one a t is at there last = grind (arith, is, at, there, last)

left_mail : (live : List (SessionId × InstanceId)) (s : SessionId) → list_any (same_call (Mail s)) (calls_after_live live) ≡ list_any (λ (e : SessionId × InstanceId). s.0 == e.0.0) live
left_mail live s =
    left_call (Mail s) live refl
    ∙ one (list_any (λ (e : SessionId × InstanceId). s.0 == e.0.0) live) (never (λ (e : SessionId × InstanceId). same_call (Mail s) (States e.0)) (λ e. refl) live)
  where
    one : (a : Bool) → {b : Bool} → b ≡ false → (a || b) ≡ a
    one a none = grind (arith, none)

left_states : (live : List (SessionId × InstanceId)) (s : SessionId) → list_any (same_call (States s)) (calls_after_live live) ≡ list_any (λ (e : SessionId × InstanceId). s.0 == e.0.0) live
left_states live s =
    left_call (States s) live refl
    ∙ ap (λ (b : Bool). b || list_any (λ (e : SessionId × InstanceId). s.0 == e.0.0) live) (never (λ (e : SessionId × InstanceId). same_call (States s) (Mail e.0)) (λ e. refl) live)

pub both_left : (live : List (SessionId × InstanceId)) (s : SessionId) → list_any (same_call (Mail s)) (calls_after_live live) ≡ true → list_any (same_call (States s)) (calls_after_live live) ≡ true
both_left live s e = left_states live s ∙ sym (left_mail live s) ∙ e

-- and they are those of the shown sessions
shown-turned : (live : List (SessionId × InstanceId)) (s : SessionId) → list_any (λ (e : SessionId × InstanceId). s.0 == e.0.0) live ≡ list_any (λ (e : SessionId × InstanceId). e.0.0 == s.0) live
shown-turned [] s = refl
shown-turned (e ∷ live) s = grind (arith, nat_tests, shown-turned live s)

pub mail_left : (live : List (SessionId × InstanceId)) (s : SessionId) → list_any (same_call (Mail s)) (calls_after_live live) ≡ list_any (λ (e : SessionId × InstanceId). e.0.0 == s.0) live
mail_left live s = left_mail live s ∙ shown-turned live s

pub states_left : (live : List (SessionId × InstanceId)) (s : SessionId) → list_any (same_call (States s)) (calls_after_live live) ≡ list_any (λ (e : SessionId × InstanceId). e.0.0 == s.0) live
states_left live s = left_states live s ∙ shown-turned live s

-- behind the states of one session comes the mail of none
abbrev pub is_mail : Call → Bool
is_mail (Mail s) = true
is_mail _ = false

pub no_mail_behind : (a : Call) (rest : List Call) (s : SessionId) → is_in_order (a ∷ rest) ≡ true → is_mail a ≡ false → list_any (same_call (Mail s)) rest ≡ false
no_mail_behind a [] s e other = refl
no_mail_behind a (b ∷ rest) s e other =
    let next : is_mail b ≡ false = one a b (and-first (may_follow a b) (is_in_order_from b rest) e) other in
    let more = no_mail_behind b rest s (and-second (may_follow a b) (is_in_order_from b rest) e) next in
    let here = two b next in
    grind (arith, more, here)
  where
    one : (a b : Call) → may_follow a b ≡ true → is_mail a ≡ false → is_mail b ≡ false
    one (Mail s) b e w = cc
    one Live (Mail t) e w = cc
    one (States s) (Mail t) e w = cc
    one Ideals (Mail t) e w = cc
    one Send (Mail t) e w = cc
    one Post (Mail t) e w = cc
    one a Live e w = refl
    one a (States t) e w = refl
    one a Ideals e w = refl
    one a Send e w = refl
    one a Post e w = refl

    two : (b : Call) → is_mail b ≡ false → same_call (Mail s) b ≡ false
    two (Mail t) w = cc
    two Live w = refl
    two (States t) w = refl
    two Ideals w = refl
    two Send w = refl
    two Post w = refl
