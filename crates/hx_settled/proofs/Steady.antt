-- A turn since whose begin nothing has changed: with the reads that are left it is shown all at one moment.
use Rattle.std.proofs.Common.{◌≡◌, ◌≤◌, ◌&&◌, ◌||◌, ◌==◌, Bool, true, false, List, [], ◌∷◌, ◌++◌, append_assoc, append-nil, map, filter, drop, refl, sym, ap, ◌∙◌, inl, inr, arith}
use Rattle.std.specs.List.{list_any, flat_map}
use Rattle.hx_ids.specs.declared.InstanceId.{InstanceId}
use Rattle.hx_ids.specs.declared.ControllerId.{ControllerId}
use Rattle.hx_ids.specs.declared.SessionId.{SessionId}
use Rattle.hx_ids.specs.declared.PassNo.{PassNo}
use Rattle.hx_cluster.specs.declared.description.Spec.{Spec}
use Rattle.hx_cluster.specs.declared.state.Row.{Row}
use Rattle.hx_cluster.specs.declared.state.Message.{Message}
use Rattle.hx_cluster.specs.declared.state.Cluster.{Cluster}
use Rattle.hx_cluster.specs.declared.planning.View.{View}
use Rattle.hx_cluster.specs.declared.happenings.Begun.{Begun}
use Rattle.hx_cluster.specs.declared.happenings.Event.{Event}
use Rattle.hx_cluster.specs.declared.happenings.Event.TheVariants as events
use Rattle.hx_cluster.specs.Reads.{live_shown, mail_shown, states_shown, ideals_shown, nothing_shown}
use Rattle.hx_cluster.specs.Steps.{opening}
use Rattle.hx_cluster.specs.Events.{next, replay, IsStep, IsLegal}
use Rattle.hx_cluster.specs.Valid.{IsValid}
use Rattle.hx_pass.specs.Turns.{Call, Live, Mail, States, Ideals, Send, Post, Turn, same_call, is_first, is_due, is_of_epoch, idle_turn, begun_turn, calls_after_live, with_live, gone_on, if_due, when_own, turn_after, turn_from, turn_of, view_of}
use Rattle.hx_safe.proofs.Counting.{and-first}
use Rattle.hx_safe.proofs.Ends.{session_same}
use Rattle.hx_safe.proofs.Whole.{IsWhole, whole_next, whole_opening, sound_from}
use Rattle.hx_lawful.specs.Reading.{is_in_order, is_read}
use Rattle.hx_lawful.proofs.Whole.{turn_law}
use Rattle.hx_settled.specs.Standing.{ShowsTheSame, IsCounted, read_at}
use Rattle.hx_settled.proofs.Changing.{counted_next}
use Rattle.hx_lawful.proofs.Whole.{own_or_other}

-- what a turn will have been shown, if nothing changes until its last read
abbrev pub shown_in_all : Cluster → List Call → View → View
shown_in_all c [] view = view
shown_in_all c (Live ∷ left) view = read_at c
shown_in_all c (Mail s ∷ left) view = shown_in_all c left (record view { mail = view.mail ++ mail_shown c s })
shown_in_all c (States s ∷ left) view = shown_in_all c left (record view { rows = view.rows ++ states_shown c s })
shown_in_all c (Ideals ∷ left) view = shown_in_all c left (record view { ideals = ideals_shown c })
shown_in_all c (Send ∷ left) view = shown_in_all c left view
shown_in_all c (Post ∷ left) view = shown_in_all c left view

-- it is the same of clusters that show the same
read_alike : {c d : Cluster} → ShowsTheSame c d → read_at d ≡ read_at c
read_alike same i = record {
  live = same.live i;
  mail = flat_map (λ e. filter (λ m. m.session.0 == e.0.0) (same.mail i)) (same.live i);
  rows = flat_map (λ e. filter (λ r. r.session.0 == e.0.0) (same.rows i)) (same.live i);
  ideals = same.ideals i;
}

shown_alike : {c d : Cluster} → ShowsTheSame c d → (left : List Call) (view : View) → shown_in_all d left view ≡ shown_in_all c left view
shown_alike same [] view = refl
shown_alike same (Live ∷ left) view = read_alike same
shown_alike {c} {d} same (Mail s ∷ left) view =
    shown_alike same left (record view { mail = view.mail ++ mail_shown d s })
    ∙ ap (λ (ms : List Message). shown_in_all c left (record view { mail = view.mail ++ filter (λ m. m.session.0 == s.0) ms })) same.mail
shown_alike {c} {d} same (States s ∷ left) view =
    shown_alike same left (record view { rows = view.rows ++ states_shown d s })
    ∙ ap (λ (rs : List Row). shown_in_all c left (record view { rows = view.rows ++ filter (λ r. r.session.0 == s.0) rs })) same.rows
shown_alike {c} {d} same (Ideals ∷ left) view =
    shown_alike same left (record view { ideals = ideals_shown d }) ∙ (λ i. shown_in_all c left (record view { ideals = same.ideals i }))
shown_alike same (Send ∷ left) view = shown_alike same left view
shown_alike same (Post ∷ left) view = shown_alike same left view

-- once live was read, the rest shows all
states_behind : (c : Cluster) (live : List (SessionId × InstanceId)) (view : View)
    → shown_in_all c (map (λ e. States e.0) live ++ Ideals ∷ Send ∷ Post ∷ []) view ≡ record view { rows = view.rows ++ flat_map (λ e. states_shown c e.0) live; ideals = ideals_shown c }
states_behind c [] view = λ i. record view { rows = sym (append-nil view.rows) i; ideals = ideals_shown c }
states_behind c (e ∷ live) view =
    states_behind c live (record view { rows = view.rows ++ states_shown c e.0 })
    ∙ (λ i. record view { rows = append_assoc view.rows (states_shown c e.0) (flat_map (λ x. states_shown c x.0) live) i; ideals = ideals_shown c })

mail_behind : (c : Cluster) (all live : List (SessionId × InstanceId)) (view : View)
    → shown_in_all c (map (λ e. Mail e.0) live ++ map (λ e. States e.0) all ++ Ideals ∷ Send ∷ Post ∷ []) view
    ≡ record view { mail = view.mail ++ flat_map (λ e. mail_shown c e.0) live; rows = view.rows ++ flat_map (λ e. states_shown c e.0) all; ideals = ideals_shown c }
mail_behind c all [] view =
    states_behind c all view ∙ (λ i. record view { mail = sym (append-nil view.mail) i; rows = view.rows ++ flat_map (λ e. states_shown c e.0) all; ideals = ideals_shown c })
mail_behind c all (e ∷ live) view =
    mail_behind c all live (record view { mail = view.mail ++ mail_shown c e.0 })
    ∙ (λ i. record view {
      mail = append_assoc view.mail (mail_shown c e.0) (flat_map (λ x. mail_shown c x.0) live) i;
      rows = view.rows ++ flat_map (λ x. states_shown c x.0) all;
      ideals = ideals_shown c;
    })

live_behind : (c : Cluster) → shown_in_all c (calls_after_live (live_shown c)) (record nothing_shown { live = live_shown c }) ≡ read_at c
live_behind c = mail_behind c (live_shown c) (live_shown c) (record nothing_shown { live = live_shown c })

-- a turn that is under way: where nothing has changed since its begin, it will have been shown all at one moment
abbrev pub is_under_way : List Call → Bool
is_under_way [] = false
is_under_way (call ∷ left) = true

pub record IsSteady (c : Cluster) (t : Turn) : Type 0 where
  pub change : t.begun.change ≤ c.change
  pub nothing : is_first Live t.left ≡ true → t.view ≡ nothing_shown
  -- live is read first
  pub once : list_any (same_call Live) (drop 1 t.left) ≡ false
  pub all : is_under_way t.left ≡ true → t.begun.change ≡ c.change → shown_in_all c t.left t.view ≡ read_at c

steady_idle : (c : Cluster) → IsSteady c idle_turn
steady_idle c = record { change = omega arith; nothing = λ e. refl; once = refl; all = λ e same. absurd (let no_one : false ≡ true = e in cc) }

steady_begun : (c d : Cluster) (begun : Begun) → begun.change ≡ c.change → IsCounted c d → IsSteady d (begun_turn begun)
steady_begun c d begun same counted = record { change = low counted; nothing = λ e. refl; once = refl; all = λ e is. refl }
  where
    low : IsCounted c d → begun.change ≤ d.change
    low (inl up) = omega (arith, same, up)
    low (inr keeps) = omega (arith, same, keeps.0)

-- it goes along with the cluster
steady_on : (c d : Cluster) (t : Turn) → IsCounted c d → IsSteady c t → IsSteady d t
steady_on c d t (inl up) h = record {
  change = omega (arith, up, h.change);
  nothing = h.nothing;
  once = h.once;
  all = λ e same. absurd (omega (arith, up, h.change, same));
}
steady_on c d t (inr keeps) h = record {
  change = omega (arith, keeps.0, h.change);
  nothing = h.nothing;
  once = h.once;
  all = λ e same. shown_alike keeps.1 t.left t.view ∙ h.all e (same ∙ keeps.0) ∙ sym (read_alike keeps.1);
}

-- and with its own calls
first_way : (call : Call) (left : List Call) → is_first call left ≡ true → is_under_way left ≡ true
first_way call [] e = e
first_way call (x ∷ left) e = refl

no_live_first : (left : List Call) → list_any (same_call Live) left ≡ false → is_first Live left ≡ false
no_live_first [] e = refl
no_live_first (Live ∷ left) e = cc
no_live_first (_ ∷ left) e = refl

none_behind : (p : Call → Bool) (left : List Call) → list_any p left ≡ false → list_any p (drop 1 left) ≡ false
none_behind p [] e = refl
none_behind p (x ∷ left) e = one (p x) e
  where
    one : (b : Bool) → (b || list_any p left) ≡ false → list_any p left ≡ false
    one true e = cc
    one false e = e

gone : (c : Cluster) (t : Turn) (call : Call) (view : View) → is_first call t.left ≡ true → shown_in_all c (drop 1 t.left) view ≡ shown_in_all c t.left t.view → IsSteady c t
    → IsSteady c (gone_on t view)
gone c t call view first same h = record {
  change = h.change;
  nothing = λ e. absurd (let both = sym (no_live_first (drop 1 t.left) h.once) ∙ e in cc);
  once = none_behind (same_call Live) (drop 1 t.left) h.once;
  all = λ e is. same ∙ h.all (first_way call t.left first) is;
}

mail_next : (c : Cluster) (s : SessionId) (left : List Call) (view : View) → is_first (Mail s) left ≡ true
    → shown_in_all c (drop 1 left) (record view { mail = view.mail ++ mail_shown c s }) ≡ shown_in_all c left view
mail_next c s (Mail u ∷ left) view e =
    ap (λ (v : SessionId). shown_in_all c left (record view { mail = view.mail ++ mail_shown c v })) (sym (session_same u s e))
mail_next c s _ view e = cc

states_next : (c : Cluster) (s : SessionId) (left : List Call) (view : View) → is_first (States s) left ≡ true
    → shown_in_all c (drop 1 left) (record view { rows = view.rows ++ states_shown c s }) ≡ shown_in_all c left view
states_next c s (States u ∷ left) view e =
    ap (λ (v : SessionId). shown_in_all c left (record view { rows = view.rows ++ states_shown c v })) (sym (session_same u s e))
states_next c s _ view e = cc

ideals_next : (c : Cluster) (left : List Call) (view : View) → is_first Ideals left ≡ true → shown_in_all c (drop 1 left) (record view { ideals = ideals_shown c }) ≡ shown_in_all c left view
ideals_next c (Ideals ∷ left) view e = refl
ideals_next c _ view e = cc

send_next : (c : Cluster) (left : List Call) (view : View) → is_first Send left ≡ true → shown_in_all c (drop 1 left) view ≡ shown_in_all c left view
send_next c (Send ∷ left) view e = refl
send_next c _ view e = cc

when : (c : Cluster) (t after : Turn) (due : Bool) → (due ≡ true → IsSteady c after) → IsSteady c (if_due due after)
when c t after true h = h refl
when c t after false h = steady_idle c

-- a call that is due goes on with what it shows
gone_due : (c : Cluster) (k j : ControllerId) (t : Turn) (call : Call) (pass : PassNo) (view : View) → IsSteady c t
    → (is_first call t.left ≡ true → shown_in_all c (drop 1 t.left) view ≡ shown_in_all c t.left t.view) → IsSteady c (when_own k j t (if_due (is_due t call pass) (gone_on t view)))
gone_due c k j t call pass view h same =
    own_or_other (IsSteady c) k j t (if_due (is_due t call pass) (gone_on t view)) h
    (when c t (gone_on t view) (is_due t call pass) (λ due.
    let first = and-first (is_first call t.left) (pass.0 == t.begun.pass.0) due in
    gone c t call view first (same first) h))

-- live is read
passed_over : {X Y : Type 0} (p : Y → Bool) (f : X → Y) → ((x : X) → p (f x) ≡ false) → (xs : List X) (ys : List Y) → list_any p (map f xs ++ ys) ≡ list_any p ys
passed_over p f never [] ys = refl
passed_over p f never (x ∷ xs) ys = ap (λ b. b || list_any p (map f xs ++ ys)) (never x) ∙ passed_over p f never xs ys

no_live_behind : (live : List (SessionId × InstanceId)) → list_any (same_call Live) (calls_after_live live) ≡ false
no_live_behind live =
    rw append_assoc (passed_over (same_call Live) (λ (e : SessionId × InstanceId). Mail e.0) (λ e. refl) live (map (λ e. States e.0) live ++ (Ideals ∷ Send ∷ Post ∷ []))
    ∙ passed_over (same_call Live) (λ (e : SessionId × InstanceId). States e.0) (λ e. refl) live (Ideals ∷ Send ∷ Post ∷ []))

live_next : (c : Cluster) (t : Turn) → is_first Live t.left ≡ true → IsSteady c t → IsSteady c (with_live c t)
live_next c t first h = record {
  change = h.change;
  nothing = λ e. absurd (let both = sym (after_live (live_shown c)) ∙ e in cc);
  once = none_behind (same_call Live) (calls_after_live (live_shown c)) (no_live_behind (live_shown c));
  all = λ e is. ap (λ (view : View). shown_in_all c (calls_after_live (live_shown c)) (record view { live = live_shown c })) (h.nothing first) ∙ live_behind c;
}
  where
    after_live : (live : List (SessionId × InstanceId)) → is_first Live (calls_after_live live) ≡ false
    after_live [] = refl
    after_live (x ∷ live) = refl

-- each event but a begin, while its cluster stands
abbrev is_begin : Event → Bool
is_begin (events.Begin j begun) = true
is_begin _ = false

steady_call : (c : Cluster) (k : ControllerId) (t : Turn) (e : Event) → IsSteady c t → is_begin e ≡ false → IsSteady c (turn_after c k t e)
steady_call c k t (events.Begin j begun) h ne = absurd (let no_one : true ≡ false = ne in cc)
steady_call c k t (events.Live j pass) h ne =
    own_or_other (IsSteady c) k j t (if_due (is_due t Live pass) (with_live c t)) h
    (when c t (with_live c t) (is_due t Live pass) (λ due. live_next c t (and-first (is_first Live t.left) (pass.0 == t.begun.pass.0) due) h))
steady_call c k t (events.Mail j pass s) h ne = gone_due c k j t (Mail s) pass (record t.view { mail = t.view.mail ++ mail_shown c s }) h (mail_next c s t.left t.view)
steady_call c k t (events.States j pass s) h ne = gone_due c k j t (States s) pass (record t.view { rows = t.view.rows ++ states_shown c s }) h (states_next c s t.left t.view)
steady_call c k t (events.Ideals j pass) h ne = gone_due c k j t Ideals pass (record t.view { ideals = ideals_shown c }) h (ideals_next c t.left t.view)
steady_call c k t (events.Dispatch j epoch pass proposals answer) h ne =
    own_or_other (IsSteady c) k j t (if_due (is_due t Send pass && is_of_epoch t epoch) (gone_on t t.view)) h
    (when c t (gone_on t t.view) (is_due t Send pass && is_of_epoch t epoch) (λ due.
    let first = and-first (is_first Send t.left) (pass.0 == t.begun.pass.0) (and-first (is_due t Send pass) (is_of_epoch t epoch) due) in
    gone c t Send t.view first (send_next c t.left t.view first) h))
steady_call c k t (events.Post j epoch rows) h ne = own_or_other (IsSteady c) k j t idle_turn h (steady_idle c)
steady_call c k t _ h ne = h

steady_next : (c : Cluster) (k : ControllerId) (t : Turn) (e : Event) → IsWhole c → IsStep c e → IsSteady c t → IsSteady (next c e) (turn_after c k t e)
steady_next c k t e w step h = one (is_begin e) refl
  where
    one : (b : Bool) → is_begin e ≡ b → IsSteady (next c e) (turn_after c k t e)
    one false ne = steady_on c (next c e) (turn_after c k t e) (counted_next c e w.kept.numbers w.seated.instances) (steady_call c k t e h ne)
    one true is = began e is step
      where
        began : (e : Event) → is_begin e ≡ true → IsStep c e → IsSteady (next c e) (turn_after c k t e)
        began (events.Begin j begun) is step =
            let counted = counted_next c (events.Begin j begun) w.kept.numbers w.seated.instances in
            own_or_other (IsSteady (next c (events.Begin j begun))) k j t (begun_turn begun) (steady_on c (next c (events.Begin j begun)) t counted h)
            (steady_begun c (next c (events.Begin j begun)) begun (ap (λ (b : Begun). b.change) step.2) counted)
        began _ is step = absurd (let no_one : false ≡ true = is in cc)

-- along a history
steady_along : (c : Cluster) (k : ControllerId) (t : Turn) (h : List Event) → IsWhole c → IsLegal c h → IsSteady c t → IsSteady (replay c h) (turn_from c k t h)
steady_along c k t [] w legal steady = steady
steady_along c k t (e ∷ es) w legal steady =
    steady_along (next c e) k (turn_after c k t e) es (whole_next c e w legal.0) legal.1 (steady_next c k t e w legal.0 steady)

pub steady_law : (spec : Spec) → IsValid spec → (h : List Event) → IsLegal (opening spec) h → (k : ControllerId) → IsSteady (replay (opening spec) h) (turn_of spec k h)
steady_law spec valid h legal k = steady_along (opening spec) k idle_turn h (whole_opening spec (sound_from spec valid)) legal (steady_idle (opening spec))

-- once only the send and the post are left, all was shown
nothing_more : (c : Cluster) (left : List Call) (view : View) → is_in_order left ≡ true → (is_first Send left || is_first Post left) ≡ true
    → (shown_in_all c left view ≡ view) × (is_under_way left ≡ true)
nothing_more c (Send ∷ Post ∷ []) view order e = (refl, refl)
nothing_more c (Post ∷ []) view order e = (refl, refl)
nothing_more c _ view order e = cc

pub read_whole : (spec : Spec) (h : List Event) (k : ControllerId) → IsValid spec → IsLegal (opening spec) h → is_read (turn_of spec k h) ≡ true
    → (turn_of spec k h).begun.change ≡ (replay (opening spec) h).change → view_of spec k h ≡ read_at (replay (opening spec) h)
read_whole spec h k valid legal read same =
    let c = replay (opening spec) h in
    let t : Turn = turn_of spec k h in
    let rest = nothing_more c t.left t.view (turn_law spec valid h legal k).order read in
    sym rest.0 ∙ (steady_law spec valid h legal k).all rest.1 same
