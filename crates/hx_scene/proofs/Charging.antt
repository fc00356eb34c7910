-- What a charge of the board comes to, and that a scene stays one.
use Rattle.std.proofs.Common.{◌≡◌, ℕ, ◌+◌, ◌≤◌, Bool, false, None, Some, sym, ap, subst, ◌∙◌, arith}
use Rattle.std.specs.Prelude.{if◌then◌else◌, nat_lt, Result, Ok, Err}
use Rattle.std.proofs.lemmas.Bool.Decides.{nat_tests}
use Rattle.hx_board.specs.declared.faults.HistoryFull.{HistoryFull}
use Rattle.hx_board.specs.declared.faults.RoomFault.{RoomFault}
use Rattle.hx_board.specs.declared.faults.RoomFault.TheVariants as rooms
use Rattle.hx_board.specs.Board.{Held, charged, weight_at}
use Rattle.hx_board.specs.Refusals.{full, charge_refusal}
use Rattle.hx_scene.specs.Scenes.{SceneState}
use Rattle.hx_scene.specs.Kept.{IsScene}
use Rattle.hx_scene.specs.Telling.{IsCharged}
use Rattle.hx_scene.proofs.Reaching.{room_of, no_room_of}

room_is : (limit n : ℕ) → nat_lt limit n ≡ false → n ≤ limit
room_is limit n e = grind (arith, nat_tests, e)

later_weight : (history charges n limit : ℕ) → history + charges + n ≤ limit → history + (charges + n) ≤ limit
later_weight history charges n limit e = omega arith

-- a board that was charged has a history, and so its scene is one
scene_charged : (s : SceneState) (n : ℕ) → weight_at s.board + n ≤ s.board.limit → IsScene s → IsScene (record s { board = charged s.board n })
scene_charged s n room is = record {
  own = is.own;
  history = record {
    valid = is.history.valid;
    legal = is.history.legal;
    replays = is.history.replays;
    lines = is.history.lines;
    weight = later_weight _ s.board.charges n s.board.limit room;
  };
  of_history = record {
    given = is.of_history.given;
    legal = is.of_history.legal;
    cluster = is.of_history.cluster;
    controllers = is.of_history.controllers;
    turns = is.of_history.turns;
    bag = is.of_history.bag;
    accepted = is.of_history.accepted;
  };
  in_step = record { parts = is.in_step.parts; participants = is.in_step.participants; weight = later_weight _ s.board.charges n s.board.limit room };
  listed = is.listed;
}

pub scene_of_charge : {s : SceneState} (b : Held) (n : ℕ) → IsScene s → charge_refusal s.board n ≡ None → b ≡ charged s.board n → IsScene (record s { board = b })
scene_of_charge {s} b n is free e =
    subst (λ c. IsScene (record s { board = c })) (sym e) (scene_charged s n (room_is s.board.limit (weight_at s.board + n) (room_of s.board n (λ w. record { weight = w }) free)) is)

pub scene_of_same : {s : SceneState} (b : Held) → IsScene s → b ≡ s.board → IsScene (record s { board = b })
scene_of_same {s} b is e = subst (λ c. IsScene (record s { board = c })) (sym e) is

-- the charge by its result
refused_none : (b : Held) (n : ℕ) → charge_refusal b n ≡ None → full b n rooms.HistoryFull ≡ None
refused_none b n free = ap (λ (t : Bool). if t then Some (rooms.HistoryFull (weight_at b)) else None) (room_of b n (λ w. record { weight = w }) free)

refused_some : (b : Held) (n : ℕ) (fault : HistoryFull) → charge_refusal b n ≡ Some fault → full b n rooms.HistoryFull ≡ Some (rooms.HistoryFull fault.weight)
refused_some b n fault is =
    let no = no_room_of b n (λ w. record { weight = w }) fault is in
    ap (λ (t : Bool). if t then Some (rooms.HistoryFull (weight_at b)) else None) no.0 ∙ ap (λ (f : HistoryFull). Some (rooms.HistoryFull f.weight)) (sym no.1)

made_at : {R : Type 0} (s : SceneState) (b : Held) (n : ℕ) (r : R) → charge_refusal s.board n ≡ None → b ≡ charged s.board n → IsCharged n s (record s { board = b }) (Ok r)
made_at s b n r free e = record { refused = refused_none s.board n free; ok = ap (λ c. record s { board = c }) e; err = tt }

refused_at : {R : Type 0} (s : SceneState) (b : Held) (n : ℕ) (fault : HistoryFull) → charge_refusal s.board n ≡ Some fault → b ≡ s.board
    → IsCharged {R = R} n s (record s { board = b }) (Err (rooms.HistoryFull fault.weight))
refused_at s b n fault is e = record { refused = refused_some s.board n fault is; ok = tt; err = ap (λ c. record s { board = c }) e }

pub charge_made : {R : Type 0} {s : SceneState} (now : SceneState) (b : Held) (n : ℕ) (r : R) (result : Result R RoomFault) → IsScene s → s ≡ now → charge_refusal s.board n ≡ None → b ≡ charged s.board n
    → result ≡ Ok r → IsCharged n now (record s { board = b }) result
charge_made {R} {s} now b n r result is same free e ok =
    subst (λ v. IsCharged n v (record s { board = b }) result) same (subst (λ x. IsCharged n s (record s { board = b }) x) (sym ok) (made_at s b n r free e))

pub charge_refused : {R : Type 0} {s : SceneState} (now : SceneState) (b : Held) (n : ℕ) (fault : HistoryFull) (result : Result R RoomFault) → IsScene s → s ≡ now → charge_refusal s.board n ≡ Some fault
    → b ≡ s.board → result ≡ Err (rooms.HistoryFull fault.weight) → IsCharged n now (record s { board = b }) result
charge_refused {R} {s} now b n fault result is same full e err =
    subst (λ v. IsCharged n v (record s { board = b }) result) same (subst (λ x. IsCharged n s (record s { board = b }) x) (sym err) (refused_at s b n fault full e))
