use Rattle.std.proofs.Common.{◌≡◌, length, map, None, arith}
use Rattle.std.proofs.lemmas.List.{get_or_past, length-map}
use Rattle.hx_links.specs.Layout.{link_of}
use Rattle.hx_links.specs.declared.slots.Slot.TheVariants.{Vacant, Held}
use Rattle.hx_links.proofs.Vacancy.{first_vacant, held-set, held-push, link_from_slot, link_at-fill, link_at-push, no_vacant, IsLaidOut-fill, IsLaidOut-push}
use Rattle.hx_links.proofs.slots.Slots.insert_reserved.Goals as goal

pub fill-next-requires : goal.fill-next-requires
fill-next-requires g c =
    let first = first_vacant c.self.inside.slots.items c.in-Some.node c.self.inside.idle (rw c.in-Some.is at c.self.invariant) in
    (first.next, first.found)

pub invariant_of-self-2 : goal.invariant_of-self-2
invariant_of-self-2 g c =
    let sound = rw c.in-Some.is at c.self.invariant in
    rw c.fill-next.ensures.filled (IsLaidOut-fill c.self.inside.slots.items c.in-Some.node _ c.fill-next.result _ sound c.fill-next.ensures.vacant)

pub returns-clause-links : goal.returns-clause-links
returns-clause-links g c =
    let first = first_vacant c.self.inside.slots.items c.in-Some.node c.self.inside.idle (rw c.in-Some.is at c.self.invariant) in
    λ n. rw (← c.self.view_is, c.fill-next.ensures.filled) (link_at-fill c.self.inside.slots.items c.args.link c.in-Some.node n first.within)

pub returns-clause-held : goal.returns-clause-held
returns-clause-held g c =
    let counted = held-set c.self.inside.slots.items c.in-Some.node.0 (Vacant c.fill-next.result) (Held c.args.link) c.fill-next.ensures.vacant in
    rw (← c.self.view_is, c.fill-next.ensures.filled) (omega arith)

pub returns-clause-was_vacant : goal.returns-clause-was_vacant
returns-clause-was_vacant g c =
    rw (← c.self.view_is) (link_from_slot c.self.inside.slots.items c.in-Some.node (Vacant c.fill-next.result) c.fill-next.ensures.vacant)

pub invariant_of-self : goal.invariant_of-self
invariant_of-self g c =
    let sound = rw c.in_default.is at c.self.invariant in
    let none = no_vacant c.self.inside.slots.items c.self.inside.idle sound in
    let room = rw (← c.self.view_is) at c.requires in
    rw (c.push_reserved.ensures.items, c.in_default.is) (IsLaidOut-push c.self.inside.slots.items c.self.inside.idle c.args.link sound (omega (arith, none, room)))

pub returns-in_default : goal.returns-in_default
returns-in_default g c =
    let items = c.self.inside.slots.items in
    let count : c.len.result ≡ length items = omega (arith, c.len.ensures) in
    let none = no_vacant items c.self.inside.idle (rw c.in_default.is at c.self.invariant) in
    record {
      was_vacant = rw (← c.self.view_is, count) (get_or_past (map link_of items) (length items) None (omega (arith, length-map items link_of)));
      links = λ n. rw (← c.self.view_is, count, c.push_reserved.ensures.items) (link_at-push items c.args.link n);
      held = rw (← c.self.view_is, c.push_reserved.ensures.items) (held-push items c.args.link);
      spare =
          let room = rw (← c.self.view_is) at c.requires in
          rw (← c.self.view_is) (omega (arith, none, room, c.push_reserved.ensures.capacity, c.push_reserved.ensures.len));
    }
