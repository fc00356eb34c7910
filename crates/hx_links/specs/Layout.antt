-- How the slots are laid out. No public clause cites this module.
use Rattle.std.specs.Prelude.{◌≡◌, ℕ, zero, suc, ◌+◌, ◌^◌, ◌<◌, List, map, length, Option, Some, None, slice_get}
use Rattle.hx_links.specs.declared.Node.{Node}
use Rattle.hx_links.specs.declared.slots.Link.{Link}
use Rattle.hx_links.specs.declared.slots.Slot.{Slot}
use Rattle.hx_links.specs.declared.slots.Slot.TheVariants.{Vacant, Held}
use Rattle.hx_links.specs.Slots.{held}

module _ {T : Type 0} where
  -- the link of a slot, if it has one
  abbrev pub link_of : Slot T → Option (Link T)
  link_of (Vacant _) = None
  link_of (Held link) = Some link

  -- the slot of a node is vacant
  abbrev pub IsVacantAt : List (Slot T) → Node → Type 0
  IsVacantAt slots n = (next : Option Node) × (slice_get slots n.0 ≡ Some (Vacant next))

  -- from this node on, so many vacant slots each name the next, and the last names none
  abbrev pub IsVacantChain : List (Slot T) → ℕ → Option Node → Type 0
  IsVacantChain slots zero None = Unit {0}
  IsVacantChain slots zero (Some n) = ⊥
  IsVacantChain slots (suc idle) None = ⊥
  IsVacantChain slots (suc idle) (Some n) =
      (next : Option Node) × (slice_get slots n.0 ≡ Some (Vacant next)) × IsVacantChain slots idle next

  -- `idle` counts the vacant slots, all of them are in the chain from `vacant`, and 32 bits number the slots
  pub record IsLaidOut (slots : List (Slot T)) (vacant : Option Node) (idle : ℕ) : Type 0 where
    pub counted : held (map link_of slots) + idle ≡ length slots
    pub few : length slots < 2 ^ 32
    pub chain : IsVacantChain slots idle vacant
