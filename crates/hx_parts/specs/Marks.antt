-- Sets of parts, and lists that get new items of some parts.
use Rattle.std.specs.Prelude.{◌≡◌, ℕ, ◌+◌, ◌%◌, ◌++◌, Bool, true, false, ◌&&◌, List, [], ◌∷◌, slice_index_or, filter, if◌then◌else◌}
use Rattle.std.specs.List.{list_all}
use Rattle.hx_ids.specs.declared.PartId.{PartId}
use Rattle.hx_ids.specs.declared.ResourceId.{ResourceId}
use Rattle.hx_cluster.specs.Ends.{part_before}
use Rattle.hx_parts.specs.Parts.{items_at, IsByPart}

-- whether the cell of a part is marked; a part without one isn't
abbrev pub is_marked : List (List Bool) → PartId → Bool
is_marked cells p = slice_index_or (slice_index_or cells p.resource.0 []) p.index false

-- a part is marked only where there is a hint for the last byte of its index
abbrev pub AreHints : List (List Bool) → List Bool → Type 0
AreHints cells hints = (p : PartId) → slice_index_or hints (p.index % 256) false ≡ false → is_marked cells p ≡ false

-- the marked parts of a resource, from an index on, and of all resources from one on
abbrev pub marked_in : ResourceId → ℕ → List Bool → List PartId
marked_in r k [] = []
marked_in r k (marked ∷ cells) = if marked then record { resource = r; index = k } ∷ marked_in r (k + 1) cells else marked_in r (k + 1) cells

abbrev pub marked_from : ℕ → List (List Bool) → List PartId
marked_from n [] = []
marked_from n (cells ∷ rest) = marked_in (record { 0 = n }) 0 cells ++ marked_from (n + 1) rest

-- parts in order, none twice
abbrev pub are_rising : List PartId → Bool
are_rising [] = true
are_rising (p ∷ parts) = list_all (part_before p) parts && are_rising parts

-- the items of parts before one, and behind it
abbrev pub before : {X : Type 0} → (X → PartId) → PartId → List X → List X
before part_of p xs = filter (λ x. part_before (part_of x) p) xs

abbrev pub behind : {X : Type 0} → (X → PartId) → PartId → List X → List X
behind part_of p xs = filter (λ x. part_before p (part_of x)) xs

-- a list where the items of some parts gave way to those that a new list has
abbrev pub spliced : {X : Type 0} → (X → PartId) → List PartId → List X → List X → List X
spliced part_of [] old new = old
spliced part_of (p ∷ parts) old new =
    before part_of p old ++ items_at part_of p new ++ spliced part_of parts (behind part_of p old) (behind part_of p new)

-- a list has the items of the marked parts from a new list, and those of the others from an old one, in order of part
pub record IsSpliced {X : Type 0} (part_of : X → PartId) (marked : PartId → Bool) (old new out : List X) : Type 0 where
  pub by_part : IsByPart part_of out
  pub at : (p : PartId) → items_at part_of p out ≡ (if marked p then items_at part_of p new else items_at part_of p old)
