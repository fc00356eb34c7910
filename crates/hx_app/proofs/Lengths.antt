-- The input that is made is short.
use Rattle.std.proofs.Common.{◌≡◌, ℕ, zero, suc, ◌*◌, ◌/◌, ◌%◌, ◌^◌, ◌<◌, ◌≤◌, [], ◌∷◌, ◌++◌, map, length, codes, decimal, refl, ap, arith, length-append}
use Rattle.std.specs.Fmt.{digits}
use Rattle.std.specs.List.{join_with_byte}
use Rattle.std.proofs.lemmas.Fmt.{length-decimal-le}
use Rattle.hx_genwork.specs.Made as made
use Rattle.hx_genwork.specs.Made.{drawn, lists_after, instances_array, description, script}
use Rattle.hx_app.proofs.Cases.{below_12}
use Rattle.hx_app.proofs.Texts.{list_from, first_below, front, middle, line, description-line}
use Rattle.hx_app.proofs.Scripts.{length-script}

list_length : (y : ℕ) → y < 12 → length (instances_array (list_from y)) ≡ 25
unfolding digits
list_length = below_12 (λ y. length (instances_array (list_from y)) ≡ 25) refl refl refl refl refl refl refl refl refl refl refl refl

joined_length : (x n : ℕ) → length (join_with_byte 44 (map instances_array (lists_after x n))) ≤ 26 * n
joined_length x zero = omega arith
joined_length x (suc zero) = omega (arith, list_length (drawn x / 2 ^ 33 % 12) (first_below (drawn x)))
joined_length x (suc (suc n)) =
    let list = instances_array (list_from (drawn x / 2 ^ 33 % 12)) in
    let more = join_with_byte 44 (map instances_array (lists_after (drawn x) (suc n))) in
    omega (arith, list_length (drawn x / 2 ^ 33 % 12) (first_below (drawn x)), length-append list (44 ∷ more), joined_length (drawn x) (suc n))

line_length : (seed size : ℕ) → size ≤ 256 → length (line seed size) ≤ 7000
line_length seed size most =
    let lists = join_with_byte 44 (map instances_array (lists_after seed size)) in
    let array = made.array (map instances_array (lists_after seed size)) in
    let rest = array ++ codes "}]}" in
    omega (
      arith,
      length-append front (decimal size ++ (middle ++ rest)),
      length-append (decimal size) (middle ++ rest),
      length-append middle rest,
      length-append array (codes "}]}"),
      length-append lists (93 ∷ []),
      joined_length seed size,
      length-decimal-le 3 size (omega arith) (omega arith) (omega arith),
    )

pub length-made : (seed size : ℕ) → size ≤ 256 → length (made.made seed size) ≤ 8192
length-made seed size most =
    omega (
      arith,
      length-append (description seed size ++ codes "---\n") script,
      length-append (description seed size) (codes "---\n"),
      ap length (description-line seed size),
      length-append (line seed size) (10 ∷ []),
      line_length seed size most,
      length-script,
    )
