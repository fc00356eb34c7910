-- Parts are told by one number.
use Rattle.std.proofs.Common.{◌≡◌, ℕ, ◌+◌, ◌*◌, ◌^◌, ◌<◌, ap₂, arith}
use Rattle.hx_ids.specs.declared.PartId.{PartId}

pub same_part : (p q : PartId) → p.resource.0 < 2 ^ 32 → q.resource.0 < 2 ^ 32 → p.resource.0 + p.index * 2 ^ 32 ≡ q.resource.0 + q.index * 2 ^ 32 → p ≡ q
same_part p q lt also same =
    let index : p.index ≡ q.index = omega (arith, lt, also, same) in
    let resource : p.resource.0 ≡ q.resource.0 = omega (arith, same, index) in
    ap₂ (λ (r i : ℕ). record { resource = record { 0 = r }; index = i }) resource index
