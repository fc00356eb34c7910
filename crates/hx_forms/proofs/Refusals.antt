-- Refusals of a part are refusals of the whole.
use Rattle.std.proofs.Common.{ℕ, List, inl, inr, refl}
use Rattle.hx_forms.specs.declared.faults.DescRefusal.{DescRefusal}
use Rattle.hx_forms.specs.declared.faults.DescRefusal.TheVariants.{Fault, OutOfMemory}
use Rattle.hx_forms.specs.Found.{Found, within}
use Rattle.hx_forms.specs.Reading.{Refuses, IsWithin}

-- in a part
pub refused_within : {A : Type 0} (part : List ℕ) (old new : DescRefusal) (found : Found A) → IsWithin part old new → Refuses old found → Refuses new (within part found)
refused_within part (Fault f) new found (inl is) refuses = rw is tt
refused_within part (Fault f) new found (inr is) refuses = rw (is, refuses) refl
refused_within part OutOfMemory new found is refuses = rw is tt
