-- Whole descriptions: their bytes, and the fault of one.
use Rattle.std.proofs.Common.{◌≡◌, ℕ, List, Some, None, Bool, true, false, refl}
use Rattle.std.specs.Prelude.{codes, if◌then◌else◌}
use Rattle.std.specs.Str.{IsUtf8, is_utf8}
use Rattle.std.proofs.lemmas.Str.{IsUtf8-from_is_utf8, is_utf8-from_IsUtf8}
use Rattle.serde_json.specs.Data.{Data}
use Rattle.serde_json.specs.Read.{read}
use Rattle.hx_forms.specs.declared.faults.DescRefusal.{DescRefusal}
use Rattle.hx_forms.specs.Found.{Found, within}
use Rattle.hx_forms.specs.Reading.{Refuses, IsWithin}
use Rattle.hx_forms.proofs.Refusals.{refused_within}
use Rattle.hx_desc.specs.Description.{json_of}

pub refused_in_description : {A : Type 0} (old new : DescRefusal) (found : Found A) → IsWithin (codes "$") old new → Refuses old found → Refuses new (within (codes "$") found)
refused_in_description old new found is refuses = refused_within (codes "$") old new found is refuses

-- the value of bytes that are JSON
pub json_there : (bytes : List ℕ) (d : Data) → IsUtf8 bytes → read bytes ≡ Some d → json_of bytes ≡ Some d
json_there bytes d utf8 is = rw (is_utf8-from_IsUtf8 bytes utf8) is

-- none of bytes that are not
pub json_absent : (bytes : List ℕ) → (IsUtf8 bytes → read bytes ≡ None) → json_of bytes ≡ None
json_absent bytes none = one (is_utf8 bytes) refl
  where
    one : (b : Bool) → is_utf8 bytes ≡ b → (if b then read bytes else None) ≡ None
    one true is = none (IsUtf8-from_is_utf8 bytes is)
    one false is = refl
