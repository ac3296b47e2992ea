-- What the code's reading of an entry stands for.
use Rattle.std.specs.Prelude.{ℕ, Bool, true, List, nat_le, Some, None, Option}
use Rattle.sheet.specs.Entries.{Entry, Group, Name, Mark, Literal, End, Nothing}
use Rattle.sheet.specs.Numbers.{delimiter_number}
use Rattle.packed.specs.Format.{pair_text, here, closing}
use Rattle.packed.specs.declared.slot.Slot.{Slot}
use Rattle.packed.specs.declared.slot.Slot.TheVariants.{Group as SGroup, Name as SName, Mark as SMark, Literal as SLiteral, End as SEnd}
use Rattle.packed.specs.declared.stamp.Stamp.{Stamp}

abbrev pub slot_meant : List ℕ → ℕ → Slot → Entry Stamp
slot_meant bs k (SGroup d x) = Group x (delimiter_number d) (here k) (here k) (closing k)
slot_meant bs k (SName n) = Name (pair_text bs n) (here k)
slot_meant bs k (SLiteral n) = Literal (pair_text bs n) (here k)
slot_meant bs k (SMark c s) = Mark c s (here k)
slot_meant bs k (SEnd x) = End x

-- What the code finds at a place.
abbrev pub found : List ℕ → ℕ → Option Slot → Entry Stamp
found bs k None = Nothing
found bs k (Some s) = slot_meant bs k s

-- The spacing of a mark is 0 or 1.
abbrev pub spaced : Option Slot → Bool
spaced None = true
spaced (Some (SGroup d x)) = true
spaced (Some (SName n)) = true
spaced (Some (SLiteral n)) = true
spaced (Some (SMark c s)) = nat_le s 1
spaced (Some (SEnd x)) = true
