-- What the entries of a table stand for.
use Rattle.std.specs.Prelude.{ℕ, ◌≤◌, List, map, Some, None, vec_items, Option}
use Rattle.sheet.specs.Entries.{Entry, Group, Name, Mark, Literal, End, Nothing}
use Rattle.table.specs.Texts.{text_at}
use Rattle.table.specs.declared.parts.Parts.{Parts}
use Rattle.table.specs.declared.slot.Slot.{Slot}
use Rattle.table.specs.declared.slot.Slot.TheVariants.{Group as SGroup, Name as SName, Mark as SMark, Literal as SLiteral, End as SEnd}

-- A name or literal has the bytes at its place in the sheet text or in the template text.
abbrev pub slot_meant : List ℕ → List ℕ → Slot → Entry ℕ
slot_meant sheet template (SGroup x d w o c) = Group x d w o c
slot_meant sheet template (SName q s) = Name (text_at sheet template q) s
slot_meant sheet template (SMark c k s) = Mark c k s
slot_meant sheet template (SLiteral q s) = Literal (text_at sheet template q) s
slot_meant sheet template (SEnd x) = End x

-- The entries that the slots stand for, over these two texts.
unfoldable pub listed : List ℕ → List ℕ → List Slot → List (Entry ℕ)
listed sheet template slots = map (slot_meant sheet template) slots

abbrev pub parts_listed : Parts → List (Entry ℕ)
parts_listed p = listed (vec_items p.sheet) (vec_items p.template) (vec_items p.entries)

-- What the code finds at a place.
abbrev pub found : List ℕ → List ℕ → Option Slot → Entry ℕ
found sheet template None = Nothing
found sheet template (Some s) = slot_meant sheet template s

-- Its delimiter is at most 3, and its spacing at most 1.
abbrev pub Small : Option Slot → Type 0
Small None = Unit {0}
Small (Some (SGroup x d w o c)) = d ≤ 3
Small (Some (SName q s)) = Unit {0}
Small (Some (SMark c k s)) = k ≤ 1
Small (Some (SLiteral q s)) = Unit {0}
Small (Some (SEnd x)) = Unit {0}
