-- An opened table: its flat form is the list of its entries.
use Rattle.std.proofs.Common.{◌≡◌, ℕ, List, Some, None, vec_items, Option, sym, subst}
use Rattle.std.proofs.lemmas.Bool.{leb-true}
use Rattle.sheet.specs.Entries.{Entry, at}
use Rattle.sheet.specs.Limits.{LegalFields}
use Rattle.rules.specs.Verdicts.{OneLawfulSheet}
use Rattle.rules.proofs.Sheets
use Rattle.table.specs.Opening.{parts_of}
use Rattle.table.specs.Slots.{parts_listed, found, Small}
use Rattle.table.specs.declared.slot.Slot.{Slot}
use Rattle.table.specs.declared.slot.Slot.TheVariants.{Group as SGroup, Name as SName, Mark as SMark, Literal as SLiteral, End as SEnd}
use Rattle.table.specs.declared.table.Table.{Table}

pub its_sheet : (t : Table) → OneLawfulSheet (parts_listed (parts_of t))
its_sheet t = Sheets.its_sheet (parts_listed (parts_of t)) t.parts.lawful

abbrev its : Table → Option Slot → Entry ℕ
its t s = found (vec_items (parts_of t).sheet) (vec_items (parts_of t).template) s

small : (a b : List ℕ) (s : Option Slot) → LegalFields (found a b s) → Small s
small a b None h = tt
small a b (Some (SGroup x d w o c)) h = h
small a b (Some (SName q s)) h = tt
small a b (Some (SMark c k s)) h = leb-true k 1 (Sheets.legal_spacing c k h)
small a b (Some (SLiteral q s)) h = tt
small a b (Some (SEnd x)) h = tt

pub slot_small : (t : Table) (k : ℕ) (s : Option Slot) → its t s ≡ at (parts_listed (parts_of t)) k → Small s
slot_small t k s h = small _ _ s (subst (λ (e : Entry ℕ). LegalFields e) (sym h) (Sheets.legal_there (parts_listed (parts_of t)) k (Sheets.lawful_verdict (parts_listed (parts_of t)) t.parts.lawful)))
