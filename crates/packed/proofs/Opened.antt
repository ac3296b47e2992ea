-- An opened sheet: its flat form is the list of entries in its bytes.
use Rattle.std.proofs.Common.{◌≡◌, ℕ, List, ◌<◌, true, length, Some, None, Option, IsSome, sym, refl, subst, ◌∙◌, ⊎_elim, arith, rules}
use Rattle.std.proofs.lemmas.Bool.{cases_lt}
use Rattle.sheet.specs.Entries.{Entry, Nothing, entries, at}
use Rattle.sheet.specs.Limits.{LegalFields}
use Rattle.sheet.proofs.Places.{at_past}
use Rattle.rules.specs.Verdicts.{OneLawfulSheet}
use Rattle.rules.proofs.Sheets
use Rattle.packed.specs.Format.{listed}
use Rattle.packed.specs.Opening.{bytes_of, sheet_of}
use Rattle.packed.specs.Slots.{found, spaced}
use Rattle.packed.specs.declared.packed.Packed.{Packed}
use Rattle.packed.specs.declared.stamp.Stamp.{Stamp}
use Rattle.packed.specs.declared.slot.Slot.{Slot}
use Rattle.packed.specs.declared.slot.Slot.TheVariants.{Group, Name, Mark as SMark, Literal, End}

its_sheet : (p : Packed) → OneLawfulSheet (listed (bytes_of p))
its_sheet p = Sheets.its_sheet (listed (bytes_of p)) p.framed.lawful

pub slot_spaced : (p : Packed) (k : ℕ) (s : Option Slot) → found (bytes_of p) k s ≡ at (listed (bytes_of p)) k → spaced s ≡ true
slot_spaced p k None h = refl
slot_spaced p k (Some (SMark c s)) h = Sheets.legal_spacing c s (subst LegalFields (sym h) (Sheets.legal_there (listed (bytes_of p)) k (Sheets.lawful_verdict (listed (bytes_of p)) p.framed.lawful)))
slot_spaced p k (Some (Group d x)) h = refl
slot_spaced p k (Some (Name n)) h = refl
slot_spaced p k (Some (Literal n)) h = refl
slot_spaced p k (Some (End x)) h = refl

found_none : (bs : List ℕ) (k : ℕ) (s : Option Slot) → found bs k s ≡ Nothing → IsSome s → ⊥
found_none bs k None e some = search rules
found_none bs k (Some (Group d x)) e some = cc
found_none bs k (Some (Name n)) e some = cc
found_none bs k (Some (Literal n)) e some = cc
found_none bs k (Some (SMark c s)) e some = cc
found_none bs k (Some (End x)) e some = cc

-- What is found stands within the entries.
found_within : (bs : List ℕ) (es : List (Entry Stamp)) (k : ℕ) (s : Option Slot) → found bs k s ≡ at es k → IsSome s → k < length es
found_within bs es k s h some = ⊎_elim (λ l. l) (λ past. absurd (found_none bs k s (h ∙ at_past es k past) some)) (cases_lt k (length es))

pub slot_few : (p : Packed) (k : ℕ) (s : Option Slot) → found (bytes_of p) k s ≡ at (entries (sheet_of p)) k → IsSome s → k < 65536
slot_few p k s h some = let l = found_within (bytes_of p) (entries (sheet_of p)) k s h some in omega (arith, (its_sheet p).limits.few)
