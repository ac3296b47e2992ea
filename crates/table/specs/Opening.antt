-- What opening a table answers.
use Rattle.std.specs.Prelude.{◌≡◌, ℕ, List, Ok, Err, Result}
use Rattle.sheet.specs.Trees.{Trees}
use Rattle.sheet.specs.Entries.{Entry, tree}
use Rattle.sheet.specs.Forms.{FlatFormOf}
use Rattle.sheet.specs.Limits.{KeepsLimits}
use Rattle.sheet.specs.declared.fault.Refused.{Refused}
use Rattle.sheet.specs.declared.fault.StoreFault.{StoreFault}
use Rattle.sheet.specs.declared.fault.StoreFault.TheVariants.{Frame, Rules}
use Rattle.rules.specs.Rules.{verdict, offending}
use Rattle.rules.specs.Verdicts.{FirstOffence}
use Rattle.table.specs.Slots.{parts_listed}
use Rattle.table.specs.declared.parts.Parts.{Parts}
use Rattle.table.specs.declared.table.Table.{Table}

-- What a table is made of, and its sheet.
abbrev pub parts_of : Table → Parts
parts_of t = t.parts.entries

abbrev pub sheet_of : Table → Trees ℕ
sheet_of t = tree (parts_listed (parts_of t))

-- The entries mean the sheet: they are its flat form, and it keeps the limits.
pub record Means (es : List (Entry ℕ)) (t : Trees ℕ) : Type 0 where
  pub limits : KeepsLimits t
  pub flat : FlatFormOf es t

-- Why entries mean no sheet: the first place that breaks a rule. A table has no frame that could be broken.
abbrev pub Refuses : List (Entry ℕ) → StoreFault → Type 0
Refuses es Frame = ⊥
Refuses es (Rules place rule) = (verdict es ≡ offending place rule) × FirstOffence es place rule

-- Accepted, the store holds the parts and its sheet is what they mean; refused, they are handed back with the reason.
abbrev pub Opens : Parts → Result Table (Refused Parts) → Type 0
Opens p (Ok t) = Means (parts_listed p) (sheet_of t) × (parts_of t ≡ p)
Opens p (Err e) = Refuses (parts_listed p) e.fault × (e.given ≡ p)

abbrev pub OpensAs : Trees ℕ → Result Table (Refused Parts) → Type 0
OpensAs t (Ok s) = sheet_of s ≡ t
OpensAs t (Err e) = ⊥

-- Entries that mean a sheet are accepted, as that sheet and no other.
abbrev pub AcceptsMeaning : Parts → Result Table (Refused Parts) → Type 0
AcceptsMeaning p r = (t : Trees ℕ) → Means (parts_listed p) t → OpensAs t r
