-- What opening packed bytes answers.
use Rattle.std.specs.Prelude.{◌≡◌, ℕ, true, false, List, Ok, Err, vec_items, Result, Vec}
use Rattle.std.specs.declared.alloc.Global.{Global}
use Rattle.sheet.specs.Trees.{Trees}
use Rattle.sheet.specs.Entries.{tree}
use Rattle.sheet.specs.Forms.{FlatFormOf}
use Rattle.sheet.specs.Limits.{KeepsLimits}
use Rattle.sheet.specs.declared.fault.Refused.{Refused}
use Rattle.sheet.specs.declared.fault.StoreFault.{StoreFault}
use Rattle.sheet.specs.declared.fault.StoreFault.TheVariants.{Frame, Rules}
use Rattle.rules.specs.Rules.{verdict, offending}
use Rattle.rules.specs.Verdicts.{FirstOffence}
use Rattle.packed.specs.Format.{framed, listed}
use Rattle.packed.specs.declared.packed.Packed.{Packed}
use Rattle.packed.specs.declared.stamp.Stamp.{Stamp}

-- The bytes that a packed store holds, and the sheet that they mean.
abbrev pub bytes_of : Packed → List ℕ
bytes_of p = vec_items p.framed.entries.bytes

abbrev pub sheet_of : Packed → Trees Stamp
sheet_of p = tree (listed (bytes_of p))

-- The bytes mean the sheet: their frame is whole, and their entries are the flat form of the sheet, which keeps the limits.
pub record Means (bs : List ℕ) (t : Trees Stamp) : Type 0 where
  pub whole : framed bs ≡ true
  pub limits : KeepsLimits t
  pub flat : FlatFormOf (listed bs) t

-- Why the bytes mean no sheet: a broken frame before anything else, or the first place that breaks a rule.
abbrev pub Refuses : List ℕ → StoreFault → Type 0
Refuses bs Frame = framed bs ≡ false
Refuses bs (Rules place rule) = (framed bs ≡ true) × (verdict (listed bs) ≡ offending place rule) × FirstOffence (listed bs) place rule

-- Accepted, the store holds the bytes and its sheet is what they mean; refused, they are handed back with the reason.
abbrev pub Opens : Vec ℕ Global → Result Packed (Refused (Vec ℕ Global)) → Type 0
Opens v (Ok p) = Means (vec_items v) (sheet_of p) × (p.framed.entries.bytes ≡ v)
Opens v (Err e) = Refuses (vec_items v) e.fault × (e.given ≡ v)

abbrev pub OpensAs : Trees Stamp → Result Packed (Refused (Vec ℕ Global)) → Type 0
OpensAs t (Ok p) = sheet_of p ≡ t
OpensAs t (Err e) = ⊥

-- Bytes that mean a sheet are accepted, as that sheet and no other.
abbrev pub AcceptsMeaning : List ℕ → Result Packed (Refused (Vec ℕ Global)) → Type 0
AcceptsMeaning bs r = (t : Trees Stamp) → Means bs t → OpensAs t r
