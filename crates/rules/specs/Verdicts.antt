-- What a verdict says of the entries, in words of sheets: a law above the rules.
use Rattle.std.specs.Prelude.{◌≡◌, ℕ, suc, ◌<◌, ◌≤◌, List, ◌++◌, length, take}
use Rattle.sheet.specs.Trees.{Trees}
use Rattle.sheet.specs.Entries.{Entry, tree}
use Rattle.sheet.specs.Forms.{FlatFormOf}
use Rattle.sheet.specs.Limits.{KeepsLimits}
use Rattle.sheet.specs.declared.fault.Rule.{Rule}
use Rattle.sheet.specs.declared.fault.Rule.TheVariants.{EndMissing}
use Rattle.sheet.specs.declared.fault.StoreFault.{StoreFault}
use Rattle.sheet.specs.declared.fault.StoreFault.TheVariants.{Frame, Rules}
use Rattle.rules.specs.Rules.{verdict, offending}

-- The entries are the flat form of exactly one sheet, and it keeps the limits.
pub record OneLawfulSheet {St : Type 0} (es : List (Entry St)) : Type 0 where
  pub limits : KeepsLimits (tree es)
  pub flat : FlatFormOf es (tree es)
  pub one : (u : Trees St) → FlatFormOf es u → u ≡ tree es

-- Some sheet that keeps the limits has the entries as its flat form.
abbrev pub SomeLawfulSheet : {St : Type 0} → List (Entry St) → Type 0
SomeLawfulSheet {St} es = (t : Trees St) × KeepsLimits t × FlatFormOf es t

-- The place is the first to offend, and this is the rule. The entries before it have no fault but that a last End is missing behind them; and if
-- there are not too many entries and one stands at the place, then that one is at fault by the rule, whatever else may stand behind it.
pub record FirstOffence {St : Type 0} (es : List (Entry St)) (place : ℕ) (rule : Rule) : Type 0 where
  pub before : verdict (take place es) ≡ offending place EndMissing
  pub there : length es ≤ 65535 → place < length es → (more : List (Entry St)) → 0 < length more → length (take (suc place) es ++ more) ≤ 65535 → verdict (take (suc place) es ++ more) ≡ offending place rule

-- Why entries are refused: the first place that breaks a rule.
abbrev pub Refuses : {St : Type 0} → List (Entry St) → StoreFault → Type 0
Refuses es Frame = ⊥
Refuses es (Rules place rule) = (verdict es ≡ offending place rule) × FirstOffence es place rule
