-- What putting calls to a filling, and then opening the table, comes to.
use Rattle.std.specs.Prelude.{◌≡◌, ℕ, List, Ok, Err, vec_items, Result}
use Rattle.sheet.specs.Trees.{Trees}
use Rattle.sheet.specs.Limits.{KeepsLimits}
use Rattle.table.specs.Opening.{parts_of, sheet_of}
use Rattle.table.specs.declared.table.Table.{Table}
use Rattle.filling.specs.Runs.{Tells}
use Rattle.filling.specs.declared.call.Call.{Call}
use Rattle.spelled.specs.declared.fault.WholeFault.{WholeFault}
use Rattle.spelled.specs.declared.fault.WholeFault.TheVariants.{Refused, Memory}

-- No sheet within the limits is told by the calls.
abbrev pub TellsNothing : List ℕ → List ℕ → List Call → Type 0
TellsNothing sheet template calls = (u : Trees ℕ) → KeepsLimits u → Tells sheet template u calls → ⊥

-- A store has the sheet that the calls tell, over these two texts; a refusal says that they tell none.
abbrev pub WholeSheet : List ℕ → List ℕ → List Call → Result Table WholeFault → Type 0
WholeSheet sheet template calls (Ok t) =
    (vec_items (parts_of t).sheet ≡ sheet) × (vec_items (parts_of t).template ≡ template) × Tells sheet template (sheet_of t) calls
WholeSheet sheet template calls (Err Refused) = TellsNothing sheet template calls
WholeSheet sheet template calls (Err Memory) = Unit {0}
