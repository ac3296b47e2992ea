-- The entries of a line, one after another.
use Rattle.std.proofs.Common.{List, ◌++◌, Some, None, Option}
use Rattle.table.specs.declared.slot.Slot.{Slot}

-- entries that were read, and behind them those that are left
abbrev pub joined : List Slot → Option (List Slot) → Option (List Slot)
joined xs None = None
joined xs (Some ys) = Some (xs ++ ys)
