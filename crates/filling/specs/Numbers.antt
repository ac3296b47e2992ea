-- The numbers of the refusals.
use Rattle.std.specs.Prelude.{ℕ}
use Rattle.filling.specs.declared.fault.FillFault.{FillFault}
use Rattle.filling.specs.declared.fault.FillFault.TheVariants.{Sealed, NameWanted, Mark, Text, Delimiter, NoGroup, GroupOpen, TooDeep, TooShort}

abbrev pub fill_fault_number : FillFault → ℕ
fill_fault_number Sealed = 1
fill_fault_number NameWanted = 2
fill_fault_number Mark = 3
fill_fault_number Text = 4
fill_fault_number Delimiter = 5
fill_fault_number NoGroup = 6
fill_fault_number GroupOpen = 7
fill_fault_number TooDeep = 8
fill_fault_number TooShort = 9
