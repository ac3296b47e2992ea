-- How the refusal of a store is written.
use Rattle.std.specs.Prelude.{ℕ, List, [], ◌++◌, codes, decimal}
use Rattle.sheet.specs.Numbers.{fault_number}
use Rattle.sheet.specs.declared.fault.StoreFault.{StoreFault}
use Rattle.sheet.specs.declared.fault.StoreFault.TheVariants.{Frame, Rules}

-- A refusal by the rules adds the place.
abbrev pub place_text : StoreFault → List ℕ
place_text Frame = []
place_text (Rules place rule) = codes " " ++ decimal place

abbrev pub refusal_text : StoreFault → List ℕ
refusal_text fault = codes "no " ++ (decimal (fault_number fault) ++ place_text fault)
