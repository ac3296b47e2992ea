-- How a fault of calls is named where words spell them.
use Rattle.spelled.specs.declared.fault.SpelledFault.{SpelledFault}
use Rattle.spelled.specs.declared.fault.SpelledFault.TheVariants.{Lawless, Memory}
use Rattle.spelled.specs.declared.fault.WholeFault.{WholeFault}
use Rattle.spelled.specs.declared.fault.WholeFault.TheVariants.{Refused, Memory as WholeMemory}

abbrev pub spelled_fault : WholeFault → SpelledFault
spelled_fault Refused = Lawless
spelled_fault WholeMemory = Memory
