use Rattle.std.proofs.Common.{inr, refl}
use Rattle.cases.proofs.case.begun.Goals as goal

pub returns-in-Err-Unknown : goal.returns-in-Err-Unknown
returns-in-Err-Unknown c = (inr (c.in-Err-Unknown.ensures.unknown c.in-Err-Unknown.field-0-is, refl), refl)
