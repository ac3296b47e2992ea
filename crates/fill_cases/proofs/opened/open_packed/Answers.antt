use Rattle.std.proofs.Common.{Ok, Err, refl}
use Rattle.fill_cases.proofs.opened.open_packed.Goals as goal

pub returns-in-Ok : goal.returns-in-Ok
returns-in-Ok c = (Ok c.in-Ok.store, c.in-Ok.ensures.opens, (refl, refl))

pub returns-in-Err : goal.returns-in-Err
returns-in-Err c = (Err c.in-Err.refused, c.in-Err.ensures.opens, (refl, refl))
