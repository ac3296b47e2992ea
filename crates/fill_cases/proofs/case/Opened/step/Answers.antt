use Rattle.std.proofs.Common.{Ok, Err, refl}
use Rattle.fill_cases.proofs.case.Opened.step.Goals as goal

pub returns-in-Ok : goal.returns-in-Ok
returns-in-Ok g c = rw (c.in-Whole.is, c.in-Some.is) (Ok c.in-Ok.inside, c.in-Ok.ensures, refl, refl)

pub returns-in-Err : goal.returns-in-Err
returns-in-Err g c = rw (c.in-Whole.is, c.in-Some.is) (Err c.in-Err.refused, c.in-Err.ensures, refl, refl)

pub returns-in-Ok-inside : goal.returns-in-Ok-inside
returns-in-Ok-inside g c = rw (c.in-Inside.is, c.in-Some.is) (Ok c.in-Ok-inside.inside, c.in-Ok-inside.ensures, refl, refl)

pub returns-in-Err-inside : goal.returns-in-Err-inside
returns-in-Err-inside g c =
    rw (c.in-Inside.is, c.in-Some.is) (Err c.in-Err-inside.refused, c.in-Err-inside.ensures, refl, refl)
