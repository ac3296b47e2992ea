use Rattle.std.proofs.Common.{arith}
use Rattle.std.proofs.lemmas.List.{length-reverse}
use Rattle.filling.proofs.Behind.{behind_reverse}
use Rattle.filling.proofs.filling.Filling.written.Goals as goal

pub returns-clause-bounded : goal.returns-clause-bounded
returns-clause-bounded c =
    let within = c.self.invariant in
    let gs = c.self.inside.groups.items in
    rw (← c.self.view_is) (record { few = within.few; shallow = omega (arith, length-reverse gs, within.shallow); behind = behind_reverse _ gs within.behind })
