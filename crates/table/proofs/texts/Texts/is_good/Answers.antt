use Rattle.std.proofs.Common.{arith}
use Rattle.std.proofs.lemmas.Bool.Decides.{nat_tests}
use Rattle.table.specs.Texts.{good_place}
use Rattle.table.proofs.texts.Texts.is_good.Goals as goal

pub returns-then-contains : goal.returns-then-contains
unfolding good_place
returns-then-contains c = grind (arith, nat_tests)

pub returns-else-contains : goal.returns-else-contains
unfolding good_place
returns-else-contains c = grind (arith, nat_tests)
