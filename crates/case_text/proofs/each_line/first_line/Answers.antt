use Rattle.std.proofs.Common.{arith}
use Rattle.std.proofs.lemmas.Bool.{eq-eqb, eqb-true}
use Rattle.case_text.proofs.Lines.{first_line as first_line_is, one_line}
use Rattle.case_text.proofs.each_line.first_line.Goals as goal

pub returns-in-Some : goal.returns-in-Some
returns-in-Some c =
    let found = c.in-Some.ensures in
    first_line_is c.args.text.now c.in-Some.at found.0.high (λ k l e. found.0.before k (omega arith) l (eq-eqb _ _ e)) (eqb-true _ _ found.1)

pub returns-in-None : goal.returns-in-None
returns-in-None c = one_line c.args.text.now c.requires (λ k l e. c.in-None.ensures k (omega arith) l (eq-eqb _ _ e))
