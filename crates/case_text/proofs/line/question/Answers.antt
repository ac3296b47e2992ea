use Rattle.case_text.proofs.Cuts.{no_cut, last_cut}
use Rattle.case_text.proofs.line.question.Goals as goal

pub returns-in-Some : goal.returns-in-Some
returns-in-Some c = last_cut c.args.line.now c.in-Some.at c.in-Some.ensures

pub returns-in-None : goal.returns-in-None
returns-in-None c = no_cut c.args.line.now c.in-None.ensures
