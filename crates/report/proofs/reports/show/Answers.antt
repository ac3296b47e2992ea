use Rattle.report.proofs.reports.show.Goals as goal

pub returns : goal.returns
returns g c = simp (c.tally-counts.ensures, c.in_ok-filled.ensures.is, c.in_ok-plain.ensures.is) at c.format.ensures.ok
