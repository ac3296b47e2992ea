use Rattle.filling.proofs.Tables.{any_table}
use Rattle.filling.proofs.Whole.{whole_runs}
use Rattle.filling.proofs.filling.Filling.fill.Goals as goal

pub returns-in_err-check-clause-any_table : goal.returns-in_err-check-clause-any_table
returns-in_err-check-clause-any_table c = any_table _ _ _ _

pub returns-in_err-check-clause-runs : goal.returns-in_err-check-clause-runs
returns-in_err-check-clause-runs c = whole_runs _ _

pub returns-clause-any_table : goal.returns-clause-any_table
returns-clause-any_table c = any_table _ _ _ _

pub returns-clause-runs : goal.returns-clause-runs
returns-clause-runs c = whole_runs _ _
