-- The laws above the single call.
use Rattle.std.specs.Prelude.{ℕ, List}
use Rattle.filling.specs.Runs.{WholeRuns}
use Rattle.filling.proofs.Room.{never_too_early, never_too_late}
use Rattle.filling.proofs.Sealed.{sealed_runs}
use Rattle.filling.proofs.Unique.{one_telling}

pub whole_runs : (a b : List ℕ) → WholeRuns a b
whole_runs a b = record { one = one_telling a b; sealed = sealed_runs a b; early = never_too_early a b; late = never_too_late a b }
