use Rattle.std.proofs.Common.{◌≡◌, ℕ, ◌<◌}
use Rattle.sheet.specs.Entries.{entries, at, bare_entry}
use Rattle.sheet.proofs.same.are_same.Given as goal

abbrev pub invariant-loop-at : goal.invariant-loop-at
invariant-loop-at g l =
    (k : ℕ) → k < l.at → bare_entry (at (entries (g.S.Store.sheet l.a)) k) ≡ bare_entry (at (entries (g.T.Store.sheet l.b)) k)
