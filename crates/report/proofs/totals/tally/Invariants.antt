use Rattle.std.proofs.Common.{◌≡◌, take}
use Rattle.sheet.specs.Entries.{entries}
use Rattle.report.proofs.Sums.{AtMost, counted}
use Rattle.report.proofs.totals.tally.Given as goal

abbrev pub invariant-loop-at : goal.invariant-loop-at
invariant-loop-at g l = record {
  counts : l.counts ≡ counted l.entries (take l.at (entries (g.S.Store.sheet l.store)));
  few : AtMost l.at l.counts;
}
