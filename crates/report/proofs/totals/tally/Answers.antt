use Rattle.std.proofs.Common.{arith}
use Rattle.sheet.specs.Entries.{entries}
use Rattle.report.proofs.Sums.{counted_more, counted_all, at_most_more}
use Rattle.report.proofs.totals.tally.Goals as goal

pub loop-at-preserved : goal.loop-at-preserved
loop-at-preserved g c = record {
  counts = counted_more (entries (g.S.Store.sheet c.args.store.now)) _ _ _ _ _ c.loop-at.invariant.counts (omega (arith, c.count-entries.ensures.is)) c.token.ensures c.note.ensures;
  few = rw c.note.ensures (at_most_more _ _ _ c.loop-at.invariant.few);
}

pub returns : goal.returns
returns g c = counted_all _ _ _ _ c.loop-at.invariant.counts c.count-entries.ensures.is c.loop-at-test.false
