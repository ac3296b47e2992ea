use Rattle.std.proofs.Common.{length, vec_items}
use Rattle.spelled.specs.Reading.{stack}
use Rattle.spelled.proofs.Readings.{SoFar}
use Rattle.spelled.proofs.reading.read.Given as goal

abbrev pub invariant-loop-word : goal.invariant-loop-word
invariant-loop-word g l = SoFar l.calls l.reader.text (stack (vec_items l.reader.groups)) (g.P.TextParts.left l.words) (g.P.TextParts.left l.initial.words)

abbrev pub decreases-loop-word : goal.decreases-loop-word
decreases-loop-word g l = length (g.P.TextParts.left l.words)
