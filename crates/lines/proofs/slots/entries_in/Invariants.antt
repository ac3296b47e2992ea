use Rattle.std.proofs.Common.{◌≡◌, length, vec_items}
use Rattle.lines.specs.Beginnings.{slots_of}
use Rattle.lines.proofs.Rows.{joined}
use Rattle.lines.proofs.slots.entries_in.Given as goal

-- The entries so far, in front of those that are left, are all.
abbrev pub invariant-loop-word : goal.invariant-loop-word
invariant-loop-word g l = joined (vec_items l.entries) (slots_of (g.P.TextParts.left l.words)) ≡ slots_of (g.P.TextParts.left l.initial.words)

abbrev pub decreases-loop-word : goal.decreases-loop-word
decreases-loop-word g l = length (g.P.TextParts.left l.words)
