use Rattle.std.proofs.Common.{◌≡◌, ◌-◌, length, take}
use Rattle.notation.specs.Numerals.{numbers_in}
use Rattle.notation.proofs.Counts.{joined}
use Rattle.notation.proofs.numerals.numbers_in.Given as goal

-- The numbers so far, in front of those that are left, are all.
abbrev pub invariant-loop-place : goal.invariant-loop-place
invariant-loop-place g l = (joined (take l.place-index l.place-items) (numbers_in (g.row.N - l.place-index) (g.P.TextParts.left l.parts)) ≡ numbers_in g.row.N (g.P.TextParts.left l.initial.parts)) × (length l.place-items ≡ g.row.N)
