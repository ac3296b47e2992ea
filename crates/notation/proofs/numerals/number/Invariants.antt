use Rattle.std.proofs.Common.{◌≡◌, ◌≤◌, drop}
use Rattle.notation.specs.Numerals.{value, fitting, number_of}
use Rattle.notation.proofs.numerals.number.Given as goal

-- The digits that are left, behind the number so far, make up the whole.
abbrev pub invariant-loop-byte : goal.invariant-loop-byte
invariant-loop-byte l = (fitting (value l.value (drop l.byte-index l.text)) ≡ number_of l.text) × (l.value ≤ 4294967295)
