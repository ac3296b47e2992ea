use Rattle.std.proofs.Common.{◌≡◌, ◌++◌, drop, vec_items}
use Rattle.lines.specs.Beginnings.{more_text}
use Rattle.lines.proofs.slots.write_more.Given as goal

-- What is written, and then the entries that are left, is all.
abbrev pub invariant-loop-entry : goal.invariant-loop-entry
invariant-loop-entry l = vec_items l.out ++ more_text (drop l.entry-index l.entries) ≡ vec_items l.initial.out ++ more_text l.entries
