use Rattle.std.proofs.Common.{sym, ◌∙◌}
use Rattle.packed.proofs.Listed.{length_listed}
use Rattle.packed.proofs.framed.FramedEntries.len.Goals as goal

pub returns : goal.returns
returns c = c.count.ensures ∙ sym (length_listed _)
