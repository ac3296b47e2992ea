use Rattle.std.proofs.Common.{◌∙◌}
use Rattle.table.proofs.Listed.{length_listed}
use Rattle.table.proofs.parts.PartsEntries.len.Goals as goal

pub returns : goal.returns
returns c = c.len.ensures ∙ c.args.self.now.entries.ok.0 ∙ length_listed _ _ _
