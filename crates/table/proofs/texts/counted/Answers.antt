use Rattle.std.proofs.Common.{take, ap, ◌∙◌}
use Rattle.std.proofs.lemmas.List.{take_min}
use Rattle.table.proofs.texts.counted.Goals as goal

pub returns : goal.returns
returns c = ap (λ n. take n c.args.text.now) c.min.ensures ∙ take_min _ c.args.text.now
