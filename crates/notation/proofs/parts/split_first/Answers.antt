use Rattle.std.proofs.Common.{sym, ◌∙◌}
use Rattle.notation.proofs.Splits.{split_first, some_part}
use Rattle.notation.proofs.parts.split_first.Goals as goal

pub unreachable-requires : goal.unreachable-requires
unreachable-requires c = some_part c.args.text.now _ _ c.as_slice.ensures c.told-separator (sym c.split_str-parts.ensures.value ∙ c.in-None.ensures.steps.0)

pub returns : goal.returns
returns c =
    let all = split_first c.args.text.now _ _ _ _ c.as_slice.ensures c.told-separator (sym c.split_str-parts.ensures.value ∙ c.in-Some.ensures.steps) in
    record { first = all.0; others = all.1; all = all.2 }
