use Rattle.std.proofs.Common.{◌∙◌, arith}
use Rattle.std.proofs.lemmas.List.{length-set}
use Rattle.notation.proofs.Counts.{one_more, no_number, too_few, too_many, all_found}
use Rattle.notation.proofs.numerals.numbers_in.Goals as goal

pub returns-in_err-next_part : goal.returns-in_err-next_part
returns-in_err-next_part g c = c.from_residual.ensures ∙ too_few g.row.N c.loop-place.place-index _ _ _ (omega arith) c.in_err-next_part.ensures.0 c.loop-place.invariant.0

pub returns-in_err-place : goal.returns-in_err-place
returns-in_err-place g c =
    c.from_residual-in_err-place.ensures ∙ no_number g.row.N c.loop-place.place-index _ _ _ _ _ (omega arith) c.in_ok-next_part.ensures c.in_err-place.ensures c.loop-place.invariant.0

pub loop-place-preserved : goal.loop-place-preserved
loop-place-preserved g c =
    (one_more g.row.N c.loop-place.place-index _ c.loop-place.place-items _ _ _ _ (omega arith) c.loop-place.invariant.1 c.in_ok-next_part.ensures c.in_ok-place.ensures c.loop-place.invariant.0, length-set c.loop-place.place-items c.loop-place.place-index _ ∙ c.loop-place.invariant.1)

pub returns-in-Some : goal.returns-in-Some
returns-in-Some g c = too_many g.row.N c.loop-place.place-index _ _ _ _ _ (omega arith) c.in-Some.ensures c.loop-place.invariant.0

pub returns : goal.returns
returns g c = all_found g.row.N c.loop-place.place-index _ _ _ (omega arith) c.loop-place.invariant.1 c.in-None.ensures.0 c.loop-place.invariant.0
