use Rattle.std.proofs.Common.{◌∙◌, arith}
use Rattle.notation.proofs.Values.{no_more}
use Rattle.notation.proofs.numerals.number.Goals as goal

pub returns-in_err-value : goal.returns-in_err-value
returns-in_err-value c =
    c.from_residual.ensures ∙ no_more c.loop-byte.value c.loop-byte.byte-index c.args.text.now _ (omega arith) c.in_err-value.ensures c.loop-byte.invariant.0
