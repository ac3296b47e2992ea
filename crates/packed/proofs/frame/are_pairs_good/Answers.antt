use Rattle.std.proofs.Common.{◌≡◌, ◌<◌, true, false, [], sym, refl, ap, ◌∙◌, arith}
use Rattle.std.proofs.lemmas.Bool.Decides.{nat_tests}
use Rattle.packed.specs.Format.{pair_count, good_pair, good_pairs}
use Rattle.packed.proofs.Pairs.{is_read, one_more, one_bad, free_next}
use Rattle.packed.proofs.frame.are_pairs_good.Goals as goal

pub returns-then-end-offset : goal.returns-then-end-offset
returns-then-end-offset c =
    let bs = c.args.bytes.now in
    let n = c.loop-low.low-index in
    let within : n < pair_count bs = omega (arith, c.pairs-low-items.ensures.len) in
    let r = is_read bs n c.pairs-low-items.result.now _ [] c.word_of.result c.pairs-low-items.ensures.is within refl c.word_of.ensures in
    let o = r.offset_is in
    let l = r.long_is in
    let bad : good_pair bs n ≡ false = grind (arith, nat_tests) in
    sym (one_bad bs n (pair_count bs) within bad)

pub loop-low-preserved : goal.loop-low-preserved
loop-low-preserved c =
    let bs = c.args.bytes.now in
    let n = c.loop-low.low-index in
    let within : n < pair_count bs = omega (arith, c.pairs-low-items.ensures.len) in
    let r = is_read bs n c.pairs-low-items.result.now _ [] c.word_of.result c.pairs-low-items.ensures.is within refl c.word_of.ensures in
    let o = r.offset_is in
    let l = r.long_is in
    let good : good_pair bs n ≡ true = grind (arith, nat_tests) in
    (one_more bs n c.loop-low.invariant.0 good, omega (arith, free_next bs n))

pub returns : goal.returns
returns c =
    let all : c.loop-low.low-index ≡ pair_count c.args.bytes.now = omega (arith, c.pairs-low-items.ensures.len) in
    sym c.loop-low.invariant.0 ∙ ap (good_pairs c.args.bytes.now) all
