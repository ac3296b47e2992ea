use Rattle.std.proofs.Common.{◌<◌, ◌+◌, ◌-◌, length, take, drop, ap, ◌∙◌, arith}
use Rattle.std.specs.Simd.{first_chunks}
use Rattle.packed.specs.Format.{pair_count, pairs_from, text_from, pair_text}
use Rattle.packed.proofs.Pairs.{is_read, text_is, text_within}
use Rattle.packed.proofs.framed.Framed.text.Goals as goal

pub slice_bounds-result-end : goal.slice_bounds-result-end
slice_bounds-result-end c =
    let bs = c.args.self.now.bytes.items in
    let same = c.as_slice-bytes.ensures.value in
    let all = c.pairs.ensures.is ∙ ap (λ xs. first_chunks 3 (pair_count xs) (drop (pairs_from xs) xs)) same in
    let there = c.in-Some.ensures.lookup in
    let within : c.from.result < pair_count bs = omega (arith, there.3.0, c.pairs.ensures.len, ap pair_count same) in
    let r = is_read bs c.from.result c.pairs.result.now _ _ c.word_of.result all within there.1 c.word_of.ensures in
    omega (arith, text_within bs c.from.result c.args.self.now.whole within, r.offset_is, r.long_is, ap text_from same, ap length same)

pub returns-in-Some : goal.returns-in-Some
returns-in-Some c =
    let bs = c.args.self.now.bytes.items in
    let same = c.as_slice-bytes.ensures.value in
    let all = c.pairs.ensures.is ∙ ap (λ xs. first_chunks 3 (pair_count xs) (drop (pairs_from xs) xs)) same in
    let there = c.in-Some.ensures.lookup in
    let within : c.from.result < pair_count bs = omega (arith, there.3.0, c.pairs.ensures.len, ap pair_count same) in
    let r = is_read bs c.from.result c.pairs.result.now _ _ c.word_of.result all within there.1 c.word_of.ensures in
    let text = c.start_of_text.ensures.is ∙ ap text_from same in
    let from = c.start_of_text.result + c.from-in-Some.result in
    ap (λ xs. take (from + c.from-in-Some-2.result - from) (drop from xs)) same
    ∙ text_is bs c.from.result _ _ _ from (from + c.from-in-Some-2.result) within r text (omega arith) (omega arith)
    ∙ ap (pair_text bs) c.from.ensures
