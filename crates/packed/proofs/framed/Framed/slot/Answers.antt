use Rattle.std.proofs.Common.{◌≡◌, ◌<◌, None, length, drop, ap, ◌∙◌, arith, rules}
use Rattle.std.specs.Simd.{first_chunks}
use Rattle.packed.specs.Format.{entry_count}
use Rattle.packed.specs.Slots.{found}
use Rattle.packed.proofs.Listed.{none_past, slot_is}
use Rattle.packed.proofs.framed.Framed.slot.Goals as goal

pub returns-in_err-kind : goal.returns-in_err-kind
returns-in_err-kind c =
    let bs = c.args.self.now.bytes.items in
    let none : c.from_residual.result ≡ None = search rules in
    let count : length c.entries.result.now ≡ entry_count bs = c.entries.ensures.len ∙ ap entry_count c.as_slice.ensures.value in
    ap (found bs c.args.at) none ∙ none_past bs c.args.at _ count c.in_err-kind.ensures.lookup.3

pub returns : goal.returns
returns c =
    let bs = c.args.self.now.bytes.items in
    let same = c.as_slice.ensures.value in
    let all = c.entries.ensures.is ∙ ap (λ xs. first_chunks 3 (entry_count xs) (drop 5 xs)) same in
    let there = c.in_ok-kind.ensures.lookup in
    let within : c.args.at < entry_count bs = omega (arith, there.3.0, c.entries.ensures.len, ap entry_count same) in
    slot_is bs c.args.at c.word_of.result c.entries.result.now _ _ c.of.result all within there.1 c.word_of.ensures (c.of.ensures bs c.args.at)
