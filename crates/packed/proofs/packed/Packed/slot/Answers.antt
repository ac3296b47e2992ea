use Rattle.std.proofs.Common.{sym, ap, ◌∙◌}
use Rattle.sheet.specs.Entries.{at}
use Rattle.packed.specs.Format.{listed}
use Rattle.packed.specs.Opening.{bytes_of}
use Rattle.packed.specs.Slots.{found}
use Rattle.packed.proofs.Opened.{slot_spaced, slot_few}
use Rattle.rules.proofs.Sheets.{there}
use Rattle.packed.proofs.packed.Packed.slot.Goals as goal

pub returns : goal.returns
returns c =
    let p = c.args.self.now in
    let same = ap (λ f. f.bytes.items) c.entries.ensures in
    let read = ap (λ bs. found bs c.args.at c.slot.result) (sym same) ∙ c.slot.ensures ∙ ap (λ bs. at (listed bs) c.args.at) same in
    let is = there (listed (bytes_of p)) c.args.at _ p.framed.lawful read in
    record { is = is; spacing = slot_spaced p c.args.at c.slot.result read; few = slot_few p c.args.at c.slot.result is }
