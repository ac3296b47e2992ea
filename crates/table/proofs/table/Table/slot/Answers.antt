use Rattle.std.proofs.Common.{sym, ap, ◌∙◌}
use Rattle.sheet.specs.Entries.{at}
use Rattle.rules.proofs.Sheets.{there}
use Rattle.table.specs.Opening.{parts_of}
use Rattle.table.specs.Slots.{parts_listed, found}
use Rattle.table.proofs.Opened.{slot_small}
use Rattle.table.proofs.table.Table.slot.Goals as goal

pub returns : goal.returns
returns c =
    let t = c.args.self.now in
    let same = c.entries.ensures in
    let read =
    ap (λ p. found p.sheet.items p.template.items c.slot.result) (sym same) ∙ c.slot.ensures ∙ ap (λ p. at (parts_listed p) c.args.at) same in
    record { is = there (parts_listed (parts_of t)) c.args.at _ t.parts.lawful read; small = slot_small t c.args.at c.slot.result read }
