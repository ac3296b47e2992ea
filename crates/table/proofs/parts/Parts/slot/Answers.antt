use Rattle.std.proofs.Common.{vec_items, ap, ◌∙◌}
use Rattle.sheet.specs.Entries.{at}
use Rattle.table.specs.Slots.{listed}
use Rattle.table.proofs.Listed.{found_at}
use Rattle.table.proofs.parts.Parts.slot.Goals as goal

pub returns : goal.returns
returns c =
    let p = c.args.self.now in
    found_at (vec_items p.sheet) (vec_items p.template) c.deref.result.now c.args.at c.get.result c.copied.result c.get.ensures.lookup c.copied.ensures
    ∙ ap (λ es. at (listed (vec_items p.sheet) (vec_items p.template) es) c.args.at) c.deref.ensures.value
