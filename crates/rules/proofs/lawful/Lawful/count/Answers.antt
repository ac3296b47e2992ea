use Rattle.std.proofs.Common.{sym, ap, ◌∙◌}
use Rattle.std.specs.Prelude.{length}
use Rattle.rules.proofs.Sheets.{its_sheet}
use Rattle.rules.proofs.lawful.Lawful.count.Goals as goal

pub returns : goal.returns
returns g c =
    let l = c.args.self.now in
    let one = its_sheet (g.E.Entries.listed l.entries) l.lawful in
    record { sheet = one; is = c.len.ensures ∙ ap length (sym one.flat) }
