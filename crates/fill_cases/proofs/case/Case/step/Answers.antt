use Rattle.std.proofs.Common.{ℕ, Option, refl, subst}
use Rattle.packed.specs.Opening.{sheet_of as packed_sheet}
use Rattle.table.specs.Opening.{sheet_of as table_sheet}
use Rattle.fill_cases.specs.Steps.{StepsStore}
use Rattle.fill_cases.proofs.case.Case.step.Goals as goal

pub returns-in-Packed : goal.returns-in-Packed
returns-in-Packed c =
    let r = c.step-store.result in
    rw c.in-Packed.is (r.0, refl, subst (λ (o : Option ℕ). StepsStore packed_sheet c.in-Packed.store o r.0 r.1) c.inside_place.ensures c.step-store.ensures)

pub returns-in-Table : goal.returns-in-Table
returns-in-Table c =
    let r = c.step-store-in-Table.result in
    rw c.in-Table.is (r.0, refl, subst (λ (o : Option ℕ). StepsStore table_sheet c.in-Table.store o r.0 r.1) c.inside_place-in-Table.ensures c.step-store-in-Table.ensures)
