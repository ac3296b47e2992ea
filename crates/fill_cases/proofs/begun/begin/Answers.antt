use Rattle.std.proofs.Common.{ℕ, List, Option, sym, refl, ap, ◌∙◌, subst}
use Rattle.std.specs.Option.{option_map}
use Rattle.notation.specs.Parts.{behind}
use Rattle.lines.specs.Beginnings.{Given, slots_given, filling_given}
use Rattle.fill_cases.specs.Steps.{bytes_given, Begins, BeginsPacked, BeginsTable, BeginsFilling}
use Rattle.fill_cases.specs.declared.answer.Answer.TheVariants.{Silent}
use Rattle.fill_cases.specs.declared.case.Case.TheVariants.{Filling}
use Rattle.fill_cases.specs.declared.verb.Verb.{Verb}
use Rattle.fill_cases.specs.declared.work.Work.{Work}
use Rattle.fill_cases.proofs.begun.begin.Goals as goal

pub returns-in_ok-bytes-in-Packed : goal.returns-in_ok-bytes-in-Packed
returns-in_ok-bytes-in-Packed c =
    let r = c.open_packed.result in
    let rest = sym c.first_part.ensures.after ∙ ap (option_map (λ x. x.now)) c.in_ok-ok_or-in-Packed.ensures.ok_part in
    let said = ap bytes_given rest ∙ c.in_ok-bytes-in-Packed.ensures in
    let body = subst (λ (o : Option (List ℕ)). BeginsPacked o r.0 r.1) (sym said) (c.in_ok-bytes-in-Packed.bytes, refl, c.open_packed.ensures) in
    subst (λ (v : Verb). Begins v (behind 32 c.args.question.now) r.0 r.1) (sym c.in-Packed.is ∙ c.asked-verb.ensures.verb) body

pub returns-in_ok-parts_of_slots_in-in-Slots : goal.returns-in_ok-parts_of_slots_in-in-Slots
returns-in_ok-parts_of_slots_in-in-Slots c =
    let r = c.open_table.result in
    let said = ap slots_given (sym c.asked-verb.ensures.rest) ∙ c.in_ok-parts_of_slots_in-in-Slots.ensures in
    let body = subst (λ (o : Option Given). BeginsTable o r.0 r.1) (sym said) (c.in_ok-parts_of_slots_in-in-Slots.field-0, refl, c.open_table.ensures) in
    subst (λ (v : Verb). Begins v (behind 32 c.args.question.now) r.0 r.1) (sym c.in-Slots.is ∙ c.asked-verb.ensures.verb) body

pub returns-in_ok-parts-in-Filling : goal.returns-in_ok-parts-in-Filling
returns-in_ok-parts-in-Filling c =
    let w : Work = record { filling = c.new-filling.result; parts = c.in_ok-parts-in-Filling.parts } in
    let said = ap filling_given (sym c.asked-verb.ensures.rest) ∙ c.in_ok-parts-in-Filling.ensures in
    let body = subst (λ (o : Option Given). BeginsFilling o (Filling w) Silent) (sym said) (w, refl, c.new-filling.ensures, (refl, refl)) in
    subst (λ (v : Verb). Begins v (behind 32 c.args.question.now) (Filling w) Silent) (sym c.in-Filling.is ∙ c.asked-verb.ensures.verb) body
