use Rattle.std.proofs.Common.{Some, take, vec_items, sym, refl, ap, ◌∙◌, subst}
use Rattle.table.specs.declared.parts.Parts.{Parts}
use Rattle.fill_cases.specs.Fills.{fill_question_said}
use Rattle.fill_cases.specs.Steps.{FillQuestionSaid, StepsFilling}
use Rattle.fill_cases.specs.declared.answer.Answer.TheVariants.{Silent}
use Rattle.fill_cases.specs.declared.case.Case.TheVariants.{Filling}
use Rattle.fill_cases.specs.declared.work.Work.{Work}
use Rattle.fill_cases.proofs.fills.fill_step.Goals as goal

pub returns-in-Some-Call : goal.returns-in-Some-Call
returns-in-Some-Call c =
    let said = ap (λ q. fill_question_said (Some q)) (sym c.in-Some-Call.field-0-is) ∙ c.in-Some-Call.ensures in
    subst (λ (q : FillQuestionSaid). StepsFilling c.args.work q (Filling c.put-answer.new.work) c.put-answer.result) said (c.put-answer.new.work, refl, c.put-answer.ensures)

pub returns-in-Some-Cut : goal.returns-in-Some-Cut
returns-in-Some-Cut c =
    let w = c.args.work in
    let v : Work = record { filling = w.filling; parts = record { entries = c.truncate.new.self; sheet = w.parts.sheet; template = w.parts.template } } in
    let said = ap (λ q. fill_question_said (Some q)) (sym c.in-Some-Cut.field-0-is) ∙ c.in-Some-Cut.ensures in
    subst (λ (q : FillQuestionSaid). StepsFilling w q (Filling v) Silent) said (v, refl, record { entries = c.truncate.ensures.items; sheet = refl; template = refl }, (refl, refl))

pub returns-in-Some-Read : goal.returns-in-Some-Read
returns-in-Some-Read c =
    let w = c.args.work in
    let p : Parts = record { entries = c.truncate-in-Some-Read.new.self; sheet = w.parts.sheet; template = w.parts.template } in
    let first = c.truncate-in-Some-Read.ensures.items ∙ ap (λ n. take n (vec_items w.parts.entries)) c.written.ensures.is in
    let said = ap (λ q. fill_question_said (Some q)) (sym c.in-Some-Read.field-0-is) ∙ c.in-Some-Read.ensures in
    subst (λ (q : FillQuestionSaid). StepsFilling w q c.open_table.result.0 c.open_table.result.1) said (p, record { entries = first; sheet = refl; template = refl }, c.open_table.ensures)
