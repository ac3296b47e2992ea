use Rattle.std.proofs.Common.{sym, ap, ◌∙◌, subst, List, ℕ}
use Rattle.std.specs.Iterator.{YieldsFirstRef}
use Rattle.notation.specs.Calls.{call_of}
use Rattle.notation.specs.Parts.{behind}
use Rattle.fill_cases.specs.Fills.{fill_question_said}
use Rattle.fill_cases.specs.Steps.{fill_asked_by}
use Rattle.fill_cases.specs.declared.fills.FillQuestion.TheVariants.{Show, Read}
use Rattle.fill_cases.proofs.Alone.{alone_words}
use Rattle.fill_cases.proofs.fills.fill_question.Goals as goal

pub returns-in-Table : goal.returns-in-Table
returns-in-Table c =
    let q = c.args.question.now in
    let asked = c.asked-verb.ensures in
    ap fill_question_said c.then_some.ensures
    ∙ alone_words Show (behind 32 q) c.next.result _ _ (subst (λ (l : List (List ℕ)). YieldsFirstRef (λ (k : List (List ℕ)). k) l c.next.result c.next.new.self) asked.rest c.next.ensures.steps) c.is_none.ensures
    ∙ ap (λ v. fill_asked_by v (behind 32 q) (call_of q)) (sym c.in-Table.is ∙ asked.verb)

pub returns-in-Read : goal.returns-in-Read
returns-in-Read c =
    let q = c.args.question.now in
    let asked = c.asked-verb.ensures in
    ap fill_question_said c.then_some-in-Read.ensures
    ∙ alone_words Read (behind 32 q) c.next-in-Read.result _ _ (subst (λ (l : List (List ℕ)). YieldsFirstRef (λ (k : List (List ℕ)). k) l c.next-in-Read.result c.next-in-Read.new.self) asked.rest c.next-in-Read.ensures.steps) c.is_none-in-Read.ensures
    ∙ ap (λ v. fill_asked_by v (behind 32 q) (call_of q)) (sym c.in-Read.is ∙ asked.verb)
