-- A word that stands alone.
use Rattle.std.proofs.Common.{◌≡◌, ℕ, Bool, true, false, not, List, [], ◌∷◌, length, Some, None, Option, sym, refl, ap, ◌∙◌, arith, Bor}
use Rattle.std.specs.Bool.{then_some}
use Rattle.std.specs.Option.{is_some}
use Rattle.std.specs.Iterator.{YieldsFirstRef}
use Rattle.notation.specs.Parts.{front, behind, parts_left}
use Rattle.notation.proofs.Cuts.{split_law}
use Rattle.fill_cases.specs.Fills.{fill_question_said}
use Rattle.fill_cases.specs.Steps.{alone}
use Rattle.fill_cases.specs.declared.fills.FillQuestion.{FillQuestion}

pub alone_words : (q : FillQuestion) (rest : Option (List ℕ)) (next : Option (Bor (List ℕ))) (left : List (List ℕ)) (b : Bool) → YieldsFirstRef (λ (l : List (List ℕ)). l) (parts_left 32 rest) next left → is_some next ≡ not b → fill_question_said (then_some b q) ≡ alone (fill_question_said (Some q)) rest
alone_words q None None left true h e = refl
alone_words q None None left false h e = cc
alone_words q None (Some x) left b h e = let n = ap length h in absurd (omega arith)
alone_words q (Some text) None left b h e =
    let all : front 32 text ∷ parts_left 32 (behind 32 text) ≡ [] = sym (split_law 32 text) ∙ h.0 in
    let n = ap length all in absurd (omega arith)
alone_words q (Some text) (Some x) left true h e = cc
alone_words q (Some text) (Some x) left false h e = refl
