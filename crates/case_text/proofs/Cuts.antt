-- Where ` = ` stands in a line.
use Rattle.std.proofs.Common.{ℕ, ◌+◌, List, ◌++◌, length, take, drop, Some, None, codes, sym, refl, ap, ◌∙◌, length-drop, length-take-le, take-append-drop, arith}
use Rattle.bstr.specs.Find.{OccursAt, FindsLastNeedle}
use Rattle.memchr.proofs.lemmas.MatchLemmas.{OccursAt-split, OccursAt-from_part}
use Rattle.case_text.specs.Questions.{CutAt, QuestionOf, whole, cut}

occurs : (line : List ℕ) (k : ℕ) → CutAt line k → OccursAt line (codes " = ") k
occurs line k w =
    let long = ap length w.1 in
    let left = length-drop k line in
    OccursAt-from_part line (codes " = ") k (omega arith) (ap (take 3) w.1)

pub no_cut : (line : List ℕ) → FindsLastNeedle line (codes " = ") None → QuestionOf line line
no_cut line none =
    whole refl (λ k w. let o = occurs line k w in none k (omega arith) (omega (arith, o.fits)) o)

pub last_cut : (line : List ℕ) (at : ℕ) → FindsLastNeedle line (codes " = ") (Some at) → QuestionOf line (take at line)
last_cut line at (last, here) =
    let long = length-take-le at line (omega (arith, here.fits)) in
    cut
    (drop (at + 3) line)
    (sym (take-append-drop at line) ∙ ap (λ r. take at line ++ r) (OccursAt-split line (codes " = ") at here))
    (λ k behind w. let o = occurs line k w in last.after k (omega arith) (omega (arith, o.fits)) o)
