-- One turn of the judge's walk.
use Rattle.std.specs.Prelude.{Option, Result}
use Rattle.std.proofs.Common.{◌≡◌, ℕ, suc, ◌+◌, ◌<◌, ◌≤◌, true, false, cond, leb, List, [], ◌∷◌, length, drop, sym, refl, ap, ◌∙◌, add-one, arith, length-drop}
use Rattle.std.proofs.lemmas.List.{drop_all}
use Rattle.std.proofs.lemmas.Bool.Decides.{nat_tests}
use Rattle.sheet.specs.Entries.{Entry, at}
use Rattle.sheet.proofs.Places.{drop_at}
use Rattle.rules.specs.Looks.{look_of}
use Rattle.rules.specs.Walks.{next_of}
use Rattle.rules.specs.declared.walk.Next.{Next as Said}
use Rattle.rules.specs.Rules.{Verdict, lawful, offending, Walk, walk, Next, on, done, bad, step, after, judge, verdict}
use Rattle.sheet.specs.declared.fault.Rule.{Rule}
use Rattle.sheet.specs.declared.fault.Rule.TheVariants.{TooMany, EndTooEarly, EndMissing}
use Rattle.rules.specs.declared.look.Look.{Look}

-- Judging the entries es comes to judging, from w on, those that are left at place p.
abbrev pub SoFar : {St : Type 0} → List (Entry St) → Walk → ℕ → Type 0
SoFar es w p = judge (walk false []) 0 es ≡ judge w p (drop p es)

-- what a step answers, where the answer is known
pub said : {r s : Result Said Rule} {n : Next} (v : Walk) → next_of r v ≡ n → r ≡ s → next_of s v ≡ n
said v told is = ap (λ x. next_of x v) (sym is) ∙ told

-- what the entry at place p leads to
turn : {St : Type 0} (es : List (Entry St)) (w : Walk) (p : ℕ) (l : Option Look) (n : Next) → SoFar es w p → p < length es → l ≡ look_of (at es p) → n ≡ step w p l → judge (walk false []) 0 es ≡ after n p (drop (suc p) es) (λ v. judge v (suc p) (drop (suc p) es))
turn es w p l n so within looked stepped =
    so ∙ ap (judge w p) (drop_at es p within) ∙ ap (λ m. after m p (drop (suc p) es) (λ v. judge v (suc p) (drop (suc p) es))) (ap (step w p) (sym looked) ∙ sym stepped)

pub goes_on : {St : Type 0} (es : List (Entry St)) (w v : Walk) (p : ℕ) (l : Option Look) → SoFar es w p → p < length es → l ≡ look_of (at es p) → on v ≡ step w p l → SoFar es v (p + 1)
goes_on es w v p l so within looked stepped = rw add-one (turn es w p l (on v) so within looked stepped)

pub offends : {St : Type 0} (es : List (Entry St)) (w : Walk) (p : ℕ) (l : Option Look) (rule : Rule) → SoFar es w p → p < length es → l ≡ look_of (at es p) → bad rule ≡ step w p l → offending p rule ≡ judge (walk false []) 0 es
offends es w p l rule so within looked stepped = sym (turn es w p l (bad rule) so within looked stepped)

pub ends : {St : Type 0} (es : List (Entry St)) (w : Walk) (p : ℕ) (l : Option Look) → SoFar es w p → p + 1 ≡ length es → l ≡ look_of (at es p) → done ≡ step w p l → lawful ≡ judge (walk false []) 0 es
ends es w p l so last looked stepped =
    let go : Walk → Verdict = λ v. judge v (suc p) (drop (suc p) es) in
    sym (turn es w p l done so (omega arith) looked stepped ∙ ap (λ r. after done p r go) (drop_all (suc p) es (omega arith)))

too_early : {St : Type 0} (es : List (Entry St)) (p : ℕ) (go : Walk → Verdict) → 0 < length es → after done p es go ≡ offending p EndTooEarly
too_early [] p go h = absurd (omega arith)
too_early (e ∷ es) p go h = refl

pub ends_early : {St : Type 0} (es : List (Entry St)) (w : Walk) (p : ℕ) (l : Option Look) → SoFar es w p → p < length es → (p + 1 ≡ length es → ⊥) → l ≡ look_of (at es p) → done ≡ step w p l → offending p EndTooEarly ≡ judge (walk false []) 0 es
ends_early es w p l so within more looked stepped =
    let n = length-drop (suc p) es in
    sym (turn es w p l done so within looked stepped ∙ too_early (drop (suc p) es) p _ (omega arith))

pub runs_out : {St : Type 0} (es : List (Entry St)) (w : Walk) (p n : ℕ) → SoFar es w p → n ≡ length es → n ≤ p → p ≤ n → offending n EndMissing ≡ judge (walk false []) 0 es
runs_out es w p n so all low high =
    let e : n ≡ p = omega arith in
    ap (λ k. offending k EndMissing) e ∙ sym (so ∙ ap (judge w p) (drop_all p es (omega arith)))

pub verdict_is : {St : Type 0} (es : List (Entry St)) (n : ℕ) → n ≡ length es → n ≤ 65535 → judge (walk false []) 0 es ≡ verdict es
verdict_is es n all few =
    let t : leb (length es) 65535 ≡ true = grind (arith, nat_tests) in
    sym (ap (λ b. cond b (judge (walk false []) 0 es) (offending 0 TooMany)) t)
