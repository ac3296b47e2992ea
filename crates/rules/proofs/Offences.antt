-- The place that a verdict names is the first to offend.
use Rattle.std.specs.Prelude.{Ok, Err}
use Rattle.std.proofs.Common.{◌≡◌, ℕ, zero, suc, ◌+◌, ◌<◌, ◌≤◌, false, cond, List, [], ◌∷◌, ◌++◌, length, take, sym, refl, ap, ◌∙◌, ⊎_elim, arith, length-take}
use Rattle.std.proofs.lemmas.Bool.{cases_lt, lt-leb}
use Rattle.sheet.specs.Entries.{Entry}
use Rattle.rules.specs.Looks.{look_of}
use Rattle.rules.specs.Rules.{Verdict, lawful, offending, Walk, walk, Next, on, done, bad, step, after, judge, verdict}
use Rattle.rules.specs.Verdicts.{FirstOffence}
use Rattle.sheet.specs.declared.fault.Rule.{Rule}
use Rattle.sheet.specs.declared.fault.Rule.TheVariants.{TooMany, EndMissing}
use Rattle.rules.proofs.Judging.{verdict_is}

-- The judge names a place and a rule; from them the place can be read again.
abbrev place_in : ℕ → Verdict → ℕ
place_in p (Ok u) = p
place_in p (Err o) = o.place

same_place : (p n : ℕ) (q r : Rule) → ◌≡◌ {A = Verdict} (offending p q) (offending n r) → p ≡ n
same_place p n q r e = ap (place_in p) e

never : {A : Type 0} (n : ℕ) (r : Rule) → lawful ≡ offending n r → A
never n r e = let z : ◌≡◌ {A = ℕ} 0 1 = cc in absurd (omega arith)

-- The judge never names a place that it has passed.
passed : {St : Type 0} (m : Next) (p n : ℕ) (r : Rule) (es : List (Entry St)) → ((v : Walk) → judge v (suc p) es ≡ offending n r → suc p ≤ n) → after m p es (λ v. judge v (suc p) es) ≡ offending n r → p ≤ n
passed (on v) p n r es further h = let l = further v h in omega arith
passed done p n r [] further h = never n r h
passed done p n r (e ∷ es) further h = let q = same_place p n _ _ h in omega arith
passed (bad rule) p n r es further h = let q = same_place p n _ _ h in omega arith

not_earlier : {St : Type 0} (w : Walk) (p n : ℕ) (r : Rule) (es : List (Entry St)) → judge w p es ≡ offending n r → p ≤ n
not_earlier w p n r [] h = let q = same_place p n _ _ h in omega arith
not_earlier w p n r (e ∷ es) h = passed (step w p (look_of e)) p n r es (λ v. not_earlier v (suc p) n r es) h

-- What holds of the judge further on holds of it here, where the offence lies further on.
onward : {St : Type 0} (m : Next) (p n : ℕ) (r s : Rule) (es ys : List (Entry St)) → p < n → ((v : Walk) → judge v (suc p) es ≡ offending n r → judge v (suc p) ys ≡ offending n s) → after m p es (λ v. judge v (suc p) es) ≡ offending n r → after m p ys (λ v. judge v (suc p) ys) ≡ offending n s
onward (on v) p n r s es ys less further h = further v h
onward done p n r s [] ys less further h = never n r h
onward done p n r s (e ∷ es) ys less further h = let q = same_place p n _ _ h in absurd (omega arith)
onward (bad rule) p n r s es ys less further h = let q = same_place p n _ _ h in absurd (omega arith)

-- Of entries that offend at place n, those before it have no fault but their missing End.
begun : {St : Type 0} (w : Walk) (p k n : ℕ) (r : Rule) (es : List (Entry St)) → n ≡ p + k → judge w p es ≡ offending n r → judge w p (take k es) ≡ offending n EndMissing
begun w p zero n r es far h = let e : p ≡ n = omega arith in ap (λ m. offending m EndMissing) e
begun w p (suc k) n r [] far h = let q = same_place p n _ _ h in absurd (omega arith)
begun w p (suc k) n r (e ∷ es) far h = onward (step w p (look_of e)) p n r EndMissing es (take k es) (omega arith) (λ v. begun v (suc p) k n r es (omega arith)) h

-- The entry that offends does so whatever follows.
offends_now : {St : Type 0} (m : Next) (p : ℕ) (r : Rule) (es more : List (Entry St)) → 0 < length more → after m p es (λ v. judge v (suc p) es) ≡ offending p r → after m p more (λ v. judge v (suc p) more) ≡ offending p r
offends_now (on v) p r es more some h = let l = not_earlier v (suc p) p r es h in absurd (omega arith)
offends_now done p r es [] some h = absurd (omega arith)
offends_now done p r [] (x ∷ more) some h = never p r h
offends_now done p r (e ∷ es) (x ∷ more) some h = h
offends_now (bad rule) p r es more some h = h

stands : {St : Type 0} (w : Walk) (p k n : ℕ) (r : Rule) (es more : List (Entry St)) → n ≡ p + k → k < length es → 0 < length more → judge w p es ≡ offending n r → judge w p (take (suc k) es ++ more) ≡ offending n r
stands w p k n r [] more far within some h = absurd (omega arith)
stands w p zero n r (e ∷ es) more far within some h =
    let q : n ≡ p = omega arith in
    offends_now (step w p (look_of e)) p r es more some (h ∙ ap (λ m. offending m r) q) ∙ ap (λ m. offending m r) (sym q)
stands w p (suc k) n r (e ∷ es) more far within some h =
    onward (step w p (look_of e)) p n r r es (take (suc k) es ++ more) (omega arith) (λ v. stands v (suc p) k n r es more (omega arith) (omega arith) some) h

judged : {St : Type 0} (es : List (Entry St)) → length es ≤ 65535 → verdict es ≡ judge (walk false []) 0 es
judged es few = sym (verdict_is es (length es) refl few)

within_limit : {St : Type 0} (es : List (Entry St)) (n : ℕ) (r : Rule) → length es ≤ 65535 → verdict es ≡ offending n r → FirstOffence es n r
within_limit es n r few h =
    let j = sym (judged es few) ∙ h in
    let l = length-take n es in
    record {
      before = judged (take n es) (omega arith) ∙ begun (walk false []) 0 n n r es (omega arith) j;
      there = λ _ within more some short. judged (take (suc n) es ++ more) short ∙ stands (walk false []) 0 n n r es more (omega arith) within some j;
    }

too_many : {St : Type 0} (es : List (Entry St)) (n : ℕ) (r : Rule) → 65535 < length es → verdict es ≡ offending n r → FirstOffence es n r
too_many es n r many h =
    let z : 0 ≡ n = same_place 0 n _ r (sym (ap (λ b. cond b (judge (walk false []) 0 es) (offending 0 TooMany)) (lt-leb _ _ many)) ∙ h) in
    record { before = ap (λ k. verdict (take k es)) (sym z) ∙ ap (λ m. offending m EndMissing) z; there = λ few _ more _ _. absurd (omega arith) }

pub first_offence : {St : Type 0} (es : List (Entry St)) (n : ℕ) (r : Rule) → verdict es ≡ offending n r → FirstOffence es n r
first_offence es n r h = ⊎_elim (λ many. too_many es n r many h) (λ few. within_limit es n r few h) (cases_lt 65535 (length es))
