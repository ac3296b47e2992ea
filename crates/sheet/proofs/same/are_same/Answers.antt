use Rattle.std.proofs.Common.{sym, refl, ◌∙◌, arith}
use Rattle.std.proofs.lemmas.Bool.{false≢true}
use Rattle.sheet.proofs.Matches.{all_alike, alike_length, alike_at, unlike}
use Rattle.sheet.proofs.same.are_same.Goals as goal

pub returns-then-count : goal.returns-then-count
returns-then-count g c = unlike (λ h. c.if-count.true (c.count-count.ensures.is ∙ alike_length _ _ h ∙ sym c.count.ensures.is))

pub returns-then-not-same_entry : goal.returns-then-not-same_entry
returns-then-not-same_entry g c = let told = c.if-not-same_entry.ensures in unlike (λ h. false≢true (told.1 (alike_at (g.S.Store.sheet c.args.a.now) (g.T.Store.sheet c.args.b.now) c.loop-at.at h)))

pub returns : goal.returns
returns g c =
    (λ _. all_alike _ _ (sym c.count-count.ensures.is ∙ c.if-count.false ∙ c.count.ensures.is) (λ k m. c.loop-at.invariant k (omega (arith, m, c.count-count.ensures.is))), λ _. refl)
