-- What stands at a place of a list of entries.
use Rattle.std.proofs.Common.{◌≡◌, ℕ, zero, suc, ◌+◌, ◌<◌, ◌≤◌, List, [], ◌∷◌, ◌++◌, length, drop, sym, refl, ap, ◌∙◌, arith}
use Rattle.std.proofs.lemmas.List.{drop_all, drop-drop}
use Rattle.sheet.specs.Trees.{Trees, nil, name, mark, literal, group, size}
use Rattle.sheet.specs.Entries.{Entry, Group, Name, Mark, Literal, End, Nothing, flat, first, at}

pub drop_at : {St : Type 0} (es : List (Entry St)) (p : ℕ) → p < length es → drop p es ≡ at es p ∷ drop (suc p) es
drop_at [] p h = absurd (omega arith)
drop_at (e ∷ es) zero h = refl
drop_at (e ∷ es) (suc p) h = drop_at es p (omega arith)

pub at_past : {St : Type 0} (es : List (Entry St)) (p : ℕ) → length es ≤ p → at es p ≡ Nothing
at_past es p h = ap first (drop_all p es h)

-- Behind the flat form of some trees.
pub drop_flat : {St : Type 0} (t : Trees St) (ks : List (Entry St)) → drop (size t) (flat t ks) ≡ ks
drop_flat nil ks = refl
drop_flat (name b s r) ks = drop_flat r ks
drop_flat (mark c k s r) ks = drop_flat r ks
drop_flat (literal b s r) ks = drop_flat r ks
drop_flat (group d w o c i r) ks =
    sym (drop-drop (suc (size r)) (size i) (flat i (End (suc (size i)) ∷ flat r ks)))
    ∙ (ap (drop (suc (size r))) (drop_flat i (End (suc (size i)) ∷ flat r ks)) ∙ drop_flat r ks)

pub length_flat : {St : Type 0} (t : Trees St) (es : List (Entry St)) → length (flat t es) ≡ size t + length es
length_flat nil es = omega arith
length_flat (name b s r) es = let e = length_flat r es in omega arith
length_flat (mark c k s r) es = let e = length_flat r es in omega arith
length_flat (literal b s r) es = let e = length_flat r es in omega arith
length_flat (group d w o c i r) es = let e = length_flat i (End (suc (size i)) ∷ flat r es) in let f = length_flat r es in omega arith

-- Among trees it does not matter what follows them.
pub flat_append : {St : Type 0} (t : Trees St) (xs ys : List (Entry St)) → flat t (xs ++ ys) ≡ flat t xs ++ ys
flat_append nil xs ys = refl
flat_append (name b s r) xs ys = ap (λ l. Name b s ∷ l) (flat_append r xs ys)
flat_append (mark c k s r) xs ys = ap (λ l. Mark c k s ∷ l) (flat_append r xs ys)
flat_append (literal b s r) xs ys = ap (λ l. Literal b s ∷ l) (flat_append r xs ys)
flat_append (group d w o c i r) xs ys =
    ap (λ l. Group (suc (size i)) d w o c ∷ l) (ap (λ l. flat i (End (suc (size i)) ∷ l)) (flat_append r xs ys) ∙ flat_append i (End (suc (size i)) ∷ flat r xs) ys)
