-- Reading a flat form from the right gives the sheet back.
use Rattle.std.proofs.Common.{◌≡◌, suc, List, [], ◌∷◌, sym, refl, ap, ◌∙◌}
use Rattle.sheet.specs.Trees.{Trees, nil, name, mark, literal, group, size, then}
use Rattle.sheet.specs.Entries.{Entry, Group, Name, Mark, Literal, End, flat, entries, levels, levels_of, put, tree}
use Rattle.sheet.specs.Forms.{ReadBack, OneSheet, OwnSheet}

pub then_nil : {St : Type 0} (t : Trees St) → then t nil ≡ t
then_nil nil = refl
then_nil (name b s r) = ap (name b s) (then_nil r)
then_nil (mark c k s r) = ap (mark c k s) (then_nil r)
then_nil (literal b s r) = ap (literal b s) (then_nil r)
then_nil (group d w o c i r) = ap (group d w o c i) (then_nil r)

-- Reading the flat form of t, and then es, puts t before the level that es begins with.
pub levels_flat : {St : Type 0} (t u : Trees St) (ls : List (Trees St)) (es : List (Entry St)) → levels es ≡ levels_of u ls → levels (flat t es) ≡ levels_of (then t u) ls
levels_flat nil u ls es h = h
levels_flat (name b s r) u ls es h = ap (put (Name b s)) (levels_flat r u ls es h)
levels_flat (mark c k s r) u ls es h = ap (put (Mark c k s)) (levels_flat r u ls es h)
levels_flat (literal b s r) u ls es h = ap (put (Literal b s)) (levels_flat r u ls es h)
levels_flat (group d w o c i r) u ls es h =
    let inside = levels_flat i nil (then r u ∷ ls) (End (suc (size i)) ∷ flat r es) (ap (put (End (suc (size i)))) (levels_flat r u ls es h)) in
    ap (put (Group (suc (size i)) d w o c)) inside ∙ ap (λ v. levels_of (group d w o c v (then r u)) ls) (then_nil i)

pub read_back : {St : Type 0} → ReadBack St
read_back t = ap (λ l. l.inner) (levels_flat t nil (nil ∷ []) (End 0 ∷ []) refl) ∙ then_nil t

pub one_sheet : {St : Type 0} → OneSheet St
one_sheet t u e = sym (read_back t) ∙ (ap tree e ∙ read_back u)

pub own_sheet : {St : Type 0} → OwnSheet St
own_sheet es t e =
    let is : tree es ≡ t = ap tree (sym e) ∙ read_back t in (ap entries is ∙ e, is)
