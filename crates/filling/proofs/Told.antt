-- What the calls so far tell.
use Rattle.std.proofs.Common.{◌≡◌, ℕ, List, [], ◌∷◌, ◌++◌, refl, ap, ◌∙◌, append_assoc}
use Rattle.sheet.specs.Trees.{Trees, nil, name, mark, literal, group, then}
use Rattle.filling.specs.Runs.{Tells}
use Rattle.filling.specs.declared.call.Call.{Call}
use Rattle.filling.specs.declared.call.Call.TheVariants.{Open, Close}
use Rattle.filling.proofs.Laid.{Frame, ended}

-- Calls that tell some trees, and then calls that tell others, tell both.
pub tells_then : (a b : List ℕ) (t u : Trees ℕ) (cs ds : List Call) → Tells a b t cs → Tells a b u ds → Tells a b (then t u) (cs ++ ds)
tells_then a b nil u cs ds h k = rw h k
tells_then a b (name x s r) u cs ds (q, rest, is, text, h) k = (q, rest ++ ds, ap (λ l. l ++ ds) is, text, tells_then a b r u rest ds h k)
tells_then a b (mark c j s r) u cs ds (rest, is, h) k = (rest ++ ds, ap (λ l. l ++ ds) is, tells_then a b r u rest ds h k)
tells_then a b (literal x s r) u cs ds (q, rest, is, text, h) k = (q, rest ++ ds, ap (λ l. l ++ ds) is, text, tells_then a b r u rest ds h k)
tells_then a b (group d w o c i r) u cs ds (inner, rest, is, hi, hr) k =
    (inner, rest ++ ds, ap (λ l. l ++ ds) is ∙ ap (λ l. Open d w o ∷ l) (append_assoc inner (Close c ∷ rest) ds), hi, tells_then a b r u rest ds hr k)

-- The calls so far: those that tell the trees before each open group, its `open`, and those that tell what is told of the innermost level.
abbrev pub Told : List ℕ → List ℕ → List Call → List Frame → Trees ℕ → Type 0
Told a b cs [] t = Tells a b t cs
Told a b cs (f ∷ fs) t =
    (outer : List Call) × (inner : List Call) × (cs ≡ outer ++ Open f.delimiter f.whole f.opening ∷ inner) × Told a b outer fs f.before × Tells a b t inner

pub told_then : (a b : List ℕ) (fs : List Frame) (t u : Trees ℕ) (cs ds : List Call) → Told a b cs fs t → Tells a b u ds → Told a b (cs ++ ds) fs (then t u)
told_then a b [] t u cs ds h k = tells_then a b t u cs ds h k
told_then a b (f ∷ fs) t u cs ds (outer, inner, is, ho, hi) k =
    (outer, inner ++ ds, ap (λ l. l ++ ds) is ∙ append_assoc outer (Open f.delimiter f.whole f.opening ∷ inner) ds, ho, tells_then a b t u inner ds hi k)

pub told_open : (a b : List ℕ) (fs : List Frame) (t : Trees ℕ) (d w o : ℕ) (cs : List Call) → Told a b cs fs t → Told a b (cs ++ Open d w o ∷ []) (record { before = t; delimiter = d; whole = w; opening = o } ∷ fs) nil
told_open a b fs t d w o cs h = (cs, [], refl, h, refl)

pub told_close : (a b : List ℕ) (f : Frame) (fs : List Frame) (t : Trees ℕ) (c : ℕ) (cs : List Call) → Told a b cs (f ∷ fs) t → Told a b (cs ++ Close c ∷ []) fs (then f.before (ended f c t))
told_close a b f fs t c cs (outer, inner, is, ho, hi) =
    rw (is, append_assoc outer (Open f.delimiter f.whole f.opening ∷ inner) (Close c ∷ [])) (told_then a b fs f.before (ended f c t) outer _ ho (inner, [], refl, hi, refl))
