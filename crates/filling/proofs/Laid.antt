-- The entries that are written while groups are open.
use Rattle.std.proofs.Common.{◌≡◌, ℕ, suc, ◌+◌, List, [], ◌∷◌, ◌++◌, length, sym, refl, ap, ◌∙◌, append_assoc, arith, length-append}
use Rattle.sheet.specs.Trees.{Trees, nil, name, mark, literal, group, size, then}
use Rattle.sheet.specs.Entries.{Entry, Group, Name, Mark, Literal, End, flat}
use Rattle.sheet.proofs.Places.{flat_append, length_flat}

pub flat_then : {St : Type 0} (t u : Trees St) (es : List (Entry St)) → flat (then t u) es ≡ flat t (flat u es)
flat_then nil u es = refl
flat_then (name b s r) u es = ap (λ l. Name b s ∷ l) (flat_then r u es)
flat_then (mark c k s r) u es = ap (λ l. Mark c k s ∷ l) (flat_then r u es)
flat_then (literal b s r) u es = ap (λ l. Literal b s ∷ l) (flat_then r u es)
flat_then (group d w o c i r) u es = ap (λ l. Group (suc (size i)) d w o c ∷ flat i (End (suc (size i)) ∷ l)) (flat_then r u es)

-- A group that is open: the trees before it in its level, its delimiter, and its whole and opening stamp.
pub record Frame : Type 0 where
  pub before : Trees ℕ
  pub delimiter : ℕ
  pub whole : ℕ
  pub opening : ℕ

-- The Group of an open group: its distance and closing stamp are not known.
abbrev pub begun : Frame → Entry ℕ
begun f = Group 0 f.delimiter f.whole f.opening 0

-- The group once it is closed.
abbrev pub ended : Frame → ℕ → Trees ℕ → Trees ℕ
ended f c t = group f.delimiter f.whole f.opening c t nil

-- The entries written while the groups fs are open, innermost first, and t is told of the innermost level.
abbrev pub laid : List Frame → Trees ℕ → List (Entry ℕ)
laid [] t = flat t []
laid (f ∷ fs) t = laid fs f.before ++ begun f ∷ flat t []

-- More trees of the innermost level stand behind all that is written.
pub laid_then : (fs : List Frame) (t u : Trees ℕ) → laid fs (then t u) ≡ laid fs t ++ flat u []
laid_then [] t u = flat_then t u [] ∙ flat_append t [] (flat u [])
laid_then (f ∷ fs) t u =
    ap (λ l. laid fs f.before ++ begun f ∷ l) (flat_then t u [] ∙ flat_append t [] (flat u [])) ∙ sym (append_assoc (laid fs f.before) (begun f ∷ flat t []) (flat u []))

-- Closing the innermost group completes its Group where it stands, and adds its End.
pub laid_closed : (f : Frame) (fs : List Frame) (c : ℕ) (t : Trees ℕ) → laid fs (then f.before (ended f c t)) ≡ (laid fs f.before ++ Group (suc (size t)) f.delimiter f.whole f.opening c ∷ flat t []) ++ End (suc (size t)) ∷ []
laid_closed f fs c t =
    laid_then fs f.before (ended f c t)
    ∙ ap (λ l. laid fs f.before ++ Group (suc (size t)) f.delimiter f.whole f.opening c ∷ l) (flat_append t [] (End (suc (size t)) ∷ []))
    ∙ sym (append_assoc (laid fs f.before) (Group (suc (size t)) f.delimiter f.whole f.opening c ∷ flat t []) (End (suc (size t)) ∷ []))

pub length_laid : (f : Frame) (fs : List Frame) (t : Trees ℕ) → length (laid (f ∷ fs) t) ≡ length (laid fs f.before) + suc (size t)
length_laid f fs t = omega (arith, length-append (laid fs f.before) (begun f ∷ flat t []), length_flat t [])
