-- Calls tell at most one sheet: it is read back from them, from the last to the first.
use Rattle.std.proofs.Common.{◌≡◌, ℕ, List, [], ◌∷◌, ◌++◌, sym, ap, ◌∙◌, append_assoc, append-nil}
use Rattle.sheet.specs.Trees.{Trees, nil, name, mark, literal, group, then}
use Rattle.sheet.proofs.Forms.{then_nil}
use Rattle.table.specs.Texts.{text_at}
use Rattle.filling.specs.Runs.{Tells, OneTelling}
use Rattle.filling.specs.declared.call.Call.{Call}
use Rattle.filling.specs.declared.call.Call.TheVariants.{Name, Mark, Literal, Open, Close, Seal}

-- A group that is closed but not yet opened, from the right: its closing stamp, and the trees behind it.
record Behind : Type 0 where
  closing : ℕ
  rest : Trees ℕ

-- The trees of the innermost level, and the groups around it.
record Levels : Type 0 where
  inner : Trees ℕ
  outer : List Behind

abbrev levels_of : Trees ℕ → List Behind → Levels
levels_of t ls = record { inner = t; outer = ls }

abbrev opened : ℕ → ℕ → ℕ → Trees ℕ → List Behind → Levels
opened d w o i [] = levels_of i []
opened d w o i (b ∷ ls) = levels_of (group d w o b.closing i b.rest) ls

-- `close` begins a level, which its `open` ends.
abbrev put : List ℕ → List ℕ → Call → Levels → Levels
put a b (Name q s) l = levels_of (name (text_at a b q) s l.inner) l.outer
put a b (Mark c k s) l = levels_of (mark c k s l.inner) l.outer
put a b (Literal q s) l = levels_of (literal (text_at a b q) s l.inner) l.outer
put a b (Open d w o) l = opened d w o l.inner l.outer
put a b (Close c) l = levels_of nil (record { closing = c; rest = l.inner } ∷ l.outer)
put a b Seal l = l

abbrev read_back : List ℕ → List ℕ → List Call → Levels
read_back a b [] = levels_of nil []
read_back a b (c ∷ cs) = put a b c (read_back a b cs)

-- Trees in front of the innermost level.
abbrev ahead : Trees ℕ → Levels → Levels
ahead t l = levels_of (then t l.inner) l.outer

reads_back : (a b : List ℕ) (t : Trees ℕ) (cs more : List Call) → Tells a b t cs → read_back a b (cs ++ more) ≡ ahead t (read_back a b more)
reads_back a b nil cs more is = rw is
reads_back a b (name x s r) cs more (q, rest, is, text, h) = rw (is, ← text) (ap (put a b (Name q s)) (reads_back a b r rest more h))
reads_back a b (mark c k s r) cs more (rest, is, h) = rw is (ap (put a b (Mark c k s)) (reads_back a b r rest more h))
reads_back a b (literal x s r) cs more (q, rest, is, text, h) = rw (is, ← text) (ap (put a b (Literal q s)) (reads_back a b r rest more h))
reads_back a b (group d w o c i r) cs more (inner, rest, is, hi, hr) =
    let last : Levels = read_back a b more in
    let behind : Behind = record { closing = c; rest = then r last.inner } in
    let within : read_back a b ((inner ++ Close c ∷ rest) ++ more) ≡ levels_of i (behind ∷ last.outer)
    = ap (read_back a b) (append_assoc inner (Close c ∷ rest) more)
    ∙ reads_back a b i inner (Close c ∷ (rest ++ more)) hi
    ∙ ap (λ l. ahead i (put a b (Close c) l)) (reads_back a b r rest more hr)
    ∙ ap (λ t. levels_of t (behind ∷ last.outer)) (then_nil i) in
    rw is (ap (put a b (Open d w o)) within)

own_sheet : (a b : List ℕ) (t : Trees ℕ) (cs : List Call) → Tells a b t cs → (read_back a b cs).inner ≡ t
own_sheet a b t cs h = ap (λ l. (read_back a b l).inner) (sym (append-nil cs)) ∙ ap (λ (l : Levels). l.inner) (reads_back a b t cs [] h) ∙ then_nil t

pub one_telling : (a b : List ℕ) → OneTelling a b
one_telling a b t u cs h k = sym (own_sheet a b t cs h) ∙ own_sheet a b u cs k
