-- Words spell at most one sheet: it is read back from them, from the last to the first.
use Rattle.std.proofs.Common.{◌≡◌, ℕ, suc, ◌+◌, ◌*◌, List, [], ◌∷◌, ◌++◌, Some, None, Option, sym, ap, ◌∙◌, append_assoc, append-nil, arith}
use Rattle.sheet.specs.Trees.{Trees, nil, name, mark, literal, group, size, then}
use Rattle.sheet.specs.Entries.{Levels, levels_of, grouped}
use Rattle.sheet.proofs.Forms.{then_nil}
use Rattle.notation.specs.Tokens.{Piece, token_of, opening, closing, name as name_token, mark as mark_token, literal as literal_token}
use Rattle.spelled.specs.Spelling.{Spelled, OneSpelling}

-- A closing bracket begins a level, which its opening bracket ends.
abbrev put_word : ℕ → Option Piece → Levels ℕ → Levels ℕ
put_word p None l = l
put_word p (Some (name_token b)) l = levels_of (name b (4 * p + 1) l.inner) l.outer
put_word p (Some (literal_token b)) l = levels_of (literal b (4 * p + 1) l.inner) l.outer
put_word p (Some (mark_token c k)) l = levels_of (mark c k (4 * p + 1) l.inner) l.outer
put_word p (Some (opening d)) l = grouped d (4 * p + 4) (4 * p + 2) (4 * p + 3) l.inner l.outer
put_word p (Some (closing d)) l = levels_of nil (l.inner ∷ l.outer)

abbrev read_back : ℕ → List (List ℕ) → Levels ℕ
read_back p [] = levels_of nil []
read_back p (w ∷ ws) = put_word p (token_of w) (read_back (p + 1) ws)

-- Trees in front of the innermost level.
abbrev ahead : Trees ℕ → Levels ℕ → Levels ℕ
ahead t l = levels_of (then t l.inner) l.outer

first_word : (p : ℕ) (ws rest back : List (List ℕ)) (w : List ℕ) (x : Piece) → ws ≡ w ∷ rest → token_of w ≡ Some x → read_back p (ws ++ back) ≡ put_word p (Some x) (read_back (p + 1) (rest ++ back))
first_word p ws rest back w x is token = ap (λ l. read_back p (l ++ back)) is ∙ ap (λ t. put_word p t (read_back (p + 1) (rest ++ back))) token

from : (p q : ℕ) (t : Trees ℕ) (ws : List (List ℕ)) → p ≡ q → ahead t (read_back p ws) ≡ ahead t (read_back q ws)
from p q t ws e = ap (λ n. ahead t (read_back n ws)) e

reads_back : (t : Trees ℕ) (p : ℕ) (front back : List (List ℕ)) → Spelled p t front → read_back p (front ++ back) ≡ ahead t (read_back (p + size t) back)
reads_back nil p front back is = let e : p ≡ p + 0 = omega arith in ap (λ l. read_back p (l ++ back)) is ∙ ap (λ n. read_back n back) e
reads_back (name b s r) p front back (w, rest, is, token, stamp, more) =
    first_word p front rest back w (name_token b) is token
    ∙ ap (put_word p (Some (name_token b))) (reads_back r (p + 1) rest back more)
    ∙ ap (λ k. ahead (name b k r) (read_back (p + 1 + size r) back)) (sym stamp)
    ∙ from (p + 1 + size r) (p + suc (size r)) (name b s r) back (omega arith)
reads_back (mark c k s r) p front back (w, rest, is, token, stamp, more) =
    first_word p front rest back w (mark_token c k) is token
    ∙ ap (put_word p (Some (mark_token c k))) (reads_back r (p + 1) rest back more)
    ∙ ap (λ n. ahead (mark c k n r) (read_back (p + 1 + size r) back)) (sym stamp)
    ∙ from (p + 1 + size r) (p + suc (size r)) (mark c k s r) back (omega arith)
reads_back (literal b s r) p front back (w, rest, is, token, stamp, more) =
    first_word p front rest back w (literal_token b) is token
    ∙ ap (put_word p (Some (literal_token b))) (reads_back r (p + 1) rest back more)
    ∙ ap (λ k. ahead (literal b k r) (read_back (p + 1 + size r) back)) (sym stamp)
    ∙ from (p + 1 + size r) (p + suc (size r)) (literal b s r) back (omega arith)
reads_back (group d w o c i r) p front back (x, inner, y, rest, is, opens, closes, whole, opening-stamp, closing-stamp, hi, hr) =
    let e : p + 1 + size i + 1 ≡ p + 2 + size i = omega arith in
    let last : Levels ℕ = read_back (p + 2 + size i + size r) back in
    let behind : read_back (p + 1 + size i) (y ∷ (rest ++ back)) ≡ put_word (p + 1 + size i) (Some (closing d)) (ahead r last) =
    ap (λ t. put_word (p + 1 + size i) t (read_back (p + 1 + size i + 1) (rest ++ back))) closes
    ∙ ap (λ n. put_word (p + 1 + size i) (Some (closing d)) (read_back n (rest ++ back))) e
    ∙ ap (put_word (p + 1 + size i) (Some (closing d))) (reads_back r (p + 2 + size i) rest back hr) in
    let within : read_back (p + 1) ((inner ++ y ∷ rest) ++ back) ≡ levels_of i (then r last.inner ∷ last.outer) =
    ap (read_back (p + 1)) (append_assoc inner (y ∷ rest) back)
    ∙ reads_back i (p + 1) inner (y ∷ (rest ++ back)) hi
    ∙ ap (ahead i) behind
    ∙ ap (λ t. levels_of t (then r last.inner ∷ last.outer)) (then_nil i) in
    first_word p front (inner ++ y ∷ rest) back x (opening d) is opens
    ∙ ap (put_word p (Some (opening d))) within
    ∙ ap (λ k. ahead (group d k (4 * p + 2) (4 * p + 3) i r) last) (sym whole)
    ∙ ap (λ k. ahead (group d w k (4 * p + 3) i r) last) (sym opening-stamp)
    ∙ ap (λ k. ahead (group d w o k i r) last) (sym closing-stamp)
    ∙ from (p + 2 + size i + size r) (p + suc (size i + suc (size r))) (group d w o c i r) back (omega arith)

own_sheet : (t : Trees ℕ) (p : ℕ) (ws : List (List ℕ)) → Spelled p t ws → (read_back p ws).inner ≡ t
own_sheet t p ws h = ap (λ l. (read_back p l).inner) (sym (append-nil ws)) ∙ ap (λ (l : Levels ℕ). l.inner) (reads_back t p ws [] h) ∙ then_nil t

pub one_spelling : OneSpelling
one_spelling ws t u h k = sym (own_sheet t 0 ws h) ∙ own_sheet u 0 ws k
