-- What the library's split gives: the parts of a text between single separators.
use Rattle.std.proofs.Common.{◌≡◌, ℕ, zero, suc, ◌+◌, ◌-◌, ◌<◌, ◌≤◌, Bool, true, false, cond, ◌&&◌, eqb, List, [], ◌∷◌, ◌++◌, length, get_or, slice_index, take, drop, sym, refl, ap, ◌∙◌, append-nil, append_assoc, arith}
use Rattle.std.specs.Str.{bytes_eq}
use Rattle.std.proofs.lemmas.List.{drop_more, drop_all, take_more, take_all, length-drop, get_or-drop}
use Rattle.std.proofs.lemmas.Bool.{le-leb, lt-leb, cond-false}
use Rattle.bstr.specs.Find.{occurs_at, matches_from, matches}
use Rattle.bstr.specs.Text.{split_at, part}
use Rattle.notation.specs.Parts.{front, behind, led_by, parts, parts_left}
use Rattle.notation.proofs.Cuts.{split_law}

-- bytes in front of the first part
abbrev onto : List ℕ → List (List ℕ) → List (List ℕ)
onto p [] = p ∷ []
onto p (q ∷ qs) = (p ++ q) ∷ qs

onto_more : (p : List ℕ) (b : ℕ) (qs : List (List ℕ)) → onto (p ++ b ∷ []) qs ≡ onto p (led_by b qs)
onto_more p b [] = refl
onto_more p b (q ∷ qs) = ap (λ l. l ∷ qs) (append_assoc p (b ∷ []) q)

-- there is always a first part
onto_none : (s : ℕ) (text : List ℕ) → onto [] (parts s text) ≡ parts s text
onto_none s [] = refl
onto_none s (b ∷ bs) = go (eqb b s) (parts s bs)
  where
    go : (t : Bool) (qs : List (List ℕ)) → onto [] (cond t ([] ∷ qs) (led_by b qs)) ≡ cond t ([] ∷ qs) (led_by b qs)
    go true qs = refl
    go false [] = refl
    go false (q ∷ qs) = refl

and_true : (t : Bool) → t && true ≡ t
and_true true = refl
and_true false = refl

-- a separator stands where its byte does
occurs : (s : ℕ) (hay : List ℕ) (i : ℕ) → i < length hay → occurs_at hay (s ∷ []) i ≡ eqb (get_or hay i 0) s
occurs s hay i within =
    ap (λ t. t && bytes_eq (take 1 (drop i hay)) (s ∷ [])) (le-leb (i + 1) (length hay) (omega arith))
    ∙ ap (λ l. bytes_eq (take 1 l) (s ∷ [])) (drop_more hay i 0 within)
    ∙ and_true (eqb (get_or hay i 0) s)

part_more : (hay : List ℕ) (last i : ℕ) → last ≤ i → i < length hay → part last (i + 1) hay ≡ part last i hay ++ get_or hay i 0 ∷ []
part_more hay last i le within =
    let e : i + 1 - last ≡ i - last + 1 = omega arith in
    let there : last + (i - last) ≡ i = omega arith in
    let n = length-drop last hay in
    ap (λ k. take k (drop last hay)) e
    ∙ take_more (drop last hay) (i - last) 0 (omega arith)
    ∙ ap (λ b. part last i hay ++ b ∷ []) (get_or-drop last hay (i - last) 0 ∙ ap (λ k. get_or hay k 0) there)

part_none : (hay : List ℕ) (i : ℕ) → part i i hay ≡ []
part_none hay i = let e : i - i ≡ 0 = omega arith in ap (λ k. take k (drop i hay)) e

part_all : (hay : List ℕ) (last i : ℕ) → last ≤ i → length hay ≤ i → part last i hay ≡ drop last hay
part_all hay last i le past = let n = length-drop last hay in take_all (i - last) (drop last hay) (omega arith)

-- From place i on, where the bytes from `last` up to there stand in front.
pieces : (n s : ℕ) (hay : List ℕ) (last i : ℕ) → last ≤ i → i ≤ length hay → i + n ≡ length hay + 1 → split_at hay 1 last (matches_from hay (s ∷ []) 0 i n) ≡ onto (part last i hay) (parts s (drop i hay))
unfolding matches_from split_at
pieces zero s hay last i le within all = absurd (omega arith)
pieces (suc zero) s hay last i le within all =
    ap (split_at hay 1 last) (cond-false (occurs_at hay (s ∷ []) i) (i ∷ []) [] (ap (λ t. t && bytes_eq (take 1 (drop i hay)) (s ∷ [])) (lt-leb (i + 1) (length hay) (omega arith))))
    ∙ ap (λ p. p ∷ []) (sym (part_all hay last i le (omega arith)) ∙ sym (append-nil (part last i hay)))
    ∙ ap (λ l. onto (part last i hay) (parts s l)) (sym (drop_all i hay (omega arith)))
pieces (suc (suc n)) s hay last i le within all =
    let b = get_or hay i 0 in
    let more = matches_from hay (s ∷ []) 0 (i + 1) (suc n) in
    let qs = parts s (drop (i + 1) hay) in
    ap (λ t. split_at hay 1 last (cond t (i ∷ more) more)) (occurs s hay i (omega arith))
    ∙ go (eqb b s) b more qs
    (pieces (suc n) s hay (i + 1) (i + 1) (omega arith) (omega arith) (omega arith) ∙ ap (λ p. onto p qs) (part_none hay (i + 1)) ∙ onto_none s (drop (i + 1) hay))
    (pieces (suc n) s hay last (i + 1) (omega arith) (omega arith) (omega arith) ∙ ap (λ p. onto p qs) (part_more hay last i le (omega arith)) ∙ onto_more (part last i hay) b qs)
    ∙ ap (λ l. onto (part last i hay) (parts s l)) (sym (drop_more hay i 0 (omega arith)))
  where
    go : (t : Bool) (b : ℕ) (more : List ℕ) (qs : List (List ℕ)) → split_at hay 1 (i + 1) more ≡ qs → split_at hay 1 last more ≡ onto (part last i hay) (led_by b qs) → split_at hay 1 last (cond t (i ∷ more) more) ≡ onto (part last i hay) (cond t ([] ∷ qs) (led_by b qs))
    go true b more qs cut on = ap (λ l. part last i hay ∷ l) cut ∙ ap (λ p. p ∷ qs) (sym (append-nil (part last i hay)))
    go false b more qs cut on = on

splits : (s : ℕ) (text : List ℕ) → split_at text 1 0 (matches text (s ∷ []) 0) ≡ parts s text
splits s text =
    let e : length text + 1 - 0 ≡ length text + 1 = omega arith in
    ap (λ n. split_at text 1 0 (matches_from text (s ∷ []) 0 0 n)) e
    ∙ pieces (length text + 1) s text 0 0 (omega arith) (omega arith) (omega arith)
    ∙ ap (λ p. onto p (parts s text)) (part_none text 0)
    ∙ onto_none s text

-- A splitter of one byte is that byte.
one_byte : (sep : List ℕ) → length sep ≡ 1 → sep ≡ slice_index sep 0 ∷ []
one_byte [] h = absurd (omega arith)
one_byte (s ∷ []) h = refl
one_byte (s ∷ t ∷ l) h = absurd (omega arith)

split_by : (text splitter sep : List ℕ) → splitter ≡ sep → length sep ≡ 1 → parts (slice_index sep 0) text ≡ split_at text (length splitter) 0 (matches text splitter 0)
split_by text splitter sep is one =
    sym (splits (slice_index sep 0) text) ∙ ap (λ l. split_at text (length l) 0 (matches text l 0)) (sym (is ∙ one_byte sep one))

-- The first part, and those behind it.
pub split_first : (text splitter sep part : List ℕ) (rest : List (List ℕ)) → splitter ≡ sep → length sep ≡ 1 → split_at text (length splitter) 0 (matches text splitter 0) ≡ part ∷ rest → (part ≡ front (slice_index sep 0) text) × (rest ≡ parts_left (slice_index sep 0) (behind (slice_index sep 0) text)) × (parts (slice_index sep 0) text ≡ part ∷ rest)
split_first text splitter sep part rest is one found =
    let s = slice_index sep 0 in
    let all : parts s text ≡ part ∷ rest = split_by text splitter sep is one ∙ found in
    let both : part ∷ rest ≡ front s text ∷ parts_left s (behind s text) = sym all ∙ split_law s text in
    (cc, cc, all)

pub some_part : (text splitter sep : List ℕ) → splitter ≡ sep → length sep ≡ 1 → split_at text (length splitter) 0 (matches text splitter 0) ≡ [] → ⊥
some_part text splitter sep is one none =
    let s = slice_index sep 0 in
    let all : front s text ∷ parts_left s (behind s text) ≡ [] = sym (split_law s text) ∙ split_by text splitter sep is one ∙ none in
    let n = ap length all in omega arith
