-- Numbers, one after another.
use Rattle.std.proofs.Common.{◌≡◌, ℕ, zero, suc, ◌+◌, ◌-◌, ◌<◌, ◌≤◌, List, [], ◌∷◌, ◌++◌, length, take, set, Some, None, Option, sym, refl, ap, ◌∙◌, append_assoc, append-nil, arith}
use Rattle.std.proofs.lemmas.List.{take_more_set, take_all}
use Rattle.notation.specs.Parts.{front, behind}
use Rattle.notation.specs.Numerals.{number_of, in_front, numbers_in, numbers_of}
use Rattle.notation.proofs.Cuts.{split_law}

-- The numbers of a text: the one before its first separator, and those behind it.
pub numbers_of-suc : (n s : ℕ) (text : List ℕ) → numbers_of (suc n) s (Some text) ≡ in_front (number_of (front s text)) (numbers_of n s (behind s text))
unfolding numbers_in
numbers_of-suc n s text = ap (numbers_in (suc n)) (split_law s text)

pub numbers_of-zero : (s : ℕ) (text : List ℕ) → numbers_of zero s (Some text) ≡ None
unfolding numbers_in
numbers_of-zero s text = ap (numbers_in zero) (split_law s text)

-- numbers that were read, and behind them those that are left
abbrev pub joined : List ℕ → Option (List ℕ) → Option (List ℕ)
joined ns None = None
joined ns (Some ms) = Some (ns ++ ms)

moved : (ns : List ℕ) (n : ℕ) (o : Option (List ℕ)) → joined (ns ++ n ∷ []) o ≡ joined ns (in_front (Some n) o)
moved ns n None = refl
moved ns n (Some ms) = ap Some (append_assoc ns (n ∷ []) ms)

some_left : (many at : ℕ) (part : List ℕ) (rest : List (List ℕ)) → at < many → numbers_in (many - at) (part ∷ rest) ≡ in_front (number_of part) (numbers_in (many - (at + 1)) rest)
unfolding numbers_in
some_left many at part rest l = let e : many - at ≡ suc (many - (at + 1)) = omega arith in ap (λ k. numbers_in k (part ∷ rest)) e

pub one_more : (many at n : ℕ) (found part : List ℕ) (parts rest : List (List ℕ)) (all : Option (List ℕ)) → at < many → length found ≡ many → parts ≡ part ∷ rest → Some n ≡ number_of part → joined (take at found) (numbers_in (many - at) parts) ≡ all → joined (take (at + 1) (set found at n)) (numbers_in (many - (at + 1)) rest) ≡ all
one_more many at n found part parts rest all l len is read so_far =
    ap (λ ns. joined ns (numbers_in (many - (at + 1)) rest)) (take_more_set found at n (omega arith))
    ∙ moved (take at found) n (numbers_in (many - (at + 1)) rest)
    ∙ ap (λ o. joined (take at found) (in_front o (numbers_in (many - (at + 1)) rest))) read
    ∙ ap (joined (take at found)) (sym (some_left many at part rest l))
    ∙ ap (λ ps. joined (take at found) (numbers_in (many - at) ps)) (sym is)
    ∙ so_far

-- what stands there is no number
pub no_number : (many at : ℕ) (found part : List ℕ) (parts rest : List (List ℕ)) (all : Option (List ℕ)) → at < many → parts ≡ part ∷ rest → None ≡ number_of part → joined (take at found) (numbers_in (many - at) parts) ≡ all → None ≡ all
no_number many at found part parts rest all l is read so_far =
    ap (λ o. joined (take at found) (in_front o (numbers_in (many - (at + 1)) rest))) read
    ∙ ap (joined (take at found)) (sym (some_left many at part rest l))
    ∙ ap (λ ps. joined (take at found) (numbers_in (many - at) ps)) (sym is)
    ∙ so_far

-- there are too few
pub too_few : (many at : ℕ) (found : List ℕ) (parts : List (List ℕ)) (all : Option (List ℕ)) → at < many → parts ≡ [] → joined (take at found) (numbers_in (many - at) parts) ≡ all → None ≡ all
unfolding numbers_in
too_few many at found parts all l is so_far =
    let e : suc (many - (at + 1)) ≡ many - at = omega arith in
    (λ i. joined (take at found) (numbers_in (e i) (sym is i))) ∙ so_far

-- there are too many
pub too_many : (many at : ℕ) (found part : List ℕ) (parts rest : List (List ℕ)) (all : Option (List ℕ)) → many ≤ at → parts ≡ part ∷ rest → joined (take at found) (numbers_in (many - at) parts) ≡ all → None ≡ all
unfolding numbers_in
too_many many at found part parts rest all l is so_far =
    let e : 0 ≡ many - at = omega arith in (λ i. joined (take at found) (numbers_in (e i) (sym is i))) ∙ so_far

pub all_found : (many at : ℕ) (found : List ℕ) (parts : List (List ℕ)) (all : Option (List ℕ)) → many ≤ at → length found ≡ many → parts ≡ [] → joined (take at found) (numbers_in (many - at) parts) ≡ all → Some found ≡ all
unfolding numbers_in
all_found many at found parts all l len is so_far =
    let e : 0 ≡ many - at = omega arith in
    ap Some (sym (append-nil found) ∙ ap (λ ns. ns ++ []) (sym (take_all at found (omega arith)))) ∙ (λ i. joined (take at found) (numbers_in (e i) (sym is i))) ∙ so_far
