-- Three bytes at a time.
use Rattle.std.proofs.Common.{◌≡◌, ℕ, zero, suc, ◌+◌, ◌-◌, ◌*◌, ◌/◌, ◌<◌, ◌≤◌, List, ◌∷◌, length, get_or, take, drop, refl, ap, ◌∙◌, arith, length-take-le}
use Rattle.std.proofs.lemmas.List.{take-take, drop-take, drop-drop, get_or-take, get_or-drop}
use Rattle.std.specs.Simd.{first_chunks}
use Rattle.packed.specs.Format.{word}

drop_three : (m : ℕ) (xs : List ℕ) → 3 ≤ m → drop 3 (take m xs) ≡ take (m - 3) (drop 3 xs)
drop_three m xs h = let e : m ≡ 3 + (m - 3) = omega arith in ap (λ k. drop 3 (take k xs)) e ∙ drop-take 3 (m - 3) xs

first_chunks-take : (n m : ℕ) (xs : List ℕ) → 3 * n ≤ m → first_chunks 3 n (take m xs) ≡ first_chunks 3 n xs
first_chunks-take zero m xs h = refl
first_chunks-take (suc n) m xs h =
    ap (λ t. t ∷ first_chunks 3 n (drop 3 (take m xs))) (take-take 3 m xs (omega arith))
    ∙ ap (λ ts. take 3 xs ∷ ts) (ap (first_chunks 3 n) (drop_three m xs (omega arith)) ∙ first_chunks-take n (m - 3) (drop 3 xs) (omega arith))

-- A stretch of three times n bytes has n triples, those of the bytes from where it begins.
pub whole_triples : (xs : List ℕ) (n m : ℕ) → m ≡ 3 * n → m ≤ length xs → first_chunks 3 (length (take m xs) / 3) (take m xs) ≡ first_chunks 3 n xs
whole_triples xs n m e within =
    let count : length (take m xs) / 3 ≡ n = omega (arith, length-take-le m xs within) in
    ap (λ k. first_chunks 3 k (take m xs)) count ∙ first_chunks-take n m xs (omega arith)

first_chunks-at : (n k : ℕ) (xs d : List ℕ) → k < n → get_or (first_chunks 3 n xs) k d ≡ take 3 (drop (3 * k) xs)
first_chunks-at zero k xs d h = absurd (omega arith)
first_chunks-at (suc n) zero xs d h = refl
first_chunks-at (suc n) (suc k) xs d h =
    let e : 3 + 3 * k ≡ 3 * suc k = omega arith in
    first_chunks-at n k (drop 3 xs) d (omega arith) ∙ ap (take 3) (drop-drop (3 * k) 3 xs ∙ ap (λ i. drop i xs) e)

-- The three bytes that stand from p on.
pub record Triple (bs : List ℕ) (p : ℕ) (t : List ℕ) : Type 0 where
  pub first : get_or t 0 0 ≡ get_or bs p 0
  pub second : get_or t 1 0 ≡ get_or bs (p + 1) 0
  pub third : get_or t 2 0 ≡ get_or bs (p + 2) 0

byte_at : (bs : List ℕ) (from n k j : ℕ) (d : List ℕ) → k < n → j < 3 → get_or (get_or (first_chunks 3 n (drop from bs)) k d) j 0 ≡ get_or bs (from + 3 * k + j) 0
byte_at bs from n k j d l h =
    let e : from + (3 * k + j) ≡ from + 3 * k + j = omega arith in
    ap (λ t. get_or t j 0) (first_chunks-at n k (drop from bs) d l)
    ∙ get_or-take 3 (drop (3 * k) (drop from bs)) j 0 h
    ∙ get_or-drop (3 * k) (drop from bs) j 0
    ∙ get_or-drop from bs (3 * k + j) 0
    ∙ ap (λ i. get_or bs i 0) e

pub triple_at : (bs : List ℕ) (from n k : ℕ) (ts : List (List ℕ)) (t d : List ℕ) → ts ≡ first_chunks 3 n (drop from bs) → k < n → t ≡ get_or ts k d → Triple bs (from + 3 * k) t
triple_at bs from n k ts t d all l is =
    let e : t ≡ get_or (first_chunks 3 n (drop from bs)) k d = is ∙ ap (λ us. get_or us k d) all in
    let z : from + 3 * k + 0 ≡ from + 3 * k = omega arith in
    record {
      first = ap (λ u. get_or u 0 0) e ∙ byte_at bs from n k 0 d l (omega arith) ∙ ap (λ i. get_or bs i 0) z;
      second = ap (λ u. get_or u 1 0) e ∙ byte_at bs from n k 1 d l (omega arith);
      third = ap (λ u. get_or u 2 0) e ∙ byte_at bs from n k 2 d l (omega arith);
    }

-- The number in two bytes that were read.
pub word_read : (bs : List ℕ) (p low high n : ℕ) → n ≡ low + 256 * high → low ≡ get_or bs p 0 → high ≡ get_or bs (p + 1) 0 → n ≡ word bs p
word_read bs p low high n e l h = omega arith
