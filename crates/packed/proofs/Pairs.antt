-- The pairs of a frame, one after another.
use Rattle.std.proofs.Common.{◌≡◌, ℕ, zero, suc, ◌+◌, ◌-◌, ◌*◌, ◌<◌, ◌≤◌, true, false, cond, eqb, ltb, leb, List, [], length, get_or, take, drop, sym, ap, ◌∙◌, ⊎_elim, add-one, arith}
use Rattle.std.specs.Simd.{first_chunks}
use Rattle.std.proofs.lemmas.Bool.Decides.{nat_tests}
use Rattle.std.proofs.lemmas.Bool.{and_from, and_left, and_right, and_parts, both_ways, cases_lt, cases_Bool, leb-true}
use Rattle.packed.specs.Format.{pair_count, pairs_from, text_from, offset, len, free_from, good_pair, good_pairs, pair_text, framed}
use Rattle.packed.proofs.Triples.{triple_at, word_read}

-- A pair as the code reads it: its offset and its length.
pub record IsRead (bs : List ℕ) (n off long : ℕ) : Type 0 where
  pub offset_is : off ≡ offset bs n
  pub long_is : long ≡ len bs n

pub is_read : (bs : List ℕ) (n : ℕ) (ts : List (List ℕ)) (t d : List ℕ) (off : ℕ) → ts ≡ first_chunks 3 (pair_count bs) (drop (pairs_from bs) bs) → n < pair_count bs → t ≡ get_or ts n d → off ≡ get_or t 0 0 + 256 * get_or t 1 0 → IsRead bs n off (get_or t 2 0)
is_read bs n ts t d off all l is number =
    let r = triple_at bs (pairs_from bs) (pair_count bs) n ts t d all l is in
    record { offset_is = word_read bs (pairs_from bs + 3 * n) _ _ off number r.first r.second; long_is = r.third }

pub text_is : (bs : List ℕ) (n off long text from end : ℕ) → n < pair_count bs → IsRead bs n off long → text ≡ text_from bs → from ≡ text + off → end ≡ from + long → take (end - from) (drop from bs) ≡ pair_text bs n
text_is bs n off long text from end l r t f e =
    let there : ltb n (pair_count bs) ≡ true = grind (arith, nat_tests) in
    let long_is : end - from ≡ len bs n = omega (arith, r.long_is) in
    let from_is : from ≡ text_from bs + offset bs n = omega (arith, r.offset_is) in
    ap (λ k. take k (drop from bs)) long_is ∙ ap (λ k. take (len bs n) (drop k bs)) from_is ∙ sym (ap (λ b. cond b (take (len bs n) (drop (text_from bs + offset bs n) bs)) []) there)

pub one_more : (bs : List ℕ) (n : ℕ) → good_pairs bs n ≡ true → good_pair bs n ≡ true → good_pairs bs (n + 1) ≡ true
one_more bs n h k = rw add-one (and_from _ _ h k)

-- one bad pair spoils all that hold it
pub one_bad : (bs : List ℕ) (n m : ℕ) → n < m → good_pair bs n ≡ false → good_pairs bs m ≡ false
one_bad bs n zero l h = absurd (omega arith)
one_bad bs n (suc m) l h =
    ⊎_elim
    (λ k. and_left _ _ (one_bad bs n m k h))
    (λ k. let e : m ≡ n = omega arith in and_right (good_pairs bs m) _ (ap (good_pair bs) e ∙ h))
    (cases_lt n m)

pub free_next : (bs : List ℕ) (n : ℕ) → free_from bs (n + 1) ≡ offset bs n + len bs n
free_next bs n = ap (free_from bs) (add-one n)

-- every pair of a whole frame is good
pub each_good : (bs : List ℕ) (n m : ℕ) → n < m → good_pairs bs m ≡ true → good_pair bs n ≡ true
each_good bs n m l h = ⊎_elim (λ k. k) (λ k. absurd (both_ways (good_pairs bs m) (one_bad bs n m l k) h)) (cases_Bool (good_pair bs n))

pub text_within : (bs : List ℕ) (n : ℕ) → framed bs ≡ true → n < pair_count bs → text_from bs + (offset bs n + len bs n) ≤ length bs
text_within bs n whole l =
    let pairs = (and_parts (leb (text_from bs) (length bs)) _ (and_parts (eqb (get_or bs 0 0) 1) _ (and_parts (leb 5 (length bs)) _ whole).1).1).1 in
    let good = each_good bs n (pair_count bs) l pairs in
    leb-true _ _ (and_parts (leb (free_from bs n) (offset bs n)) _ (and_parts (ltb 0 (len bs n)) _ good).1).1
