-- The value of digits, one after another.
use Rattle.std.proofs.Common.{◌≡◌, ℕ, ◌+◌, ◌-◌, ◌*◌, ◌<◌, ◌≤◌, Bool, true, false, cond, eqb, leb, List, [], ◌∷◌, length, get_or, drop, Some, None, Option, sym, refl, ap, ◌∙◌, arith}
use Rattle.std.proofs.lemmas.List.{drop_more}
use Rattle.std.proofs.lemmas.Bool.{le-leb, lt-leb, leb-false, cond-true, cond-false, cond_both}
use Rattle.notation.specs.Numerals.{is_digit, value, fits, fitting, number_of}

-- digits make a number only greater
over : (n : ℕ) (bs : List ℕ) → 4294967295 < n → fitting (value n bs) ≡ None
over n [] l = cond-false (leb n 4294967295) _ _ (lt-leb n 4294967295 l)
over n (b ∷ bs) l =
    cond_both (is_digit b) (value (10 * n + (b - 48)) bs) None (λ (o : Option ℕ). fitting o ≡ None) (λ _. over (10 * n + (b - 48)) bs (omega arith)) (λ _. refl)

none : (t : Bool) (m : ℕ) → None ≡ cond t (Some m) None → t ≡ false
none true m e = let z : ◌≡◌ {A = ℕ} 0 1 = cc in absurd (omega arith)
none false m e = refl

stopped : (t : Bool) (m : ℕ) (bs : List ℕ) → None ≡ cond t (fits m) None → None ≡ fitting (cond t (value m bs) None)
stopped true m bs e = sym (over m bs (leb-false m 4294967295 (none (leb m 4294967295) m e)))
stopped false m bs e = refl

-- The next byte is no digit, or makes the number too great.
pub no_more : (n i : ℕ) (text : List ℕ) (all : Option ℕ) → i < length text → None ≡ cond (is_digit (get_or text i 0)) (fits (10 * n + (get_or text i 0 - 48))) None → fitting (value n (drop i text)) ≡ all → None ≡ all
no_more n i text all within e so_far =
    let b = get_or text i 0 in
    stopped (is_digit b) (10 * n + (b - 48)) (drop (i + 1) text) e ∙ sym (ap (λ ds. fitting (value n ds)) (drop_more text i 0 within)) ∙ so_far

-- a text that is not empty is read as its digits
pub some_text : (text : List ℕ) → false ≡ eqb (length text) 0 → fitting (value 0 text) ≡ number_of text
some_text [] some = let z : ◌≡◌ {A = ℕ} 0 1 = cc in absurd (omega arith)
some_text (b ∷ bs) some = refl

pub fits_small : (n : ℕ) (bs : List ℕ) → n ≤ 4294967295 → value 0 bs ≡ Some n → fitting (value 0 bs) ≡ Some n
fits_small n bs few e = ap fitting e ∙ cond-true (leb n 4294967295) _ _ (le-leb n 4294967295 few)
