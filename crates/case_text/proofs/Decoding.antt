-- What the library that decodes gives, by pairs of digits.
use Rattle.std.proofs.Common.{◌≡◌, ℕ, ◌+◌, ◌*◌, ◌%◌, ◌==◌, false, eqb, List, [], ◌∷◌, length, Some, None, Ok, Err, codes, Option, Result, sym, refl, ap, ◌∙◌, ◌⊎◌, inl, inr, ⊎_elim, arith}
use Rattle.std.specs.Result.{IsErrAnd}
use Rattle.std.specs.Cmp.Lexicographic.{pointwise}
use Rattle.std.proofs.lemmas.Slice.Eq.{slice_eq-Decides}
use Rattle.std.proofs.lemmas.Bool.{cases_Bool, eqb-true, ne_eqb, cond-true, cond-false, false≢true}
use Rattle.std.proofs.lemmas.Bool.Decides.{Decides-eqb, nat_tests}
use Rattle.hex.specs.Hex.{hex_digit_value, digit_or_error, decode_pairs, decode_of, ◌>>=◌}
use Rattle.hex.specs.declared.error.FromHexError.{FromHexError}
use Rattle.hex.specs.declared.error.FromHexError.TheVariants.{OutOfMemory}
use Rattle.case_text.specs.Digits.{digit, in_front, pairs, hex_bytes}
use Rattle.case_text.specs.Faults.{Gives, decode_fault}
use Rattle.case_text.specs.declared.fault.LineFault.{LineFault}
use Rattle.case_text.specs.declared.fault.LineFault.TheVariants.{Unknown, Memory}

-- the bytes that were decoded, if they were
abbrev pub decoded : Result (List ℕ) FromHexError → Option (List ℕ)
decoded (Ok bs) = Some bs
decoded (Err e) = None

digit_is : (d : ℕ) → digit d ≡ hex_digit_value d
digit_is d = grind (arith, nat_tests)

one_pair : (x y i : ℕ) (h l : Option ℕ) (rest : Result (List ℕ) FromHexError) → in_front h l (decoded rest) ≡ decoded ((digit_or_error x i h >>= (λ a. digit_or_error y (i + 1) l >>= (λ b. Ok (a * 16 + b)))) >>= (λ byte. rest >>= (λ bytes. Ok (byte ∷ bytes))))
one_pair x y i None l rest = refl
one_pair x y i (Some h) None rest = refl
one_pair x y i (Some h) (Some l) (Err e) = refl
one_pair x y i (Some h) (Some l) (Ok bytes) = ap (λ n. Some (n ∷ bytes)) (omega arith)

in_pairs : (i : ℕ) (ds : List ℕ) → pairs ds ≡ decoded (decode_pairs i ds)
unfolding decode_pairs
in_pairs i [] = refl
in_pairs i (d ∷ []) = refl
in_pairs i (h ∷ l ∷ ds) =
    (λ j. in_front (digit_is h j) (digit_is l j) (in_pairs (i + 2) ds j)) ∙ one_pair h l i (hex_digit_value h) (hex_digit_value l) (decode_pairs (i + 2) ds)

none_in_front : (h l : Option ℕ) → in_front h l None ≡ None
none_in_front None l = refl
none_in_front (Some h) None = refl
none_in_front (Some h) (Some l) = refl

-- an odd digit is left over
odd : (ds : List ℕ) → length ds % 2 ≡ 1 → pairs ds ≡ None
odd [] h = absurd (omega arith)
odd (d ∷ []) h = refl
odd (h ∷ l ∷ ds) is = ap (in_front (digit h) (digit l)) (odd ds (omega arith)) ∙ none_in_front (digit h) (digit l)

-- Digits are pairs exactly if they are decoded, to the same bytes.
pub pairs_are : (ds : List ℕ) → pairs ds ≡ decoded (decode_of ds)
pairs_are ds =
    ⊎_elim
    (λ is. odd ds (eqb-true _ _ is) ∙ sym (ap decoded (cond-true _ _ _ is)))
    (λ is. in_pairs 0 ds ∙ sym (ap decoded (cond-false _ _ _ is)))
    (cases_Bool (length ds % 2 == 1))

-- One character is no pair, and only `-` stands for no bytes.
pub bytes_are : (text : List ℕ) → false ≡ eqb (length text) 0 → false ≡ pointwise eqb text (codes "-") → hex_bytes text ≡ decoded (decode_of text)
bytes_are [] some dash = let z : ◌≡◌ {A = ℕ} 0 1 = cc in absurd (omega arith)
bytes_are (d ∷ []) some dash =
    let other : d ≡ 45 → ⊥ = λ e. false≢true ((slice_eq-Decides Decides-eqb (d ∷ []) (codes "-") false dash).1 (ap (λ x. x ∷ []) e)) in
    cond-false (eqb d 45) _ _ (ne_eqb d 45 other)
bytes_are (h ∷ l ∷ ds) some dash = pairs_are (h ∷ l ∷ ds)

-- A text that is not decoded says nothing, unless memory ran out.
pub refused : {V : Type 0} (said : V → List ℕ) (text : List ℕ) (o : Option (List ℕ)) (e : FromHexError) (r : Result V LineFault) → o ≡ decoded (decode_of text) → (e ≡ OutOfMemory) ⊎ (decode_of text ≡ Err e) → IsErrAnd r (λ f. f ≡ decode_fault e) → Gives said o r
refused said text o e (Ok v) is why from = absurd from
refused said text o e (Err Memory) is why from = tt
refused said text o e (Err Unknown) is (inl memory) from = let z : Unknown ≡ Memory = from ∙ ap decode_fault memory in absurd (cc)
refused said text o e (Err Unknown) is (inr none) from = is ∙ ap decoded none
