-- What is written of an entry is read back.
use Rattle.std.proofs.Common.{◌≡◌, ℕ, ◌+◌, ◌-◌, ◌*◌, ◌/◌, ◌%◌, ◌^◌, ◌<◌, ◌≤◌, Bool, true, false, cond, eqb, leb, List, [], ◌∷◌, ◌++◌, length, Some, None, decimal, Option, sym, refl, ap, ◌∙◌, arith}
use lib.Utf8.{scalar}
use Rattle.std.specs.List.{AllByRecursion}
use Rattle.std.proofs.lemmas.Fmt.{decimal_by_steps, decimal_nonempty}
use Rattle.std.proofs.ByRecursion.{All-push}
use Rattle.std.proofs.lemmas.Bool.{eq-eqb, ne_eqb, le-leb, and_from, cond-true, cond-false}
use Rattle.table.specs.declared.slot.Slot.{Slot}
use Rattle.table.specs.declared.slot.Slot.TheVariants.{Group, Name, Mark, Literal, End}
use Rattle.notation.specs.Entries.{group_of, name_of, mark_of, literal_of, end_of, slot_by, slot_of, after_colons, slot_numbers, ReadsBack}
use Rattle.notation.specs.Numerals.{is_digit, value, number_of, in_front, numbers_in, numbers_of}
use Rattle.notation.specs.Parts.{front, behind, parts_left}
use Rattle.notation.proofs.Counts.{numbers_of-suc}
use Rattle.notation.proofs.Values.{some_text, fits_small}

-- digits, one more at the end

push_by : (t : Bool) (v w : Option ℕ) (m k : ℕ) → (v ≡ Some m → w ≡ Some k) → cond t v None ≡ Some m → cond t w None ≡ Some k
push_by true v w m k h e = h e
push_by false v w m k h e = let z : ◌≡◌ {A = ℕ} 0 1 = cc in absurd (omega arith)

value_push : (n : ℕ) (ds : List ℕ) (b m : ℕ) → is_digit b ≡ true → value n ds ≡ Some m → value n (ds ++ b ∷ []) ≡ Some (10 * m + (b - 48))
value_push n [] b m d e =
    let s : n ≡ m = cc in cond-true (is_digit b) _ _ d ∙ ap (λ k. Some (10 * k + (b - 48))) s
value_push n (x ∷ ds) b m d e =
    push_by (is_digit x) (value (10 * n + (x - 48)) ds) (value (10 * n + (x - 48)) (ds ++ b ∷ [])) m (10 * m + (b - 48)) (value_push (10 * n + (x - 48)) ds b m d) e

a_digit : (b : ℕ) → 48 ≤ b → b ≤ 57 → is_digit b ≡ true
a_digit b l h = and_from (leb 48 b) (leb b 57) (le-leb 48 b l) (le-leb b 57 h)

value_decimal : (n : ℕ) → n < 2 ^ 64 → value 0 (decimal n) ≡ Some n
value_decimal =
    decimal_by_steps (λ m ds. value 0 ds ≡ Some m)
    (λ m l. cond-true (is_digit (48 + m)) _ _ (a_digit (48 + m) (omega arith) (omega arith)) ∙ ap Some (omega arith))
    (λ m ds l h. value_push 0 ds (48 + m % 10) (m / 10) (a_digit (48 + m % 10) (omega arith) (omega arith)) h ∙ ap Some (omega arith))

number_decimal : (n : ℕ) → n ≤ 4294967295 → number_of (decimal n) ≡ Some n
number_decimal n small =
    let some = decimal_nonempty n (omega arith) in
    sym (some_text (decimal n) (sym (ne_eqb (length (decimal n)) 0 (λ e. omega arith)))) ∙ fits_small n (decimal n) small (value_decimal n (omega arith))

no_colon : (n : ℕ) → n < 2 ^ 64 → AllByRecursion (λ b. b ≡ 58 → ⊥) (decimal n)
no_colon =
    decimal_by_steps (λ m ds. AllByRecursion (λ b. b ≡ 58 → ⊥) ds) (λ m l. ((λ e. omega arith), tt)) (λ m ds l h. All-push (λ b. b ≡ 58 → ⊥) ds (48 + m % 10) h (λ e. omega arith))

-- a part in which no separator stands, before a separator and at the end

front_of : (s : ℕ) (p t : List ℕ) → AllByRecursion (λ b. b ≡ s → ⊥) p → front s (p ++ (s ∷ t)) ≡ p
unfolding front
front_of s [] t h = cond-true (eqb s s) _ _ (eq-eqb s s refl)
front_of s (b ∷ p) t h = cond-false (eqb b s) _ _ (ne_eqb b s h.0) ∙ ap (λ l. b ∷ l) (front_of s p t h.1)

behind_of : (s : ℕ) (p t : List ℕ) → AllByRecursion (λ b. b ≡ s → ⊥) p → behind s (p ++ (s ∷ t)) ≡ Some t
unfolding behind
behind_of s [] t h = cond-true (eqb s s) _ _ (eq-eqb s s refl)
behind_of s (b ∷ p) t h = cond-false (eqb b s) _ _ (ne_eqb b s h.0) ∙ behind_of s p t h.1

front_only : (s : ℕ) (p : List ℕ) → AllByRecursion (λ b. b ≡ s → ⊥) p → front s (p ++ []) ≡ p
unfolding front
front_only s [] h = refl
front_only s (b ∷ p) h = cond-false (eqb b s) _ _ (ne_eqb b s h.0) ∙ ap (λ l. b ∷ l) (front_only s p h.1)

behind_only : (s : ℕ) (p : List ℕ) → AllByRecursion (λ b. b ≡ s → ⊥) p → behind s (p ++ []) ≡ None
unfolding behind
behind_only s [] h = refl
behind_only s (b ∷ p) h = cond-false (eqb b s) _ _ (ne_eqb b s h.0) ∙ behind_only s p h.1

-- what stands behind the first colon of these numbers
abbrev fields : List ℕ → Option (List ℕ)
fields [] = None
fields (n ∷ ns) = Some (decimal n ++ after_colons ns)

front_part : (p ns : List ℕ) → AllByRecursion (λ b. b ≡ 58 → ⊥) p → front 58 (p ++ after_colons ns) ≡ p
front_part p [] h = front_only 58 p h
front_part p (n ∷ ns) h = front_of 58 p (decimal n ++ after_colons ns) h

behind_part : (p ns : List ℕ) → AllByRecursion (λ b. b ≡ 58 → ⊥) p → behind 58 (p ++ after_colons ns) ≡ fields ns
behind_part p [] h = behind_only 58 p h
behind_part p (n ∷ ns) h = behind_of 58 p (decimal n ++ after_colons ns) h

numbers_back : (ns : List ℕ) → AllByRecursion (λ n. n ≤ 4294967295) ns → numbers_of (length ns) 58 (fields ns) ≡ Some ns
unfolding numbers_in
numbers_back [] h = refl
numbers_back (n ∷ ns) h =
    let small = h.0 in
    let free = no_colon n (omega arith) in
    numbers_of-suc (length ns) 58 (decimal n ++ after_colons ns)
    ∙ (λ i. in_front (number_of (front_part (decimal n) ns free i)) (numbers_of (length ns) 58 (behind_part (decimal n) ns free i)))
    ∙ (λ i. in_front (number_decimal n small i) (numbers_back ns h.1 i))

letter_back : (k : ℕ) (ns : List ℕ) → (k ≡ 58 → ⊥) → slot_of (k ∷ after_colons ns) ≡ slot_by (k ∷ []) (parts_left 58 (fields ns))
letter_back k ns other = λ i. slot_by (front_part (k ∷ []) ns (other, tt) i) (parts_left 58 (behind_part (k ∷ []) ns (other, tt) i))

pub slot_back : (s : Slot) → ReadsBack s
slot_back (Group d k w o c) h t = letter_back 71 (d ∷ k ∷ w ∷ o ∷ c ∷ []) (λ e. omega arith) ∙ ap group_of (numbers_back (d ∷ k ∷ w ∷ o ∷ c ∷ []) h)
slot_back (Name place stamp) h t =
    let ns = slot_numbers (Name place stamp) in
    letter_back 78 ns (λ e. omega arith) ∙ ap name_of (numbers_back ns h)
slot_back (Mark character spacing stamp) h t =
    let ns = character ∷ spacing ∷ stamp ∷ [] in
    letter_back 77 ns (λ e. omega arith) ∙ ap mark_of (numbers_back ns h) ∙ ap (λ x. Some (Mark x spacing stamp)) (cond-true (scalar character) character 65533 t)
slot_back (Literal place stamp) h t =
    let ns = slot_numbers (Literal place stamp) in
    letter_back 76 ns (λ e. omega arith) ∙ ap literal_of (numbers_back ns h)
slot_back (End d) h t = letter_back 69 (d ∷ []) (λ e. omega arith) ∙ ap end_of (numbers_back (d ∷ []) h)
