-- The first separator of a text.
use Rattle.std.proofs.Common.{◌≡◌, ℕ, zero, suc, ◌+◌, ◌-◌, ◌<◌, Bool, true, false, cond, eqb, List, [], ◌∷◌, length, get_or, take, drop, Some, None, Option, sym, refl, ap, ◌∙◌, subst, add-one, arith}
use Rattle.std.proofs.lemmas.List.{take_rest, length-drop}
use Rattle.std.proofs.lemmas.Bool.{eq-eqb, ne_eqb, eqb-false, eqb-true, cond-true, cond-false}
use Rattle.notation.specs.Parts.{front, behind, led_by, parts, parts_left, Cut}

pub front_there : (s : ℕ) (text : List ℕ) (n : ℕ) → n < length text → ((k : ℕ) → k < n → get_or text k 0 ≡ s → ⊥) → get_or text n 0 ≡ s → take n text ≡ front s text
unfolding front
front_there s [] n within before here = absurd (omega arith)
front_there s (b ∷ bs) zero within before here = sym (cond-true (eqb b s) _ _ (eq-eqb b s here))
front_there s (b ∷ bs) (suc n) within before here =
    ap (λ l. b ∷ l) (front_there s bs n (omega arith) (λ k l. before (suc k) (omega arith)) here) ∙ sym (cond-false (eqb b s) _ _ (ne_eqb b s (before 0 (omega arith))))

after_there : (s : ℕ) (text : List ℕ) (n : ℕ) → n < length text → ((k : ℕ) → k < n → get_or text k 0 ≡ s → ⊥) → get_or text n 0 ≡ s → Some (drop (suc n) text) ≡ behind s text
unfolding behind
after_there s [] n within before here = absurd (omega arith)
after_there s (b ∷ bs) zero within before here = sym (cond-true (eqb b s) _ _ (eq-eqb b s here))
after_there s (b ∷ bs) (suc n) within before here =
    after_there s bs n (omega arith) (λ k l. before (suc k) (omega arith)) here ∙ sym (cond-false (eqb b s) _ _ (ne_eqb b s (before 0 (omega arith))))

pub behind_there : (s : ℕ) (text : List ℕ) (n : ℕ) → n < length text → ((k : ℕ) → k < n → get_or text k 0 ≡ s → ⊥) → get_or text n 0 ≡ s → Some (take (length text - (n + 1)) (drop (n + 1) text)) ≡ behind s text
behind_there s text n within before here =
    ap Some (take_rest text (n + 1) ∙ ap (λ j. drop j text) (add-one n)) ∙ after_there s text n within before here

pub rest_shorter : (text : List ℕ) (n : ℕ) → n < length text → length (take (length text - (n + 1)) (drop (n + 1) text)) < length text
rest_shorter text n l =
    let e = ap length (take_rest text (n + 1)) ∙ length-drop (n + 1) text in omega arith

-- no separator stands in the text
pub all_front : (s : ℕ) (text : List ℕ) → ((k : ℕ) → k < length text → get_or text k 0 ≡ s → ⊥) → text ≡ front s text
unfolding front
all_front s [] none = refl
all_front s (b ∷ bs) none =
    ap (λ l. b ∷ l) (all_front s bs (λ k l. none (suc k) (omega arith))) ∙ sym (cond-false (eqb b s) _ _ (ne_eqb b s (none 0 (omega arith))))

pub none_behind : (s : ℕ) (text : List ℕ) → ((k : ℕ) → k < length text → get_or text k 0 ≡ s → ⊥) → None ≡ behind s text
unfolding behind
none_behind s [] none = refl
none_behind s (b ∷ bs) none =
    none_behind s bs (λ k l. none (suc k) (omega arith)) ∙ sym (cond-false (eqb b s) _ _ (ne_eqb b s (none 0 (omega arith))))

-- the first part of a text with one more byte in front of it
led : (s b : ℕ) (bs part : List ℕ) (rest : Option (List ℕ)) → (b ≡ s → ⊥) → Cut s bs part rest → Cut s (b ∷ bs) (b ∷ part) rest
led s b bs part None other h = ((other, h.0), ap (λ l. b ∷ l) h.1)
led s b bs part (Some rest) other h = ((other, h.0), ap (λ l. b ∷ l) h.1)

cut_by : (t : Bool) (s b : ℕ) (bs part : List ℕ) (rest : Option (List ℕ)) → (t ≡ true → b ≡ s) → (t ≡ false → b ≡ s → ⊥) → Cut s bs part rest → Cut s (b ∷ bs) (cond t [] (b ∷ part)) (cond t (Some bs) rest)
cut_by true s b bs part rest same other h = (tt, ap (λ x. x ∷ bs) (same refl))
cut_by false s b bs part rest same other h = led s b bs part rest (other refl) h

cut_law : (s : ℕ) (text : List ℕ) → Cut s text (front s text) (behind s text)
unfolding front behind
cut_law s [] = (tt, refl)
cut_law s (b ∷ bs) = cut_by (eqb b s) s b bs (front s bs) (behind s bs) (eqb-true b s) (eqb-false b s) (cut_law s bs)

split_by : (t : Bool) (s b : ℕ) (bs part : List ℕ) (rest : Option (List ℕ)) → parts s bs ≡ part ∷ parts_left s rest → cond t ([] ∷ parts s bs) (led_by b (parts s bs)) ≡ cond t [] (b ∷ part) ∷ parts_left s (cond t (Some bs) rest)
split_by true s b bs part rest h = refl
split_by false s b bs part rest h = ap (led_by b) h

pub split_law : (s : ℕ) (text : List ℕ) → parts s text ≡ front s text ∷ parts_left s (behind s text)
unfolding front behind
split_law s [] = refl
split_law s (b ∷ bs) = split_by (eqb b s) s b bs (front s bs) (behind s bs) (split_law s bs)

-- what holds of the first part and the rest holds of them under any name
pub cut_so : (s : ℕ) (text part : List ℕ) (rest : Option (List ℕ)) → part ≡ front s text → rest ≡ behind s text → Cut s text part rest
cut_so s text part rest p r = subst (λ (q : List ℕ × Option (List ℕ)). Cut s text q.0 q.1) (λ i. (sym p i, sym r i)) (cut_law s text)

pub split_so : (s : ℕ) (text part : List ℕ) (rest : Option (List ℕ)) → part ≡ front s text → rest ≡ behind s text → parts s text ≡ part ∷ parts_left s rest
split_so s text part rest p r = split_law s text ∙ (λ i. sym p i ∷ parts_left s (sym r i))
