-- The lines of a text, one after another.
use Rattle.std.proofs.Common.{◌≡◌, ℕ, zero, suc, ◌+◌, ◌-◌, ◌<◌, eqb, List, [], ◌∷◌, ◌++◌, length, get_or, take, drop, codes, sym, refl, ap, ◌∙◌, subst, append_assoc, append-nil, add-one, arith}
use Rattle.std.proofs.lemmas.List.{take_rest}
use Rattle.std.proofs.lemmas.Bool.{eq-eqb, ne_eqb, cond-true, cond-false}
use Rattle.case_text.specs.Texts.{led_by, lines, Line, Replays}

-- the first newline ends the first line
cut : (text : List ℕ) (n : ℕ) → n < length text → ((k : ℕ) → k < n → get_or text k 0 ≡ 10 → ⊥) → get_or text n 0 ≡ 10 → lines text ≡ take n text ∷ lines (drop (suc n) text)
cut [] n within before here = absurd (omega arith)
cut (b ∷ bs) zero within before here = cond-true (eqb b 10) _ _ (eq-eqb b 10 here)
cut (b ∷ bs) (suc n) within before here =
    cond-false (eqb b 10) _ _ (ne_eqb b 10 (before 0 (omega arith))) ∙ ap (led_by b) (cut bs n (omega arith) (λ k l. before (suc k) (omega arith)) here)

pub first_line : (text : List ℕ) (n : ℕ) → n < length text → ((k : ℕ) → k < n → get_or text k 0 ≡ 10 → ⊥) → get_or text n 0 ≡ 10 → lines text ≡ take n text ∷ lines (take (length text - (n + 1)) (drop (n + 1) text))
first_line text n within before here =
    let behind : drop (suc n) text ≡ take (length text - (n + 1)) (drop (n + 1) text) = ap (λ j. drop j text) (sym (add-one n)) ∙ sym (take_rest text (n + 1)) in
    cut text n within before here ∙ ap (λ r. take n text ∷ lines r) behind

-- a text with no newline is one line
pub one_line : (text : List ℕ) → 0 < length text → ((k : ℕ) → k < length text → get_or text k 0 ≡ 10 → ⊥) → lines text ≡ text ∷ []
one_line [] some none = absurd (omega arith)
one_line (b ∷ []) some none = cond-false (eqb b 10) _ _ (ne_eqb b 10 (none 0 (omega arith)))
one_line (b ∷ d ∷ bs) some none =
    cond-false (eqb b 10) _ _ (ne_eqb b 10 (none 0 (omega arith))) ∙ ap (led_by b) (one_line (d ∷ bs) (omega arith) (λ k l. none (suc k) (omega arith)))

module _ {C A : Type 0} (fresh : C) (steps : C → List ℕ → C → A → Type 0) (written : C → A → List ℕ) where
  -- Before the first line, all of them are left.
  pub all_left : (c : C) (left all : List (List ℕ)) (out : List ℕ) → c ≡ fresh → left ≡ all → out ≡ [] → (rest : List ℕ) → Replays fresh steps written c left rest → Replays fresh steps written fresh all (out ++ rest)
  all_left c left all out begins is none rest h =
      subst (λ o. Replays fresh steps written fresh all (o ++ rest)) (sym none) (subst (λ d. Replays fresh steps written d all rest) begins (subst (λ (ls : List (List ℕ)). Replays fresh steps written c ls rest) is h))

  -- The first of the lines that are left was written.
  pub one_more : (c d : C) (left : List (List ℕ)) (line : List ℕ) (behind : List (List ℕ)) (out more : List ℕ) (All : List ℕ → Type 0) → ((rest : List ℕ) → Replays fresh steps written c left rest → All (out ++ rest)) → left ≡ line ∷ behind → (w : List ℕ) × Line fresh steps written c line d w × (more ≡ out ++ w) → (rest : List ℕ) → Replays fresh steps written d behind rest → All (more ++ rest)
  one_more c d left line behind out more All so_far is (w, wrote, more_is) rest h =
      let whole : Replays fresh steps written c left (w ++ rest) = subst (λ (ls : List (List ℕ)). Replays fresh steps written c ls (w ++ rest)) (sym is) (d, w, rest, wrote, h, refl) in
      subst All (sym (ap (λ l. l ++ rest) more_is ∙ append_assoc out w rest)) (so_far (w ++ rest) whole)

  -- A blank line was written.
  pub blank_line : (c d : C) (line out more : List ℕ) → length line ≡ 0 → d ≡ fresh → more ≡ out ++ codes "\n" → (w : List ℕ) × Line fresh steps written c line d w × (more ≡ out ++ w)
  blank_line c d [] out more none is m = (codes "\n", (is, refl), m)
  blank_line c d (b ∷ bs) out more none is m = absurd (omega arith)

  pub none_left : (c : C) (left : List (List ℕ)) (out : List ℕ) (All : List ℕ → Type 0) → ((rest : List ℕ) → Replays fresh steps written c left rest → All (out ++ rest)) → left ≡ [] → All out
  none_left c left out All so_far none =
      subst All (append-nil out) (so_far [] (subst (λ (ls : List (List ℕ)). Replays fresh steps written c ls []) (sym none) refl))
