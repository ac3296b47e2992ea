-- Good places, and their bytes.
use Rattle.std.proofs.Common.{◌≡◌, ℕ, ◌+◌, ◌≤◌, Bool, true, false, cond, ◌&&◌, leb, List, [], length, take, drop, sym, refl, ap, ◌∙◌, arith, length-drop, length-take-le}
use Rattle.std.proofs.lemmas.Bool.{and_parts, leb-true}
use Rattle.sheet.specs.Limits.{legal_text}
use Rattle.table.specs.Texts.{text_numbered, good_place, text_at}
use Rattle.table.specs.declared.slot.TextPlace.{TextPlace}

abbrev part : List ℕ → List ℕ → TextPlace → List ℕ
part a b q = take q.length (drop q.offset (text_numbered a b q.text))

pub no_bytes : (a b : List ℕ) (q : TextPlace) → good_place a b q ≡ false → [] ≡ text_at a b q
unfolding text_at
no_bytes a b q h = sym (ap (λ t. cond t (part a b q) []) h)

pub bytes_there : (a b : List ℕ) (q : TextPlace) → good_place a b q ≡ true → part a b q ≡ text_at a b q
unfolding text_at
bytes_there a b q h = sym (ap (λ t. cond t (part a b q) []) h)

pub ends_within : (a b : List ℕ) (q : TextPlace) → good_place a b q ≡ true → q.offset + q.length ≤ length (text_numbered a b q.text)
unfolding good_place
ends_within a b q h = leb-true _ _ (and_parts (leb 1 q.length && leb q.length 255) _ h).1

sized : (a b : List ℕ) (q : TextPlace) → good_place a b q ≡ true → leb 1 q.length && leb q.length 255 ≡ true
unfolding good_place
sized a b q h = (and_parts (leb 1 q.length && leb q.length 255) _ h).0

-- A place is good exactly if its bytes are a legal text.
pub legal_bytes : (a b : List ℕ) (q : TextPlace) → legal_text (text_at a b q) ≡ good_place a b q
unfolding legal_text
legal_bytes a b q = go (good_place a b q) refl
  where
    go : (t : Bool) → good_place a b q ≡ t → leb 1 (length (text_at a b q)) && leb (length (text_at a b q)) 255 ≡ t
    go true h =
        let within : q.length ≤ length (drop q.offset (text_numbered a b q.text)) = omega (arith, ends_within a b q h, length-drop q.offset (text_numbered a b q.text)) in
        let long : length (text_at a b q) ≡ q.length = ap length (sym (bytes_there a b q h)) ∙ length-take-le _ _ within in
        ap (λ n. leb 1 n && leb n 255) long ∙ sized a b q h
    go false h = ap (λ l. leb 1 (length l) && leb (length l) 255) (sym (no_bytes a b q h))
