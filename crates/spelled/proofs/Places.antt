-- The texts that stand one after another in the sheet text.
use Rattle.std.proofs.Common.{◌≡◌, ℕ, ◌+◌, ◌≤◌, true, ◌&&◌, leb, List, [], ◌∷◌, ◌++◌, length, take, drop, sym, refl, ap, ◌∙◌, arith, length-append, length-drop}
use Rattle.std.proofs.lemmas.List.{take_all, drop-drop}
use Rattle.std.proofs.lemmas.Bool.{le-leb, leb-true, and_parts, and_from}
use Rattle.sheet.specs.Limits.{legal_text}
use Rattle.table.specs.Texts.{good_place, text_at}
use Rattle.table.proofs.Good.{legal_bytes, bytes_there}
use Rattle.spelled.specs.Reading.{text_place}

take_front : (b l : List ℕ) → take (length b) (b ++ l) ≡ b
take_front [] l = refl
take_front (x ∷ b) l = ap (λ r. x ∷ r) (take_front b l)

drop_front : (b l : List ℕ) → drop (length b) (b ++ l) ≡ l
drop_front [] l = refl
drop_front (x ∷ b) l = drop_front b l

-- What stands behind a text.
pub behind_text : (text b l : List ℕ) (off : ℕ) → drop off text ≡ b ++ l → drop (off + length b) text ≡ l
behind_text text b l off is = sym (drop-drop (length b) off text) ∙ ap (drop (length b)) is ∙ drop_front b l

-- The bytes at a good place are the text that stands there.
pub good_bytes : (text b l : List ℕ) (off : ℕ) → length text ≤ 65535 → drop off text ≡ b ++ l → good_place text [] (text_place off b) ≡ true → text_at text [] (text_place off b) ≡ b
good_bytes text b l off short is good =
    sym (bytes_there text [] (text_place off b) good) ∙ ap (λ x. take (length b) (drop off x)) (take_all 65535 text short) ∙ ap (take (length b)) is ∙ take_front b l

sized : (b : List ℕ) → legal_text b ≡ true → leb 1 (length b) && leb (length b) 255 ≡ true
unfolding legal_text
sized b h = h

legal_place : (text b l : List ℕ) (off : ℕ) → length text ≤ 65535 → drop off text ≡ b ++ l → legal_text b ≡ true → good_place text [] (text_place off b) ≡ true
unfolding good_place
legal_place text b l off short is legal =
    let s = sized b legal in
    let some = leb-true 1 (length b) (and_parts (leb 1 (length b)) (leb (length b) 255) s).0 in
    let n = length-drop off text in
    let m = ap length is in
    let k = length-append b l in
    let all = ap length (take_all 65535 text short) in
    and_from (leb 1 (length b) && leb (length b) 255) _ s (le-leb (off + length b) (length (take 65535 text)) (omega arith))

-- A legal text stands at its place.
pub legal_there : (text b l : List ℕ) (off : ℕ) → length text ≤ 65535 → drop off text ≡ b ++ l → legal_text b ≡ true → text_at text [] (text_place off b) ≡ b
legal_there text b l off short is legal = good_bytes text b l off short is (legal_place text b l off short is legal)

-- A text that is read there and is legal is the one that stands there.
pub read_there : (text b c l : List ℕ) (off : ℕ) → length text ≤ 65535 → drop off text ≡ b ++ l → text_at text [] (text_place off b) ≡ c → legal_text c ≡ true → b ≡ c
read_there text b c l off short is reads legal =
    sym (good_bytes text b l off short is (sym (legal_bytes text [] (text_place off b)) ∙ ap legal_text reads ∙ legal)) ∙ reads
