-- The two texts, and the places in them.
use Rattle.std.specs.Prelude.{ℕ, zero, suc, ◌+◌, Bool, cond, ◌&&◌, List, [], length, take, drop, nat_le}
use Rattle.table.specs.declared.slot.TextPlace.{TextPlace}

-- The first 65,535 bytes of a text count.
abbrev pub counted : List ℕ → List ℕ
counted bs = take 65535 bs

-- Text 0 is the sheet's, text 1 the template's. There is no other, so a place in another has no bytes.
abbrev pub text_numbered : List ℕ → List ℕ → ℕ → List ℕ
text_numbered sheet template zero = counted sheet
text_numbered sheet template (suc zero) = counted template
text_numbered sheet template (suc (suc n)) = []

-- A good place has 1 to 255 bytes and ends within its text.
unfoldable pub good_place : List ℕ → List ℕ → TextPlace → Bool
good_place sheet template q =
    (nat_le 1 q.length && nat_le q.length 255) && nat_le (q.offset + q.length) (length (text_numbered sheet template q.text))

-- The bytes at a place; a place that is not good has none.
unfoldable pub text_at : List ℕ → List ℕ → TextPlace → List ℕ
text_at sheet template q =
    cond (good_place sheet template q) (take q.length (drop q.offset (text_numbered sheet template q.text))) []
