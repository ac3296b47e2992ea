-- The entries that the slots of a table stand for, by place.
use Rattle.std.proofs.Common.{◌≡◌, ℕ, zero, suc, ◌<◌, List, [], ◌∷◌, length, get_or, Some, None, Option, Bor, sym, refl, ap, ◌∙◌, arith}
use Rattle.std.specs.Option.{option_copied}
use Rattle.std.specs.Slice.{IsItemAt}
use Rattle.sheet.specs.Entries.{at}
use Rattle.sheet.proofs.Places.{at_past}
use Rattle.table.specs.Slots.{slot_meant, listed, found}
use Rattle.table.specs.declared.slot.Slot.{Slot}

pub length_listed : (a b : List ℕ) (xs : List Slot) → length xs ≡ length (listed a b xs)
unfolding listed
length_listed a b [] = refl
length_listed a b (x ∷ xs) = ap suc (length_listed a b xs)

pub at_listed : (a b : List ℕ) (xs : List Slot) (k : ℕ) (d : Slot) → k < length xs → slot_meant a b (get_or xs k d) ≡ at (listed a b xs) k
unfolding listed
at_listed a b [] k d h = absurd (omega arith)
at_listed a b (x ∷ xs) zero d h = refl
at_listed a b (x ∷ xs) (suc k) d h = at_listed a b xs k d (omega arith)

-- What `get` finds stands for the entry at its place.
pub found_at : (a b : List ℕ) (xs : List Slot) (k : ℕ) (r : Option (Bor Slot)) (s : Option Slot) → IsItemAt xs k r → s ≡ option_copied r → found a b s ≡ at (listed a b xs) k
found_at a b xs k None s h e = ap (found a b) e ∙ sym (at_past (listed a b xs) k (omega (arith, length_listed a b xs, h.3)))
found_at a b xs k (Some x) s h e = ap (found a b) e ∙ (ap (slot_meant a b) h.1 ∙ at_listed a b xs k x.now h.3.0)
