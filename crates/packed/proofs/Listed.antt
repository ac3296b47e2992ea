-- The entries of a frame, by place.
use Rattle.std.proofs.Common.{◌≡◌, ℕ, zero, suc, ◌+◌, ◌*◌, ◌<◌, ◌≤◌, List, map, length, get_or, drop, Option, sym, ap, ◌∙◌, arith}
use Rattle.std.specs.List.{range_with_len}
use Rattle.std.specs.Simd.{first_chunks}
use Rattle.std.proofs.lemmas.List.FromFn.{length-map-range_with_len}
use Rattle.sheet.specs.Entries.{Entry, Nothing, at}
use Rattle.sheet.proofs.Places.{at_past}
use Rattle.packed.specs.Format.{entry_count, meant, entry, listed}
use Rattle.packed.specs.Slots.{found}
use Rattle.packed.specs.declared.slot.Slot.{Slot}
use Rattle.packed.proofs.Triples.{triple_at, word_read}

pub length_listed : (bs : List ℕ) → length (listed bs) ≡ entry_count bs
unfolding listed
length_listed bs = length-map-range_with_len (entry bs) 0 (entry_count bs)

at_counted : {St : Type 0} (f : ℕ → Entry St) (a n k : ℕ) → k < n → at (map f (range_with_len a n)) k ≡ f (a + k)
at_counted f a zero k h = absurd (omega arith)
at_counted f a (suc n) zero h = ap f (omega arith)
at_counted f a (suc n) (suc k) h = at_counted f (a + 1) n k (omega arith) ∙ ap f (omega arith)

pub at_listed : (bs : List ℕ) (k : ℕ) → k < entry_count bs → at (listed bs) k ≡ entry bs k
unfolding listed
at_listed bs k h = at_counted (entry bs) 0 (entry_count bs) k h ∙ ap (entry bs) (omega arith)

pub none_past : (bs : List ℕ) (k n : ℕ) → n ≡ entry_count bs → n ≤ k → Nothing ≡ at (listed bs) k
none_past bs k n all past = let l = length_listed bs in sym (at_past (listed bs) k (omega arith))

-- What is read from the three bytes at a place stands for the entry there.
pub slot_is : (bs : List ℕ) (k value : ℕ) (ts : List (List ℕ)) (t d : List ℕ) (s : Option Slot) → ts ≡ first_chunks 3 (entry_count bs) (drop 5 bs) → k < entry_count bs → t ≡ get_or ts k d → value ≡ get_or t 1 0 + 256 * get_or t 2 0 → found bs k s ≡ meant bs k (get_or t 0 0) value → found bs k s ≡ at (listed bs) k
slot_is bs k value ts t d s all l is number means =
    let r = triple_at bs 5 (entry_count bs) k ts t d all l is in
    let p : 5 + 3 * k + 1 ≡ 6 + 3 * k = omega arith in
    let q : 5 + 3 * k + 2 ≡ 6 + 3 * k + 1 = omega arith in
    let read = word_read bs (6 + 3 * k) _ _ value number (r.second ∙ ap (λ i. get_or bs i 0) p) (r.third ∙ ap (λ i. get_or bs i 0) q) in
    means ∙ ap (λ i. meant bs k i value) r.first ∙ ap (meant bs k (get_or bs (5 + 3 * k) 0)) read ∙ sym (at_listed bs k l)
