-- The packed form of a sheet: what its bytes say. Numbers of 16 bits are little-endian.
--
--   byte 0          1
--   bytes 1, 2      E, the number of entries
--   bytes 3, 4      P, the number of pairs
--   then            E entries of 3 bytes: a kind and a 16-bit value
--   then            P pairs of 3 bytes: a 16-bit offset into the text and a length
--   then            the text
use Rattle.std.specs.Prelude.{ℕ, zero, suc, ◌+◌, ◌*◌, ◌/◌, ◌%◌, Bool, true, cond, ◌&&◌, List, [], map, length, take, drop, ◌==◌, nat_le, nat_lt, slice_index}
use Rattle.std.specs.List.{range_with_len}
use Rattle.sheet.specs.Entries.{Entry, Group, Name, Mark, Literal, End, Nothing}
use Rattle.packed.specs.declared.stamp.Stamp.{Stamp}
use Rattle.packed.specs.declared.stamp.Side.TheVariants.{Start, Close}

-- the 16-bit number at a byte
abbrev pub word : List ℕ → ℕ → ℕ
word bs p = slice_index bs p + 256 * slice_index bs (p + 1)

abbrev pub entry_count : List ℕ → ℕ
entry_count bs = word bs 1

abbrev pub pair_count : List ℕ → ℕ
pair_count bs = word bs 3

abbrev pub pairs_from : List ℕ → ℕ
pairs_from bs = 5 + 3 * entry_count bs

abbrev pub text_from : List ℕ → ℕ
text_from bs = pairs_from bs + 3 * pair_count bs

-- the byte at which a pair stands
abbrev pub pair_from : List ℕ → ℕ → ℕ
pair_from bs n = pairs_from bs + 3 * n

abbrev pub offset : List ℕ → ℕ → ℕ
offset bs n = word bs (pair_from bs n)

abbrev pub len : List ℕ → ℕ → ℕ
len bs n = slice_index bs (pair_from bs n + 2)

-- where in the text the pairs before this one have ended
abbrev pub free_from : List ℕ → ℕ → ℕ
free_from bs zero = 0
free_from bs (suc n) = offset bs n + len bs n

-- a pair is not empty, does not start before the previous one ends, and ends within the text
abbrev pub good_pair : List ℕ → ℕ → Bool
good_pair bs n = nat_lt 0 (len bs n) && (nat_le (free_from bs n) (offset bs n) && nat_le (text_from bs + (offset bs n + len bs n)) (length bs))

-- the first n pairs
abbrev pub good_pairs : List ℕ → ℕ → Bool
good_pairs bs zero = true
good_pairs bs (suc n) = good_pairs bs n && good_pair bs n

-- The frame is whole: the bytes do not run short, byte 0 is 1, and every pair is good.
abbrev pub framed : List ℕ → Bool
framed bs = nat_le 5 (length bs) && (slice_index bs 0 == 1 && (nat_le (text_from bs) (length bs) && good_pairs bs (pair_count bs)))

-- The text of a pair; of a pair that there is not, an empty one, which no rule lets pass.
abbrev pub pair_text : List ℕ → ℕ → List ℕ
pair_text bs n = cond (nat_lt n (pair_count bs)) (take (len bs n) (drop (text_from bs + offset bs n) bs)) []

-- Stamps are a place and a side.
abbrev pub here : ℕ → Stamp
here k = record { place = k; side = Start }

abbrev pub closing : ℕ → Stamp
closing k = record { place = k; side = Close }

abbrev pub call_site_stamp : Stamp
call_site_stamp = here 65535

-- What an entry of this kind and value at place k stands for.
abbrev pub meant : List ℕ → ℕ → ℕ → ℕ → Entry Stamp
meant bs k kind value =
    cond (nat_le kind 3) (Group value kind (here k) (here k) (closing k))
    (cond (kind == 4) (Name (pair_text bs value) (here k))
    (cond (kind == 5) (Literal (pair_text bs value) (here k))
    (cond (kind == 6) (Mark (value % 256) (value / 256) (here k))
    (cond (kind == 7) (End value) Nothing))))

abbrev pub entry : List ℕ → ℕ → Entry Stamp
entry bs k = meant bs k (slice_index bs (5 + 3 * k)) (word bs (6 + 3 * k))

-- All entries, in order.
unfoldable pub listed : List ℕ → List (Entry Stamp)
listed bs = map (entry bs) (range_with_len 0 (entry_count bs))
