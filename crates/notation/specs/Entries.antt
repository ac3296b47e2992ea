-- The notation of a table's entries.
use Rattle.std.specs.Prelude.{◌≡◌, ℕ, ◌≤◌, cond, List, [], ◌∷◌, ◌++◌, Some, None, codes, decimal, Option, slice_index}
use lib.Utf8.{scalar}
use Rattle.std.specs.Char.{IsScalar}
use Rattle.std.specs.List.{AllByRecursion}
use Rattle.std.specs.Option.{option_map}
use Rattle.std.specs.Str.{bytes_eq}
use Rattle.table.specs.declared.slot.Slot.{Slot}
use Rattle.table.specs.declared.slot.Slot.TheVariants.{Group, Name, Mark, Literal, End}
use Rattle.table.specs.declared.slot.TextPlace.{TextPlace}
use Rattle.notation.specs.Numerals.{numbers_in}
use Rattle.notation.specs.Parts.{front, behind, parts_left}

-- A number that is no character's code stands for the replacement character.
abbrev pub character_of : ℕ → ℕ
character_of n = cond (scalar n) n 65533

-- The place of a text: which text, where it begins there, and how long it is.
abbrev pub place_of : List ℕ → TextPlace
place_of ns = record { text = slice_index ns 0; offset = slice_index ns 1; length = slice_index ns 2 }

-- The place and the stamp of a text from its numbers, and the character, the spacing and the stamp of a mark.
abbrev pub placed_of : Option (List ℕ) → Option (TextPlace × ℕ)
placed_of None = None
placed_of (Some ns) = Some (place_of ns, slice_index ns 3)

abbrev pub marked_of : Option (List ℕ) → Option (ℕ × ℕ × ℕ)
marked_of None = None
marked_of (Some ns) = Some (character_of (slice_index ns 0), slice_index ns 1, slice_index ns 2)

-- An entry of each kind from its numbers.
abbrev pub group_of : Option (List ℕ) → Option Slot
group_of None = None
group_of (Some ns) = Some (Group (slice_index ns 0) (slice_index ns 1) (slice_index ns 2) (slice_index ns 3) (slice_index ns 4))

abbrev pub name_of : Option (List ℕ) → Option Slot
name_of ns = option_map (λ t. Name t.0 t.1) (placed_of ns)

abbrev pub mark_of : Option (List ℕ) → Option Slot
mark_of ns = option_map (λ m. Mark m.0 m.1 m.2) (marked_of ns)

abbrev pub literal_of : Option (List ℕ) → Option Slot
literal_of ns = option_map (λ t. Literal t.0 t.1) (placed_of ns)

abbrev pub end_of : Option (List ℕ) → Option Slot
end_of None = None
end_of (Some ns) = Some (End (slice_index ns 0))

-- The kind is told by a letter, and has so many numbers behind it, each after a colon.
abbrev pub slot_by : List ℕ → List (List ℕ) → Option Slot
slot_by kind fields =
    cond (bytes_eq kind (codes "G")) (group_of (numbers_in 5 fields))
    (cond (bytes_eq kind (codes "N")) (name_of (numbers_in 4 fields))
    (cond (bytes_eq kind (codes "M")) (mark_of (numbers_in 3 fields))
    (cond (bytes_eq kind (codes "L")) (literal_of (numbers_in 4 fields))
    (cond (bytes_eq kind (codes "E")) (end_of (numbers_in 1 fields)) None))))

-- The entry that a word writes.
abbrev pub slot_of : List ℕ → Option Slot
slot_of word = slot_by (front 58 word) (parts_left 58 (behind 58 word))

-- Each number after a colon.
abbrev pub after_colons : List ℕ → List ℕ
after_colons [] = []
after_colons (n ∷ ns) = codes ":" ++ (decimal n ++ after_colons ns)

abbrev pub slot_letter : Slot → List ℕ
slot_letter (Group distance delimiter whole opening closing) = codes "G"
slot_letter (Name place stamp) = codes "N"
slot_letter (Mark character spacing stamp) = codes "M"
slot_letter (Literal place stamp) = codes "L"
slot_letter (End distance) = codes "E"

abbrev pub slot_numbers : Slot → List ℕ
slot_numbers (Group distance delimiter whole opening closing) = distance ∷ delimiter ∷ whole ∷ opening ∷ closing ∷ []
slot_numbers (Name place stamp) = place.text ∷ place.offset ∷ place.length ∷ stamp ∷ []
slot_numbers (Mark character spacing stamp) = character ∷ spacing ∷ stamp ∷ []
slot_numbers (Literal place stamp) = place.text ∷ place.offset ∷ place.length ∷ stamp ∷ []
slot_numbers (End distance) = distance ∷ []

-- How a place is written in an entry.
abbrev pub place_text : TextPlace → List ℕ
place_text place = decimal place.text ++ (codes ":" ++ (decimal place.offset ++ (codes ":" ++ decimal place.length)))

-- How an entry is written.
abbrev pub slot_text : Slot → List ℕ
slot_text s = slot_letter s ++ after_colons (slot_numbers s)

-- What a mark has for its character is one.
abbrev pub Character : Slot → Type 0
Character (Group distance delimiter whole opening closing) = Unit {0}
Character (Name place stamp) = Unit {0}
Character (Mark character spacing stamp) = IsScalar character
Character (Literal place stamp) = Unit {0}
Character (End distance) = Unit {0}

-- An entry whose numbers have 32 bits is read back from what is written of it.
abbrev pub ReadsBack : Slot → Type 0
ReadsBack s = AllByRecursion (λ n. n ≤ 4294967295) (slot_numbers s) → Character s → slot_of (slot_text s) ≡ Some s
