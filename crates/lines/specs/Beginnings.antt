-- The entries of a table in a line, and what the first line of a case gives to make a store of.
use Rattle.std.specs.Prelude.{ℕ, List, [], ◌∷◌, ◌++◌, replicate, Some, None, vec_items, codes, Option}
use Rattle.table.specs.declared.parts.Parts.{Parts}
use Rattle.table.specs.declared.slot.Slot.{Slot}
use Rattle.table.specs.declared.slot.Slot.TheVariants.{End}
use Rattle.notation.specs.Entries.{slot_of, slot_text}
use Rattle.notation.specs.Numerals.{number_of}
use Rattle.case_text.specs.Digits.{hex_bytes}

-- The entries that words write, if each of them writes one.
abbrev pub in_front : Option Slot → Option (List Slot) → Option (List Slot)
in_front None ss = None
in_front (Some s) None = None
in_front (Some s) (Some ss) = Some (s ∷ ss)

abbrev pub slots_of : List (List ℕ) → Option (List Slot)
slots_of [] = Some []
slots_of (w ∷ ws) = in_front (slot_of w) (slots_of ws)

-- Entries are written with single blanks between them.
abbrev pub more_text : List Slot → List ℕ
more_text [] = []
more_text (s ∷ ss) = codes " " ++ (slot_text s ++ more_text ss)

abbrev pub entries_text : List Slot → List ℕ
entries_text [] = codes "none"
entries_text (s ∷ ss) = slot_text s ++ more_text ss

-- Two texts and the entries of a table, if all three are given.
pub record Given : Type 0 where
  pub sheet : List ℕ
  pub template : List ℕ
  pub entries : List Slot

abbrev pub given : Option (List Slot) → Option (List ℕ) → Option (List ℕ) → Option Given
given None a b = None
given (Some es) None b = None
given (Some es) (Some a) None = None
given (Some es) (Some a) (Some b) = Some (record { sheet = a; template = b; entries = es })

-- Behind `slots`: the sheet text, the template text, and the entries.
abbrev pub slots_given : List (List ℕ) → Option Given
slots_given [] = None
slots_given (a ∷ []) = None
slots_given (a ∷ b ∷ ws) = given (slots_of ws) (hex_bytes a) (hex_bytes b)

-- A table of so many entries, each an End of distance 0.
abbrev pub blank : Option ℕ → Option (List Slot)
blank None = None
blank (Some n) = Some (replicate n (End 0))

-- Behind `filling`: how many entries the table has, the sheet text, and the template text.
abbrev pub filling_given : List (List ℕ) → Option Given
filling_given [] = None
filling_given (n ∷ []) = None
filling_given (n ∷ a ∷ []) = None
filling_given (n ∷ a ∷ b ∷ []) = given (blank (number_of n)) (hex_bytes a) (hex_bytes b)
filling_given (n ∷ a ∷ b ∷ w ∷ ws) = None

-- What the code's parts say.
abbrev pub parts_said : Parts → Given
parts_said p = record { sheet = vec_items p.sheet; template = vec_items p.template; entries = vec_items p.entries }
