-- The notation of fill calls.
use Rattle.std.specs.Prelude.{ℕ, cond, List, [], ◌∷◌, Some, None, codes, Option, slice_index}
use Rattle.std.specs.Option.{option_map}
use Rattle.std.specs.Str.{bytes_eq}
use Rattle.filling.specs.declared.call.Call.{Call}
use Rattle.filling.specs.declared.call.Call.TheVariants.{Name, Mark, Literal, Open, Close, Seal}
use Rattle.notation.specs.Entries.{placed_of, marked_of}
use Rattle.notation.specs.Numerals.{numbers_in}
use Rattle.notation.specs.Parts.{front, behind, parts_left}

-- A call of each name from its numbers.
abbrev pub name_call : Option (List ℕ) → Option Call
name_call ns = option_map (λ t. Name t.0 t.1) (placed_of ns)

abbrev pub mark_call : Option (List ℕ) → Option Call
mark_call ns = option_map (λ m. Mark m.0 m.1 m.2) (marked_of ns)

abbrev pub literal_call : Option (List ℕ) → Option Call
literal_call ns = option_map (λ t. Literal t.0 t.1) (placed_of ns)

abbrev pub open_call : Option (List ℕ) → Option Call
open_call None = None
open_call (Some ns) = Some (Open (slice_index ns 0) (slice_index ns 1) (slice_index ns 2))

abbrev pub close_call : Option (List ℕ) → Option Call
close_call None = None
close_call (Some ns) = Some (Close (slice_index ns 0))

-- `seal` has nothing behind it.
abbrev pub seal_call : List (List ℕ) → Option Call
seal_call [] = Some Seal
seal_call (part ∷ parts) = None

-- A call has so many numbers behind its name, each after a single blank.
abbrev pub call_by : List ℕ → List (List ℕ) → Option Call
call_by verb fields =
    cond (bytes_eq verb (codes "name")) (name_call (numbers_in 4 fields))
    (cond (bytes_eq verb (codes "mark")) (mark_call (numbers_in 3 fields))
    (cond (bytes_eq verb (codes "literal")) (literal_call (numbers_in 4 fields))
    (cond (bytes_eq verb (codes "open")) (open_call (numbers_in 3 fields))
    (cond (bytes_eq verb (codes "close")) (close_call (numbers_in 1 fields))
    (cond (bytes_eq verb (codes "seal")) (seal_call fields) None)))))

-- The fill call that a question writes.
abbrev pub call_of : List ℕ → Option Call
call_of question = call_by (front 32 question) (parts_left 32 (behind 32 question))
