-- The first word of a question.
use Rattle.std.specs.Prelude.{ℕ, cond, List, [], ◌∷◌, Some, None, codes, Option}
use Rattle.std.specs.Str.{bytes_eq}
use Rattle.fill_cases.specs.declared.verb.Verb.{Verb}
use Rattle.fill_cases.specs.declared.verb.Verb.TheVariants.{Packed, Slots, Sheet, Filling, Inside, Table, Cut, Read, Other}

abbrev pub verb_of : List ℕ → Verb
verb_of word =
    cond (bytes_eq word (codes "packed")) Packed
    (cond (bytes_eq word (codes "slots")) Slots
    (cond (bytes_eq word (codes "sheet")) Sheet
    (cond (bytes_eq word (codes "filling")) Filling
    (cond (bytes_eq word (codes "inside")) Inside
    (cond (bytes_eq word (codes "table")) Table
    (cond (bytes_eq word (codes "cut")) Cut
    (cond (bytes_eq word (codes "read")) Read Other)))))))

-- The only number of a list of numbers.
abbrev pub only : Option (List ℕ) → Option ℕ
only None = None
only (Some []) = None
only (Some (n ∷ [])) = Some n
only (Some (n ∷ m ∷ ns)) = None
