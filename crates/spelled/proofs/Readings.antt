-- The loop that reads words one after another.
use Rattle.std.proofs.Common.{◌≡◌, ℕ, ◌+◌, ◌≤◌, List, [], ◌++◌, length, Some, None, vec_items, vec_len, Option, Vec}
use Rattle.filling.specs.declared.call.Call.{Call}
use Rattle.spelled.specs.Reading.{OpenGroup, texts_spelled, calls_of}

abbrev pub joined : List Call → Option (List Call) → Option (List Call)
joined cs None = None
joined cs (Some ds) = Some (cs ++ ds)

-- The calls so far, in front of those that the words left spell, are all; and so are the texts.
pub record SoFar {Y Z : Type 0} (calls : Vec Call Y) (text : Vec ℕ Z) (st : List OpenGroup) (left words : List (List ℕ)) : Type 0 where
  pub told : joined (vec_items calls) (calls_of (vec_len calls) (vec_len text) st left) ≡ calls_of 0 0 [] words
  pub texts : vec_items text ++ texts_spelled left ≡ texts_spelled words
  pub count : vec_len calls + length left ≡ length words
  pub short : vec_len text ≤ 65535
