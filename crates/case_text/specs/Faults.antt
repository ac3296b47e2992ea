-- What a piece of a line gives.
use Rattle.std.specs.Prelude.{◌≡◌, Some, None, Ok, Err, Option, Result}
use Rattle.hex.specs.declared.error.FromHexError.{FromHexError}
use Rattle.hex.specs.declared.error.FromHexError.TheVariants.{InvalidHexCharacter, OddLength, InvalidStringLength, OutOfMemory}
use Rattle.case_text.specs.declared.fault.LineFault.{LineFault}
use Rattle.case_text.specs.declared.fault.LineFault.TheVariants.{Unknown, Memory}

-- Memory may run out; otherwise the code's answer says what the piece says, and the piece is refused exactly if it says nothing.
abbrev pub Gives : {T A : Type 0} → (T → A) → Option A → Result T LineFault → Type 0
Gives said o (Ok x) = o ≡ Some (said x)
Gives said o (Err Unknown) = o ≡ None
Gives said o (Err Memory) = Unit {0}

-- What an error of the library that decodes says of a piece.
abbrev pub decode_fault : FromHexError → LineFault
decode_fault (InvalidHexCharacter digit at) = Unknown
decode_fault OddLength = Unknown
decode_fault InvalidStringLength = Unknown
decode_fault OutOfMemory = Memory
