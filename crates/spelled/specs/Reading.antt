-- How words are read, one after another, as the calls that tell a sheet.
use Rattle.std.specs.Prelude.{◌≡◌, ℕ, ◌+◌, ◌*◌, ◌<◌, ◌≤◌, cond, ◌⊎◌, List, [], ◌∷◌, ◌++◌, map, reverse, length, Some, None, Ok, Err, vec_items, vec_len, Option, Result, Vec, ◌==◌}
use Rattle.sheet.specs.Numbers.{delimiter_number}
use Rattle.table.specs.declared.slot.TextPlace.{TextPlace}
use Rattle.filling.specs.declared.call.Call.{Call}
use Rattle.filling.specs.declared.call.Call.TheVariants.{Name, Mark, Literal, Open, Close}
use Rattle.notation.specs.Tokens.{Piece, name, literal, mark, opening, closing, token_of}
use Rattle.spelled.specs.declared.fault.SpelledFault.{SpelledFault}
use Rattle.spelled.specs.declared.fault.SpelledFault.TheVariants.{NotASheet, Lawless, Memory}
use Rattle.spelled.specs.declared.reading.Opened.{Opened}
use Rattle.spelled.specs.declared.reading.Reading.{Reading}

abbrev pub piece_text : Piece → List ℕ
piece_text (name b) = b
piece_text (literal b) = b
piece_text (mark c k) = []
piece_text (opening d) = []
piece_text (closing d) = []

abbrev pub word_text : Option Piece → List ℕ
word_text None = []
word_text (Some x) = piece_text x

-- The texts of the words, one after another.
abbrev pub texts_spelled : List (List ℕ) → List ℕ
texts_spelled [] = []
texts_spelled (w ∷ ws) = word_text (token_of w) ++ texts_spelled ws

-- A text in the sheet text.
abbrev pub text_place : ℕ → List ℕ → TextPlace
text_place off b = record { text = 0; offset = off; length = length b }

-- A group that is open: the stamp of its closing bracket, and the number of its delimiter.
pub record OpenGroup : Type 0 where
  pub closing : ℕ
  pub delimiter : ℕ

abbrev pub opened : ℕ → ℕ → OpenGroup
opened c d = record { closing = c; delimiter = d }

-- The groups that are open, innermost first.
abbrev pub stack : List Opened → List OpenGroup
stack gs = map (λ g. opened g.closing (delimiter_number g.delimiter)) (reverse gs)

-- What reading a word gives: its call, how long the text is then, and the groups that are then open, innermost first.
pub record Step : Type 0 where
  pub call : Call
  pub offset : ℕ
  pub open_groups : List OpenGroup

abbrev pub a_step : Call → ℕ → List OpenGroup → Step
a_step c off st = record { call = c; offset = off; open_groups = st }

-- A closing bracket has to be that of the innermost open group.
abbrev pub closing_step : ℕ → List OpenGroup → ℕ → Option Step
closing_step off [] d = None
closing_step off (g ∷ st) d = cond (g.delimiter == d) (Some (a_step (Close g.closing) off st)) None

-- The token at place p of the sheet, where the texts so far have off bytes and the groups st are open.
abbrev pub step : ℕ → ℕ → List OpenGroup → Piece → Option Step
step p off st (name b) = Some (a_step (Name (text_place off b) (4 * p + 1)) (off + length b) st)
step p off st (literal b) = Some (a_step (Literal (text_place off b) (4 * p + 1)) (off + length b) st)
step p off st (mark c k) = Some (a_step (Mark c k (4 * p + 1)) off st)
step p off st (opening d) = Some (a_step (Open d (4 * p + 4) (4 * p + 2)) off (opened (4 * p + 3) d ∷ st))
step p off st (closing d) = closing_step off st d

abbrev pub word_step : ℕ → ℕ → List OpenGroup → Option Piece → Option Step
word_step p off st None = None
word_step p off st (Some x) = step p off st x

abbrev pub in_front : Call → Option (List Call) → Option (List Call)
in_front c None = None
in_front c (Some cs) = Some (c ∷ cs)

abbrev pub then_on : Option Step → (ℕ → List OpenGroup → Option (List Call)) → Option (List Call)
then_on None more = None
then_on (Some s) more = in_front s.call (more s.offset s.open_groups)

-- At the end no group may be open.
abbrev pub at_the_end : List OpenGroup → Option (List Call)
at_the_end [] = Some []
at_the_end (g ∷ st) = None

-- The calls that the words spell.
abbrev pub calls_of : ℕ → ℕ → List OpenGroup → List (List ℕ) → Option (List Call)
calls_of p off st [] = at_the_end st
calls_of p off st (w ∷ ws) = then_on (word_step p off st (token_of w)) (λ o g. calls_of (p + 1) o g ws)

-- What the functions of the reading answer, and what they leave.

abbrev pub Placed : {Z : Type 0} → Vec ℕ Z → List ℕ → Vec ℕ Z → Result TextPlace SpelledFault → Type 0
Placed before more after (Ok q) =
    (q ≡ text_place (vec_len before) more) × (vec_items after ≡ vec_items before ++ more) × (vec_len after ≡ vec_len before + length more) × (vec_len after ≤ 65535)
Placed before more after (Err NotASheet) = ⊥
Placed before more after (Err Lawless) = 65535 < vec_len before + length more
Placed before more after (Err Memory) = Unit {0}

abbrev pub Closed : List OpenGroup → ℕ → List OpenGroup → Result Call SpelledFault → Type 0
Closed before d after (Ok call) = (off : ℕ) → closing_step off before d ≡ Some (a_step call off after)
Closed before d after (Err NotASheet) = (off : ℕ) → closing_step off before d ≡ None
Closed before d after (Err Lawless) = ⊥
Closed before d after (Err Memory) = ⊥

abbrev pub Stepped : {Z : Type 0} → ℕ → Vec ℕ Z → List OpenGroup → Piece → Vec ℕ Z → List OpenGroup → Result Call SpelledFault → Type 0
Stepped p before st x after st' (Ok call) =
    (step p (vec_len before) st x ≡ Some (a_step call (vec_len after) st')) × (vec_items after ≡ vec_items before ++ piece_text x) × (vec_len after ≤ 65535)
Stepped p before st x after st' (Err NotASheet) = step p (vec_len before) st x ≡ None
Stepped p before st x after st' (Err Lawless) = 65535 < vec_len before + length (piece_text x)
Stepped p before st x after st' (Err Memory) = Unit {0}

-- Too many words, or too much text.
abbrev pub TooMuch : List (List ℕ) → Type 0
TooMuch ws = (65535 ≤ length ws) ⊎ (65535 < length (texts_spelled ws))

abbrev pub Reads : List (List ℕ) → Result Reading SpelledFault → Type 0
Reads ws (Ok r) = (calls_of 0 0 [] ws ≡ Some (vec_items r.calls)) × (vec_items r.text ≡ texts_spelled ws) × (vec_len r.text ≤ 65535)
Reads ws (Err NotASheet) = calls_of 0 0 [] ws ≡ None
Reads ws (Err Lawless) = TooMuch ws
Reads ws (Err Memory) = Unit {0}
