-- The answers of a case, question by question.
use Rattle.std.specs.Prelude.{◌≡◌, ℕ, List, take, Some, None, Ok, Err, vec_items, Option, Result, Vec}
use Rattle.std.specs.declared.alloc.Global.{Global}
use Rattle.packed.specs.Opening.{Opens as OpensBytes, sheet_of as packed_sheet}
use Rattle.packed.specs.declared.packed.Packed.{Packed}
use Rattle.table.specs.Opening.{Opens as OpensParts, sheet_of as table_sheet}
use Rattle.table.specs.declared.parts.Parts.{Parts}
use Rattle.table.specs.declared.table.Table.{Table}
use Rattle.sheet.specs.Trees.{Trees}
use Rattle.sheet.specs.declared.fault.Refused.{Refused}
use Rattle.inside.specs.Opening.{OpensInside, GoesInside}
use Rattle.inside.specs.declared.inside.Inside.{Inside}
use Rattle.inside.specs.declared.inside.NoGroup.{NoGroup as NoGroupThere}
use Rattle.filling.specs.Filling.{fill}
use Rattle.filling.specs.Progress.{start}
use Rattle.filling.specs.declared.call.Call.{Call}
use Rattle.filling.specs.declared.fault.FillFault.{FillFault}
use Rattle.notation.specs.Calls.{call_of}
use Rattle.notation.specs.Numerals.{numbers_of}
use Rattle.notation.specs.Parts.{front, behind, parts_left}
use Rattle.lines.specs.Beginnings.{Given, slots_given, filling_given, parts_said}
use Rattle.case_text.specs.Digits.{hex_bytes}
use Rattle.case_text.specs.declared.fault.LineFault.{LineFault}
use Rattle.case_text.specs.declared.fault.LineFault.TheVariants.{Unknown as NotKnownLine, Memory as NoMemory}
use Rattle.spelled.specs.Spelling.{SpellsOut}
use Rattle.spelled.specs.declared.fault.SpelledFault.{SpelledFault}
use Rattle.spelled.specs.declared.fault.SpelledFault.TheVariants.{NotASheet, Lawless, Memory}
use Rattle.fill_cases.specs.Verbs.{verb_of, only}
use Rattle.fill_cases.specs.declared.answer.Answer.{Answer}
use Rattle.fill_cases.specs.declared.answer.Answer.TheVariants.{Ok as SaidOk, Wrote, NotOpened, NotFilled, NoGroup, Entries, Silent, Closed, Unknown}
use Rattle.fill_cases.specs.declared.case.Case.{Case}
use Rattle.fill_cases.specs.declared.case.Opened.{Opened}
use Rattle.fill_cases.specs.declared.case.Opened.TheVariants.{Whole, Inside as Within}
use Rattle.fill_cases.specs.declared.case.Case.TheVariants.{Fresh as FreshCase, Packed as PackedCase, Table as TableCase, Filling as FillingCase, Closed as ClosedCase, Unknown as UnknownCase}
use Rattle.fill_cases.specs.declared.verb.Verb.{Verb}
use Rattle.fill_cases.specs.declared.verb.Verb.TheVariants.{Packed as VPacked, Slots as VSlots, Sheet as VSheet, Filling as VFilling, Inside as VInside, Table as VTable, Cut as VCut, Read as VRead, Other as VOther}
use Rattle.fill_cases.specs.declared.work.Work.{Work}

-- A case and an answer.
abbrev pub Is : Case → Answer → Case → Answer → Type 0
Is c a d b = (d ≡ c) × (b ≡ a)

-- The store that was opened, or the reason why it was not.
abbrev pub packed_opened : Result Packed (Refused (Vec ℕ Global)) → Case
packed_opened (Ok s) = PackedCase (Whole s)
packed_opened (Err e) = ClosedCase

abbrev pub packed_said : Result Packed (Refused (Vec ℕ Global)) → Answer
packed_said (Ok s) = SaidOk
packed_said (Err e) = NotOpened e.fault

abbrev pub OpensPacked : Vec ℕ Global → Case → Answer → Type 0
OpensPacked v d b = (r : Result Packed (Refused (Vec ℕ Global))) × OpensBytes v r × Is (packed_opened r) (packed_said r) d b

abbrev pub table_opened : Result Table (Refused Parts) → Case
table_opened (Ok s) = TableCase (Whole s)
table_opened (Err e) = ClosedCase

abbrev pub table_said : Result Table (Refused Parts) → Answer
table_said (Ok s) = SaidOk
table_said (Err e) = NotOpened e.fault

abbrev pub OpensTable : Parts → Case → Answer → Type 0
OpensTable p d b = (r : Result Table (Refused Parts)) × OpensParts p r × Is (table_opened r) (table_said r) d b

-- A line that is no question of the case changes nothing.
abbrev pub NotKnown : Case → Case → Answer → Type 0
NotKnown c d b = Is c Unknown d b

-- The first line of a case.

abbrev pub BeginsPacked : Option (List ℕ) → Case → Answer → Type 0
BeginsPacked None d b = NotKnown UnknownCase d b
BeginsPacked (Some bs) d b = (v : Vec ℕ Global) × (bs ≡ vec_items v) × OpensPacked v d b

abbrev pub BeginsTable : Option Given → Case → Answer → Type 0
BeginsTable None d b = NotKnown UnknownCase d b
BeginsTable (Some g) d b = (p : Parts) × (g ≡ parts_said p) × OpensTable p d b

-- A filling begins with a new filling over the blank table.
abbrev pub BeginsFilling : Option Given → Case → Answer → Type 0
BeginsFilling None d b = NotKnown UnknownCase d b
BeginsFilling (Some g) d b = (w : Work) × (g ≡ parts_said w.parts) × (w.filling ≡ start) × Is (FillingCase w) Silent d b

-- A sheet that is spelled out and keeps the limits is a store; one that breaks them is a refused store. Neither is answered. Words that spell
-- no sheet are no question.
abbrev pub SpelledAs : Result Table SpelledFault → Case → Answer → Type 0
SpelledAs (Ok t) d b = Is (TableCase (Whole t)) Silent d b
SpelledAs (Err NotASheet) d b = NotKnown UnknownCase d b
SpelledAs (Err Lawless) d b = Is ClosedCase Silent d b
SpelledAs (Err Memory) d b = ⊥

abbrev pub BeginsSheet : List (List ℕ) → Case → Answer → Type 0
BeginsSheet ws d b = (r : Result Table SpelledFault) × SpellsOut ws r × SpelledAs r d b

-- The bytes behind `packed`.
abbrev pub bytes_given : Option (List ℕ) → Option (List ℕ)
bytes_given None = None
bytes_given (Some text) = hex_bytes text

abbrev pub Begins : Verb → Option (List ℕ) → Case → Answer → Type 0
Begins VPacked rest d b = BeginsPacked (bytes_given rest) d b
Begins VSlots rest d b = BeginsTable (slots_given (parts_left 32 rest)) d b
Begins VSheet rest d b = BeginsSheet (parts_left 32 rest) d b
Begins VFilling rest d b = BeginsFilling (filling_given (parts_left 32 rest)) d b
Begins VInside rest d b = NotKnown UnknownCase d b
Begins VTable rest d b = NotKnown UnknownCase d b
Begins VCut rest d b = NotKnown UnknownCase d b
Begins VRead rest d b = NotKnown UnknownCase d b
Begins VOther rest d b = NotKnown UnknownCase d b

-- A first line that is read so, up to the memory that it takes.
abbrev pub BeginsOrNot : Verb → Option (List ℕ) → Result (Case × Answer) LineFault → Type 0
BeginsOrNot verb rest (Ok p) = Begins verb rest p.0 p.1
BeginsOrNot verb rest (Err NotKnownLine) = Begins verb rest UnknownCase Unknown
BeginsOrNot verb rest (Err NoMemory) = Unit {0}

abbrev pub BeginsSheetOrNot : List (List ℕ) → Result (Case × Answer) LineFault → Type 0
BeginsSheetOrNot ws (Ok p) = BeginsSheet ws p.0 p.1
BeginsSheetOrNot ws (Err NotKnownLine) = BeginsSheet ws UnknownCase Unknown
BeginsSheetOrNot ws (Err NoMemory) = Unit {0}

-- Into a group of the store. Where no group stands, the case goes on with the store as it was.

abbrev pub entered_said : {A E : Type 0} → Result A E → Answer
entered_said (Ok v) = SaidOk
entered_said (Err e) = NoGroup

abbrev pub whole_entered : {S : Type 0} → Result (Inside S) (NoGroupThere S) → Opened S
whole_entered (Ok v) = Within v
whole_entered (Err e) = Whole e.below

abbrev pub inside_entered : {S : Type 0} → Result (Inside S) (NoGroupThere (Inside S)) → Opened S
inside_entered (Ok v) = Within v
inside_entered (Err e) = Within e.below

-- `inside P` asks for a place.
abbrev pub place_asked : Verb → Option (List ℕ) → Option ℕ
place_asked VPacked rest = None
place_asked VSlots rest = None
place_asked VSheet rest = None
place_asked VFilling rest = None
place_asked VInside rest = only (numbers_of 1 32 rest)
place_asked VTable rest = None
place_asked VCut rest = None
place_asked VRead rest = None
place_asked VOther rest = None

abbrev pub inside_asked : List ℕ → Option ℕ
inside_asked q = place_asked (verb_of (front 32 q)) (behind 32 q)

-- From a store to another, by the sheet that a store has.
abbrev pub StepsStore : {S St : Type 0} → (S → Trees St) → Opened S → Option ℕ → Opened S → Answer → Type 0
StepsStore sheet o None p b = (p ≡ o) × (b ≡ Unknown)
StepsStore {S} sheet (Whole s) (Some k) p b = (r : Result (Inside S) (NoGroupThere S)) × OpensInside sheet s k r × (p ≡ whole_entered r) × (b ≡ entered_said r)
StepsStore {S} sheet (Within v) (Some k) p b = (r : Result (Inside S) (NoGroupThere (Inside S))) × GoesInside sheet v k r × (p ≡ inside_entered r) × (b ≡ entered_said r)

abbrev pub StepsPacked : Opened Packed → Option ℕ → Case → Answer → Type 0
StepsPacked o place d b = (p : Opened Packed) × (d ≡ PackedCase p) × StepsStore packed_sheet o place p b

abbrev pub StepsTable : Opened Table → Option ℕ → Case → Answer → Type 0
StepsTable o place d b = (p : Opened Table) × (d ≡ TableCase p) × StepsStore table_sheet o place p b

-- The questions of a filling.
pub data FillQuestionSaid : Type 0 where
  call : Call → FillQuestionSaid
  show : FillQuestionSaid
  cut : ℕ → FillQuestionSaid
  read : FillQuestionSaid
  no_question : FillQuestionSaid

abbrev pub of_call : Option Call → FillQuestionSaid
of_call None = no_question
of_call (Some c) = call c

abbrev pub of_cut : Option ℕ → FillQuestionSaid
of_cut None = no_question
of_cut (Some n) = cut n

-- A word that stands alone.
abbrev pub alone : FillQuestionSaid → Option (List ℕ) → FillQuestionSaid
alone q None = q
alone q (Some text) = no_question

abbrev pub fill_asked_by : Verb → Option (List ℕ) → Option Call → FillQuestionSaid
fill_asked_by VPacked rest c = no_question
fill_asked_by VSlots rest c = no_question
fill_asked_by VSheet rest c = no_question
fill_asked_by VFilling rest c = no_question
fill_asked_by VInside rest c = no_question
fill_asked_by VTable rest c = alone show rest
fill_asked_by VCut rest c = of_cut (only (numbers_of 1 32 rest))
fill_asked_by VRead rest c = alone read rest
fill_asked_by VOther rest c = of_call c

abbrev pub fill_asked : List ℕ → FillQuestionSaid
fill_asked q = fill_asked_by (verb_of (front 32 q)) (behind 32 q) (call_of q)

abbrev pub fill_said : Result ℕ FillFault → Answer
fill_said (Ok p) = Wrote p
fill_said (Err f) = NotFilled f

-- A call was put to the filling: filling and table are what the call leaves, and the texts are as they were.
pub record Put (w : Work) (c : Call) (v : Work) (b : Answer) : Type 0 where
  pub answer : Result ℕ FillFault
  pub is : record { answer = answer; progress = v.filling; entries = vec_items v.parts.entries } ≡ fill (vec_items w.parts.sheet) (vec_items w.parts.template) w.filling c (vec_items w.parts.entries)
  pub sheet : v.parts.sheet ≡ w.parts.sheet
  pub template : v.parts.template ≡ w.parts.template
  pub said : b ≡ fill_said answer

-- The table is cut to its first n entries, for good.
pub record Shortened (w : Work) (n : ℕ) (p : Parts) : Type 0 where
  pub entries : vec_items p.entries ≡ take n (vec_items w.parts.entries)
  pub sheet : p.sheet ≡ w.parts.sheet
  pub template : p.template ≡ w.parts.template

-- `read` opens the entries written so far.
abbrev pub StepsFilling : Work → FillQuestionSaid → Case → Answer → Type 0
StepsFilling w (call c) d b = (v : Work) × (d ≡ FillingCase v) × Put w c v b
StepsFilling w show d b = Is (FillingCase w) Entries d b
StepsFilling w (cut n) d b = (v : Work) × (v.filling ≡ w.filling) × Shortened w n v.parts × Is (FillingCase v) Silent d b
StepsFilling w read d b = (p : Parts) × Shortened w w.filling.written p × OpensTable p d b
StepsFilling w no_question d b = NotKnown (FillingCase w) d b

-- A question in a case is answered so, and leads to this case. A refused store stays refused.
abbrev pub Steps : Case → List ℕ → Case → Answer → Type 0
Steps FreshCase q d b = Begins (verb_of (front 32 q)) (behind 32 q) d b
Steps (PackedCase s) q d b = StepsPacked s (inside_asked q) d b
Steps (TableCase s) q d b = StepsTable s (inside_asked q) d b
Steps (FillingCase w) q d b = StepsFilling w (fill_asked q) d b
Steps ClosedCase q d b = Is ClosedCase Closed d b
Steps UnknownCase q d b = Is UnknownCase Unknown d b
