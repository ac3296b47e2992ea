-- From what was read and filled to what the words spell.
use Rattle.std.proofs.Common.{◌≡◌, ℕ, ◌≤◌, List, [], length, Ok, Err, vec_items, vec_len, ◌∙◌, subst, arith}
use Rattle.table.specs.Opening.{sheet_of}
use Rattle.table.specs.declared.table.Table.{Table}
use Rattle.table.proofs.Opened.{its_sheet}
use Rattle.filling.specs.Runs.{Tells}
use Rattle.filling.specs.declared.call.Call.{Call}
use Rattle.spelled.specs.Whole.{WholeSheet, TellsNothing}
use Rattle.spelled.specs.Reading.{Reads}
use Rattle.spelled.specs.Spelling.{SpellsOut}
use Rattle.spelled.specs.declared.fault.SpelledFault.{SpelledFault}
use Rattle.spelled.specs.declared.fault.SpelledFault.TheVariants.{NotASheet, Lawless, Memory}
use Rattle.spelled.specs.declared.reading.Reading.{Reading}
use Rattle.spelled.specs.Faults.{spelled_fault}
use Rattle.spelled.specs.declared.fault.WholeFault.{WholeFault}
use Rattle.spelled.specs.declared.fault.WholeFault.TheVariants.{Refused, Memory as WholeMemory}
use Rattle.spelled.proofs.Laws.{told_spelled, not_a_sheet, too_much, not_lawful}

pub unread : (ws : List (List ℕ)) (e : SpelledFault) → Reads ws (Err e) → SpellsOut ws (Err e)
unread ws NotASheet h = not_a_sheet ws h
unread ws Lawless h = too_much ws h
unread ws Memory h = tt

room : (r : Reading) → vec_len r.text ≤ 65535 → length (vec_items r.text) ≤ 65535
room r h = let len : vec_len r.text ≡ length (vec_items r.text) = r.text.ok.0 in omega arith

pub filled_out : (ws : List (List ℕ)) (r : Reading) (calls : List Call) (template : List ℕ) (t : Table) → Reads ws (Ok r) → calls ≡ vec_items r.calls → template ≡ [] → WholeSheet (vec_items r.text) template calls (Ok t) → SpellsOut ws (Ok t)
filled_out ws r calls template t (is, texts, short) same none (its-text, its-template, tells) =
    let told : Tells (vec_items r.text) [] (sheet_of t) calls = subst (λ (l : List ℕ). Tells (vec_items r.text) l (sheet_of t) calls) none tells in
    let s = told_spelled (vec_items r.text) (sheet_of t) (vec_items r.calls) ws (room r short) (its_sheet t).limits (subst (λ (l : List Call). Tells (vec_items r.text) [] (sheet_of t) l) same told) is texts in
    (s.0, its-text ∙ s.1, its-template ∙ none)

pub refused_out : (ws : List (List ℕ)) (r : Reading) (calls : List Call) (template : List ℕ) (f : WholeFault) → Reads ws (Ok r) → calls ≡ vec_items r.calls → template ≡ [] → WholeSheet (vec_items r.text) template calls (Err f) → SpellsOut ws (Err (spelled_fault f))
refused_out ws r calls template Refused (is, texts, short) same none nothing =
    let without : TellsNothing (vec_items r.text) [] calls = subst (λ (l : List ℕ). TellsNothing (vec_items r.text) l calls) none nothing in
    not_lawful (vec_items r.text) (vec_items r.calls) ws (room r short) is texts (subst (λ (l : List Call). TellsNothing (vec_items r.text) [] l) same without)
refused_out ws r calls template WholeMemory read same none nothing = tt
