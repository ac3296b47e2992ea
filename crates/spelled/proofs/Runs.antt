-- A run of calls on a table of just the entries that they write.
use Rattle.std.proofs.Common.{◌≡◌, ℕ, suc, ◌+◌, ◌≤◌, List, [], ◌∷◌, ◌++◌, length, take, Ok, vec_items, vec_len, Vec, sym, refl, ap, ◌∙◌, subst, arith, length-append}
use Rattle.std.proofs.lemmas.List.{take_all, with_items_is}
use Rattle.std.specs.Vec.{with_items}
use Rattle.sheet.specs.Trees.{Trees, nil, name, mark, literal, group, size}
use Rattle.sheet.specs.Entries.{End, entries}
use Rattle.table.specs.Opening.{Means, AcceptsMeaning, parts_of}
use Rattle.table.specs.Slots.{listed}
use Rattle.table.specs.declared.parts.Parts.{Parts}
use Rattle.table.specs.declared.slot.Slot.{Slot}
use Rattle.table.specs.declared.table.Table.{Table}
use Rattle.filling.specs.Filling.{moved, entered}
use Rattle.filling.specs.Progress.{Progress, start}
use Rattle.filling.specs.Runs.{Accepted, table_after, Tells}
use Rattle.filling.specs.declared.call.Call.{Call}
use Rattle.filling.specs.declared.call.Call.TheVariants.{Close, Seal}
use Rattle.sheet.proofs.Places.{length_flat}
use Rattle.filling.proofs.Sealed.{sealed_runs, length_entered}
use Rattle.filling.proofs.Room.{never_too_early}
use Rattle.spelled.specs.Whole.{TellsNothing, WholeSheet}

-- The run of all calls from the start comes to the run of those that are left from here on.
pub record Left (a b : List ℕ) (first es : List Slot) (p : Progress) (calls left : List Call) : Type 0 where
  pub long : length es ≡ length first
  pub there : Accepted a b (length first) start calls → Accepted a b (length first) p left
  pub back : Accepted a b (length first) p left → Accepted a b (length first) start calls
  pub table : table_after start first calls ≡ table_after p es left

-- Each entry but the last End is told by a call of its own.
pub tells_size : (a b : List ℕ) (t : Trees ℕ) (calls : List Call) → Tells a b t calls → length calls ≡ size t
tells_size a b nil calls h = ap length h
tells_size a b (name x s r) calls (q, rest, is, text, h) = ap length is ∙ ap suc (tells_size a b r rest h)
tells_size a b (mark c k s r) calls (rest, is, h) = ap length is ∙ ap suc (tells_size a b r rest h)
tells_size a b (literal x s r) calls (q, rest, is, text, h) = ap length is ∙ ap suc (tells_size a b r rest h)
tells_size a b (group d w o c i r) calls (inner, rest, is, hi, hr) =
    let all = ap length is in
    let both = length-append inner (Close c ∷ rest) in
    omega (arith, all, both, tells_size a b i inner hi, tells_size a b r rest hr)

pub tells_entries : (a b : List ℕ) (t : Trees ℕ) (calls : List Call) → Tells a b t calls → length (entries t) ≡ length calls + 1
tells_entries a b t calls h = let e = tells_size a b t calls h in let f = length_flat t (End 0 ∷ []) in omega arith

pub too_many : (a b : List ℕ) (calls : List Call) → 65535 ≤ length calls → TellsNothing a b calls
too_many a b calls many u limits tells = let e = tells_entries a b u calls tells in let few = limits.few in absurd (omega arith)

pub refused : (a b a' b' : List ℕ) (n : ℕ) (calls : List Call) → a' ≡ a → b' ≡ b → n ≡ length calls + 1 → (Accepted a' b' n start (calls ++ Seal ∷ []) → ⊥) → TellsNothing a b calls
refused a b a' b' n calls ea eb long stop u limits tells =
    let told : Tells a' b' u calls = subst (λ (x : List ℕ). Tells x b' u calls) (sym ea) (subst (λ (y : List ℕ). Tells a y u calls) (sym eb) tells) in
    let e = tells_entries a b u calls tells in
    stop (never_too_early a' b' u calls n limits told (omega arith))

length_after : (p : Progress) (es : List Slot) (calls : List Call) → length (table_after p es calls) ≡ length es
length_after p es [] = refl
length_after p es (call ∷ calls) = length_after (moved p call) (entered p call es) calls ∙ length_entered p call es

-- The whole table means the sheet that is told.
pub record ToldBy (a b : List ℕ) (es : List Slot) (calls : List Call) : Type 0 where
  pub told : Trees ℕ
  pub tells : Tells a b told calls
  pub means : Means (listed a b es) told

pub told_by : (a b : List ℕ) (es fs : List Slot) (calls : List Call) → length es ≡ length calls + 1 → Accepted a b (length es) start (calls ++ Seal ∷ []) → fs ≡ table_after start es (calls ++ Seal ∷ []) → ToldBy a b fs calls
told_by a b es fs calls long accepted is =
    let r = sealed_runs a b es calls accepted in
    let n = tells_entries a b r.told calls r.tells in
    let m = length_after start es (calls ++ Seal ∷ []) in
    let all : take (length (entries r.told)) (table_after start es (calls ++ Seal ∷ [])) ≡ fs = take_all _ _ (omega arith) ∙ sym is in
    record { told = r.told; tells = r.tells; means = subst (λ (l : List Slot). Means (listed a b l) r.told) all r.means }

-- The vector whose slice the calls were put on.
pub told_in : {Z : Type 0} (a b a' b' : List ℕ) (v : Vec Slot Z) (es fs : List Slot) (calls : List Call) → a' ≡ a → b' ≡ b → length es ≡ vec_len v → vec_len v ≡ length calls + 1 → Accepted a' b' (length es) start (calls ++ Seal ∷ []) → fs ≡ table_after start es (calls ++ Seal ∷ []) → ToldBy a b (vec_items (with_items v fs)) calls
told_in a b a' b' v es fs calls ea eb len long accepted is =
    let m = ap length is ∙ length_after start es (calls ++ Seal ∷ []) in
    let t : ToldBy a' b' fs calls = told_by a' b' es fs calls (len ∙ long) accepted is in
    let u : ToldBy a b fs calls = subst (λ (x : List ℕ). ToldBy x b fs calls) ea (subst (λ (y : List ℕ). ToldBy a' y fs calls) eb t) in
    subst (λ (l : List Slot). ToldBy a b l calls) (sym (with_items_is v fs (m ∙ len))) u

-- What means a sheet opens as that sheet.
pub opened : (p : Parts) (t : Table) (calls : List Call) → ToldBy (vec_items p.sheet) (vec_items p.template) (vec_items p.entries) calls → AcceptsMeaning p (Ok t) → parts_of t ≡ p → WholeSheet (vec_items p.sheet) (vec_items p.template) calls (Ok t)
opened p t calls told accepts is =
    (ap (λ (q : Parts). vec_items q.sheet) is, ap (λ (q : Parts). vec_items q.template) is, subst (λ (u : Trees ℕ). Tells (vec_items p.sheet) (vec_items p.template) u calls) (sym (accepts told.told told.means)) told.tells)
