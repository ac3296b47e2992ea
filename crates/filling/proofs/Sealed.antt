-- A run that ends in `seal` leaves the sheet that its calls tell.
use Rattle.std.proofs.Common.{◌≡◌, ℕ, ◌+◌, ◌≤◌, min, true, false, List, [], ◌∷◌, ◌++◌, length, take, set, None, sym, refl, ap, ◌∙◌, ⊎_elim, append_assoc, append-nil, arith, length-set}
use Rattle.std.proofs.lemmas.Bool.{cases_Bool}
use Rattle.std.proofs.lemmas.Bool.Decides.{nat_tests}
use Rattle.sheet.specs.Trees.{Trees, nil, name, mark, literal}
use Rattle.sheet.specs.Entries.{End, flat, entries}
use Rattle.table.specs.Opening.{Means}
use Rattle.table.specs.Slots.{listed}
use Rattle.table.specs.Texts.{text_at}
use Rattle.table.specs.declared.slot.Slot.{Slot}
use Rattle.table.specs.declared.slot.Slot.TheVariants.{Name as SName, Mark as SMark, Literal as SLiteral, End as SEnd}
use Rattle.table.proofs.Good.{legal_bytes}
use Rattle.filling.specs.Causes.{is_sealed, is_waiting, none_open, refusal}
use Rattle.filling.specs.Filling.{moved, entered, close_at, state_after}
use Rattle.filling.specs.Progress.{Progress, start}
use Rattle.filling.specs.Runs.{Accepted, progress_after, table_after, Tells, SealedRuns}
use Rattle.filling.specs.declared.call.Call.{Call}
use Rattle.filling.specs.declared.call.Call.TheVariants.{Name, Mark, Literal, Open, Close, Seal}
use Rattle.filling.specs.declared.call.State.TheVariants.{Open as IsOpen}
use Rattle.filling.proofs.Fits.{fit_open, fit_sound, name_fits, literal_fits, mark_fits}
use Rattle.sheet.proofs.Places.{flat_append, length_flat}
use Rattle.filling.proofs.Laid.{Frame, laid}
use Rattle.filling.proofs.Steps.{Placed, Stands, stands_first, one_more, how_many, with_leaf, with_open, with_close}

-- A call after which the filling is not sealed brings a run on.
next : (a b : List ℕ) (es : List Slot) (p : Progress) (cs : List Call) (call : Call) → is_sealed (moved p call).state ≡ false → refusal a b (length es) p call ≡ None → Stands a b es p cs → Stands a b (entered p call es) (moved p call) (cs ++ call ∷ [])
next a b es p cs (Name q s) open-yet k st =
    with_leaf a b es p cs (SName q s) (name (text_at a b q) s nil) (Name q s) IsOpen st (grind (arith, nat_tests)) refl refl (q, [], refl, refl, refl) (name_fits _ s (legal_bytes a b q ∙ grind (arith, nat_tests))) (λ w v. tt)
next a b es p cs (Mark c j s) open-yet k st =
    with_leaf a b es p cs (SMark c j s) (mark c j s nil) (Mark c j s) (state_after c) st (grind (arith, nat_tests)) refl refl ([], refl, refl) (mark_fits c j s (grind (arith, nat_tests))) (λ w v. grind (arith, nat_tests))
next a b es p cs (Literal q s) open-yet k st =
    with_leaf a b es p cs (SLiteral q s) (literal (text_at a b q) s nil) (Literal q s) IsOpen st (grind (arith, nat_tests)) refl refl (q, [], refl, refl, refl) (literal_fits _ s (legal_bytes a b q ∙ grind (arith, nat_tests))) (λ w v. grind (arith, nat_tests))
next a b es p cs (Open d w o) open-yet k st =
    with_open a b es p cs d w o st (grind (arith, nat_tests)) (grind (arith, nat_tests)) (grind (arith, nat_tests)) (grind (arith, nat_tests))
next a b es p cs (Close s) open-yet k st =
    with_close a b es p.written p.groups cs s st.frames st.top st.written_is (grind (arith, nat_tests)) st.placed st.told st.kept (fit_open p.state st.top (grind (arith, nat_tests)) st.fit) st.shallow (grind (arith, nat_tests))
next a b es p cs Seal open-yet k st = absurd (cc)

-- The table keeps its length.
length_closed : (gs : List ℕ) (w s : ℕ) (es : List Slot) → length (close_at gs w s es) ≡ length es
length_closed [] w s es = refl
length_closed (g ∷ gs) w s es = length-set (set es g _) w _ ∙ length-set es g _

pub length_entered : (p : Progress) (call : Call) (es : List Slot) → length (entered p call es) ≡ length es
length_entered p (Name q s) es = length-set es _ _
length_entered p (Mark c k s) es = length-set es _ _
length_entered p (Literal q s) es = length-set es _ _
length_entered p (Open d w o) es = length-set es _ _
length_entered p (Close s) es = length_closed p.groups p.written s es
length_entered p Seal es = length-set es _ _

-- What a run leaves that goes on from p and es with these calls and `seal`, when others were put before.
record Ends (a b : List ℕ) (es : List Slot) (p : Progress) (before calls : List Call) : Type 0 where
  told : Trees ℕ
  tells : Tells a b told (before ++ calls)
  all : (progress_after p (calls ++ Seal ∷ [])).written ≡ length (entries told)
  means : Means (listed a b (take (length (entries told)) (table_after p es (calls ++ Seal ∷ [])))) told

none_left : (gs : List ℕ) (fs : List Frame) → none_open gs ≡ true → Placed gs fs → fs ≡ []
none_left [] [] h k = refl
none_left [] (f ∷ fs) h k = absurd k
none_left (g ∷ gs) fs h k = cc

sealing : (a b : List ℕ) (es : List Slot) (p : Progress) (cs : List Call) → refusal a b (length es) p Seal ≡ None → Stands a b es p cs → Ends a b es p cs []
sealing a b es p cs k st =
    let w = p.written in
    let t = st.top in
    let none : st.frames ≡ [] = none_left p.groups st.frames (grind (arith, nat_tests)) st.placed in
    let room : w + 1 ≤ min 65535 (length es) = grind (arith, nat_tests) in
    let is : listed a b (take w es) ≡ flat t [] = st.written_is ∙ ap (λ fs. laid fs t) none in
    let size_is : w + 1 ≡ length (entries t) = omega (arith, sym (how_many a b es w st.within) ∙ ap length is, length_flat t [], length_flat t (End 0 ∷ [])) in
    let free : is_waiting p.state ≡ false = grind (arith, nat_tests) in
    record {
      told = t;
      tells = rw append-nil (rw none at st.told);
      all = size_is;
      means =
          record {
            limits = record { sound = fit_sound t (fit_open p.state t free st.fit); shallow = omega (arith, st.shallow); few = omega arith };
            flat = flat_append t [] (End 0 ∷ []) ∙ sym (ap (λ l. l ++ End 0 ∷ []) is) ∙ sym (one_more a b es w (SEnd 0) (omega arith)) ∙ ap (λ n. listed a b (take n (set es w (SEnd 0)))) size_is;
          };
    }

-- Nothing is accepted after `seal`.
sealed_twice : {A : Type 0} (a b : List ℕ) (n : ℕ) (p : Progress) (calls : List Call) → is_sealed p.state ≡ true → Accepted a b n p (calls ++ Seal ∷ []) → A
sealed_twice a b n p [] h (k, _) = absurd (grind arith)
sealed_twice a b n p (call ∷ calls) h (k, _) = absurd (grind arith)

run_on : (a b : List ℕ) (es : List Slot) (p : Progress) (before calls : List Call) → Stands a b es p before → Accepted a b (length es) p (calls ++ Seal ∷ []) → Ends a b es p before calls
run_on a b es p before [] st (k, _) = sealing a b es p before k st
run_on a b es p before (call ∷ calls) st (k, more) =
    ⊎_elim
    (λ sealed. sealed_twice a b (length es) (moved p call) calls sealed more)
    (λ open-yet.
    let r = run_on a b (entered p call es) (moved p call) (before ++ call ∷ []) calls (next a b es p before call open-yet k st) (rw (length_entered p call es) more) in
    record { told = r.told; tells = rw append_assoc at r.tells; all = r.all; means = r.means })
    (cases_Bool (is_sealed (moved p call).state))

pub sealed_runs : (a b : List ℕ) → SealedRuns a b
sealed_runs a b es calls accepted =
    let r = run_on a b es start [] calls (stands_first a b es) accepted in
    record { told = r.told; tells = r.tells; all = r.all; means = r.means }
