-- Where a filling stands after a run of accepted calls, and how one more call brings it on.
use Rattle.std.proofs.Common.{◌≡◌, ℕ, suc, ◌+◌, ◌-◌, ◌<◌, ◌≤◌, true, false, List, [], ◌∷◌, ◌++◌, map, length, get_or, take, set, sym, refl, ap, ◌∙◌, arith, length-set, length-take-le, get_or-take}
use lib.Seq.{map-set, take-set-lt, set-append_seam, drop-append_seam}
use Rattle.std.proofs.lemmas.List.{take_more_set, map_push}
use Rattle.sheet.specs.Trees.{Trees, nil, size, depth, then}
use Rattle.sheet.specs.Entries.{Entry, Group, Name, Mark, Literal, End, Nothing, flat, first, at}
use Rattle.sheet.specs.Limits.{StartsWithName}
use Rattle.table.specs.Slots.{slot_meant, listed}
use Rattle.table.specs.declared.slot.Slot.{Slot}
use Rattle.table.specs.declared.slot.Slot.TheVariants.{Group as SGroup, Name as SName, Mark as SMark, Literal as SLiteral, End as SEnd}
use Rattle.table.proofs.Listed.{length_listed, at_listed}
use Rattle.filling.specs.Causes.{is_waiting, nothing_to_close}
use Rattle.filling.specs.Filling.{closed, nowhere, close_at, but_innermost}
use Rattle.filling.specs.Progress.{Progress, progress, start}
use Rattle.filling.specs.Runs.{Tells}
use Rattle.filling.specs.declared.call.Call.{Call}
use Rattle.filling.specs.declared.call.Call.TheVariants.{Open, Close}
use Rattle.filling.specs.declared.call.State.{State}
use Rattle.filling.specs.declared.call.State.TheVariants.{Open as IsOpen}
use Rattle.filling.proofs.Fits.{Fit, depth_then, fit_then, fit_open, nothing_fits, group_fits}
use Rattle.filling.proofs.Laid.{Frame, begun, ended, laid, laid_then, laid_closed, length_laid}
use Rattle.filling.proofs.Told.{Told, told_then, told_open, told_close}

-- The open groups stand where their Groups were written.
abbrev pub Placed : List ℕ → List Frame → Type 0
Placed [] [] = Unit {0}
Placed [] (f ∷ fs) = ⊥
Placed (g ∷ gs) [] = ⊥
Placed (g ∷ gs) (f ∷ fs) = (g ≡ length (laid fs f.before)) × Placed gs fs

-- What was told before each open group keeps the limits.
abbrev pub Kept : List Frame → Type 0
Kept [] = Unit {0}
Kept (f ∷ fs) = (f.delimiter ≤ 3) × Fit IsOpen f.before × (length fs + depth f.before ≤ 60) × Kept fs

pub record Stands (a b : List ℕ) (es : List Slot) (p : Progress) (cs : List Call) : Type 0 where
  -- the open groups, innermost first, and the trees told of the innermost level
  pub frames : List Frame
  pub top : Trees ℕ
  pub written_is : listed a b (take p.written es) ≡ laid frames top
  pub within : p.written ≤ length es
  pub placed : Placed p.groups frames
  pub told : Told a b cs frames top
  pub kept : Kept frames
  pub fit : Fit p.state top
  pub shallow : length frames + depth top ≤ 60

pub stands_first : (a b : List ℕ) (es : List Slot) → Stands a b es start []
unfolding listed
stands_first a b es =
    record { frames = []; top = nil; written_is = refl; within = omega arith; placed = tt; told = refl; kept = tt; fit = nothing_fits; shallow = omega arith }

pub as_many : (gs : List ℕ) (fs : List Frame) → Placed gs fs → length gs ≡ length fs
as_many [] [] h = refl
as_many [] (f ∷ fs) h = absurd h
as_many (g ∷ gs) [] h = absurd h
as_many (g ∷ gs) (f ∷ fs) h = ap suc (as_many gs fs h.1)

-- One more entry at the end of what is written.
pub one_more : (a b : List ℕ) (es : List Slot) (w : ℕ) (s : Slot) → w < length es → listed a b (take (w + 1) (set es w s)) ≡ listed a b (take w es) ++ slot_meant a b s ∷ []
unfolding listed
one_more a b es w s h = ap (map (slot_meant a b)) (take_more_set es w s h) ∙ map_push (slot_meant a b) (take w es) s

-- A name, mark or literal.
pub with_leaf : (a b : List ℕ) (es : List Slot) (p : Progress) (cs : List Call) (s : Slot) (t : Trees ℕ) (call : Call) (r : State) → Stands a b es p cs → p.written < length es → slot_meant a b s ∷ [] ≡ flat t [] → depth t ≡ 0 → Tells a b t (call ∷ []) → Fit r t → (is_waiting p.state ≡ true → (v : Trees ℕ) → StartsWithName (then t v)) → Stands a b (set es p.written s) (progress r (p.written + 1) p.groups) (cs ++ call ∷ [])
with_leaf a b es p cs s t call r st room one low tells fits named =
    record {
      frames = st.frames;
      top = then st.top t;
      written_is = one_more a b es p.written s room ∙ ap (λ l. l ++ slot_meant a b s ∷ []) st.written_is ∙ ap (λ l. laid st.frames st.top ++ l) one ∙ sym (laid_then st.frames st.top t);
      within = omega (arith, length-set es p.written s);
      placed = st.placed;
      told = told_then a b st.frames st.top t cs (call ∷ []) st.told tells;
      kept = st.kept;
      fit = fit_then p.state r st.top t st.fit fits named;
      shallow = let e = depth_then st.top t in let d = st.shallow in omega arith;
    }

pub how_many : (a b : List ℕ) (es : List Slot) (w : ℕ) → w ≤ length es → length (listed a b (take w es)) ≡ w
how_many a b es w h = sym (length_listed a b (take w es)) ∙ length-take-le w es h

pub with_open : (a b : List ℕ) (es : List Slot) (p : Progress) (cs : List Call) (d w o : ℕ) → Stands a b es p cs → p.written < length es → is_waiting p.state ≡ false → d ≤ 3 → length p.groups < 60 → Stands a b (set es p.written (SGroup 0 d w o 0)) (progress IsOpen (p.written + 1) (p.written ∷ p.groups)) (cs ++ Open d w o ∷ [])
with_open a b es p cs d w o st room free few deep =
    let f : Frame = record { before = st.top; delimiter = d; whole = w; opening = o } in
    let s : Slot = SGroup 0 d w o 0 in
    record {
      frames = f ∷ st.frames;
      top = nil;
      written_is = one_more a b es p.written s room ∙ ap (λ l. l ++ begun f ∷ []) st.written_is;
      within = omega (arith, length-set es p.written s);
      placed = (sym (how_many a b es p.written st.within) ∙ ap length st.written_is, st.placed);
      told = told_open a b st.frames st.top d w o cs st.told;
      kept = (few, fit_open p.state st.top free st.fit, st.shallow, st.kept);
      fit = nothing_fits;
      shallow = let e = as_many p.groups st.frames st.placed in omega arith;
    }

-- A Group that is completed, as an entry.
abbrev completed : Entry ℕ → ℕ → ℕ → Entry ℕ
completed (Group x d w o c) far s = Group far d w o s
completed (Name b t) far s = Name b t
completed (Mark c k t) far s = Mark c k t
completed (Literal b t) far s = Literal b t
completed (End x) far s = End x
completed Nothing far s = Nothing

closed_meant : (a b : List ℕ) (x : Slot) (far s : ℕ) → slot_meant a b (closed x far s) ≡ completed (slot_meant a b x) far s
closed_meant a b (SGroup x d w o c) far s = refl
closed_meant a b (SName q t) far s = refl
closed_meant a b (SMark c k t) far s = refl
closed_meant a b (SLiteral q t) far s = refl
closed_meant a b (SEnd x) far s = refl

-- The Group of the innermost group, where it was written.
there : (a b : List ℕ) (es : List Slot) (w : ℕ) (f : Frame) (fs : List Frame) (t : Trees ℕ) → w ≤ length es → listed a b (take w es) ≡ laid (f ∷ fs) t → length (laid fs f.before) < w → slot_meant a b (get_or es (length (laid fs f.before)) nowhere) ≡ begun f
there a b es w f fs t within is g =
    let k : ℕ = length (laid fs f.before) in
    let long : k < length (take w es) = let l = length-take-le w es within in omega arith in
    ap (slot_meant a b) (sym (get_or-take w es k nowhere g)) ∙ at_listed a b (take w es) k nowhere long ∙ ap (λ l. at l k) is ∙ ap first (drop-append_seam (laid fs f.before) (begun f ∷ flat t []))

completes : (a b : List ℕ) (es : List Slot) (w : ℕ) (f : Frame) (fs : List Frame) (t : Trees ℕ) (x : Slot) → listed a b (take w es) ≡ laid (f ∷ fs) t → length (laid fs f.before) < w → listed a b (take w (set es (length (laid fs f.before)) x)) ≡ laid fs f.before ++ slot_meant a b x ∷ flat t []
unfolding listed
completes a b es w f fs t x is g =
    let k : ℕ = length (laid fs f.before) in
    ap (map (slot_meant a b)) (take-set-lt w es k x g) ∙ map-set (slot_meant a b) (take w es) k x ∙ ap (λ l. set l k (slot_meant a b x)) is ∙ set-append_seam (laid fs f.before) (begun f) (flat t []) (slot_meant a b x)

closes : (a b : List ℕ) (es : List Slot) (w : ℕ) (gs : List ℕ) (f : Frame) (fs : List Frame) (t : Trees ℕ) (cs : List Call) (s : ℕ) → listed a b (take w es) ≡ laid (f ∷ fs) t → w < length es → Placed gs fs → Told a b cs (f ∷ fs) t → Kept (f ∷ fs) → Fit IsOpen t → suc (length fs) + depth t ≤ 60 → Stands a b (close_at (length (laid fs f.before) ∷ gs) w s es) (progress IsOpen (w + 1) gs) (cs ++ Close s ∷ [])
closes a b es w gs f fs t cs s is room placed told kept fit shallow =
    let k : ℕ = length (laid fs f.before) in
    let all : w ≡ k + suc (size t) = sym (how_many a b es w (omega arith)) ∙ ap length is ∙ length_laid f fs t in
    let far : w - k ≡ suc (size t) = omega arith in
    let x : Slot = closed (get_or es k nowhere) (w - k) s in
    let group-is : slot_meant a b x ≡ Group (suc (size t)) f.delimiter f.whole f.opening s
    = closed_meant a b (get_or es k nowhere) (w - k) s ∙ ap (λ e. completed e (w - k) s) (there a b es w f fs t (omega arith) is (omega arith)) ∙ ap (λ n. Group n f.delimiter f.whole f.opening s) far in
    let room-then : w < length (set es k x) = let l = length-set es k x in omega arith in
    record {
      frames = fs;
      top = then f.before (ended f s t);
      written_is =
          one_more a b (set es k x) w (SEnd (w - k)) room-then
          ∙ ap (λ l. l ++ End (w - k) ∷ []) (completes a b es w f fs t x is (omega arith) ∙ ap (λ e. laid fs f.before ++ e ∷ flat t []) group-is)
          ∙ ap (λ n. (laid fs f.before ++ Group (suc (size t)) f.delimiter f.whole f.opening s ∷ flat t []) ++ End n ∷ []) far
          ∙ sym (laid_closed f fs s t);
      within = omega (arith, length-set (set es k x) w (SEnd (w - k)));
      placed = placed;
      told = told_close a b f fs t s cs told;
      kept = kept.3;
      fit = fit_then IsOpen IsOpen f.before (ended f s t) kept.1 (group_fits f.delimiter f.whole f.opening s t kept.0 fit) (λ w. absurd (cc));
      shallow = let e = depth_then f.before (ended f s t) in let d = kept.2 in omega arith;
    }

pub with_close : (a b : List ℕ) (es : List Slot) (w : ℕ) (gs : List ℕ) (cs : List Call) (s : ℕ) (fs : List Frame) (t : Trees ℕ) → listed a b (take w es) ≡ laid fs t → w < length es → Placed gs fs → Told a b cs fs t → Kept fs → Fit IsOpen t → length fs + depth t ≤ 60 → nothing_to_close gs (Close s) ≡ false → Stands a b (close_at gs w s es) (progress IsOpen (w + 1) (but_innermost gs)) (cs ++ Close s ∷ [])
with_close a b es w [] cs s fs t is room placed told kept fit shallow some = absurd (cc)
with_close a b es w (g ∷ gs) cs s [] t is room placed told kept fit shallow some = absurd placed
with_close a b es w (g ∷ gs) cs s (f ∷ fs) t is room placed told kept fit shallow some =
    rw placed.0 (closes a b es w gs f fs t cs s is room placed.1 told kept fit shallow)
