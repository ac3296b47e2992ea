-- lawful entries and sheets that keep the limits are the same thing.
use Rattle.std.specs.Prelude.{Ok, Err}
use Rattle.std.proofs.Common.{◌≡◌, ℕ, zero, suc, ◌+◌, ◌≤◌, Bool, true, false, cond, not, eqb, ltb, leb, ◌⊎◌, List, [], ◌∷◌, length, sym, refl, ap, ◌∙◌, subst, inl, inr, ⊎_elim, add-zero, arith}
use Rattle.std.proofs.lemmas.Bool.{and_parts, and_from, leb-true, ltb-true, le-leb, lt-ltb}
use Rattle.std.proofs.lemmas.Bool.Decides.{Decides-eqb, nat_tests}
use Rattle.sheet.specs.Trees.{Trees, nil, name, mark, literal, group, size, depth}
use Rattle.sheet.specs.Entries.{Entry, Group, Name, Mark, Literal, End, Nothing, flat, entries, at, tree}
use Rattle.sheet.specs.Limits.{among, mark_characters, legal_mark, apostrophe, StartsWithName, Sound, KeepsLimits, LegalFields}
use Rattle.sheet.proofs.Forms.{own_sheet}
use Rattle.sheet.proofs.Places.{at_past}
use Rattle.rules.specs.Looks.{look_of}
use Rattle.rules.specs.Rules.{Verdict, lawful, offending, Walk, walk, Next, on, done, bad, matches, step, after, judge, verdict, is_lawful}
use Rattle.rules.specs.Verdicts.{OneLawfulSheet, SomeLawfulSheet}
use Rattle.sheet.specs.declared.fault.Rule.{Rule}
use Rattle.sheet.specs.declared.fault.Rule.TheVariants.{TooMany, UnknownKind, NameWanted, EndTooEarly}
use Rattle.rules.specs.declared.walk.Open.{Open}

-- What trees keep to where w says that an apostrophe stands before them and n groups are open around them.
record Keeps {St : Type 0} (w : Bool) (n : ℕ) (t : Trees St) : Type 0 where
  names : w ≡ true → StartsWithName t
  sound : Sound t
  shallow : n + depth t ≤ 60

-- From lawful entries to a sheet.

passes : {St : Type 0} (b : Bool) (m : Next) (rule : Rule) (p : ℕ) (es : List (Entry St)) (go : Walk → Verdict) → after (cond b m (bad rule)) p es go ≡ lawful → (b ≡ true) × (after m p es go ≡ lawful)
passes true m rule p es go h = (refl, h)
passes false m rule p es go h = let z : ◌≡◌ {A = ℕ} 0 1 = cc in absurd (omega arith)

-- what follows the innermost level: the Ends of the groups that are open, and the levels around them
abbrev ends : {St : Type 0} → List Open → List (Trees St) → List (Entry St)
ends [] [] = End 0 ∷ []
ends [] (t ∷ ls) = []
ends (o ∷ st) [] = []
ends (o ∷ st) (t ∷ ls) = End o.claims ∷ flat t (ends st ls)

-- the innermost group ends at q, and so on outward
abbrev Fit : {St : Type 0} → ℕ → List Open → List (Trees St) → Type 0
Fit q [] [] = Unit {0}
Fit q [] (t ∷ ls) = ⊥
Fit q (o ∷ st) [] = ⊥
Fit q (o ∷ st) (t ∷ ls) = (q ≡ o.from + o.claims) × Keeps false (length st) t × Fit (suc q + size t) st ls

-- the trees that are read from the entries at place p, up to the End of the innermost group, and the levels around them
record Reads (St : Type 0) (w : Bool) (p : ℕ) (st : List Open) (es : List (Entry St)) : Type 0 where
  top : Trees St
  rest : List (Trees St)
  is : flat top (ends st rest) ≡ es
  keeps : Keeps w (length st) top
  fit : Fit (p + size top) st rest

moved : {St : Type 0} (q r : ℕ) (st : List Open) (ls : List (Trees St)) → q ≡ r → Fit q st ls → Fit r st ls
moved q r st ls e h = subst (λ (n : ℕ). Fit n st ls) e h

clear : (w : Bool) → not w ≡ true → {A : Type 0} → w ≡ true → A
clear true h e = let z : ◌≡◌ {A = ℕ} 0 1 = cc in absurd (omega arith)
clear false h e = let z : ◌≡◌ {A = ℕ} 0 1 = cc in absurd (omega arith)

at_group : {St : Type 0} (w : Bool) (p x d : ℕ) (a b c : St) (st : List Open) (es : List (Entry St)) (i : Trees St) (rest : List (Trees St)) → flat i (ends (record { from = p; claims = x } ∷ st) rest) ≡ es → Keeps false (suc (length st)) i → Fit (suc p + size i) (record { from = p; claims = x } ∷ st) rest → not w ≡ true → d ≤ 3 → Reads St w p st (Group x d a b c ∷ es)
at_group w p x d a b c st es i [] is keeps fit free few = absurd fit
at_group w p x d a b c st es i (t ∷ ls) is keeps fit free few =
    let e : suc (size i) ≡ x = omega (arith, fit.0) in
    record {
      top = group d a b c i t;
      rest = ls;
      is = ap (λ n. Group n d a b c ∷ flat i (End n ∷ flat t (ends st ls))) e ∙ ap (λ l. Group x d a b c ∷ l) is;
      keeps = record { names = clear w free; sound = (few, keeps.sound, fit.1.sound); shallow = let l = keeps.shallow in let m = fit.1.shallow in omega arith };
      fit = moved _ _ st ls (omega arith) fit.2;
    }

matched : (p x : ℕ) (o : Open) → matches p x o ≡ true → (x ≡ o.claims) × (p ≡ o.from + x)
unfolding matches
matched p x o h = let z = and_parts _ _ h in ((Decides-eqb _ _).0 z.0, (Decides-eqb _ _).0 z.1)

not_waiting : {St : Type 0} (w : Bool) (m : Next) (p : ℕ) (es : List (Entry St)) (go : Walk → Verdict) → after (cond w (bad NameWanted) m) p es go ≡ lawful → (not w ≡ true) × (after m p es go ≡ lawful)
not_waiting true m p es go h = let z : ◌≡◌ {A = ℕ} 0 1 = cc in absurd (omega arith)
not_waiting false m p es go h = (refl, h)

from_lawful : {St : Type 0} (w : Bool) (p : ℕ) (st : List Open) (es : List (Entry St)) → length st ≤ 60 → judge (walk w st) p es ≡ lawful → Reads St w p st es
from_lawful w p st [] few h = let z : ◌≡◌ {A = ℕ} 0 1 = cc in absurd (omega arith)
from_lawful w p st (Nothing ∷ es) few h =
    let y : offending p UnknownKind ≡ lawful = (not_waiting w _ p es _ h).1 in
    let z : ◌≡◌ {A = ℕ} 0 1 = cc in absurd (omega arith)
from_lawful w p st (Group x d a b c ∷ es) few h =
    let n = not_waiting w _ p es _ h in
    let y = passes (leb d 3) _ _ p es _ n.1 in
    let z = passes (ltb (length st) 60) _ _ p es _ y.1 in
    let r = from_lawful false (suc p) (record { from = p; claims = x } ∷ st) es (ltb-true _ _ z.0) z.1 in
    at_group w p x d a b c st es r.top r.rest r.is r.keeps r.fit n.0 (leb-true _ _ y.0)
from_lawful w p st (Name b s ∷ es) few h =
    let y = passes _ _ _ p es _ h in
    let r = from_lawful false (suc p) st es few y.1 in
    record {
      top = name b s r.top;
      rest = r.rest;
      is = ap (λ l. Name b s ∷ l) r.is;
      keeps = record { names = λ _. tt; sound = (y.0, r.keeps.sound); shallow = r.keeps.shallow };
      fit = moved _ _ st r.rest (omega arith) r.fit;
    }
from_lawful w p st (Mark c k s ∷ es) few h =
    let n = not_waiting w _ p es _ h in
    let y = passes _ _ _ p es _ n.1 in
    let r = from_lawful (apostrophe c) (suc p) st es few y.1 in
    record {
      top = mark c k s r.top;
      rest = r.rest;
      is = ap (λ l. Mark c k s ∷ l) r.is;
      keeps = record { names = clear w n.0; sound = (y.0, r.keeps.names, r.keeps.sound); shallow = r.keeps.shallow };
      fit = moved _ _ st r.rest (omega arith) r.fit;
    }
from_lawful w p st (Literal b s ∷ es) few h =
    let n = not_waiting w _ p es _ h in
    let y = passes _ _ _ p es _ n.1 in
    let r = from_lawful false (suc p) st es few y.1 in
    record {
      top = literal b s r.top;
      rest = r.rest;
      is = ap (λ l. Literal b s ∷ l) r.is;
      keeps = record { names = clear w n.0; sound = (y.0, r.keeps.sound); shallow = r.keeps.shallow };
      fit = moved _ _ st r.rest (omega arith) r.fit;
    }
from_lawful w p [] (End x ∷ []) few h =
    let n = not_waiting w _ p [] _ h in
    let y = passes _ _ _ p [] _ n.1 in
    let e : x ≡ 0 = (Decides-eqb x 0).0 y.0 in
    record { top = nil; rest = []; is = ap (λ m. End m ∷ []) (sym e); keeps = record { names = clear w n.0; sound = tt; shallow = omega arith }; fit = tt }
from_lawful w p [] (End x ∷ e ∷ es) few h =
    let n = not_waiting w _ p (e ∷ es) _ h in
    let y : offending p EndTooEarly ≡ lawful = (passes (eqb x 0) done _ p (e ∷ es) _ n.1).1 in
    let z : ◌≡◌ {A = ℕ} 0 1 = cc in absurd (omega arith)
from_lawful w p (o ∷ st) (End x ∷ es) few h =
    let n = not_waiting w _ p es _ h in
    let y = passes _ _ _ p es _ n.1 in
    let m = matched p x o y.0 in
    let r = from_lawful false (suc p) st es (omega arith) y.1 in
    record {
      top = nil;
      rest = r.top ∷ r.rest;
      is = ap (λ l. End l ∷ flat r.top (ends st r.rest)) (sym m.0) ∙ ap (λ l. End x ∷ l) r.is;
      keeps = record { names = clear w n.0; sound = tt; shallow = omega arith };
      fit = (omega (arith, m.0, m.1), r.keeps, moved _ _ st r.rest (omega arith) r.fit);
    }

-- at the top there is one level
one_level : {St : Type 0} (es : List (Entry St)) (top : Trees St) (rest : List (Trees St)) → flat top (ends [] rest) ≡ es → Fit (0 + size top) [] rest → entries top ≡ es
one_level es top [] is fit = is
one_level es top (t ∷ ls) is fit = absurd fit

is_judged : (b : Bool) (v : Verdict) → cond b v (offending 0 TooMany) ≡ lawful → (b ≡ true) × (v ≡ lawful)
is_judged true v h = (refl, h)
is_judged false v h = let z : ◌≡◌ {A = ℕ} 0 1 = cc in absurd (omega arith)

pub one_lawful_sheet : {St : Type 0} (es : List (Entry St)) → verdict es ≡ lawful → OneLawfulSheet es
one_lawful_sheet es h =
    let v = is_judged (leb (length es) 65535) _ h in
    let r = from_lawful false 0 [] es (omega arith) v.1 in
    let top-is : entries r.top ≡ es = one_level es r.top r.rest r.is r.fit in
    let own = own_sheet es r.top top-is in
    let kept : KeepsLimits r.top = record { sound = r.keeps.sound; shallow = omega (arith, r.keeps.shallow); few = let l = ap length top-is in let k = v.0 in grind (arith, nat_tests) } in
    record {
      limits = subst (λ (t : Trees _). KeepsLimits t) (sym own.1) kept;
      flat = own.0;
      one = λ u e. sym (own_sheet es u e).1;
    }

-- From a sheet to lawful entries.

through : {St : Type 0} (b : Bool) (m : Next) (rule : Rule) (p : ℕ) (es : List (Entry St)) (go : Walk → Verdict) → b ≡ true → after (cond b m (bad rule)) p es go ≡ after m p es go
through b m rule p es go h = ap (λ x. after (cond x m (bad rule)) p es go) h

-- nothing that is not a name stands where an apostrophe waits
unasked : {St : Type 0} (w : Bool) (m : Next) (p : ℕ) (es : List (Entry St)) (go : Walk → Verdict) → (w ≡ true → ⊥) → after (cond w (bad NameWanted) m) p es go ≡ after m p es go
unasked true m p es go h = absurd (h refl)
unasked false m p es go h = refl

match_own : (p n q : ℕ) → q ≡ p + suc n → matches q (suc n) (record { from = p; claims = suc n }) ≡ true
unfolding matches
match_own p n q e = and_from _ _ ((Decides-eqb (suc n) (suc n)).1 refl) ((Decides-eqb q (p + suc n)).1 e)

nobody : {A : Type 0} → false ≡ true → A
nobody e = let z : ◌≡◌ {A = ℕ} 0 1 = cc in absurd (omega arith)

-- trees that keep to the rules pass, and the judge goes on behind them
judge_flat : {St : Type 0} (t : Trees St) (w : Bool) (p : ℕ) (st : List Open) (es : List (Entry St)) → Keeps w (length st) t → judge (walk w st) p (flat t es) ≡ judge (walk false st) (p + size t) es
judge_flat nil true p st es k = absurd (k.names refl)
judge_flat nil false p st es k = rw add-zero
judge_flat (name b s r) w p st es k =
    through _ _ _ p (flat r es) _ k.sound.0
    ∙ judge_flat r false (suc p) st es (record { names = nobody; sound = k.sound.1; shallow = k.shallow })
    ∙ ap (λ n. judge (walk false st) n es) (omega arith)
judge_flat (mark c k s r) w p st es h =
    unasked w _ p (flat r es) _ h.names
    ∙ through _ _ _ p (flat r es) _ h.sound.0
    ∙ judge_flat r (apostrophe c) (suc p) st es (record { names = h.sound.1; sound = h.sound.2; shallow = h.shallow })
    ∙ ap (λ n. judge (walk false st) n es) (omega arith)
judge_flat (literal b s r) w p st es k =
    unasked w _ p (flat r es) _ k.names
    ∙ through _ _ _ p (flat r es) _ k.sound.0
    ∙ judge_flat r false (suc p) st es (record { names = nobody; sound = k.sound.1; shallow = k.shallow })
    ∙ ap (λ n. judge (walk false st) n es) (omega arith)
judge_flat (group d a b c i r) w p st es k =
    let o : Open = record { from = p; claims = suc (size i) } in
    let q : ℕ = suc p + size i in
    let deep : suc (length st) + depth i ≤ 60 = let e = k.shallow in omega arith in
    let inner : List (Entry _) = flat i (End (suc (size i)) ∷ flat r es) in
    unasked w _ p inner _ k.names
    ∙ through (leb d 3) _ _ p inner _ (le-leb _ _ k.sound.0)
    ∙ through (ltb (length st) 60) _ _ p inner _ (lt-ltb _ _ (omega arith))
    ∙ judge_flat i false (suc p) (o ∷ st) (End (suc (size i)) ∷ flat r es) (record { names = nobody; sound = k.sound.1; shallow = deep })
    ∙ through (matches q (suc (size i)) o) _ _ q (flat r es) _ (match_own p (size i) q (omega arith))
    ∙ judge_flat r false (suc q) st es (record { names = nobody; sound = k.sound.2; shallow = let e = k.shallow in omega arith })
    ∙ ap (λ n. judge (walk false st) n es) (omega arith)

pub every_lawful_sheet : {St : Type 0} (es : List (Entry St)) → SomeLawfulSheet es → verdict es ≡ lawful
every_lawful_sheet es (t, k, e) =
    let few : leb (length es) 65535 ≡ true = let l = ap length e in let f = k.few in grind (arith, nat_tests) in
    let passed = judge_flat t false 0 [] (End 0 ∷ []) (record { names = nobody; sound = k.sound; shallow = omega (arith, k.shallow) }) in
    ap (λ x. cond x (judge (walk false []) 0 es) (offending 0 TooMany)) few ∙ ap (judge (walk false []) 0) (sym e) ∙ passed

-- What is judged lawful has legal fields at every place.

is_so : (v : Verdict) → is_lawful v ≡ true → v ≡ lawful
is_so (Ok u) h = refl
is_so (Err o) h = nobody h

pub lawful_verdict : {St : Type 0} (es : List (Entry St)) → is_lawful (verdict es) ≡ true → verdict es ≡ lawful
lawful_verdict es h = is_so (verdict es) h

goes : {St : Type 0} (n : Next) (p : ℕ) (es : List (Entry St)) → after n p es (λ v. judge v (suc p) es) ≡ lawful → (es ≡ []) ⊎ ((v : Walk) × (judge v (suc p) es ≡ lawful))
goes (on v) p es h = inr (v, h)
goes done p [] h = inl refl
goes done p (e ∷ es) h = let z : ◌≡◌ {A = ℕ} 0 1 = cc in absurd (omega arith)
goes (bad rule) p es h = let z : ◌≡◌ {A = ℕ} 0 1 = cc in absurd (omega arith)

legal_here : {St : Type 0} (w : Walk) (p : ℕ) (e : Entry St) (es : List (Entry St)) → judge w p (e ∷ es) ≡ lawful → LegalFields e
legal_here w p (Group x d a b c) es h = leb-true _ _ (passes (leb d 3) _ _ p es _ (not_waiting w.waiting _ p es _ h).1).0
legal_here w p (Name b s) es h = (passes _ _ _ p es _ h).0
legal_here w p (Mark c k s) es h = (passes _ _ _ p es _ (not_waiting w.waiting _ p es _ h).1).0
legal_here w p (Literal b s) es h = (passes _ _ _ p es _ (not_waiting w.waiting _ p es _ h).1).0
legal_here w p (End x) es h = tt
legal_here w p Nothing es h = tt

each_legal : {St : Type 0} (w : Walk) (p : ℕ) (es : List (Entry St)) (k : ℕ) → judge w p es ≡ lawful → LegalFields (at es k)
each_legal w p [] k h = let z : ◌≡◌ {A = ℕ} 0 1 = cc in absurd (omega arith)
each_legal w p (e ∷ es) zero h = legal_here w p e es h
each_legal {St} w p (e ∷ es) (suc k) h =
    ⊎_elim
    (λ none. let past : at [] k ≡ Nothing = at_past [] k (omega arith) in subst (λ (f : Entry St). LegalFields f) (sym (ap (λ l. at l k) none ∙ past)) tt)
    (λ v. each_legal v.0 (suc p) es k v.1)
    (goes (step w p (look_of e)) p es h)

pub legal_there : {St : Type 0} (es : List (Entry St)) (k : ℕ) → verdict es ≡ lawful → LegalFields (at es k)
legal_there es k h = each_legal (walk false []) 0 es k (is_judged (leb (length es) 65535) _ h).1

pub legal_spacing : (c k : ℕ) → legal_mark c k ≡ true → leb k 1 ≡ true
unfolding legal_mark
legal_spacing c k h = (and_parts (leb k 1) _ (and_parts (among c mark_characters) _ h).1).0

-- Lawful entries are the flat form of one sheet, so what stands at a place of them stands there in its flat form.
pub its_sheet : {St : Type 0} (es : List (Entry St)) → is_lawful (verdict es) ≡ true → OneLawfulSheet es
its_sheet es h = one_lawful_sheet es (lawful_verdict es h)

pub there : {St : Type 0} (es : List (Entry St)) (k : ℕ) (e : Entry St) → is_lawful (verdict es) ≡ true → e ≡ at es k → e ≡ at (entries (tree es)) k
there es k e h is = is ∙ ap (λ fs. at fs k) (sym (its_sheet es h).flat)
