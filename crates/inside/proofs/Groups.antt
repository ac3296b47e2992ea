-- The group at a place of a sheet, and where its contents lie among the sheet's entries.
use Rattle.std.proofs.Common.{◌≡◌, ℕ, zero, suc, ◌+◌, ◌<◌, ◌≤◌, ◌⊎◌, List, [], ◌∷◌, ◌++◌, length, drop, sym, refl, ap, ◌∙◌, subst, inl, inr, ⊎_elim, arith}
use Rattle.std.proofs.lemmas.List.{drop_all, drop-drop}
use Rattle.sheet.specs.Trees.{Trees, nil, name, mark, literal, group, size, depth}
use Rattle.sheet.specs.Entries.{Entry, Group, Name, Mark, Literal, End, Nothing, flat, entries, first, at, levels}
use Rattle.sheet.specs.Limits.{Sound, KeepsLimits}
use Rattle.sheet.specs.Questions.{kind_of, distance_of}
use Rattle.sheet.specs.declared.kind.EntryKind.TheVariants.{Group as KGroup}
use Rattle.sheet.proofs.Forms.{then_nil, levels_flat}
use Rattle.sheet.proofs.Places.{drop_flat, at_past, length_flat, flat_append}
use Rattle.inside.specs.Contents.{BeginsWithGroup, HoldsAt, HoldsOnly, behind_group, contents}

-- A place before, at or behind a number of entries.
data Side (p n : ℕ) : Type 0 where
  before : p < n → Side p n
  on : p ≡ n → Side p n
  behind : (q : ℕ) → p ≡ n + suc q → Side p n

moved : (p n : ℕ) → Side p n → Side (suc p) (suc n)
moved p n (before l) = before (omega arith)
moved p n (on e) = on (ap suc e)
moved p n (behind q e) = behind q (omega arith)

side : (p n : ℕ) → Side p n
side zero zero = on refl
side zero (suc n) = before (omega arith)
side (suc p) zero = behind p (omega arith)
side (suc p) (suc n) = moved p n (side p n)

-- Behind the flat form of some trees stands what follows it.
drop_behind : {St : Type 0} (t : Trees St) (es : List (Entry St)) (p q : ℕ) → p ≡ size t + q → drop p (flat t es) ≡ drop q es
drop_behind t es p q e = ap (λ n. drop n (flat t es)) e ∙ (sym (drop-drop q (size t) (flat t es)) ∙ ap (drop q) (drop_flat t es))

-- The group at a place among trees: it is the same whatever follows the trees.
record Found {St : Type 0} (t : Trees St) (p : ℕ) : Type 0 where
  inner : Trees St
  stands : (es : List (Entry St)) → BeginsWithGroup (drop p (flat t es)) inner
  sound : Sound t → Sound inner
  shallow : depth inner ≤ depth t
  within : p + suc (suc (size inner)) ≤ size t

-- It is found where it stands among some of the trees, u, at the place q.
found_among : {St : Type 0} (t u : Trees St) (p q : ℕ) (more : List (Entry St) → List (Entry St)) → ((es : List (Entry St)) → drop p (flat t es) ≡ drop q (flat u (more es))) → (Sound t → Sound u) → depth u ≤ depth t → p + size u ≤ q + size t → Found u q → Found t p
found_among t u p q more same sound shallow within f =
    record {
      inner = f.inner;
      stands = λ es. subst (λ l. BeginsWithGroup l f.inner) (sym (same es)) (f.stands (more es));
      sound = λ h. f.sound (sound h);
      shallow = omega arith;
      within = omega arith;
    }

found : {St : Type 0} (t : Trees St) (es : List (Entry St)) (p : ℕ) → p < size t → kind_of (at (flat t es) p) ≡ KGroup → Found t p
found nil es p l h = absurd (omega arith)
found (name b s r) es zero l h = let z : ◌≡◌ {A = ℕ} 0 1 = cc in absurd (omega arith)
found (name b s r) es (suc p) l h = found_among _ r (suc p) p (λ ks. ks) (λ ks. refl) (λ k. k.1) (omega arith) (omega arith) (found r es p (omega arith) h)
found (mark c k s r) es zero l h = let z : ◌≡◌ {A = ℕ} 0 1 = cc in absurd (omega arith)
found (mark c k s r) es (suc p) l h = found_among _ r (suc p) p (λ ks. ks) (λ ks. refl) (λ k. k.2) (omega arith) (omega arith) (found r es p (omega arith) h)
found (literal b s r) es zero l h = let z : ◌≡◌ {A = ℕ} 0 1 = cc in absurd (omega arith)
found (literal b s r) es (suc p) l h = found_among _ r (suc p) p (λ ks. ks) (λ ks. refl) (λ k. k.1) (omega arith) (omega arith) (found r es p (omega arith) h)
found (group d w o c i r) es zero l h =
    record {
      inner = i;
      stands = λ ks. record { delimiter = d; whole = w; opening = o; closing = c; rest = flat r ks; is = refl };
      sound = λ k. k.1;
      shallow = omega arith;
      within = omega arith;
    }
found (group d w o c i r) es (suc p) l h =
    elim (side p (size i)) [
      | before m ↦ found_among _ i (suc p) p (λ ks. End (suc (size i)) ∷ flat r ks) (λ ks. refl) (λ k. k.1) (omega arith) (omega arith) (found i (End (suc (size i)) ∷ flat r es) p m h)
      | on e ↦
          let f = ap (λ l. kind_of (first l)) (drop_behind i (End (suc (size i)) ∷ flat r es) p 0 (omega arith)) in
          let z : ◌≡◌ {A = ℕ} 0 1 = cc in absurd (omega arith)
      | behind q e ↦
          found_among _ r (suc p) q (λ ks. ks) (λ ks. drop_behind i (End (suc (size i)) ∷ flat r ks) p (suc q) e) (λ k. k.2) (omega arith) (omega arith) (found r es q (omega arith) (ap (λ l. kind_of (first l)) (sym (drop_behind i (End (suc (size i)) ∷ flat r es) p (suc q) e)) ∙ h))
    ]

-- A Group of a sheet's flat form stands among its trees: behind them there is only the last End.
among_trees : {St : Type 0} (t : Trees St) (p : ℕ) → kind_of (at (entries t) p) ≡ KGroup → p < size t
among_trees {St = St} t p h =
    elim (side p (size t)) [
      | before l ↦ l
      | on e ↦
          let f = ap (λ l. kind_of (first l)) (drop_behind t (End 0 ∷ []) p 0 (omega arith)) in
          let z : ◌≡◌ {A = ℕ} 0 1 = cc in absurd (omega arith)
      | behind q e ↦
          let f = ap (λ l. kind_of (first l)) (drop_behind t (End 0 ∷ []) p (suc q) e) in
          let k = ap kind_of (at_past {St = St} [] q (omega arith)) in
          let z : ◌≡◌ {A = ℕ} 0 1 = cc in absurd (omega arith)
    ]

group_at : {St : Type 0} (t : Trees St) (p : ℕ) → kind_of (at (entries t) p) ≡ KGroup → Found t p
group_at t p h = found t (End 0 ∷ []) p (among_trees t p h) h

-- What is read behind a Group is the contents of the group.
contents_is : {St : Type 0} (t : Trees St) (p : ℕ) (i : Trees St) → HoldsAt t p i → contents t p ≡ i
contents_is t p i h =
    ap behind_group h.is ∙ (ap (λ l. l.inner) (levels_flat i nil ((levels h.rest).inner ∷ (levels h.rest).outer) (End (suc (size i)) ∷ h.rest) refl) ∙ then_nil i)

-- The contents of a group that was found.
its_contents : {St : Type 0} (t : Trees St) (p : ℕ) (f : Found t p) → contents t p ≡ f.inner
its_contents t p f = contents_is t p f.inner (f.stands (End 0 ∷ []))

pub holds_only : {St : Type 0} (t : Trees St) (p : ℕ) → kind_of (at (entries t) p) ≡ KGroup → HoldsOnly t p (contents t p)
holds_only t p h =
    let f = group_at t p h in
    record {
      held = subst (HoldsAt t p) (sym (its_contents t p f)) (f.stands (End 0 ∷ []));
      only = λ j k. contents_is t p j k;
    }

pub nothing_past : {St : Type 0} (t : Trees St) (p : ℕ) → length (entries t) ≤ p → contents t p ≡ nil
nothing_past t p past = ap behind_group (drop_all p (entries t) past)

-- Where no Group stands nothing is read.
group_or_nothing : {St : Type 0} (es : List (Entry St)) → (kind_of (first es) ≡ KGroup) ⊎ (behind_group es ≡ nil)
group_or_nothing [] = inr refl
group_or_nothing (Group x d w o c ∷ es) = inl refl
group_or_nothing (Name b s ∷ es) = inr refl
group_or_nothing (Mark c k s ∷ es) = inr refl
group_or_nothing (Literal b s ∷ es) = inr refl
group_or_nothing (End x ∷ es) = inr refl
group_or_nothing (Nothing ∷ es) = inr refl

-- Contents that are not empty are those of a group.
group_around : {St : Type 0} (t : Trees St) (p : ℕ) → 0 < size (contents t p) → kind_of (at (entries t) p) ≡ KGroup
group_around t p some = ⊎_elim (λ g. g) (λ none. absurd (omega (arith, ap size none))) (group_or_nothing (drop p (entries t)))

pub length_entries : {St : Type 0} (t : Trees St) → length (entries t) ≡ suc (size t)
length_entries t = let e = length_flat t (End 0 ∷ []) in omega arith

-- A group spans its contents and their End.
pub distance_is : {St : Type 0} (t : Trees St) (p x : ℕ) → KGroup ≡ kind_of (at (entries t) p) → x ≡ distance_of (at (entries t) p) → x ≡ length (entries (contents t p))
distance_is t p x g e =
    let f = group_at t p (sym g) in
    e ∙ (ap (λ l. distance_of (first l)) (f.stands (End 0 ∷ [])).is ∙ (sym (length_entries f.inner) ∙ ap (λ i. length (entries i)) (sym (its_contents t p f))))

-- They lie within the sheet,
pub lies_within : {St : Type 0} (t : Trees St) (p : ℕ) → 1 < length (entries (contents t p)) → p + length (entries (contents t p)) < length (entries t)
lies_within t p some =
    let m = length_entries (contents t p) in
    let n = length_entries t in
    let f = group_at t p (group_around t p (omega arith)) in
    omega (arith, ap size (its_contents t p f), f.within)

-- and so keep its limits.
pub limits_kept : {St : Type 0} (t : Trees St) (p : ℕ) → KeepsLimits t → KeepsLimits (contents t p)
limits_kept t p k =
    ⊎_elim
    (λ g. let f = group_at t p g in let m = length_entries f.inner in let n = length_entries t in subst KeepsLimits (sym (its_contents t p f)) (record { sound = f.sound k.sound; shallow = omega (arith, f.shallow, k.shallow); few = omega (arith, f.within, k.few) }))
    (λ none. subst KeepsLimits (sym none) (record { sound = tt; shallow = omega arith; few = omega arith }))
    (group_or_nothing (drop p (entries t)))

-- Among trees it does not matter what follows them.
at_append : {St : Type 0} (xs ys : List (Entry St)) (k : ℕ) → k < length xs → at (xs ++ ys) k ≡ at xs k
at_append [] ys k l = absurd (omega arith)
at_append (x ∷ xs) ys zero l = refl
at_append (x ∷ xs) ys (suc k) l = at_append xs ys k (omega arith)

at_alone : {St : Type 0} (t : Trees St) (es : List (Entry St)) (k : ℕ) → k < size t → at (flat t es) k ≡ at (flat t []) k
at_alone t es k l = ap (λ l. at l k) (flat_append t [] es) ∙ at_append (flat t []) es k (omega (arith, length_flat t []))

-- Behind a Group the contents begin.
drop_inside : {St : Type 0} (t : Trees St) (p k : ℕ) (i : Trees St) (h : HoldsAt t p i) → drop (p + 1 + k) (entries t) ≡ drop k (flat i (End (suc (size i)) ∷ h.rest))
drop_inside t p k i h =
    let e : p + 1 + k ≡ p + suc k = omega arith in
    ap (λ n. drop n (entries t)) e ∙ (sym (drop-drop (suc k) p (entries t)) ∙ ap (drop (suc k)) h.is)

-- So an entry of the contents is one of the sheet,
pub entry_below : {St : Type 0} (t : Trees St) (p k : ℕ) → k < size (contents t p) → at (entries t) (p + 1 + k) ≡ at (entries (contents t p)) k
entry_below t p k l =
    let f = group_at t p (group_around t p (omega arith)) in
    let m : k < size f.inner = omega (arith, ap size (its_contents t p f)) in
    let h = f.stands (End 0 ∷ []) in
    ap first (drop_inside t p k f.inner h)
    ∙ (at_alone f.inner (End (suc (size f.inner)) ∷ h.rest) k m ∙ (sym (at_alone f.inner (End 0 ∷ []) k m) ∙ ap (λ i. at (entries i) k) (sym (its_contents t p f))))

-- but for the last, which closes them.
pub entry_last : {St : Type 0} (t : Trees St) → at (entries t) (size t) ≡ End 0
entry_last t = ap first (drop_flat t (End 0 ∷ []))

-- A group of the contents has the contents that it has in the sheet.
contents_inside : {St : Type 0} (t : Trees St) (p k : ℕ) → kind_of (at (entries (contents t p)) k) ≡ KGroup → contents t (p + 1 + k) ≡ contents (contents t p) k
contents_inside t p k inside =
    let f = group_at t p (group_around t p (omega (arith, among_trees (contents t p) k inside))) in
    let e = its_contents t p f in
    let h = f.stands (End 0 ∷ []) in
    let g = group_at f.inner k (ap (λ i. kind_of (at (entries i) k)) (sym e) ∙ inside) in
    let stands : HoldsAt t (p + 1 + k) g.inner = subst (λ l. BeginsWithGroup l g.inner) (sym (drop_inside t p k f.inner h)) (g.stands (End (suc (size f.inner)) ∷ h.rest)) in
    contents_is t (p + 1 + k) g.inner stands ∙ (sym (its_contents f.inner k g) ∙ ap (λ i. contents i k) (sym e))

-- So where the place q of the sheet is the place k of the contents, and a Group stands there, both have the same contents.
pub inside_both : {St : Type 0} (t : Trees St) (p k q : ℕ) → q ≡ p + 1 + k → at (entries t) q ≡ at (entries (contents t p)) k → KGroup ≡ kind_of (at (entries t) q) → (contents t q ≡ contents (contents t p) k) × HoldsOnly (contents t p) k (contents t q)
inside_both t p k q here same g =
    let group : kind_of (at (entries (contents t p)) k) ≡ KGroup = ap kind_of (sym same) ∙ sym g in
    let is : contents t q ≡ contents (contents t p) k = ap (contents t) here ∙ contents_inside t p k group in
    (is, subst (HoldsOnly (contents t p) k) (sym is) (holds_only (contents t p) k group))
