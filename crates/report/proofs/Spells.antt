-- Writing the entries of a flat form one by one writes the sheet.
use Rattle.std.proofs.Common.{◌≡◌, ℕ, zero, suc, ◌+◌, ◌-◌, List, [], ◌∷◌, drop, Option, None, sym, refl, ap, ◌∙◌, arith}
use mathlib.Core.Path.{fun_ext}
use Rattle.std.proofs.lemmas.List.{drop-drop}
use Rattle.sheet.specs.Trees.{Trees, Bare, nil, name, mark, literal, group, size, then, bare, plain}
use Rattle.sheet.specs.Entries.{Entry, Group, End, flat, entries, first, at}
use Rattle.sheet.specs.Questions.{delimiter_of}
use Rattle.sheet.proofs.Places.{drop_flat}
use Rattle.report.specs.Writing.{viewed, blank, gap_behind, write, written}
use Rattle.report.specs.Spelling.{opening_said, closing_said, entry_said, say, spell}
use Rattle.report.specs.declared.view.View.{View}
use Rattle.report.specs.declared.view.View.TheVariants.{Filled, Plain}

write_then : (t u : Bare) (g : Option ℕ) (more : Option ℕ → List ℕ) → write g (then t u) more ≡ write g t (λ h. write h u more)
write_then nil u g more = refl
write_then (name b s r) u g more = rw (write_then r u blank more)
write_then (mark c k s r) u g more = rw (write_then r u (gap_behind c k) more)
write_then (literal b s r) u g more = rw (write_then r u blank more)
write_then (group d w o c i r) u g more = rw (write_then r u blank more)

-- An End closes the group at the place that its distance leads back to.
end_is : {St : Type 0} (v : View) (es : List (Entry St)) (p q m d x : ℕ) (w o c : St) (r : List (Entry St)) → drop p es ≡ Group x d w o c ∷ r → q ≡ p + suc m → entry_said v es q (End (suc m)) ≡ closing_said v d
end_is v es p q m d x w o c r here far =
    let back : q - suc m ≡ p = omega arith in
    ap (closing_said v) (ap (λ n. delimiter_of (at es n)) back ∙ ap (λ l. delimiter_of (first l)) here)

-- The two views of a sheet, tree by tree.
abbrev regroup : View → ℕ → Bare → Bare → Bare
regroup Filled d i r = group d tt tt tt i r
regroup Plain zero i r = then i r
regroup Plain (suc d) i r = group (suc d) tt tt tt i r

abbrev seen : {St : Type 0} → View → Trees St → Bare
seen v nil = nil
seen v (name b s r) = name b tt (seen v r)
seen v (mark c k s r) = mark c k tt (seen v r)
seen v (literal b s r) = literal b tt (seen v r)
seen v (group d w o c i r) = regroup v d (seen v i) (seen v r)

seen_filled : {St : Type 0} (t : Trees St) → seen Filled t ≡ bare t
seen_filled nil = refl
seen_filled (name b s r) = ap (name b tt) (seen_filled r)
seen_filled (mark c k s r) = ap (mark c k tt) (seen_filled r)
seen_filled (literal b s r) = ap (literal b tt) (seen_filled r)
seen_filled (group d w o c i r) = let e = seen_filled i in let f = seen_filled r in cc

seen_plain : {St : Type 0} (t : Trees St) → seen Plain t ≡ plain t
seen_plain nil = refl
seen_plain (name b s r) = ap (name b tt) (seen_plain r)
seen_plain (mark c k s r) = ap (mark c k tt) (seen_plain r)
seen_plain (literal b s r) = ap (literal b tt) (seen_plain r)
seen_plain (group zero w o c i r) = let e = seen_plain i in let f = seen_plain r in cc
seen_plain (group (suc d) w o c i r) = let e = seen_plain i in let f = seen_plain r in cc

viewed_is : {St : Type 0} (v : View) (t : Trees St) → seen v t ≡ viewed v t
viewed_is Filled t = seen_filled t
viewed_is Plain t = seen_plain t

-- What a group's two brackets say, in one view, and how it is then written.
group_written : (v : View) (d : ℕ) (i r : Bare) (g : Option ℕ) (more : Option ℕ → List ℕ) → say g (opening_said v d) (λ h. write h i (λ k. say k (closing_said v d) (λ l. write l r more))) ≡ write g (regroup v d i r) more
group_written Filled d i r g more = refl
group_written Plain zero i r g more = sym (write_then i r g more)
group_written Plain (suc d) i r g more = refl

tail_of : {St : Type 0} (es : List (Entry St)) (p : ℕ) (e : Entry St) (r : List (Entry St)) → drop p es ≡ e ∷ r → drop (suc p) es ≡ r
tail_of es p e r h = let one : suc p ≡ p + 1 = omega arith in ap (λ n. drop n es) one ∙ sym (drop-drop 1 p es) ∙ ap (drop 1) h

-- From place p of es on stand the trees t, and then ks, at place q.
spell_flat : {St : Type 0} (v : View) (es : List (Entry St)) (t : Trees St) (ks : List (Entry St)) (p q : ℕ) (g : Option ℕ) → drop p es ≡ flat t ks → q ≡ p + size t → spell v es p g (flat t ks) ≡ write g (seen v t) (λ h. spell v es q h ks)
spell_flat v es nil ks p q g here far = let e : p ≡ q = omega arith in ap (λ n. spell v es n g ks) e
spell_flat v es (name b s r) ks p q g here far = rw (spell_flat v es r ks (suc p) q blank (tail_of es p _ _ here) (omega arith))
spell_flat v es (mark c k s r) ks p q g here far = rw (spell_flat v es r ks (suc p) q (gap_behind c k) (tail_of es p _ _ here) (omega arith))
spell_flat v es (literal b s r) ks p q g here far = rw (spell_flat v es r ks (suc p) q blank (tail_of es p _ _ here) (omega arith))
spell_flat {St} v es (group d w o c i r) ks p q g here far =
    let m : ℕ = suc p + size i in
    let behind : List (Entry St) = End (suc (size i)) ∷ flat r ks in
    let inside : drop (suc p) es ≡ flat i behind = tail_of es p _ _ here in
    let at-end : drop m es ≡ behind = sym (drop-drop (size i) (suc p) es) ∙ ap (drop (size i)) inside ∙ drop_flat i behind in
    let closed : (k : Option ℕ) → spell v es m k behind ≡ say k (closing_said v d) (λ l. write l (seen v r) (λ h. spell v es q h ks))
    = λ k. rw (end_is v es p m (size i) d _ w o c _ here (omega arith)) (ap (say k (closing_said v d)) (fun_ext (λ l. spell_flat v es r ks (suc m) q l (tail_of es m _ _ at-end) (omega arith)))) in
    ap (say g (opening_said v d)) (fun_ext (λ h. spell_flat v es i behind (suc p) m h inside refl ∙ ap (write h (seen v i)) (fun_ext closed)))
    ∙ group_written v d (seen v i) (seen v r) g (λ h. spell v es q h ks)

pub spell_entries : {St : Type 0} (v : View) (t : Trees St) → spell v (entries t) 0 None (entries t) ≡ written (viewed v t)
spell_entries v t =
    spell_flat v (entries t) t (End 0 ∷ []) 0 (size t) None refl (omega arith) ∙ ap written (viewed_is v t)
