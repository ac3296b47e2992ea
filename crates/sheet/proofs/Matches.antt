-- Two entries are the same, stamps apart, exactly if every question answers alike.
use Rattle.std.proofs.Common.{◌≡◌, ℕ, zero, suc, ◌<◌, Bool, false, List, [], ◌∷◌, map, length, Decides, sym, refl, ap, ◌∙◌, arith}
use Rattle.std.proofs.lemmas.List.{length-map}
use Rattle.sheet.specs.Trees.{Trees, nil, name, mark, literal, group, size, bare}
use Rattle.sheet.specs.Entries.{Entry, Group, Name, Mark, Literal, End, Nothing, flat, entries, at, bare_entry}
use Rattle.sheet.specs.Numbers.{kind_number}
use Rattle.sheet.specs.Questions.{kind_of, distance_of, delimiter_of, character_of, spacing_of, text_of}

record Answers : Type 0 where
  kind : ℕ
  distance : ℕ
  delimiter : ℕ
  character : ℕ
  spacing : ℕ
  text : List ℕ

abbrev six : ℕ → ℕ → ℕ → ℕ → ℕ → List ℕ → Answers
six k x d c s t = record { kind = k; distance = x; delimiter = d; character = c; spacing = s; text = t }

abbrev answers : {St : Type 0} → Entry St → Answers
answers e = six (kind_number (kind_of e)) (distance_of e) (delimiter_of e) (character_of e) (spacing_of e) (text_of e)

-- stamps do not matter to these questions
answers_bare : {St : Type 0} (e : Entry St) → answers (bare_entry e) ≡ answers e
answers_bare (Group x d w o c) = refl
answers_bare (Name b s) = refl
answers_bare (Mark c k s) = refl
answers_bare (Literal b s) = refl
answers_bare (End x) = refl
answers_bare Nothing = refl

-- and what they answer is the whole entry
abbrev rebuilt : ℕ → Answers → Entry (Unit {0})
rebuilt zero a = Group a.distance a.delimiter tt tt tt
rebuilt (suc zero) a = Name a.text tt
rebuilt (suc (suc zero)) a = Mark a.character a.spacing tt
rebuilt (suc (suc (suc zero))) a = Literal a.text tt
rebuilt (suc (suc (suc (suc zero)))) a = End a.distance
rebuilt (suc (suc (suc (suc (suc n))))) a = Nothing

rebuilt_is : {St : Type 0} (e : Entry St) → rebuilt (answers e).kind (answers e) ≡ bare_entry e
rebuilt_is (Group x d w o c) = refl
rebuilt_is (Name b s) = refl
rebuilt_is (Mark c k s) = refl
rebuilt_is (Literal b s) = refl
rebuilt_is (End x) = refl
rebuilt_is Nothing = refl

alike : {St Tt : Type 0} (e : Entry St) (f : Entry Tt) → bare_entry e ≡ bare_entry f → answers e ≡ answers f
alike e f h = sym (answers_bare e) ∙ ap answers h ∙ answers_bare f

pub unlike : {P : Type 0} → (P → ⊥) → Decides false P
unlike apart = (λ e. let z : ◌≡◌ {A = ℕ} 0 1 = cc in absurd (omega arith), λ p. absurd (apart p))

-- Where all other answers agree, the text decides.
pub by_text : {St Tt : Type 0} (e : Entry St) (f : Entry Tt) (r : Bool) → kind_number (kind_of e) ≡ kind_number (kind_of f) → distance_of e ≡ distance_of f → delimiter_of e ≡ delimiter_of f → character_of e ≡ character_of f → spacing_of e ≡ spacing_of f → Decides r (text_of e ≡ text_of f) → Decides r (bare_entry e ≡ bare_entry f)
by_text e f r k x d c s told =
    (λ h. let t = told.0 h in let a : answers e ≡ answers f = cc in sym (rebuilt_is e) ∙ ap (λ y. rebuilt y.kind y) a ∙ rebuilt_is f, λ h. told.1 (ap (λ a. a.text) (alike e f h)))

-- The flat form of a sheet without stamps is its flat form, without stamps.
size_bare : {St : Type 0} (t : Trees St) → size (bare t) ≡ size t
size_bare nil = refl
size_bare (name b s r) = ap suc (size_bare r)
size_bare (mark c k s r) = ap suc (size_bare r)
size_bare (literal b s r) = ap suc (size_bare r)
size_bare (group d w o c i r) = let a = size_bare i in let b = size_bare r in omega arith

flat_bare : {St : Type 0} (t : Trees St) (ks : List (Entry St)) → map bare_entry (flat t ks) ≡ flat (bare t) (map bare_entry ks)
flat_bare nil ks = refl
flat_bare (name b s r) ks = ap (λ l. Name b tt ∷ l) (flat_bare r ks)
flat_bare (mark c k s r) ks = ap (λ l. Mark c k tt ∷ l) (flat_bare r ks)
flat_bare (literal b s r) ks = ap (λ l. Literal b tt ∷ l) (flat_bare r ks)
flat_bare (group d w o c i r) ks =
    ap (λ l. Group (suc (size i)) d tt tt tt ∷ l) (flat_bare i (End (suc (size i)) ∷ flat r ks) ∙ ap (λ l. flat (bare i) (End (suc (size i)) ∷ l)) (flat_bare r ks))
    ∙ ap (λ n. Group (suc n) d tt tt tt ∷ flat (bare i) (End (suc n) ∷ flat (bare r) (map bare_entry ks))) (sym (size_bare i))

entries_bare : {St : Type 0} (t : Trees St) → map bare_entry (entries t) ≡ entries (bare t)
entries_bare t = flat_bare t (End 0 ∷ [])

at_map : {St : Type 0} (es : List (Entry St)) (k : ℕ) → at (map bare_entry es) k ≡ bare_entry (at es k)
at_map [] zero = refl
at_map [] (suc k) = refl
at_map (e ∷ es) zero = refl
at_map (e ∷ es) (suc k) = at_map es k

by_place : {St : Type 0} (xs ys : List (Entry St)) → length xs ≡ length ys → ((k : ℕ) → k < length xs → at xs k ≡ at ys k) → xs ≡ ys
by_place [] [] l h = refl
by_place [] (y ∷ ys) l h = absurd (omega arith)
by_place (x ∷ xs) [] l h = absurd (omega arith)
by_place (x ∷ xs) (y ∷ ys) l h = let e = h 0 (omega arith) in let f = by_place xs ys (omega arith) (λ k m. h (suc k) (omega arith)) in cc

-- So two flat forms that agree at every place are one, stamps apart,
pub all_alike : {St Tt : Type 0} (t : Trees St) (u : Trees Tt) → length (entries t) ≡ length (entries u) → ((k : ℕ) → k < length (entries t) → bare_entry (at (entries t) k) ≡ bare_entry (at (entries u) k)) → entries (bare t) ≡ entries (bare u)
all_alike t u l h =
    let p = length-map (entries t) bare_entry in
    let q = length-map (entries u) bare_entry in
    sym (entries_bare t) ∙ by_place (map bare_entry (entries t)) (map bare_entry (entries u)) (omega arith) (λ k m. at_map (entries t) k ∙ h k (omega arith) ∙ sym (at_map (entries u) k)) ∙ entries_bare u

-- and equal flat forms have one length and one entry at each place.
pub alike_length : {St Tt : Type 0} (t : Trees St) (u : Trees Tt) → entries (bare t) ≡ entries (bare u) → length (entries t) ≡ length (entries u)
alike_length t u h =
    sym (length-map (entries t) bare_entry) ∙ ap length (entries_bare t ∙ h ∙ sym (entries_bare u)) ∙ length-map (entries u) bare_entry

pub alike_at : {St Tt : Type 0} (t : Trees St) (u : Trees Tt) (k : ℕ) → entries (bare t) ≡ entries (bare u) → bare_entry (at (entries t) k) ≡ bare_entry (at (entries u) k)
alike_at t u k h = sym (at_map (entries t) k) ∙ ap (λ es. at es k) (entries_bare t ∙ h ∙ sym (entries_bare u)) ∙ at_map (entries u) k
