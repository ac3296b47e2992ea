-- Writing entry by entry, as the loop does it.
use Rattle.std.specs.Prelude.{ℕ, zero, suc, ◌-◌, List, [], ◌∷◌, ◌++◌, Option, Some, None, option_map, encode_utf8}
use Rattle.sheet.specs.Entries.{Entry, at}
use Rattle.sheet.specs.Questions.{Token, a_name, a_literal, a_mark, a_group, no_token, token_of, distance_of, delimiter_of}
use Rattle.report.specs.Writing.{escaped, gap_bytes, blank, gap_behind, opening_sign, closing_sign}
use Rattle.report.specs.declared.view.View.{View}
use Rattle.report.specs.declared.view.View.TheVariants.{Filled, Plain}
use Rattle.report.specs.declared.view.Word.{Word}
use Rattle.report.specs.declared.view.Word.TheVariants.{Text, Sign}

-- The word of one entry, and the gap behind it.
pub record Said : Type 0 where
  pub bytes : List ℕ
  pub gap : Option ℕ

abbrev pub said : List ℕ → Option ℕ → Said
said b g = record { bytes = b; gap = g }

abbrev pub word_said : Word → Said
word_said (Text b) = said (escaped b.now) blank
word_said (Sign c g) = said (encode_utf8 c) g

-- The two brackets of a group of this delimiter.
abbrev pub brackets_of : View → ℕ → Option (ℕ × ℕ)
brackets_of Filled d = Some (opening_sign d, closing_sign d)
brackets_of Plain zero = None
brackets_of Plain (suc d) = Some (opening_sign (suc d), closing_sign (suc d))

abbrev pub opening_said : View → ℕ → Option Said
opening_said v d = option_map (λ b. said (encode_utf8 b.0) blank) (brackets_of v d)

abbrev pub closing_said : View → ℕ → Option Said
closing_said v d = option_map (λ b. said (encode_utf8 b.1) blank) (brackets_of v d)

-- An End by the distance to its Group and that Group's delimiter; the last End, with distance 0, has no bracket.
abbrev pub end_said : View → ℕ → ℕ → Option Said
end_said v zero d = None
end_said v (suc x) d = closing_said v d

abbrev pub token_word : View → Token → Option Said → Option Said
token_word v (a_name b) end = Some (said (escaped b) blank)
token_word v (a_literal b) end = Some (said (escaped b) blank)
token_word v (a_mark c k) end = Some (said (encode_utf8 c) (gap_behind c k))
token_word v (a_group d) end = opening_said v d
token_word v no_token end = end

-- What the entry e at place p of the entries es says, if it says anything.
abbrev pub entry_said : {St : Type 0} → View → List (Entry St) → ℕ → Entry St → Option Said
entry_said v es p e = token_word v (token_of e) (end_said v (distance_of e) (delimiter_of (at es (p - distance_of e))))

abbrev pub say : Option ℕ → Option Said → (Option ℕ → List ℕ) → List ℕ
say g None more = more g
say g (Some w) more = gap_bytes g ++ (w.bytes ++ more w.gap)

-- The entries from place p of es on, a gap g before them.
abbrev pub spell : {St : Type 0} → View → List (Entry St) → ℕ → Option ℕ → List (Entry St) → List ℕ
spell v es p g [] = []
spell v es p g (e ∷ r) = say g (entry_said v es p e) (λ h. spell v es (suc p) h r)
