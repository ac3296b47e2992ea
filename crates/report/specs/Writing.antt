-- A sheet as text. Its words are names, literals, marks and brackets. The gap between two of them is a blank; behind a joint
-- mark there is none, and behind a lone `;` it is a new line.
use Rattle.std.specs.Prelude.{◌≡◌, ℕ, zero, suc, ◌/◌, ◌%◌, String, string_bytes, Bool, if◌then◌else◌, ◌&&◌, List, [], ◌∷◌, ◌++◌, ◌==◌, nat_le, Option, Some, None, codes, encode_utf8}
use Rattle.std.specs.Char.{digit_char}
use Rattle.std.specs.List.{flat_map}
use Rattle.sheet.specs.Trees.{Trees, Bare, nil, name, mark, literal, group, bare, plain}
use Rattle.report.specs.declared.view.View.{View}
use Rattle.report.specs.declared.view.View.TheVariants.{Filled, Plain}

abbrev pub viewed : {St : Type 0} → View → Trees St → Bare
viewed Filled t = bare t
viewed Plain t = plain t

-- The bytes were put behind the text.
abbrev pub Appends : {A : Type 0} → String A → String A → List ℕ → Type 0
Appends old new bytes = string_bytes new ≡ string_bytes old ++ bytes

abbrev pub printable : ℕ → Bool
printable b = nat_le 32 b && nat_le b 126

-- A byte that is not printable ASCII is written as \x and two hexadecimal digits.
abbrev pub escape : ℕ → List ℕ
escape b = codes "\\x" ++ (digit_char (b / 16) ∷ digit_char (b % 16) ∷ [])

abbrev pub shown_byte : ℕ → List ℕ
shown_byte b = if printable b then b ∷ [] else escape b

abbrev pub escaped : List ℕ → List ℕ
escaped bs = flat_map shown_byte bs

-- A gap is the character of it, if there is one.
abbrev pub gap_bytes : Option ℕ → List ℕ
gap_bytes None = []
gap_bytes (Some c) = encode_utf8 c

abbrev pub blank : Option ℕ
blank = Some 32

-- The gap behind a mark, by its character and its spacing.
abbrev pub gap_behind : ℕ → ℕ → Option ℕ
gap_behind c (suc k) = None
gap_behind c zero = if c == 59 then Some 10 else blank

-- ⟨ ( { [ and ⟩ ) } ]
abbrev pub opening_sign : ℕ → ℕ
opening_sign zero = 10216
opening_sign (suc zero) = 40
opening_sign (suc (suc zero)) = 123
opening_sign (suc (suc (suc d))) = 91

abbrev pub closing_sign : ℕ → ℕ
closing_sign zero = 10217
closing_sign (suc zero) = 41
closing_sign (suc (suc zero)) = 125
closing_sign (suc (suc (suc d))) = 93

-- The trees as text, a gap g before them; `more` is the text behind them, by the gap that they leave.
abbrev pub write : Option ℕ → Bare → (Option ℕ → List ℕ) → List ℕ
write g nil more = more g
write g (name b s r) more = gap_bytes g ++ (escaped b ++ write blank r more)
write g (mark c k s r) more = gap_bytes g ++ (encode_utf8 c ++ write (gap_behind c k) r more)
write g (literal b s r) more = gap_bytes g ++ (escaped b ++ write blank r more)
write g (group d w o c i r) more =
    gap_bytes g ++ (encode_utf8 (opening_sign d) ++ write blank i (λ h. gap_bytes h ++ (encode_utf8 (closing_sign d) ++ write blank r more)))

abbrev pub written : Bare → List ℕ
written t = write None t (λ _. [])
