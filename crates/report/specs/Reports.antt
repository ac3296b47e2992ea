-- The report of a sheet, and the sentence for one that was refused.
use Rattle.std.specs.Prelude.{ℕ, List, ◌++◌, codes, decimal}
use Rattle.sheet.specs.Trees.{Trees}
use Rattle.sheet.specs.declared.fault.Rule.{Rule}
use Rattle.sheet.specs.declared.fault.Rule.TheVariants.{TooMany, UnknownKind, NameWanted, Text, Mark, Delimiter, TooDeep, Distance, EndTooEarly, EndMissing}
use Rattle.sheet.specs.declared.fault.StoreFault.{StoreFault}
use Rattle.sheet.specs.declared.fault.StoreFault.TheVariants.{Frame, Rules}
use Rattle.report.specs.Counting.{counts_of}
use Rattle.report.specs.Writing.{viewed, written}
use Rattle.report.specs.declared.counts.Counts.{Counts}
use Rattle.report.specs.declared.view.View.TheVariants.{Filled, Plain}

abbrev pub counts_text_of : Counts → List ℕ
counts_text_of c =
    codes "entries   " ++ (decimal c.entries
    ++ (codes "\ngroups    " ++ (decimal c.groups
    ++ (codes ", invisible: " ++ (decimal c.invisible
    ++ (codes "\nnames     " ++ (decimal c.names
    ++ (codes "\nliterals  " ++ (decimal c.literals
    ++ (codes "\nmarks     " ++ decimal c.marks))))))))))

abbrev pub report_of : {St : Type 0} → Trees St → List ℕ
report_of t =
    counts_text_of (counts_of t)
    ++ (codes "\n\nas it was filled:\n" ++ (written (viewed Filled t)
    ++ (codes "\n\nplain reading:\n" ++ (written (viewed Plain t)
    ++ codes "\n"))))

-- What is wrong at a place, by the rule that it breaks.
abbrev pub rule_words : Rule → List ℕ
rule_words TooMany = codes "there are more than 65535 entries"
rule_words UnknownKind = codes "the kind of this entry is not known"
rule_words NameWanted = codes "after an apostrophe only a name may stand"
rule_words Text = codes "the text of this name or literal is not good"
rule_words Mark = codes "the character or the spacing of this mark is not legal"
rule_words Delimiter = codes "the delimiter of this group is above 3"
rule_words TooDeep = codes "60 groups are open here already"
rule_words Distance = codes "the distance of this End does not match its group, or is not 0 where no group is open"
rule_words EndTooEarly = codes "this End closes the sheet, but more entries follow"
rule_words EndMissing = codes "the End that closes the sheet is missing"

abbrev pub explanation : StoreFault → List ℕ
explanation Frame = codes "refused by 11: the packed frame is broken. Bytes are missing, byte 0 is not 1, or a pair is empty, out of order or past the end of the text."
explanation (Rules place rule) = codes "refused by 10 at place " ++ (decimal place ++ (codes ": " ++ (rule_words rule ++ codes ".")))
