-- Which word asks for what.
use Rattle.std.specs.Prelude.{◌≡◌, ◌≢◌, ℕ, List, codes, Result, Ok, Err}
use Rattle.keysheet.specs.declared.command.UnknownVerb.{UnknownVerb}
use Rattle.keysheet.specs.declared.command.Verb.{Verb}
use Rattle.keysheet.specs.declared.command.Verb.TheVariants.{Help, Show}

abbrev pub Asks : List ℕ → Result Verb UnknownVerb → Type 0
Asks word (Ok Help) = word ≡ codes "help"
Asks word (Ok Show) = word ≡ codes "show"
Asks word (Err _) = (word ≢ codes "help") × (word ≢ codes "show")
