-- What a search for an explanation came to, as it is written.
use Rattle.std.specs.Prelude.{ℕ, List, codes, ◌++◌}
use Rattle.std.specs.Fmt.{decimal}

-- no list of moves explains the history
abbrev pub no_explanation_line : List ℕ
no_explanation_line = codes "no explanation"

-- so many nodes of the search were spent
abbrev pub spent_line : ℕ → List ℕ
spent_line most = codes "spent " ++ decimal most
