-- Acts that make one part of those on top of a stack.
use Rattle.std.specs.Prelude.{Bool, List, ◌∷◌, length, drop}
use Rattle.gv_grammar.specs.Building.{Reduction}
use Rattle.gv_termread.specs.declared.token.SeenToken.{SeenToken}

-- An act: tests of the parts that it takes off the top, the top one the first, and the part that it makes of a stack whose
-- top passes them.
pub record Making (P : Type 0) : Type 0 where
  pub takes : List (P → Bool)
  pub makes : List P → P

-- the same as what it makes of the stack
abbrev pub reduction_of : {P : Type 0} → Making P → Reduction P
reduction_of act = record { takes = act.takes; makes = λ parts. act.makes parts ∷ drop (length act.takes) parts }

-- a token that stands in no text
abbrev pub no_token : SeenToken
no_token = record { class = 0; start = 0; end = 0; value = 0 }
