-- The tokens of a text as lines see them.
use Rattle.std.specs.Prelude.{ℕ, Bool, List, [], ◌∷◌, slice_range}
use Rattle.std.specs.List.{list_any}
use Rattle.gv_base.specs.declared.answers.Code.{Code}
use Rattle.gv_base.specs.declared.answers.Code.TheVariants as codes
use Rattle.gv_base.specs.declared.token.Token.{Token}
use Rattle.gv_base.specs.Places.{is_newline}
use Rattle.gv_replay.specs.declared.sight.Sight.{Sight}
use Rattle.gv_replay.specs.declared.what.What.{What}
use Rattle.gv_replay.specs.declared.what.What.TheVariants as what
use Rattle.gv_replay.specs.What.{what_of}

-- whether a line of the text ends between two of its bytes
abbrev pub has_newline : List ℕ → Bool
has_newline bytes = list_any is_newline bytes

-- a token that stands behind a byte
abbrev pub sight_of : List ℕ → ℕ → Token → Sight
sight_of text behind t = record {
  at = t.start;
  starts = has_newline (slice_range text behind t.start);
  what = what_of t.kind (slice_range text t.start t.end);
}

abbrev pub sights_from : List ℕ → ℕ → List Token → List Sight
sights_from text behind [] = []
sights_from text behind (t ∷ ts) = sight_of text behind t ∷ sights_from text t.end ts

-- all tokens of a text
abbrev pub sights_of : List ℕ → List Token → List Sight
sights_of text tokens = sights_from text 0 tokens

-- the code of a token that may not stand where it does
abbrev pub code_of : What → Code
code_of what.Large = codes.BadNumber
code_of (what.Word w) = codes.Unexpected
code_of (what.Number decimal n) = codes.Unexpected
code_of (what.Byte b) = codes.Unexpected
code_of (what.Bytes bs) = codes.Unexpected
code_of what.Star = codes.Unexpected
code_of what.Other = codes.Unexpected
