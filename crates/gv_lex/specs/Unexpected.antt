-- The fault of a grammar of these texts, at a token that may not stand where it does.
use Rattle.std.specs.Prelude.{ℕ, Bool, false, List, length, slice_get, option_map}
use Rattle.gv_base.specs.declared.token.Kind.{Kind}
use Rattle.gv_base.specs.declared.token.Kind.TheVariants as kind
use Rattle.gv_base.specs.declared.token.Token.{Token}
use Rattle.gv_text.specs.declared.found.Found.{Found}
use Rattle.gv_text.specs.Stops.{Fault}
use Rattle.gv_text.specs.Unexpected.{unexpected_token}
use Rattle.gv_termread.specs.Numbers.{is_large_number}
use Rattle.gv_lex.specs.Reading.{bytes_of}

-- a token is a number of 2^64 or more
abbrev pub is_large : Kind → List ℕ → Bool
is_large kind.Number bytes = is_large_number bytes
is_large kind.Word bytes = false
is_large kind.Text bytes = false
is_large kind.Sign bytes = false
is_large kind.Semi bytes = false

abbrev pub found_in : List ℕ → Token → Found
found_in text t = record { start = t.start; is_large = is_large t.kind (bytes_of text t) }

-- the fault at the token with a number among those of a text, or at the end of the text where there are no more
abbrev pub unexpected_in : List ℕ → List Token → ℕ → Fault
unexpected_in text tokens at = unexpected_token (length text) (option_map (found_in text) (slice_get tokens at))
