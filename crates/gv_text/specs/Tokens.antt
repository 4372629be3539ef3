-- Tokens by their places and kinds.
use Rattle.std.specs.Prelude.{ℕ, if◌then◌else◌, List, codes}
use Rattle.std.specs.Str.{bytes_eq}
use Rattle.gv_base.specs.declared.token.Kind.{Kind}
use Rattle.gv_base.specs.declared.token.Kind.TheVariants as kind
use Rattle.gv_base.specs.declared.token.Token.{Token}

-- a semicolon has a kind of its own among the signs
abbrev pub sign_kind : List ℕ → Kind
sign_kind sign = if bytes_eq sign (codes ";") then kind.Semi else kind.Sign

abbrev pub token : ℕ → ℕ → Kind → Token
token start end kind = record { start = start; end = end; kind = kind }
