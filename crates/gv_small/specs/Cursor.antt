-- What a cursor has before it.
use Rattle.std.specs.Prelude.{◌≡◌, ℕ, List, [], length}
use Rattle.gv_small.specs.Tokens.{Token, named, arrowed, signed, Placed, laid, kinds, cut, BeginsWord, BeginsArrow, BeginsSign}
use Rattle.gv_small.specs.declared.cursor.Cursor.{Cursor}
use Rattle.gv_small.specs.declared.cursor.Beginning.{Beginning}
use Rattle.gv_small.specs.declared.cursor.Beginning.TheVariants as beginning
use Rattle.gv_small.specs.declared.token.SmallToken.{SmallToken}
use Rattle.gv_small.specs.declared.token.SmallToken.TheVariants.{Word, Arrow, Sign}
use Rattle.gv_small.specs.declared.token.Taken.{Taken}

abbrev pub token_of : SmallToken → Token
token_of (Word w) = named w.now
token_of Arrow = arrowed
token_of (Sign b) = signed b

abbrev pub IsWordToken : SmallToken → Type 0
IsWordToken (Word w) = Unit {0}
IsWordToken Arrow = ⊥
IsWordToken (Sign b) = ⊥

abbrev pub placed_of : Taken → Placed
placed_of t = record { token = token_of t.token; place = t.place }

-- the tokens that are still to be read
abbrev pub tokens_left : Cursor → List Placed
tokens_left c = laid c.go c.pending c.place (cut c.rest.now)

abbrev pub IsWord : Taken → Type 0
IsWord t = IsWordToken t.token

-- how a text goes on, where no blank comes next
abbrev pub Begins : Beginning → List ℕ → Type 0
Begins beginning.Word text = BeginsWord text
Begins beginning.Arrow text = BeginsArrow text
Begins beginning.Sign text = BeginsSign text
Begins beginning.End text = text ≡ []

-- the same without their places
abbrev pub kinds_left : Cursor → List Token
kinds_left c = kinds (tokens_left c)

-- the bytes that are still to be read
abbrev pub bytes_left : Cursor → ℕ
bytes_left c = length c.rest.now
