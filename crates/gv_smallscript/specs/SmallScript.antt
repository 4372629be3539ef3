-- Scripts of the small form: fixed declarations, and one block of fixed commands for each operation. White space and comments stand where
-- they like, and nothing else may differ.
use Rattle.std.specs.Prelude.{◌≡◌, ℕ, List, [], ◌∷◌, map, take, drop, slice_get, Some, codes}
use Rattle.gv_base.specs.Places.{place_at}
use Rattle.gv_base.specs.declared.token.Token.{Token}
use Rattle.gv_lex.specs.Reading.{bytes_of}
use Rattle.gv_lex.specs.Reading as lex
use Rattle.gv_smallscript.specs.declared.forms.SmallBlock.{SmallBlock}
use Rattle.gv_smallscript.specs.declared.forms.SmallScript.{SmallScript}

abbrev pub texts : List ℕ → List Token → List (List ℕ)
texts text tokens = map (bytes_of text) tokens

-- pred Crash() { case () { } }
abbrev pub crash_predicate : List (List ℕ) → List (List ℕ)
crash_predicate behind =
    codes "pred" ∷ codes "Crash" ∷ codes "(" ∷ codes ")" ∷ codes "{" ∷ codes "case" ∷ codes "(" ∷ codes ")" ∷ codes "{" ∷ codes "}" ∷ codes "}" ∷ behind

-- pred H(p: Ref) { case () { } }
abbrev pub root_predicate : List (List ℕ) → List (List ℕ)
root_predicate behind =
    codes "pred" ∷ codes "H" ∷ codes "(" ∷ codes "p" ∷ codes ":" ∷ codes "Ref" ∷ codes ")" ∷ codes "{" ∷ codes "case" ∷ codes "(" ∷ codes ")" ∷ codes "{" ∷ codes "}"
    ∷ codes "}" ∷ behind

-- crash Crash; root H; init { fold Crash() 1 (); }
abbrev pub initial_fold : List (List ℕ) → List (List ℕ)
initial_fold behind =
    codes "crash" ∷ codes "Crash" ∷ codes ";" ∷ codes "root" ∷ codes "H" ∷ codes ";" ∷ codes "init" ∷ codes "{" ∷ codes "fold" ∷ codes "Crash" ∷ codes "(" ∷ codes ")"
    ∷ codes "1" ∷ codes "(" ∷ codes ")" ∷ codes ";" ∷ codes "}" ∷ behind

-- recover { step as (p); share { }; open; boot; fold H(p) 1 (); close; }
abbrev pub recovery : List (List ℕ) → List (List ℕ)
recovery behind =
    codes "recover" ∷ codes "{" ∷ codes "step" ∷ codes "as" ∷ codes "(" ∷ codes "p" ∷ codes ")" ∷ codes ";" ∷ codes "share" ∷ codes "{" ∷ codes "}" ∷ codes ";"
    ∷ codes "open" ∷ codes ";" ∷ codes "boot" ∷ codes ";" ∷ codes "fold" ∷ codes "H" ∷ codes "(" ∷ codes "p" ∷ codes ")" ∷ codes "1" ∷ codes "(" ∷ codes ")"
    ∷ codes ";" ∷ codes "close" ∷ codes ";" ∷ codes "}" ∷ behind

-- the 70 tokens before the blocks
abbrev pub declarations : List (List ℕ)
declarations = crash_predicate (root_predicate (initial_fold (recovery [])))

-- { open; sim me; close; step; }
abbrev pub commands : List (List ℕ)
commands =
    codes "{" ∷ codes "open" ∷ codes ";" ∷ codes "sim" ∷ codes "me" ∷ codes ";" ∷ codes "close" ∷ codes ";" ∷ codes "step" ∷ codes ";" ∷ codes "}" ∷ []

-- These 13 tokens are op NAME { open; sim me; close; step; }, and the word `step`, with 10 tokens before it, stands at this place.
pub record IsBlock (text : List ℕ) (block : SmallBlock) (tokens : List Token) : Type 0 where
  pub spelled : texts text tokens ≡ codes "op" ∷ block.name ∷ commands
  pub step : Token
  pub step_is : slice_get tokens 10 ≡ Some step
  pub place_is : block.step ≡ place_at text step.start

-- the tokens are these blocks
abbrev pub AreBlocks : List ℕ → List SmallBlock → List Token → Type 0
AreBlocks text [] tokens = tokens ≡ []
AreBlocks text (block ∷ blocks) tokens = IsBlock text block (take 13 tokens) × AreBlocks text blocks (drop 13 tokens)

-- the tokens of a text are the declarations and these blocks
pub record HasForm (text : List ℕ) (tokens : List Token) (script : SmallScript) : Type 0 where
  pub declared : texts text (take 70 tokens) ≡ declarations
  pub ops : AreBlocks text script.ops (drop 70 tokens)

-- a text's tokens are so
pub record IsSmallScript (text : List ℕ) (script : SmallScript) : Type 0 where
  pub tokens : List Token
  pub cut : lex.IsRead text tokens
  pub form : HasForm text tokens script
