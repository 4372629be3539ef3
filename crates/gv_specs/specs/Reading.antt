-- What a specification's text spells, and where it is refused.
use Rattle.std.specs.Prelude.{ℕ, List, Result, Ok, Err}
use Rattle.gv_base.specs.Codes.{code_number}
use Rattle.gv_base.specs.declared.answers.Code.{Code}
use Rattle.gv_base.specs.declared.answers.Refusal.{Refusal}
use Rattle.gv_base.specs.declared.answers.Refusal.TheVariants as refusal
use Rattle.gv_base.specs.declared.token.Token.{Token}
use Rattle.gv_text.specs.Answers.{IsFirst}
use Rattle.gv_lex.specs.Reading as lex
use Rattle.gv_atomic.specs.declared.spec.Spec.{Spec}
use Rattle.gv_specread.specs.declared.tree.SpecTree.{SpecTree}
use Rattle.gv_specread.specs.Seen.{seen}
use Rattle.gv_specread.specs.Reading as grammar
use Rattle.gv_specs.specs.Faults.{HasFault}
use Rattle.gv_specs.specs.Spelled.{IsSpelled}

-- the text has this tree by its grammar
pub record HasTree (text : List ℕ) (tree : SpecTree) : Type 0 where
  pub tokens : List Token
  pub cut : lex.IsRead text tokens
  pub read : grammar.IsRead text (seen text tokens) tree

-- the text spells the specification: its tree has no fault and spells it
pub record Spells (text : List ℕ) (s : Spec) : Type 0 where
  pub tree : SpecTree
  pub has : HasTree text tree
  pub faultless : (at : ℕ) (code : Code) → HasFault text tree at code → ⊥
  pub spelled : IsSpelled text tree s

-- A text is refused at a byte: for its characters; or, where it has tokens, for the first one that no specification has there; or, where
-- these are a specification, for the first fault of its names, sorts and counts.
pub data IsRefused (text : List ℕ) (at : ℕ) (code : Code) : Type 0 where
  characters : lex.IsRefused text at code → IsRefused text at code
  grammar_fault : (tokens : List Token) → lex.IsRead text tokens → grammar.IsRefusedAt text (seen text tokens) at code → IsRefused text at code
  meaning : (tree : SpecTree) → HasTree text tree → IsFirst code_number (HasFault text tree) at code → IsRefused text at code

-- it reads, unless memory runs out
abbrev pub IsReadOr : {V : Type 0} → Result V Refusal → Type 0
IsReadOr (Ok value) = Unit {0}
IsReadOr (Err refusal.NoMemory) = Unit {0}
IsReadOr (Err (refusal.At place code)) = ⊥
