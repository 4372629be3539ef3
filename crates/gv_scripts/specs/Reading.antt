-- What a script's text spells for a specification and a program, and where it is refused.
use Rattle.std.specs.Prelude.{◌≡◌, ℕ, List}
use Rattle.gv_base.specs.declared.answers.Code.{Code}
use Rattle.gv_base.specs.declared.token.Token.{Token}
use Rattle.gv_lex.specs.Reading as lex
use Rattle.gv_lang.specs.declared.program.Program.{Program}
use Rattle.gv_atomic.specs.declared.spec.Spec.{Spec}
use Rattle.gv_scriptsyntax.specs.declared.tree.Script.{Script as Tree}
use Rattle.gv_scriptsyntax.specs.Nodes.{IsTreeOf}
use Rattle.gv_scriptparse.specs.Seen.{seen}
use Rattle.gv_scriptparse.specs.Reading as grammar
use Rattle.gv_scriptnames.specs.Outlines.{outline_of}
use Rattle.gv_scriptnumbers.specs.Numbers.{places_of}
use Rattle.gv_scriptnames.specs.Laws.{IsTyped, IsRefusedAt}
use Rattle.gv_scripts.specs.declared.script.Script.{Script}

-- the text has this tree by its grammar
pub record HasTree (text : List ℕ) (tree : Tree) : Type 0 where
  pub tokens : List Token
  pub cut : lex.IsRead text tokens
  pub read : grammar.IsRead text (seen text tokens) tree

-- the text spells this tree, in which all rules of names, types and counts hold
pub record Spells (text : List ℕ) (spec : Spec) (program : Program) (tree : Tree) : Type 0 where
  pub has : HasTree text tree
  pub typed : IsTyped text spec program tree

-- a script is the nodes of a tree, with its outline and the places of its numbered commands
pub record IsOf (text : List ℕ) (tree : Tree) (s : Script) : Type 0 where
  pub nodes : IsTreeOf text s.nodes.items tree
  pub outline : s.outline ≡ outline_of tree
  pub places : s.places.items ≡ places_of text tree

-- A script is valid: it is that of a tree that the text spells.
pub record IsValid (text : List ℕ) (spec : Spec) (program : Program) (s : Script) : Type 0 where
  pub tree : Tree
  pub spelled : Spells text spec program tree
  pub is : IsOf text tree s

-- A text is refused at a byte: for its characters; or, where it has tokens, for the first one that no script has there; or, where
-- these are a script, for the first fault of its names, types and counts.
pub data IsRefused (text : List ℕ) (spec : Spec) (program : Program) (at : ℕ) (code : Code) : Type 0 where
  characters : lex.IsRefused text at code → IsRefused text spec program at code
  grammar_fault : (tokens : List Token) → lex.IsRead text tokens → grammar.IsRefusedAt text (seen text tokens) at code → IsRefused text spec program at code
  meaning : (tree : Tree) → HasTree text tree → IsRefusedAt text spec program tree at code → IsRefused text spec program at code

-- A text spells one tree at most, or is refused in one way at most, and not both.
pub record IsReadOnce (text : List ℕ) (spec : Spec) (program : Program) : Type 0 where
  pub one_tree : (a b : Tree) → Spells text spec program a → Spells text spec program b → a ≡ b
  pub one_refusal : (m n : ℕ) (c d : Code) → IsRefused text spec program m c → IsRefused text spec program n d → (m ≡ n) × (c ≡ d)
  pub not_both : (tree : Tree) (at : ℕ) (code : Code) → Spells text spec program tree → IsRefused text spec program at code → ⊥

abbrev pub AreReadOnce : Type 0
AreReadOnce = (text : List ℕ) (spec : Spec) (program : Program) → IsReadOnce text spec program
