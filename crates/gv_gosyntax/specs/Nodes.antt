-- Trees as lists of nodes: each node stands directly behind the nodes of its parts.
use Rattle.std.specs.Prelude.{◌≡◌, ℕ, ◌+◌, ◌-◌, ◌<◌, ◌≤◌, List, [], ◌∷◌, length, take, slice_get, Option, Some, None, IsSome}
use Rattle.std.specs.Option.{option_and_then}
use Rattle.gv_grammar.specs.declared.levels.TheConstants.{FIRST_ACT}
use Rattle.gv_grammar.specs.declared.steps.Step.{Step}
use Rattle.gv_grammar.specs.Building.{act_of, run}
use Rattle.gv_gosyntax.specs.declared.generated.gosyntax_acts.Part.{Part}
use Rattle.gv_gosyntax.specs.declared.generated.gosyntax_acts.Part.TheVariants.{Token as PToken, File as PFile}
use Rattle.gv_gosyntax.specs.declared.lexeme.Lexeme.{Lexeme}
use Rattle.gv_gosyntax.specs.declared.node.Node.{Node}
use Rattle.gv_gosyntax.specs.declared.node.Node.TheVariants.{Token, Made}
use Rattle.gv_gosyntax.specs.declared.tree.File.{File}
use Rattle.gv_gosyntax.specs.GosyntaxActs.{gosyntax_acts, gosyntax_makings}

-- what an act makes of the parts, if it takes those on top
unfoldable pub done_by : ℕ → List Part → Option (List Part)
done_by act parts = act_of gosyntax_acts act parts

-- how many parts an act takes
unfoldable pub arity : ℕ → ℕ
arity act = elim (slice_get gosyntax_makings (act - FIRST_ACT)) [ None ↦ 0 | Some making ↦ length making.takes ]

-- what a node makes of the parts, the last one first: a token is a part, and an act makes one of the last parts
abbrev pub placed : Node → List Part → Option (List Part)
placed (Token token) parts = Some (PToken token ∷ parts)
placed (Made act from) parts = done_by act parts

-- the parts that nodes make, the last one first
abbrev pub built_on : List Node → List Part → Option (List Part)
built_on [] parts = Some parts
built_on (node ∷ nodes) parts = option_and_then (λ made. built_on nodes made) (placed node parts)

abbrev pub built : List Node → Option (List Part)
built nodes = built_on nodes []

-- the parts with a token behind them, and with what an act makes of them
abbrev pub with_token : Lexeme → Option (List Part) → Option (List Part)
with_token token made = option_and_then (λ parts. Some (PToken token ∷ parts)) made

abbrev pub with_act : ℕ → Option (List Part) → Option (List Part)
with_act act made = option_and_then (λ parts. done_by act parts) made

-- the parts that the steps of a derivation leave of tokens
abbrev pub left_by : List Step → List Lexeme → Option (List Part)
left_by steps tokens = run PToken done_by steps tokens []

-- where the nodes of the node at a place begin
abbrev pub first_of : ℕ → Node → ℕ
first_of at (Token token) = at
first_of at (Made act from) = from

-- The nodes from `from` to before `end` make one part, and take none of those before them.
pub record MakeOne (nodes : List Node) (from end : ℕ) : Type 0 where
  pub some : from < end
  pub part : Part
  pub before : List Part
  pub made : built (take end nodes) ≡ Some (part ∷ before)
  pub kept : built (take from nodes) ≡ Some before

-- each node knows where its nodes begin
abbrev pub IsFormed : List Node → Type 0
IsFormed nodes = (at : ℕ) (node : Node) → slice_get nodes at ≡ Some node → MakeOne nodes (first_of at node) (at + 1)

-- The nodes before `end` make at least so many parts.
pub record HasParts (nodes : List Node) (end count : ℕ) : Type 0 where
  pub parts : List Part
  pub made : built (take end nodes) ≡ Some parts
  pub enough : count ≤ length parts

-- The nodes make parts that the act takes.
pub record Allows (nodes : List Node) (act : ℕ) : Type 0 where
  pub parts : List Part
  pub made : built nodes ≡ Some parts
  pub accepted : IsSome (done_by act parts)

-- The node at a place is this part.
pub record IsPartAt (nodes : List Node) (at : ℕ) (part : Part) : Type 0 where
  pub before : List Part
  pub made : built (take (at + 1) nodes) ≡ Some (part ∷ before)

-- The nodes are the tree of a package.
pub record IsTreeOf (nodes : List Node) (file : File) : Type 0 where
  pub whole : built nodes ≡ Some (PFile file ∷ [])
  pub formed : IsFormed nodes
