-- Trees as lists of nodes: each node stands directly behind the nodes of its parts.
use Rattle.std.specs.Prelude.{◌≡◌, ℕ, ◌+◌, ◌-◌, ◌<◌, ◌≤◌, List, [], ◌∷◌, length, map, take, slice_get, Option, Some, IsSome}
use Rattle.std.specs.Option.{option_and_then, unwrap_or}
use Rattle.gv_grammar.specs.declared.levels.TheConstants.{FIRST_ACT}
use Rattle.gv_grammar.specs.declared.steps.Step.{Step}
use Rattle.gv_grammar.specs.Building.{Reduction, act_of, run}
use Rattle.gv_termread.specs.declared.generated.term_acts.Part.{Part}
use Rattle.gv_termread.specs.declared.generated.term_acts.Part.TheVariants.{Token as PToken, Other as POther}
use Rattle.gv_scriptsyntax.specs.declared.generated.script_acts.ScriptPart.{ScriptPart}
use Rattle.gv_scriptsyntax.specs.declared.generated.script_acts.ScriptPart.TheVariants.{Script as PScript}
use Rattle.gv_termread.specs.declared.token.SeenToken.{SeenToken}
use Rattle.gv_scriptsyntax.specs.declared.node.Node.{Node}
use Rattle.gv_scriptsyntax.specs.declared.node.Node.TheVariants.{Token, Made}
use Rattle.gv_scriptsyntax.specs.declared.tree.Script.{Script}
use Rattle.gv_scriptsyntax.specs.ScriptActs.{script_acts}

abbrev pub Parts : Type 0
Parts = List (Part ScriptPart)

-- how many parts each act takes, from the first one behind the marks on, whatever the text is
abbrev pub arities : List ℕ
arities = map (λ (act : Reduction (Part ScriptPart)). length act.takes) (script_acts [])

unfoldable pub arity : ℕ → ℕ
arity act = unwrap_or (slice_get arities (act - FIRST_ACT)) 0

-- where the nodes of the node at a place begin
abbrev pub first_of : ℕ → Node → ℕ
first_of at (Token token) = at
first_of at (Made act from) = from

-- Of a text, whose names the variables bear.
module _ (text : List ℕ) where
  -- what an act makes of the parts, if it takes those on top
  unfoldable pub done_by : ℕ → Parts → Option Parts
  done_by act parts = act_of (script_acts text) act parts

  -- what a node makes of the parts, the last one first: a token is a part, and an act makes one of the last parts
  abbrev pub placed : Node → Parts → Option Parts
  placed (Token token) parts = Some (PToken token ∷ parts)
  placed (Made act from) parts = done_by act parts

  -- the parts that nodes make, the last one first
  abbrev pub built_on : List Node → Parts → Option Parts
  built_on [] parts = Some parts
  built_on (node ∷ nodes) parts = option_and_then (λ made. built_on nodes made) (placed node parts)

  abbrev pub built : List Node → Option Parts
  built nodes = built_on nodes []

  -- the parts with what an act makes of them
  abbrev pub with_act : ℕ → Option Parts → Option Parts
  with_act act made = option_and_then (λ parts. done_by act parts) made

  -- the parts that the steps of a derivation leave of tokens
  abbrev pub left_by : List Step → List SeenToken → Option Parts
  left_by steps tokens = run PToken done_by steps tokens []

  -- The nodes from `from` to before `end` make one part, and take none of those before them.
  pub record MakeOne (nodes : List Node) (from end : ℕ) : Type 0 where
    pub some : from < end
    pub part : Part ScriptPart
    pub before : Parts
    pub made : built (take end nodes) ≡ Some (part ∷ before)
    pub kept : built (take from nodes) ≡ Some before

  -- each node knows where its nodes begin
  abbrev pub IsFormed : List Node → Type 0
  IsFormed nodes = (at : ℕ) (node : Node) → slice_get nodes at ≡ Some node → MakeOne nodes (first_of at node) (at + 1)

  -- The nodes before `end` make at least so many parts.
  pub record HasParts (nodes : List Node) (end count : ℕ) : Type 0 where
    pub parts : Parts
    pub made : built (take end nodes) ≡ Some parts
    pub enough : count ≤ length parts

  -- The nodes make parts that the act takes.
  pub record Allows (nodes : List Node) (act : ℕ) : Type 0 where
    pub parts : Parts
    pub made : built nodes ≡ Some parts
    pub accepted : IsSome (done_by act parts)

  -- The node at a place is this part.
  pub record IsPartAt (nodes : List Node) (at : ℕ) (part : Part ScriptPart) : Type 0 where
    pub before : Parts
    pub made : built (take (at + 1) nodes) ≡ Some (part ∷ before)

  -- The nodes are the tree of a script.
  pub record IsTreeOf (nodes : List Node) (script : Script) : Type 0 where
    pub whole : built nodes ≡ Some (POther (PScript script) ∷ [])
    pub formed : IsFormed nodes

-- the parts with a token behind them
abbrev pub with_token : SeenToken → Option Parts → Option Parts
with_token token made = option_and_then (λ parts. Some (PToken token ∷ parts)) made
