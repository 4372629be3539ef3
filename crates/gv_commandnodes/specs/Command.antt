-- Command nodes. Made by tools/script_nodes.py from script.grammar: edit that.
use Rattle.std.specs.Prelude.{◌≡◌, ℕ, ◌<◌, List, length, Option}
use Rattle.gv_termread.specs.declared.generated.term_acts.Part.TheVariants.{Term as PTerm, Other as POther}
use Rattle.gv_scriptsyntax.specs.declared.generated.script_acts.ScriptPart.TheVariants.{Arms as PArms, Atom as PAtom, Atoms as PAtoms, Block as PBlock, Blocks as PBlocks, Cert as PCert, Command as PCommand, Filling as PFilling, Inst as PInst, MaybeBlock as PMaybeBlock, Names as PNames, Terms as PTerms}
use Rattle.gv_scriptsyntax.specs.declared.tree.Arm.{Arm}
use Rattle.gv_scriptsyntax.specs.declared.tree.Atom.{Atom}
use Rattle.gv_scriptsyntax.specs.declared.tree.Block.{Block}
use Rattle.gv_scriptsyntax.specs.declared.tree.Cert.{Cert}
use Rattle.gv_scriptsyntax.specs.declared.tree.Command.{Command}
use Rattle.gv_scriptsyntax.specs.declared.tree.Filling.{Filling}
use Rattle.gv_scriptsyntax.specs.declared.tree.Inst.{Inst}
use Rattle.gv_termread.specs.declared.placed.PlacedTerm.{PlacedTerm}
use Rattle.gv_termread.specs.declared.token.SeenToken.{SeenToken}
use Rattle.gv_scriptsyntax.specs.declared.node.Node.{Node}
use Rattle.gv_scriptsyntax.specs.declared.tree.Command.TheVariants as command
use Rattle.gv_scriptsyntax.specs.Nodes.{IsPartAt}
use Rattle.gv_certnodes.specs.Places.{IsBefore}
use Rattle.gv_commandnodes.specs.declared.generated.command_node.CommandNode.{CommandNode}
use Rattle.gv_commandnodes.specs.declared.generated.command_node.CommandNode.TheVariants as node

-- a part of the kind stands there
pub record IsSomeCommand (text : List ℕ) (nodes : List Node) (at : ℕ) : Type 0 where
  pub whole : Command
  pub within : at < length nodes
  pub part : IsPartAt text nodes at (POther (PCommand whole))

pub record IsFold (text : List ℕ) (nodes : List Node) (limit : ℕ) (word : SeenToken) (inst : ℕ) (number : SeenToken) (filling : ℕ) (whole : Command) : Type 0 where
  pub of_inst : Inst
  pub of_filling : Filling
  pub at_inst : IsBefore text nodes limit inst (POther (PInst of_inst))
  pub at_filling : IsBefore text nodes limit filling (POther (PFilling of_filling))
  pub made : whole ≡ (command.Fold word of_inst number of_filling)

pub record IsUnfold (text : List ℕ) (nodes : List Node) (limit : ℕ) (word : SeenToken) (inst : ℕ) (names : ℕ) (whole : Command) : Type 0 where
  pub of_inst : Inst
  pub of_names : List SeenToken
  pub at_inst : IsBefore text nodes limit inst (POther (PInst of_inst))
  pub at_names : IsBefore text nodes limit names (POther (PNames of_names))
  pub made : whole ≡ (command.Unfold word of_inst of_names)

pub record IsUnfoldArms (text : List ℕ) (nodes : List Node) (limit : ℕ) (word : SeenToken) (inst : ℕ) (arms : ℕ) (whole : Command) : Type 0 where
  pub of_inst : Inst
  pub of_arms : List Arm
  pub at_inst : IsBefore text nodes limit inst (POther (PInst of_inst))
  pub at_arms : IsBefore text nodes limit arms (POther (PArms of_arms))
  pub made : whole ≡ (command.UnfoldArms word of_inst of_arms)

pub record IsOnAtom (text : List ℕ) (nodes : List Node) (limit : ℕ) (word : SeenToken) (on : ℕ) (whole : Command) : Type 0 where
  pub of_on : Atom
  pub at_on : IsBefore text nodes limit on (POther (PAtom of_on))
  pub made : whole ≡ (command.OnAtom word of_on)

pub record IsHave (text : List ℕ) (nodes : List Node) (limit : ℕ) (word : SeenToken) (term : ℕ) (proof : ℕ) (whole : Command) : Type 0 where
  pub of_term : PlacedTerm
  pub of_proof : Cert
  pub at_term : IsBefore text nodes limit term (PTerm of_term)
  pub at_proof : IsBefore text nodes limit proof (POther (PCert of_proof))
  pub made : whole ≡ (command.Have word of_term of_proof)

pub record IsLet (text : List ℕ) (nodes : List Node) (limit : ℕ) (word : SeenToken) (name : SeenToken) (term : ℕ) (whole : Command) : Type 0 where
  pub of_term : PlacedTerm
  pub at_term : IsBefore text nodes limit term (PTerm of_term)
  pub made : whole ≡ (command.Let word name of_term)

pub record IsRewrite (text : List ℕ) (nodes : List Node) (limit : ℕ) (word : SeenToken) (old : ℕ) (new : ℕ) (whole : Command) : Type 0 where
  pub of_old : PlacedTerm
  pub of_new : PlacedTerm
  pub at_old : IsBefore text nodes limit old (PTerm of_old)
  pub at_new : IsBefore text nodes limit new (PTerm of_new)
  pub made : whole ≡ (command.Rewrite word of_old of_new)

pub record IsAbsurd (text : List ℕ) (nodes : List Node) (limit : ℕ) (word : SeenToken) (proof : ℕ) (whole : Command) : Type 0 where
  pub of_proof : Cert
  pub at_proof : IsBefore text nodes limit proof (POther (PCert of_proof))
  pub made : whole ≡ (command.Absurd word of_proof)

pub record IsClash (text : List ℕ) (nodes : List Node) (limit : ℕ) (word : SeenToken) (atoms : ℕ) (whole : Command) : Type 0 where
  pub of_atoms : List Atom
  pub at_atoms : IsBefore text nodes limit atoms (POther (PAtoms of_atoms))
  pub made : whole ≡ (command.Clash word of_atoms)

pub record IsCases (text : List ℕ) (nodes : List Node) (limit : ℕ) (word : SeenToken) (term : ℕ) (first : ℕ) (second : ℕ) (whole : Command) : Type 0 where
  pub of_term : PlacedTerm
  pub of_first : Block
  pub of_second : Block
  pub at_term : IsBefore text nodes limit term (PTerm of_term)
  pub at_first : IsBefore text nodes limit first (POther (PBlock of_first))
  pub at_second : IsBefore text nodes limit second (POther (PBlock of_second))
  pub made : whole ≡ (command.Cases word of_term of_first of_second)

pub record IsOnPair (text : List ℕ) (nodes : List Node) (limit : ℕ) (word : SeenToken) (a : ℕ) (b : ℕ) (whole : Command) : Type 0 where
  pub of_a : Atom
  pub of_b : Atom
  pub at_a : IsBefore text nodes limit a (POther (PAtom of_a))
  pub at_b : IsBefore text nodes limit b (POther (PAtom of_b))
  pub made : whole ≡ (command.OnPair word of_a of_b)

pub record IsHalvesNew (text : List ℕ) (nodes : List Node) (limit : ℕ) (word : SeenToken) (value : ℕ) (name : SeenToken) (whole : Command) : Type 0 where
  pub of_value : PlacedTerm
  pub at_value : IsBefore text nodes limit value (PTerm of_value)
  pub made : whole ≡ (command.HalvesNew word of_value name)

pub record IsHalvesSet (text : List ℕ) (nodes : List Node) (limit : ℕ) (word : SeenToken) (name : ℕ) (value : ℕ) (whole : Command) : Type 0 where
  pub of_name : PlacedTerm
  pub of_value : PlacedTerm
  pub at_name : IsBefore text nodes limit name (PTerm of_name)
  pub at_value : IsBefore text nodes limit value (PTerm of_value)
  pub made : whole ≡ (command.HalvesSet word of_name of_value)

pub record IsAt (text : List ℕ) (nodes : List Node) (limit : ℕ) (word : SeenToken) (on : ℕ) (term : ℕ) (whole : Command) : Type 0 where
  pub of_on : Atom
  pub of_term : PlacedTerm
  pub at_on : IsBefore text nodes limit on (POther (PAtom of_on))
  pub at_term : IsBefore text nodes limit term (PTerm of_term)
  pub made : whole ≡ (command.At word of_on of_term)

pub record IsAtHole (text : List ℕ) (nodes : List Node) (limit : ℕ) (word : SeenToken) (hole : SeenToken) (term : ℕ) (whole : Command) : Type 0 where
  pub of_term : PlacedTerm
  pub at_term : IsBefore text nodes limit term (PTerm of_term)
  pub made : whole ≡ (command.AtHole word hole of_term)

pub record IsMap (text : List ℕ) (nodes : List Node) (limit : ℕ) (word : SeenToken) (old : ℕ) (new : ℕ) (name : SeenToken) (block : ℕ) (whole : Command) : Type 0 where
  pub of_old : List Atom
  pub of_new : List Atom
  pub of_block : Block
  pub at_old : IsBefore text nodes limit old (POther (PAtoms of_old))
  pub at_new : IsBefore text nodes limit new (POther (PAtoms of_new))
  pub at_block : IsBefore text nodes limit block (POther (PBlock of_block))
  pub made : whole ≡ (command.Map word of_old of_new name of_block)

pub record IsSim (text : List ℕ) (nodes : List Node) (limit : ℕ) (word : SeenToken) (call : ℕ) (choices : ℕ) (whole : Command) : Type 0 where
  pub of_call : PlacedTerm
  pub of_choices : List PlacedTerm
  pub at_call : IsBefore text nodes limit call (PTerm of_call)
  pub at_choices : IsBefore text nodes limit choices (POther (PTerms of_choices))
  pub made : whole ≡ (command.Sim word of_call of_choices)

pub record IsOnBlock (text : List ℕ) (nodes : List Node) (limit : ℕ) (word : SeenToken) (block : ℕ) (whole : Command) : Type 0 where
  pub of_block : Block
  pub at_block : IsBefore text nodes limit block (POther (PBlock of_block))
  pub made : whole ≡ (command.OnBlock word of_block)

pub record IsBoot (text : List ℕ) (nodes : List Node) (limit : ℕ) (word : SeenToken) (choices : ℕ) (whole : Command) : Type 0 where
  pub of_choices : List PlacedTerm
  pub at_choices : IsBefore text nodes limit choices (POther (PTerms of_choices))
  pub made : whole ≡ (command.Boot word of_choices)

pub record IsGuard (text : List ℕ) (nodes : List Node) (limit : ℕ) (word : SeenToken) (mutex : ℕ) (inst : ℕ) (whole : Command) : Type 0 where
  pub of_mutex : PlacedTerm
  pub of_inst : Inst
  pub at_mutex : IsBefore text nodes limit mutex (PTerm of_mutex)
  pub at_inst : IsBefore text nodes limit inst (POther (PInst of_inst))
  pub made : whole ≡ (command.Guard word of_mutex of_inst)

pub record IsSetBook (text : List ℕ) (nodes : List Node) (limit : ℕ) (word : SeenToken) (name : SeenToken) (place : ℕ) (value : ℕ) (whole : Command) : Type 0 where
  pub of_place : PlacedTerm
  pub of_value : PlacedTerm
  pub at_place : IsBefore text nodes limit place (PTerm of_place)
  pub at_value : IsBefore text nodes limit value (PTerm of_value)
  pub made : whole ≡ (command.SetBook word name of_place of_value)

pub record IsForget (text : List ℕ) (nodes : List Node) (limit : ℕ) (word : SeenToken) (disk : ℕ) (place : ℕ) (value : ℕ) (whole : Command) : Type 0 where
  pub of_disk : PlacedTerm
  pub of_place : PlacedTerm
  pub of_value : PlacedTerm
  pub at_disk : IsBefore text nodes limit disk (PTerm of_disk)
  pub at_place : IsBefore text nodes limit place (PTerm of_place)
  pub at_value : IsBefore text nodes limit value (PTerm of_value)
  pub made : whole ≡ (command.Forget word of_disk of_place of_value)

pub record IsStep (text : List ℕ) (nodes : List Node) (limit : ℕ) (word : SeenToken) (given : ℕ) (names : ℕ) (during : ℕ) (blocks : ℕ) (whole : Command) : Type 0 where
  pub of_given : List PlacedTerm
  pub of_names : List SeenToken
  pub of_during : Option Block
  pub of_blocks : List Block
  pub at_given : IsBefore text nodes limit given (POther (PTerms of_given))
  pub at_names : IsBefore text nodes limit names (POther (PNames of_names))
  pub at_during : IsBefore text nodes limit during (POther (PMaybeBlock of_during))
  pub at_blocks : IsBefore text nodes limit blocks (POther (PBlocks of_blocks))
  pub made : whole ≡ (command.Step word of_given of_names of_during of_blocks)

pub record IsTo (text : List ℕ) (nodes : List Node) (limit : ℕ) (word : SeenToken) (cut : SeenToken) (terms : ℕ) (whole : Command) : Type 0 where
  pub of_terms : List PlacedTerm
  pub at_terms : IsBefore text nodes limit terms (POther (PTerms of_terms))
  pub made : whole ≡ (command.To word cut of_terms)

pub record IsMerge (text : List ℕ) (nodes : List Node) (limit : ℕ) (word : SeenToken) (a : ℕ) (b : ℕ) (slice : ℕ) (whole : Command) : Type 0 where
  pub of_a : Atom
  pub of_b : Atom
  pub of_slice : PlacedTerm
  pub at_a : IsBefore text nodes limit a (POther (PAtom of_a))
  pub at_b : IsBefore text nodes limit b (POther (PAtom of_b))
  pub at_slice : IsBefore text nodes limit slice (PTerm of_slice)
  pub made : whole ≡ (command.Merge word of_a of_b of_slice)

pub record IsYield (text : List ℕ) (nodes : List Node) (limit : ℕ) (word : SeenToken) (a : ℕ) (b : ℕ) (slice : ℕ) (low : ℕ) (high : ℕ) (whole : Command) : Type 0 where
  pub of_a : Atom
  pub of_b : Atom
  pub of_slice : PlacedTerm
  pub of_low : PlacedTerm
  pub of_high : PlacedTerm
  pub at_a : IsBefore text nodes limit a (POther (PAtom of_a))
  pub at_b : IsBefore text nodes limit b (POther (PAtom of_b))
  pub at_slice : IsBefore text nodes limit slice (PTerm of_slice)
  pub at_low : IsBefore text nodes limit low (PTerm of_low)
  pub at_high : IsBefore text nodes limit high (PTerm of_high)
  pub made : whole ≡ (command.Yield word of_a of_b of_slice of_low of_high)

-- what is told of a node before `limit` is so of this part
abbrev pub IsCommandNode : List ℕ → List Node → ℕ → CommandNode → Command → Type 0
IsCommandNode text nodes limit (node.Fold word inst number filling) whole = IsFold text nodes limit word inst number filling whole
IsCommandNode text nodes limit (node.Unfold word inst names) whole = IsUnfold text nodes limit word inst names whole
IsCommandNode text nodes limit (node.UnfoldArms word inst arms) whole = IsUnfoldArms text nodes limit word inst arms whole
IsCommandNode text nodes limit (node.OnAtom word on) whole = IsOnAtom text nodes limit word on whole
IsCommandNode text nodes limit (node.Have word term proof) whole = IsHave text nodes limit word term proof whole
IsCommandNode text nodes limit (node.Let word name term) whole = IsLet text nodes limit word name term whole
IsCommandNode text nodes limit (node.Rewrite word old new) whole = IsRewrite text nodes limit word old new whole
IsCommandNode text nodes limit (node.Absurd word proof) whole = IsAbsurd text nodes limit word proof whole
IsCommandNode text nodes limit (node.Clash word atoms) whole = IsClash text nodes limit word atoms whole
IsCommandNode text nodes limit (node.Cases word term first second) whole = IsCases text nodes limit word term first second whole
IsCommandNode text nodes limit (node.OnPair word a b) whole = IsOnPair text nodes limit word a b whole
IsCommandNode text nodes limit (node.HalvesNew word value name) whole = IsHalvesNew text nodes limit word value name whole
IsCommandNode text nodes limit (node.HalvesSet word name value) whole = IsHalvesSet text nodes limit word name value whole
IsCommandNode text nodes limit (node.At word on term) whole = IsAt text nodes limit word on term whole
IsCommandNode text nodes limit (node.AtHole word hole term) whole = IsAtHole text nodes limit word hole term whole
IsCommandNode text nodes limit (node.Map word old new name block) whole = IsMap text nodes limit word old new name block whole
IsCommandNode text nodes limit (node.Alone word) whole = whole ≡ (command.Alone word)
IsCommandNode text nodes limit (node.Sim word call choices) whole = IsSim text nodes limit word call choices whole
IsCommandNode text nodes limit (node.OnBlock word block) whole = IsOnBlock text nodes limit word block whole
IsCommandNode text nodes limit (node.Boot word choices) whole = IsBoot text nodes limit word choices whole
IsCommandNode text nodes limit (node.Guard word mutex inst) whole = IsGuard text nodes limit word mutex inst whole
IsCommandNode text nodes limit (node.SetBook word name place value) whole = IsSetBook text nodes limit word name place value whole
IsCommandNode text nodes limit (node.Forget word disk place value) whole = IsForget text nodes limit word disk place value whole
IsCommandNode text nodes limit (node.Step word given names during blocks) whole = IsStep text nodes limit word given names during blocks whole
IsCommandNode text nodes limit (node.To word cut terms) whole = IsTo text nodes limit word cut terms whole
IsCommandNode text nodes limit (node.Merge word a b slice) whole = IsMerge text nodes limit word a b slice whole
IsCommandNode text nodes limit (node.Void word item) whole = whole ≡ (command.Void word item)
IsCommandNode text nodes limit (node.Yield word a b slice low high) whole = IsYield text nodes limit word a b slice low high whole
