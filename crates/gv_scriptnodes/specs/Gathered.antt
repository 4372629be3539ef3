-- What parts and nodes name.
use Rattle.std.specs.Prelude.{◌≡◌, ℕ, ◌==◌, List, [], ◌∷◌, ◌++◌, length, map, Option, Some, None, option_map, slice_get, take, if◌then◌else◌}
use Rattle.gv_termread.specs.declared.generated.term_acts.Part.{Part}
use Rattle.gv_termread.specs.declared.generated.term_acts.Part.TheVariants.{Token as PToken, Term as PTerm, Other as POther}
use Rattle.gv_scriptsyntax.specs.declared.generated.script_acts.ScriptPart.{ScriptPart}
use Rattle.gv_scriptsyntax.specs.declared.generated.script_acts.ScriptPart.TheVariants.{Names as PNames, Pars as PPars, Terms as PTerms, MaybeTerm as PMaybeTerm, Inst as PInst, MaybeInst as PMaybeInst, Atom as PAtom, Atoms as PAtoms, Item as PItem, Items as PItems, Factor as PFactor, Factors as PFactors, Cert as PCert, Haves as PHaves, Filling as PFilling, Command as PCommand, Commands as PCommands, Ending as PEnding, Block as PBlock, MaybeBlock as PMaybeBlock, Blocks as PBlocks, Arm as PArm, Arms as PArms, Case as PCase, Cases as PCases, Books as PBooks, Preds as PPreds, Cuts as PCuts, Ops as POps, Procs as PProcs, Script as PScript}
use Rattle.gv_scriptsyntax.specs.declared.generated.script_table.TheConstants.{ACT_BOOK_ATOM, ACT_CELL_ATOM, ACT_EACH_ATOM, ACT_FIELD_ATOM, ACT_INST, ACT_SET_BOOK, ACT_TO, ACT_TOKEN_ATOM}
use Rattle.gv_scriptsyntax.specs.declared.tree.Inst.{Inst}
use Rattle.gv_scriptsyntax.specs.declared.tree.Case.{Case}
use Rattle.gv_scriptsyntax.specs.declared.tree.Pred.{Pred}
use Rattle.gv_scriptsyntax.specs.declared.tree.Cut.{Cut}
use Rattle.gv_scriptsyntax.specs.declared.tree.Op.{Op}
use Rattle.gv_scriptsyntax.specs.declared.tree.Proc.{Proc}
use Rattle.gv_scriptsyntax.specs.declared.tree.Script.{Script}
use Rattle.gv_scriptsyntax.specs.declared.node.Node.{Node}
use Rattle.gv_scriptsyntax.specs.declared.node.Node.TheVariants.{Made}
use Rattle.gv_scriptsyntax.specs.Nodes.{Parts, built}
use Rattle.gv_scriptnames.specs.declared.mention.Mention.TheVariants as mention
use Rattle.gv_scriptnames.specs.Mentions.{Mentions, of_inst, joined, by_each, in_some, in_atom, in_item, in_items, in_atoms, in_command, in_arm, in_block}

-- ---- parts

abbrev pub in_case : Case → Mentions
in_case c = in_items c.items

abbrev pub in_pred : Pred → Mentions
in_pred p = by_each in_case p.cases

abbrev pub in_cut : Cut → Mentions
in_cut c = in_items c.items ++ in_block c.block

abbrev pub in_op : Op → Mentions
in_op o = in_block o.block ++ by_each in_cut o.cuts

abbrev pub in_own : Option Inst → Mentions
in_own None = []
in_own (Some p) = of_inst p ∷ []

abbrev pub in_proc : Proc → Mentions
in_proc r = in_own r.own ++ (in_items r.pre ++ (in_items r.post ++ (in_block r.block ++ by_each in_cut r.cuts)))

abbrev pub in_script : Script → Mentions
in_script s = by_each in_pred s.preds ++ (in_block s.init ++ (in_block s.recover ++ (by_each in_cut s.cuts ++ (by_each in_op s.ops ++ by_each in_proc s.procs))))

abbrev pub in_script_part : ScriptPart → Mentions
in_script_part (PNames ts) = []
in_script_part (PPars ps) = []
in_script_part (PTerms ts) = []
in_script_part (PMaybeTerm t) = []
in_script_part (PInst p) = of_inst p ∷ []
in_script_part (PMaybeInst p) = in_own p
in_script_part (PAtom a) = in_atom a
in_script_part (PAtoms xs) = in_atoms xs
in_script_part (PItem i) = in_item i
in_script_part (PItems xs) = in_items xs
in_script_part (PFactor f) = []
in_script_part (PFactors fs) = []
in_script_part (PCert c) = []
in_script_part (PHaves hs) = []
in_script_part (PFilling f) = []
in_script_part (PCommand c) = in_command c
in_script_part (PCommands cs) = joined (map in_command cs)
in_script_part (PEnding e) = []
in_script_part (PBlock b) = in_block b
in_script_part (PMaybeBlock b) = in_some (option_map in_block b)
in_script_part (PBlocks bs) = joined (map in_block bs)
in_script_part (PArm a) = in_arm a
in_script_part (PArms xs) = joined (map in_arm xs)
in_script_part (PCase c) = in_case c
in_script_part (PCases cs) = by_each in_case cs
in_script_part (PBooks bs) = []
in_script_part (PPreds ps) = by_each in_pred ps
in_script_part (PCuts cs) = by_each in_cut cs
in_script_part (POps os) = by_each in_op os
in_script_part (PProcs rs) = by_each in_proc rs
in_script_part (PScript s) = in_script s

abbrev pub in_part : Part ScriptPart → Mentions
in_part (PToken t) = []
in_part (PTerm t) = []
in_part (POther p) = in_script_part p

-- all parts, the last one first
abbrev pub in_parts : Parts → Mentions
in_parts [] = []
in_parts (p ∷ ps) = in_parts ps ++ in_part p

-- ---- what an act names itself, of the parts that it takes

abbrev pub inst_named : Parts → Mentions
inst_named (POther (PTerms ts) ∷ PToken name ∷ ps) = mention.Pred name (length ts) ∷ []
inst_named ps = []

abbrev pub cell_named : Parts → Mentions
cell_named (PToken c ∷ PTerm v ∷ PToken b ∷ PToken name ∷ ps) = mention.Cell name ∷ []
cell_named ps = []

abbrev pub field_named : Parts → Mentions
field_named (PToken c ∷ PTerm v ∷ PToken b ∷ PToken name ∷ ps) = mention.Field name ∷ []
field_named ps = []

abbrev pub book_named : Parts → Mentions
book_named (PToken c ∷ PTerm v ∷ PToken b ∷ PTerm i ∷ PToken a ∷ PToken name ∷ ps) = mention.Book name ∷ []
book_named ps = []

abbrev pub op_named : Parts → Mentions
op_named (PToken c ∷ POther (PTerms ts) ∷ PToken name ∷ PToken b ∷ PTerm call ∷ PToken a ∷ PToken word ∷ ps) = mention.Op word name (length ts) ∷ []
op_named ps = []

abbrev pub bound_named : Parts → Mentions
bound_named (PToken e ∷ POther (PAtom body) ∷ PToken d ∷ POther (PTerms ts) ∷ PTerm high ∷ PToken c ∷ PTerm low ∷ PToken b ∷ PToken name ∷ ps) = mention.Bound name ∷ []
bound_named ps = []

abbrev pub set_named : Parts → Mentions
set_named (PTerm v ∷ PToken b ∷ PTerm i ∷ PToken name ∷ ps) = mention.Book name ∷ []
set_named ps = []

abbrev pub cut_named : Parts → Mentions
cut_named (POther (PTerms ts) ∷ PToken name ∷ ps) = mention.Cut name ∷ []
cut_named ps = []

abbrev pub named_by : ℕ → Parts → Mentions
named_by act parts =
    if act == ACT_INST then inst_named parts else (if act == ACT_CELL_ATOM then cell_named parts else (
    if act == ACT_FIELD_ATOM then field_named parts else (if act == ACT_BOOK_ATOM then book_named parts else (
    if act == ACT_TOKEN_ATOM then op_named parts else (if act == ACT_EACH_ATOM then bound_named parts else (
    if act == ACT_SET_BOOK then set_named parts else (if act == ACT_TO then cut_named parts else [])))))))

-- the same of a node
abbrev pub by_node : Node → Option Parts → Mentions
by_node (Made act from) (Some parts) = named_by act parts
by_node node parts = []

-- what the node at a place names itself
abbrev pub named_at : List ℕ → List Node → ℕ → Mentions
named_at text nodes at = elim (slice_get nodes at) [ None ↦ [] | Some node ↦ by_node node (built text (take at nodes)) ]

-- The nodes from `from` to before `place` name these, besides what is named before them.
pub record IsGathered (text : List ℕ) (nodes : List Node) (from place : ℕ) (mentions : Mentions) : Type 0 where
  pub before : Parts
  pub parts : Parts
  pub start : built text (take from nodes) ≡ Some before
  pub here : built text (take place nodes) ≡ Some parts
  pub same : in_parts parts ≡ in_parts before ++ mentions
