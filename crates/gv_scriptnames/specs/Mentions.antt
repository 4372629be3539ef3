-- What atoms, heaps and commands name: predicates, cells, fields, books, operations and cuts.
use Rattle.std.specs.Prelude.{List, [], ◌∷◌, ◌++◌, length, Option, Some, None}
use Rattle.gv_scriptsyntax.specs.declared.tree.Inst.{Inst}
use Rattle.gv_scriptsyntax.specs.declared.tree.Atom.{Atom, fold-Atom}
use Rattle.gv_scriptsyntax.specs.declared.tree.Atom.TheOpen as open_atom
use Rattle.gv_scriptsyntax.specs.declared.tree.Atom.TheOpen.{Atom-F}
use Rattle.gv_scriptsyntax.specs.declared.tree.Item.{Item}
use Rattle.gv_scriptsyntax.specs.declared.tree.Item.TheVariants.{Fact, Held}
use Rattle.gv_scriptsyntax.specs.declared.tree.Block.{Block, fold-Block}
use Rattle.gv_scriptsyntax.specs.declared.tree.Arm.{Arm, fold-Arm}
use Rattle.gv_scriptsyntax.specs.declared.tree.Command.{Command, fold-Command}
use Rattle.gv_scriptsyntax.specs.declared.tree.Command.TheOpen as open_command
use Rattle.gv_scriptsyntax.specs.declared.tree.Command.TheOpen.{Command-F, Block-F, Arm-F}
use Rattle.gv_scriptnames.specs.declared.mention.Mention.{Mention}
use Rattle.gv_scriptnames.specs.declared.mention.Mention.TheVariants as mention

abbrev pub of_inst : Inst → Mention
of_inst p = mention.Pred p.name (length p.terms)

abbrev pub Mentions : Type 0
Mentions = List Mention

-- what all of some name
abbrev pub joined : List Mentions → Mentions
joined [] = []
joined (ms ∷ mss) = ms ++ joined mss

abbrev pub by_each : {T : Type 0} → (T → Mentions) → List T → Mentions
by_each of [] = []
by_each of (x ∷ xs) = of x ++ by_each of xs

-- ---- atoms and heaps

-- one level of an atom, over what the atom in an `each` names
abbrev pub atom_here : Atom-F Mentions → Mentions
atom_here (open_atom.One w a) = []
atom_here (open_atom.Two w a b) = []
atom_here (open_atom.Three w a b c) = []
atom_here (open_atom.Cell w p name v) = mention.Cell name ∷ []
atom_here (open_atom.Field w name v) = mention.Field name ∷ []
atom_here (open_atom.Book w name i v) = mention.Book name ∷ []
atom_here (open_atom.Lock w m p) = of_inst p ∷ []
atom_here (open_atom.Token w c name terms) = mention.Op w name (length terms) ∷ []
atom_here (open_atom.Done w c r) = []
atom_here (open_atom.Each w name low high except body) = body ++ mention.Bound name ∷ []
atom_here (open_atom.Instance p) = of_inst p ∷ []

unfoldable pub in_atom : Atom → Mentions
in_atom = fold-Atom Mentions atom_here

abbrev pub in_item : Item → Mentions
in_item (Fact t) = []
in_item (Held a) = in_atom a

abbrev pub in_items : List Item → Mentions
in_items items = by_each in_item items

abbrev pub in_atoms : List Atom → Mentions
in_atoms atoms = by_each in_atom atoms

-- ---- commands

abbrev pub in_some : Option Mentions → Mentions
in_some None = []
in_some (Some ms) = ms

-- one level of a command, over what its blocks and arms name
abbrev pub command_here : Command-F Mentions Mentions Mentions → Mentions
command_here (open_command.Fold w p number terms) = of_inst p ∷ []
command_here (open_command.Unfold w p names) = of_inst p ∷ []
command_here (open_command.UnfoldArms w p arms) = of_inst p ∷ joined arms
command_here (open_command.OnAtom w a) = in_atom a
command_here (open_command.Have w t proof) = []
command_here (open_command.Let w name t) = []
command_here (open_command.Rewrite w old new) = []
command_here (open_command.Absurd w proof) = []
command_here (open_command.Clash w atoms) = in_atoms atoms
command_here (open_command.Cases w t first second) = first ++ second
command_here (open_command.OnPair w a b) = in_atom a ++ in_atom b
command_here (open_command.HalvesNew w v name) = []
command_here (open_command.HalvesSet w g v) = []
command_here (open_command.At w a t) = in_atom a
command_here (open_command.AtHole w hole t) = []
command_here (open_command.Map w old new name block) = in_atoms old ++ (in_atoms new ++ block)
command_here (open_command.Alone w) = []
command_here (open_command.Sim w c choices) = []
command_here (open_command.OnBlock w block) = block
command_here (open_command.Boot w choices) = []
command_here (open_command.Guard w m p) = of_inst p ∷ []
command_here (open_command.SetBook w name i v) = mention.Book name ∷ []
command_here (open_command.Forget w d a v) = []
command_here (open_command.Step w given names during blocks) = in_some during ++ joined blocks
command_here (open_command.To w name terms) = mention.Cut name ∷ []
command_here (open_command.Merge w a b t) = in_atom a ++ in_atom b
command_here (open_command.Void w item) = []
command_here (open_command.Yield w a b s low high) = in_atom a ++ in_atom b

abbrev pub block_here : Block-F Mentions Mentions Mentions → Mentions
block_here b = joined b.commands

abbrev pub arm_here : Arm-F Mentions Mentions Mentions → Mentions
arm_here a = a.block

unfoldable pub in_command : Command → Mentions
in_command = fold-Command Mentions Mentions Mentions command_here arm_here block_here

unfoldable pub in_arm : Arm → Mentions
in_arm = fold-Arm Mentions Mentions Mentions command_here arm_here block_here

unfoldable pub in_block : Block → Mentions
in_block = fold-Block Mentions Mentions Mentions command_here arm_here block_here
