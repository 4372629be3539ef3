-- What each construct names.
use Rattle.std.specs.Prelude.{◌≡◌, List, [], ◌∷◌, ◌++◌, length, map, Option, option_map}
use Rattle.gv_termread.specs.declared.token.SeenToken.{SeenToken}
use Rattle.gv_termread.specs.declared.placed.PlacedTerm.{PlacedTerm}
use Rattle.gv_scriptsyntax.specs.declared.tree.Inst.{Inst}
use Rattle.gv_scriptsyntax.specs.declared.tree.Atom.{Atom}
use Rattle.gv_scriptsyntax.specs.declared.tree.Cert.{Cert}
use Rattle.gv_scriptsyntax.specs.declared.tree.Filling.{Filling}
use Rattle.gv_scriptsyntax.specs.declared.tree.Block.{Block}
use Rattle.gv_scriptsyntax.specs.declared.tree.Arm.{Arm}
use Rattle.gv_scriptsyntax.specs.declared.tree.Command.{Command}
use Rattle.gv_scriptsyntax.specs.declared.tree.Atom.TheVariants as atom
use Rattle.gv_scriptsyntax.specs.declared.tree.Command.TheVariants as command
use Rattle.gv_scriptnames.specs.declared.mention.Mention.TheVariants as mention
use Rattle.gv_scriptnames.specs.Mentions.{of_inst, joined, in_some, in_atom, in_atoms, in_command, in_arm, in_block}

pub record AreNamed : Type 0 where
  -- atoms
  pub one_atom : (w : SeenToken) (a : PlacedTerm) → in_atom (atom.One w a) ≡ []
  pub two_atom : (w : SeenToken) (a : PlacedTerm) (b : PlacedTerm) → in_atom (atom.Two w a b) ≡ []
  pub three_atom : (w : SeenToken) (a : PlacedTerm) (b : PlacedTerm) (d : PlacedTerm) → in_atom (atom.Three w a b d) ≡ []
  pub cell_atom : (w : SeenToken) (p : PlacedTerm) (name : SeenToken) (v : PlacedTerm) → in_atom (atom.Cell w p name v) ≡ mention.Cell name ∷ []
  pub field_atom : (w : SeenToken) (name : SeenToken) (v : PlacedTerm) → in_atom (atom.Field w name v) ≡ mention.Field name ∷ []
  pub book_atom : (w : SeenToken) (name : SeenToken) (i : PlacedTerm) (v : PlacedTerm) → in_atom (atom.Book w name i v) ≡ mention.Book name ∷ []
  pub lock_atom : (w : SeenToken) (m : PlacedTerm) (p : Inst) → in_atom (atom.Lock w m p) ≡ of_inst p ∷ []
  pub token_atom : (w : SeenToken) (c : PlacedTerm) (name : SeenToken) (ts : List PlacedTerm) → in_atom (atom.Token w c name ts) ≡ mention.Op w name (length ts) ∷ []
  pub done_atom : (w : SeenToken) (c : PlacedTerm) (r : Option PlacedTerm) → in_atom (atom.Done w c r) ≡ []
  pub each_atom : (w : SeenToken) (name : SeenToken) (low : PlacedTerm) (high : PlacedTerm) (except : List PlacedTerm) (body : Atom) → in_atom (atom.Each w name low high except body) ≡ in_atom body ++ mention.Bound name ∷ []
  pub instance_atom : (p : Inst) → in_atom (atom.Instance p) ≡ of_inst p ∷ []
  -- commands
  pub fold_command : (w : SeenToken) (p : Inst) (number : SeenToken) (terms : Filling) → in_command (command.Fold w p number terms) ≡ of_inst p ∷ []
  pub unfold_command : (w : SeenToken) (p : Inst) (names : List SeenToken) → in_command (command.Unfold w p names) ≡ of_inst p ∷ []
  pub unfold_arms_command : (w : SeenToken) (p : Inst) (arms : List Arm) → in_command (command.UnfoldArms w p arms) ≡ of_inst p ∷ joined (map in_arm arms)
  pub on_atom_command : (w : SeenToken) (a : Atom) → in_command (command.OnAtom w a) ≡ in_atom a
  pub have_command : (w : SeenToken) (t : PlacedTerm) (proof : Cert) → in_command (command.Have w t proof) ≡ []
  pub let_command : (w : SeenToken) (name : SeenToken) (t : PlacedTerm) → in_command (command.Let w name t) ≡ []
  pub rewrite_command : (w : SeenToken) (old : PlacedTerm) (new : PlacedTerm) → in_command (command.Rewrite w old new) ≡ []
  pub absurd_command : (w : SeenToken) (proof : Cert) → in_command (command.Absurd w proof) ≡ []
  pub clash_command : (w : SeenToken) (atoms : List Atom) → in_command (command.Clash w atoms) ≡ in_atoms atoms
  pub cases_command : (w : SeenToken) (t : PlacedTerm) (first : Block) (second : Block) → in_command (command.Cases w t first second) ≡ in_block first ++ in_block second
  pub on_pair_command : (w : SeenToken) (a : Atom) (b : Atom) → in_command (command.OnPair w a b) ≡ in_atom a ++ in_atom b
  pub halves_new_command : (w : SeenToken) (v : PlacedTerm) (name : SeenToken) → in_command (command.HalvesNew w v name) ≡ []
  pub halves_set_command : (w : SeenToken) (g : PlacedTerm) (v : PlacedTerm) → in_command (command.HalvesSet w g v) ≡ []
  pub at_command : (w : SeenToken) (a : Atom) (t : PlacedTerm) → in_command (command.At w a t) ≡ in_atom a
  pub at_hole_command : (w : SeenToken) (hole : SeenToken) (t : PlacedTerm) → in_command (command.AtHole w hole t) ≡ []
  pub map_command : (w : SeenToken) (old : List Atom) (new : List Atom) (name : SeenToken) (block : Block) → in_command (command.Map w old new name block) ≡ in_atoms old ++ (in_atoms new ++ in_block block)
  pub alone_command : (w : SeenToken) → in_command (command.Alone w) ≡ []
  pub sim_command : (w : SeenToken) (c : PlacedTerm) (choices : List PlacedTerm) → in_command (command.Sim w c choices) ≡ []
  pub on_block_command : (w : SeenToken) (block : Block) → in_command (command.OnBlock w block) ≡ in_block block
  pub boot_command : (w : SeenToken) (choices : List PlacedTerm) → in_command (command.Boot w choices) ≡ []
  pub guard_command : (w : SeenToken) (m : PlacedTerm) (p : Inst) → in_command (command.Guard w m p) ≡ of_inst p ∷ []
  pub set_book_command : (w : SeenToken) (name : SeenToken) (i : PlacedTerm) (v : PlacedTerm) → in_command (command.SetBook w name i v) ≡ mention.Book name ∷ []
  pub forget_command : (w : SeenToken) (d : PlacedTerm) (a : PlacedTerm) (v : PlacedTerm) → in_command (command.Forget w d a v) ≡ []
  pub step_command : (w : SeenToken) (given : List PlacedTerm) (names : List SeenToken) (during : Option Block) (blocks : List Block) → in_command (command.Step w given names during blocks) ≡ in_some (option_map in_block during) ++ joined (map in_block blocks)
  pub to_command : (w : SeenToken) (name : SeenToken) (terms : List PlacedTerm) → in_command (command.To w name terms) ≡ mention.Cut name ∷ []
  pub merge_command : (w : SeenToken) (a : Atom) (b : Atom) (t : PlacedTerm) → in_command (command.Merge w a b t) ≡ in_atom a ++ in_atom b
  pub void_command : (w : SeenToken) (item : SeenToken) → in_command (command.Void w item) ≡ []
  pub yield_command : (w : SeenToken) (a : Atom) (b : Atom) (s : PlacedTerm) (low : PlacedTerm) (high : PlacedTerm) → in_command (command.Yield w a b s low high) ≡ in_atom a ++ in_atom b
  -- blocks and arms
  pub a_block : (start end : SeenToken) (commands : List Command) → in_block (record { start = start; commands = commands; end = end }) ≡ joined (map in_command commands)
  pub an_arm : (names : List SeenToken) (block : Block) → in_arm (record { names = names; block = block }) ≡ in_block block
