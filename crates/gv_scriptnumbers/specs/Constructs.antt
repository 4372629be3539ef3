-- Which numbers each construct takes: a command one of its own, before those of its blocks, and a block one at its end.
use Rattle.std.specs.Prelude.{◌≡◌, List, [], ◌∷◌, ◌++◌, map, Option, option_map}
use Rattle.gv_termread.specs.declared.token.SeenToken.{SeenToken}
use Rattle.gv_termread.specs.declared.placed.PlacedTerm.{PlacedTerm}
use Rattle.gv_scriptsyntax.specs.declared.tree.Inst.{Inst}
use Rattle.gv_scriptsyntax.specs.declared.tree.Atom.{Atom}
use Rattle.gv_scriptsyntax.specs.declared.tree.Cert.{Cert}
use Rattle.gv_scriptsyntax.specs.declared.tree.Filling.{Filling}
use Rattle.gv_scriptsyntax.specs.declared.tree.Block.{Block}
use Rattle.gv_scriptsyntax.specs.declared.tree.Arm.{Arm}
use Rattle.gv_scriptsyntax.specs.declared.tree.Command.{Command}
use Rattle.gv_scriptsyntax.specs.declared.tree.Command.TheVariants as command
use Rattle.gv_scriptnumbers.specs.Numbers.{joined, in_some, of_command, of_arm, of_block}

pub record AreNumbered : Type 0 where
  -- commands
  pub fold_command : (w : SeenToken) (p : Inst) (number : SeenToken) (terms : Filling) → of_command (command.Fold w p number terms) ≡ w.start ∷ []
  pub unfold_command : (w : SeenToken) (p : Inst) (names : List SeenToken) → of_command (command.Unfold w p names) ≡ w.start ∷ []
  pub unfold_arms_command : (w : SeenToken) (p : Inst) (arms : List Arm) → of_command (command.UnfoldArms w p arms) ≡ w.start ∷ joined (map of_arm arms)
  pub on_atom_command : (w : SeenToken) (a : Atom) → of_command (command.OnAtom w a) ≡ w.start ∷ []
  pub have_command : (w : SeenToken) (t : PlacedTerm) (proof : Cert) → of_command (command.Have w t proof) ≡ w.start ∷ []
  pub let_command : (w : SeenToken) (name : SeenToken) (t : PlacedTerm) → of_command (command.Let w name t) ≡ w.start ∷ []
  pub rewrite_command : (w : SeenToken) (old : PlacedTerm) (new : PlacedTerm) → of_command (command.Rewrite w old new) ≡ w.start ∷ []
  pub absurd_command : (w : SeenToken) (proof : Cert) → of_command (command.Absurd w proof) ≡ w.start ∷ []
  pub clash_command : (w : SeenToken) (atoms : List Atom) → of_command (command.Clash w atoms) ≡ w.start ∷ []
  pub cases_command : (w : SeenToken) (t : PlacedTerm) (first : Block) (second : Block) → of_command (command.Cases w t first second) ≡ w.start ∷ (of_block first ++ of_block second)
  pub on_pair_command : (w : SeenToken) (a : Atom) (b : Atom) → of_command (command.OnPair w a b) ≡ w.start ∷ []
  pub halves_new_command : (w : SeenToken) (v : PlacedTerm) (name : SeenToken) → of_command (command.HalvesNew w v name) ≡ w.start ∷ []
  pub halves_set_command : (w : SeenToken) (g : PlacedTerm) (v : PlacedTerm) → of_command (command.HalvesSet w g v) ≡ w.start ∷ []
  pub at_command : (w : SeenToken) (a : Atom) (t : PlacedTerm) → of_command (command.At w a t) ≡ w.start ∷ []
  pub at_hole_command : (w : SeenToken) (hole : SeenToken) (t : PlacedTerm) → of_command (command.AtHole w hole t) ≡ w.start ∷ []
  pub map_command : (w : SeenToken) (old : List Atom) (new : List Atom) (name : SeenToken) (block : Block) → of_command (command.Map w old new name block) ≡ w.start ∷ of_block block
  pub alone_command : (w : SeenToken) → of_command (command.Alone w) ≡ w.start ∷ []
  pub sim_command : (w : SeenToken) (c : PlacedTerm) (choices : List PlacedTerm) → of_command (command.Sim w c choices) ≡ w.start ∷ []
  pub on_block_command : (w : SeenToken) (block : Block) → of_command (command.OnBlock w block) ≡ w.start ∷ of_block block
  pub boot_command : (w : SeenToken) (choices : List PlacedTerm) → of_command (command.Boot w choices) ≡ w.start ∷ []
  pub guard_command : (w : SeenToken) (m : PlacedTerm) (p : Inst) → of_command (command.Guard w m p) ≡ w.start ∷ []
  pub set_book_command : (w : SeenToken) (name : SeenToken) (i : PlacedTerm) (v : PlacedTerm) → of_command (command.SetBook w name i v) ≡ w.start ∷ []
  pub forget_command : (w : SeenToken) (d : PlacedTerm) (a : PlacedTerm) (v : PlacedTerm) → of_command (command.Forget w d a v) ≡ w.start ∷ []
  pub step_command : (w : SeenToken) (given : List PlacedTerm) (names : List SeenToken) (during : Option Block) (blocks : List Block) → of_command (command.Step w given names during blocks) ≡ w.start ∷ (in_some (option_map of_block during) ++ joined (map of_block blocks))
  pub to_command : (w : SeenToken) (name : SeenToken) (terms : List PlacedTerm) → of_command (command.To w name terms) ≡ w.start ∷ []
  pub merge_command : (w : SeenToken) (a : Atom) (b : Atom) (t : PlacedTerm) → of_command (command.Merge w a b t) ≡ w.start ∷ []
  pub void_command : (w : SeenToken) (item : SeenToken) → of_command (command.Void w item) ≡ w.start ∷ []
  pub yield_command : (w : SeenToken) (a : Atom) (b : Atom) (s : PlacedTerm) (low : PlacedTerm) (high : PlacedTerm) → of_command (command.Yield w a b s low high) ≡ w.start ∷ []
  -- blocks and arms
  pub a_block : (start end : SeenToken) (commands : List Command) → of_block (record { start = start; commands = commands; end = end }) ≡ joined (map of_command commands) ++ end.start ∷ []
  pub an_arm : (names : List SeenToken) (block : Block) → of_arm (record { names = names; block = block }) ≡ of_block block
