-- Which numbers each construct takes, computed.
use Rattle.std.proofs.Common.{◌≡◌, List, [], ◌∷◌, ◌++◌, Option, rules}
use Rattle.std.specs.Prelude.{map, option_map}
use Rattle.gv_termread.specs.declared.token.SeenToken.{SeenToken}
use Rattle.gv_termread.specs.declared.placed.PlacedTerm.{PlacedTerm}
use Rattle.gv_scriptsyntax.specs.declared.tree.Inst.{Inst}
use Rattle.gv_scriptsyntax.specs.declared.tree.Atom.{Atom}
use Rattle.gv_scriptsyntax.specs.declared.tree.Cert.{Cert}
use Rattle.gv_scriptsyntax.specs.declared.tree.Filling.{Filling}
use Rattle.gv_scriptsyntax.specs.declared.tree.Block.{Block}
use Rattle.gv_scriptsyntax.specs.declared.tree.Arm.{Arm}
use Rattle.gv_scriptsyntax.specs.declared.tree.Command.{Command}
use Rattle.gv_scriptsyntax.specs.declared.tree.Command.TheVariants as command
use Rattle.gv_scriptnumbers.specs.Numbers.{joined, in_some, of_command, of_arm, of_block}
use Rattle.gv_scriptsyntax.specs.declared.tree.Command as declared_command
use Rattle.gv_scriptsyntax.specs.declared.tree.Block as declared_block
use Rattle.gv_scriptsyntax.specs.declared.tree.Arm as declared_arm
use Rattle.gv_scriptnumbers.specs.Constructs.{AreNumbered}

pub fold_command : (w : SeenToken) (p : Inst) (number : SeenToken) (terms : Filling) → of_command (command.Fold w p number terms) ≡ w.start ∷ []
unfolding of_command
fold_command w p number terms = search (rules, declared_command.the_lemmas)

pub unfold_command : (w : SeenToken) (p : Inst) (names : List SeenToken) → of_command (command.Unfold w p names) ≡ w.start ∷ []
unfolding of_command
unfold_command w p names = search (rules, declared_command.the_lemmas)

pub unfold_arms_command : (w : SeenToken) (p : Inst) (arms : List Arm) → of_command (command.UnfoldArms w p arms) ≡ w.start ∷ joined (map of_arm arms)
unfolding of_command of_arm
unfold_arms_command w p arms = search (rules, declared_command.the_lemmas)

pub on_atom_command : (w : SeenToken) (a : Atom) → of_command (command.OnAtom w a) ≡ w.start ∷ []
unfolding of_command
on_atom_command w a = search (rules, declared_command.the_lemmas)

pub have_command : (w : SeenToken) (t : PlacedTerm) (proof : Cert) → of_command (command.Have w t proof) ≡ w.start ∷ []
unfolding of_command
have_command w t proof = search (rules, declared_command.the_lemmas)

pub let_command : (w : SeenToken) (name : SeenToken) (t : PlacedTerm) → of_command (command.Let w name t) ≡ w.start ∷ []
unfolding of_command
let_command w name t = search (rules, declared_command.the_lemmas)

pub rewrite_command : (w : SeenToken) (old : PlacedTerm) (new : PlacedTerm) → of_command (command.Rewrite w old new) ≡ w.start ∷ []
unfolding of_command
rewrite_command w old new = search (rules, declared_command.the_lemmas)

pub absurd_command : (w : SeenToken) (proof : Cert) → of_command (command.Absurd w proof) ≡ w.start ∷ []
unfolding of_command
absurd_command w proof = search (rules, declared_command.the_lemmas)

pub clash_command : (w : SeenToken) (atoms : List Atom) → of_command (command.Clash w atoms) ≡ w.start ∷ []
unfolding of_command
clash_command w atoms = search (rules, declared_command.the_lemmas)

pub cases_command : (w : SeenToken) (t : PlacedTerm) (first : Block) (second : Block) → of_command (command.Cases w t first second) ≡ w.start ∷ (of_block first ++ of_block second)
unfolding of_command of_block
cases_command w t first second = search (rules, declared_command.the_lemmas)

pub on_pair_command : (w : SeenToken) (a : Atom) (b : Atom) → of_command (command.OnPair w a b) ≡ w.start ∷ []
unfolding of_command
on_pair_command w a b = search (rules, declared_command.the_lemmas)

pub halves_new_command : (w : SeenToken) (v : PlacedTerm) (name : SeenToken) → of_command (command.HalvesNew w v name) ≡ w.start ∷ []
unfolding of_command
halves_new_command w v name = search (rules, declared_command.the_lemmas)

pub halves_set_command : (w : SeenToken) (g : PlacedTerm) (v : PlacedTerm) → of_command (command.HalvesSet w g v) ≡ w.start ∷ []
unfolding of_command
halves_set_command w g v = search (rules, declared_command.the_lemmas)

pub at_command : (w : SeenToken) (a : Atom) (t : PlacedTerm) → of_command (command.At w a t) ≡ w.start ∷ []
unfolding of_command
at_command w a t = search (rules, declared_command.the_lemmas)

pub at_hole_command : (w : SeenToken) (hole : SeenToken) (t : PlacedTerm) → of_command (command.AtHole w hole t) ≡ w.start ∷ []
unfolding of_command
at_hole_command w hole t = search (rules, declared_command.the_lemmas)

pub map_command : (w : SeenToken) (old : List Atom) (new : List Atom) (name : SeenToken) (block : Block) → of_command (command.Map w old new name block) ≡ w.start ∷ of_block block
unfolding of_command of_block
map_command w old new name block = search (rules, declared_command.the_lemmas)

pub alone_command : (w : SeenToken) → of_command (command.Alone w) ≡ w.start ∷ []
unfolding of_command
alone_command w = search (rules, declared_command.the_lemmas)

pub sim_command : (w : SeenToken) (c : PlacedTerm) (choices : List PlacedTerm) → of_command (command.Sim w c choices) ≡ w.start ∷ []
unfolding of_command
sim_command w c choices = search (rules, declared_command.the_lemmas)

pub on_block_command : (w : SeenToken) (block : Block) → of_command (command.OnBlock w block) ≡ w.start ∷ of_block block
unfolding of_command of_block
on_block_command w block = search (rules, declared_command.the_lemmas)

pub boot_command : (w : SeenToken) (choices : List PlacedTerm) → of_command (command.Boot w choices) ≡ w.start ∷ []
unfolding of_command
boot_command w choices = search (rules, declared_command.the_lemmas)

pub guard_command : (w : SeenToken) (m : PlacedTerm) (p : Inst) → of_command (command.Guard w m p) ≡ w.start ∷ []
unfolding of_command
guard_command w m p = search (rules, declared_command.the_lemmas)

pub set_book_command : (w : SeenToken) (name : SeenToken) (i : PlacedTerm) (v : PlacedTerm) → of_command (command.SetBook w name i v) ≡ w.start ∷ []
unfolding of_command
set_book_command w name i v = search (rules, declared_command.the_lemmas)

pub forget_command : (w : SeenToken) (d : PlacedTerm) (a : PlacedTerm) (v : PlacedTerm) → of_command (command.Forget w d a v) ≡ w.start ∷ []
unfolding of_command
forget_command w d a v = search (rules, declared_command.the_lemmas)

pub step_command : (w : SeenToken) (given : List PlacedTerm) (names : List SeenToken) (during : Option Block) (blocks : List Block) → of_command (command.Step w given names during blocks) ≡ w.start ∷ (in_some (option_map of_block during) ++ joined (map of_block blocks))
unfolding of_command of_block
step_command w given names during blocks = search (rules, declared_command.the_lemmas)

pub to_command : (w : SeenToken) (name : SeenToken) (terms : List PlacedTerm) → of_command (command.To w name terms) ≡ w.start ∷ []
unfolding of_command
to_command w name terms = search (rules, declared_command.the_lemmas)

pub merge_command : (w : SeenToken) (a : Atom) (b : Atom) (t : PlacedTerm) → of_command (command.Merge w a b t) ≡ w.start ∷ []
unfolding of_command
merge_command w a b t = search (rules, declared_command.the_lemmas)

pub void_command : (w : SeenToken) (item : SeenToken) → of_command (command.Void w item) ≡ w.start ∷ []
unfolding of_command
void_command w item = search (rules, declared_command.the_lemmas)

pub yield_command : (w : SeenToken) (a : Atom) (b : Atom) (s : PlacedTerm) (low : PlacedTerm) (high : PlacedTerm) → of_command (command.Yield w a b s low high) ≡ w.start ∷ []
unfolding of_command
yield_command w a b s low high = search (rules, declared_command.the_lemmas)

pub a_block : (start end : SeenToken) (commands : List Command) → of_block (record { start = start; commands = commands; end = end }) ≡ joined (map of_command commands) ++ end.start ∷ []
unfolding of_block of_command
a_block start end commands = search (rules, declared_block.the_lemmas)

pub an_arm : (names : List SeenToken) (block : Block) → of_arm (record { names = names; block = block }) ≡ of_block block
unfolding of_arm of_block
an_arm names block = search (rules, declared_arm.the_lemmas)

pub all_numbered : AreNumbered
all_numbered = record {
  fold_command = fold_command;
  unfold_command = unfold_command;
  unfold_arms_command = unfold_arms_command;
  on_atom_command = on_atom_command;
  have_command = have_command;
  let_command = let_command;
  rewrite_command = rewrite_command;
  absurd_command = absurd_command;
  clash_command = clash_command;
  cases_command = cases_command;
  on_pair_command = on_pair_command;
  halves_new_command = halves_new_command;
  halves_set_command = halves_set_command;
  at_command = at_command;
  at_hole_command = at_hole_command;
  map_command = map_command;
  alone_command = alone_command;
  sim_command = sim_command;
  on_block_command = on_block_command;
  boot_command = boot_command;
  guard_command = guard_command;
  set_book_command = set_book_command;
  forget_command = forget_command;
  step_command = step_command;
  to_command = to_command;
  merge_command = merge_command;
  void_command = void_command;
  yield_command = yield_command;
  a_block = a_block;
  an_arm = an_arm;
}
