-- What each construct names, computed.
use Rattle.std.proofs.Common.{◌≡◌, List, [], ◌∷◌, ◌++◌, length, Option, rules}
use Rattle.std.specs.Prelude.{map, option_map}
use Rattle.gv_termread.specs.declared.token.SeenToken.{SeenToken}
use Rattle.gv_termread.specs.declared.placed.PlacedTerm.{PlacedTerm}
use Rattle.gv_scriptsyntax.specs.declared.tree.Inst.{Inst}
use Rattle.gv_scriptsyntax.specs.declared.tree.Atom.{Atom}
use Rattle.gv_scriptsyntax.specs.declared.tree.Cert.{Cert}
use Rattle.gv_scriptsyntax.specs.declared.tree.Filling.{Filling}
use Rattle.gv_scriptsyntax.specs.declared.tree.Block.{Block}
use Rattle.gv_scriptsyntax.specs.declared.tree.Arm.{Arm}
use Rattle.gv_scriptsyntax.specs.declared.tree.Command.{Command}
use Rattle.gv_scriptsyntax.specs.declared.tree.Atom.TheVariants as atom
use Rattle.gv_scriptsyntax.specs.declared.tree.Command.TheVariants as command
use Rattle.gv_scriptnames.specs.declared.mention.Mention.TheVariants as mention
use Rattle.gv_scriptsyntax.specs.declared.tree.Atom as declared_atom
use Rattle.gv_scriptsyntax.specs.declared.tree.Command as declared_command
use Rattle.gv_scriptsyntax.specs.declared.tree.Block as declared_block
use Rattle.gv_scriptsyntax.specs.declared.tree.Arm as declared_arm
use Rattle.gv_scriptnames.specs.Mentions.{of_inst, joined, in_some, in_atom, in_atoms, in_command, in_arm, in_block}
use Rattle.gv_scriptnames.specs.Constructs.{AreNamed}

pub one_atom : (w : SeenToken) (a : PlacedTerm) → in_atom (atom.One w a) ≡ []
unfolding in_atom
one_atom w a = search (rules, declared_atom.the_lemmas)

pub two_atom : (w : SeenToken) (a : PlacedTerm) (b : PlacedTerm) → in_atom (atom.Two w a b) ≡ []
unfolding in_atom
two_atom w a b = search (rules, declared_atom.the_lemmas)

pub three_atom : (w : SeenToken) (a : PlacedTerm) (b : PlacedTerm) (d : PlacedTerm) → in_atom (atom.Three w a b d) ≡ []
unfolding in_atom
three_atom w a b d = search (rules, declared_atom.the_lemmas)

pub cell_atom : (w : SeenToken) (p : PlacedTerm) (name : SeenToken) (v : PlacedTerm) → in_atom (atom.Cell w p name v) ≡ mention.Cell name ∷ []
unfolding in_atom
cell_atom w p name v = search (rules, declared_atom.the_lemmas)

pub field_atom : (w : SeenToken) (name : SeenToken) (v : PlacedTerm) → in_atom (atom.Field w name v) ≡ mention.Field name ∷ []
unfolding in_atom
field_atom w name v = search (rules, declared_atom.the_lemmas)

pub book_atom : (w : SeenToken) (name : SeenToken) (i : PlacedTerm) (v : PlacedTerm) → in_atom (atom.Book w name i v) ≡ mention.Book name ∷ []
unfolding in_atom
book_atom w name i v = search (rules, declared_atom.the_lemmas)

pub lock_atom : (w : SeenToken) (m : PlacedTerm) (p : Inst) → in_atom (atom.Lock w m p) ≡ of_inst p ∷ []
unfolding in_atom
lock_atom w m p = search (rules, declared_atom.the_lemmas)

pub token_atom : (w : SeenToken) (c : PlacedTerm) (name : SeenToken) (ts : List PlacedTerm) → in_atom (atom.Token w c name ts) ≡ mention.Op w name (length ts) ∷ []
unfolding in_atom
token_atom w c name ts = search (rules, declared_atom.the_lemmas)

pub done_atom : (w : SeenToken) (c : PlacedTerm) (r : Option PlacedTerm) → in_atom (atom.Done w c r) ≡ []
unfolding in_atom
done_atom w c r = search (rules, declared_atom.the_lemmas)

pub each_atom : (w : SeenToken) (name : SeenToken) (low : PlacedTerm) (high : PlacedTerm) (except : List PlacedTerm) (body : Atom) → in_atom (atom.Each w name low high except body) ≡ in_atom body ++ mention.Bound name ∷ []
unfolding in_atom
each_atom w name low high except body = search (rules, declared_atom.the_lemmas)

pub instance_atom : (p : Inst) → in_atom (atom.Instance p) ≡ of_inst p ∷ []
unfolding in_atom
instance_atom p = search (rules, declared_atom.the_lemmas)

pub fold_command : (w : SeenToken) (p : Inst) (number : SeenToken) (terms : Filling) → in_command (command.Fold w p number terms) ≡ of_inst p ∷ []
unfolding in_command
fold_command w p number terms = search (rules, declared_command.the_lemmas)

pub unfold_command : (w : SeenToken) (p : Inst) (names : List SeenToken) → in_command (command.Unfold w p names) ≡ of_inst p ∷ []
unfolding in_command
unfold_command w p names = search (rules, declared_command.the_lemmas)

pub unfold_arms_command : (w : SeenToken) (p : Inst) (arms : List Arm) → in_command (command.UnfoldArms w p arms) ≡ of_inst p ∷ joined (map in_arm arms)
unfolding in_command in_arm
unfold_arms_command w p arms = search (rules, declared_command.the_lemmas)

pub on_atom_command : (w : SeenToken) (a : Atom) → in_command (command.OnAtom w a) ≡ in_atom a
unfolding in_command
on_atom_command w a = search (rules, declared_command.the_lemmas)

pub have_command : (w : SeenToken) (t : PlacedTerm) (proof : Cert) → in_command (command.Have w t proof) ≡ []
unfolding in_command
have_command w t proof = search (rules, declared_command.the_lemmas)

pub let_command : (w : SeenToken) (name : SeenToken) (t : PlacedTerm) → in_command (command.Let w name t) ≡ []
unfolding in_command
let_command w name t = search (rules, declared_command.the_lemmas)

pub rewrite_command : (w : SeenToken) (old : PlacedTerm) (new : PlacedTerm) → in_command (command.Rewrite w old new) ≡ []
unfolding in_command
rewrite_command w old new = search (rules, declared_command.the_lemmas)

pub absurd_command : (w : SeenToken) (proof : Cert) → in_command (command.Absurd w proof) ≡ []
unfolding in_command
absurd_command w proof = search (rules, declared_command.the_lemmas)

pub clash_command : (w : SeenToken) (atoms : List Atom) → in_command (command.Clash w atoms) ≡ in_atoms atoms
unfolding in_command
clash_command w atoms = search (rules, declared_command.the_lemmas)

pub cases_command : (w : SeenToken) (t : PlacedTerm) (first : Block) (second : Block) → in_command (command.Cases w t first second) ≡ in_block first ++ in_block second
unfolding in_command in_block
cases_command w t first second = search (rules, declared_command.the_lemmas)

pub on_pair_command : (w : SeenToken) (a : Atom) (b : Atom) → in_command (command.OnPair w a b) ≡ in_atom a ++ in_atom b
unfolding in_command
on_pair_command w a b = search (rules, declared_command.the_lemmas)

pub halves_new_command : (w : SeenToken) (v : PlacedTerm) (name : SeenToken) → in_command (command.HalvesNew w v name) ≡ []
unfolding in_command
halves_new_command w v name = search (rules, declared_command.the_lemmas)

pub halves_set_command : (w : SeenToken) (g : PlacedTerm) (v : PlacedTerm) → in_command (command.HalvesSet w g v) ≡ []
unfolding in_command
halves_set_command w g v = search (rules, declared_command.the_lemmas)

pub at_command : (w : SeenToken) (a : Atom) (t : PlacedTerm) → in_command (command.At w a t) ≡ in_atom a
unfolding in_command
at_command w a t = search (rules, declared_command.the_lemmas)

pub at_hole_command : (w : SeenToken) (hole : SeenToken) (t : PlacedTerm) → in_command (command.AtHole w hole t) ≡ []
unfolding in_command
at_hole_command w hole t = search (rules, declared_command.the_lemmas)

pub map_command : (w : SeenToken) (old : List Atom) (new : List Atom) (name : SeenToken) (block : Block) → in_command (command.Map w old new name block) ≡ in_atoms old ++ (in_atoms new ++ in_block block)
unfolding in_command in_block
map_command w old new name block = search (rules, declared_command.the_lemmas)

pub alone_command : (w : SeenToken) → in_command (command.Alone w) ≡ []
unfolding in_command
alone_command w = search (rules, declared_command.the_lemmas)

pub sim_command : (w : SeenToken) (c : PlacedTerm) (choices : List PlacedTerm) → in_command (command.Sim w c choices) ≡ []
unfolding in_command
sim_command w c choices = search (rules, declared_command.the_lemmas)

pub on_block_command : (w : SeenToken) (block : Block) → in_command (command.OnBlock w block) ≡ in_block block
unfolding in_command in_block
on_block_command w block = search (rules, declared_command.the_lemmas)

pub boot_command : (w : SeenToken) (choices : List PlacedTerm) → in_command (command.Boot w choices) ≡ []
unfolding in_command
boot_command w choices = search (rules, declared_command.the_lemmas)

pub guard_command : (w : SeenToken) (m : PlacedTerm) (p : Inst) → in_command (command.Guard w m p) ≡ of_inst p ∷ []
unfolding in_command
guard_command w m p = search (rules, declared_command.the_lemmas)

pub set_book_command : (w : SeenToken) (name : SeenToken) (i : PlacedTerm) (v : PlacedTerm) → in_command (command.SetBook w name i v) ≡ mention.Book name ∷ []
unfolding in_command
set_book_command w name i v = search (rules, declared_command.the_lemmas)

pub forget_command : (w : SeenToken) (d : PlacedTerm) (a : PlacedTerm) (v : PlacedTerm) → in_command (command.Forget w d a v) ≡ []
unfolding in_command
forget_command w d a v = search (rules, declared_command.the_lemmas)

pub step_command : (w : SeenToken) (given : List PlacedTerm) (names : List SeenToken) (during : Option Block) (blocks : List Block) → in_command (command.Step w given names during blocks) ≡ in_some (option_map in_block during) ++ joined (map in_block blocks)
unfolding in_command in_block
step_command w given names during blocks = search (rules, declared_command.the_lemmas)

pub to_command : (w : SeenToken) (name : SeenToken) (terms : List PlacedTerm) → in_command (command.To w name terms) ≡ mention.Cut name ∷ []
unfolding in_command
to_command w name terms = search (rules, declared_command.the_lemmas)

pub merge_command : (w : SeenToken) (a : Atom) (b : Atom) (t : PlacedTerm) → in_command (command.Merge w a b t) ≡ in_atom a ++ in_atom b
unfolding in_command
merge_command w a b t = search (rules, declared_command.the_lemmas)

pub void_command : (w : SeenToken) (item : SeenToken) → in_command (command.Void w item) ≡ []
unfolding in_command
void_command w item = search (rules, declared_command.the_lemmas)

pub yield_command : (w : SeenToken) (a : Atom) (b : Atom) (s : PlacedTerm) (low : PlacedTerm) (high : PlacedTerm) → in_command (command.Yield w a b s low high) ≡ in_atom a ++ in_atom b
unfolding in_command
yield_command w a b s low high = search (rules, declared_command.the_lemmas)

pub a_block : (start end : SeenToken) (commands : List Command) → in_block (record { start = start; commands = commands; end = end }) ≡ joined (map in_command commands)
unfolding in_block in_command
a_block start end commands = search (rules, declared_block.the_lemmas)

pub an_arm : (names : List SeenToken) (block : Block) → in_arm (record { names = names; block = block }) ≡ in_block block
unfolding in_arm in_block
an_arm names block = search (rules, declared_arm.the_lemmas)

pub all_named : AreNamed
all_named = record {
  one_atom = one_atom;
  two_atom = two_atom;
  three_atom = three_atom;
  cell_atom = cell_atom;
  field_atom = field_atom;
  book_atom = book_atom;
  lock_atom = lock_atom;
  token_atom = token_atom;
  done_atom = done_atom;
  each_atom = each_atom;
  instance_atom = instance_atom;
  fold_command = fold_command;
  unfold_command = unfold_command;
  unfold_arms_command = unfold_arms_command;
  on_atom_command = on_atom_command;
  have_command = have_command;
  let_command = let_command;
  rewrite_command = rewrite_command;
  absurd_command = absurd_command;
  clash_command = clash_command;
  cases_command = cases_command;
  on_pair_command = on_pair_command;
  halves_new_command = halves_new_command;
  halves_set_command = halves_set_command;
  at_command = at_command;
  at_hole_command = at_hole_command;
  map_command = map_command;
  alone_command = alone_command;
  sim_command = sim_command;
  on_block_command = on_block_command;
  boot_command = boot_command;
  guard_command = guard_command;
  set_book_command = set_book_command;
  forget_command = forget_command;
  step_command = step_command;
  to_command = to_command;
  merge_command = merge_command;
  void_command = void_command;
  yield_command = yield_command;
  a_block = a_block;
  an_arm = an_arm;
}
