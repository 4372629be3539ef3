-- Commands in the order of the text, numbered from 1: `crash` and `root`, and those of all blocks. A block's closing brace is its last
-- command, and so is an arm's. What is given here of each is the byte at which it begins.
use Rattle.std.specs.Prelude.{ℕ, List, [], ◌∷◌, ◌++◌, length, map, Option, Some, None}
use Rattle.gv_base.specs.Places.{place_at}
use Rattle.gv_base.specs.declared.answers.Place.{Place}
use Rattle.gv_scriptsyntax.specs.declared.tree.Block.{Block, fold-Block}
use Rattle.gv_scriptsyntax.specs.declared.tree.Arm.{Arm, fold-Arm}
use Rattle.gv_scriptsyntax.specs.declared.tree.Command.{Command, fold-Command}
use Rattle.gv_scriptsyntax.specs.declared.tree.Command.TheOpen as open_command
use Rattle.gv_scriptsyntax.specs.declared.tree.Command.TheOpen.{Command-F, Block-F, Arm-F}
use Rattle.gv_scriptsyntax.specs.declared.tree.Cut.{Cut}
use Rattle.gv_scriptsyntax.specs.declared.tree.Op.{Op}
use Rattle.gv_scriptsyntax.specs.declared.tree.Proc.{Proc}
use Rattle.gv_scriptsyntax.specs.declared.tree.Script.{Script}

abbrev pub Starts : Type 0
Starts = List ℕ

-- those of all, one after another
abbrev pub joined : List Starts → Starts
joined [] = []
joined (ss ∷ sss) = ss ++ joined sss

abbrev pub by_each : {T : Type 0} → (T → Starts) → List T → Starts
by_each of [] = []
by_each of (x ∷ xs) = of x ++ by_each of xs

abbrev pub in_some : Option Starts → Starts
in_some None = []
in_some (Some ss) = ss

-- one level of a command, over those of its blocks and arms
abbrev pub command_here : Command-F Starts Starts Starts → Starts
command_here (open_command.Fold w p number terms) = w.start ∷ []
command_here (open_command.Unfold w p names) = w.start ∷ []
command_here (open_command.UnfoldArms w p arms) = w.start ∷ joined arms
command_here (open_command.OnAtom w a) = w.start ∷ []
command_here (open_command.Have w t proof) = w.start ∷ []
command_here (open_command.Let w name t) = w.start ∷ []
command_here (open_command.Rewrite w old new) = w.start ∷ []
command_here (open_command.Absurd w proof) = w.start ∷ []
command_here (open_command.Clash w atoms) = w.start ∷ []
command_here (open_command.Cases w t first second) = w.start ∷ (first ++ second)
command_here (open_command.OnPair w a b) = w.start ∷ []
command_here (open_command.HalvesNew w v name) = w.start ∷ []
command_here (open_command.HalvesSet w g v) = w.start ∷ []
command_here (open_command.At w a t) = w.start ∷ []
command_here (open_command.AtHole w hole t) = w.start ∷ []
command_here (open_command.Map w old new name block) = w.start ∷ block
command_here (open_command.Alone w) = w.start ∷ []
command_here (open_command.Sim w c choices) = w.start ∷ []
command_here (open_command.OnBlock w block) = w.start ∷ block
command_here (open_command.Boot w choices) = w.start ∷ []
command_here (open_command.Guard w m p) = w.start ∷ []
command_here (open_command.SetBook w name i v) = w.start ∷ []
command_here (open_command.Forget w d a v) = w.start ∷ []
command_here (open_command.Step w given names during blocks) = w.start ∷ (in_some during ++ joined blocks)
command_here (open_command.To w name terms) = w.start ∷ []
command_here (open_command.Merge w a b t) = w.start ∷ []
command_here (open_command.Void w item) = w.start ∷ []
command_here (open_command.Yield w a b s low high) = w.start ∷ []

abbrev pub block_here : Block-F Starts Starts Starts → Starts
block_here b = joined b.commands ++ b.end.start ∷ []

abbrev pub arm_here : Arm-F Starts Starts Starts → Starts
arm_here a = a.block

unfoldable pub of_command : Command → Starts
of_command = fold-Command Starts Starts Starts command_here arm_here block_here

unfoldable pub of_arm : Arm → Starts
of_arm = fold-Arm Starts Starts Starts command_here arm_here block_here

unfoldable pub of_block : Block → Starts
of_block = fold-Block Starts Starts Starts command_here arm_here block_here

-- ---- whole scripts

abbrev pub of_cut : Cut → Starts
of_cut c = of_block c.block

abbrev pub of_op : Op → Starts
of_op o = of_block o.block ++ by_each of_cut o.cuts

abbrev pub of_proc : Proc → Starts
of_proc r = of_block r.block ++ by_each of_cut r.cuts

abbrev pub numbered : Script → Starts
numbered s =
    s.crash_word.start ∷ s.root_word.start
    ∷ (of_block s.init ++ (of_block s.recover ++ (by_each of_cut s.cuts ++ (by_each of_op s.ops ++ by_each of_proc s.procs))))

-- the place of each number from 1, and last the place behind the text
abbrev pub places_of : List ℕ → Script → List Place
places_of text s = map (place_at text) (numbered s ++ length text ∷ [])
